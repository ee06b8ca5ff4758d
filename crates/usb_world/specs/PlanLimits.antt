-- How long a plan is at most.
use Rattle.std.specs.Prelude.{ℕ}

abbrev pub attempt_most : ℕ
attempt_most = 100000000000000

abbrev pub event_most : ℕ
event_most = 10000

abbrev pub damage_most : ℕ
damage_most = 10000

-- attempts between two events
abbrev pub after_most : ℕ
after_most = 1000000000
