-- The plan as far as the places of its events and damages are known.
use Rattle.std.specs.Prelude.{ℕ, List, [], ◌∷◌, ◌+◌, ◌==◌, Bool, false, nat_lt, take}
use Rattle.std.specs.Prelude.{Option, None, Some, if◌then◌else◌}
use Rattle.usb_world.specs.{Event, Damage, PlanData, damage_most}
use Rattle.usb_places.specs.declared.sought.Sought.{Sought}
use Rattle.usb_places.specs.declared.sought.Whose.{Whose}
use Rattle.usb_places.specs.declared.sought.Whose.TheVariants as whose

abbrev pub is_event : Whose → ℕ → Bool
is_event (whose.Event before) n = before == n
is_event (whose.Damage d) n = false

-- how many attempts the event behind so many others comes after the one before, if that is known;
-- its own number without a place
unfoldable pub after_of : List Sought → ℕ → ℕ → Option ℕ
after_of [] before own = Some own
after_of (s ∷ sought) before own =
    if is_event s.whose before then s.found else after_of sought before own

-- the first event, this many attempts after the one before
abbrev pub first_after : List Event → ℕ → Option Event
first_after [] n = None
first_after (e ∷ events) n = Some (record e { after = n })

-- the events up to the first one whose place is not known
unfoldable pub events_known : List Sought → ℕ → List Event → List Event
events_known sought before [] = []
events_known sought before (e ∷ events) = elim (after_of sought before e.after) [
  | None ↦ []
  | Some n ↦ record e { after = n } ∷ events_known sought (before + 1) events
]

-- a damage to the attempt that was found
abbrev pub to_attempt : Whose → Option ℕ → Option Damage
to_attempt (whose.Damage d) (Some n) = Some (record d { attempt = n })
to_attempt (whose.Damage d) None = None
to_attempt (whose.Event before) found = None

abbrev pub damage_found : Sought → Option Damage
damage_found s = to_attempt s.whose s.found

-- one more by its attempt; an attempt has the damage that is there first
unfoldable pub inserted : Damage → List Damage → List Damage
inserted d [] = d ∷ []
inserted d (x ∷ damages) =
    if nat_lt d.attempt x.attempt then d ∷ x ∷ damages
    else if nat_lt x.attempt d.attempt then x ∷ inserted d damages
    else x ∷ damages

-- how many are to earlier attempts
unfoldable pub spot : ℕ → List Damage → ℕ
spot attempt [] = 0
spot attempt (x ∷ damages) = if nat_lt x.attempt attempt then 1 + spot attempt damages else 0

abbrev pub is_to : ℕ → Option Damage → Bool
is_to attempt None = false
is_to attempt (Some d) = d.attempt == attempt

abbrev pub inserted_some : Option Damage → List Damage → List Damage
inserted_some None damages = damages
inserted_some (Some d) damages = inserted d damages

-- these damages and those whose attempts are found
unfoldable pub damages_known : List Damage → List Sought → List Damage
damages_known damages [] = damages
damages_known damages (s ∷ sought) = damages_known (inserted_some (damage_found s) damages) sought

-- the plan as far as it is known; a plan has at most 10,000 damages
unfoldable pub plan_known : PlanData → List Sought → PlanData
plan_known p sought = record p {
  events = events_known sought 0 p.events;
  damages = take damage_most (damages_known p.damages sought);
}
