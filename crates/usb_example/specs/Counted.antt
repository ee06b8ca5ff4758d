-- What is counted of attempts.
use Rattle.std.specs.Prelude.{ℕ, ◌+◌, ◌-◌, ◌^◌, min, Result, Ok, Err}
use Rattle.usb_world.specs.{BusFault, Outcome}
use Rattle.usb_world.specs.declared.types.Outcome.TheVariants.{Payload, Ack, Nak, Stall, Nothing}
use Rattle.usb_example.specs.declared.counted.Counts.{Counts}

-- before any attempt
abbrev pub no_counts : Counts
no_counts = record { attempts = 0; naks = 0; unanswered = 0 }

-- one more, up to the greatest u64
abbrev pub count_with : ℕ → ℕ
count_with n = min (n + 1) (2 ^ 64 - 1)

abbrev pub counts_with : Counts → Outcome → Counts
counts_with c Nak = record c { attempts = count_with c.attempts; naks = count_with c.naks }
counts_with c Nothing = record c {
  attempts = count_with c.attempts;
  unanswered =
      count_with c.unanswered;
}
counts_with c (Payload toggle bytes) = record c { attempts = count_with c.attempts }
counts_with c Ack = record c { attempts = count_with c.attempts }
counts_with c Stall = record c { attempts = count_with c.attempts }

-- behind an attempt: with its answer, where it was made
abbrev pub counts_behind : Counts → Result Outcome BusFault → Counts
counts_behind c (Ok outcome) = counts_with c outcome
counts_behind c (Err fault) = c
