-- What the host got in an attempt, where the bytes of data are in a room beside it.
use Rattle.std.specs.Prelude.{ℕ, Result, Ok, Err}
use Rattle.arrayvec.specs.ArrayVec.{ArrayVec}
use Rattle.usb_world.specs.{BusFault, Outcome}
use Rattle.usb_world.specs.declared.types.Outcome.TheVariants as outcome
use Rattle.usb_bus.specs.declared.outcome_kind.OutcomeKind.{OutcomeKind}
use Rattle.usb_bus.specs.declared.outcome_kind.OutcomeKind.TheVariants.{Payload, Ack, Nak, Stall}
use Rattle.usb_bus.specs.declared.outcome_kind.OutcomeKind.TheVariants.{Nothing}

-- the outcome of a kind, with the bytes of the room
abbrev pub outcome_with : OutcomeKind → ArrayVec ℕ → Outcome
outcome_with (Payload toggle) bytes = outcome.Payload toggle bytes
outcome_with Ack bytes = outcome.Ack
outcome_with Nak bytes = outcome.Nak
outcome_with Stall bytes = outcome.Stall
outcome_with Nothing bytes = outcome.Nothing

-- the same of an attempt that the bus may have given up
abbrev pub result_with : Result OutcomeKind BusFault → ArrayVec ℕ → Result Outcome BusFault
result_with (Ok kind) bytes = Ok (outcome_with kind bytes)
result_with (Err fault) bytes = Err fault
