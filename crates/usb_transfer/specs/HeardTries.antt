-- What a transaction makes of an outcome that it has heard.
use Rattle.std.specs.Prelude.{◌≡◌, ℕ, ◌<◌, List, Option, Some, None, Result, Ok, Err}
use Rattle.arrayvec.specs.ArrayVec.{ArrayVec}
use Rattle.usb_world.specs.{Attempt, Outcome, World, IsSettled}
use Rattle.usb_bus.specs.{Attempts}
use Rattle.usb_transfer.specs.declared.heard_outcome.HeardOutcome.{HeardOutcome}
use Rattle.usb_transfer.specs.declared.heard_outcome.HeardOutcome.TheVariants.{Moved, Refused}
use Rattle.usb_transfer.specs.declared.trans_fault.TransFault.{TransFault}
use Rattle.usb_transfer.specs.declared.trans_fault.TransFault.TheVariants.{Stalled, Busy, NoAnswer}
use Rattle.usb_transfer.specs.declared.trans_fault.TransFault.TheVariants.{Bus}
use Rattle.usb_transfer.specs.declared.tries.Tries.{Tries}
use Rattle.usb_transfer.specs.declared.tries.Turn.{Turn}
use Rattle.usb_transfer.specs.declared.tries.Turn.TheVariants as turn
use Rattle.usb_transfer.specs.AttemptLogs.{IsNoEnd, errors_with, waits_with}
use Rattle.usb_transfer.specs.Transactions.{error_limit, wait_limit}

-- the tries with one more, of which this was heard
abbrev pub tried : HeardOutcome → Tries → Tries
tried heard t = record { errors = errors_with heard t.errors; waits = waits_with heard t.waits }

-- the packet was moved; another attempt is to be made; or the transaction ends
abbrev pub HearsAs : Tries → HeardOutcome → Result (Option (ArrayVec ℕ)) TransFault → Tries → Type 0
HearsAs old heard (Ok (Some bytes)) new = heard ≡ Moved bytes
HearsAs old heard (Ok None) new = IsNoEnd heard × (new ≡ tried heard old)
    × (new.errors < error_limit) × (new.waits < wait_limit)
HearsAs old heard (Err Stalled) new = heard ≡ Refused
HearsAs old heard (Err Busy) new = waits_with heard old.waits ≡ wait_limit
HearsAs old heard (Err NoAnswer) new = errors_with heard old.errors ≡ error_limit
HearsAs old heard (Err (Bus fault)) new = ⊥

-- whether the packet was moved, with the bytes that are in the room
abbrev pub moved_in : Result Turn TransFault → ArrayVec ℕ → Result (Option (ArrayVec ℕ)) TransFault
moved_in (Ok turn.Moved) bytes = Ok (Some bytes)
moved_in (Ok turn.Again) bytes = Ok None
moved_in (Err fault) bytes = Err fault

-- the most attempts of a transaction after its first
abbrev pub further_bound : ℕ
further_bound = 767

-- an attempt that had this outcome led here: of each world and text that it led from, this is so
abbrev pub AfterFirst : Attempt → Outcome → World → Option (List ℕ)
    → (World → Option (List ℕ) → Type 0) → Type 0
AfterFirst a first now text Says = (old : World) (before : Option (List ℕ)) → IsSettled old.roots
    → Attempts a old before (Ok first) now text → Says old before
