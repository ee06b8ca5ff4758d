-- All that one call of a host tells: over any bus, and over one that does what its world does.
use Rattle.std.specs.Prelude.{◌≡◌, ℕ, ◌*◌, List, length, Bool, true, false, Option, None, Result}
use Rattle.std.specs.Prelude.{IfErr, IfOk, OnErr}
use Rattle.std.specs.Global.{Vec}
use Rattle.arrayvec.specs.ArrayVec.{ArrayVec}
use Rattle.usb_world.specs.{World}
use Rattle.usb_bus.specs.{Traced}
use Rattle.usb_transfer.specs.{transaction_bound, PipeState, write_bound}
use Rattle.usb_table.specs.{EndpointChoice, TransferFault}
use Rattle.usb_host.specs.Bounds.{clear_bound, round_bound}
use Rattle.usb_host.specs.Budget.{RoundKeeps}
use Rattle.usb_host.specs.HostStates.{HostState, opening_host}
use Rattle.usb_host.specs.Ownership.{HostMapHolds}
use Rattle.usb_host.specs.Progress.{HostSpends, HostSteps, KeepsNumbers, QuietKeeps}
use Rattle.usb_host.specs.Service.{DidParts, PartsFail}
use Rattle.usb_host.specs.Soundness.{HostInvariant, TransferKeeps}
use Rattle.usb_host.specs.ToldFaults.{IsReportedLast, RoundFaultAllowed, StopsAsRound}
use Rattle.usb_host.specs.ToldFaults.{StopsAsTransfer, HostWorks, TransferFaultAllowed}
use Rattle.usb_host.specs.Transfers.{ClearedAt, ClearedOfAt, MovesOrRefuses, ReceivedAt, ReportedAt}
use Rattle.usb_host.specs.Transfers.{SentAt}
use Rattle.usb_host.specs.declared.fault.HostFault.{HostFault}
use Rattle.usb_host.specs.declared.host.Round.{Round}
use Rattle.usb_enum.specs.{HostOptions}

-- over any bus: at most so many attempts were made, and a fault of the bus is the one that it
-- reported last. Of a modelled bus its world says both. Devices keep their numbers
pub record CallsAnyBus {A : Type 0} (modelled : Bool) (most : ℕ) (old : HostState)
    (result : Result A HostFault) (new : HostState) : Type 0 where
  pub spends : HostSpends most old new
  pub told : modelled ≡ false → IfErr result (λ fault. IsReportedLast fault new.counts.failed)
  pub numbers : KeepsNumbers old new

-- so it is of a round; a quiet one changed no entry, and left no more root ports alone
pub record RoundsAnyBus (modelled : Bool) (old : HostState) (result : Result Round HostFault)
    (new : HostState) : Type 0 where
  pub calls : CallsAnyBus modelled round_bound old result new
  pub quiet : QuietKeeps result old new

-- and of a transfer, which leaves the same root ports alone
pub record TransfersAnyBus {A : Type 0} (modelled : Bool) (most : ℕ) (old : HostState)
    (result : Result A HostFault) (new : HostState) : Type 0 where
  pub calls : CallsAnyBus modelled most old result new
  pub left : new.counts.left ≡ old.counts.left

-- so of a transfer through one pipe, unless the host had stopped: where no pipe takes it, this is
-- told, and nothing is tried
pub record MovesAnyBus {A : Type 0} (modelled : Bool) (most : ℕ)
    (asked : Result PipeState TransferFault) (old : HostState) (result : Result A HostFault)
    (new : HostState) : Type 0 where
  pub calls : TransfersAnyBus modelled most old result new
  pub refuses : old.stopped ≡ false → MovesOrRefuses asked old result new

-- `new` and `with_wide_hubs`, whatever was done before over a bus in this world, with this trace:
-- its root ports lost power and have it again, and no device is known. At no attempt so far two
-- reachable devices may have held one address, since that stays told
pub record NewTells (options : HostOptions) (w : World) (t : Option (List ℕ))
    (host : HostState) : Type 0
  where
    pub opens : host ≡ opening_host options w t
    pub traced : Traced w t host.world host.trace
    pub owning : w.shared ≡ false → HostMapHolds host
    pub sound : w.shared ≡ false → HostInvariant host

-- a round failed: this is what the host had done, and then it stopped
pub record StopsIn (old new : HostState) : Type 0 where
  pub left : HostState
  pub fails : PartsFail old left
  pub stops : new ≡ record left { stopped = true }

-- `round`
pub record RoundTells (old : HostState) (result : Result Round HostFault) (new : HostState)
    : Type 0 where
  pub stopped : StopsAsRound old result new
  pub went : HostSteps round_bound old new
  pub told : IfErr result (λ fault. RoundFaultAllowed fault new.world)
  pub works : HostWorks old result new
  pub did : IfOk result (λ round. DidParts round old new)
  pub fails : OnErr result (old.stopped ≡ false → HostInvariant old → old.world.fault ≡ None
      → StopsIn old new)
  pub keeps : RoundKeeps old result new

-- a call for a transfer
pub record TransferTells {A : Type 0} (most : ℕ)
    (Did : HostState → Result A HostFault → HostState → Type 0)
    (old : HostState) (result : Result A HostFault) (new : HostState) : Type 0 where
  pub stopped : StopsAsTransfer old result new
  pub went : HostSteps most old new
  pub told : IfErr result (λ fault. TransferFaultAllowed fault new.world)
  pub works : HostWorks old result new
  pub did : Did old result new
  pub keeps : TransferKeeps old new

-- `send` and `send_to`
abbrev pub SendTells : List ℕ → EndpointChoice → List ℕ → HostState → Result (Unit {0}) HostFault
    → HostState → Type 0
SendTells path choice bytes =
    TransferTells (transaction_bound * length bytes) (SentAt path choice bytes)

-- `receive` and `receive_from`
abbrev pub ReceiveTells : List ℕ → EndpointChoice → ℕ → HostState → Result (Vec ℕ) HostFault
    → HostState → Type 0
ReceiveTells path choice packets =
    TransferTells (transaction_bound * packets) (ReceivedAt path choice packets)

-- `poll`
abbrev pub ReportTells : List ℕ → ℕ → HostState → Result (Option (ArrayVec ℕ)) HostFault
    → HostState → Type 0
ReportTells path endpoint = TransferTells transaction_bound (ReportedAt path endpoint)

-- `clear_halt`
abbrev pub ClearTells : List ℕ → HostState → Result (Unit {0}) HostFault → HostState → Type 0
ClearTells path = TransferTells clear_bound (ClearedAt path)

-- `clear_halt_of`
abbrev pub ClearOfTells : List ℕ → ℕ → HostState → Result (Unit {0}) HostFault → HostState → Type 0
ClearOfTells path endpoint = TransferTells write_bound (ClearedOfAt path endpoint)
