-- What a fault of the host says of the bus, and when the host stops.
use Rattle.std.specs.Prelude.{◌≡◌, ◌↔◌, ⊤, Bool, true, false, IsTrue, IsErrOf, IsErr, Result, Ok}
use Rattle.std.specs.Prelude.{Err, IfErr, Option, Some, MatchResult}
use Rattle.usb_world.specs.{BusFault, World, HasFault}
use Rattle.usb_enum.specs.{EnumFault, IsReported}
use Rattle.usb_hub.specs.{StillWorks}
use Rattle.usb_table.specs.{TableFault}
use Rattle.usb_table.specs.declared.fault.TableFault.TheVariants as table
use Rattle.usb_host.specs.declared.fault.HostFault.{HostFault}
use Rattle.usb_host.specs.declared.fault.HostFault.TheVariants.{Stopped, Transfer, Bus, Memory}
use Rattle.usb_host.specs.HostStates.{HostState}

-- the table's fault as the host's
abbrev pub host_fault : TableFault → HostFault
host_fault (table.Transfer fault) = Transfer fault
host_fault (table.Bus fault) = Bus fault
host_fault table.Memory = Memory

abbrev pub host_told : {A : Type 0} → Result A TableFault → Result A HostFault
host_told (Ok done) = Ok done
host_told (Err fault) = Err (host_fault fault)

-- over any bus that is not modelled: a fault of the bus is the one that it reported last
abbrev pub HostReported : {A : Type 0} → Bool → Result A EnumFault → HostState → Type 0
HostReported modelled result h =
    modelled ≡ false → IfErr result (λ fault. IsReported fault h.counts.failed)

abbrev pub IsReportedLast : HostFault → Option BusFault → Type 0
IsReportedLast Stopped last = ⊤
IsReportedLast (Transfer fault) last = ⊤
IsReportedLast (Bus fault) last = last ≡ Some fault
IsReportedLast Memory last = ⊤

-- a fault that ends a part of a round: of the bus, whose world has it, or which reported it last,
-- or of memory
abbrev pub PartFaultAllowed : Bool → HostFault → HostState → Type 0
PartFaultAllowed modelled Stopped h = ⊥
PartFaultAllowed modelled (Transfer fault) h = ⊥
PartFaultAllowed modelled (Bus fault) h =
    (modelled ≡ true → HasFault fault h.world) × (modelled ≡ false → h.counts.failed ≡ Some fault)
PartFaultAllowed modelled Memory h = ⊤

-- a fault of a whole round
abbrev pub RoundFaultAllowed : HostFault → World → Type 0
RoundFaultAllowed Stopped w = ⊤
RoundFaultAllowed (Transfer fault) w = ⊥
RoundFaultAllowed (Bus fault) w = HasFault fault w
RoundFaultAllowed Memory w = ⊤

-- a fault of a transfer
abbrev pub TransferFaultAllowed : HostFault → World → Type 0
TransferFaultAllowed Stopped w = ⊤
TransferFaultAllowed (Transfer fault) w = ⊤
TransferFaultAllowed (Bus fault) w = HasFault fault w
TransferFaultAllowed Memory w = ⊤

-- after these the host makes no more attempts
abbrev pub is_last_fault : HostFault → Bool
is_last_fault Stopped = false
is_last_fault (Transfer fault) = false
is_last_fault (Bus fault) = true
is_last_fault Memory = true

abbrev pub is_final : {A : Type 0} → Result A HostFault → Bool
is_final (Ok done) = false
is_final (Err fault) = is_last_fault fault

-- it is no fault of the bus
abbrev pub HostNotOfBus : HostFault → Type 0
HostNotOfBus Stopped = ⊤
HostNotOfBus (Transfer fault) = ⊤
HostNotOfBus (Bus fault) = ⊥
HostNotOfBus Memory = ⊤

-- the bus still works after a call, unless that reports a fault of the bus
abbrev pub HostWorks : {A : Type 0} → HostState → Result A HostFault → HostState → Type 0
HostWorks old result new = MatchResult result (λ done. StillWorks old.world new.world)
    (λ fault. HostNotOfBus fault → StillWorks old.world new.world)

-- a stopped host changes nothing and says so; another stops where the round fails
pub record StopsAsRound {A : Type 0} (old : HostState) (result : Result A HostFault)
    (new : HostState) : Type 0 where
  pub said : IsErrOf result Stopped ↔ IsTrue old.stopped
  pub nothing : IsTrue old.stopped → new ≡ old
  pub stops : IsTrue new.stopped ↔ IsErr result

-- so of a look; another stops at a fault of the bus and for want of memory
pub record StopsAsLook {A : Type 0} (old : HostState) (result : Result A HostFault)
    (new : HostState) : Type 0 where
  pub said : IsErrOf result Stopped ↔ IsTrue old.stopped
  pub nothing : IsTrue old.stopped → new ≡ old
  pub stops : old.stopped ≡ false → new.stopped ≡ is_final result

-- a stopped host changes nothing and says so; another stops at a fault of the bus and for want of
-- memory. No entry changes
pub record StopsAsTransfer {A : Type 0} (old : HostState) (result : Result A HostFault)
    (new : HostState) : Type 0 where
  pub said : IsErrOf result Stopped ↔ IsTrue old.stopped
  pub nothing : IsTrue old.stopped → new ≡ old
  pub stops : old.stopped ≡ false → new.stopped ≡ is_final result
  pub kept : new.entries ≡ old.entries
