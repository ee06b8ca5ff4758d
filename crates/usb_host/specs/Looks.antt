-- What a look at a port does (9.1.2, 11.12): the port is enumerated anew, as if its connection had
-- changed.
use Rattle.std.specs.Prelude.{◌≡◌, ◌⊎◌, ◌+◌, ◌*◌, ⊤, ℕ, List, Bool, false, length, Option, None}
use Rattle.std.specs.Prelude.{Some, IsSome, Result, Ok, Err, IfErr, OnErr, OnOk}
use Rattle.usb_port.specs.{parent_of}
use Rattle.usb_world.specs.{PlanData}
use Rattle.usb_enum.specs.{Finding}
use Rattle.usb_enum.specs.declared.finding.Finding.TheVariants as found
use Rattle.usb_table.specs.{Entries, KnownPort, NoPort, accepted_device_of, finding_at, known_port}
use Rattle.usb_host.specs.Bounds.{handling_bound}
use Rattle.usb_host.specs.Budget.{Affords, Costs, StopsWithin, Weights, WorksOn, handling_most}
use Rattle.usb_host.specs.Budget.{hub_weight, look_weight, stray_weight}
use Rattle.usb_host.specs.Cuts.{CutAt}
use Rattle.usb_host.specs.HostCalls.{CallsAnyBus}
use Rattle.usb_host.specs.HostStates.{HostState}
use Rattle.usb_host.specs.NearPorts.{ChangesNear}
use Rattle.usb_host.specs.Ownership.{HostMapHolds, StaysOwned, StaysSingle}
use Rattle.usb_host.specs.Plugs.{HasPlugs}
use Rattle.usb_host.specs.Ports.{StandsAt, StandsNowhere, Waits}
use Rattle.usb_host.specs.Progress.{HostProgress, HostSteps}
use Rattle.usb_host.specs.Service.{LookedOnce, LookedSo}
use Rattle.usb_host.specs.Soundness.{HostInvariant, Part, PartStays}
use Rattle.usb_host.specs.ToldFaults.{HostWorks, StopsAsLook, TransferFaultAllowed, is_final}
use Rattle.usb_host.specs.declared.fault.HostFault.{HostFault}
use Rattle.usb_host.specs.declared.fault.HostFault.TheVariants.{Stopped, Transfer, Bus, Memory}
use Rattle.usb_host.specs.declared.look.Look.{Look}
use Rattle.usb_host.specs.declared.look.Look.TheVariants.{Empty, Found, Refused}

-- Which entry is reported

abbrev pub LookIs : Look → Option Finding → Type 0
LookIs Empty entry = entry ≡ None
LookIs Found entry = IsSome (accepted_device_of entry)
LookIs (Refused cause) entry = entry ≡ Some (found.Refused cause)

-- Over any bus

-- what is listed at a port is reported; or that there is no such port, where it has a hub: of a
-- root port the bus itself says whether it has one
abbrev pub Reports : List ℕ → Entries → Result Look HostFault → Type 0
Reports path entries (Ok look) = IsSome (known_port path entries) × LookIs look
    (finding_at path entries)
Reports path entries (Err (Transfer fault)) = (fault ≡ NoPort)
    × (IsSome (parent_of path) → known_port path entries ≡ None)
Reports path entries (Err other) = ⊤

-- where no listed hub has the port, this is reported, and nothing changes
abbrev pub RefusesUnknown : List ℕ → HostState → Result Look HostFault → HostState → Type 0
RefusesUnknown path old result new = old.stopped ≡ false → known_port path old.entries ≡ None
    → (result ≡ Err (Transfer NoPort)) × (new ≡ old)

pub record LooksAnyBus (modelled : Bool) (path : List ℕ) (old : HostState)
    (result : Result Look HostFault) (new : HostState) : Type 0 where
  pub calls : CallsAnyBus modelled handling_bound old result new
  pub unknown : RefusesUnknown path old result new
  pub reports : Reports path new.entries result
  pub changes : ChangesNear path result old.entries new.entries

-- Over a bus that does what its world does

-- so is what is listed at a port reported, or that it is none
abbrev pub ReportsPort : List ℕ → HostState → Result Look HostFault → Type 0
ReportsPort path h (Ok look) = ((port : KnownPort) × StandsAt path port h)
    × LookIs look (finding_at path h.entries)
ReportsPort path h (Err (Transfer fault)) = (fault ≡ NoPort) × StandsNowhere path h
ReportsPort path h (Err other) = ⊥

-- the path is of a port. Its change of connection was cleared, a status was read, the port was
-- disabled if that was enabled, what stood at it and below it was forgotten, and what the status
-- showed was found. Or a request to its hub failed, and that, or one above it, is listed as lost
pub record LookedThere (path : List ℕ) (old new : HostState) : Type 0 where
  pub port : KnownPort
  pub stands : StandsAt path port old
  pub order : LookedSo path old new
  pub looked : HostInvariant old → LookedOnce path old new

-- no port has the path, and nothing was done; or its hub was lost in the look
abbrev pub HasNoPort : List ℕ → HostState → HostState → Type 0
HasNoPort path old new = (StandsNowhere path old × (new ≡ old))
    ⊎ (LookedThere path old new × StandsNowhere path new)

-- what a look did, by what it reports: what is listed at the port after it, or that no port has the
-- path; or it stopped there
abbrev pub LookDid : List ℕ → HostState → Result Look HostFault → HostState → Type 0
LookDid path old (Ok look) new = LookedThere path old new × ReportsPort path new (Ok look)
LookDid path old (Err (Transfer fault)) new = (fault ≡ NoPort) × HasNoPort path old new
LookDid path old (Err Stopped) new = ⊥
LookDid path old (Err (Bus fault)) new = HostInvariant old → CutAt path old new
LookDid path old (Err Memory) new = HostInvariant old → CutAt path old new

-- What it costs

-- the attempts of a handling, a hub more that may be listed, a reset that may be left, and one look
-- again for each device below, of which there are no more than events: a hub that is reset powers
-- its ports anew
abbrev pub look_cost : Weights → PlanData → ℕ
look_cost c plan = handling_most c + hub_weight c + stray_weight c + look_weight c * length
    plan.events

-- wherever a look ended, its attempts are within that; and if the host goes on and the bus still
-- works, so is what is left to do, and devices stand where one was plugged
pub record LookCosts (c : Weights) (plan : PlanData) (old : HostState)
    (result : Result Look HostFault) (new : HostState) : Type 0 where
  pub most : StopsWithin c (look_cost c plan) old new
  pub costs : is_final result ≡ false → new.world.fault ≡ None
      → Costs c (look_cost c plan) old new
  pub plugs : is_final result ≡ false → new.world.fault ≡ None → HasPlugs plan.events new

-- devices hold the addresses that the host has for them. If the host goes on, what is known stays
-- so, and the pipes to functions and their endpoints stay but where a device is found anew
pub record LookKeeps (old : HostState) (result : Result Look HostFault) (new : HostState)
    : Type 0 where
  pub owning : HostMapHolds old → HostMapHolds new
  pub sound : is_final result ≡ false → PartStays old new
  pub costs : (c : Weights) (plan : PlanData) → Affords c plan old
      → LookCosts c plan old result new

-- `look`
pub record LookTells (path : List ℕ) (old : HostState) (result : Result Look HostFault)
    (new : HostState) : Type 0 where
  pub stopped : StopsAsLook old result new
  pub went : HostSteps handling_bound old new
  pub told : IfErr result (λ fault. TransferFaultAllowed fault new.world)
  pub works : HostWorks old result new
  pub did : old.stopped ≡ false → LookDid path old result new
  pub keeps : LookKeeps old result new

-- Its parts

-- what the enumeration of a port anew costs
pub record PaysLookOver (old : HostState) (result : Result (Unit {0}) HostFault) (new : HostState)
    : Type 0 where
  pub stops : (c : Weights) (plan : PlanData) → WorksOn c plan old
      → StopsWithin c (handling_most c) old new
  pub pays : (c : Weights) (plan : PlanData) → WorksOn c plan old → new.world.fault ≡ None
      → OnOk result (Costs c (look_cost c plan) old new)

-- a port was enumerated anew, and its hub dropped if that was lost. If a device waited there, the
-- host got on
pub record LooksOver (path : List ℕ) (old : HostState) (result : Result (Unit {0}) HostFault)
    (new : HostState) : Type 0 where
  pub part : Part handling_bound old result new
  pub on : Waits path old → OnOk result (HostProgress old new)
  pub looked : OnOk result (LookedThere path old new)
  pub cut : OnErr result (HostInvariant old → CutAt path old new)
  pub pays : PaysLookOver old result new

-- a look, but for the host's stop
pub record LookMade (path : List ℕ) (old : HostState) (result : Result Look HostFault)
    (new : HostState) : Type 0 where
  pub went : HostSteps handling_bound old new
  pub going : new.stopped ≡ old.stopped
  pub told : IfErr result (λ fault. TransferFaultAllowed fault new.world)
  pub works : HostWorks old result new
  pub did : LookDid path old result new
  pub single : StaysSingle old new
  pub owned : is_final result ≡ false → StaysOwned old new
  pub sound : is_final result ≡ false → PartStays old new
  pub costs : (c : Weights) (plan : PlanData) → Affords c plan old
      → LookCosts c plan old result new
