-- What each part of a round owes, whatever the bus is.
use Rattle.std.specs.Prelude.{◌≡◌, ◌≤◌, ◌+◌, ℕ, Bool, List, true, Result, IfErr}
use Rattle.usb_enum.specs.{EnumFault}
use Rattle.usb_host.specs.Backlog.{hubs}
use Rattle.usb_host.specs.HostStates.{HostState}
use Rattle.usb_host.specs.NearPorts.{EntriesStay}
use Rattle.usb_host.specs.Progress.{HostSpends, KeepsNumbers, QuietKeeps}
use Rattle.usb_host.specs.ToldFaults.{HostReported, HostWorks, PartFaultAllowed}
use Rattle.usb_host.specs.declared.fault.HostFault.{HostFault}
use Rattle.usb_host.specs.declared.host.Round.{Round}

-- at most so many attempts were made, devices keep their numbers, and a fault has its cause; a
-- modelled bus still works, unless a fault of the bus is told
pub record PartCall {A : Type 0} (modelled : Bool) (most : ℕ) (old : HostState)
    (result : Result A HostFault) (new : HostState) : Type 0 where
  pub spends : HostSpends most old new
  pub numbers : KeepsNumbers old new
  pub told : IfErr result (λ fault. PartFaultAllowed modelled fault new)
  pub works : modelled ≡ true → HostWorks old result new

-- and behind a part that is quiet no entry has changed
pub record RoundCall (modelled : Bool) (most : ℕ) (old : HostState)
    (result : Result Round HostFault) (new : HostState) : Type 0 where
  pub part : PartCall modelled most old result new
  pub quiet : QuietKeeps result old new

-- what is done at a port: so many attempts, devices keep their numbers, and a fault is the one that
-- the bus reported
pub record PortPart (modelled : Bool) (path : List ℕ) (most : ℕ) (old : HostState)
    (result : Result (Unit {0}) EnumFault) (new : HostState) : Type 0 where
  pub spends : HostSpends most old new
  pub numbers : KeepsNumbers old new
  pub told : HostReported modelled result new
  -- entries at the path and below it alone change, and there is one hub more at most
  pub stay : EntriesStay path old.entries new.entries
  pub hubs : hubs new.entries ≤ hubs old.entries + 1
