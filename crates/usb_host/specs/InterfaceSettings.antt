-- What SET_INTERFACE to the device at a path is (9.4.10), as the host reports it.
use Rattle.std.specs.Prelude.{◌≡◌, ℕ, List, Bool, false, None, Result, Ok, Err}
use Rattle.usb_transfer.specs.{Target, PipeFault, write_bound}
use Rattle.usb_table.specs.{GoesThrough, InterfaceSetIf, KeepsLevels, OnlySets, TableFault}
use Rattle.usb_table.specs.{TransferFault, accepted_device_at, interface_target, is_below_hub}
use Rattle.usb_table.specs.{pipes_at, pipes_set, table_answer}
use Rattle.usb_host.specs.declared.fault.HostFault.{HostFault}
use Rattle.usb_host.specs.declared.fault.HostFault.TheVariants.{Transfer}
use Rattle.usb_host.specs.HostCalls.{TransferTells, TransfersAnyBus}
use Rattle.usb_host.specs.HostStates.{HostState}
use Rattle.usb_host.specs.ToldFaults.{host_told}
use Rattle.usb_host.specs.Transfers.{NothingTried, table_in}

-- over any bus: where it is not sent, this is reported, and nothing is tried; else the answer is
-- the request's own, and says what is left of the pipes at the path
abbrev pub SetsOrRefuses : List ℕ → ℕ → ℕ → Result Target TransferFault → HostState
    → Result (Unit {0}) HostFault → HostState → Type 0
SetsOrRefuses path interface setting (Ok target) old result new =
    (answer : Result (Unit {0}) PipeFault) × (result ≡ host_told (table_answer answer))
    × (pipes_at path (table_in new) ≡ pipes_set (accepted_device_at path old.entries)
    (is_below_hub path) interface setting answer (pipes_at path (table_in old)))
SetsOrRefuses path interface setting (Err fault) old result new =
    (result ≡ Err (Transfer fault)) × NothingTried old new

-- so it is unless the host had stopped
pub record SetsAnyBus (modelled : Bool) (path : List ℕ) (interface setting : ℕ) (old : HostState)
    (result : Result (Unit {0}) HostFault) (new : HostState) : Type 0 where
  pub calls : TransfersAnyBus modelled write_bound old result new
  pub refuses : old.stopped ≡ false → SetsOrRefuses path interface setting
      (interface_target path interface setting old.entries) old result new

-- it was sent as the table says, and its answer is the host's; the pipes at the path alone change
pub record SetsInterface (path : List ℕ) (interface setting : ℕ) (old : HostState)
    (result : Result (Unit {0}) HostFault) (new : HostState) : Type 0 where
  pub answer : Result (Unit {0}) TableFault
  pub told : result ≡ host_told answer
  pub through : GoesThrough path (table_in old) (table_in new)
  pub did : InterfaceSetIf path interface setting (table_in old)
      (interface_target path interface setting old.entries) old.world answer
      (table_in new) new.world
  pub keeps : KeepsLevels OnlySets path (new.world.fault ≡ None) (table_in old) old.world
      (table_in new) new.world

-- unless the host had stopped
abbrev pub InterfaceSetAt : List ℕ → ℕ → ℕ → HostState → Result (Unit {0}) HostFault → HostState
    → Type 0
InterfaceSetAt path interface setting old result new = old.stopped ≡ false
    → SetsInterface path interface setting old result new

-- `set_interface`
abbrev pub InterfaceTells : List ℕ → ℕ → ℕ → HostState → Result (Unit {0}) HostFault → HostState
    → Type 0
InterfaceTells path interface setting =
    TransferTells write_bound (InterfaceSetAt path interface setting)
