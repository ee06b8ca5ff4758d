-- What runs leave of a bus's world.
use Rattle.std.specs.Prelude.{◌≡◌, ℕ, ◌+◌, List, [], map, Some, Bool, false, Result, OnOk, IfErr}
use Rattle.std.specs.Prelude.{unwrap_or, if◌then◌else◌}
use Rattle.usb_world.specs.{PlanData, World, AttemptsWithin, to_come, BusFault}
use Rattle.usb_world.specs.declared.types.BusFault.TheVariants as bus
use Rattle.usb_enum.specs.{Finding}
use Rattle.usb_table.specs.{Table, said_at}
use Rattle.usb_host.specs.{HostFault, HostMapHolds, HostState, table_in}
use Rattle.usb_host.specs.declared.fault.HostFault.TheVariants as host
use Rattle.usb_run.specs.declared.item.Item.{Item}
use Rattle.usb_run.specs.declared.item.Item.TheVariants.{Listing}
use Rattle.usb_run.specs.declared.runs.RunFault.{RunFault}
use Rattle.usb_run.specs.declared.runs.RunFault.TheVariants.{LimitReached, Memory, TraceFailed}

-- no attempt was made yet
pub record IsBegun (plan : PlanData) (w : World) : Type 0 where
  pub attempts : w.attempts ≡ 0
  pub limit : w.limit ≡ plan.limit

-- what a fault of the bus is to a run
abbrev pub run_fault : BusFault → RunFault
run_fault bus.Limit = LimitReached
run_fault bus.Memory = Memory
run_fault bus.Failed = TraceFailed

-- what the fault of a round is to a run
abbrev pub round_fault : HostFault → RunFault
round_fault host.Stopped = Memory
round_fault (host.Transfer fault) = Memory
round_fault (host.Bus fault) = run_fault fault
round_fault host.Memory = Memory

-- a fault of a run is told only where its cause stands: the limit where the attempts equal it and
-- the bus gave one up for it, the trace where the bus could not write it
abbrev pub IsCaused : RunFault → World → Type 0
IsCaused LimitReached w = (w.attempts ≡ w.limit) × (w.fault ≡ Some bus.Limit)
IsCaused Memory w = Unit {0}
IsCaused TraceFailed w = w.fault ≡ Some bus.Failed

-- a part of a run that goes so: its host goes on where no fault is told, and a fault has its cause
pub record RunsOn {A : Type 0} (Goes : HostState → Result A RunFault → HostState → Type 0)
    (old : HostState) (result : Result A RunFault) (new : HostState) : Type 0 where
  pub goes : Goes old result new
  pub running : OnOk result (new.stopped ≡ false)
  pub caused : IfErr result (λ fault. IsCaused fault new.world)

-- and the map of its host still holds
pub record GoesOn {A : Type 0} (Goes : HostState → Result A RunFault → HostState → Type 0)
    (old : HostState) (result : Result A RunFault) (new : HostState) : Type 0 where
  pub on : RunsOn Goes old result new
  pub owning : HostMapHolds old → HostMapHolds new

-- attempts were made within the limit, and no event was added
abbrev pub Spent : HostState → HostState → Type 0
Spent old new = (n : ℕ) × AttemptsWithin n old.world new.world

-- how many items are to come at most
abbrev pub items_left : Bool → World → ℕ
items_left over w = to_come w + (if over then 0 else 1)

-- what the device of an entry said of itself, which is kept of a refused one alone
abbrev pub entry_said : Table → List ℕ × Finding → List ℕ
entry_said table entry = unwrap_or (said_at entry.0 table) []

-- what the devices of entries said, if that is to be told
abbrev pub said_if : Bool → Table → List (List ℕ × Finding) → List (List ℕ)
said_if told table entries = if told then map (entry_said table) entries else []

-- what the host has found, how many events had come, and if that is to be told, what refused
-- devices said
abbrev pub listing_of : Bool → HostState → Item
listing_of told h = Listing h.entries h.world.taken (said_if told (table_in h) h.entries)
