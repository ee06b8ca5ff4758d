-- Where a plan's run begins, and where it ends, with its report.
use Rattle.std.specs.Prelude.{◌≡◌, ◌≢◌, ◌⊎◌, ℕ, List, reverse, Option, Bool, false, Result, Err}
use Rattle.std.specs.Prelude.{IfOk, IfErr}
use Rattle.usb_world.specs.{PlanData, IsPlan, AtPorts, opening, World}
use Rattle.usb_bus.specs.{Traced}
use Rattle.usb_enum.specs.{usual_options}
use Rattle.usb_host.specs.{HostState, opening_host as host_opening, HostInvariant}
use Rattle.usb_run.specs.declared.item.Item.{Item}
use Rattle.usb_run.specs.declared.runs.Report.{Report}
use Rattle.usb_run.specs.declared.runs.RunFault.{RunFault}
use Rattle.usb_run.specs.declared.runs.RunFault.TheVariants.{Memory, TraceFailed}
use Rattle.usb_run.specs.declared.mode.Mode.TheVariants.{Tree}
use Rattle.usb_run.specs.Moments.{ListsRight}
use Rattle.usb_run.specs.Run.{IsCaused}
use Rattle.usb_run.specs.Transcript.{RunsTo, itself, never}

-- a host of a plan's bus, whose root ports were given power in silence: it knows of no device, and
-- that is so
pub record Opens (plan : PlanData) (before : Option (List ℕ)) (h : HostState) : Type 0 where
  pub is : h ≡ host_opening (usual_options plan.wide) (opening plan) before
  pub traced : Traced (opening plan) before h.world h.trace
  pub sound : HostInvariant h
  pub rules : IsPlan plan
  pub paths : AtPorts plan.events

-- a report has a run's items in order, and the counts of its world
pub record Reports (items : List Item) (w : World) (report : Report) : Type 0 where
  pub items_made : report.items.items ≡ reverse items
  pub attempts : report.attempts ≡ w.attempts
  pub losses : report.address_losses ≡ w.losses.all
  pub worst : report.worst_address_run ≡ w.losses.worst

-- a run to its end, and its report
pub record Finishes (was : Bool) (old : HostState) (result : Result Report RunFault)
    (new : HostState) : Type 0 where
  pub items : List Item
  pub ends : RunsTo Tree itself never was old items result new
  pub report : IfOk result (Reports items new.world)
  pub caused : IfErr result (λ fault. IsCaused fault new.world)

-- a plan's run to where it ends, with or without a fault: at no attempt so far did two reachable
-- devices hold one address, and what it tells is right; a fault has its cause, and it is none of a
-- trace
pub record RunsWell (plan : PlanData) (result : Result Report RunFault) : Type 0 where
  pub before : Option (List ℕ)
  pub first : HostState
  pub opens : Opens plan before first
  pub last : HostState
  pub finishes : Finishes false first result last
  pub untraced : result ≢ Err TraceFailed
  pub limit : last.world.limit ≡ plan.limit
  pub single : last.world.shared ≡ false
  pub lists : ListsRight plan finishes.items last.world

-- so a plan's run ends, or memory was refused
abbrev pub EndsWell : PlanData → Result Report RunFault → Type 0
EndsWell plan result = (result ≡ Err Memory) ⊎ RunsWell plan result
