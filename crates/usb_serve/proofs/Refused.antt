-- Runs that are none: what the clauses of a run refuse.
use Rattle.std.proofs.Common.{◌≡◌, ◌≢◌, ◌∙◌, refl, ap, subst, arith, inl, inr, ℕ, ◌≤◌, List, []}
use Rattle.std.proofs.Common.{◌∷◌, Option, None, Some, Result, Ok, Err, IsUtf8, false}
use Rattle.usb_device.specs.{function, fresh, changed_at, new_ports, row_of}
use Rattle.usb_world.specs.{PlanData, World, change_of, changes, root_row, after, event, opening}
use Rattle.usb_world.specs.{after_event}
use Rattle.usb_world.specs.declared.event.Action.TheVariants as act
use Rattle.usb_world.specs.declared.event.Change.TheVariants as change
use Rattle.usb_world.specs.declared.event.Ask.{Ask}
use Rattle.usb_run.specs.{Arrives, EndsWell, HostState, LimitReached, Mode, Ran, Reaches}
use Rattle.usb_run.specs.{TraceFailed, Tree, idle, opening_host as host_opening, repowered, silent}
use Rattle.usb_run.specs.{usual_options}
use Rattle.usb_plan.specs.{PlanFault, spelled_plan}
use Rattle.usb_plan.specs.declared.fault.PlanFault.TheVariants as plan_fault
use Rattle.usb_serve.specs.{ServeFault, IsServed, IsUnread, IsWritten, of_plan, unread}
use Rattle.usb_serve.specs.declared.serving.ServeFault.TheVariants as serve

-- Events before their time

-- behind an event at most one root port has its change of connection set, since the host had served
-- all others
pub arrives_one : {a b : HostState} {due : Option Ask} → Arrives a (Ok (Some due)) b
    → changes (root_row b.world) ≤ 1
arrives_one {a} {b} {due} arrives =
    let settles = arrives.settles in
    let quiet = settles.last.did.did.quiet settles.ends.quiet in
    let none = quiet.1 in
    let served = settles.last.went.spends.served in
    let events = settles.last.went.spends.events in
    let same = settles.ends.none in
    let took = arrives.comes.takes.took in
    omega (arith, none, served, events, same, took.spends.served, took.spends.events, took.ends.one)

-- two devices are to be plugged, each at a port of the root
abbrev two_plugs : PlanData
two_plugs = record {
  limit = 10000;
  roots = 2;
  wide = false;
  devices = function (0x66 ∷ []) [] [] ∷ [];
  events = record { after = 4; action = act.Change (change.Plug (1 ∷ []) 0) } ∷ record {
    after = 4;
    action = act.Change (change.Plug (2 ∷ []) 0);
  } ∷ [];
  damages = [];
}

-- the host of its bus
abbrev refused_host : HostState
refused_host = host_opening (usual_options false) (opening two_plugs) None

abbrev refused_world : World
refused_world = after event (after event refused_host.world)

both_set : changes (root_row refused_world) ≡ 2
unfolding after after_event new_ports repowered changed_at fresh row_of changes change_of
both_set = refl

both_came : refused_world.taken ≡ 2
unfolding after after_event new_ports repowered changed_at fresh row_of
both_came = refl

-- both plugs at once are no part of a run: the second comes only once the host has settled behind
-- the first
pub both_at_once : (k : HostState) → k.world ≡ refused_world → Ran refused_host k → ⊥
both_at_once k is idle = absurd (omega (arith, ap (λ (w : World). w.taken) is ∙ both_came))
both_at_once k is (silent due before arrives none) =
    absurd (omega (
      arith,
      arrives_one arrives,
      ap (λ (w : World). changes (root_row w)) is ∙ both_set,
    ))

-- nor do they come before an event that asks for an item
pub both_before : (due : Option Ask) (k : HostState) → k.world ≡ refused_world
    → Reaches refused_host (Ok (Some due)) k → ⊥
both_before due k is reaches = absurd (omega (
  arith,
  arrives_one reaches.arrives,
  ap (λ (w : World). changes (root_row w)) is ∙ both_set,
))

-- Faults without a cause

-- the limit is told only where a run of the plan made so many attempts
pub limit_reached : (plan : PlanData) → EndsWell plan (Err LimitReached) → (last : World)
    × (last.attempts ≡ plan.limit)
limit_reached plan (inl refused) = absurd (cc refused)
limit_reached plan (inr runs) = (runs.last.world, runs.finishes.caused.0 ∙ runs.limit)

abbrev failed : ServeFault → Result (Unit {0}) ServeFault
failed fault = Err fault

failed-injective : (f g : ServeFault) → failed f ≡ failed g → g ≡ f
failed-injective f g e = cc e

-- of a text that is a plan no fault of a text is told, but for memory
pub no_text_fault : (mode : Mode) (t : List ℕ) (plan : PlanData) (fault : PlanFault)
    (before now : Option (List ℕ)) → IsUtf8 t → spelled_plan t ≡ Ok plan → fault ≢ plan_fault.Memory
    → IsServed mode (Some t) before (Err (serve.Plan fault)) now → ⊥
no_text_fault mode t plan fault before now utf8 good other (unread f is why same) =
    let no = subst (IsUnread (Some t)) (failed-injective (serve.Plan fault) f is) why in
    cc (good, no.spelled utf8 other)
no_text_fault mode t plan fault before now utf8 good other
    (of_plan p spelled of_run written enough) = of_run

-- no trace fails where none is made
pub no_tree_trace : (plan : PlanData) (before now : Option (List ℕ))
    → IsWritten Tree plan before (Err (serve.Run TraceFailed)) now → ⊥
no_tree_trace plan before now (inl none) = cc none.refused
no_tree_trace plan before now (inr tree) = tree.caused.0 refl

pub no_run_trace : (plan : PlanData) → EndsWell plan (Err TraceFailed) → ⊥
no_run_trace plan (inl refused) = cc refused
no_run_trace plan (inr runs) = runs.untraced refl
