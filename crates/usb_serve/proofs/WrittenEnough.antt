-- What serves a plan of at most 127 plugs whose limit is its bound never tells its limit.
use Rattle.std.proofs.Common.{◌≢◌, ◌≤◌, ℕ, subst, inl, inr, List, Option, Result, Err, IfErr}
use Rattle.usb_world.specs.{PlanData}
use Rattle.usb_run.specs.{LimitReached, Mode, Tree, never, plug_events}
use Rattle.usb_plan.specs.{bound_of}
use Rattle.usb_run.specs.declared.mode.Mode.TheVariants.{Run}
use Rattle.usb_serve.specs.{ServeFault, IsWritten, IsCausedInRun, IsCausedInTree, at_write, of_run}
use Rattle.usb_serve.specs.declared.serving.ServeFault.TheVariants as serve
use Rattle.usb_run.proofs.Interface.{not_limited}

-- in both modes of `serve`
pub written_enough : (mode : Mode) (plan : PlanData) (before now : Option (List ℕ))
    (result : Result (Unit {0}) ServeFault) → IsWritten mode plan before result now
    → plug_events plan.events ≤ 127 → bound_of plan ≤ plan.limit
    → result ≢ Err (serve.Run LimitReached)
written_enough Tree plan before now result (inl none) few below is = cc (none.refused, is)
written_enough Tree plan before now result (inr tree) few below is =
    not_limited Tree of_run never plan tree.thrown tree.first tree.last tree.items result few below
    tree.opens tree.ends tree.limit
    (subst (λ (r : Result (Unit {0}) ServeFault). IfErr r
    (λ fault. IsCausedInTree fault tree.last.world)) is tree.caused).1
written_enough Run plan before now result (inl none) few below is = cc (none.refused, is)
written_enough Run plan before now result (inr run) few below is =
    not_limited Run of_run at_write plan before run.first run.last run.items result few below
    run.opens run.ends run.limit
    (subst (λ (r : Result (Unit {0}) ServeFault). IfErr r
    (λ fault. IsCausedInRun fault run.last.world)) is run.caused)
