-- What a host that is judged has played, where its plan has places.
use Rattle.std.specs.Prelude.{◌≡◌, List, true, Some}
use Rattle.usb_world.specs.{Step, World, damages_fit}
use Rattle.usb_bench_laws.specs.Runs.{run}
use Rattle.usb_places.specs.{PlacesData, plan_in}
use Rattle.usb_bench_laws.specs.PlacedRuns.{PlacedRun}
use Rattle.usb_bench.specs.declared.judge.Judge.{Judge}

-- The judge has these places, and its world is that of a placed run from the plan that is known at
-- first. So it is the one of all the steps from the start of the plan that is known now, if the
-- damages without a place are those of a plan.
pub record IsPlacedRun (first : PlacesData) (judge : Judge) (w : World) : Type 0 where
  pub places : PlacesData
  pub sought : judge.places ≡ Some places
  pub steps : List Step
  pub placed : PlacedRun first places steps w
  pub plays : damages_fit 0 first.plan.damages ≡ true → w ≡ run (plan_in places) steps
