-- Runs whose plan's places are found on their way.
use Rattle.std.specs.Prelude.{List, [], ◌∷◌, ◌++◌, if◌then◌else◌}
use Rattle.usb_world.specs.{Step, World, after, event, opening}
use Rattle.usb_sim.specs.{followed}
use Rattle.usb_bench_laws.specs.Runs.{Comes}
use Rattle.usb_places.specs.{PlacesData, after_seen, finds, plan_in, seen_at}
use Rattle.usb_places.specs.declared.seen.Deed.{Deed}
use Rattle.usb_places.specs.declared.seen.Deed.TheVariants.{Wait}

-- the world once a deed is seen: where a place is found, it follows the plan that is then known
abbrev pub placed : Deed → PlacesData → World → World
placed d p w =
    if finds (seen_at w d) p then followed (plan_in (after_seen (seen_at w d) p)) w else w

-- A run from the start of the plan that is known at first: the places as they are known in the end,
-- all the steps, and the world. Each deed of the host is seen. An event that a step asks for comes,
-- unless the bus has a fault; or a wait is seen right before the step, and then none may be left.
pub data PlacedRun (first : PlacesData) : PlacesData → List Step → World → Type 0 where
  begins : PlacedRun first first [] (opening (plan_in first))
  sees : {p : PlacesData} {steps : List Step} {w : World} → PlacedRun first p steps w → (d : Deed)
      → PlacedRun first (after_seen (seen_at w d) p) steps (placed d p w)
  does : {p : PlacesData} {steps : List Step} {w : World} → PlacedRun first p steps w → (s : Step)
      → Comes s w → PlacedRun first p (steps ++ s ∷ []) (after s w)
  asks : {p : PlacesData} {steps : List Step} {w : World} → PlacedRun first p steps w
      → PlacedRun first (after_seen (seen_at w Wait) p) (steps ++ event ∷ [])
      (after event (placed Wait p w))
