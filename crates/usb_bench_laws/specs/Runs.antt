-- Runs of plans, and which plans a run does not tell apart as far as it has come.
use Rattle.std.specs.Prelude.{◌≡◌, ◌≤◌, ◌+◌, ◌-◌, ℕ, false, List, [], ◌∷◌, ◌++◌, None, drop, take}
use Rattle.std.specs.Prelude.{⊤}
use Rattle.usb_world.specs.{Event, PlanData, Step, World, after, attempt, damage_of, event, opening}
use Rattle.usb_world.specs.{report, root_call, waits}
use Rattle.usb_sim.specs.{followed}

-- the world after steps, one after the other
unfoldable pub world_after : List Step → World → World
world_after [] w = w
world_after (s ∷ steps) w = world_after steps (after s w)

-- the world after steps from a plan's start
abbrev pub run : PlanData → List Step → World
run p steps = world_after steps (opening p)

-- if the step asks for an event, one comes, unless the bus has a fault
abbrev pub Comes : Step → World → Type 0
Comes (attempt a) w = ⊤
Comes (root_call c n) w = ⊤
Comes event w = w.fault ≡ None → (after event w).taken ≡ w.taken + 1
Comes (report line) w = ⊤

-- each event that is asked for comes, unless the bus has a fault
abbrev pub AllCome : List Step → World → Type 0
AllCome [] w = ⊤
AllCome (s ∷ steps) w = Comes s w × AllCome steps (after s w)

-- the first of these events, unless it waits, was due at none of the attempts since the last event
abbrev pub IsToCome : List Event → World → Type 0
IsToCome [] w = ⊤
IsToCome (e ∷ events) w = waits e.action ≡ false → w.attempts - w.attempts_then ≤ e.after

-- two plans agree as far as a world of the first has come: in the events that came, and in the
-- damages to the attempts that were made; and the next event of the second could not have come by
-- itself
pub record AgreeIn (p q : PlanData) (w : World) : Type 0 where
  pub limit : p.limit ≡ q.limit
  pub roots : p.roots ≡ q.roots
  pub devices : p.devices ≡ q.devices
  pub events : take w.taken p.events ≡ take w.taken q.events
  pub damages : (n : ℕ) → 1 ≤ n → n ≤ w.attempts → damage_of p.damages n ≡ damage_of q.damages n
  pub next : IsToCome (drop w.taken q.events) w

-- a world that is played by steps from a plan's start, with other plans that are followed on the
-- way: the plan that is followed last, all the steps, and the world
pub data Plays : PlanData → List Step → World → Type 0 where
  begins : (p : PlanData) → Plays p [] (opening p)
  goes_on : {p : PlanData} {steps : List Step} {w : World} → Plays p steps w → (s : Step)
      → Comes s w → Plays p (steps ++ s ∷ []) (after s w)
  follows : {p : PlanData} {steps : List Step} {w : World} → Plays p steps w → (q : PlanData)
      → AgreeIn p q w → Plays q steps (followed q w)
