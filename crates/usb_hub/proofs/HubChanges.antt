-- What is told where a change was cleared.
use Rattle.std.proofs.Common.{arith, ◌≡◌, ℕ, Result, Err, IfErr}
use Rattle.usb_world.specs.{World}
use Rattle.usb_transfer.specs.{FaultAfter, PipeFault}
use Rattle.usb_hub.specs.{ToldBus, done_or_unknown, EndsAfter}

-- where the bus gave up, it tells its fault
pub told_bus : {A : Type 0} (least : ℕ) (old : World) (answer : Result A PipeFault)
    (fault : PipeFault) (new : World) → EndsAfter least old answer new → answer ≡ Err fault
    → ToldBus (Err fault) new
told_bus least old answer fault new ends is = grind arith

pub told_done : (least : ℕ) (old : World) (answer : Result (Unit {0}) PipeFault) (new : World)
    → EndsAfter least old answer new → ToldBus (done_or_unknown answer) new
told_done least old answer new ends = grind arith

-- and any other fault came after as many attempts
pub done_fault_after : (least : ℕ) (old : World) (answer : Result (Unit {0}) PipeFault)
    (new : World) → EndsAfter least old answer new
    → IfErr (done_or_unknown answer) (λ fault. FaultAfter 1 old fault new)
done_fault_after least old answer new ends = grind arith
