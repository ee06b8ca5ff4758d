-- A control transfer attempts nothing but at endpoint 0.
use Rattle.std.proofs.Common.{arith, ℕ, Result}
use Rattle.std.specs.Global.{Vec}
use Rattle.usb_request.specs.{Setup}
use Rattle.usb_world.specs.{World}
use Rattle.usb_world.proofs.Interface.{course_wider}
use Rattle.usb_transfer.specs.{Target, PipeFault, IsNoBusFault}
use Rattle.usb_transfer.proofs.Interface.{read_attempts, write_attempts}
use Rattle.usb_hub.specs.{Commanded, ControlCourse, Queried}

pub queried_control : (t : Target) (request : Setup) (answer : Result (Vec ℕ) PipeFault)
    (old new : World) → Queried t request old answer new → IsNoBusFault answer
    → ControlCourse old new
queried_control t request answer old new asked sound = grind (arith, course_wider, read_attempts)

pub commanded_control : (t : Target) (request : Setup) (result : Result (Unit {0}) PipeFault)
    (old new : World) → Commanded t request old result new → IsNoBusFault result
    → ControlCourse old new
commanded_control t request result old new ordered sound =
    grind (arith, course_wider, write_attempts)
