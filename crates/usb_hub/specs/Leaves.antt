-- What transactions and transfers leave, whatever their answers are.
use Rattle.std.specs.Prelude.{◌≡◌, false, Result, Ok, Err}
use Rattle.usb_world.specs.{World}
use Rattle.usb_transfer.specs.{TransFault, Stalled, Busy, NoAnswer, Bus, PipeFault}
use Rattle.usb_transfer.specs.declared.fault.PipeFault.TheVariants as pipe

-- where the bus gave up, only that no address was held twice
abbrev pub LeavesTrans : {A : Type 0} → (World → Type 0) → Result A TransFault → World → Type 0
LeavesTrans P (Ok x) w = P w
LeavesTrans P (Err Stalled) w = P w
LeavesTrans P (Err Busy) w = P w
LeavesTrans P (Err NoAnswer) w = P w
LeavesTrans P (Err (Bus fault)) w = w.shared ≡ false

-- the same of a call of a pipe; where memory was refused for its bytes, the bus goes on
abbrev pub LeavesPipe : {A : Type 0} → (World → Type 0) → Result A PipeFault → World → Type 0
LeavesPipe P (Ok x) w = P w
LeavesPipe P (Err pipe.Stalled) w = P w
LeavesPipe P (Err pipe.Busy) w = P w
LeavesPipe P (Err pipe.NoAnswer) w = P w
LeavesPipe P (Err pipe.Broken) w = P w
LeavesPipe P (Err (pipe.Bus fault)) w = w.shared ≡ false
LeavesPipe P (Err pipe.Memory) w = P w
