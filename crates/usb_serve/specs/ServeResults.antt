-- What serving a plan tells and writes.
use Rattle.std.specs.Prelude.{◌≡◌, ◌≢◌, Bool, true, false, Some, Result, Ok, Err, IsErrOf}
use Rattle.usb_world.specs.{World, BusFault}
use Rattle.usb_world.specs.declared.types.BusFault.TheVariants as bus
use Rattle.usb_serve.specs.declared.input.InputFault.{InputFault}
use Rattle.usb_serve.specs.declared.input.InputFault.TheVariants as input
use Rattle.usb_run.specs.declared.runs.RunFault.TheVariants as run
use Rattle.usb_run.specs.{IsCaused, Mode}
use Rattle.usb_run.specs.declared.mode.Mode.TheVariants as modes
use Rattle.usb_serve.specs.declared.serving.ServeFault.{ServeFault}
use Rattle.usb_serve.specs.declared.serving.ServeFault.TheVariants.{Read, TooLong, Run, Write}
use Rattle.usb_serve.specs.declared.serving.ServeFault.TheVariants.{Memory}
use Rattle.usb_serve.specs.declared.serving.ServeFault.TheVariants as serve

abbrev pub input_fault : InputFault → ServeFault
input_fault input.Read = Read
input_fault input.TooLong = TooLong
input_fault input.Memory = Memory

-- what the fault of a line of report is to the one who is served
abbrev pub report_fault : BusFault → ServeFault
report_fault bus.Limit = Run run.LimitReached
report_fault bus.Memory = Run run.Memory
report_fault bus.Failed = Write

-- a fault that a run or its report can have: none of the reader's or of the plan's
abbrev pub IsFaultOfRun : ServeFault → Type 0
IsFaultOfRun Read = ⊥
IsFaultOfRun TooLong = ⊥
IsFaultOfRun (serve.Plan fault) = ⊥
IsFaultOfRun (Run fault) = Unit {0}
IsFaultOfRun Write = Unit {0}
IsFaultOfRun Memory = Unit {0}

abbrev pub IsOfRun : Result (Unit {0}) ServeFault → Type 0
IsOfRun (Ok done) = Unit {0}
IsOfRun (Err fault) = IsFaultOfRun fault

-- a writer is said to have failed only if it has, at the line of an attempt or an event only in
-- mode
-- Run, which alone has such lines; and if the limit was reached it has not
pub record MarksWriter (mode : Mode) (result : Result (Unit {0}) ServeFault) (failed : Bool) :
    Type 0 where
  pub write : IsErrOf result Write → failed ≡ true
  pub trace : IsErrOf result (Run run.TraceFailed) → (mode ≡ modes.Run) × (failed ≡ true)
  pub at_limit : IsErrOf result (Run run.LimitReached) → failed ≡ false

-- where a writer is told to have failed it has, and else its mark is as it was
pub record MarksWrite (result : Result (Unit {0}) ServeFault) (before now : Bool) : Type 0 where
  pub write : IsErrOf result Write → now ≡ true
  pub kept : result ≢ Err Write → now ≡ before

-- a fault that is told in mode Run has its cause in the run's world
abbrev pub IsCausedInRun : ServeFault → World → Type 0
IsCausedInRun Read w = ⊥
IsCausedInRun TooLong w = ⊥
IsCausedInRun (serve.Plan fault) w = ⊥
IsCausedInRun (Run fault) w = IsCaused fault w
IsCausedInRun Write w = w.fault ≡ Some bus.Failed
IsCausedInRun Memory w = Unit {0}

-- and so it is in mode Tree, where no trace is written
abbrev pub IsCausedInTree : ServeFault → World → Type 0
IsCausedInTree Read w = ⊥
IsCausedInTree TooLong w = ⊥
IsCausedInTree (serve.Plan fault) w = ⊥
IsCausedInTree (Run fault) w = (fault ≢ run.TraceFailed) × IsCaused fault w
IsCausedInTree Write w = Unit {0}
IsCausedInTree Memory w = Unit {0}
