-- Why a run ended: that a fault has its cause, and that the plan's limit stays the bus's.
use Rattle.std.proofs.Common.{◌≡◌, ◌≢◌, sym, subst, List, Bool, Some, Result, Ok, Err, IsErrAnd}
use Rattle.std.proofs.Common.{IfErr}
use Rattle.usb_world.specs.declared.types.BusFault.TheVariants as bus
use Rattle.usb_world.specs.{World}
use Rattle.usb_host.specs.{HostState}
use Rattle.usb_run.specs.{Item, RunFault, TraceFailed, Mode, IsCaused, RunsTo}
use Rattle.usb_run.proofs.courses.RunCourses.{over_run, spent_runs}

-- what is so of the fault that is told is so of the result
pub at_fault : {A E : Type 0} (P : Result A E → Type 0) (result : Result A E) (said : E)
    → IsErrAnd result (λ e. e ≡ said) → P (Err said) → P result
at_fault P (Ok done) said is p = absurd is
at_fault P (Err e) said is p = subst (λ x. P (Err x)) (sym is) p

-- no fault of a trace is told where the bus told none
pub untold_trace : {A : Type 0} (result : Result A RunFault) (w : World)
    → IfErr result (λ fault. IsCaused fault w) → w.fault ≢ Some bus.Failed
    → result ≢ Err TraceFailed
untold_trace {A} result w caused other is =
    other (subst (λ (r : Result A RunFault). IfErr r (λ fault. IsCaused fault w)) is caused)

-- the limit stays
pub run_limit : {A E : Type 0} (mode : Mode) (words : RunFault → E) (CutsAt : E → Type 0)
    (was : Bool) (old : HostState) (items : List Item) (result : Result A E) (new : HostState)
    → RunsTo mode words CutsAt was old items result new → new.world.limit ≡ old.world.limit
run_limit mode words CutsAt was old items result new ends =
    (over_run spent_runs mode words CutsAt was old items result new ends).1.limit
