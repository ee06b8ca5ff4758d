-- What serving through a buffer tells and writes.
use Rattle.std.proofs.Common.{◌≡◌, ◌≢◌, ◌∙◌, refl, sym, ap, subst, ℕ, List, Option, Some, Result}
use Rattle.std.proofs.Common.{Ok, Err, OnOk, OnErr, IfErr, IfSome, Bool, true, false, is_err}
use Rattle.std.specs.Io.KnownBytes.{Keeps}
use Rattle.usb_watch.specs.{WriteFailed}
use Rattle.usb_world.specs.{PlanData, World}
use Rattle.usb_world.specs.declared.types.BusFault.TheVariants as bus
use Rattle.usb_plan.specs.{spelled_plan}
use Rattle.usb_run.specs.{IsCaused, Mode, RunFault, Tree}
use Rattle.usb_serve.specs.{IsCausedInTree, IsOfRun, IsUnread, IsWritten, LeavesFront, MarksWrite}
use Rattle.usb_serve.specs.{MarksWriter, Reads, ServeFault, Serves, ServesThrough, all, cut}
use Rattle.usb_serve.specs.{of_plan, unread, writer_fault}
use Rattle.usb_serve.specs.declared.serving.ServeFault.TheVariants as serve
use Rattle.usb_serve.proofs.Refused.{no_tree_trace}
use Rattle.usb_serve.proofs.WrittenEnough.{written_enough}

-- no plan was read
pub reads_failed : {A : Type 0} {text : Option (List ℕ)} {torn : Bool} (fault : ServeFault)
    → Reads {A = A} text (Err fault) torn → Reads {A = Unit {0}} text (Err fault) torn
reads_failed {A} fault r = record {
  read = λ is. r.read (cc is);
  whole = λ other. r.whole (λ is. other (cc is));
  too_long = λ is. r.too_long (cc is);
}

-- a plan was read, and no fault of a run is one of its text
pub reads_run : {text : Option (List ℕ)} {torn : Bool} {result : Result (Unit {0}) ServeFault}
    (plan : PlanData) → Reads text (Ok plan) torn → IsOfRun result → Reads text result torn
reads_run {result = result} plan r of_run = record {
  read = λ is. absurd (subst IsOfRun is of_run);
  whole = λ other. r.whole (λ is. cc is);
  too_long = λ is. absurd (subst IsOfRun is of_run);
}

-- a plan was read, and served in its mode
pub served_plan : {mode : Mode} {text before now : Option (List ℕ)} {torn failed : Bool}
    {result : Result (Unit {0}) ServeFault} (m : Mode) → mode ≡ m → (plan : PlanData)
    → Reads text (Ok plan) torn → IfSome text (λ t. spelled_plan t ≡ Ok plan) → IsOfRun result
    → MarksWriter m result failed → IsWritten m plan before result now
    → Serves mode text torn before result failed now
served_plan {text = text} {before} {now} {torn} {failed} {result} m is plan reads spelled of_run
    marks written =
    subst (λ x. Serves x text torn before result failed now) (sym is) (record {
      reads = reads_run plan reads of_run;
      writer = marks;
      served = of_plan plan spelled of_run written
          (written_enough m plan before now result written);
    })

-- where no trace is made, none fails
pub marks_tree : {plan : PlanData} {before now : Option (List ℕ)} {fresh failed : Bool}
    (result : Result (Unit {0}) ServeFault) → MarksWrite result fresh failed → fresh ≡ false
    → IsWritten Tree plan before result now → MarksWriter Tree result failed
marks_tree {plan} {before} {now} result marks unfailed written = record {
  write = marks.write;
  trace = λ is. absurd (no_tree_trace plan before now
      (subst (λ r. IsWritten Tree plan before r now) is written));
  at_limit = λ is. marks.kept (λ e. cc (e, is)) ∙ unfailed;
}

-- the cause of a fault, where the bus did not fail
pub caused_untraced : {A : Type 0} (result : Result A RunFault) (w : World)
    → IfErr result (λ fault. IsCaused fault w) → w.fault ≢ Some bus.Failed
    → IfErr result (λ fault. IsCausedInTree (serve.Run fault) w)
caused_untraced (Ok done) w caused other = tt
caused_untraced (Err fault) w caused other =
    (λ is. other (subst (λ f. IsCaused f w) is caused), caused)

-- a fault that is told before any run is none of the writer's
pub unwritten_reader : (text : Option (List ℕ)) {failed : Bool} (mode : Mode) (fault : ServeFault)
    → IsUnread text fault → MarksWriter mode (Err fault) failed
unwritten_reader text mode fault why = record {
  write = λ is. absurd (subst (λ r. OnFault text r) is why);
  trace = λ is. absurd (subst (λ r. OnFault text r) is why);
  at_limit = λ is. absurd (subst (λ r. OnFault text r) is why);
}
  where
    OnFault : Option (List ℕ) → Result (Unit {0}) ServeFault → Type 0
    OnFault text (Ok done) = Unit {0}
    OnFault text (Err fault) = IsUnread text fault

-- what it is as if, where a writer had failed before and nothing was read: the reader's fault where
-- that had failed too, else memory was refused
abbrev fault_before : Bool → ServeFault
fault_before true = serve.Read
fault_before false = serve.Memory

reads_before : (text : Option (List ℕ)) (torn : Bool)
    → Reads {A = Unit {0}} text (Err (fault_before torn)) torn
reads_before text true = record {
  read = λ is. refl;
  whole = λ other. absurd (other refl);
  too_long = λ is. absurd (cc is);
}
reads_before text false = record {
  read = λ is. absurd (cc is);
  whole = λ other. refl;
  too_long = λ is. absurd (cc is);
}

unread_before : (text : Option (List ℕ)) (torn : Bool) → IsUnread text (fault_before torn)
unread_before text true = tt
unread_before text false = tt

write_before : (torn : Bool) → writer_fault (Err (fault_before torn)) ≡ serve.Write
write_before true = refl
write_before false = refl

-- the writer had failed before
pub failed_before : (mode : Mode) (text before now : Option (List ℕ)) (torn failed : Bool)
    → failed ≡ true → LeavesFront before now
    → ServesThrough mode text torn before (Err serve.Write) failed now
failed_before mode text before now torn failed marked front =
    let none = unread_before text torn in
    record {
      told = Err (fault_before torn);
      marked = true;
      written = before;
      serves = record {
        reads = reads_before text torn;
        writer = unwritten_reader text mode (fault_before torn) none;
        served = unread (fault_before torn) refl none refl;
      };
      out = cut marked (ap Err (sym (write_before torn))) front;
    }

-- what waited was let out
pub through : {mode : Mode} {text before written : Option (List ℕ)} {torn marked : Bool}
    {told : Result (Unit {0}) ServeFault} → Serves mode text torn before told marked written
    → (out : Result (Unit {0}) WriteFailed) (result : Result (Unit {0}) ServeFault) (failed : Bool)
    (now : Option (List ℕ)) → failed ≡ is_err out → (marked ≡ true → failed ≡ true)
    → OnOk out (result ≡ told) → OnErr out (result ≡ Err (writer_fault told))
    → OnOk out (Keeps written now) → LeavesFront written now
    → ServesThrough mode text torn before result failed now
through {mode} {text} {before} {written} {torn} {marked} {told} serves (Ok done) result failed now
    mark stays same other kept front =
    record {
      told = told;
      marked = marked;
      written = written;
      serves = serves;
      out = all (unmarked marked stays) mark same kept;
    }
  where
    unmarked : (m : Bool) → (m ≡ true → failed ≡ true) → m ≡ false
    unmarked true stays = sym (stays refl) ∙ mark
    unmarked false stays = refl
through {mode} {text} {before} {written} {torn} {marked} {told} serves (Err e) result failed now
    mark stays same other kept front =
    record {
      told = told;
      marked = marked;
      written = written;
      serves = serves;
      out = cut mark other front;
    }
