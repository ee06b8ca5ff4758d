-- Where received data go on.
use Rattle.std.proofs.Common.{◌≡◌, List, ℕ, Option, Result, Ok, Err, Some, None, sym, subst, ◌∙◌}
use Rattle.std.specs.Prelude.{IfNone, IfSome, OnOk}
use Rattle.std.proofs.lemmas.Option.{same_Some}
use Rattle.usb_verdict.specs.{bytes_in}
use Rattle.usb_judge.specs.{HasNoPlace, IsAfter}
use Rattle.usb_judge.specs.declared.window.Window.{Window}
use Rattle.usb_far.specs.{Played}
use Rattle.usb_world.specs.{World}
use Rattle.usb_bench.specs.{AfterDigits, AfterReport, Kept, ReadsReport, Report, ReportLine}
use Rattle.usb_bench.specs.{path_in}
use Rattle.usb_bench.specs.declared.judge.Judge.{Judge}
use Rattle.usb_bench.specs.declared.received.Receipt.{Receipt}

-- the window after the bytes that digits spell
after_data : (source digits bytes : List ℕ) (w : Window) (after : Option Window)
    → bytes_in digits ≡ Some bytes → IfSome after (IsAfter source bytes w)
    → IfNone after (HasNoPlace source bytes w) → AfterDigits source digits w after
after_data source digits bytes w None is some none =
    λ (other : List ℕ) (there : bytes_in digits ≡ Some other).
    subst (λ (b : List ℕ). HasNoPlace source b w) (same_Some bytes other (sym is ∙ there)) none
after_data source digits bytes w (Some new) is some none = (bytes, is, some)

-- the same as the function has it
pub after_data_of : (source given digits bytes read : List ℕ) (w at : Window)
    (after : Option Window) → given ≡ source → at ≡ w → read ≡ bytes
    → bytes_in digits ≡ Some bytes → IfSome after (IsAfter given read at)
    → IfNone after (HasNoPlace given read at) → AfterDigits source digits w after
after_data_of source given digits bytes read w at after here there same is some none =
    subst (λ (s : List ℕ). AfterDigits s digits w after) here
    (subst (λ (v : Window). AfterDigits given digits v after) there
    (after_data given digits read at after
    (subst (λ (b : List ℕ). bytes_in digits ≡ Some b) (sym same) is) some none))

-- a line that reports something, as the function has it
pub report_line : (line path : List ℕ) (report : Report) (w : World) (receipts : List Receipt)
    (after : Option Window) (j new_judge : Judge) (old new : Played)
    → ReadsReport line (Some report) → w ≡ old.far.world → receipts ≡ j.receipts.items
    → path ≡ path_in report → AfterReport w receipts report after
    → Kept path j old after new_judge new → ReportLine line j old new_judge new
report_line line path report w receipts after j new_judge old new reads world there is then kept =
    record {
      read = Some report;
      reads = reads;
      taken = (
        after,
        subst (λ (v : World). AfterReport v j.receipts.items report after) world
            (subst (λ (rs : List Receipt). AfterReport w rs report after) there then),
        subst (λ (p : List ℕ). Kept p j old after new_judge new) is kept,
      );
    }

pub on_ok : {T E P Q : Type 0} (r : Result T E) → (P → Q) → OnOk r P → OnOk r Q
on_ok (Ok x) f p = f p
on_ok (Err e) f p = p
