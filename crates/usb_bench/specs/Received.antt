-- The data that a host reports to have received, and what the judge says of them.
use Rattle.std.specs.Prelude.{◌≡◌, ◌-◌, ◌^◌, ℕ, ◌+◌, ◌==◌, ◌&&◌, ◌||◌, nat_le, not, Bool, true}
use Rattle.std.specs.Prelude.{false, List, [], ◌∷◌, ◌++◌, length, codes, filter, map, if◌then◌else◌}
use Rattle.std.specs.Prelude.{Option, None, Some, min, slice_index_or}
use Rattle.std.specs.List.{find, ends_with}
use Rattle.std.specs.Option.{option_map_or}
use Rattle.std.specs.Str.{IsUtf8, bytes_eq}
use Rattle.usb_port.specs.{path_of}
use Rattle.usb_request.specs.{SET_ADDRESS, SET_CONFIGURATION, SET_INTERFACE}
use Rattle.usb_device.specs.{device_there}
use Rattle.usb_world.specs.{World}
use Rattle.usb_world.specs.declared.types.Attempt.{Attempt}
use Rattle.usb_world.specs.declared.types.Attempt.TheVariants.{Setup, Out, In}
use Rattle.usb_far.specs.{Played}
use Rattle.usb_verdict.specs.{bytes_in, cut_space}
use Rattle.usb_judge.specs.{HasNoPlace, IsAfter, after_clear, after_loss, at_plug, data_text}
use Rattle.usb_judge.specs.declared.window.Window.{Window}
use Rattle.usb_bench.specs.declared.judge.Judge.{Judge}
use Rattle.usb_bench.specs.declared.received.Receipt.{Receipt}
use Rattle.usb_bench.specs.declared.received.Report.{Report as ReportRead}
use Rattle.usb_bench.specs.declared.received.Report.TheVariants as read
use Rattle.usb_bench.specs.Said.{Says}

-- What a line reports

-- of the first bulk IN endpoint of the device at a path
pub data Report : Type 0 where
  data_at : List ℕ → List ℕ → Report  -- these digits came
  lost : List ℕ → Report  -- some may have come that are not reported
  cleared : List ℕ → Report  -- its halt was cleared

abbrev pub report_view : ReportRead → Report
report_view (read.Data path digits) = data_at path digits.now
report_view (read.Lost path) = lost path
report_view (read.Cleared path) = cleared path

-- `done HEX`; all else may lose data: a failed receive, one of an endpoint that is named, and more
-- digits than a line has room for
abbrev pub done_at : List ℕ → List ℕ → List ℕ → Report
done_at path word digits =
    if bytes_eq word (codes "done") && nat_le (length digits) 1000 then data_at path digits
    else lost path

abbrev pub outcome_at : List ℕ → Option (List ℕ × List ℕ) → Report
outcome_at path None = lost path
outcome_at path (Some cut) = done_at path cut.0 cut.1

abbrev pub received_at : List ℕ → List ℕ → Report
received_at path outcome = outcome_at path (cut_space outcome)

-- `done`, or `EP done`
abbrev pub cleared_at : List ℕ → List ℕ → Option Report
cleared_at path outcome =
    if ends_with (λ a b. a == b) outcome (codes "done") then Some (cleared path) else None

abbrev pub reported_at : List ℕ → List ℕ → Option (List ℕ) → Option Report
reported_at word outcome None = None
reported_at word outcome (Some path) =
    if bytes_eq word (codes "receive") then Some (received_at path outcome)
    else if bytes_eq word (codes "clear") then cleared_at path outcome
    else None

abbrev pub behind_word : List ℕ → Option (List ℕ × List ℕ) → Option Report
behind_word word None = None
behind_word word (Some cut) = reported_at word cut.1 (path_of cut.0)

abbrev pub report_of : Option (List ℕ × List ℕ) → Option Report
report_of None = None
report_of (Some cut) = behind_word cut.0 (cut_space cut.1)

-- `receive PATH OUTCOME` or `clear PATH OUTCOME`
unfoldable pub report_in : List ℕ → Option Report
report_in line = report_of (cut_space line)

-- what is read of a line: nothing of one that is no text
pub record ReadsReport (line : List ℕ) (read : Option Report) : Type 0 where
  pub text : IsUtf8 line → read ≡ report_in line
  pub none : (IsUtf8 line → ⊥) → read ≡ None

-- Where the data go on

-- any place of a source
abbrev pub anywhere : Window
anywhere = record { least = 0; most = 2 ^ 64 - 1 }

-- what the device at a path gives; nothing where none is plugged
abbrev pub source_at : World → List ℕ → List ℕ
source_at w path = option_map_or (λ d. d.own.spec.source) (device_there w.roots path) []

abbrev pub is_at : List ℕ → Receipt → Bool
is_at path r = bytes_eq r.path path

-- at the source's beginning, where nothing was reported of it
abbrev pub window_at : List Receipt → List ℕ → Window
window_at receipts path = option_map_or (λ r. r.window) (find (is_at path) receipts) at_plug

-- the window after these digits; None where the source goes on with them from no place of it
abbrev pub AfterDigits : List ℕ → List ℕ → Window → Option Window → Type 0
AfterDigits source digits w None =
    (bytes : List ℕ) → bytes_in digits ≡ Some bytes → HasNoPlace source bytes w
AfterDigits source digits w (Some new) =
    (bytes : List ℕ) × (bytes_in digits ≡ Some bytes) × IsAfter source bytes w new

abbrev pub path_in : Report → List ℕ
path_in (data_at path digits) = path
path_in (lost path) = path
path_in (cleared path) = path

-- the device at a path gives its source: no row of the plan says what its endpoints give
abbrev pub gives_source : World → List ℕ → Bool
gives_source w path =
    option_map_or (λ d. length d.own.spec.endpoints == 0) (device_there w.roots path) true

-- where it does not, the data are not judged
abbrev pub AfterData : Bool → List ℕ → List ℕ → Window → Option Window → Type 0
AfterData true source digits w after = AfterDigits source digits w after
AfterData false source digits w after = after ≡ Some anywhere

-- the window after a report
abbrev pub AfterReport : World → List Receipt → Report → Option Window → Type 0
AfterReport w receipts (data_at path digits) after =
    AfterData (gives_source w path) (source_at w path) digits (window_at receipts path) after
AfterReport w receipts (lost path) after =
    after ≡ Some (after_loss (source_at w path) (window_at receipts path))
AfterReport w receipts (cleared path) after = after ≡ Some (after_clear (window_at receipts path))

-- What the judge does

abbrev pub with_window : List Receipt → List ℕ → Window → List Receipt
with_window receipts path w =
    filter (λ r. not (is_at path r)) receipts ++ record { path = path; window = w } ∷ []

-- one fault more, as far as 64 bits go
abbrev pub with_fault : ℕ → ℕ
with_fault faults = min (faults + 1) (2 ^ 64 - 1)

-- the window is kept
pub record KeepsWindow (path : List ℕ) (w : Window) (j new_judge : Judge) : Type 0 where
  pub receipts : new_judge.receipts.items ≡ with_window j.receipts.items path w
  pub rest : new_judge ≡ record j { faults = new_judge.faults; receipts = new_judge.receipts }

-- of other data a line goes to the trace, and all that follows may stand anywhere
abbrev pub Kept : List ℕ → Judge → Played → Option Window → Judge → Played → Type 0
Kept path j old (Some w) new_judge new =
    KeepsWindow path w j new_judge × (new_judge.faults ≡ j.faults) × (new ≡ old)
Kept path j old None new_judge new =
    KeepsWindow path anywhere j new_judge × (new_judge.faults ≡ with_fault j.faults)
    × Says old (data_text old.far.world.attempts path ∷ []) new

-- a line that stands alone
abbrev pub ReportTaken : Option Report → Judge → Played → Judge → Played → Type 0
ReportTaken None j old new_judge new = (new_judge ≡ j) × (new ≡ old)
ReportTaken (Some report) j old new_judge new =
    (after : Option Window) × AfterReport old.far.world j.receipts.items report after
    × Kept (path_in report) j old after new_judge new

pub record ReportLine (line : List ℕ) (j : Judge) (old : Played) (new_judge : Judge)
    (new : Played) : Type 0 where
  pub read : Option Report
  pub reads : ReadsReport line read
  pub taken : ReportTaken read j old new_judge new

-- What an attempt says of where data go on

abbrev pub widened : Bool → Receipt → Receipt
widened true r = record r { window = after_clear r.window }
widened false r = record r { window = anywhere }

-- by bRequest: a device that gets its address may be a new one at its port; toggles begin anew
-- where a device is configured, or its interface is set (9.4.6, 9.4.7, 9.4.10)
abbrev pub begun_by : ℕ → List Receipt → List Receipt
begun_by request receipts =
    if request == SET_ADDRESS then map (widened false) receipts
    else if request == SET_CONFIGURATION || request == SET_INTERFACE
    then map (widened true) receipts
    else receipts

abbrev pub begun_anew : Attempt → List Receipt → List Receipt
begun_anew (Setup to bytes) receipts = begun_by (slice_index_or bytes 1 0) receipts
begun_anew (Out to toggle bytes) receipts = receipts
begun_anew (In to) receipts = receipts
