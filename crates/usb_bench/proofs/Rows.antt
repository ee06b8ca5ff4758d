-- The attempts of a row, one behind the other.
use Rattle.std.proofs.Common.{◌≡◌, ℕ, ◌<◌, Option, Some, None, refl, sym, ◌∙◌}
use Rattle.usb_watch.specs.{OutPipe}
use Rattle.usb_wire.specs.{IsQuestion, Question}
use Rattle.usb_far.specs.{Played}
use Rattle.usb_far.proofs.Lines.{row_less, row_size}
use Rattle.usb_bench.specs.{AllJudged, BenchFault, IsUnforeseen, NoReply, OneAnswered, RowJudged}
use Rattle.usb_bench.specs.{PlacedUnreplied, RowStops}
use Rattle.usb_bench.specs.declared.fault.BenchFault.TheVariants as fault
use Rattle.usb_bench.specs.declared.judge.Judge.{Judge}

-- less is left
pub row_shrinks : (last : ℕ) (q more : Question) (j new_judge : Judge) (old new : Played)
    (before now : OutPipe) (rest : Option Question) → IsQuestion q
    → OneAnswered last q j old before rest new_judge new now → rest ≡ Some more
    → row_size more < row_size q
row_shrinks last q more j new_judge old new before now rest h a is =
    row_less q a.one.behind.seen a.one.behind.replied a.reply more h a.one.behind.replies
    (sym a.left ∙ is)

pub row_goes_on : (last : ℕ) (asked q more : Question) (j mid_judge new_judge : Judge)
    (old mid new : Played) (before w now : OutPipe) (rest : Option Question)
    → RowJudged last asked j old before mid_judge mid w q
    → OneAnswered last q mid_judge mid w rest new_judge new now → rest ≡ Some more
    → RowJudged last asked j old before new_judge new now more
row_goes_on last asked q more j mid_judge new_judge old mid new before w now rest front a is =
    RowJudged.further front a.one (sym a.left ∙ is)

pub row_over : (last : ℕ) (asked q : Question) (j mid_judge new_judge : Judge)
    (old mid new : Played) (before w now : OutPipe) (rest : Option Question)
    → RowJudged last asked j old before mid_judge mid w q
    → OneAnswered last q mid_judge mid w rest new_judge new now → rest ≡ None
    → AllJudged last asked j old before new_judge new now
row_over last asked q j mid_judge new_judge old mid new before w now rest front a is = record {
  mid_judge = mid_judge;
  mid = mid;
  w = w;
  left = q;
  reply = a.reply;
  front = front;
  one = a.one;
  over = sym a.left ∙ is;
}

pub row_stops : (last : ℕ) (asked q : Question) (j mid_judge : Judge) (old mid new : Played)
    (before w now : OutPipe) (f : BenchFault)
    → RowJudged last asked j old before mid_judge mid w q
    → NoReply last q mid_judge mid w new now f → RowStops last asked j old before f new now
row_stops last asked q j mid_judge old mid new before w now f front none = record {
  mid_judge = mid_judge;
  mid = mid;
  w = w;
  left = q;
  front = front;
  stops = none;
}

-- nothing was asked of the far end
pub unforeseen_stops : (last : ℕ) (q : Question) (j : Judge) (old new : Played) (w : OutPipe)
    (f : BenchFault) → IsUnforeseen last q old new f → PlacedUnreplied last q j old w new w f
unforeseen_stops last q j old new w fault.NoRest h = PlacedUnreplied.restless h.2 h.0 h.1 refl
unforeseen_stops last q j old new w fault.OtherPlan h =
    PlacedUnreplied.unsaid fault.OtherPlan h refl
unforeseen_stops last q j old new w fault.Memory h = PlacedUnreplied.unsaid fault.Memory h refl
unforeseen_stops last q j old new w (fault.Far why) h =
    PlacedUnreplied.unsaid (fault.Far why) h refl
