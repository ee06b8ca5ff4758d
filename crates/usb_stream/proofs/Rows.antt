-- Rows of attempts, answer by answer.
use Rattle.std.proofs.Common.{◌≡◌, ◌∙◌, refl, sym, ap, subst, ℕ, ◌+◌, ◌-◌, ◌*◌, ◌<◌, ◌≤◌}
use Rattle.std.proofs.Common.{Bool, true, false, List, [], ◌++◌, length, drop}
use Rattle.std.proofs.Common.{None, Ok, Err, arith}
use Rattle.std.proofs.Common.{nat_eq, ◌≢◌}
use Rattle.std.proofs.lemmas.Bool.{eq-eqb, eqb-true}
use Rattle.usb_watch.specs.{OutPipe, Pipe}
use Rattle.usb_packet.specs.{Toggle, Zero, One, flips, other}
use Rattle.std.proofs.Common.{length-drop, lt_of_mul-lt-mul_right, min}
use Rattle.std.proofs.lemmas.Grind.{div_ceil_times}
use Rattle.std.proofs.lemmas.List.{drop_min, drop-drop}
use Rattle.std.specs.Int.{div_ceil}
use Rattle.usb_wire.specs.{Answer, Question}
use Rattle.usb_world.specs.{BusFault, Destination, Outcome}
use Rattle.usb_world.specs.declared.types.Outcome.TheVariants.{Payload}
use Rattle.usb_bus.specs.{Whole, Answered as EndAnswered, Faulted, is_full}
use Rattle.usb_stream.specs.{Kept, RowBy, RowHeard, RowPlan, RowStep, StepBy, bytes_in, ins_for}
use Rattle.usb_stream.specs.{ins_plan, LiveFault, bus_fault, none_heard, one_heard, outcome_for}
use Rattle.usb_stream.specs.{outs_for, outs_plan, streams, was_asked}

-- a full packet that is due
pub full_is : (max : ℕ) (due : Toggle) (bytes : List ℕ) → length bytes ≡ max
    → is_full max due (Payload due (record { items = bytes })) ≡ true
full_is max Zero bytes size = eq-eqb (length bytes) max size
full_is max One bytes size = eq-eqb (length bytes) max size

-- an answer of a row leaves no fault, and the version
step_sound : (b : Bool) (q : Question) (r0 r1 : Pipe) (w0 w1 : OutPipe) (j k : Kept)
    (got : Answer) → StepBy b q (streams r0 r1 w0 w1) j (Ok got) k → k.fault ≡ None
step_sound true q r0 r1 w0 w1 j k got h = h.sound
step_sound false q r0 r1 w0 w1 j k got h = h.sound

step_rows : (b : Bool) (q : Question) (r0 r1 : Pipe) (w0 w1 : OutPipe) (j k : Kept)
    (got : Answer) → StepBy b q (streams r0 r1 w0 w1) j (Ok got) k → k.rows ≡ j.rows
step_rows true q r0 r1 w0 w1 j k got h = h.rows
step_rows false q r0 r1 w0 w1 j k got h = h.rows

-- so many packets of a row were moved, of a bus that had no fault
pub record SoFar (plan : RowPlan) (r0 : Pipe) (w0 : OutPipe) (old : Kept) (moved : ℕ)
    (got : List ℕ) (r : Pipe) (w : OutPipe) (now : Kept) : Type 0 where
  pub heard : RowHeard plan r0 w0 old moved got r w now
  pub sound : now.fault ≡ None
  pub rows : now.rows ≡ old.rows

pub none_so_far : (plan : RowPlan) (r : Pipe) (w : OutPipe) (k : Kept) → k.fault ≡ None
    → SoFar plan r w k 0 [] r w k
none_so_far plan r w k sound = record { heard = none_heard; sound = sound; rows = refl }

pub one_so_far : (plan : RowPlan) (r0 : Pipe) (w0 : OutPipe) (old : Kept) (moved : ℕ)
    (got : List ℕ) (r r1 : Pipe) (w w1 : OutPipe) (j k : Kept) (answer : Answer) (q : Question)
    (outcome : Outcome)
    → SoFar plan r0 w0 old moved got r w j → q ≡ plan.ask moved
    → RowStep moved q (streams r r1 w w1) j (Ok answer) k
    → outcome ≡ outcome_for plan.max answer → plan.moves moved outcome ≡ true
    → SoFar plan r0 w0 old (moved + 1) (got ++ bytes_in outcome) r1 w1 k
one_so_far plan r0 w0 old moved got r r1 w w1 j k answer q outcome so is step told moves =
    let asked = subst (λ q. RowStep moved q (streams r r1 w w1) j (Ok answer) k) is step in
    let moving = subst (λ o. plan.moves moved o ≡ true) told moves in
    subst (λ o. SoFar plan r0 w0 old (moved + 1) (got ++ bytes_in o) r1 w1 k) (sym told) (record {
      heard = one_heard answer so.heard asked moving;
      sound = step_sound (was_asked moved j.ahead) q r r1 w w1 j k answer step;
      rows = step_rows (was_asked moved j.ahead) q r r1 w w1 j k answer step ∙ so.rows;
    })

-- the question that the plan has
pub ins_as_planned : (to : Destination) (first due : Toggle) (most moved left : ℕ) (a b : Bool)
    → a ≡ b → due ≡ flips moved first → left ≡ most - moved
    → ins_for a to due left ≡ (ins_plan b to first most).ask moved
ins_as_planned to first due most moved left a b rows turned few = rw (rows, turned, few) refl

pub outs_as_planned : (to : Destination) (first due : Toggle) (total rest : List ℕ) (moved : ℕ)
    (a b : Bool) → a ≡ b → due ≡ flips moved first → rest ≡ drop (moved * to.max) total
    → outs_for a to due rest ≡ (outs_plan b to first total).ask moved
outs_as_planned to first due total rest moved a b rows turned left =
    rw (rows, turned, left) refl

-- ---- how much of a row is left

pub rest_first : (total : List ℕ) (max : ℕ) → total ≡ drop (0 * max) total
rest_first total max =
    let none : 0 * max ≡ 0 = omega arith in
    let all : drop (0 * max) total ≡ total = ap (λ n. drop n total) none in sym all

pub rest_more : (total rest : List ℕ) (moved max k : ℕ) → rest ≡ drop (moved * max) total
    → k ≡ min (length rest) max → drop k rest ≡ drop ((moved + 1) * max) total
rest_more total rest moved max k left is =
    let size : k ≡ min max (length rest) = omega (arith, is) in
    let more : moved * max + max ≡ (moved + 1) * max = omega arith in
    ap (λ n. drop n rest) size ∙ drop_min max rest ∙ ap (drop max) left
    ∙ drop-drop max (moved * max) total ∙ ap (λ n. drop n total) more

pub left_size : (total rest : List ℕ) (n : ℕ) → rest ≡ drop n total
    → length rest ≡ length total - n
left_size total rest n left = ap length left ∙ length-drop n total

pub some_left : (total rest : List ℕ) (moved max : ℕ) → rest ≡ drop (moved * max) total
    → 0 < length rest → moved * max < length total
some_left total rest moved max left some =
    omega (arith, left_size total rest (moved * max) left, some)

pub few_moved : (total moved max : ℕ) → 1 ≤ max → moved * max < total → moved < div_ceil total max
few_moved total moved max least less =
    let c = div_ceil_times total max least in
    lt_of_mul-lt-mul_right max (omega (arith, c, less))

ceil_is : (a b n : ℕ) → 0 < b → a ≤ n * b → n * b < a + b → n ≡ div_ceil a b
ceil_is a b n some least most = grind (arith, div_ceil_times)

pub all_moved : (total rest : List ℕ) (moved max : ℕ) → 1 ≤ max
    → rest ≡ drop (moved * max) total → length rest ≡ 0 → moved * max < length total + max
    → moved ≡ div_ceil (length total) max
all_moved total rest moved max least left none less =
    ceil_is (length total) max moved least
    (omega (arith, left_size total rest (moved * max) left, none)) less

-- ---- the end of a row of INs

pub full_moves : (max moved : ℕ) (first due : Toggle) (outcome : Outcome) (bytes : List ℕ)
    → due ≡ flips moved first → outcome ≡ Payload due (record { items = bytes })
    → length bytes ≡ max → is_full max (flips moved first) outcome ≡ true
full_moves max moved first due outcome bytes turned is size =
    subst (λ o. is_full max (flips moved first) o ≡ true) (sym is)
    (subst (λ t. is_full max t (Payload due (record { items = bytes })) ≡ true) turned
    (full_is max due bytes size))

pub not_full : (max moved : ℕ) (first due : Toggle) (outcome : Outcome) → due ≡ flips moved first
    → is_full max due outcome ≡ false → is_full max (flips moved first) outcome ≡ false
not_full max moved first due outcome turned other =
    subst (λ t. is_full max t outcome ≡ false) turned other

-- the row that was made, where it is whole, where an answer ended it, and where a fault did
pub row_whole : (plan : RowPlan) (most moved : ℕ) (r0 r : Pipe) (w0 w : OutPipe) (old k : Kept)
    (got : List ℕ) → SoFar plan r0 w0 old moved got r w k → moved ≡ most
    → RowBy plan most (streams r0 r w0 w) old (record { moved = moved; end = Whole }) got k
row_whole plan most moved r0 r w0 w old k got so all = record {
  mid = r;
  between = w;
  kept = k;
  heard = so.heard;
  ends = (all, record { same = refl; unread = refl; unwritten = refl });
}

pub row_whole_at : (plan : RowPlan) (most moved n : ℕ) (r0 r : Pipe) (w0 w : OutPipe)
    (old k : Kept) (got : List ℕ) → SoFar plan r0 w0 old moved got r w k → moved ≡ most
    → n ≡ moved
    → RowBy plan most (streams r0 r w0 w) old (record { moved = n; end = Whole }) got k
row_whole_at plan most moved n r0 r w0 w old k got so all e =
    subst (λ x. RowBy plan most (streams r0 r w0 w) old (record { moved = x; end = Whole }) got k)
    (sym e) (row_whole plan most moved r0 r w0 w old k got so all)

pub row_answered : (plan : RowPlan) (most moved : ℕ) (r0 r r1 : Pipe) (w0 w w1 : OutPipe)
    (old j k : Kept) (got : List ℕ) (q : Question) (answer : Answer) (outcome : Outcome)
    → SoFar plan r0 w0 old moved got r w j → moved < most → q ≡ plan.ask moved
    → RowStep moved q (streams r r1 w w1) j (Ok answer) k
    → outcome ≡ outcome_for plan.max answer → plan.moves moved outcome ≡ false
    → RowBy plan most (streams r0 r1 w0 w1) old
    (record { moved = moved; end = EndAnswered outcome }) got k
row_answered plan most moved r0 r r1 w0 w w1 old j k got q answer outcome so less is step told
    stops = record {
      mid = r;
      between = w;
      kept = j;
      heard = so.heard;
      ends = (
        less,
        record {
          answer = answer;
          asked = subst (λ q. RowStep moved q (streams r r1 w w1) j (Ok answer) k) is step;
          is = told;
          stops = stops;
        },
      );
    }

pub row_failed : (plan : RowPlan) (most moved : ℕ) (r0 r r1 : Pipe) (w0 w w1 : OutPipe)
    (old j k : Kept) (got : List ℕ) (q : Question) (f : LiveFault) (told : BusFault)
    → SoFar plan r0 w0 old moved got r w j → moved < most → q ≡ plan.ask moved
    → RowStep moved q (streams r r1 w w1) j (Err f) k → told ≡ bus_fault f
    → RowBy plan most (streams r0 r1 w0 w1) old (record { moved = moved; end = Faulted told }) got
    k
row_failed plan most moved r0 r r1 w0 w w1 old j k got q f told so less is step same = record {
  mid = r;
  between = w;
  kept = j;
  heard = so.heard;
  ends = (
    less,
    record {
      f = f;
      asked = subst (λ q. RowStep moved q (streams r r1 w w1) j (Err f) k) is step;
      is = same;
    },
  );
}

pub zero_of : (n : ℕ) (b : Bool) → b ≡ nat_eq n 0 → b ≡ true → n ≡ 0
zero_of n b is e = eqb-true n 0 (sym is ∙ e)
