-- Rows of INs over what was heard, and their answers.
use Rattle.std.proofs.Common.{◌≡◌, ◌≢◌, ◌∙◌, ℕ, zero, suc, nat_eq, Bool, ◌+◌, ◌-◌, ◌*◌, ◌/◌}
use Rattle.std.proofs.Common.{◌%◌, ◌<◌, ◌≤◌, List, []}
use Rattle.std.proofs.Common.{◌∷◌, ◌++◌, length, Result, Ok, Err, Some, refl, sym, ap, subst, arith}
use Rattle.std.proofs.Common.{append_assoc, length-append, false, true}
use Rattle.std.proofs.Math.Nat.{div-add-mod}
use Rattle.std.proofs.lemmas.Bool.{eqb-true}
use Rattle.usb_bus.specs.{Answered, Faulted, is_full}
use Rattle.usb_packet.specs.{Toggle, flips, other}
use Rattle.usb_packet.proofs.Interface.{flips_next, flips_none}
use Rattle.usb_world.specs.{BusFault, Destination, Outcome}
use Rattle.usb_world.specs.declared.types.Attempt.TheVariants.{In}
use Rattle.usb_world.specs.declared.types.Outcome.TheVariants.{Payload}
use Rattle.usb_dialogue.specs.{FullHeard, HearsIns, row_asked, IsQuestion, asked_on, attempt_gives}
use Rattle.usb_dialogue.specs.{ArePackets, CameFirst, packet_answer, row_max, Answer, Question}
use Rattle.usb_dialogue.specs.HeardRows.{one_heard}
use Rattle.usb_dialogue.specs.RowAnswers.{no_packet, nothing_first, one_packet, packets_first}
use Rattle.usb_dialogue.specs.declared.progress.Progress.{Progress}
use Rattle.usb_dialogue.specs.declared.question.Question.TheVariants.{Attempt, Set, Clear, Restart}
use Rattle.usb_dialogue.specs.declared.question.Question.TheVariants.{Ins}

-- ---- over what was heard

module _ (answers heard : List Answer) (to : Destination) (first due : Toggle) (most moved : ℕ)
    (old p new : Progress) (got : List ℕ) (r : Result Outcome BusFault) (same : heard ≡ answers)
    (turned : due ≡ flips moved first) (full : FullHeard answers to first most old moved got p)
    (gives : r ≡ attempt_gives heard p (In to))
    (asks : new ≡ asked_on heard p (Ins to due (most - moved))) where
  asks_row : new ≡ row_asked answers to first most moved p
  asks_row = asks ∙ ap (λ x. asked_on x p (Ins to due (most - moved))) same
      ∙ ap (λ t. asked_on answers p (Ins to t (most - moved))) turned

  row_gives : attempt_gives answers p (In to) ≡ r
  row_gives = ap (λ x. attempt_gives x p (In to)) (sym same) ∙ sym gives

  -- a full packet that was due goes on with the row
  pub heard_more : (bytes now : List ℕ) → r ≡ Ok (Payload due (record { items = bytes }))
      → length bytes ≡ to.max → now ≡ got ++ bytes
      → FullHeard answers to first most old (moved + 1) now new
  heard_more bytes now is size grown =
      let given : attempt_gives answers p (In to)
      ≡ Ok (Payload (flips moved first) (record { items = bytes })) =
      row_gives ∙ is ∙ ap (λ t. Ok (Payload t (record { items = bytes }))) turned in
      rw (grown, asks_row) (one_heard bytes full given size)

  -- and all else ends it
  pub ends_answered : (x : Outcome) (now : List ℕ) → moved < most → r ≡ Ok x
      → is_full to.max due x ≡ false → now ≡ got
      → HearsIns answers to first most old (record { moved = moved; end = Answered x }) now new
  ends_answered x now less is short kept = record {
    mid = p;
    came = subst (λ z. FullHeard answers to first most old moved z p) (sym kept) full;
    ends = (
      less,
      ap (λ t. is_full to.max t x) (sym turned) ∙ short,
      row_gives ∙ is,
      asks_row,
    );
  }

  pub ends_faulted : (f : BusFault) → moved < most → r ≡ Err f
      → HearsIns answers to first most old (record { moved = moved; end = Faulted f }) got new
  ends_faulted f less is = record {
    mid = p;
    came = full;
    ends = (less, row_gives ∙ is, asks_row);
  }

-- ---- a question that waits

pub row_max-fits : (roots : ℕ) (q : Question) → IsQuestion roots q → row_max (Some q) ≤ 64
row_max-fits roots (Attempt a) is = omega arith
row_max-fits roots (Set port feature) is = omega arith
row_max-fits roots (Clear port feature) is = omega arith
row_max-fits roots (Restart address endpoint) is = omega arith
row_max-fits roots (Ins to toggle most) is = is.0.most

-- ---- an answer to a row

-- the bytes were cut so far into packets, and these are left
pub record Cut (first : Toggle) (max : ℕ) (statuses : List (List ℕ)) (bytes : List ℕ)
    (answers : List Answer) (rest : List ℕ) (due : Toggle) : Type 0 where
  pub cut : List ℕ
  pub split : bytes ≡ cut ++ rest
  pub packets : ArePackets first max statuses cut answers
  pub left : ℕ
  pub size : length rest ≡ left * max
  pub turned : due ≡ flips (length answers) first

pub cut_none : (first : Toggle) (max : ℕ) (statuses : List (List ℕ)) (bytes : List ℕ)
    → length bytes % max ≡ 0 → Cut first max statuses bytes [] bytes first
cut_none first max statuses bytes full = record {
  cut = [];
  split = refl;
  packets = no_packet;
  left = length bytes / max;
  size = let parts = div-add-mod (length bytes) max in omega (arith, parts, full);
  turned = flips_none first;
}

cut_left : (left max size after : ℕ) → size ≡ left * max → 0 < size → after ≡ size - max
    → after ≡ (left - 1) * max
cut_left zero max size after e some f = absurd (omega (arith, e, some))
cut_left (suc n) max size after e some f =
    let more : suc n * max ≡ max + n * max = omega arith in
    let less : after ≡ n * max = omega (arith, e, more, f) in
    let one : suc n - 1 ≡ n = omega arith in
    subst (λ (k : ℕ). after ≡ k * max) (sym one) less

pub cut_more : {first : Toggle} {max : ℕ} {statuses : List (List ℕ)} {bytes : List ℕ}
    {answers : List Answer} {rest : List ℕ} {due : Toggle}
    → Cut first max statuses bytes answers rest due → (packet after : List ℕ) (next : Toggle)
    (now : List Answer) → 0 < length rest → rest ≡ packet ++ after → length packet ≡ max
    → next ≡ other due → now ≡ answers ++ packet_answer due packet statuses ∷ []
    → Cut first max statuses bytes now after next
cut_more {first} {max} {statuses} {bytes} {answers} {rest} {due} c packet after next now some parts
    full turned grown =
    let all = ap length parts ∙ length-append packet after in
    let one : length now ≡ length answers + 1 =
    ap length grown ∙ length-append answers (packet_answer due packet statuses ∷ []) in
    record {
      cut = c.cut ++ packet;
      split = c.split ∙ ap (λ z. c.cut ++ z) parts ∙ sym (append_assoc c.cut packet after);
      packets = rw (grown, c.turned) (one_packet packet c.packets full);
      left = c.left - 1;
      size = cut_left c.left max (length rest) (length after) c.size some
          (omega (arith, all, full));
      turned = rw (one) (flips_next (length answers) first due next c.turned turned);
    }

pub came_none : (statuses : List (List ℕ)) (q : Question) (before : List ℕ)
    (answers : List Answer) (b : Bool) → b ≡ nat_eq (length before) 0 → b ≡ true → answers ≡ []
    → CameFirst statuses q before answers
came_none statuses q [] answers b is e none = rw none nothing_first
came_none statuses q (x ∷ xs) answers b is e none =
    let size = eqb-true (length (x ∷ xs)) 0 (sym is ∙ e) in absurd (omega (arith, size))

pub came_packets : (statuses : List (List ℕ)) (q : Question) (to : Destination) (toggle : Toggle)
    (most max limit : ℕ) (before : List ℕ) (answers : List Answer) → q ≡ Ins to toggle most
    → max ≡ to.max → limit ≡ most → ArePackets toggle max statuses before answers
    → length before < limit * max → CameFirst statuses q before answers
came_packets statuses q to toggle most max limit before answers is e f packets less =
    let full = subst (λ (m : ℕ). ArePackets toggle m statuses before answers) e packets in
    let some = subst (λ (m : ℕ). length before < m * max) f less in
    let fewer = subst (λ (m : ℕ). length before < most * m) e some in
    subst (λ (x : Question). CameFirst statuses x before answers) (sym is)
    (packets_first full fewer)
