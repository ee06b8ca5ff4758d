-- Rows of packets: each that one attempt moved is a transaction, and so is the one that went on.
use Rattle.std.proofs.Common.{◌≡◌, ◌≢◌, ◌∙◌, refl, ap, subst, ℕ, zero, suc, ◌+◌, ◌*◌, ◌%◌, ◌<◌, ◌≤◌}
use Rattle.std.proofs.Common.{List, [], ◌++◌, length, take, drop, Option, Result, Ok, Err, arith}
use Rattle.std.proofs.Common.{append-nil, length-append, length-take, false}
use Rattle.std.proofs.Math.Seq.{drop-append-add}
use Rattle.std.specs.Int.{div_ceil}
use Rattle.std.proofs.lemmas.Grind.{div_ceil_times}
use Rattle.std.proofs.lemmas.List.{take_all}
use Rattle.arrayvec.specs.ArrayVec.{ArrayVec}
use Rattle.usb_packet.specs.{Toggle, flips, other, speed_has_pre, speed_is_low}
use Rattle.usb_packet.proofs.Interface.{flips_next}
use Rattle.usb_world.specs.{Attempt, BusFault, Destination, IsAttempt, Outcome, World, IsSettled}
use Rattle.usb_world.specs.declared.types.Outcome.TheVariants.{Payload, Ack}
use Rattle.usb_bus.specs.{AllTaken, Answered, Attempts, Faulted, FullCame, InsMade, OutsMade}
use Rattle.usb_bus.specs.{RowCounts, RowDone, RowEnd, RowEnds, StepRun, Whole, attempted, in_packet}
use Rattle.usb_bus.specs.{is_full, none_came, none_taken, one_came, one_taken, out_packet, still}
use Rattle.usb_bus.proofs.Interface.{went_none, went_then, went_wider}
use Rattle.usb_transfer.specs.{AfterFirst, AskedFull, AsksIn, Bus, HeardOutcome, IsTarget, Moved}
use Rattle.usb_transfer.specs.{RowCame, RowGone, RowKept, RowLost, RowSent, SendsOut, SentFull}
use Rattle.usb_transfer.specs.{Target, TransFault, Transacted, heard_as, in_attempt, none_asked}
use Rattle.usb_transfer.specs.{none_sent, one_asked, one_sent, out_attempt, packed}
use Rattle.usb_transfer.specs.{transaction_bound}
use Rattle.usb_transfer.proofs.Calls.{asks_in, sends_out}
use Rattle.usb_transfer.proofs.Trails.{trail_settled}
use Rattle.usb_transfer.proofs.TransactionTries.{cut_at_once, stands_new, told_moved}

-- Toggles

other_twice : (t : Toggle) → other (other t) ≡ t
other_twice t = grind arith

pub flips_even : (n : ℕ) (t : Toggle) → n % 2 ≡ 0 → flips n t ≡ t
unfolding flips
flips_even zero t e = refl
flips_even (suc zero) t e = absurd (omega (arith, e))
flips_even (suc (suc n)) t e = other_twice (flips n t) ∙ flips_even n t (omega (arith, e))

pub flips_odd : (n : ℕ) (t : Toggle) → n % 2 ≢ 0 → flips n t ≡ other t
unfolding flips
flips_odd n t e = grind (arith, flips_even)

-- The first attempt of a transaction moved its packet

first_moved : {hear : Outcome → HeardOutcome} {a : Attempt} {o : Outcome} {w v : World}
    {before now : Option (List ℕ)} → IsAttempt a → Attempts a w before (Ok o) v now
    → (bytes : ArrayVec ℕ) → hear o ≡ Moved bytes → Transacted hear a w (Ok bytes.items) v
first_moved {w = w} fits made bytes is = told_moved (stands_new _ w fits refl) made bytes is

one_went : {a : Attempt} {o : Outcome} {w v : World} {before now : Option (List ℕ)} → IsAttempt a
    → Attempts a w before (Ok o) v now → StepRun 1 w before v now
one_went {a} {o} fits made = record {
  spends = made.counts.spends;
  traced = attempted a (Ok o) fits still made;
}

due_heard : (toggle : Toggle) (bytes : ArrayVec ℕ)
    → heard_as toggle (Payload toggle bytes) ≡ Moved bytes
due_heard toggle bytes = grind arith

-- INs

record FullRun (t : Target) (ep : ℕ) (first : Toggle) (old : World) (before : Option (List ℕ))
    (n : ℕ)
    (got : List ℕ) (now : World) (text : Option (List ℕ)) : Type 0 where
  asked : AskedFull t ep first old n got now
  went : StepRun n old before now text
  settled : IsSettled now.roots

module _ (t : Target) (ep : ℕ) (to : Destination) (is : in_packet to ≡ in_attempt t ep)
    (fits : IsAttempt (in_attempt t ep)) (first : Toggle) {old : World}
    {before : Option (List ℕ)} (settled : IsSettled old.roots) where
  full_run : {n : ℕ} {got : List ℕ} {now : World} {text : Option (List ℕ)}
      → FullCame to first old before n got now text
      → FullRun t ep first old before n got now text
  full_run none_came = record { asked = none_asked; went = went_none; settled = settled }
  full_run (one_came {n} {got} {w} {v} bytes c made long) =
      let r = full_run c in
      let max : to.max ≡ t.max = ap (λ a. a.max) is in
      let made = rw is at made in
      let x = asks_in t ep (flips n first) w v r.settled refl (Ok bytes)
      (first_moved fits made (packed bytes) (grind (arith, due_heard)))
      (omega (arith, long, max)) in
      record {
        asked = one_asked bytes r.asked x (long ∙ max);
        went = went_then n 1 r.went (one_went fits made);
        settled = search trail_settled;
      }

  -- all that were asked for
  pub row_whole : {n most : ℕ} {got : List ℕ} {toggle : Toggle} {now : World}
      {text : Option (List ℕ)} → FullCame to first old before n got now text → n ≡ most → 1 ≤ most
      → toggle ≡ flips n first → RowCame t ep first most old n got toggle now
  row_whole {n} {most} {got} {toggle} {now} c all some turned =
      by_last (full_run c).asked all turned
    where
      by_last : {n : ℕ} {got : List ℕ} {now : World} → AskedFull t ep first old n got now → n ≡ most
          → toggle ≡ flips n first → RowCame t ep first most old n got toggle now
      by_last none_asked all turned = absurd (omega (arith, all, some))
      by_last (one_asked {n} {got} {mid} bytes before x long) all turned = grind arith

-- A row of INs as the bus tells it, and the transaction that went on

pub in_is : (t : Target) (ep : ℕ) (to : Destination) → to.address ≡ t.addr → to.number ≡ ep
    → speed_is_low to.speed ≡ t.low → speed_has_pre to.speed ≡ t.pre → to.max ≡ t.max
    → in_packet to ≡ in_attempt t ep
in_is t ep to a b c d e = rw (a, b, c, d, e) refl

pub in_fits : (t : Target) (ep : ℕ) → IsTarget t → ep < 16 → IsAttempt (in_attempt t ep)
in_fits t ep i e = grind arith

-- one more packet has room
pub row_room : (moved most max room size : ℕ) → moved < most → most ≤ 64 → max ≤ 64
    → room ≡ moved * max → size ≤ max → room + size ≤ 4096
row_room moved most max room size less few fits is short = grind arith

-- where it did not end whole, it has fewer than all
pub few_answered : (moved most : ℕ) (end : RowEnd) (o : Outcome) → end ≡ Answered o
    → RowCounts moved most end → moved < most
few_answered moved most end o is counts = rw is at counts

pub record InsBegun (t : Target) (ep : ℕ) (first : Toggle) (most : ℕ) (old : World)
    (before : Option (List ℕ)) (done : RowDone) (got : List ℕ) (now : World)
    (text : Option (List ℕ)) (toggle : Toggle) : Type 0 where
  pub to : Destination
  pub is : in_packet to ≡ in_attempt t ep
  pub fits : IsAttempt (in_attempt t ep)
  pub settled : IsSettled old.roots
  pub turned : toggle ≡ flips done.moved first
  pub made : InsMade to first most old before done got now text

module _ {t : Target} {ep : ℕ} {first : Toggle} {most : ℕ} {old : World}
    {before : Option (List ℕ)} {done : RowDone} {got : List ℕ} {now : World}
    {text : Option (List ℕ)} {toggle : Toggle}
    (b : InsBegun t ep first most old before done got now text toggle) where
  open b use {to, is, fits, settled, turned, made as m}

  abbrev Ends : RowEnd → Type 0
  Ends end = RowEnds (done.moved ≡ most) (done.moved < most) (in_packet to)
      (λ outcome. is_full to.max (flips done.moved first) outcome ≡ false) end m.mid m.between now
      text

  so_far : FullRun t ep first old before done.moved got m.mid m.between
  so_far = search full_run

  row_lost : {next : Toggle} {new : World} (fault : TransFault) → done.moved < most
      → AsksIn t ep (flips done.moved first) m.mid (Err fault) new
      → next ≡ flips done.moved first → RowLost t ep first most old fault next new
  row_lost fault few x same = grind (arith, so_far)

  pub ins_whole : done.end ≡ Whole → 1 ≤ most
      → RowCame t ep first most old done.moved got toggle now
      × StepRun (transaction_bound * done.moved) old before now text
  ins_whole end some =
      let e : Ends Whole = subst Ends end m.ends in (
        rw e.1 (row_whole t ep to is fits first settled m.came e.0 some turned),
        went_wider done.moved (transaction_bound * done.moved) (rw (e.1, e.2) so_far.went)
            (omega arith),
      )

  pub ins_cut : {fault : BusFault} → done.end ≡ Faulted fault
      → RowLost t ep first most old (Bus fault) toggle now
      × StepRun (transaction_bound * most) old before now text
  ins_cut {fault} end =
      let e : Ends (Faulted fault) = subst Ends end m.ends in
      let made = rw is at e.1 in
      let x = asks_in t ep (flips done.moved first) m.mid now so_far.settled refl (Err (Bus fault))
      (cut_at_once fits made) tt in (
        row_lost (Bus fault) e.0 x turned,
        went_wider (done.moved + 1) (transaction_bound * most)
            (went_then done.moved 1 so_far.went
            (record { spends = made.counts.spends; traced = attempted _ _ fits still made }))
            (omega (arith, e.0)),
      )

  module _ {o : Outcome} (end : done.end ≡ Answered o) {result : Result (List ℕ) TransFault}
      {new : World} {written : Option (List ℕ)}
      (says : AfterFirst (in_attempt t ep) o now text
      (λ w x. StepRun transaction_bound w x new written × AsksIn t ep toggle w result new)) where
    answered_ends : Ends (Answered o)
    answered_ends = subst Ends end m.ends

    answered_says : StepRun transaction_bound m.mid m.between new written
        × AsksIn t ep (flips done.moved first) m.mid result new
    answered_says = grind (arith, answered_ends, so_far)

    answered_went : {n : ℕ} → done.moved + transaction_bound ≤ n → StepRun n old before new written
    answered_went {n} le = went_wider (done.moved + transaction_bound) n
        (went_then done.moved transaction_bound so_far.went answered_says.0) le

  pub ins_came : {o : Outcome} → done.end ≡ Answered o → {last bytes : List ℕ} {new : World}
      {written : Option (List ℕ)} {next : Toggle} → AfterFirst (in_attempt t ep) o now text
      (λ w x. StepRun transaction_bound w x new written × AsksIn t ep toggle w (Ok last) new)
      → bytes ≡ got ++ last → next ≡ other toggle
      → RowCame t ep first most old (done.moved + 1) bytes next new
      × StepRun (transaction_bound * (done.moved + 1)) old before new written
  ins_came end {last} {next = next} says kept flip = (
    record {
      full = done.moved;
      few = (answered_ends end says).0;
      got = got;
      mid = m.mid;
      before = so_far.asked;
      last = last;
      came = (answered_says end says).1;
      kept = kept;
      count = refl;
      turned = grind (arith, flips_next);
    },
    answered_went end says (omega arith),
  )

  pub ins_lost : {o : Outcome} → done.end ≡ Answered o → {fault : TransFault} {new : World}
      {written : Option (List ℕ)} {next : Toggle} → AfterFirst (in_attempt t ep) o now text
      (λ w x. StepRun transaction_bound w x new written × AsksIn t ep toggle w (Err fault) new)
      → next ≡ toggle → RowLost t ep first most old fault next new
      × StepRun (transaction_bound * most) old before new written
  ins_lost end {fault} says same = let few = (answered_ends end says).0 in (
    row_lost fault few (answered_says end says).1 (same ∙ turned),
    answered_went end says (omega (arith, few)),
  )

-- OUTs

record SentRun (t : Target) (ep : ℕ) (first : Toggle) (old : World) (before : Option (List ℕ))
    (n : ℕ)
    (sent : List ℕ) (now : World) (text : Option (List ℕ)) : Type 0 where
  went_all : SentFull t ep first old n sent now
  went : StepRun n old before now text
  settled : IsSettled now.roots

module _ (t : Target) (ep : ℕ) (to : Destination) (max : to.max ≡ t.max)
    (is : (toggle : Toggle) (bytes : List ℕ)
    → out_packet to toggle bytes ≡ out_attempt t ep toggle bytes)
    (fits : (toggle : Toggle) (bytes : List ℕ) → length bytes ≤ t.max
    → IsAttempt (out_attempt t ep toggle bytes)) (first : Toggle) {old : World}
    {before : Option (List ℕ)} (settled : IsSettled old.roots) where
  sent_run : {n : ℕ} {sent : List ℕ} {now : World} {text : Option (List ℕ)}
      → AllTaken to first old before n sent now text
      → SentRun t ep first old before n sent now text
  sent_run none_taken = record { went_all = none_sent; went = went_none; settled = settled }
  sent_run (one_taken {n} {sent} {w} {v} bytes c size some short made) =
      let r = sent_run c in
      let few : length bytes ≤ t.max = omega (arith, short, max) in
      let made = rw (is (flips n first) bytes) at made in
      let fit = fits (flips n first) bytes few in
      let x = sends_out t ep (flips n first) bytes w v r.settled (Ok [])
      (first_moved fit made (packed []) refl) in
      record {
        went_all = one_sent bytes r.went_all (size ∙ ap (λ k. n * k) max) some few x;
        went = went_then n 1 r.went (one_went fit made);
        settled = search trail_settled;
      }

  -- all of the bytes
  pub row_all_gone : {n : ℕ} {total : List ℕ} {toggle : Toggle} {now : World}
      {text : Option (List ℕ)} → AllTaken to first old before n total now text → 0 < length total
      → toggle ≡ flips n first → RowGone t ep first total old n toggle now
  row_all_gone {n} {total} {toggle} {now} c some turned = by_last (sent_run c).went_all some turned
    where
      by_last : {n : ℕ} {total : List ℕ} {now : World} → SentFull t ep first old n total now
          → 0 < length total → toggle ≡ flips n first
          → RowGone t ep first total old n toggle now
      by_last none_sent some turned = absurd (omega (arith, some))
      by_last (one_sent {n} {sent} {mid} {new} bytes c size more short x) some turned = record {
        full = n;
        mid = mid;
        so_far = grind arith;
        went = subst (λ z. SendsOut t ep (flips n first) z mid (Ok []) new) (search take_all) x;
        count = refl;
        turned = turned;
      }

-- A row of OUTs as the bus tells it

pub out_is : (t : Target) (ep : ℕ) (to : Destination) → to.address ≡ t.addr → to.number ≡ ep
    → speed_is_low to.speed ≡ t.low → speed_has_pre to.speed ≡ t.pre → to.max ≡ t.max
    → (toggle : Toggle) (bytes : List ℕ) → out_packet to toggle bytes
    ≡ out_attempt t ep toggle bytes
out_is t ep to a b c d e toggle bytes = rw (a, b, c, d, e) refl

pub out_fits : (t : Target) (ep : ℕ) → IsTarget t → ep < 16 → (toggle : Toggle) (bytes : List ℕ)
    → length bytes ≤ t.max → IsAttempt (out_attempt t ep toggle bytes)
out_fits t ep i e toggle bytes short = grind arith

pub record OutsBegun (t : Target) (ep : ℕ) (first : Toggle) (total : List ℕ) (old : World)
    (before : Option (List ℕ)) (done : RowDone) (now : World) (text : Option (List ℕ))
    (toggle : Toggle) : Type 0 where
  pub to : Destination
  pub max : to.max ≡ t.max
  pub is : (toggle : Toggle) (bytes : List ℕ) → out_packet to toggle bytes
      ≡ out_attempt t ep toggle bytes
  pub fits : (toggle : Toggle) (bytes : List ℕ) → length bytes ≤ t.max
      → IsAttempt (out_attempt t ep toggle bytes)
  pub least : 1 ≤ t.max
  pub settled : IsSettled old.roots
  pub turned : toggle ≡ flips done.moved first
  pub made : OutsMade to first total old before done now text

module _ {t : Target} {ep : ℕ} {first : Toggle} {total : List ℕ} {old : World}
    {before : Option (List ℕ)} {done : RowDone} {now : World} {text : Option (List ℕ)}
    {toggle : Toggle} (b : OutsBegun t ep first total old before done now text toggle) where
  open b use {to, max, is, fits, least, settled, turned, made as m}

  abbrev OutEnds : RowEnd → Type 0
  OutEnds end = RowEnds (m.rest ≡ []) (0 < length m.rest)
      (out_packet to (flips done.moved first) (take to.max m.rest)) (λ outcome. outcome ≢ Ack) end
      m.mid m.between now text

  out_next : out_packet to (flips done.moved first) (take to.max m.rest)
      ≡ out_attempt t ep (flips done.moved first) (take t.max m.rest)
  out_next = ap (λ k. out_packet to (flips done.moved first) (take k m.rest)) max
      ∙ is (flips done.moved first) (take t.max m.rest)

  so_sent : SentRun t ep first old before done.moved m.sent m.mid m.between
  so_sent = search sent_run

  abbrev row_so_far : 0 < length m.rest → RowSent t ep first total old done.moved m.mid
  row_so_far some = record {
    sent = m.sent;
    rest = m.rest;
    split = m.split;
    size = m.full some ∙ ap (λ k. done.moved * k) max;
    some = some;
    before = so_sent.went_all;
  }

  row_kept : {next : Toggle} {new : World} (fault : TransFault) → 0 < length m.rest
      → SendsOut t ep (flips done.moved first) (take t.max m.rest) m.mid (Err fault) new
      → next ≡ flips done.moved first → RowKept t ep first total old fault next new
  row_kept fault some x same = record {
    full = done.moved;
    mid = m.mid;
    so_far = row_so_far some;
    lost = x;
    turned = same;
  }

  pub outs_whole : done.end ≡ Whole → 0 < length total
      → RowGone t ep first total old done.moved toggle now
      × StepRun (transaction_bound * done.moved) old before now text
  outs_whole end some = grind (arith, append-nil, row_all_gone, so_sent, went_wider)

  -- the packet that did not go at once
  pub outs_packet : {packet : List ℕ} → 0 < length m.rest
      → packet ≡ take t.max (drop (done.moved * t.max) total) → packet ≡ take t.max m.rest
  outs_packet some front =
      let size : length m.sent ≡ done.moved * t.max = grind arith in
      let left : drop (done.moved * t.max) total ≡ m.rest =
      ap (λ l. drop (done.moved * t.max) l) m.split
      ∙ ap (λ k. drop k (m.sent ++ m.rest)) (omega (arith, size))
      ∙ drop-append-add m.sent m.rest 0 in grind arith

  outs_few : 0 < length m.rest → done.moved < div_ceil (length total) t.max
  outs_few some = grind (arith, div_ceil_times, length-append)

  pub outs_cut : {fault : BusFault} → done.end ≡ Faulted fault
      → RowKept t ep first total old (Bus fault) toggle now
      × StepRun (transaction_bound * div_ceil (length total) t.max) old before now text
  outs_cut {fault} end =
      let e : OutEnds (Faulted fault) = subst OutEnds end m.ends in
      let packet = take t.max m.rest in
      let short : length packet ≤ t.max = omega (arith, length-take t.max m.rest) in
      let fit = fits (flips done.moved first) packet short in
      let made = subst (λ a. Attempts a m.mid m.between (Err fault) now text) out_next e.1 in
      let few = outs_few e.0 in
      let x = sends_out t ep (flips done.moved first) packet m.mid now so_sent.settled
      (Err (Bus fault))
      (cut_at_once fit made) in (
        row_kept (Bus fault) e.0 x turned,
        went_wider (done.moved + 1) (transaction_bound * div_ceil (length total) t.max)
            (went_then done.moved 1 so_sent.went
            (record { spends = made.counts.spends; traced = attempted _ _ fit still made }))
            (omega (arith, few)),
      )

  module _ {o : Outcome} (end : done.end ≡ Answered o) {packet : List ℕ}
      (front : packet ≡ take t.max (drop (done.moved * t.max) total))
      {result : Result (List ℕ) TransFault} {new : World} {written : Option (List ℕ)}
      (says : AfterFirst (out_attempt t ep toggle packet) o now text
      (λ w x. StepRun transaction_bound w x new written × SendsOut t ep toggle packet w result new))
    where
      outs_ends : OutEnds (Answered o)
      outs_ends = subst OutEnds end m.ends

      outs_made : Attempts (out_attempt t ep toggle packet) m.mid m.between (Ok o) now text
      outs_made = grind (arith, out_next, outs_ends, outs_packet)

      outs_say : StepRun transaction_bound m.mid m.between new written
          × SendsOut t ep (flips done.moved first) (take t.max m.rest) m.mid result new
      outs_say =
          let x = says m.mid m.between so_sent.settled outs_made in
          let y = subst (λ z. SendsOut t ep z packet m.mid result new) turned x.1 in (
            x.0,
            subst (λ z. SendsOut t ep (flips done.moved first) z m.mid result new)
                (outs_packet outs_ends.0 front) y,
          )

      outs_more : {n : ℕ} → done.moved + transaction_bound ≤ n → StepRun n old before new written
      outs_more {n} le = went_wider (done.moved + transaction_bound) n
          (went_then done.moved transaction_bound so_sent.went outs_say.0) le

  pub outs_gone : {o : Outcome} → done.end ≡ Answered o → {packet : List ℕ}
      → packet ≡ take t.max (drop (done.moved * t.max) total) → {given : List ℕ} {new : World}
      {written : Option (List ℕ)} {next : Toggle}
      → AfterFirst (out_attempt t ep toggle packet) o now text
      (λ w x. StepRun transaction_bound w x new written
      × SendsOut t ep toggle packet w (Ok given) new) → next ≡ other toggle
      → RowGone t ep first total old (done.moved + 1) next new
      × StepRun (transaction_bound * (done.moved + 1)) old before new written
  outs_gone end front {new = new} {next = next} says flip =
      let e = outs_ends end front says in
      let x = outs_say end front says in
      let gone = subst (λ z. SendsOut t ep (flips done.moved first) (take t.max m.rest) m.mid (Ok z)
      new) x.1.nothing x.1 in (
        record {
          full = done.moved;
          mid = m.mid;
          so_far = row_so_far e.0;
          went = gone;
          count = refl;
          turned = grind (arith, flips_next);
        },
        outs_more end front says (omega arith),
      )

  pub outs_kept : {o : Outcome} → done.end ≡ Answered o → {packet : List ℕ}
      → packet ≡ take t.max (drop (done.moved * t.max) total) → {fault : TransFault} {new : World}
      {written : Option (List ℕ)} {next : Toggle}
      → AfterFirst (out_attempt t ep toggle packet) o now text
      (λ w x. StepRun transaction_bound w x new written
      × SendsOut t ep toggle packet w (Err fault) new) → next ≡ toggle
      → RowKept t ep first total old fault next new
      × StepRun (transaction_bound * div_ceil (length total) t.max) old before new written
  outs_kept end front {fault} says same =
      let e = outs_ends end front says in
      let x = outs_say end front says in (
        row_kept fault e.0 x.1 (same ∙ turned),
        outs_more end front says (omega (arith, outs_few e.0)),
      )
