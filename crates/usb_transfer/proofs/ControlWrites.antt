-- OUT of endpoint 0, with data or as the end of a control read: what it leaves of each device, and
-- why it fails.
use Rattle.std.proofs.Common.{◌≡◌, ◌≢◌, ℕ, if◌then◌else◌, Bool, true, false, List, Option, Some}
use Rattle.std.proofs.Common.{Result, Ok, Err, refl, subst, ap, ◌∙◌, ◌≤◌, [], arith}
use Rattle.usb_packet.specs.{Toggle, One}
use Rattle.usb_device.specs.{State, Reply, Answer, Location, Write, written_on, refused, forgotten}
use Rattle.usb_device.specs.{nak_row, out_row, Way, heard, out_law, IsPacketOf, OnlyWrite, WriteAt}
use Rattle.usb_device.specs.{WriteOn, WritingAt, OnlyStage}
use Rattle.usb_device.specs.Attempt.{whole}
use Rattle.usb_device.proofs.Interface.{control_write, out_only_write}
use Rattle.usb_world.specs.{Attempt, Outcome, EachWas, DidOut, got, World, outcome_in, IsSettled}
use Rattle.usb_world.specs.declared.types.Outcome.TheVariants.{Payload, Ack, Nak, Stall, Nothing}
use Rattle.usb_transfer.specs.{Target, TransFault, Busy, NoAnswer, is_at, heard_when_sent}
use Rattle.usb_transfer.specs.{WriteEnds, WriteOut, Transacted, out_attempt, CanAnswer, packed}
use Rattle.usb_transfer.specs.{Expects, IsInRead, Listens, Lost, NoThreeDamaged, ReadStatus}
use Rattle.usb_transfer.specs.{StatusReadFailure, WriteOutFailure}
use Rattle.usb_transfer.proofs.DeviceRuns.{IsEnd, Through, at_from, delivered_out, each_device}
use Rattle.usb_transfer.proofs.DeviceRuns.{over_transaction, out_kind, of_bus, Moves, OutcomeOfSpec}
use Rattle.usb_transfer.proofs.DeviceRuns.{as_whole, could, heeded, listens_on, mine}
use Rattle.usb_transfer.proofs.DeviceRuns.{others_stay_then, spared, summed}
use Rattle.usb_transfer.proofs.WriteAttempts.{naks_left, SaysOut, StageMoves, ends_heard, ends_law}
use Rattle.usb_transfer.proofs.WriteAttempts.{expects_still, is_in_read-moves, law_says, law_waits}
use Rattle.usb_transfer.proofs.WriteAttempts.{moves_twice, says_from, whole_heard}
use Rattle.usb_transfer.proofs.LastOutcomes.{sent_last}
use Rattle.usb_device.specs.declared.answer.Answer.TheVariants as answer

-- OUT with data

-- what an outcome says of the packet
abbrev WriteHeard : List ℕ → Write → List ℕ → Outcome → State → Type 0
WriteHeard old w bytes (Payload given b) v = ⊥
WriteHeard old w bytes Ack v = WritingAt old (written_on w bytes) v
WriteHeard old w bytes Nak v = WriteAt old w bytes v
WriteHeard old w bytes Stall v = ⊥
WriteHeard old w bytes Nothing v = WriteAt old w bytes v

module _ (old : List ℕ) (w : Write) (bytes : List ℕ) (v : State) where
  heard_by : (max : ℕ) (a : Option Answer) → WriteOn old w bytes a v
      → WriteHeard old w bytes (got max a) v
  heard_by max a h = grind arith

  still : (o : Outcome) → WriteHeard old w bytes o v → WriteAt old w bytes v
  still o h = grind arith

  write_ends : (result : Result (List ℕ) TransFault) (o : Outcome) (outcomes : List Outcome)
      → WriteHeard old w bytes o v → IsEnd heard_when_sent result o outcomes
      → WriteEnds old w bytes result v
  write_ends result o outcomes h e = grind (arith, still)

not_done : (o : Outcome) → o ≢ Ack → (result : Result (List ℕ) TransFault) (outcomes : List Outcome)
    → IsEnd heard_when_sent result o outcomes → (done : List ℕ) → result ≢ Ok done
not_done o n result outcomes e done is = grind arith

module _ (t : Target) (toggle : Toggle) (bytes : List ℕ) where
  abbrev a_write : Attempt
  a_write = out_attempt t 0 toggle bytes

  -- what attempts leave of a device of which the last had this outcome
  record OutResult (s : State) (o : Outcome) (v : State) : Type 0 where
    others : is_at s t ≡ false → v ≡ s
    frame : OnlyWrite s v
    naks : v.naks ≤ s.naks
    write : is_at s t ≡ true → (old : List ℕ) (w : Write) → w.toggle ≡ toggle → IsPacketOf w bytes
        → WriteAt old w bytes s → WriteHeard old w bytes o v
    refuses : s.stage ≡ refused → (v.stage ≡ refused) × (v.taken ≡ s.taken)
        × (is_at s t ≡ true → o ≢ Ack)
    ends : toggle ≡ One → bytes ≡ [] → OnlyStage s v × StageMoves s v
        × (is_at s t ≡ true → SaysOut s o v)

  -- it stands where it stood
  unmoved : (s : State) (o : Outcome) → (is_at s t ≡ true → o ≡ Nothing) → OutResult s o s
  unmoved s o none = grind (arith, none)

  abbrev Refuses : State → ℕ → Way → Reply → Type 0
  Refuses u max t3 r = ((forgotten r.1).stage ≡ refused) × ((forgotten r.1).taken ≡ u.taken)
      × (got max (heard t3 r.0) ≢ Ack)

  no_ack : (max : ℕ) (t3 : Way) (a : Answer) → got max (Some a) ≢ Ack
      → got max (heard t3 (Some a)) ≢ Ack
  no_ack max t3 a n = grind arith

  refuses_if : (u : State) → u.stage ≡ refused → (max : ℕ) (t3 : Way) (busy : Bool)
      → Refuses u max t3 (if busy then nak_row u else out_row u u.stage toggle bytes)
  refuses_if u e max t3 busy = grind (arith, no_ack)

  refuses_out : (u : State) → u.stage ≡ refused → (max : ℕ) (t1 t2 t3 : Way)
      → ((out_law u 0 toggle bytes t1 t2 t3).1.stage ≡ refused)
      × ((out_law u 0 toggle bytes t1 t2 t3).1.taken ≡ u.taken)
      × (got max (out_law u 0 toggle bytes t1 t2 t3).0 ≢ Ack)
  refuses_out u e max t1 t2 t3 = grind (arith, refuses_if)

  one_out : (u : State) (t1 t2 t3 : Way) → is_at u t ≡ true
      → OutResult u (got t.max (out_law u 0 toggle bytes t1 t2 t3).0)
      (out_law u 0 toggle bytes t1 t2 t3).1
  one_out u t1 t2 t3 at = record {
    others = mine t u at;
    frame = search out_only_write;
    naks = search naks_left;
    write = grind (arith, control_write, heard_by);
    refuses = grind (arith, refuses_out);
    ends = λ e f. rw (e, f) (let x = ends_law t.max u t1 t2 t3 in (x.0, x.1, λ a. x.2));
  }

  did_write : (x : World) (j : Location) (u v : State) → DidOut a_write toggle bytes x j u v
      → OutResult u (outcome_in a_write x) v
  did_write x j u v (DidOut.other d e) = grind (arith, mine, unmoved)
  did_write x j u v (DidOut.silent d q o e) = grind (arith, unmoved)
  did_write x j u v (DidOut.asked d q y o e) = grind (arith, one_out)

  out_says : (x : World) (j : Location) (u v : State) → DidOut a_write toggle bytes x j u v
      → is_at u t ≡ true → OutcomeOfSpec u.spec (heard_when_sent (outcome_in a_write x))
  out_says x j u v did at = grind (arith, law_says, mine)

  at_after : (s u : State) (o : Outcome) → OutResult s o u → is_at s t ≡ true → is_at u t ≡ true
  at_after s u o x h = grind (arith, at_from)

  joined : (s u v : State) (o : Outcome) → OutResult s Nothing u → OutResult u o v
      → OutResult s o v
  joined s u v o x y = record {
    others = others_stay_then t s u v x.others y.others;
    frame = cc (x.frame, y.frame);
    naks = omega (arith, x.naks, y.naks);
    write = search (at_after, y.write, x.write);
    refuses = grind (arith, at_after, x.refuses, y.refuses);
    ends = λ e f. let a = x.ends e f in let b = y.ends e f in (
      cc (a.0, b.0),
      moves_twice s u v a.1 b.1,
      λ at. says_from s u v o a.1 (b.2 (at_after s u Nothing x at)),
    );
  }

  quiet : (s v : State) (o : Outcome) → OutResult s o v → OutResult s Nothing v
  quiet s v o x = record {
    others = x.others;
    frame = x.frame;
    naks = x.naks;
    write = grind (arith, still);
    refuses = grind arith;
    ends = λ e f. ((x.ends e f).0, (x.ends e f).1, λ at. tt);
  }

  -- a device over a transaction
  module _ (result : Result (List ℕ) TransFault) (old new : World) (j : Location) (s v : State)
      (run : Through (DidOut a_write toggle bytes) a_write heard_when_sent result old new j s v)
    where
      whole_out : (o : Outcome) × (outcomes : List Outcome)
          × IsEnd heard_when_sent result o outcomes × OutResult s o v
      whole_out = summed run (grind (arith, of_bus)) (λ u. Unit {0}) OutResult
          (λ w u y d i. (did_write w j u y d, tt)) joined (λ u y o n. quiet u y o) tt
          (search unmoved)

      so_could : is_at s t ≡ true → CanAnswer s.spec result
      so_could at =
          could (Moves heard_when_sent) result run (λ u. OutResult s Nothing u) (λ w u y d n i.
          quiet s y _ (joined s u y _ i (did_write w j u y d)))
          (search unmoved) s.spec refl (grind arith)
          (grind (arith, at_after, out_says))

      write_out : WriteOut t toggle bytes result j s v
      write_out = let (o, outcomes, is, x) = whole_out in record {
        others = x.others;
        frame = x.frame;
        write = λ at old w e p a. grind (arith, write_ends);
        refused = grind (arith, not_done, x.refuses);
        could = so_could;
        naks = x.naks;
      }

      read_status : toggle ≡ One → bytes ≡ [] → ReadStatus t result j s v
      read_status one none =
          let (o, outcomes, is, x) = whole_out in
          let y = x.ends one none in
          record {
            others = x.others;
            frame = y.0;
            kept = grind arith;
            done = λ at b r. subst (λ z. SaysOut s z v) (sent_last o (packed b)
                (grind arith)) (y.2 at);
            stalled = grind arith;
            could = so_could;
            naks = x.naks;
          }

-- Why it fails

-- a device of a kind that stays so over each attempt, and answers one that comes whole
module _ (t : Target) (toggle : Toggle) (bytes : List ℕ) (Is : State → Type 0)
    (keeps : (u : State) (t1 t2 t3 : Way) → Is u → Is (out_law u 0 toggle bytes t1 t2 t3).1)
    (heeds : (u : State) → Is u
    → heard_when_sent (got t.max (out_law u 0 toggle bytes whole whole whole).0) ≢ Lost)
    (result : Result (List ℕ) TransFault) {old new : World} {j : Location} {s v : State}
    (run : Through (DidOut (a_write t toggle bytes) toggle bytes) (a_write t toggle bytes)
    heard_when_sent result old new j s v) (l : Listens t j s) (is : Is s) where
  abbrev Stays : State → Type 0
  Stays u = Listens t j u × Is u

  abbrev Sent : World → State → State → Type 0
  Sent w u y = DidOut (a_write t toggle bytes) toggle bytes w j u y

  stays_out : (w : World) (u y : State) → Sent w u y → Stays u → Stays y
  stays_out w u y d x =
      let z = delivered_out t 0 toggle bytes w j u y d x.0.at in
      let frame : OnlyWrite u y = (did_write t toggle bytes w j u y d).frame in
      grind (arith, listens_on)

  answered : NoThreeDamaged old → result ≢ Err NoAnswer
  answered three = heeded (Moves heard_when_sent) result run Stays
      (λ w u y d n. stays_out w u y d) (l, is) three (grind (arith, as_whole, delivered_out))

  waited : s.spec.busy ≡ false → s.naks ≤ 200 → result ≢ Err Busy
  waited calm few = spared (Moves heard_when_sent) result run
      (λ u. Stays u × (u.spec.busy ≡ false)) (λ w u y d n x. (
        stays_out w u y d x.0,
        ap (λ q. q.spec.busy) (did_write t toggle bytes w j u y d).frame ∙ x.1,
      )) ((l, is), calm) (λ u. u.naks) (grind (arith, delivered_out, law_waits))
      (omega (arith, few))

-- Each device

-- what an OUT of endpoint 0 says of it: what it leaves, and why it failed; also where it is to end
-- a control read
pub record ControlOutTold (t : Target) (toggle : Toggle) (bytes : List ℕ)
    (result : Result (List ℕ) TransFault) (old : World) (j : Location) (s v : State) : Type 0 where
  pub leaves : WriteOut t toggle bytes result j s v
  pub read : toggle ≡ One → bytes ≡ [] → ReadStatus t result j s v
  pub why : NoThreeDamaged old → WriteOutFailure t bytes result j s v
  pub read_why : NoThreeDamaged old → toggle ≡ One → bytes ≡ [] → StatusReadFailure t result j s v

pub control_out_told : (t : Target) (toggle : Toggle) (bytes : List ℕ)
    (result : Result (List ℕ) TransFault) (old new : World) → IsSettled old.roots
    → Transacted heard_when_sent (out_attempt t 0 toggle bytes) old result new → new.shared ≡ false
    → EachWas (ControlOutTold t toggle bytes result old) old new
control_out_told t toggle bytes result old new settled x single =
    each_device old new
    (λ j s v run.
    let expects = λ (u : State) (t1 t2 t3 : Way) (h : Expects bytes u).
    expects_still u toggle bytes h t1 t2 t3 in
    let takes = λ (u : State) (h : Expects bytes u). whole_heard u toggle bytes t.max h in
    record {
      leaves = search write_out;
      read = search read_status;
      why = λ three. record {
        answered = λ l h. answered t toggle bytes (Expects bytes) expects takes result run l h
            three;
        waited = λ l h. waited t toggle bytes (Expects bytes) expects takes result run l h;
      };
      read_why = λ three one none.
          let stays = λ (u : State) (t1 t2 t3 : Way) (h : IsInRead u).
          is_in_read-moves u (out_law u 0 toggle bytes t1 t2 t3).1
          (rw (one, none) (ends_law t.max u t1 t2 t3).1) h in
          let ends : (u : State) → IsInRead u
          → heard_when_sent (got t.max (out_law u 0 toggle bytes whole whole whole).0) ≢ Lost =
          λ u h. grind (arith, ends_heard) in
          record {
            answered = λ l h. answered t toggle bytes IsInRead stays ends result run l h three;
            waited = λ l h. waited t toggle bytes IsInRead stays ends result run l h;
          };
    }) (over_transaction (out_kind t 0 toggle bytes) old settled heard_when_sent new single result
    x)
