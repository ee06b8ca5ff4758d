-- Bulk endpoints over a transaction: what IN and OUT leave of them, and why one fails.
use Rattle.usb_device.specs.{Location, State, Reply, forgotten, sunk, in_end, InEnd, OutEnd}
use Rattle.usb_device.specs.{out_end, with_in, given_on, taken_on, next_packet, next_place}
use Rattle.usb_device.specs.{hesitated, in_hesitates, out_hesitates, out_halts, taken_row}
use Rattle.usb_device.specs.{given_law, GivesWithin, IsPrompt, sink_row, data_row, Way, is_whole}
use Rattle.usb_device.specs.{heard, gave, in_law, out_law, taken_of, IsSource, SourceAt, SourceOn}
use Rattle.usb_device.specs.{OnlySource, IsSink, SinkAt, level, ahead, Joined, OnlySink}
use Rattle.std.proofs.Common.{◌≡◌, ◌≢◌, ◌⊎◌, inl, inr, ℕ, ◌+◌, ◌<◌, ◌≤◌, nat_le, nat_lt}
use Rattle.std.proofs.Common.{if◌then◌else◌, is_some, Bool, true, false, List, length, Option, None}
use Rattle.std.proofs.Common.{Some, Result, Ok, Err, refl, sym, subst, ap, ◌∙◌, arith}
use Rattle.std.proofs.lemmas.Bool.Decides.{nat_tests}
use Rattle.arrayvec.specs.ArrayVec.{ArrayVec}
use Rattle.usb_packet.specs.{Toggle, other, is_same}
use Rattle.usb_port.specs.{PortState}
use Rattle.usb_device.specs.Attempt.{whole}
use Rattle.usb_device.proofs.Interface.{at_other, at_same, bulk_law_is, is_same-refl, other_toggle}
use Rattle.usb_device.proofs.Interface.{other-other, source_on}
use Rattle.usb_world.specs.{Attempt, Outcome, Relation, EachWas, DidIn, DidOut, got, attempt, after}
use Rattle.usb_world.specs.{outcome_in, damage_in, World, Made, IsSettled}
use Rattle.usb_world.proofs.Interface.{remembers, settled_memory, decided, false_true}
use Rattle.usb_transfer.specs.{Target, HeardOutcome, Moved, NotReady, Repeat, Refused, Lost}
use Rattle.usb_transfer.specs.{TransFault, Stalled, Busy, NoAnswer, NoThreeDamaged, Listens}
use Rattle.usb_transfer.specs.{SourceInFailure, SinkOutFailure, heard_as, heard_when_sent, is_at}
use Rattle.usb_transfer.specs.{SourceCut, SourceEnds, SourceIn, SourceBetween, SinkEnds, SinkOut}
use Rattle.usb_transfer.specs.{SinkBetween, AttemptLog, IsPacedWithin, waits_with, waits_in}
use Rattle.usb_transfer.specs.{IsNoEnd, KeepsTrying, TransactionDone, Transacted, in_attempt}
use Rattle.usb_transfer.specs.{out_attempt, packed}
use Rattle.usb_transfer.proofs.DeviceRuns.{Any, EachIf, End, IsEnd, IsOfBus, Moves, RunThrough}
use Rattle.usb_transfer.proofs.DeviceRuns.{over_trail, over_transaction, in_kind, out_kind}
use Rattle.usb_transfer.proofs.DeviceRuns.{DeviceTold, told_leaves, Through, asked_in, brought}
use Rattle.usb_transfer.proofs.DeviceRuns.{result_of, summed, delivered_out, at_end, each_device}
use Rattle.usb_transfer.proofs.DeviceRuns.{heeded, in_others, never, listens_on, of_bus, out_others}
use Rattle.usb_transfer.proofs.DeviceRuns.{spared, stays_away, stopped, was_then}
use Rattle.usb_transfer.proofs.LastOutcomes.{no_packet, packet_heard}
use Rattle.usb_world.specs.declared.types.Outcome.TheVariants.{Nothing}
use Rattle.usb_transfer.proofs.Trails.{LostRun, as_transacted, damaged_more, lost_run_none}
use Rattle.usb_transfer.proofs.Trails.{run_short}
use Rattle.usb_device.specs.declared.answer.Answer.TheVariants as answer
use Rattle.usb_device.specs.declared.transfer.InEndpoint.TheVariants as by

-- IN

-- the endpoint behind its next packet
abbrev pub end_behind : ℕ → ℕ → State → InEnd
end_behind e most s = given_on (next_place s e most (in_end s e).place) (in_end s e)

-- the device after a packet, where it saw that it came
abbrev pub stepped : ℕ → ℕ → State → Bool → State
stepped e most s came = if came then forgotten (with_in s e (end_behind e most s)) else s

pub stepped_end : (e most : ℕ) (s : State) → in_end (stepped e most s true) e ≡ end_behind e most s
stepped_end e most s = grind (arith, at_same)

-- the endpoint after a NAK
abbrev pub end_hesitated : ℕ → State → InEnd
end_hesitated e s = record (in_end s e) { pace = hesitated (in_end s e).pace }

pub hesitates_end : (e : ℕ) (s : State) → in_end (in_hesitates s e) e ≡ end_hesitated e s
hesitates_end e s = grind (arith, at_same)

pub only_same : (e : ℕ) (s : State) → OnlySource e s s
only_same e s = grind arith

only_stepped : (e most : ℕ) (s : State) → OnlySource e s (stepped e most s true)
only_stepped e most s = grind (arith, at_other)

only_hesitates : (e : ℕ) (s : State) → OnlySource e s (in_hesitates s e)
only_hesitates e s = grind (arith, at_other)

-- a NAK moves nothing
hesitates_at : {e most got : ℕ} {t : Toggle} (s : State) → SourceAt e most got t s
    → SourceAt e most got t (in_hesitates s e)
hesitates_at s at = grind (arith, hesitates_end)

-- it gives no more NAKs before a packet than it did
abbrev pub StaysPaced : ℕ → State → State → Type 0
StaysPaced e s v = (limit : ℕ) → IsPacedWithin limit (in_end s e).pace
    → IsPacedWithin limit (in_end v e).pace

stepped_paced : (e most : ℕ) (s : State) → StaysPaced e s (stepped e most s true)
stepped_paced e most s n x = grind (arith, stepped_end)

hesitates_paced : (e : ℕ) (s : State) → StaysPaced e s (in_hesitates s e)
hesitates_paced e s n x = grind (arith, hesitates_end)

only_then : (e : ℕ) (s u v : State) → OnlySource e s u → OnlySource e u v → OnlySource e s v
only_then e s u v x y = grind arith

abbrev pub SourceStep : ℕ → ℕ → Toggle → State → Option (List ℕ) → State → Type 0
SourceStep e most awaited s came v = (got : ℕ) → 1 ≤ most → SourceAt e most got awaited s
    → SourceOn e most got awaited s came v

-- what the host hears of an attempt, and what is left of the endpoint; `Clear` is that each packet
-- comes whole
pub data SourceGave (e most max : ℕ) (awaited : Toggle) (Clear : Type 0) (s : State) : HeardOutcome
    → State → Type 0 where
  unheard : (Clear → ((in_end s e).state.halted ≡ false) × (GivesWithin max e most s → ⊥))
      → SourceGave e most max awaited Clear s Lost s
  refused : (in_end s e).state.halted ≡ true → SourceGave e most max awaited Clear s Refused s
  empty : (in_end s e).state.halted ≡ false → next_packet s e most (in_end s e).place ≡ None
      → SourceGave e most max awaited Clear s NotReady s
  hesitates : (in_end s e).state.halted ≡ false → 1 ≤ (in_end s e).pace.naks
      → SourceGave e most max awaited Clear s NotReady (in_hesitates s e)
  lost_nak : (Clear → ⊥) → (in_end s e).state.halted ≡ false → 1 ≤ (in_end s e).pace.naks
      → SourceGave e most max awaited Clear s Lost (in_hesitates s e)
  moved : (b : ArrayVec ℕ) (came : Bool) → (in_end s e).state.halted ≡ false
      → SourceStep e most awaited s (Some b.items) (stepped e most s came)
      → SourceGave e most max awaited Clear s (Moved b) (stepped e most s came)
  again : (came : Bool) → (in_end s e).state.halted ≡ false → (in_end s e).pace.naks ≡ 0
      → is_same awaited (in_end s e).state.toggle ≡ false
      → (Clear → came ≡ true) → SourceStep e most awaited s None (stepped e most s came)
      → SourceGave e most max awaited Clear s Repeat (stepped e most s came)

module _ (e most max : ℕ) (awaited : Toggle) (s : State) (Clear : Type 0) where
  abbrev Fits : Reply → Type 0
  Fits r = SourceStep e most awaited s (taken_of awaited max r.0) r.1
      → SourceGave e most max awaited Clear s (heard_as awaited (got max r.0)) r.1

  gives : IsSource e most s → (bytes : List ℕ)
      → next_packet s e most (in_end s e).place ≡ Some bytes
      → (waits fits same : Bool) (t2 t3 : Way) → (in_end s e).state.halted ≡ false
      → nat_lt 0 (in_end s e).pace.naks ≡ waits → nat_le (length bytes) max ≡ fits
      → is_same awaited (in_end s e).state.toggle ≡ same → (Clear → (t2 ≡ whole) × (t3 ≡ whole))
      → Fits (if waits then (heard t2 (Some answer.Nak), in_hesitates s e)
      else gave s (by.Bulk e) max (in_end s e).state.toggle bytes t2 t3)
  gives i bytes is true fits same whole t3 h n l q c =
      λ on. hesitates h (grind (arith, nat_tests, n))
  gives i bytes is true fits same t2 t3 h n l q c =
      λ on. lost_nak (λ d. cc (c d).0) h (grind (arith, nat_tests, n))
  gives i bytes is false true true whole t3 h n l q c =
      rw (l, q, i.endpoint) (λ on. moved (packed bytes) (is_whole t3) h on)
  gives i bytes is false true false whole t3 h n l q c =
      rw (l, q, i.endpoint) (λ on. again (is_whole t3) h (grind (arith, nat_tests, n)) q
      (λ d. ap is_whole (c d).1) on)
  gives i bytes is false false same whole t3 h n l q c =
      rw l (λ on. unheard (grind (arith, nat_tests)))
  gives i bytes is false fits same t2 t3 h n l q c = λ on. unheard (λ d. cc (c d).0)

  by_packet : IsSource e most s → (next : Option (List ℕ))
      → next_packet s e most (in_end s e).place ≡ next → (t2 t3 : Way)
      → (in_end s e).state.halted ≡ false → (Clear → (t2 ≡ whole) × (t3 ≡ whole))
      → Fits (given_law s e next max t2 t3)
  by_packet i None is whole t3 h c = λ on. empty h is
  by_packet i None is t2 t3 h c = λ on. unheard (λ d. cc (c d).0)
  by_packet i (Some bytes) is t2 t3 h c = grind (arith, gives)

  by_law : IsSource e most s → (halted : Bool) (t2 t3 : Way) → (in_end s e).state.halted ≡ halted
      → (Clear → (t2 ≡ whole) × (t3 ≡ whole))
      → Fits (if halted then (heard t2 (Some answer.Stall), s) else given_law s e
      (next_packet s e most (in_end s e).place) max t2 t3)
  by_law i true whole t3 h c = λ on. refused h
  by_law i true t2 t3 h c = λ on. unheard (λ d. cc (c d).0)
  by_law i false t2 t3 h c = grind (arith, by_packet)

  gave_in : IsSource e most s → (row : List PortState) (t1 t2 t3 : Way)
      → (Clear → (t1 ≡ whole) × (t2 ≡ whole) × (t3 ≡ whole)) → Fits (in_law s row e max t1 t2 t3)
  gave_in i row whole t2 t3 c =
      rw (bulk_law_is e most s i row max t2 t3) (grind (arith, by_law))
  gave_in i row t1 t2 t3 c = λ on. unheard (λ d. cc (c d).0)

pub source_kept : (ep most : ℕ) (s u : State) → OnlySource ep s u → IsSource ep most s
    → IsSource ep most u
source_kept ep most s u e i = grind arith

pub source_at_kept : (t : Target) {ep : ℕ} (s u : State) → OnlySource ep s u → is_at s t ≡ true
    → is_at u t ≡ true
source_at_kept t s u e h = ap (λ x. is_at x t) e.rest ∙ h

-- what attempts leave of the endpoint of which the last was heard so
pub record SourceResult (e most : ℕ) (awaited : Toggle) (s : State) (h : HeardOutcome) (v : State) :
    Type 0 where
  pub frame : OnlySource e s v
  pub goes : SourceStep e most awaited s (packet_heard h) v
  pub halted : (in_end s e).state.halted ≡ true → (v ≡ s) × (packet_heard h ≡ None)
      × (h ≢ NotReady)
  pub stalls : h ≡ Refused → (in_end v e).state.halted ≡ true
  pub paced : StaysPaced e s v
  pub spent : h ≡ NotReady → IsPacedWithin 0 (in_end s e).pace
      → next_packet v e most (in_end v e).place ≡ None

only_if : (e most : ℕ) (s : State) (came : Bool) → OnlySource e s (stepped e most s came)
only_if e most s came = grind (arith, only_same, only_stepped)

paced_if : (e most : ℕ) (s : State) (came : Bool) → StaysPaced e s (stepped e most s came)
paced_if e most s true = stepped_paced e most s
paced_if e most s false = λ n x. x

module _ {e most : ℕ} {awaited : Toggle} {s : State} (h : HeardOutcome) where
  stood_in : packet_heard h ≡ None → (h ≡ Refused → (in_end s e).state.halted ≡ true)
      → (h ≡ NotReady → ((in_end s e).state.halted ≡ false)
      × (next_packet s e most (in_end s e).place ≡ None)) → SourceResult e most awaited s h s
  stood_in nothing refuses waits = grind (arith, only_same, refuses, waits)

  hesitated_in : packet_heard h ≡ None → h ≢ Refused → (in_end s e).state.halted ≡ false
      → 1 ≤ (in_end s e).pace.naks → SourceResult e most awaited s h (in_hesitates s e)
  hesitated_in nothing not f one = record {
    frame = only_hesitates e s;
    goes = λ n m at. subst (λ c. SourceOn e most n awaited s c (in_hesitates s e)) (sym nothing)
        (hesitates_at s at);
    halted = λ c. false_true (sym f ∙ c);
    stalls = λ q. absurd (not q);
    paced = hesitates_paced e s;
    spent = grind arith;
  }

  stepped_in : (came : Bool) → h ≢ Refused → h ≢ NotReady → (in_end s e).state.halted ≡ false
      → SourceStep e most awaited s (packet_heard h) (stepped e most s came)
      → SourceResult e most awaited s h (stepped e most s came)
  stepped_in came not ready f on = record {
    frame = only_if e most s came;
    goes = on;
    halted = λ c. false_true (sym f ∙ c);
    stalls = λ q. absurd (not q);
    paced = paced_if e most s came;
    spent = λ q. absurd (ready q);
  }

module _ {e most : ℕ} {awaited : Toggle} where
  pub one_in : {max : ℕ} {Clear : Type 0} {s v : State} {h : HeardOutcome}
      → SourceGave e most max awaited Clear s h v → SourceResult e most awaited s h v
  one_in (unheard c) = stood_in Lost refl (λ q. cc q) (λ q. cc q)
  one_in (refused f) = grind (arith, stood_in)
  one_in (empty f is) = grind (arith, stood_in)
  one_in (hesitates f one) = hesitated_in NotReady refl (λ q. cc q) f one
  one_in (lost_nak d f one) = hesitated_in Lost refl (λ q. cc q) f one
  one_in (moved b came f on) = stepped_in (Moved b) came (λ q. cc q) (λ q. cc q) f on
  one_in (again came f w miss c on) = stepped_in Repeat came (λ q. cc q) (λ q. cc q) f on

  -- one behind others that brought nothing
  then_in : (s u v : State) (h : HeardOutcome) → SourceResult e most awaited s Lost u
      → SourceResult e most awaited u h v → SourceResult e most awaited s h v
  then_in s u v h x y = record {
    frame = only_then e s u v x.frame y.frame;
    goes = λ n m at. subst (λ z. SourceOn e most n awaited z (packet_heard h) v) x.frame.rest
        (y.goes n m (x.goes n m at));
    halted = grind (arith, x.halted, y.halted);
    stalls = y.stalls;
    paced = λ n p. y.paced n (x.paced n p);
    spent = λ q p. y.spent q (x.paced 0 p);
  }

  -- one that goes on brought nothing
  lost_in : (s v : State) (h : HeardOutcome) → IsNoEnd h → SourceResult e most awaited s h v
      → SourceResult e most awaited s Lost v
  lost_in s v h n x = let nothing : packet_heard h ≡ None = no_packet h n in record {
    frame = x.frame;
    goes = subst (λ c. SourceStep e most awaited s c v) nothing x.goes;
    halted = grind arith;
    stalls = λ q. cc q;
    paced = x.paced;
    spent = λ q. cc q;
  }

pub cut_source : (e most n : ℕ) (awaited : Toggle) (s v : State) (c : Option (List ℕ))
    → SourceOn e most n awaited s c v → SourceCut e most n awaited s v
cut_source e most n awaited s v c x = grind arith

pub unheard_in : {e most max : ℕ} {awaited : Toggle} {Clear : Type 0} {s v : State}
    → SourceGave e most max awaited Clear s Lost v → Clear
    → ((in_end s e).state.halted ≡ false) × (GivesWithin max e most s → ⊥)
unheard_in h h1 = grind arith

no_waits_in : {e most max : ℕ} {awaited : Toggle} {Clear : Type 0} {s v : State} {h : HeardOutcome}
    → SourceGave e most max awaited Clear s h v → (in_end s e).state.halted ≡ true
    → (n : ℕ) → waits_with h n ≤ n
no_waits_in g c n = grind arith

-- The device over a transaction, or over a poll: to its host outcomes are what they are to one that
-- reads, or an end
pub record HearsRead (awaited : Toggle) (hear : Outcome → HeardOutcome) : Type 0 where
  pub goes : (o : Outcome) → IsNoEnd (hear o) → IsNoEnd (heard_as awaited o)
  pub lost : (o : Outcome) → hear o ≡ Lost → heard_as awaited o ≡ Lost
  pub few : (o : Outcome) (n : ℕ) → waits_with (hear o) n ≤ waits_with (heard_as awaited o) n

pub as_read : (awaited : Toggle) → HearsRead awaited (heard_as awaited)
as_read awaited = grind arith

module _ (t : Target) (ep : ℕ) (awaited : Toggle) where
  abbrev pub a_in : Attempt
  a_in = in_attempt t ep

  pub did_in : (most : ℕ) (w : World) (j : Location) (u v : State) → DidIn a_in w j u v
      → is_at u t ≡ true → IsSource ep most u
      → SourceGave ep most t.max awaited ((damage_in w ≡ None) × Listens t j u) u
      (heard_as awaited (outcome_in a_in w)) v
  did_in most w j u v d at i =
      let y : _ = asked_in t ep w j u v d at in
      let x : _ = y.1 in
      rw (x.is, x.gave) (gave_in ep most t.max awaited u ((damage_in w ≡ None) × Listens t j u) i
      y.0 x.first x.second x.third (λ c. x.heard c.0 c.1) (search source_on))

  -- what an attempt keeps of its kind
  pub only_in : (most : ℕ) (w : World) (j : Location) (u v : State) → DidIn a_in w j u v
      → is_at u t ≡ true → IsSource ep most u → OnlySource ep u v
  only_in most w j u v d at i = (one_in (did_in most w j u v d at i)).frame

  -- it goes on listening
  abbrev pub ListensIn : ℕ → Location → State → Type 0
  ListensIn most j u = Listens t j u × IsSource ep most u

  pub stays_in : (most : ℕ) (w : World) (j : Location) (u v : State) → DidIn a_in w j u v
      → ListensIn most j u → ListensIn most j v
  stays_in most w j u v d is = let f = only_in most w j u v d is.0.at is.1 in
      grind (arith, listens_on, source_kept)

  -- with packets as short as the host wants them
  abbrev pub IsShort : ℕ → Location → State → Type 0
  IsShort most j u = ListensIn most j u × GivesWithin t.max ep most u

  pub stays_short : (most : ℕ) (w : World) (j : Location) (u v : State) → DidIn a_in w j u v
      → IsShort most j u → IsShort most j v
  stays_short most w j u v d is = (
    stays_in most w j u v d is.0,
    subst (λ (z : State). GivesWithin t.max ep most z)
        (sym (only_in most w j u v d is.0.0.at is.0.1).rest) is.1,
  )

  module _ {hear : Outcome → HeardOutcome} (hears : HearsRead awaited hear) {Last : Outcome
      → List Outcome → Type 0} {GaveUp : Type 0} {old new : World} {j : Location} {s v : State}
      (run : RunThrough (DidIn a_in) a_in hear Last GaveUp old new j s v)
      (up : GaveUp → (outcomes : List Outcome) → Last Nothing outcomes) where
    pub away_in : is_at s t ≡ false → v ≡ s
    away_in = stays_away t (λ w u y. in_others t ep w j u y) run

    pub whole_in : is_at s t ≡ true → (most : ℕ) → IsSource ep most s
        → (o : Outcome) × (outcomes : List Outcome) × Last o outcomes
        × SourceResult ep most awaited s (heard_as awaited o) v
    whole_in at most i =
        summed run up (λ u. (is_at u t ≡ true) × IsSource ep most u)
        (λ u o y. SourceResult ep most awaited u (heard_as awaited o) y)
        (λ w u y d so.
        let g = one_in (did_in most w j u y d so.0 so.1) in
        (g, (source_at_kept t u y g.frame so.0, source_kept ep most u y g.frame so.1)))
        (search then_in)
        (λ u y o n. lost_in u y (heard_as awaited o) (hears.goes o n)) (at, i)
        (stood_in Lost refl (λ q. cc q) (λ q. cc q))

    pub frame_in : (most : ℕ) → IsSource ep most s → OnlySource ep s v
    frame_in most i = elim (decided (is_at s t)) [
      | inl h ↦ (whole_in h most i).3.frame
      | inr h ↦ subst (OnlySource ep s) (sym (away_in h)) (only_same ep s)
    ]

  source_in : (result : Result (List ℕ) TransFault) (old new : World) (j : Location) (s v : State)
      → Through (DidIn a_in) a_in (heard_as awaited) result old new j s v
      → SourceIn t ep awaited result j s v
  source_in result old new j s v run = record {
    others = away_in (as_read awaited) run up;
    frame = frame_in (as_read awaited) run up;
    source = λ h most n i m at.
        let (o, outcomes, is, x) = whole_in (as_read awaited) run up h most i in
        result_of (λ b. Some b) (λ c. SourceOn ep most n awaited s c v)
        (λ r. SourceEnds ep most n awaited s r v) (λ b z. z) (λ z. (z, z, z))
        (grind (arith, cut_source)) result
        (packet_heard (heard_as awaited o)) (search brought) (x.goes n m at);
    stalled = λ h most i e.
        let (o, outcomes, is, x) = whole_in (as_read awaited) run up h most i in
        x.stalls (grind arith);
    halted = λ h most i c.
        let (o, outcomes, is, x) = whole_in (as_read awaited) run up h most i in (
          (x.halted c).0,
          λ b e. cc (sym (x.halted c).1 ∙ ap packet_heard
              (subst (λ r. IsEnd (heard_as awaited) r o outcomes) e is)),
        );
    paced = λ h most i. (whole_in (as_read awaited) run up h most i).3.paced 100;
  }
    where
      up : IsOfBus result → (outcomes : List Outcome)
          → IsEnd (heard_as awaited) result Nothing outcomes
      up gave outcomes = grind (arith, of_bus)

  -- between two attempts
  pub between_in : {hear : Outcome → HeardOutcome} → HearsRead awaited hear
      → (outcomes : List Outcome) (old now : World) → IsSettled old.roots
      → AttemptLog a_in old outcomes now → KeepsTrying hear outcomes
      → now.shared ≡ false → EachWas (SourceBetween t ep awaited) old now
  between_in {hear} hears outcomes old now settled trail onward single =
      each_device old now
      (λ j s v ran.
      let run : RunThrough (DidIn a_in) a_in hear (λ o os. o ≡ Nothing) (Unit {0}) old now j s v =
      stopped tt ran onward in
      record {
        others = search away_in;
        frame = search frame_in;
        source = λ h most n i m at. let x = whole_in hears run (λ g os. refl) h most i in
            subst (λ o. SourceOn ep most n awaited s (packet_heard (heard_as awaited o)) v) x.2
            (x.3.goes n m at);
      })
      (over_trail (in_kind t ep) old settled trail single)

-- Why it fails

module _ (t : Target) (ep : ℕ) (awaited : Toggle) {hear : Outcome → HeardOutcome}
    (hears : HearsRead awaited hear) {A : Type 0} (Done : A → Outcome → Type 0)
    (result : Result A TransFault) {old new : World} {j : Location} {s v : State}
    (run : RunThrough (DidIn (a_in t ep awaited)) (a_in t ep awaited) hear (End Done hear result)
    (IsOfBus result) old new j s v) (most : ℕ)
    (listens : ListensIn t ep awaited most j s)
  where
    abbrev IsHalted : State → Type 0
    IsHalted u = ListensIn t ep awaited most j u × ((in_end u ep).state.halted ≡ true)

    abbrev AttemptIn : World → State → State → Type 0
    AttemptIn w u y = DidIn (a_in t ep awaited) w j u y

    stays_halted : (w : World) (u y : State) → AttemptIn w u y → IsHalted u → IsHalted y
    stays_halted w u y d is = grind (arith, did_in, one_in)

    -- an error of an attempt that is not damaged
    erred : (w : World) (u y : State) → AttemptIn w u y → ListensIn t ep awaited most j u
        → damage_in w ≡ None
        → hear (outcome_in (a_in t ep awaited) w) ≡ Lost
        → ((in_end u ep).state.halted ≡ false) × (GivesWithin t.max ep most u → ⊥)
    erred w u y d is sound f = grind (arith, did_in, unheard_in)

    pub short_answered : NoThreeDamaged old → GivesWithin t.max ep most s → result ≢ Err NoAnswer
    short_answered three m = heeded Done result run (IsShort t ep awaited most j)
        (search stays_short) (listens, m) three
        (λ w u y d is sound f. (erred w u y d is.0 sound f).1 is.1)

    pub halted_answered : NoThreeDamaged old → (in_end s ep).state.halted ≡ true
        → (result ≢ Err NoAnswer) × (result ≢ Err Busy)
    halted_answered three c = (
      heeded Done result run IsHalted (λ w u y d n. stays_halted w u y d) (listens, c) three
          (λ w u y d is sound f. false_true (grind (arith, erred))),
      spared Done result run IsHalted (λ w u y d n. stays_halted w u y d) (listens, c) (λ u. 0)
          (λ w u y d is n. omega (
            arith,
            hears.few (grind arith) n,
            no_waits_in (did_in t ep awaited most w j u y d is.0.0.at is.0.1) is.1 n,
          )) (omega arith),
    )

module _ (t : Target) (ep : ℕ) (awaited : Toggle) (old : World) (three : NoThreeDamaged old) where
  -- level with the host it has some NAKs to give; behind it, it gives them first, and then its
  -- packet again, of which each time the ACK is damaged
  data Stands (most had n : ℕ) (w : World) (u : State) : Type 0 where
    even : (in_end u ep).place ≡ had → (in_end u ep).state.toggle ≡ awaited
        → n + (in_end u ep).pace.naks ≤ 203 → Stands most had n w u
    behind : had ≡ next_place u ep most (in_end u ep).place
        → is_some (next_packet u ep most (in_end u ep).place) ≡ true
        → (in_end u ep).state.toggle ≡ other awaited → (k : ℕ)
        → LostRun old.damages k w.attempts → ((in_end u ep).pace.naks ≡ 0) ⊎ (k ≡ 0)
        → n + (in_end u ep).pace.naks ≤ k + 100 → (in_end u ep).pace.each ≤ 100
        → Stands most had n w u

  first_stands : (most had : ℕ) (s : State) → SourceAt ep most had awaited s
      → IsPrompt (in_end s ep).pace → Stands most had 0 old s
  first_stands most had s (level g q) x = grind arith
  first_stands most had s (ahead g p q) x =
      behind g p q 0 (search lost_run_none) (inr refl) (omega (arith, x.0)) x.1

  too_many : (most had n : ℕ) (w : World) (u : State) → Stands most had n w u → n ≡ 256 → ⊥
  too_many most had n w u (even g q few) e = omega (arith, few, e)
  too_many most had n w u (behind g p q k ran or few each) e =
      omega (arith, few, e, run_short old k w.attempts three ran)

  none_there : {o : Option (List ℕ)} {P : Type 0} → o ≡ None → is_some o ≡ true → P
  none_there n s = grind arith

  -- after a NAK
  waited_stands : {most had n : ℕ} {w v : World} {u : State} (m : ℕ)
      → m ≤ n + 1 → 1 ≤ (in_end u ep).pace.naks → Stands most had n w u
      → Stands most had m v (in_hesitates u ep)
  waited_stands {most} {had} {n} {w} {v} {u} m less one (even g q few) =
      grind (arith, hesitates_end)
  waited_stands {most} {had} {n} {w} {v} {u} m less one (behind g p q k ran or few each) = behind
      (grind (arith, hesitates_end))
      (grind (arith, hesitates_end))
      (grind (arith, hesitates_end))
      0 (lost_run_none old.damages v.attempts) (inr refl) (grind (arith, hesitates_end))
      (grind (arith, hesitates_end))
    where
      no_run : ((in_end u ep).pace.naks ≡ 0) ⊎ (k ≡ 0)
          → m + (hesitated (in_end u ep).pace).naks ≤ 100
      no_run (inl none) = absurd (omega (arith, none, one))
      no_run (inr zero) = omega (arith, few, zero, one, less)

  -- a damaged attempt that left the device as it was
  damaged_stands : {most had n : ℕ} {w : World} {u : State} {outcomes : List Outcome}
      → AttemptLog (a_in t ep awaited) old outcomes w
      → Made w (after (attempt (a_in t ep awaited)) w) → (damage_in w ≢ None)
      → Stands most had n w u → Stands most had n (after (attempt (a_in t ep awaited)) w) u
  damaged_stands trail made d (even g q few) = even g q few
  damaged_stands trail made d (behind g p q k ran (inl none) few each) =
      behind g p q (k + 1) (damaged_more trail made k d ran) (inl none) (omega (arith, few)) each
  damaged_stands {w = w} trail made d (behind g p q k ran (inr zero) few each) =
      behind g p q 0 (grind (arith, lost_run_none))
      (inr refl) (omega (arith, few, zero)) each

  next_stands : {most : ℕ} {Clear : Type 0} {u v : State} {h : HeardOutcome} (had n : ℕ) (w : World)
      {outcomes : List Outcome} → AttemptLog (a_in t ep awaited) old outcomes w
      → Made w (after (attempt (a_in t ep awaited)) w)
      → (damage_in w ≡ None → Clear) → GivesWithin t.max ep most u
      → is_some (next_packet u ep most had) ≡ true
      → SourceGave ep most t.max awaited Clear u h v → IsNoEnd h → Stands most had n w u
      → Stands most had (waits_with h n) (after (attempt (a_in t ep awaited)) w) v
  next_stands had n w trail made c m left (unheard d) z y =
      damaged_stands trail made (λ x. (d (c x)).1 m) y
  next_stands had n w trail made c m left (lost_nak d f one) z y =
      waited_stands n (omega arith) one y
  next_stands had n w trail made c m left (hesitates f one) z y =
      waited_stands (n + 1) (omega arith) one y
  next_stands {most} {u = u} had n w trail made c m left (empty f d) z (even g q few) =
      none_there (ap (next_packet u ep most) (sym g) ∙ d) left
  next_stands had n w trail made c m left (empty f d) z (behind g p q k ran or few each) =
      none_there d p
  next_stands had n w trail made c m left (again came f none r d on) z (even g q few) =
      false_true (sym r ∙ ap (is_same awaited) q ∙ is_same-refl awaited)
  next_stands {most} {u = u} had n w trail made c m left (again true f none r d on) z
      (behind g p q k ran or few each) =
      even (ap (λ x. x.place) (stepped_end ep most u) ∙ sym g)
      (ap (λ x. x.state.toggle) (stepped_end ep most u) ∙ ap other q ∙ other-other awaited)
      (subst (λ (x : InEnd). n + 1 + x.pace.naks ≤ 203) (sym (stepped_end ep most u))
      (omega (arith, few, each, run_short old k w.attempts three ran)))
  next_stands had n w trail made c m left (again false f none r d on) z
      (behind g p q k ran or few each) =
      behind g p q (k + 1) (damaged_more trail made k (λ x. false_true (d (c x))) ran) (inl none)
      (omega (arith, few)) each
  next_stands had n w trail made c m left _ z y = elim z [ ]

  waits_few : (result : Result (List ℕ) TransFault) (new : World) (j : Location) (s v : State)
      (most had : ℕ) → Through (DidIn (a_in t ep awaited)) (a_in t ep awaited) (heard_as awaited)
      result old new j s v → IsShort t ep awaited most j s → SourceAt ep most had awaited s
      → is_some (next_packet s ep most had) ≡ true → IsPrompt (in_end s ep).pace
      → result ≢ Err Busy
  unfolding waits_in
  waits_few result new j s v most had run is at left prompt =
      never (Moves (heard_as awaited)) result run (λ u. IsShort t ep awaited most j u
      × (is_some (next_packet u ep most had) ≡ true))
      (λ w u y d n so. (
        stays_short t ep awaited most w j u y d so.0,
        subst (λ (z : State). is_some (next_packet z ep most had) ≡ true)
            (sym (only_in t ep awaited most w j u y d so.0.0.0.at so.0.0.1).rest) so.1,
      )) (is, left)
      (λ outcomes w u. Stands most had (waits_in (heard_as awaited) outcomes) w u)
      (first_stands most had s at prompt)
      (λ outcomes w u y trail made so stands d n. next_stands had
      (waits_in (heard_as awaited) outcomes) w trail made (λ e. (e, so.0.0.0)) so.0.1 so.1
      (did_in t ep awaited most w j u y d so.0.0.0.at so.0.0.1) n stands)
      (Err Busy) tt (λ outcomes. waits_in (heard_as awaited) outcomes ≡ 256)
      (λ o outcomes end. end) (search (had, too_many))

-- Each device, whatever the answer is
pub source_told : (t : Target) (ep : ℕ) (awaited : Toggle) (result : Result (List ℕ) TransFault)
    (old new : World) → IsSettled old.roots
    → Transacted (heard_as awaited) (in_attempt t ep) old result new → new.shared ≡ false
    → EachWas (DeviceTold (SourceIn t ep awaited result) (SourceInFailure t ep awaited result) old)
    old
    new
source_told t ep awaited result old new settled x single =
    each_device old new
    (λ j s v run. record {
      leaves = source_in t ep awaited result old new j s v run;
      why = λ three. record {
        answered = λ l most n i at m. short_answered t ep awaited (as_read awaited)
            (Moves (heard_as awaited)) result run most (l, i) three m;
        waited = λ l most n i one at m left prompt.
            waits_few t ep awaited old three result new j s v most n run ((l, i), m) at left prompt;
        halted = λ l most i. halted_answered t ep awaited (as_read awaited)
            (Moves (heard_as awaited)) result run most (l, i) three;
      };
    }) (over_transaction (in_kind t ep) old settled (heard_as awaited) new single result x)

-- OUT

not_long : (most : ℕ) (xs : List ℕ) → length xs ≤ most → nat_lt most (length xs) ≡ false
not_long most xs m = grind (arith, nat_tests)

-- the endpoint after a packet that joined
abbrev end_taken : ℕ → List ℕ → State → OutEnd
end_taken e bytes s = taken_on (out_halts s e) bytes (out_end s e)

sunk_end : (e : ℕ) (bytes : List ℕ) (s : State)
    → out_end (sunk s e bytes) e ≡ end_taken e bytes s
sunk_end e bytes s = grind (arith, at_same)

-- after a NAK
abbrev out_hesitated : ℕ → State → OutEnd
out_hesitated e s = record (out_end s e) { pace = hesitated (out_end s e).pace }

out_hesitates_end : (e : ℕ) (s : State) → out_end (out_hesitates s e) e ≡ out_hesitated e s
out_hesitates_end e s = grind (arith, at_same)

out_hesitates_prompt : (e : ℕ) (s : State) → IsPrompt (out_end s e).pace
    → IsPrompt (out_end (forgotten (out_hesitates s e)) e).pace
out_hesitates_prompt e s x = grind (arith, out_hesitates_end)

sunk_prompt : (e : ℕ) (bytes : List ℕ) (s : State) → IsPrompt (out_end s e).pace
    → IsPrompt (out_end (forgotten (sunk s e bytes)) e).pace
sunk_prompt e bytes s x = grind (arith, sunk_end)

only_out_hesitates : (e : ℕ) (s : State) → OnlySink e s (forgotten (out_hesitates s e))
only_out_hesitates e s = grind (arith, at_other)

out_hesitates_at : {e : ℕ} {before bytes : List ℕ} {t : Toggle} (s : State)
    → SinkAt e before bytes t s → SinkAt e before bytes t (forgotten (out_hesitates s e))
out_hesitates_at s at = grind (arith, out_hesitates_end)

-- the NAKs that are left for a packet with this toggle: none for one that has joined
abbrev naks_left : ℕ → Toggle → State → ℕ
naks_left e t s = if is_same t (out_end s e).state.toggle then (out_end s e).pace.naks else 0

sunk_none_left : (e : ℕ) (bytes : List ℕ) (t : Toggle) (s : State)
    → is_same t (out_end s e).state.toggle ≡ true
    → naks_left e t (forgotten (sunk s e bytes)) ≡ 0
sunk_none_left e bytes t s h = grind (arith, sunk_end)

hesitates_fewer_left : (e : ℕ) (t : Toggle) (s : State) → 1 ≤ (out_end s e).pace.naks
    → is_same t (out_end s e).state.toggle ≡ true
    → 1 + naks_left e t (forgotten (out_hesitates s e)) ≤ naks_left e t s
hesitates_fewer_left e t s one h = grind (arith, out_hesitates_end)

only_forgotten : (e : ℕ) (s : State) → OnlySink e s (forgotten s)
only_forgotten e s = grind arith

sink_same : (e : ℕ) (s : State) → OnlySink e s s
sink_same e s = grind arith

only_sunk : (e : ℕ) (bytes : List ℕ) (s : State) → OnlySink e s (forgotten (sunk s e bytes))
only_sunk e bytes s = grind (arith, at_other)

sink_then : (e : ℕ) (s u v : State) → OnlySink e s u → OnlySink e u v → OnlySink e s v
sink_then e s u v x y = grind arith

sink_at_forgotten : {e : ℕ} {before bytes : List ℕ} {t : Toggle} {s : State}
    → SinkAt e before bytes t s
    → SinkAt e before bytes t (forgotten s)
sink_at_forgotten at = grind arith

joins : {e : ℕ} {before bytes : List ℕ} {t : Toggle} {s : State}
    → is_same t (out_end s e).state.toggle ≡ true
    → SinkAt e before bytes t s → Joined e before bytes t (forgotten (sunk s e bytes))
joins = grind (arith, false_true, other_toggle, sunk_end)

had : {e : ℕ} {before bytes : List ℕ} {t : Toggle} {s : State}
    → is_same t (out_end s e).state.toggle ≡ false
    → SinkAt e before bytes t s → Joined e before bytes t (forgotten s)
had = grind (arith, false_true, is_same-refl)

behind_it : {e : ℕ} {before bytes : List ℕ} {t : Toggle} {s : State} → Joined e before bytes t s
    → SinkAt e before bytes t s
behind_it x = ahead x.sink x.toggle

abbrev SinkStays : ℕ → Toggle → List ℕ → State → State → Type 0
SinkStays e t bytes s v = OnlySink e s v × ((before : List ℕ) → SinkAt e before bytes t s
    → SinkAt e before bytes t v) × ((out_end s e).state.halted ≡ true → forgotten s ≡ s → v ≡ s)
    × (IsPrompt (out_end s e).pace → IsPrompt (out_end v e).pace)
    × (naks_left e t v ≤ naks_left e t s)

-- what the host hears of an attempt, and what is left of the endpoint
data Took (e most : ℕ) (t : Toggle) (bytes : List ℕ) (Clear : Type 0) (s : State) : HeardOutcome
    → State → Type 0 where
  unheard : (v : State) → (Clear → length bytes ≤ most → ⊥) → SinkStays e t bytes s v
      → Took e most t bytes Clear s Lost v
  refused : (out_end s e).state.halted ≡ true → Took e most t bytes Clear s Refused (forgotten s)
  hesitates : (v : State) → SinkStays e t bytes s v → 1 + naks_left e t v ≤ naks_left e t s
      → Took e most t bytes Clear s NotReady v
  acked : {b : ArrayVec ℕ} (v : State) → (out_end s e).state.halted ≡ false → OnlySink e s v
      → ((before : List ℕ) → SinkAt e before bytes t s → Joined e before bytes t v)
      → (IsPrompt (out_end s e).pace → IsPrompt (out_end v e).pace)
      → naks_left e t v ≤ naks_left e t s → Took e most t bytes Clear s (Moved b) v

module _ (e most max : ℕ) (s : State) (i : IsSink e most s) (t : Toggle) (bytes : List ℕ)
    (Clear : Type 0) where
  abbrev Answers : Way → Reply → Type 0
  Answers t3 q = Took e most t bytes Clear s (heard_when_sent (got max (heard t3 q.0)))
      (forgotten q.1)

  nothing_left : naks_left e t (forgotten s) ≤ naks_left e t s
  nothing_left = omega arith

  hesitates_stays : (out_end s e).state.halted ≡ false → 1 ≤ (out_end s e).pace.naks
      → is_same t (out_end s e).state.toggle ≡ true
      → SinkStays e t bytes s (forgotten (out_hesitates s e))
  hesitates_stays h one k = (
    only_out_hesitates e s,
    λ before at. out_hesitates_at s at,
    λ g f. false_true (sym h ∙ g),
    out_hesitates_prompt e s,
    omega (arith, hesitates_fewer_left e t s one k),
  )

  sunk_stays : (out_end s e).state.halted ≡ false
      → is_same t (out_end s e).state.toggle ≡ true
      → SinkStays e t bytes s (forgotten (sunk s e bytes))
  sunk_stays h k =
      grind (arith, behind_it, false_true, joins, only_sunk, sunk_none_left, sunk_prompt)

  by_naks : (waits : Bool) (t3 : Way) → nat_lt 0 (out_end s e).pace.naks ≡ waits
      → (out_end s e).state.halted ≡ false → is_same t (out_end s e).state.toggle ≡ true
      → (Clear → t3 ≡ whole)
      → Answers t3 (if waits then (Some answer.Nak, out_hesitates s e)
      else (Some answer.Ack, sunk s e bytes))
  by_naks true whole n h k c = let one : 1 ≤ (out_end s e).pace.naks =
      grind (arith, nat_tests, n) in
      hesitates _ (hesitates_stays h one k) (hesitates_fewer_left e t s one k)
  by_naks true t3 n h k c =
      unheard _ (λ d. cc (c d)) (hesitates_stays h (grind (arith, nat_tests, n)) k)
  by_naks false whole n h k c = acked _ h (only_sunk e bytes s) (λ before at. joins k at)
      (sunk_prompt e bytes s) (omega (arith, sunk_none_left e bytes t s k))
  by_naks false t3 n h k c = unheard _ (λ d. cc (c d)) (sunk_stays h k)

  forgotten_stays : SinkStays e t bytes s (forgotten s)
  forgotten_stays = grind (arith, nothing_left, only_forgotten, sink_at_forgotten)

  by_row : (halted long same : Bool) (t3 : Way) → (out_end s e).state.halted ≡ halted
      → (length bytes ≤ most → long ≡ false) → is_same t (out_end s e).state.toggle ≡ same
      → (Clear → t3 ≡ whole)
      → Answers t3 (if halted then (Some answer.Stall, s) else if long then (None, s) else if same
      then taken_row s e bytes else (Some answer.Ack, s))
  by_row true long same whole h l k c = refused h
  by_row false true same whole h l k c =
      unheard _ (λ d m. false_true (sym (l m))) forgotten_stays
  by_row false false true t3 h l k c = grind (arith, by_naks)
  by_row false false false whole h l k c = acked _ h (only_forgotten e s) (λ before at. had k at)
      (λ x. x) nothing_left
  by_row halted long same t3 h l k c = unheard _ (λ d. cc (c d)) forgotten_stays

  row_is : data_row s e t bytes ≡ sink_row s e most t bytes
  row_is = grind arith

  took_out : (t1 t2 t3 : Way) → (Clear → (t1 ≡ whole) × (t2 ≡ whole) × (t3 ≡ whole))
      → Took e most t bytes Clear s (heard_when_sent (got max (out_law s e t bytes t1 t2 t3).0))
      (out_law s e t bytes t1 t2 t3).1
  took_out whole whole t3 c = grind (arith, by_row, not_long, row_is)
  took_out t1 t2 t3 c = unheard _ (λ d. (let x = c d in cc))
      (sink_same e s, λ before at. at, λ g f. refl, λ x. x, omega arith)

pub sink_kept : (ep most : ℕ) (s u : State) → OnlySink ep s u → IsSink ep most s → IsSink ep most u
sink_kept ep most s u e i = grind arith

pub at_kept : (t : Target) {ep : ℕ} (s u : State) → OnlySink ep s u → is_at s t ≡ true
    → is_at u t ≡ true
at_kept t s u e h = ap (λ x. is_at x t) e.rest ∙ h

-- what a transaction leaves of the endpoint
abbrev SinkLeft : ℕ → Toggle → List ℕ → Result (List ℕ) TransFault → State → State → Type 0
SinkLeft e t bytes result s v =
    OnlySink e s v × ((before : List ℕ) → SinkAt e before bytes t s
    → SinkEnds e before bytes t result v)
    × ((out_end s e).state.halted ≡ true → forgotten s ≡ s → (v ≡ s)
    × ((done : List ℕ) → result ≡ Ok done → ⊥))
    × (IsPrompt (out_end s e).pace → IsPrompt (out_end v e).pace)

module _ {e most : ℕ} {t : Toggle} {bytes : List ℕ} {Clear : Type 0} {s : State} where
  stays_out : {h : HeardOutcome} {v : State} → Took e most t bytes Clear s h v
      → SinkStays e t bytes s v
  stays_out took = grind (arith, behind_it, false_true, only_forgotten, sink_at_forgotten)

  done_out : {done : List ℕ} {v : State} → Took e most t bytes Clear s (Moved (packed done)) v
      → SinkLeft e t bytes (Ok done) s v
  done_out (acked v f x on prompt less) = (x, on, λ g. false_true (sym f ∙ g), prompt)

  stalls_out : {v : State} → Took e most t bytes Clear s Refused v
      → SinkLeft e t bytes (Err Stalled) s v
  stalls_out took = grind (arith, only_forgotten, sink_at_forgotten)

  ended_out : (result : Result (List ℕ) TransFault) (o : Outcome) (outcomes : List Outcome)
      {v : State} → Took e most t bytes Clear s (heard_when_sent o) v
      → IsEnd heard_when_sent result o outcomes → SinkLeft e t bytes result s v
  ended_out result o outcomes g is = grind (arith, done_out, stalls_out, stays_out)

  unheard_out : {v : State} → Took e most t bytes Clear s Lost v → Clear → length bytes ≤ most → ⊥
  unheard_out (unheard v c x) = c

  few_waits_out : {h : HeardOutcome} {v : State} → Took e most t bytes Clear s h v → (n : ℕ)
      → waits_with h n + naks_left e t v ≤ n + naks_left e t s
  few_waits_out g n = grind arith

after_stay : (e : ℕ) (t : Toggle) (bytes : List ℕ) (result : Result (List ℕ) TransFault)
    (s u v : State)
    → SinkStays e t bytes s u → SinkLeft e t bytes result u v → SinkLeft e t bytes result s v
after_stay e t bytes result s u v x l = grind (arith, sink_then)

module _ (t : Target) (ep : ℕ) (toggle : Toggle) (bytes : List ℕ) where
  abbrev a_out : Attempt
  a_out = out_attempt t ep toggle bytes

  abbrev RanOut : Type 0 → Result (List ℕ) TransFault → World → World → Relation
  RanOut GaveUp result old new j s v = RunThrough (DidOut a_out toggle bytes) a_out heard_when_sent
      (IsEnd heard_when_sent result) GaveUp old new j s v

  did_out : (most : ℕ) (w : World) (j : Location) (u v : State) → DidOut a_out toggle bytes w j u v
      → is_at u t ≡ true → IsSink ep most u
      → Took ep most toggle bytes ((damage_in w ≡ None) × Listens t j u) u
      (heard_when_sent (outcome_in a_out w)) v
  did_out most w j u v d at i =
      let x : _ = delivered_out t ep toggle bytes w j u v d at in
      rw (x.is, x.gave) (took_out ep most t.max u i toggle bytes ((damage_in w ≡ None)
      × Listens t j u) x.first x.second x.third (λ c. x.heard c.0 c.1))

  sink_out : (result : Result (List ℕ) TransFault) (GaveUp : Type 0)
      → ((v : State) → GaveUp → SinkLeft ep toggle bytes result v v)
      → (old new : World) (j : Location) (s v : State)
      → forgotten s ≡ s → RanOut GaveUp result old new j s v
      → SinkOut t ep toggle bytes result j s v
  sink_out result GaveUp up old new j s v rests x = record {
    others = away;
    frame = λ most i. elim (decided (is_at s t)) [
      | inl h ↦ (left h most i).0
      | inr h ↦ subst (OnlySink ep s) (sym (away h)) (sink_same ep s)
    ];
    sink = λ h most before i fits. (left h most i).1 before;
    halted = λ h most i c. (left h most i).2 c rests;
    paced = λ h most i. (left h most i).3;
  }
    where
      away : is_at s t ≡ false → v ≡ s
      away = search (out_others, stays_away)

      left : is_at s t ≡ true → (most : ℕ) → IsSink ep most s → SinkLeft ep toggle bytes result s v
      left h most i =
          at_end heard_when_sent (λ outcomes w u. (is_at u t ≡ true) × IsSink ep most u
          × ((y : State) → SinkLeft ep toggle bytes result u y
          → SinkLeft ep toggle bytes result s y)) (h, i, λ y l. l)
          (λ outcomes w u y trail made so d n.
          let g = stays_out (did_out most w j u y d so.0 so.1) in (
            at_kept t u y g.0 so.0,
            sink_kept ep most u y g.0 so.1,
            λ z l. so.2 z (search after_stay),
          ))
          (SinkLeft ep toggle bytes result s) v
          (λ outcomes w u trail so d is told. so.2 v
          (ended_out result (outcome_in a_out w) outcomes (did_out most w j u v d so.0 so.1)
          is)) (λ gave outcomes w so. so.2 v (up v gave)) x

-- a device remembers nothing before it
each_rests : {R S : Relation} (old new : World) → IsSettled old.roots
    → ((j : Location) (s v : State) → forgotten s ≡ s → R j s v → S j s v) → EachIf Any R old new
    → EachWas S old new
each_rests old new settled f x j v on there =
    let was = x j v on there tt in
    was_then was (grind (arith, remembers, settled_memory))

-- Between two attempts
pub sink_between : (t : Target) (ep : ℕ) (toggle : Toggle) (bytes : List ℕ)
    (outcomes : List Outcome) (old now : World) → IsSettled old.roots
    → AttemptLog (out_attempt t ep toggle bytes) old outcomes now
    → KeepsTrying heard_when_sent outcomes → now.shared ≡ false
    → EachWas (SinkBetween t ep toggle bytes) old now
sink_between t ep toggle bytes outcomes old now settled trail onward single =
    each_rests old now settled
    (λ j s v rests run.
    let x : SinkOut t ep toggle bytes (Err NoAnswer) j s v =
    sink_out t ep toggle bytes (Err NoAnswer) (Unit {0}) (grind (arith, sink_same))
    old now j s v rests
    (stopped tt run onward) in
    record { others = x.others; frame = x.frame; sink = x.sink })
    (over_trail (out_kind t ep toggle bytes) old settled trail single)

-- Why it fails
module _ (t : Target) (ep : ℕ) (toggle : Toggle) (bytes : List ℕ)
    (result : Result (List ℕ) TransFault) (old new : World) (j : Location) (s v : State)
    (run : RanOut t ep toggle bytes (IsOfBus result) result old new j s v)
    (three : NoThreeDamaged old) where
  abbrev AttemptOut : World → State → State → Type 0
  AttemptOut w u y = DidOut (a_out t ep toggle bytes) toggle bytes w j u y

  abbrev ListensOut : ℕ → State → Type 0
  ListensOut most u = Listens t j u × IsSink ep most u

  listens_out : (most : ℕ) (w : World) (u y : State) → AttemptOut w u y → ListensOut most u
      → ListensOut most y
  listens_out most w u y d is =
      let f : OnlySink ep u y =
      (stays_out (did_out t ep toggle bytes most w j u y d is.0.at is.1)).0
      in grind (arith, listens_on, sink_kept)

  sink_fails : SinkOutFailure t ep toggle bytes result j s v
  sink_fails = record {
    answered = λ l most i fits. heeded (Moves heard_when_sent) result run (ListensOut most)
        (λ w u y d n. listens_out most w u y d) (l, i) three
        (λ w u y d is none f.
        unheard_out (subst (λ h. Took ep most toggle bytes ((damage_in w ≡ None) × Listens t j u)
        u h y) f (did_out t ep toggle bytes most w j u y d is.0.at is.1)) (none, is.0) fits);
    waited = λ l most i prompt. spared (Moves heard_when_sent) result run (ListensOut most)
        (λ w u y d n. listens_out most w u y d) (l, i) (naks_left ep toggle)
        (λ w u y d is n. few_waits_out (did_out t ep toggle bytes most w j u y d is.0.at is.1) n)
        (grind arith);
  }
    where
      few_left : (same : Bool) → (out_end s ep).pace.naks ≤ 100
          → (if same then (out_end s ep).pace.naks else 0) < 256
      few_left true few = omega (arith, few)
      few_left false few = omega arith

-- Each device, whatever the answer is
pub sink_told : (t : Target) (ep : ℕ) (toggle : Toggle) (bytes : List ℕ)
    (result : Result (List ℕ) TransFault) (old new : World) → IsSettled old.roots
    → Transacted heard_when_sent (out_attempt t ep toggle bytes) old result new → new.shared ≡ false
    → EachWas (DeviceTold (SinkOut t ep toggle bytes result) (SinkOutFailure t ep toggle bytes
    result)
    old) old new
sink_told t ep toggle bytes result old new settled x single =
    each_rests old new settled
    (λ j s v rests run. record {
      leaves = sink_out t ep toggle bytes result (IsOfBus result)
          (grind (arith, of_bus, sink_same)) old new j s v rests run;
      why = search sink_fails;
    })
    (over_transaction (out_kind t ep toggle bytes) old settled heard_when_sent new single result x)

pub sink_leaves : (t : Target) (ep : ℕ) (toggle : Toggle) (bytes : List ℕ)
    (result : Result (List ℕ) TransFault) (old new : World) → IsSettled old.roots
    → Transacted heard_when_sent (out_attempt t ep toggle bytes) old result new → new.shared ≡ false
    → EachWas (SinkOut t ep toggle bytes result) old new
sink_leaves t ep toggle bytes result old new settled x single =
    told_leaves old new (sink_told t ep toggle bytes result old new settled x single)

pub sink_over : (t : Target) (ep : ℕ) (toggle : Toggle) (bytes : List ℕ)
    (result : Result (List ℕ) TransFault) (old new : World) → IsSettled old.roots
    → TransactionDone heard_when_sent (out_attempt t ep toggle bytes) old result new
    → new.shared ≡ false → EachWas (SinkOut t ep toggle bytes result) old new
sink_over t ep toggle bytes result old new settled e single = search (as_transacted, sink_leaves)
