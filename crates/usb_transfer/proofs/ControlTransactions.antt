-- IN of endpoint 0: what it leaves of each device, and why it fails.
use Rattle.std.proofs.Common.{◌≡◌, ◌≢◌, ◌⊎◌, inl, inr, ℕ, ◌+◌, ◌-◌, ◌<◌, ◌≤◌, nat_le, ◌&&◌}
use Rattle.std.proofs.Common.{if◌then◌else◌, Bool, true, false, List, [], ◌∷◌, length, Option, None}
use Rattle.std.proofs.Common.{Some, is_some, Result, Err, refl, sym, subst, ap, ◌∙◌, arith, not}
use Rattle.usb_packet.specs.{Toggle, Zero, One, is_same}
use Rattle.usb_port.specs.{PortState}
use Rattle.usb_device.specs.{Answer, RememberedPacket, Stage, idle, refused, reading, ending}
use Rattle.usb_device.specs.{max_packet, packet_at, toggle_at, Spec, State, Reply, forgotten}
use Rattle.usb_device.specs.{is_busy, nak_row, acknowledged, Way, is_whole, heard, gave}
use Rattle.usb_device.specs.{in_stage_law, in_law, row_of, Location, reach_on, state_on}
use Rattle.usb_device.specs.{held_addresses, repeats, taken_of, ReadingAt, ReadOn, StatusOn}
use Rattle.usb_device.specs.{StatusGiven, seen, unseen, OnlyControl, Write, writing, is_done}
use Rattle.usb_device.specs.{WriteEnded, WritingAt, taken_with}
use Rattle.usb_device.specs.Attempt.{whole}
use Rattle.usb_device.proofs.Interface.{control_read, is_same-refl}
use Rattle.usb_world.specs.{IsSettled, address_of, Outcome, AttemptAnswerer, got, World, Made}
use Rattle.usb_world.specs.{at_attempt, attempt, after, outcome_in, damage_in, Was, EachWas, DidIn}
use Rattle.usb_world.specs.{Attempt}
use Rattle.usb_world.specs.declared.types.Outcome.TheVariants.{Payload, Nak, Stall, Nothing}
use Rattle.usb_transfer.specs.{Target, HeardOutcome, Moved, Repeat, Lost, TransFault, Stalled, Busy}
use Rattle.usb_transfer.specs.{NoAnswer, heard_as, AttemptLog, start, next, IsNoEnd, waits_with}
use Rattle.usb_transfer.specs.{waits_in, TransactionDone, Transacted, NoThreeDamaged, Listens, Fits}
use Rattle.usb_transfer.specs.{HasNext, status, refusal, ControlInFailure, packed, in_attempt}
use Rattle.usb_transfer.specs.{is_at, IsNotOfBus, CanAnswer, ReadCut, ReadEnds, StatusEnds}
use Rattle.usb_transfer.specs.{ControlIn, refuses_in, WriteStatusEnds, WriteStatusFailure}
use Rattle.usb_transfer.specs.{WriteStatusIn}
use Rattle.usb_transfer.specs.TransactionFailures.{data_stage}
use Rattle.std.proofs.lemmas.Bool.Decides.{nat_tests}
use Rattle.arrayvec.specs.ArrayVec.{ArrayVec}
use Rattle.usb_transfer.proofs.DeviceRuns.{IsEnd, Run, as_whole, asked_in, at_from}
use Rattle.usb_transfer.proofs.DeviceRuns.{over_transaction, over_trail, in_kind, had_address}
use Rattle.usb_transfer.proofs.DeviceRuns.{heeded, listens_on, mine, not_busy, of_bus, one_wait}
use Rattle.usb_transfer.proofs.DeviceRuns.{others_stay_then, positive, Through, was_then, Moves}
use Rattle.usb_transfer.proofs.DeviceRuns.{OutcomeOfSpec, brought, could, result_of, summed, never}
use Rattle.usb_transfer.proofs.LastOutcomes.{heard_taken, no_packet, packet_heard, packet_in}
use Rattle.usb_transfer.proofs.Trails.{LostRun, damaged_more, lost_run_none, run_short}
use Rattle.usb_transfer.proofs.Trails.{trail_settled}
use Rattle.usb_world.proofs.Interface.{data_back, due_back, in_in, made_of, made_unshared}
use Rattle.usb_world.proofs.Interface.{one_answers, one_state, stands, state_stands}
use Rattle.usb_world.proofs.Interface.{stays_reachable_in, decided, equal_same, false_true}
use Rattle.usb_world.proofs.Interface.{same_equal}
use Rattle.usb_device.specs.declared.answer.Answer.TheVariants as answer
use Rattle.usb_device.specs.declared.transfer.InEndpoint.TheVariants as by

-- What a device that is asked answers, and what it is then

-- what the host got of it: NAK while it is busy; STALL where it refuses; a packet of a control
-- read; or the empty packet of a status stage
pub data ControlGave (u : State) : Outcome → State → Type 0 where
  silence : (k : ℕ) → k ≤ u.naks → ControlGave u Nothing (record u { naks = k })
  a_nak : is_busy u ≡ true → ControlGave u Nak (nak_row u).1
  a_stall : is_busy u ≡ false → refuses_in u.stage ≡ true → ControlGave u Stall u
  a_packet : is_busy u ≡ false → (text bytes : List ℕ) (wanted k n : ℕ) (m : RememberedPacket)
      → u.stage ≡ reading text wanted k → ControlGave u (Payload (toggle_at k) (packed bytes))
      (record u { memory = m; stage = reading text wanted n })
  a_status : is_busy u ≡ false → (a : Option ℕ) (v : State) → u.stage ≡ ending a → StatusGiven a u v
      → OnlyControl u v → v.naks ≡ u.naks → ControlGave u (Payload One (packed [])) v
  a_written : is_busy u ≡ false → (w : Write) (m : RememberedPacket) (st : Stage)
      → u.stage ≡ writing w → is_done w ≡ true → (st ≡ idle) ⊎ (st ≡ writing w)
      → ControlGave u (Payload One (packed [])) (record u { memory = m; stage = st })

abbrev ControlGives : ℕ → State → Reply → Type 0
ControlGives max u r = ControlGave u (got max r.0) r.1

gives_no_answer : (max : ℕ) (u : State) → ControlGives max u (None, u)
gives_no_answer max u = silence u.naks (omega arith)

heard_or : (P : Option Answer → Type 0) (o : Option Answer) (t : Way) → P o → P None → P (heard t o)
heard_or P o t x y = grind arith

gives_packet : (max : ℕ) (toggle : Toggle) (bytes : List ℕ) (u : State) (t2 t3 : Way)
    → ControlGave u (Payload toggle (packed bytes)) (forgotten (acknowledged u by.Control))
    → ControlGave u (Payload toggle (packed bytes)) u
    → ControlGives max u (gave u by.Control max toggle bytes t2 t3)
gives_packet max toggle bytes u whole t3 x y = fits (nat_le (length bytes) max) t3
  where
    fits : (b : Bool) (t : Way) → ControlGave u
        (if b then Payload toggle (packed bytes) else Nothing)
        (if b && is_whole t then forgotten (acknowledged u by.Control) else u)
    fits true whole = x
    fits true t = y
    fits false t = gives_no_answer max u
gives_packet max toggle bytes u t2 t3 x y = gives_no_answer max u

abbrev record_stage : State → Stage → State
record_stage s st = record s { stage = st }

gives_read : (max : ℕ) (s : State) (text : List ℕ) (wanted k : ℕ) (t2 t3 : Way) → is_busy s ≡ false
    → (o : Option (List ℕ)) → ControlGives max (record_stage s (reading text wanted k))
    (elim o [
      | None ↦ (None, record_stage s (reading text wanted k))
      | Some bytes ↦
          gave (record_stage s (reading text wanted k)) by.Control max (toggle_at k) bytes t2 t3
    ])
gives_read max s text wanted k t2 t3 free None = search gives_no_answer
gives_read max s text wanted k t2 t3 free (Some bytes) =
    gives_packet max (toggle_at k) bytes (record_stage s (reading text wanted k)) t2 t3
    (acked (is_some (packet_at (max_packet s.spec) wanted text k)))
    (a_packet free text bytes wanted k k s.memory refl)
  where
    acked : (b : Bool) → ControlGave (record_stage s (reading text wanted k))
        (Payload (toggle_at k) (packed bytes))
        (forgotten (if b then record_stage s (reading text wanted (k + 1)) else record_stage s
        (reading text wanted k)))
    acked true = a_packet free text bytes wanted k (k + 1) _ refl
    acked false = a_packet free text bytes wanted k k _ refl

gives_write : (max : ℕ) (s : State) (w : Write) (t2 t3 : Way) → is_busy s ≡ false → (b : Bool)
    → is_done w ≡ b → ControlGives max (record_stage s (writing w))
    (if b then gave (record_stage s (writing w)) by.Control max One [] t2 t3
    else (heard t2 (Some answer.Stall), record_stage s (writing w)))
gives_write max s w t2 t3 free true done =
    gives_packet max One [] (record_stage s (writing w)) t2 t3
    (a_written free w _ idle refl done (inl refl))
    (a_written free w _ (writing w) refl done (inr refl))
gives_write max s w t2 t3 free false unended =
    heard_or (λ o. ControlGives max (record_stage s (writing w)) (o, record_stage s (writing w)))
    (Some answer.Stall) t2 (a_stall free (ap not unended)) (search gives_no_answer)

gives_stage : (max : ℕ) (s : State) (st : Stage) (t2 t3 : Way) → is_busy s ≡ false
    → ControlGives max (record_stage s st) (in_stage_law (record_stage s st) st max t2 t3)
gives_stage max s refused t2 t3 free =
    heard_or (λ o. ControlGives max (record_stage s refused) (o, record_stage s refused))
    (Some answer.Stall) t2 (a_stall free refl) (search gives_no_answer)
gives_stage max s (reading text wanted k) t2 t3 free =
    gives_read max s text wanted k t2 t3 free (packet_at (max_packet s.spec) wanted text k)
gives_stage max s (ending None) t2 t3 free = gives_packet max One [] (record_stage s (ending None))
    t2 t3 (a_status free None _ refl (seen refl refl) refl refl)
    (a_status free None _ refl (unseen refl refl) refl refl)
gives_stage max s (ending (Some a)) t2 t3 free =
    gives_packet max One [] (record_stage s (ending (Some a))) t2 t3
    (a_status free (Some a) _ refl (seen refl refl) refl refl)
    (a_status free (Some a) _ refl (unseen refl refl) refl refl)
gives_stage max s (writing w) t2 t3 free = grind (arith, gives_write)
gives_stage max s st t2 t3 free = search gives_no_answer

gives_control : (max : ℕ) (u : State) (t2 t3 : Way) (b : Bool) → is_busy u ≡ b
    → ControlGives max u (if b then (heard t2 (Some answer.Nak), (nak_row u).1) else in_stage_law u
    u.stage max t2 t3)
gives_control max u t2 t3 true busy = heard_or (λ o. ControlGives max u (o, (nak_row u).1))
    (Some answer.Nak) t2 (a_nak busy) (silence (u.naks - 1) (omega arith))
gives_control max u t2 t3 false free = gives_stage max u u.stage t2 t3 free

pub gives_in : (max : ℕ) (u : State) (row : List PortState) (t1 t2 t3 : Way)
    → ControlGives max u (in_law u row 0 max t1 t2 t3)
gives_in max u row whole t2 t3 = search gives_control
gives_in max u row t1 t2 t3 = gives_no_answer max u

-- What a device is after attempts of which the last had this outcome

-- neither silent nor always busy
abbrev pub Free : Spec → Type 0
Free spec = (spec.silent ≡ false) × (spec.busy ≡ false)

-- of a control write that this came to: it stands, or its status stage came
abbrev pub WrittenOn : Write → Option (List ℕ) → State → Type 0
WrittenOn w None v = v.stage ≡ writing w
WrittenOn w (Some bytes) v = (bytes ≡ []) × (is_done w ≡ true)
    × ((v.stage ≡ idle) ⊎ (v.stage ≡ writing w))

reads_from : (text : List ℕ) (wanted n : ℕ) (s u v : State) (o : Option (List ℕ)) → u.spec ≡ s.spec
    → ReadOn text wanted n u o v → ReadOn text wanted n s o v
reads_from text wanted n s u v o e h = grind arith

given_from : (a : Option ℕ) (s u v : State) → u.registers ≡ s.registers → StatusGiven a u v
    → StatusGiven a s v
given_from a s u v e given = grind arith

status_from : (a : Option ℕ) (s u v : State) (o : Option (List ℕ)) → u.registers ≡ s.registers
    → StatusOn a u o v → StatusOn a s o v
status_from a s u v o e h = grind (arith, given_from)

-- in the data stage of a read it stays there, with its registers
abbrev pub StaysReading : State → State → Type 0
StaysReading s v = (text : List ℕ) (wanted k : ℕ) → s.stage ≡ reading text wanted k
    → (v.registers ≡ s.registers) × (n : ℕ) × (v.stage ≡ reading text wanted n)

module _ (t : Target) (awaited : Toggle) where
  abbrev came : Outcome → Option (List ℕ)
  came o = packet_heard (heard_as awaited o)

  pub record InResult (s : State) (c : Option (List ℕ)) (v : State) : Type 0 where
    pub others : is_at s t ≡ false → v ≡ s
    pub frame : OnlyControl s v
    pub naks : v.naks ≤ s.naks
    pub there : is_at s t ≡ true → (v.registers ≡ s.registers) ⊎ Free s.spec
    pub reading : is_at s t ≡ true → (answer : List ℕ) (wanted n : ℕ) → awaited ≡ toggle_at n
        → ReadingAt answer wanted n s
        → ReadOn answer wanted n s c v × (v.registers ≡ s.registers)
    pub status : is_at s t ≡ true → awaited ≡ One → (a : Option ℕ) → s.stage ≡ ending a
        → StatusOn a s c v
    pub written : is_at s t ≡ true → awaited ≡ One → (w : Write) → s.stage ≡ writing w
        → WrittenOn w c v × (v.registers ≡ s.registers)
    pub stays : StaysReading s v
    pub refuses : s.stage ≡ refused → (v.stage ≡ refused) × (v.registers ≡ s.registers)
        × (is_at s t ≡ true → c ≡ None)
    pub fails : awaited ≡ One → c ≡ None → v.registers ≡ s.registers
    pub back : refuses_in v.stage ≡ true → refuses_in s.stage ≡ true

  -- it stands where it stood
  kept : (c : Option (List ℕ)) (s : State) (k : ℕ) → k ≤ s.naks → (is_at s t ≡ false → k ≡ s.naks)
      → (is_at s t ≡ true → c ≡ None) → InResult s c (record s { naks = k })
  kept c s k few same none = grind (arith, same, none)

  pub unmoved : (s : State) → InResult s None s
  unmoved s = grind (arith, kept)

  abbrev Reads : State → Option (List ℕ) → State → Type 0
  Reads s c v = (answer : List ℕ) (wanted n : ℕ) → awaited ≡ toggle_at n
      → ReadingAt answer wanted n s → ReadOn answer wanted n s c v

  gave_step : (u : State) (o : Outcome) (v : State) → ControlGave u o v → is_at u t ≡ true
      → u.spec.silent ≡ false → Reads u (came o) v → InResult u (came o) v
  gave_step u o v (silence k few) at loud reads = search (kept, mine)
  gave_step u o v (a_nak busy) at loud reads = grind (arith, kept, mine)
  gave_step u o v (a_stall free h) at loud reads = grind (arith, kept, mine)
  gave_step u o v (a_packet free text bytes wanted k n m h) at loud reads =
      grind (arith, mine, reads)
  gave_step u o v (a_status free a x h given frame naks) at loud reads =
      grind (arith, mine, reads, not_busy)
  gave_step u o v (a_written free w m st h done is) at loud reads =
      grind (arith, mine, reads)

  gave_says : (u : State) (o : Outcome) (v : State) → ControlGave u o v → u.spec.silent ≡ false
      → OutcomeOfSpec u.spec (heard_as awaited o)
  gave_says u o v gave loud = grind (arith, not_busy)

  gave_in : (w : World) (j : Location) (u v : State) → DidIn (in_attempt t 0) w j u v
      → is_at u t ≡ true → ControlGave u (outcome_in (in_attempt t 0) w) v
  gave_in w j u v d at =
      let x = asked_in t 0 w j u v d at in
      rw (x.1.is, x.1.gave) (search gives_in)

  -- one attempt; what another device answered is not this one's
  pub did_step : (w : World) (j : Location) (u v : State) → DidIn (in_attempt t 0) w j u v
      → InResult u (came (outcome_in (in_attempt t 0) w)) v
  did_step w j u v (DidIn.other d e) =
      rw e (kept (came (outcome_in (in_attempt t 0) w)) u u.naks (omega arith) (λ a. refl)
      (λ at. mine t u at d))
  did_step w j u v (DidIn.silent d q o e) = rw (o, e) (unmoved u)
  did_step w j u v (DidIn.asked d q b below stood x o e) =
      let r : Reply = in_law u (row_of below) 0 t.max x.first x.second x.third in
      rw (o, e) (gave_step u (got t.max r.0) r.1 (gives_in t.max u (row_of below) x.first x.second
      x.third) d q (λ text wanted n f h.
      subst (λ c. ReadOn text wanted n u c r.1) (ap (λ z. taken_of z t.max r.0) (sym f)
      ∙ sym (heard_taken awaited t.max r.0))
      (control_read text wanted n u h (row_of below) t.max x.first x.second x.third)))

  did_says : (w : World) (j : Location) (u v : State) → DidIn (in_attempt t 0) w j u v
      → is_at u t ≡ true → OutcomeOfSpec u.spec (heard_as awaited (outcome_in (in_attempt t 0) w))
  did_says w j u v did at = grind (arith, gave_says, gives_in, mine)

  -- and attempts before it that brought nothing
  joined : (s u v : State) (c : Option (List ℕ)) → InResult s None u → InResult u c v
      → InResult s c v
  joined s u v c x y = record {
    others = others_stay_then t s u v x.others y.others;
    frame = cc (x.frame, y.frame);
    naks = omega (arith, x.naks, y.naks);
    there = grind (arith, at_from, x.there, y.there, x.frame);
    reading = λ at text wanted n e r.
        let before = x.reading at text wanted n e r in
        let later = y.reading (at_from t s u before.1 at) text wanted n e before.0 in (
          reads_from text wanted n s u v c (ap (λ z. z.spec) x.frame) later.0,
          later.1 ∙ before.1,
        );
    status = λ at e a h. let before = x.status at e a h in
        status_from a s u v c before.1 (grind (arith, at_from));
    written = λ at e w h.
        let before = x.written at e w h in
        let later = y.written (at_from t s u before.1 at) e w before.0 in
        (later.0, later.1 ∙ before.1);
    stays = grind arith;
    refuses = grind (arith, at_from, x.refuses, y.refuses);
    fails = grind arith;
    back = λ h. x.back (y.back h);
  }

  -- one that goes on brings nothing
  quiet : (s v : State) (o : Outcome) → IsNoEnd (heard_as awaited o) → InResult s (came o) v
      → InResult s None v
  quiet s v o n x = grind (arith, no_packet)

-- A STALL is of the one device that had the target's address from the first attempt on

-- each place that is reachable after the attempts was so when the first was made, and then no
-- address was held twice
trail_begun : (t : Target) {old new : World} {o : Outcome} {outcomes : List Outcome}
    → IsSettled old.roots → AttemptLog (in_attempt t 0) old (o ∷ outcomes) new → new.shared ≡ false
    → (repeats (held_addresses (at_attempt old).roots) ≡ false)
    × ((j : Location) → reach_on new.roots j ≡ true → reach_on (at_attempt old).roots j ≡ true)
trail_begun t settled (next w start made) single = grind (arith, data_back, made_of, made_unshared)
trail_begun t settled (next w (next x r before) made) single =
    let b = trail_begun t settled (next x r before)
    (made_unshared (in_attempt t 0) w made single).before in (
      b.0,
      λ j on. b.1 j (due_back w j (data_back (in_attempt t 0) w
          (made_of (in_attempt t 0) w (trail_settled (next x r before) settled) made) refl j
          on)).0,
    )

gave_stall : (u : State) (o : Outcome) (v : State) → ControlGave u o v → o ≡ Stall
    → refuses_in u.stage ≡ true
gave_stall u o v g e = grind arith

refused_back : (t : Target) {old : World} {j : Location} {s : State} {outcomes : List Outcome}
    {w : World} {v : State} → Run (DidIn (in_attempt t 0)) (in_attempt t 0) old j s outcomes w v
    → (is_at v t ≡ true) × (refuses_in v.stage ≡ true)
    → (is_at s t ≡ true) × (refuses_in s.stage ≡ true)
refused_back t Run.none h = h
refused_back t {j = j} (Run.more w u v r made run d) h =
    refused_back t run (
      had_address t u v (did_step t Zero w j u v d).others h.0,
      (did_step t Zero w j u v d).back h.1,
    )

pub stalled_refused : (t : Target) {old new : World} {o : Outcome} {outcomes : List Outcome}
    → IsSettled old.roots → AttemptLog (in_attempt t 0) old (o ∷ outcomes) new → o ≡ Stall
    → new.shared ≡ false
    → (j : Location) (s : State) → reach_on new.roots j ≡ true → state_on old.roots j ≡ Some s
    → is_at s t ≡ true → refuses_in s.stage ≡ true
stalled_refused t {old} settled (next {outcomes} w r made) stall single j s on there at =
    let y : AttemptAnswerer (in_attempt t 0) w =
    grind (arith, made_of, one_answers, trail_settled) in
    let h = y.holder in
    let x = in_in (in_attempt t 0) w h y.loud (grind arith) in
    let back : _ = due_back w h.spot h.on in
    let was : Was (λ j s v. Run (DidIn (in_attempt t 0)) (in_attempt t 0) old j s outcomes w v) old
    h.spot h.own =
    over_trail (in_kind t 0) old settled r (made_unshared (in_attempt t 0) w made single).before
    h.spot h.own back.0 (sym back.1 ∙ sym (grind (arith, state_stands))
    ∙ ap stands h.stands) tt in
    let refuses : _ = refused_back t was.so (
      same_equal (address_of h.own) t.addr h.at,
      gave_stall h.own _ _ (gives_in t.max h.own (row_of h.below) _ _ _) (sym x.outcome ∙ stall),
    ) in
    let b = trail_begun t settled (next w r made) single in
    let far : _ = grind (arith, stays_reachable_in) in
    ap (λ z. refuses_in z.stage) (one_state t.addr (at_attempt old).roots h.spot.row j.row
    h.spot.rest j.rest was.before s b.0 far ((due_back old h.spot far).1 ∙ was.stands)
    (grind (arith, equal_same))
    (b.1 j on) ((due_back old j (b.1 j on)).1 ∙ there) (equal_same (address_of s) t.addr at))
    ∙ refuses.1

-- A transaction

cut_read : (text : List ℕ) (wanted n : ℕ) (s v : State) (o : Option (List ℕ))
    → ReadOn text wanted n s o v → ReadCut text wanted n v
cut_read text wanted n s v o x = grind arith

cut_status : (a : Option ℕ) (s v : State) (o : Option (List ℕ)) → StatusOn a s o v
    → StatusGiven a s v
cut_status a s v o x = grind arith

-- a device over it
module _ (t : Target) (awaited : Toggle) (result : Result (List ℕ) TransFault) (old new : World)
    (j : Location) (s v : State) (run : Through (DidIn (in_attempt t 0)) (in_attempt t 0)
    (heard_as awaited) result old new j s v) where
  abbrev hears : Outcome → HeardOutcome
  hears = heard_as awaited

  whole_in : (o : Outcome) × (outcomes : List Outcome) × IsEnd hears result o outcomes
      × InResult t awaited s (came t awaited o) v
  whole_in = summed run (grind (arith, of_bus))
      (λ u. Unit {0}) (λ u o y. InResult t awaited u (came t awaited o) y)
      (search did_step) (search joined) (quiet t awaited) tt
      (unmoved t awaited s)

  same : IsNotOfBus result → came t awaited whole_in.0 ≡ packet_in result
  same h = grind (arith, brought, whole_in)

  so_could : is_at s t ≡ true → CanAnswer s.spec result
  so_could at =
      could (Moves hears) result run (λ u. InResult t awaited s None u) (λ w u y d n i.
      quiet t awaited s y (outcome_in (in_attempt t 0) w) n
      (search (did_step, joined))) (unmoved t awaited s) s.spec refl
      (grind arith) (grind (arith, at_from, did_says))

  control_in : (is_at s t ≡ true → result ≡ Err Stalled → refuses_in s.stage ≡ true)
      → ControlIn t awaited result j s v
  control_in stalled = let x = whole_in.3 in record {
    others = x.others;
    frame = x.frame;
    reading = λ at text wanted n f r.
        result_of (λ b. Some b) (λ c. ReadOn text wanted n s c v)
        (λ y. ReadEnds text wanted n s y v) (λ b z. z) (λ z. (z, z, z)) (search cut_read) result
        (came t awaited whole_in.0) same (x.reading at text wanted n f r).0;
    status = λ at f a h.
        result_of (λ b. Some b) (λ c. StatusOn a s c v) (λ y. StatusEnds a s y v) (λ b z. z)
        (λ z. (z, z, z)) (λ fault c z. cut_status a s v c z) result (came t awaited whole_in.0) same
        (x.status at f a h);
    refused = grind (arith, same, x.refuses);
    rests = λ h. (x.refuses h).1;
    failed = λ f fault g n. x.fails f (same n ∙ ap packet_in g);
    stalled = stalled;
    could = so_could;
    naks = x.naks;
  }

  -- the status stage of a control write
  module _ (at : is_at s t ≡ true) (one : awaited ≡ One) (before : List ℕ) (w : Write)
      (so : WritingAt before w s) where
    kept_bytes : v.taken ≡ taken_with before w
    kept_bytes = grind (arith, whole_in)

    still_writing : v.stage ≡ writing w → WritingAt before w v
    still_writing stage = search kept_bytes

    ended_write : (c : Option (List ℕ)) → WrittenOn w c v → WriteEnded before w v
    ended_write c x = grind (arith, kept_bytes, still_writing)

    status_in : WriteStatusEnds before w result v
    status_in =
        result_of (λ b. Some b) (λ c. WrittenOn w c v) (λ y. WriteStatusEnds before w y v)
        (λ b z. (z.0, z.1, ended_write (Some b) z)) (search still_writing)
        (λ fault c z. ended_write c z) result (came t awaited whole_in.0) same
        (whole_in.3.written at one w so.stage).0

-- Why it fails: packets that come whole

-- a device that stands so gives no repeat
abbrev fits : Toggle → Stage → Bool
fits awaited (reading text wanted k) = is_same awaited (toggle_at k)
fits awaited (ending a) = is_same awaited One
fits awaited (writing w) = is_same awaited One
fits awaited st = true

heard_some : (x : Bool) (b : ArrayVec ℕ) → (if x then Moved b else Repeat) ≢ Lost
heard_some x b = grind arith

-- a device that has what is next is heard, and gives no repeat after it has given one
abbrev Heeds : Target → Toggle → State → Reply → Type 0
Heeds t awaited u r = (heard_as awaited (got t.max r.0) ≢ Lost)
    × (is_busy u ≡ false → fits awaited u.stage ≡ false → fits awaited r.1.stage ≡ true)

nat_le-true : (n max : ℕ) → n ≤ max → nat_le n max ≡ true
nat_le-true n max h = grind (arith, nat_tests, h)

heeds_read : (t : Target) (awaited : Toggle) (u : State) (text : List ℕ) (wanted k : ℕ)
    → Fits t (max_packet u.spec) wanted text → (awaited ≡ toggle_at k)
    ⊎ (awaited ≡ toggle_at (k + 1)) → (o : Option (List ℕ))
    → packet_at (max_packet u.spec) wanted text k ≡ o → is_some o ≡ true
    → Heeds t awaited (record_stage u (reading text wanted k))
    (elim o [
      | None ↦ (None, record_stage u (reading text wanted k))
      | Some bytes ↦
          gave (record_stage u (reading text wanted k)) by.Control t.max (toggle_at k) bytes whole
          whole
    ])
heeds_read t awaited u text wanted k short near o packet some =
    grind (arith, false_true, heard_some, is_same-refl, nat_le-true)

-- what is next, also of a control write
data Ready (t : Target) (awaited : Toggle) (s : State) : Type 0 where
  reads_on : HasNext t awaited s → Ready t awaited s
  writes_on : (w : Write) → awaited ≡ One → s.stage ≡ writing w → Ready t awaited s

heeds_write : (t : Target) (u : State) (w : Write) (done : Bool)
    → Heeds t One (record_stage u (writing w))
    (if done then gave (record_stage u (writing w)) by.Control t.max One [] whole whole
    else (heard whole (Some answer.Stall), record_stage u (writing w)))
heeds_write t u w done = grind (arith, false_true, nat_le-true)

heeds_stage : (t : Target) (awaited : Toggle) (u : State) → Ready t awaited u
    → Heeds t awaited u (in_stage_law u u.stage t.max whole whole)
heeds_stage t awaited u (writes_on w e h) = grind (arith, heeds_write)
heeds_stage t awaited u (reads_on (data_stage text wanted n e r some short)) =
    subst (λ st. Heeds t awaited (record_stage u st)
    (in_stage_law (record_stage u st) st t.max whole whole)) (sym r.stage)
    (heeds_read t awaited u text wanted r.known short (grind arith)
    (packet_at (max_packet u.spec) wanted text r.known) refl (grind arith))
heeds_stage t awaited u (reads_on (status a h e)) = grind (arith, false_true, nat_le-true)
heeds_stage t awaited u (reads_on (refusal h)) = grind (arith, false_true)

heeds_whole : (t : Target) (awaited : Toggle) (u : State) (row : List PortState)
    → Ready t awaited u → Heeds t awaited u (in_law u row 0 t.max whole whole whole)
heeds_whole t awaited u row h = pick (is_busy u) refl
  where
    pick : (b : Bool) → is_busy u ≡ b
        → Heeds t awaited u (if b then (Some answer.Nak, (nak_row u).1) else in_stage_law u u.stage
        t.max whole whole)
    pick true busy = grind (arith, false_true)
    pick false busy = heeds_stage t awaited u h

-- what a device does that is busy, or gives no repeat: it stands where it stood, and a wait is a
-- NAK fewer
steady : (awaited : Toggle) (u : State) (o : Outcome) (v : State) → ControlGave u o v
    → (is_busy u ≡ true) ⊎ (fits awaited u.stage ≡ true) → u.spec.busy ≡ false
    → IsNoEnd (heard_as awaited o)
    → (v.stage ≡ u.stage) × ((n : ℕ) → waits_with (heard_as awaited o) n + v.naks ≤ n + u.naks)
steady awaited u o v (silence k few) q calm end = grind arith
steady awaited u o v (a_nak busy) q calm end = grind (arith, positive)
steady awaited u o v (a_stall free h) q calm end = absurd end
steady awaited u o v (a_packet free text bytes wanted k n m h) (inl busy) calm end =
    false_true (sym free ∙ busy)
steady awaited u o v (a_packet free text bytes wanted k n m h) (inr fit) calm end = grind arith
steady awaited u o v (a_status free a x h given frame naks) (inl busy) calm end =
    false_true (sym free ∙ busy)
steady awaited u o v (a_status free a x h given frame naks) (inr fit) calm end = grind arith
steady awaited u o v (a_written free w m st h done is) (inl busy) calm end =
    false_true (sym free ∙ busy)
steady awaited u o v (a_written free w m st h done is) (inr fit) calm end = grind arith

naks_none_left : (u : State) → is_busy u ≡ false → u.naks ≡ 0
naks_none_left u free = grind (arith, nat_tests)

-- what is next is so until it comes
next_kept : (t : Target) (awaited : Toggle) (place : Location) (u v : State)
    → InResult t awaited u None v → Listens t place u → Ready t awaited u
    → Listens t place v × Ready t awaited v
next_kept t awaited place u v x l (reads_on (data_stage text wanted n e r some short)) =
    let q = x.reading l.at text wanted n e r in
    let spec : v.spec ≡ u.spec = ap (λ z. z.spec) x.frame in (
      listens_on t place u v spec q.1 l,
      reads_on (data_stage text wanted n e q.0 (rw spec some) (rw spec short)),
    )
next_kept t awaited place u v x l (reads_on (status a h e)) = let q = x.status l.at e a h in
    (listens_on t place u v (ap (λ z. z.spec) x.frame) q.1 l, reads_on (status a q.0 e))
next_kept t awaited place u v x l (reads_on (refusal h)) = grind (arith, listens_on)
next_kept t awaited place u v x l (writes_on w e h) = let q = x.written l.at e w h in
    (listens_on t place u v (ap (λ z. z.spec) x.frame) q.1 l, writes_on w e q.0)

-- A device that has what is next, over attempts that go on: it waits no longer than it has NAKs,
-- but for repeats, which come no more after an attempt that is not damaged

module _ (t : Target) (awaited : Toggle) (old : World) (three : NoThreeDamaged old) (j : Location)
    (s : State) where
  abbrev a : Attempt
  a = in_attempt t 0

  abbrev hear : Outcome → HeardOutcome
  hear = heard_as awaited

  heeds_in : (w : World) (u v : State) → DidIn a w j u v → Listens t j u × Ready t awaited u
      → damage_in w ≡ None → (hear (outcome_in a w) ≢ Lost)
      × (is_busy u ≡ false → fits awaited u.stage ≡ false → fits awaited v.stage ≡ true)
  heeds_in w u v d i sound =
      let x = asked_in t 0 w j u v d i.0.at in
      rw (x.1.is, x.1.gave) (subst (Heeds t awaited u)
      (sym (as_whole x.1 sound i.0 (in_law u x.0 0 t.max))) (heeds_whole t awaited u x.0 i.1))

  stays : (w : World) (u v : State) → DidIn a w j u v → IsNoEnd (hear (outcome_in a w))
      → Listens t j u × Ready t awaited u → Listens t j v × Ready t awaited v
  stays w u v d n i = next_kept t awaited j u v
      (quiet t awaited u v (outcome_in a w) n (did_step t awaited w j u v d)) i.0 i.1

  record Waits (outcomes : List Outcome) (w : World) (u : State) : Type 0 where
    few : waits_in hear outcomes + u.naks ≤ s.naks + 3
    behind : fits awaited u.stage ≡ false → (r : ℕ) × LostRun old.damages r w.attempts
        × (waits_in hear outcomes + u.naks ≤ s.naks + r)
        × (0 < u.naks → waits_in hear outcomes + u.naks ≤ s.naks)

  waits_none : Waits [] old s
  unfolding waits_in
  waits_none = grind (arith, lost_run_none)

  one_more : (outcomes : List Outcome) (w : World) (u v : State) → AttemptLog a old outcomes w
      → Made w (after (attempt a) w) → Listens t j u × Ready t awaited u → u.spec.busy ≡ false
      → Waits outcomes w u → DidIn a w j u v
      → IsNoEnd (hear (outcome_in a w)) → Waits (outcome_in a w ∷ outcomes) (after (attempt a) w) v
  unfolding waits_in
  one_more outcomes w u v trail made i calm x d n =
      pick (decided (is_busy u)) (decided (fits awaited u.stage))
    where
      goes : (is_busy u ≡ true) ⊎ (fits awaited u.stage ≡ true) → (v.stage ≡ u.stage)
          × ((n : ℕ) → waits_with (hear (outcome_in a w)) n + v.naks ≤ n + u.naks)
      goes q = steady awaited u (outcome_in a w) v (gave_in t awaited w j u v d i.0.at) q calm n

      pick : (is_busy u ≡ true) ⊎ (is_busy u ≡ false) → (fits awaited u.stage ≡ true)
          ⊎ (fits awaited u.stage ≡ false) → Waits (outcome_in a w ∷ outcomes) (after (attempt a) w)
          v
      pick (inl busy) y =
          let few : _ = (goes (inl busy)).1 (waits_in hear outcomes) in
          record {
            few = omega (arith, few, x.few);
            behind = grind (arith, goes, lost_run_none, positive, x.behind);
          }
      pick (inr free) (inl fit) = record {
        few = omega (arith, (goes (inr fit)).1 (waits_in hear outcomes), x.few);
        behind = λ miss. false_true (sym miss ∙ ap (fits awaited) (goes (inr fit)).0 ∙ fit);
      }
      pick (inr free) (inr miss) =
          let q = x.behind miss in
          let more : _ = one_wait (hear (outcome_in a w)) (waits_in hear outcomes) in
          let left : v.naks ≤ u.naks = (did_step t awaited w j u v d).naks in
          record {
            few = omega (arith, more, left, q.2, run_short old q.0 w.attempts three q.1);
            behind = λ still. (
              q.0 + 1,
              damaged_more trail made q.0 (λ sound. false_true (sym still
                  ∙ (heeds_in w u v d i sound).1 free miss)) q.1,
              omega (arith, more, left, q.2),
              λ pos. absurd (omega (arith, pos, left, naks_none_left u free)),
            );
          }

  -- it answers, and waits no longer
  module _ (result : Result (List ℕ) TransFault) (new : World) (v : State)
      (run : Through (DidIn a) a hear result old new j s v) (l : Listens t j s)
      (h : Ready t awaited s) where
    answered : result ≢ Err NoAnswer
    answered = heeded (Moves hear) result run (λ u. Listens t j u × Ready t awaited u) stays (l, h)
        three
        (λ w u y d i sound. (heeds_in w u y d i sound).0)

    waited : s.spec.busy ≡ false → s.naks ≤ 200 → result ≢ Err Busy
    waited calm few =
        never (Moves hear) result run (λ u. (Listens t j u × Ready t awaited u)
        × (u.spec.busy ≡ false)) (λ w u y d n i. (
          stays w u y d n i.0,
          ap (λ z. z.spec.busy) (did_step t awaited w j u y d).frame ∙ i.1,
        )) ((l, h), calm) Waits waits_none
        (λ outcomes w u y trail made i so d n. one_more outcomes w u y trail made i.0 i.1 so d n)
        (Err Busy) tt (λ outcomes. waits_in hear outcomes ≡ 256) (λ o outcomes end. end)
        (grind arith)

-- Each device

-- what an IN of endpoint 0 says of it: what it leaves, and why it failed; also where it is to end a
-- control write
pub record ControlInTold (t : Target) (awaited : Toggle) (result : Result (List ℕ) TransFault)
    (old : World) (j : Location) (s v : State) : Type 0 where
  pub leaves : ControlIn t awaited result j s v
  pub write : awaited ≡ One → WriteStatusIn t result j s v
  pub steady : StaysReading s v
  pub why : NoThreeDamaged old → ControlInFailure t awaited result j s v
  pub write_why : NoThreeDamaged old → awaited ≡ One → WriteStatusFailure t result j s v

pub control_in_told : (t : Target) (awaited : Toggle) (result : Result (List ℕ) TransFault)
    (old new : World) → IsSettled old.roots
    → Transacted (heard_as awaited) (in_attempt t 0) old result new → new.shared ≡ false
    → EachWas (ControlInTold t awaited result old) old new
control_in_told t awaited result old new settled x single j v on there =
    let was = over_transaction (in_kind t 0) old settled (heard_as awaited) new single result x j v
    on there tt in
    let s = was.before in
    let run = was.so in
    let answers = λ (three : NoThreeDamaged old). answered t awaited old three j s result new v run
    in
    let waits = λ (three : NoThreeDamaged old). waited t awaited old three j s result new v run in
    was_then was (record {
      leaves = control_in t awaited result old new j s v run (λ at e. stalled
          (grind arith) s was.stands
          at);
      write = λ one. record {
        status = search status_in;
        rests = λ at before w so.
            ((whole_in t awaited result old new j s v run).3.written at one w so.stage).1;
      };
      steady = (whole_in t awaited result old new j s v run).3.stays;
      why = λ three. record {
        answered = λ l h. answers three l (reads_on h);
        waited = λ l h. waits three l (reads_on h);
      };
      write_why = λ three one. record {
        answered = λ l w h. answers three l (writes_on w one h);
        waited = λ l w h. waits three l (writes_on w one h);
      };
    })
  where
    stalled : TransactionDone (heard_as awaited) (in_attempt t 0) old (Err Stalled) new
        → (s : State) → state_on old.roots j ≡ Some s → is_at s t ≡ true
        → refuses_in s.stage ≡ true
    stalled e s stood at = grind (arith, stalled_refused)
