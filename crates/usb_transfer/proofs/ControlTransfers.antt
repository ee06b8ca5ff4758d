-- Control transfers: what each leaves of each device, why it fails, which address losses it counts,
-- and what its call tells.
use Rattle.std.specs.Global.{Vec}
use Rattle.std.specs.Result.{IsErr, IsErrAnd}
use Rattle.std.proofs.Common.{◌≡◌, ℕ, ◌+◌, nat_le, ◌&&◌, if◌then◌else◌, Bool, true, false, List}
use Rattle.std.proofs.Common.{length, Option, None, Some, is_some, refl, sym, subst, ◌∙◌, ◌≢◌, ◌==◌}
use Rattle.std.proofs.Common.{not, ap, arith, ◌⊎◌, inl, inr, ◌*◌, ◌<◌, ◌≤◌, nat_lt, ◌||◌, [], ◌++◌}
use Rattle.std.proofs.Common.{take, length-append, length-drop, Result, Ok, Err, ◌-◌, OnOk, IfOk}
use Rattle.std.proofs.Common.{MatchResult}
use Rattle.std.proofs.Math.Nat.{mul-le-mul_right}
use Rattle.std.proofs.Math.Seq.{take-append-add}
use Rattle.std.proofs.lemmas.Bool.{and_parts}
use Rattle.std.proofs.lemmas.Bool.Decides.{nat_tests}
use Rattle.std.proofs.lemmas.List.{take_all, length-take}
use Rattle.std.proofs.lemmas.Nat.{div-add-mod'}
use Rattle.usb_packet.specs.{Toggle, One, other, flips}
use Rattle.usb_packet.proofs.Interface.{flips_next}
use Rattle.usb_request.specs.{bytes_of, setup_of, IsToHost, Setup, GET_STATUS, CLEAR_FEATURE}
use Rattle.usb_request.specs.{SET_FEATURE, SET_ADDRESS, GET_DESCRIPTOR, GET_CONFIGURATION}
use Rattle.usb_request.specs.{SET_CONFIGURATION, DEVICE_IN, DEVICE_OUT, ENDPOINT_OUT, HUB_IN}
use Rattle.usb_request.specs.{PORT_IN, PORT_OUT, INTERFACE_IN, INTERFACE_OUT, ENDPOINT_IN}
use Rattle.usb_request.specs.{GET_INTERFACE, SET_INTERFACE}
use Rattle.usb_port.specs.{PortState}
use Rattle.usb_device.specs.{OnlyControl, OnlyStage, ReadingAt, ReadOn, Outcome, stalled}
use Rattle.usb_device.specs.{tells_port, Is, asked_descriptor, outcome, takes_address}
use Rattle.usb_device.specs.{address_at_end, State, accepted, begun, Spec, reading, max_packet}
use Rattle.usb_device.specs.{packet_at, Stage, ending, refused, packets_joined, first_stage}
use Rattle.usb_device.specs.{reads_port, row_of, Location, Registers, answers_taken, takes, Write}
use Rattle.usb_device.specs.{writing, first_write, ends_if, tells_halt, told_halt, ServedEndpoint}
use Rattle.usb_device.specs.Request.{answers}
use Rattle.usb_device.proofs.Interface.{packets_joined-is, packets_joined-whole, packet-further}
use Rattle.usb_device.proofs.Interface.{packet-fits, asked_own-to_host}
use Rattle.usb_world.specs.{is_harmless, Relation, EachWas, Course, World, AttemptsWithin}
use Rattle.usb_world.specs.{IsSettled, address_of}
use Rattle.usb_world.proofs.Interface.{course_joined, register_address, spends_none, spends_then}
use Rattle.usb_world.proofs.Interface.{spends_wider, decided, either_of}
use Rattle.usb_bus.specs.{Traced, StepRun, still}
use Rattle.usb_bus.proofs.Interface.{traced_then}
use Rattle.usb_transfer.specs.{Answerer, NoThreeDamaged, HasNext, Fits, set_up_as, ControlIn}
use Rattle.usb_transfer.specs.{AcceptedAt, is_at, IsInRead, IsNotOfBus as TransNotOfBus}
use Rattle.usb_transfer.specs.{begins_no_stretch, LossesIn, EachSpared, Transacted, setup_attempt}
use Rattle.usb_transfer.specs.{AttemptsMade, transaction_bound, TransFault, Target, as_pipe_fault}
use Rattle.usb_transfer.specs.{ends_stage, byte_bound, FaultAfter, WriteFailure, ControlReadFailure}
use Rattle.usb_transfer.specs.{IsNoBusFault, AcceptedIn, IsBehind, AnswerRead, ReadLeaves}
use Rattle.usb_transfer.specs.{WasRefused, EffectDone, EffectOrNone, WriteLeaves, TookItOrLost}
use Rattle.usb_transfer.specs.{LossesOf, IsMaximum, SetUp, Goes, DataStage, Reads, Writes, Asks}
use Rattle.usb_transfer.specs.{DataEnds, Confirms, Unshared, ControlRead, ControlWrite, PipeFault}
use Rattle.usb_transfer.proofs.SetupTransactions.{spared_all, spared_wider, spec_stays}
use Rattle.usb_transfer.proofs.DeviceRuns.{listens_at, DeviceTold}
use Rattle.usb_transfer.specs.Stages.{start, packet}
use Rattle.usb_transfer.proofs.Answerers.{who_reads, who_writes}
use Rattle.usb_transfer.proofs.Attempts.{in_behind, out_behind, goes_behind, stage_behind}
use Rattle.usb_transfer.proofs.Bounds.{full_packet, bound_grows}
use Rattle.usb_transfer.proofs.ControlSteps.{ended_stalled, asked_leaves, only_stage, flips_at}
use Rattle.usb_transfer.proofs.ControlSteps.{MayEnd, GoesOn, goes_on, last_failed, not_failed}
use Rattle.usb_transfer.proofs.ControlSteps.{set_up_failed, ControlOutAsked, put_leaves}
use Rattle.usb_transfer.proofs.ControlSteps.{ended_damages, host_harmless, request_type-other}
use Rattle.usb_transfer.proofs.ControlSteps.{sound_in, ControlInAsked, Requested, Only, only_first}
use Rattle.usb_transfer.proofs.ControlSteps.{RequestReached, reached_first, reached_last}
use Rattle.usb_transfer.proofs.ControlSteps.{reached_more, either_way, host_stretch}
use Rattle.usb_transfer.proofs.TransactionFaults.{fell, Fell}
use Rattle.usb_transfer.specs.Losses as transaction
use Rattle.usb_transfer.specs.declared.trans_fault.TransFault.TheVariants as trans
use Rattle.usb_transfer.specs.declared.fault.PipeFault.TheVariants as pipe_fault

-- What a request for data asks: bytes, or a refusal

abbrev IsReadingOutcome : Outcome → Type 0
IsReadingOutcome stalled = Unit {0}
IsReadingOutcome (answers bytes) = Unit {0}
IsReadingOutcome (tells_port i) = Unit {0}
IsReadingOutcome answers_taken = Unit {0}
IsReadingOutcome (tells_halt endpoint) = Unit {0}
IsReadingOutcome o = ⊥

-- a request whose data go to the device is another
no_write : (r : Setup) → IsToHost r → (type request : ℕ) (x y : Outcome) → type < 128
    → IsReadingOutcome y → IsReadingOutcome (if Is r type request then x else y)
no_write r h type request x y writes g = grind (arith, request_type-other)

tells_text : (o : Option (List ℕ)) → IsReadingOutcome (elim o
    as (λ _. Outcome) [ None ↦ stalled | Some text ↦ answers text ])
tells_text o = grind arith

tells_descriptor : (s : Spec) (value : ℕ) → IsReadingOutcome (asked_descriptor s value)
tells_descriptor s value = grind (arith, either_way, tells_text)

tells_status : (o : Option ServedEndpoint) → IsReadingOutcome (told_halt o)
tells_status o = grind arith

outcome-is_reading : (s : Spec) (g : Registers) (r : Setup) → IsToHost r
    → IsReadingOutcome (outcome s g r)
unfolding outcome
outcome-is_reading s g r h =
    either_way IsReadingOutcome (Is r DEVICE_IN GET_DESCRIPTOR) _ _ (tells_descriptor s r.value)
    (either_way IsReadingOutcome (Is r DEVICE_IN GET_STATUS) _ _ (grind (arith, either_way))
    (either_way IsReadingOutcome (Is r DEVICE_IN GET_CONFIGURATION) _ _ tt
    (no_write r h DEVICE_OUT SET_ADDRESS _ _ (omega arith)
    (no_write r h DEVICE_OUT SET_CONFIGURATION _ _ (omega arith)
    (either_way IsReadingOutcome (Is r INTERFACE_IN GET_STATUS) _ _ (grind (arith, either_way))
    (either_way IsReadingOutcome (Is r INTERFACE_IN GET_INTERFACE) _ _ (grind (arith, either_way))
    (no_write r h INTERFACE_OUT SET_INTERFACE _ _ (omega arith)
    (either_way IsReadingOutcome (Is r ENDPOINT_IN GET_STATUS) _ _
    (grind (arith, either_way, tells_status))
    (no_write r h ENDPOINT_OUT CLEAR_FEATURE _ _ (omega arith)
    (no_write r h ENDPOINT_OUT SET_FEATURE _ _ (omega arith)
    (either_way IsReadingOutcome (Is r HUB_IN GET_DESCRIPTOR) _ _ (grind (arith, either_way))
    (either_way IsReadingOutcome (Is r PORT_IN GET_STATUS) _ _ (grind arith)
    (no_write r h PORT_OUT SET_FEATURE _ _ (omega arith)
    (no_write r h PORT_OUT CLEAR_FEATURE _ _ (omega arith)
    (asked_own-to_host IsReadingOutcome tt s.requests g r (grind (arith, nat_tests, h))
    (λ bytes. tt) tt)))))))))))))))

-- nothing else comes of it
asks_only : (s : State) (row : List PortState) (wanted : ℕ) (o : Outcome) → IsReadingOutcome o
    → begun s row wanted o
    ≡ record s { naks = s.spec.naks; stage = first_stage row s wanted o }
asks_only s row wanted o h = grind arith

-- The stage that a request begins

data FirstStage (wanted : ℕ) (o : Outcome) (st : Stage) : Type 0 where
  refuses : st ≡ refused → FirstStage wanted o st
  answers_with : (bytes : List ℕ) → (wanted == 0) ≡ false → st ≡ reading bytes wanted 0
      → FirstStage wanted o st
  ends : st ≡ ending (address_at_end o) → (IsReadingOutcome o → (wanted == 0) ≡ true)
      → FirstStage wanted o st
  writes_from : (w : Write) → (wanted == 0) ≡ false → st ≡ writing w → (IsReadingOutcome o → ⊥)
      → FirstStage wanted o st

first_bytes : (wanted : ℕ) (o : Outcome) (bytes : List ℕ) (b : Bool) → (wanted == 0) ≡ b
    → address_at_end o ≡ None → FirstStage wanted o
    (if b then ending None else reading bytes wanted 0)
first_bytes wanted o bytes true e none = grind arith
first_bytes wanted o bytes false e none = answers_with bytes e refl

first_port : (wanted : ℕ) (o : Outcome) (port : Option PortState) → address_at_end o ≡ None
    → FirstStage wanted o (reads_port wanted port)
first_port wanted o None none = refuses refl
first_port wanted o (Some port) none = search first_bytes

first_write-kept : (wanted : ℕ) (kept b : Bool) → (wanted == 0) ≡ b
    → FirstStage wanted (takes kept) (if b then ends_if kept
    else writing (first_write wanted kept))
first_write-kept wanted true true e = ends refl (λ h. absurd h)
first_write-kept wanted false true e = refuses refl
first_write-kept wanted kept false e = writes_from (first_write wanted kept) e refl (λ h. h)

first_stage_of : (row : List PortState) (d : State) (wanted : ℕ) (o : Outcome)
    → FirstStage wanted o (first_stage row d wanted o)
first_stage_of row d wanted stalled = refuses refl
first_stage_of row d wanted (answers bytes) = search first_bytes
first_stage_of row d wanted (tells_port i) = search first_port
first_stage_of row d wanted answers_taken = search (first_bytes, d.taken)
first_stage_of row d wanted (tells_halt endpoint) = search first_bytes
first_stage_of row d wanted (takes kept) = search first_write-kept
first_stage_of row d wanted o = ends refl (λ h. absurd h)

pub is_some_byte : (wanted : ℕ) → 1 ≤ wanted → (wanted == 0) ≡ false
is_some_byte wanted h = grind (arith, nat_tests, h)

-- where no data are wanted, it refuses or ends
closes : (row : List PortState) (d : State) (wanted : ℕ) (o : Outcome) → wanted ≡ 0
    → (first_stage row d wanted o ≡ refused)
    ⊎ (first_stage row d wanted o ≡ ending (address_at_end o))
closes row d wanted o e = grind (arith, first_stage_of)

-- it gives an address only where the request asks for one
asks_for : (o : Outcome) (a : ℕ) → address_at_end o ≡ Some a → o ≡ takes_address a
asks_for o a e = grind arith

pub first_stage-address : (row : List PortState) (d : State) (wanted : ℕ) (o : Outcome)
    (a : ℕ) → first_stage row d wanted o ≡ ending (Some a) → o ≡ takes_address a
first_stage-address row d wanted o a e = grind (arith, asks_for, first_stage_of)

-- The packets of an answer

packet_is : (c : Bool) (x bytes : List ℕ) → (if c then Some x else None) ≡ Some bytes → x ≡ bytes
packet_is c x bytes h = grind arith

least_by : (b : Bool) (m : ℕ) → (b ≡ true → 8 ≤ m) → 8 ≤ (if b then m else 8)
least_by b m h = grind arith

pub at_least_8 : (s : Spec) → 8 ≤ max_packet s
at_least_8 s = grind (arith, and_parts, least_by, nat_tests)

-- where some bytes are wanted, there is a first packet
first_by : (q r wanted len whole : ℕ) → whole + r ≡ len → (q ≤ 0 → whole ≤ 0) → 1 ≤ wanted
    → (b : Bool) → (r == 0 && not (nat_lt len wanted)) ≡ b → nat_lt 0 (q + (if b then 0 else 1))
    ≡ true
first_by q r wanted len whole sum none some b e = grind (arith, and_parts, nat_tests)

-- whether a packet is behind one, by that one's size and by how many bytes came with it
over_if : (size max came wanted : ℕ) → (nat_lt size max || nat_le wanted came) ≡ true
    → (size == max && nat_lt came wanted) ≡ false
over_if size max came wanted h = grind (arith, either_of, nat_tests)

more_if : (size max came wanted : ℕ) → size ≤ max → (nat_lt size max || nat_le wanted came) ≡ false
    → (size == max && nat_lt came wanted) ≡ true
more_if size max came wanted fits h = grind (arith, nat_tests, fits, h)

over_soon : (size max came wanted : ℕ) → size ≤ came → 8 ≤ max → wanted ≤ 8
    → (nat_lt size max || nat_le wanted came) ≡ false → ⊥
over_soon size max came wanted part least few h = grind (arith, nat_tests)

module _ (max wanted : ℕ) (answer : List ℕ) where
  abbrev Wanted : List ℕ
  Wanted = take wanted answer

  few_wanted : length Wanted ≤ wanted
  few_wanted = grind (arith, length-take)

  first_packet : 1 ≤ wanted → is_some (packet_at max wanted answer 0) ≡ true
  first_packet some = grind (arith, div-add-mod', first_by, mul-le-mul_right)

  -- no packet has more than is wanted
  few_bytes : (bytes : List ℕ) (k : ℕ) → packet_at max wanted answer k ≡ Some bytes
      → length bytes ≤ wanted
  few_bytes bytes k h = grind (arith, few_wanted, length-drop, length-take, packet_is)

  joined_more : (got bytes : List ℕ) (n : ℕ) → got ≡ packets_joined max wanted answer n
      → packet_at max wanted answer n ≡ Some bytes
      → got ++ bytes ≡ packets_joined max wanted answer (n + 1)
  joined_more got bytes n e h = grind arith

  module _ (tmax n : ℕ) (got last : List ℕ) (least : 8 ≤ max) (h : packet_at max wanted answer n
      ≡ Some last) (e : got ++ last ≡ packets_joined max wanted answer (n + 1)) where
    abbrev came : ℕ
    came = length (packets_joined max wanted answer (n + 1))

    -- behind a packet that was not the last, there is a next
    next_packet : 8 ≤ tmax → ends_stage (length last) tmax (length (got ++ last)) wanted ≡ false
        → (max ≡ tmax) ⊎ (wanted ≤ 8) → is_some (packet_at max wanted answer (n + 1)) ≡ true
    next_packet most on (inl same) =
        packet-further max wanted answer last n (omega (arith, least)) h
        ∙ more_if (length last) max came wanted (search packet-fits)
        (grind arith)
    next_packet most on (inr few) = grind (arith, length-append, over_soon)

    all_came : ends_stage (length last) tmax came wanted ≡ true → (max ≡ tmax) ⊎ (wanted ≤ 8)
        → packets_joined max wanted answer (n + 1) ≡ Wanted
    all_came was_last (inr few) = grind (arith, few_wanted, packets_joined-is, take_all)
    all_came was_last (inl same) =
        let pos : 0 < max = omega (arith, least) in
        packets_joined-whole max wanted answer (n + 1) pos
        (elim (packet_at max wanted answer (n + 1))
        as (λ o. is_some o ≡ false → o ≡ None) [ None ↦ λ e. refl | Some x ↦ λ e. cc e ]
        (packet-further max wanted answer last n pos h
        ∙ over_if (length last) max came wanted (grind arith)))

    -- the bytes that are kept are all that was wanted of the answer
    bytes_are_all : (bytes : List ℕ) → bytes ≡ take wanted (got ++ last)
        → ends_stage (length last) tmax (length bytes) wanted ≡ true → (max ≡ tmax) ⊎ (wanted ≤ 8)
        → bytes ≡ Wanted
    bytes_are_all bytes kept was_last same =
        grind (arith, all_came, few_wanted, length-take, packets_joined-is, take_all)

all_fit : (t : Target) (most wanted : ℕ) (answer : List ℕ) → 8 ≤ t.max → (most ≡ t.max)
    ⊎ (wanted ≤ 8) → Fits t most wanted answer
all_fit t most wanted answer least same k bytes h = grind (arith, few_bytes, packet-fits)

-- A device that accepted the request with these ports, as far as its transfer is

-- it refused; or it answers, n packets of that came, and this is so of the answer
data Far (wanted n : ℕ) (got : List ℕ) (So : List ℕ → Type 0) (first : Stage) (s v : State) : Type 0
  where
    refuses_at : first ≡ refused → v.stage ≡ refused → n ≡ 0 → Far wanted n got So first s v
    answers_at : (answer : List ℕ) → first ≡ reading answer wanted 0 → ReadingAt answer wanted n v
        → got ≡ packets_joined (max_packet s.spec) wanted answer n → So answer
        → Far wanted n got So first s v

-- there is a next packet
abbrev Next : Target → ℕ → ℕ → State → List ℕ → Type 0
Next t wanted n s answer = 8 ≤ t.max → IsMaximum t wanted s
    → is_some (packet_at (max_packet s.spec) wanted answer n) ≡ true

-- these are all the bytes that were wanted
abbrev Came : Target → ℕ → List ℕ → State → List ℕ → Type 0
Came t wanted bytes s answer = IsMaximum t wanted s → bytes ≡ take wanted answer

record ReadTold (t : Target) (request : Setup) (n : ℕ) (got : List ℕ) (So : State → List ℕ → Type 0)
    (old first now : World) (j : Location) (s v : State) : Type 0 where
  row : List PortState
  accepts : AcceptedIn t request old first j row s
  frame : OnlyStage s v
  naks : v.naks ≤ s.spec.naks
  losses : now.losses ≡ old.losses
  far : Far request.length n got (So s)
      (first_stage row s request.length (outcome s.spec s.registers request)) s v

-- What a read tells of the device that it asked: what it leaves of it, why it fails, and what it
-- loses
record AskedRead (t : Target) (request : Setup) (result : Result (Vec ℕ) PipeFault)
    (old new : World) (j : Location) (s v : State) : Type 0 where
  frame : OnlyStage s v
  done : (bytes : Vec ℕ) → result ≡ Ok bytes → AnswerRead t request bytes.items old new j s v
  refused : result ≡ Err pipe_fault.Stalled → WasRefused t request old new j s
  ends : MayEnd t ((8 ≤ t.max) × IsMaximum t request.length s) result old j s
  losses : IsNoBusFault result → new.losses ≡ old.losses

module _ (t : Target) (request : Setup) (host : IsToHost request) (some : 1 ≤ request.length)
    (same : setup_of (bytes_of request) ≡ request) where
  abbrev Wants : ℕ
  Wants = request.length

  -- as it accepted it
  accepted_is : {old now : World} {j : Location} (s u : State)
      (x : AcceptedAt t (bytes_of request) old now j s u) → u ≡ record s {
        naks = s.spec.naks;
        stage = first_stage (row_of x.holder.below) s Wants
            (outcome s.spec s.registers request);
      }
  accepted_is s u x = grind (arith, asks_only, outcome-is_reading, x.is)

  told_first : {old first : World} (j : Location) (s u : State) → is_at s t ≡ true
      → Requested t request (Ok []) old first j s u
      → ReadTold t request 0 [] (Next t Wants 0) old first first j s u
  told_first {old} {first} j s u at y =
      let x : AcceptedAt t (bytes_of request) old first j s u = y.done.done at [] refl in
      let o : Outcome = outcome s.spec s.registers request in
      let e : u ≡ record s {
        naks = s.spec.naks;
        stage = first_stage (row_of x.holder.below) s Wants o;
      } = accepted_is s u x in
      record {
        row = row_of x.holder.below;
        accepts = record { state = u; at = x; had = refl };
        frame = grind arith;
        naks = grind arith;
        losses = y.kept (host_stretch request host) tt;
        far = elim (first_stage_of (row_of x.holder.below) s Wants o) [
          | refuses h ↦ refuses_at h (ap (λ d. d.stage) e ∙ h) refl
          | answers_with answer f h ↦ answers_at answer h (grind arith) refl
              (grind (arith, first_packet))
          | ends h f ↦ cc (sym (is_some_byte Wants some)
              ∙ f (grind (arith, outcome-is_reading)))
          | writes_from w f h g ↦
              absurd (grind (arith, outcome-is_reading))
        ];
      }

  module _ {n : ℕ} {got : List ℕ} {So : State → List ℕ → Type 0} {old first mid : World}
      {j : Location} {s u : State} (at : is_at s t ≡ true)
      (x : ReadTold t request n got So old first mid j s u) where
    told_on : GoesOn t j s u
    told_on = grind (arith, goes_on)

    told_at : is_at u t ≡ true
    told_at = told_on.at at

    told_frame : (v : State) → OnlyStage u v → OnlyStage s v
    told_frame v f = grind arith

    -- one more IN
    module _ {result : Result (List ℕ) TransFault} {new : World} {v : State}
        (y : ControlInAsked t (flips n One) result mid new j u v) where
      steady_on : v.registers ≡ u.registers
      steady_on = grind arith

      frame_then : OnlyStage s v
      frame_then = grind (arith, only_stage, steady_on, told_frame)

      losses_then : TransNotOfBus result → new.losses ≡ old.losses
      losses_then sound = grind (arith, told_at)

    -- a packet that came
    told_more : {bytes : List ℕ} {new : World} {v : State} (Q : State → List ℕ → Type 0)
        → ControlInAsked t (flips n One) (Ok bytes) mid new j u v
        → ((answer : List ℕ) → packet_at (max_packet s.spec) Wants answer n ≡ Some bytes
        → got ++ bytes ≡ packets_joined (max_packet s.spec) Wants answer (n + 1) → Q s answer)
        → ReadTold t request (n + 1) (got ++ bytes) Q old first new j s v
    told_more {bytes} {v = v} Q y q = record {
      row = x.row;
      accepts = x.accepts;
      frame = frame_then y;
      naks = omega (arith, x.naks, y.told.leaves.naks);
      losses = losses_then y tt;
      far = elim x.far [
        | refuses_at f h none ↦ absurd ((y.told.leaves.refused h).1 told_at bytes refl)
        | answers_at answer f r b so ↦
            let on : ReadOn answer Wants n u (Some bytes) v =
            y.told.leaves.reading told_at answer Wants n (flips_at n) r in
            let came : packet_at (max_packet s.spec) Wants answer n ≡ Some bytes =
            ap (λ d. packet_at (max_packet d) Wants answer n) (sym told_on.spec) ∙ on.0 in
            let all : got ++ bytes ≡ packets_joined (max_packet s.spec) Wants answer (n + 1) =
            joined_more (max_packet s.spec) Wants answer got bytes n b came in
            answers_at answer f on.1 all (q answer came all)
      ];
    }

  -- a packet that did not come
  read_lost : {n : ℕ} {got : List ℕ} {old first mid new : World} (fault : TransFault)
      → mid.damages ≡ old.damages → (Fell fault trans.Stalled → Course (IsBehind t) first new)
      → (j : Location) (s u v : State) → is_at s t ≡ true
      → ReadTold t request n got (Next t Wants n) old first mid j s u
      → ControlInAsked t (flips n One) (Err fault) mid new j u v
      → AskedRead t request (Err (as_pipe_fault fault)) old new j s v
  read_lost {n} {old = old} {first} {mid} fault undamaged since j s u v at x y = record {
    frame = frame_then at x y;
    done = λ b e. cc e;
    refused = grind (arith, fell, told_at, x.far, y.told.leaves.stalled, x.accepts);
    ends = last_failed (as_pipe_fault fault) fault refl mid (HasNext t (flips n One) u)
        (told_on at x) undamaged (y.told.leaves.could (told_at at x)) has_next
        (λ three. (y.told.why three).answered) (λ three. (y.told.why three).waited);
    losses = λ sound. losses_then at x y (sound_in (Vec ℕ) fault sound);
  }
    where
      has_next : (8 ≤ t.max) × IsMaximum t Wants s → HasNext t (flips n One) u
      has_next (least, m) = elim x.far [
        | refuses_at f h none ↦ HasNext.refusal h
        | answers_at answer f r b so ↦
            HasNext.data_stage answer Wants n (flips_at n) r
            (subst (λ d. is_some (packet_at (max_packet d) Wants answer n) ≡ true)
            (sym (told_on at x).spec) (so least m))
            (subst (λ d. Fits t (max_packet d) Wants answer) (sym (told_on at x).spec)
            (search (all_fit, s.spec)))
      ]

  -- a packet for which there was no memory
  read_full : {n : ℕ} {got last : List ℕ} {old first mid new : World} (j : Location) (s u v : State)
      → is_at s t ≡ true → ReadTold t request n got (Next t Wants n) old first mid j s u
      → ControlInAsked t (flips n One) (Ok last) mid new j u v
      → AskedRead t request (Err pipe_fault.Memory) old new j s v
  read_full {last = last} j s u v at x y = record {
    frame = frame_then at x y;
    done = λ b e. cc e;
    refused = λ e. cc e;
    ends = grind (arith, not_failed, told_at, told_on, y.told.leaves.could);
    losses = λ sound. losses_then at x y tt;
  }

  -- a status stage that did not end
  read_unconfirmed : (n : ℕ) {got bytes : List ℕ} {old first mid new : World} (fault : TransFault)
      → mid.damages ≡ old.damages → (j : Location) (s u v : State) → is_at s t ≡ true
      → ReadTold t request (n + 1) got (Came t Wants bytes) old first mid j s u
      → ControlOutAsked t One [] (Err fault) mid new j u v
      → AskedRead t request (Err (as_pipe_fault fault)) old new j s v
  read_unconfirmed n {old = old} {mid = mid} fault undamaged j s u v at x y = record {
    frame = grind (arith, told_frame);
    done = λ b e. cc e;
    refused = λ e. absurd ((y.told.read refl refl).stalled (told_at at x) in_read (search fell));
    ends = last_failed (as_pipe_fault fault) fault refl mid (IsInRead u) (told_on at x) undamaged
        (y.told.leaves.could (told_at at x)) (λ suits. in_read)
        (λ three. (y.told.read_why three refl refl).answered)
        (λ three. (y.told.read_why three refl refl).waited);
    losses = λ sound. y.kept (sound_in (Vec ℕ) fault sound) ∙ x.losses;
  }
    where
      in_read : IsInRead u
      in_read = elim x.far [
        | refuses_at f h none ↦ absurd (omega (arith, none))
        | answers_at answer f r b so ↦ IsInRead.data_stage answer Wants r.known r.stage
      ]

  -- one that did
  read_whole : (n : ℕ) {got : List ℕ} {old first mid new : World} (whole : Vec ℕ)
      → Course (IsBehind t) first new → (j : Location) (s u v : State) → is_at s t ≡ true
      → ReadTold t request (n + 1) got (Came t Wants whole.items) old first mid j s u
      → ControlOutAsked t One [] (Ok []) mid new j u v → AskedRead t request (Ok whole) old new j s
      v
  read_whole n {old = old} {first} {new = new} whole since j s u v at x y = record {
    frame = grind (arith, told_frame);
    done = λ bytes e. let same : whole ≡ bytes = cc e in
        subst (λ (w : Vec ℕ). AnswerRead t request w.items old new j s v) same (elim x.far [
          | refuses_at f h none ↦ absurd (omega (arith, none))
          | answers_at answer f r b so ↦
              record {
                row = x.row;
                moment = grind arith;
                answer = answer;
                is = f;
                came = so;
                over = grind (arith, told_at);
              }
        ]);
    refused = λ e. cc e;
    ends = grind (arith, not_failed, told_at, told_on, y.told.leaves.could);
    losses = grind arith;
  }

  -- setup data that were not acknowledged
  read_no_set_up : {old new : World} (fault : TransFault) (j : Location) (s v : State)
      → is_at s t ≡ true → Requested t request (Err fault) old new j s v
      → AskedRead t request (Err (as_pipe_fault fault)) old new j s v
  read_no_set_up fault j s v at x = record {
    frame = elim x.done.kept [
      | inl e ↦ subst (λ d. OnlyStage s d) (sym e) refl
      | inr a ↦ subst (λ d. OnlyStage s d) (sym (accepted_is s v a.at)) refl
    ];
    done = λ b e. cc e;
    refused = grind (arith, fell, x.done.could);
    ends = grind (arith, set_up_failed);
    losses = grind (arith, host_stretch, sound_in);
  }

  -- The worlds of a read

  module _ (old : World) (settled : IsSettled old.roots) where
    module _ {first : World} (x : SetUp t request old (Ok []) first) where
      goes : {n : ℕ} {got : List ℕ} {mid : World} → Goes t Wants first n got mid
          → RequestReached t request (ReadTold t request n got (Next t Wants n) old first mid) old
          mid
      goes start = search (reached_first, told_first)
      goes {mid = new} (packet {n} {got} {mid} bytes g asks on) =
          reached_more (ControlInAsked t (flips n One) (Ok bytes) mid new)
          (ReadTold t request (n + 1) (got ++ bytes) (Next t Wants (n + 1)) old first new) bytes
          (grind arith) (search (at_least_8, next_packet, told_more))
          (goes g) asks (grind (arith, asked_leaves))

      over : {bytes : List ℕ} {second : World} (d : DataStage t Wants first bytes second)
          → RequestReached t request (ReadTold t request (d.packets + 1) (d.got ++ d.last)
          (Came t Wants bytes) old first second) old second
      over {bytes} {second} d =
          reached_more (ControlInAsked t (flips d.packets One) (Ok d.last) d.mid second)
          (ReadTold t request (d.packets + 1) (d.got ++ d.last) (Came t Wants bytes) old first
          second) d.last (grind arith)
          (search (at_least_8, bytes_are_all, told_more, d.packets, d.got, d.last, d.kept, d.ends))
          (goes d.before) d.came (grind (arith, asked_leaves))

    module _ (new : World) (single : new.shared ≡ false) where
      abbrev ReadEnds : Result (Vec ℕ) PipeFault → Type 0
      ReadEnds result = EachSpared t request (Only t (AskedRead t request result old new)) old new

      each_read : (result : Result (Vec ℕ) PipeFault) → Reads t request old result new
          → ReadEnds result
      each_read (Ok bytes) x =
          let d = x.data_stage in
          reached_last (ControlOutAsked t One [] (Ok []) x.second new) (AskedRead t request (Ok
          bytes) old new) _
          _ _ (Ok []) (grind arith)
          (read_whole d.packets bytes (course_joined (stage_behind d) (out_behind x.status)))
          (over x.set_up d) x.status (grind (arith, put_leaves)) single
      each_read (Err why) (inl x) =
          subst (λ w. ReadEnds (Err w)) (sym x.told)
          (only_first t request (AskedRead t request (Err (as_pipe_fault x.fault)) old new)
          (Err x.fault) same settled x.set_up (read_no_set_up x.fault) single)
      each_read (Err why) (inr (inl x)) = elim x.data_stage [
        | inl d ↦
            let r = goes x.set_up d.before in
            subst (λ w. ReadEnds (Err w)) (sym d.told)
            (reached_last (ControlInAsked t (flips d.packets One) (Err d.fault) d.mid new)
            (AskedRead t request (Err (as_pipe_fault d.fault)) old new) _ _ _ (Err d.fault)
            (grind arith)
            (read_lost d.fault r.damages (λ e. course_joined (goes_behind d.before)
            (in_behind (flips d.packets One) (ended_stalled d.fault d.lost e))))
            r d.lost (grind (arith, asked_leaves)) single)
        | inr d ↦
            subst (λ w. ReadEnds (Err w)) (sym d.told)
            (reached_last (ControlInAsked t (flips d.packets One) (Ok d.last) d.mid new)
            (AskedRead t request (Err pipe_fault.Memory) old new) _ _ _ (Ok d.last)
            (grind arith) read_full
            (goes x.set_up d.before) d.came (grind (arith, asked_leaves)) single)
      ]
      each_read (Err why) (inr (inr x)) =
          let d = x.data_stage in
          let r = over x.set_up d in
          subst (λ w. ReadEnds (Err w)) (sym x.told)
          (reached_last (ControlOutAsked t One [] (Err x.fault) x.second new)
          (AskedRead t request (Err (as_pipe_fault x.fault)) old new) _ _ _ (Err x.fault)
          (grind arith)
          (read_unconfirmed d.packets x.fault r.damages)
          r x.status (grind (arith, put_leaves)) single)

-- A whole read

module _ (t : Target) (request : Setup) (result : Result (Vec ℕ) PipeFault) (old new : World) where
  each_read_told : (R : Relation) → ((j : Location) (s v : State)
      → Only t (AskedRead t request result old new) j s v → R j s v) → IsToHost request
      → 1 ≤ request.length → setup_of (bytes_of request) ≡ request
      → IsSettled old.roots → Reads t request old result new → new.shared ≡ false
      → EachWas R old new
  each_read_told R f host some same settled x single =
      spared_all t request R old new (host_harmless request host)
      (spared_wider t request (Only t (AskedRead t request result old new)) R f old new
      (search each_read))

  pub read_leaves : IsToHost request → 1 ≤ request.length → setup_of (bytes_of request) ≡ request
      → IsSettled old.roots → Reads t request old result new → new.shared ≡ false
      → EachWas (ReadLeaves t request result old new) old new
  read_leaves = grind (arith, decided, each_read_told)

  pub read_why : 8 ≤ t.max → IsToHost request → 1 ≤ request.length
      → setup_of (bytes_of request) ≡ request
      → IsSettled old.roots → NoThreeDamaged old → Reads t request old result new
      → IsNoBusFault result → new.shared ≡ false
      → EachWas (ControlReadFailure t request result) old new
  read_why least host some same settled three x sound single = grind (arith, each_read_told)

-- What a request without data tells of the device that it asked
record AskedWrite (t : Target) (request : Setup) (result : Result (Unit {0}) PipeFault)
    (old new : World) (j : Location) (s v : State) : Type 0 where
  failed : request.length ≡ 0 → (fault : PipeFault) → result ≡ Err fault
      → EffectOrNone t request fault old j s v
  done : request.length ≡ 0 → (u : Unit {0}) → result ≡ Ok u → EffectDone t request old new j s v
  refused : request.length ≡ 0 → result ≡ Err pipe_fault.Stalled → WasRefused t request old new j s
  ends : MayEnd t (request.length ≡ 0) result old j s
  losses : begins_no_stretch request ≡ true → IsNoBusFault result
      → LossesOf t request result old new j s v

effect_or_none_same : (t : Target) (request : Setup) (fault : PipeFault) (old : World)
    (j : Location) (s v : State) → v ≡ s → EffectOrNone t request fault old j s v
effect_or_none_same t request fault old j s v e = grind arith

module _ (t : Target) (request : Setup) (same : setup_of (bytes_of request) ≡ request) where
  abbrev Took : World → World → Relation
  Took old now j s u = AcceptedAt t (bytes_of request) old now j s u
      × (begins_no_stretch request ≡ true → now.losses ≡ old.losses)

  -- the device that accepted it
  module _ {old mid : World} {j : Location} {s u : State} (at : is_at s t ≡ true)
      (x : AcceptedAt t (bytes_of request) old mid j s u) where
    abbrev taken_asked : Outcome
    taken_asked = outcome s.spec s.registers request

    taken_is : u ≡ accepted s (row_of x.holder.below) request
    taken_is = grind arith

    taken_accepts : AcceptedIn t request old mid j (row_of x.holder.below) s
    taken_accepts = record { state = u; at = x; had = refl }

    taken_stage : u.stage
        ≡ first_stage (row_of x.holder.below) s request.length taken_asked
    taken_stage = ap (λ d. d.stage) taken_is

    taken_spec : u.spec ≡ s.spec
    taken_spec = search (spec_stays, taken_is)

    taken_address : address_of u ≡ address_of s
    taken_address = grind (arith, register_address, taken_is)

    taken_on : GoesOn t j s u
    taken_on = grind (arith, listens_at, taken_address, taken_is, taken_spec)

    taken_at : is_at u t ≡ true
    taken_at = taken_on.at at

    -- a status stage or a refusal
    taken_next : request.length ≡ 0 → HasNext t One u
    taken_next nothing = elim (closes (row_of x.holder.below) s request.length taken_asked
        nothing) [
          | inl h ↦ HasNext.refusal (taken_stage ∙ h)
          | inr h ↦ HasNext.status (address_at_end taken_asked) (taken_stage ∙ h) refl
        ]

    -- the registers are as the request left them
    kept_then : (fault : PipeFault) (v : State) → OnlyControl u v → v.registers ≡ u.registers
        → EffectOrNone t request fault old j s v
    kept_then fault v frame e = EffectOrNone.some (row_of x.holder.below) mid taken_accepts
        (grind (arith, taken_is)) (search taken_is)

    -- or the bus gave up behind a status stage that was given
    effect_then : request.length ≡ 0 → (fault : TransFault) (v : State)
        → ControlIn t One (Err fault) j u v → EffectOrNone t request (as_pipe_fault fault) old j s v
    effect_then nothing (trans.Bus fault) v y =
        elim (closes (row_of x.holder.below) s request.length taken_asked nothing) [
          | inl h ↦ kept_then (pipe_fault.Bus fault) v y.frame (y.rests (taken_stage ∙ h))
          | inr h ↦ EffectOrNone.whole fault refl (row_of x.holder.below) mid taken_accepts
              (grind (arith, taken_is)) (address_at_end taken_asked) h
              (grind (arith, taken_at, taken_is, taken_stage))
        ]
    effect_then nothing fault v y =
        kept_then (as_pipe_fault fault) v y.frame (grind arith)

    module _ {new : World} (v : State) where
      effect_done : (given : List ℕ) → Course (IsBehind t) mid new → request.length ≡ 0
          → ControlIn t One (Ok given) j u v → EffectDone t request old new j s v
      effect_done given since nothing y =
          elim (closes (row_of x.holder.below) s request.length taken_asked nothing) [
            | inl h ↦ absurd (grind (arith, taken_at, taken_stage))
            | inr h ↦ record {
              row = row_of x.holder.below;
              moment = grind (arith, taken_accepts);
              address = address_at_end taken_asked;
              is = h;
              given = grind (arith, taken_at, taken_is, taken_stage, y.status);
              rest = grind (arith, taken_is);
            }
          ]

      -- address losses, where none was counted before
      module _ (before : mid.losses ≡ old.losses) where
        none_counted : {result : Result (List ℕ) TransFault} → LossesIn t result mid new j u v
            → ((n : ℕ) → taken_asked ≢ takes_address n) → new.losses ≡ old.losses
        none_counted l unasked = grind (arith, first_stage-address, taken_at, taken_stage, l.none)

        failed_counted : {fault : TransFault} → LossesIn t (Err fault) mid new j u v → (st : Stage)
            → u.stage ≡ st → new.losses ≡ old.losses
        failed_counted l st e = grind (arith, taken_at)

        took_or_lost : {given : List ℕ} → LossesIn t (Ok given) mid new j u v → (n : ℕ)
            → taken_asked ≡ takes_address n → TookItOrLost n old new s v
        took_or_lost l n o = grind (arith, taken_at, taken_is, taken_stage, l.done)

  -- its status stage is done
  write_whole : {given : List ℕ} (unit : Unit {0}) {old mid new : World}
      → Course (IsBehind t) mid new
      → (j : Location) (s u v : State) → is_at s t ≡ true → Took old mid j s u
      → ControlInAsked t One (Ok given) mid new j u v → AskedWrite t request (Ok unit) old new j s v
  write_whole {given} unit since j s u v at (x, before) y = record {
    failed = λ nothing fault e. cc e;
    done = search (effect_done, y.told.leaves);
    refused = λ nothing e. cc e;
    ends = grind (arith, not_failed, taken_at, taken_spec, y.told.leaves.could);
    losses = λ plain sound. record {
      done = λ at d e. took_or_lost at x v (before plain) (y.losses tt refl);
      failed = λ at why e. cc e;
      none = λ at. none_counted at x v (before plain) (y.losses tt refl);
    };
  }

  -- it failed
  write_failed : (fault : TransFault) {old mid new : World} → mid.damages ≡ old.damages
      → (Fell fault trans.Stalled → Course (IsBehind t) mid new)
      → (j : Location) (s u v : State) → is_at s t ≡ true → Took old mid j s u
      → ControlInAsked t One (Err fault) mid new j u v
      → AskedWrite t request (Err (as_pipe_fault fault)) old new j s v
  write_failed fault {old} {mid} undamaged since j s u v at (x, before) y = record {
    failed = λ nothing f e. subst (λ w. EffectOrNone t request w old j s v) (cc e)
        (effect_then at x nothing fault v y.told.leaves);
    done = λ nothing d e. cc e;
    refused = λ nothing e.
        let down : Fell fault trans.Stalled = fell fault trans.Stalled e in
        record {
          row = row_of x.holder.below;
          moment = record { now = mid; accepts = taken_accepts at x; since = since down };
          is = grind (arith, closes, taken_at, taken_stage);
        };
    ends = last_failed (as_pipe_fault fault) fault refl mid (HasNext t One u) (taken_on at x)
        undamaged
        (y.told.leaves.could (taken_at at x)) (taken_next at x)
        (λ three. (y.told.why three).answered) (λ three. (y.told.why three).waited);
    losses = λ plain sound.
        let l = y.losses (sound_in (Unit {0}) fault sound) refl in
        record {
          done = λ at d e. cc e;
          failed = λ at why e. failed_counted at x v (before plain) l u.stage refl;
          none = search none_counted;
        };
  }

  -- setup data that were not acknowledged
  write_no_set_up : (fault : TransFault) {old new : World} (j : Location) (s v : State)
      → is_at s t ≡ true → Requested t request (Err fault) old new j s v
      → AskedWrite t request (Err (as_pipe_fault fault)) old new j s v
  write_no_set_up fault {old} j s v at x = record {
    failed = λ nothing f e. elim x.done.kept [
      | inl same_state ↦ effect_or_none_same t request f old j s v same_state
      | inr a ↦ kept_then at a.at f v refl refl
    ];
    done = λ nothing d e. cc e;
    refused = grind (arith, fell, x.done.could);
    ends = grind (arith, set_up_failed);
    losses = grind (arith, sound_in, x.kept);
  }

  -- The worlds of a write

  module _ (old new : World) (settled : IsSettled old.roots) (single : new.shared ≡ false) where
    abbrev WriteEnds : Result (Unit {0}) PipeFault → Type 0
    WriteEnds result = EachSpared t request (Only t (AskedWrite t request result old new)) old new

    began : {mid : World} → SetUp t request old (Ok []) mid
        → RequestReached t request (Took old mid) old mid
    began {mid} x = reached_first t request (Took old mid) same settled x (grind arith)

    each_write : (result : Result (Unit {0}) PipeFault) → Writes t request old result new
        → WriteEnds result
    each_write (Ok unit) x =
        reached_last (ControlInAsked t One (Ok x.given) x.mid new)
        (AskedWrite t request (Ok unit) old new) _ _ _ (Ok x.given) (grind arith)
        (write_whole unit (in_behind One x.status)) (began x.set_up) x.status
        (grind (arith, asked_leaves)) single
    each_write (Err why) (inl x) =
        subst (λ w. WriteEnds (Err w)) (sym x.told)
        (only_first t request (AskedWrite t request (Err (as_pipe_fault x.fault)) old new)
        (Err x.fault) same settled x.set_up (write_no_set_up x.fault) single)
    each_write (Err why) (inr x) =
        subst (λ w. WriteEnds (Err w)) (sym x.told)
        (reached_last (ControlInAsked t One (Err x.fault) x.mid new)
        (AskedWrite t request (Err (as_pipe_fault x.fault)) old new) _ _ _ (Err x.fault)
        (grind arith)
        (write_failed x.fault (ended_damages x.set_up)
        (λ e. in_behind One (ended_stalled x.fault x.status e)))
        (began x.set_up) x.status (grind (arith, asked_leaves)) single)

-- A whole write

module _ (t : Target) (request : Setup) (result : Result (Unit {0}) PipeFault) (old new : World)
  where
    -- what it leaves, and why it fails
    pub each_write_told : request.length ≡ 0 → setup_of (bytes_of request) ≡ request
        → IsSettled old.roots → Writes t request old result new → new.shared ≡ false
        → EachSpared t request
        (DeviceTold (WriteLeaves t request result old new) (WriteFailure t result) old) old new
    each_write_told nothing same settled x single =
        spared_wider t request _ _ (λ j s v y. record {
          leaves = record {
            others = y.others;
            failed = λ fault e. elim (decided (is_at s t)) [
              | inl at ↦ (y.mine at).failed nothing fault e
              | inr off ↦ effect_or_none_same t request fault old j s v (y.others off)
            ];
            done = grind arith;
            refused = grind arith;
            could = grind arith;
          };
          why = grind (arith, y.mine);
        }) old new (each_write t request same old new settled single result x)

    pub write_leaves : request.length ≡ 0 → setup_of (bytes_of request) ≡ request
        → IsSettled old.roots → Writes t request old result new → new.shared ≡ false
        → EachSpared t request (WriteLeaves t request result old new) old new
    write_leaves nothing same settled x single =
        spared_wider t request _ _ (λ j s v y. y.leaves) old new
        (each_write_told nothing same settled x single)

    pub write_why : request.length ≡ 0 → setup_of (bytes_of request) ≡ request
        → IsSettled old.roots → NoThreeDamaged old → Writes t request old result new
        → IsNoBusFault result → new.shared ≡ false
        → EachSpared t request (WriteFailure t result) old new
    write_why nothing same settled three x sound single =
        spared_wider t request _ _ (λ j s v y. y.why three) old new
        (each_write_told nothing same settled x single)

    pub write_losses : setup_of (bytes_of request) ≡ request → begins_no_stretch request ≡ true
        → IsSettled old.roots → Writes t request old result new → IsNoBusFault result
        → new.shared ≡ false → EachSpared t request (LossesOf t request result old new) old new
    write_losses same plain settled x sound single =
        spared_wider t request _ _ (λ j s v y. record {
          done = grind arith;
          failed = grind arith;
          none = grind arith;
        }) old new (each_write t request same old new settled single result x)

-- A data stage, packet by packet, as its call makes it

-- so far it goes on: these bytes came, and for each a bounded number of attempts was made
pub record ReadProgress (t : Target) (wanted : ℕ) (old : World) (before : Option (List ℕ))
    (got : List ℕ) (toggle : Toggle) (now : World) (trace : Option (List ℕ)) : Type 0 where
  pub packets : ℕ
  pub goes : Goes t wanted old packets got now
  pub turned : toggle ≡ flips packets One
  pub few : length got < wanted
  pub spends : AttemptsWithin (byte_bound t.max * length got) old now
  pub sound : now.fault ≡ None → old.fault ≡ None
  pub traced : Traced old before now trace

pub read_progress_none : (t : Target) (wanted : ℕ) (got : List ℕ) (w : World)
    (trace : Option (List ℕ)) → 0 < wanted → got ≡ []
    → ReadProgress t wanted w trace got One w trace
unfolding flips
read_progress_none t wanted got w trace some none = rw none (record {
  packets = 0;
  goes = start;
  turned = refl;
  few = some;
  spends = grind (arith, spends_none, spends_wider);
  sound = λ e. e;
  traced = still;
})

-- one packet more, whatever it brings
pub onward_went : {t : Target} {wanted : ℕ} {old mid new : World} {before r s : Option (List ℕ)}
    {got : List ℕ} {toggle : Toggle} → ReadProgress t wanted old before got toggle mid r
    → StepRun transaction_bound mid r new s
    → StepRun (transaction_bound + byte_bound t.max * wanted) old before new s
onward_went = grind (arith, bound_grows, spends_then, spends_wider, traced_then)

-- what is kept is all that was wanted of what came
kept_front : (wanted : ℕ) (got bytes : List ℕ) → length got < wanted
    → got ++ take (wanted - length got) bytes ≡ take wanted (got ++ bytes)
kept_front wanted got bytes few =
    let whole : length got + (wanted - length got) ≡ wanted = omega (arith, few) in
    grind (arith, take-append-add)

-- a packet that leaves more wanted is full, and kept whole
ends_stage-false : (size max got wanted : ℕ) → ends_stage size max got wanted ≡ false → (max ≤ size)
    × (got < wanted)
ends_stage-false size max got wanted e = grind (arith, nat_tests)

-- so a packet more of them came
pub grown_full : (max wanted : ℕ) (got : List ℕ) {kept : List ℕ} (bytes : List ℕ)
    → length got ≤ wanted
    → kept ≡ got ++ take (wanted - length got) bytes
    → ends_stage (length bytes) max (length kept) wanted ≡ false → length got + max ≤ length kept
grown_full max wanted got bytes few is more =
    grind (arith, ends_stage-false, length-append, length-take)

pub onward_more : {t : Target} {wanted : ℕ} {old mid new : World} {before r s : Option (List ℕ)}
    {got kept : List ℕ} {toggle next : Toggle} (bytes : List ℕ) → 1 ≤ t.max
    → ReadProgress t wanted old before got toggle mid r
    → Asks t toggle mid (Ok bytes) new → AttemptsMade 1 mid new
    → StepRun transaction_bound mid r new s → kept ≡ got ++ take (wanted - length got) bytes
    → ends_stage (length bytes) t.max (length kept) wanted ≡ false → next ≡ other toggle
    → ReadProgress t wanted old before kept next new s
onward_more {t} {wanted} {old} {mid} {new} {got = got} {kept} {toggle} {next} bytes least o asks
    worked went is more f =
    let on = ends_stage-false (length bytes) t.max (length kept) wanted more in
    let front : kept ≡ take wanted (got ++ bytes) = is ∙ kept_front wanted got bytes o.few in
    let whole : kept ≡ got ++ bytes = grind (arith, length-take, take_all) in
    let grown : length got + t.max ≤ length kept =
    omega (arith, on.0, ap length whole, length-append got bytes) in
    record {
      packets = o.packets + 1;
      goes = rw whole (packet bytes o.goes (subst (λ x. Asks t x mid (Ok bytes) new) o.turned asks)
          (grind arith));
      turned = grind (arith, flips_next);
      few = on.1;
      spends = grind (arith, full_packet, spends_then, spends_wider);
      sound = λ _. o.sound worked.sound;
      traced = traced_then o.traced went.traced;
    }

-- the last packet
pub data_ends : {t : Target} {wanted : ℕ} {old mid new : World} {before r : Option (List ℕ)}
    {got kept : List ℕ} {toggle : Toggle} (last : List ℕ)
    → ReadProgress t wanted old before got toggle mid r → Asks t toggle mid (Ok last) new
    → kept ≡ got ++ take (wanted - length got) last
    → ends_stage (length last) t.max (length kept) wanted ≡ true → DataStage t wanted old kept new
data_ends = grind (arith, kept_front)

-- one that does not come
pub lost_ends : {t : Target} {wanted : ℕ} {old mid : World} (new : World)
    {before r : Option (List ℕ)} {got : List ℕ} {toggle : Toggle} (fault : TransFault)
    (result : Result (Vec ℕ) PipeFault) → IsErr result
    → IsErrAnd result (λ why. why ≡ as_pipe_fault fault)
    → ReadProgress t wanted old before got toggle mid r → Asks t toggle mid (Err fault) new
    → DataEnds t wanted old result new
lost_ends = grind arith

-- one for which there is no memory
pub no_room_ends : {t : Target} {wanted : ℕ} {old mid new : World} {before r : Option (List ℕ)}
    {got : List ℕ} {toggle : Toggle} (last : List ℕ) (result : Result (Vec ℕ) PipeFault)
    → IsErr result → IsErrAnd result (λ why. why ≡ pipe_fault.Memory)
    → ReadProgress t wanted old before got toggle mid r → Asks t toggle mid (Ok last) new
    → DataEnds t wanted old result new
no_room_ends {t} {mid = mid} {new} {got = got} last (Err why) err said o asks =
    inr (record {
      packets = o.packets;
      got = got;
      mid = mid;
      before = o.goes;
      last = last;
      told = said;
      came = grind arith;
    })
no_room_ends last (Ok bytes) err said o asks = cc

-- What the calls of a control transfer tell, from what its stages' calls tell

-- these bytes were sent as setup data, which are read as the request
abbrev SendsSetup : Target → List ℕ → World → Result (List ℕ) TransFault → World → Type 0
SendsSetup t bytes old answer new = Transacted set_up_as (setup_attempt t bytes) old answer new

taken_request : (t : Target) (request : Setup) {old new : World} (bytes given : List ℕ)
    → bytes ≡ bytes_of request → given ≡ [] → SendsSetup t bytes old (Ok given) new
    → SetUp t request old (Ok []) new
taken_request t request bytes given is nothing x = grind arith

pub read_at_status : (t : Target) (request : Setup) {old first second : World} (new : World)
    (fault : TransFault) (bytes given : List ℕ) (got : Vec ℕ) (result : Result (Vec ℕ) PipeFault)
    → bytes ≡ bytes_of request → given ≡ [] → IsErr result
    → IsErrAnd result (λ why. why ≡ as_pipe_fault fault) → SendsSetup t bytes old (Ok given) first
    → DataEnds t request.length first (Ok got) second → Confirms t second (Err fault) new
    → Reads t request old result new
read_at_status t request new fault bytes given got result is nothing err told x y z =
    grind (arith, taken_request)

pub control_read_done : (t : Target) (request : Setup) {old first second new : World}
    (bytes given confirmed : List ℕ) (got : Vec ℕ) → bytes ≡ bytes_of request → given ≡ []
    → confirmed ≡ [] → SendsSetup t bytes old (Ok given) first
    → DataEnds t request.length first (Ok got) second → Confirms t second (Ok confirmed) new
    → Reads t request old (Ok got) new
control_read_done t request bytes given confirmed got is nothing none_came x y z =
    grind (arith, taken_request)

pub read_told : (t : Target) (request : Setup) {old : World} (new : World) (bytes : List ℕ)
    (result : Result (Vec ℕ) PipeFault) → IsToHost request → 1 ≤ request.length
    → bytes ≡ bytes_of request → setup_of bytes ≡ request → IsSettled old.roots
    → MatchResult result (λ _. AttemptsMade 3 old new) (λ fault. FaultAfter 1 old fault new)
    → IfOk result (λ got. length got.items ≤ request.length) → Reads t request old result new
    → ControlRead t request old result new
read_told t request new bytes result host some is sent settled ended most x =
    grind (arith, each_read_told, read_leaves, read_why, who_reads)

pub write_at_status : (t : Target) (request : Setup) {old mid : World} (new : World)
    (fault : TransFault) (bytes given : List ℕ) (result : Result (Unit {0}) PipeFault)
    → bytes ≡ bytes_of request → given ≡ [] → IsErr result
    → IsErrAnd result (λ why. why ≡ as_pipe_fault fault) → SendsSetup t bytes old (Ok given) mid
    → Asks t One mid (Err fault) new → Writes t request old result new
write_at_status t request new fault bytes given result is nothing err told x y =
    grind (arith, taken_request)

pub write_told : (t : Target) (request : Setup) {old : World} (new : World) (bytes : List ℕ)
    (result : Result (Unit {0}) PipeFault) → request.length ≡ 0 → bytes ≡ bytes_of request
    → setup_of bytes ≡ request → IsSettled old.roots
    → MatchResult result (λ _. AttemptsMade 2 old new) (λ fault. FaultAfter 1 old fault new)
    → result ≢ Err pipe_fault.Memory → Writes t request old result new
    → ControlWrite t request old result new
write_told t request {old} new bytes result nothing is sent settled ended room x =
    let same : setup_of (bytes_of request) ≡ request = subst (λ b. setup_of b ≡ request) is sent in
    record {
      ends = ended;
      stages = x;
      settled = settled;
      room = room;
      what = write_leaves t request result old new nothing same settled x;
      why = λ three. write_why t request result old new nothing same settled three x;
      who = elim result as (λ r. Writes t request old r new
          → OnOk r ((is_harmless request ≡ false → t.addr ≢ 0)
          → Unshared new (Answerer t old new))) [
            | Ok done ↦ λ y addressed. who_writes t request done old new same addressed settled y
            | Err why ↦ λ y. tt
          ] x;
      losses = λ plain. write_losses t request result old new same plain settled x;
    }
