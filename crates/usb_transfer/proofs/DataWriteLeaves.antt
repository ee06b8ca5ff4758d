-- What a control transfer with data to the device leaves of each device.
use Rattle.std.proofs.Common.{◌≡◌, ◌≢◌, ◌⊎◌, inl, inr, refl, sym, ap, subst, ◌∙◌, arith, ℕ, ◌+◌}
use Rattle.std.proofs.Common.{◌<◌, ◌≤◌, ◌==◌, ◌&&◌, not, if◌then◌else◌, Bool, true, false, List, []}
use Rattle.std.proofs.Common.{◌++◌, length, take, slice_get, Option, None, Some, Result, Ok, Err}
use Rattle.std.proofs.Common.{length-append, MatchResult, OnOk}
use Rattle.std.proofs.lemmas.List.{length-take, take_all}
use Rattle.std.specs.Int.{div_ceil}
use Rattle.std.proofs.lemmas.Bool.Decides.{nat_tests}
use Rattle.std.proofs.lemmas.List.Quantifiers.{position-Some}
use Rattle.std.proofs.lemmas.Option.{get_or_from_slice_get}
use Rattle.usb_packet.specs.{One, flips}
use Rattle.usb_packet.proofs.Interface.{flips_next}
use Rattle.usb_port.specs.{PortState}
use Rattle.usb_request.specs.{Setup, bytes_of, setup_of, IsToDevice, DEVICE_IN, DEVICE_OUT}
use Rattle.usb_request.specs.{ENDPOINT_OUT, HUB_IN, PORT_IN, PORT_OUT, GET_DESCRIPTOR, GET_STATUS}
use Rattle.usb_request.specs.{GET_CONFIGURATION, SET_ADDRESS, SET_CONFIGURATION, CLEAR_FEATURE}
use Rattle.usb_request.specs.{SET_FEATURE, ENDPOINT_HALT, INTERFACE_IN, INTERFACE_OUT, ENDPOINT_IN}
use Rattle.usb_request.specs.{GET_INTERFACE, SET_INTERFACE}
use Rattle.usb_device.specs.{OwnAnswer, OwnRequest, asked_at, asked_by_answer, asked_by_row, fits}
use Rattle.usb_device.specs.{asked_own, goes_so, is_to_host, own_place, Is, Outcome, Registers}
use Rattle.usb_device.specs.{Spec, State, Stage, Location, ServedEndpoint, stalled, takes, outcome}
use Rattle.usb_device.specs.{on_endpoint, first_stage, writing, first_write, begun, row_of, refused}
use Rattle.usb_device.specs.{Write, written_on, is_done, taken_with, IsPacketOf, OnlyWrite}
use Rattle.usb_device.specs.{WritingAt, WriteAt, WriteEnded, level, ahead, OnlyControl, max_packet}
use Rattle.usb_world.specs.{Course, World, is_harmless, IsSettled}
use Rattle.usb_world.proofs.Interface.{course_joined, decided, and_none}
use Rattle.usb_transfer.specs.{Target, TransFault, AcceptedAt, EachSpared, Answerer, AttemptsMade}
use Rattle.usb_transfer.specs.{Expects, IsNotOfBus as TransNotOfBus, WriteEnds, WriteOut}
use Rattle.usb_transfer.specs.{WriteStatusEnds, begins_no_stretch, data_write, heard_as}
use Rattle.usb_transfer.specs.{heard_when_sent, in_attempt, is_at, out_attempt, refused_write}
use Rattle.usb_transfer.specs.declared.trans_fault.TransFault.TheVariants as trans
use Rattle.usb_transfer.proofs.SetupTransactions.{spared_wider}
use Rattle.usb_transfer.specs.{AcceptedIn, AllGone, Asks, DataRefused, DataTaken, DataWrite}
use Rattle.usb_transfer.specs.{FaultAfter, IsMaximum, IsNoBusFault, Gave, IsBehindData, PipeFault}
use Rattle.usb_transfer.specs.{PutsData, SetUp, Unshared, as_pipe_fault, stage_begun}
use Rattle.usb_transfer.specs.declared.fault.PipeFault.TheVariants as pipe_fault
use Rattle.usb_transfer.specs.Moves as moves
use Rattle.usb_transfer.proofs.ControlSteps.{Only, Requested, RequestReached, MayEnd, GoesOn}
use Rattle.usb_transfer.proofs.ControlSteps.{goes_on, last_failed, not_failed, set_up_failed}
use Rattle.usb_transfer.proofs.ControlSteps.{ControlOutAsked, ControlInAsked, put_leaves}
use Rattle.usb_transfer.proofs.ControlSteps.{asked_leaves, either_way, only_first, reached_first}
use Rattle.usb_transfer.proofs.ControlSteps.{reached_last, reached_more, sound_told}
use Rattle.usb_transfer.proofs.ControlTransfers.{at_least_8}
use Rattle.usb_transfer.proofs.DataWrites.{asked_behind, gave_behind, put_behind, who_puts}
use Rattle.usb_transfer.proofs.TransactionFaults.{Fell, fell_same_fault}

-- What a request with data to the device asks: its data, or a refusal

abbrev IsWriting : Outcome → Type 0
IsWriting stalled = Unit {0}
IsWriting (takes kept) = Unit {0}
IsWriting o = ⊥

not_so : (b : Bool) (x y : Outcome) → b ≡ false → IsWriting y → IsWriting (if b then x else y)
not_so b x y e h = rw e h

-- a request of the device's own whose data go to it

row_goes : (row : OwnRequest) (r : Setup) → fits row r ≡ true
    → goes_so row.answer (is_to_host r) ≡ true
row_goes row r h = grind arith

by_answer : (answer : OwnAnswer) (to_host : Bool) → to_host ≡ false → goes_so answer to_host ≡ true
    → IsWriting (asked_by_answer answer)
by_answer answer to_host e h = grind arith

module _ (rows : List OwnRequest) (r : Setup) (way : is_to_host r ≡ false) where
  by_row : (i : ℕ) → own_place rows r ≡ Some i → (o : Option OwnRequest) → slice_get rows i ≡ o
      → IsWriting (asked_by_row o)
  by_row i e None at = tt
  by_row i e (Some row) at = by_answer row.answer (is_to_host r) way (row_goes row r
      (ap (λ x. fits x r) (sym (get_or_from_slice_get rows i row row at))
      ∙ (position-Some (λ x. fits x r) rows i row e).1))

  by_place : (o : Option ℕ) → own_place rows r ≡ o → IsWriting (asked_at rows o)
  by_place o e = grind (arith, by_row)

  own_is_writing : (g : Registers) → IsWriting (asked_own rows g r)
  own_is_writing g = grind (arith, by_place, either_way)

module _ (s : Spec) (g : Registers) (r : Setup) (way : IsToDevice r)
    (some : (r.length == 0) ≡ false) where
  no_endpoint : (f : ServedEndpoint → Outcome) (o : Option ServedEndpoint)
      → IsWriting (on_endpoint f (if r.value == ENDPOINT_HALT && r.length == 0 then o else None))
  no_endpoint f o = grind (arith, and_none)

  -- a request whose data go to the host is another
  no_read : (type request : ℕ) (x y : Outcome) → 128 ≤ type → IsWriting y
      → IsWriting (if Is r type request then x else y)
  no_read type request x y reads h = grind (arith, nat_tests, not_so)

  outcome-is_writing : IsWriting (outcome s g r)
  unfolding outcome
  outcome-is_writing =
      no_read DEVICE_IN GET_DESCRIPTOR _ _ (omega arith)
      (no_read DEVICE_IN GET_STATUS _ _ (omega arith)
      (no_read DEVICE_IN GET_CONFIGURATION _ _ (omega arith)
      (either_way IsWriting (Is r DEVICE_OUT SET_ADDRESS) _ _
      (grind (arith, and_none, either_way, not_so))
      (either_way IsWriting (Is r DEVICE_OUT SET_CONFIGURATION) _ _
      (grind (arith, either_way, not_so))
      (no_read INTERFACE_IN GET_STATUS _ _ (omega arith)
      (no_read INTERFACE_IN GET_INTERFACE _ _ (omega arith)
      (either_way IsWriting (Is r INTERFACE_OUT SET_INTERFACE) _ _
      (grind (arith, either_way, not_so))
      (no_read ENDPOINT_IN GET_STATUS _ _ (omega arith)
      (either_way IsWriting (Is r ENDPOINT_OUT CLEAR_FEATURE) _ _ (search no_endpoint)
      (either_way IsWriting (Is r ENDPOINT_OUT SET_FEATURE) _ _ (search no_endpoint)
      (no_read HUB_IN GET_DESCRIPTOR _ _ (omega arith)
      (no_read PORT_IN GET_STATUS _ _ (omega arith)
      (either_way IsWriting (Is r PORT_OUT SET_FEATURE) _ _ (search not_so)
      (grind (arith, either_way, nat_tests, not_so, own_is_writing)))))))))))))))

-- nothing else comes of it
asks_data_only : (s : State) (row : List PortState) (wanted : ℕ) (o : Outcome) → IsWriting o
    → begun s row wanted o ≡ record s {
      naks = s.spec.naks;
      stage = first_stage row s wanted o;
    }
asks_data_only s row wanted o h = grind arith

-- the stage that it begins
data BeginsWrite (wanted : ℕ) (first : Stage) : Type 0 where
  begins_refused : first ≡ refused → BeginsWrite wanted first
  begins_write : (kept : Bool) → first ≡ writing (first_write wanted kept)
      → BeginsWrite wanted first

begins : (row : List PortState) (d : State) (wanted : ℕ) (o : Outcome) → IsWriting o
    → (wanted == 0) ≡ false → BeginsWrite wanted (first_stage row d wanted o)
begins row d wanted stalled h e = begins_refused refl
begins row d wanted (takes kept) h e = begins_write kept (grind arith)
begins row d wanted o h e = absurd h

-- A device that accepted the request with these ports, as far as its transfer is

-- the write after n packets with these bytes
abbrev so_far : ℕ → Bool → ℕ → List ℕ → Write
so_far wanted kept n sent =
    record { wanted = wanted; got = sent; toggle = flips n One; kept = kept }

so_far-first : (wanted : ℕ) (kept : Bool) → first_write wanted kept ≡ so_far wanted kept 0 []
unfolding flips
so_far-first wanted kept = refl

so_far-more : (wanted : ℕ) (kept : Bool) (n : ℕ) (sent bytes : List ℕ)
    → written_on (so_far wanted kept n sent) bytes ≡ so_far wanted kept (n + 1) (sent ++ bytes)
so_far-more wanted kept n sent bytes = grind (arith, flips_next)

-- it refused; or it has the bytes of n packets
data DataFar (wanted n : ℕ) (sent : List ℕ) (first : Stage) (s v : State) : Type 0 where
  refuses_data : first ≡ refused → v.stage ≡ refused → v.taken ≡ s.taken
      → DataFar wanted n sent first s v
  writes_data : (kept : Bool) → first ≡ writing (first_write wanted kept)
      → WritingAt s.taken (so_far wanted kept n sent) v → DataFar wanted n sent first s v

record DataTold (t : Target) (request : Setup) (n : ℕ) (sent : List ℕ) (old first now : World)
    (j : Location) (s v : State) : Type 0 where
  row : List PortState
  accepts : AcceptedIn t request old first j row s
  frame : OnlyWrite s v
  naks : v.naks ≤ s.spec.naks
  losses : begins_no_stretch request ≡ true → now.losses ≡ old.losses
  far : DataFar request.length n sent (stage_begun row request s) s v

-- What a transfer says of the device that it was for: what it leaves of it, why it fails, and what
-- it loses
record DataAsked (t : Target) (request : Setup) (bytes : List ℕ)
    (result : Result (Unit {0}) PipeFault) (old new : World) (j : Location) (s v : State) : Type 0
  where
    frame : OnlyWrite s v
    done : (u : Unit {0}) → result ≡ Ok u → DataTaken t request bytes old new j s v
    failed : (v.taken ≡ s.taken) ⊎ (v.taken ≡ s.taken ++ bytes)
    refuses : result ≡ Err pipe_fault.Stalled → DataRefused t request old new j s
    ends : MayEnd t (IsMaximum t request.length s) result old j s
    losses : begins_no_stretch request ≡ true → IsNoBusFault result → new.losses ≡ old.losses

-- the bytes are taken when as many have come as the host said, and not before
taken_by : (old bytes got : List ℕ) (w : Write) → w.got ≡ got → w.wanted ≡ length bytes
    → (length got ≡ length bytes → got ≡ bytes) → (v : State) → v.taken ≡ taken_with old w
    → (v.taken ≡ old) ⊎ (v.taken ≡ old ++ bytes)
taken_by old bytes got w e f whole v h = grind (arith, nat_tests)

nothing_yet : (old : List ℕ) (wanted : ℕ) (kept : Bool) → 1 ≤ wanted
    → taken_with old (so_far wanted kept 0 []) ≡ old
nothing_yet old wanted kept some = grind (arith, nat_tests)

-- where the registers stay, only the transfer and what such transfers have brought change
only_write : (s v : State) → OnlyControl s v → v.registers ≡ s.registers → OnlyWrite s v
only_write s v f e = grind arith

write_at : (old : List ℕ) (w : Write) (bytes : List ℕ) (fault : TransFault) (v : State)
    → WriteEnds old w bytes (Err fault) v → WriteAt old w bytes v
write_at old w bytes fault v h = grind arith

taken_ended : (old : List ℕ) (w : Write) (v : State) → WriteEnded old w v
    → v.taken ≡ taken_with old w
taken_ended old w v h = grind arith

taken_failed : (old : List ℕ) (w : Write) (fault : TransFault) (v : State)
    → WriteStatusEnds old w (Err fault) v → v.taken ≡ taken_with old w
taken_failed old w fault v h = grind (arith, taken_ended)

-- as many bytes as there are, of the first ones, are all
all_sent : (bytes sent rest : List ℕ) (max : ℕ) → bytes ≡ sent ++ rest
    → length (sent ++ take max rest) ≡ length bytes → sent ++ take max rest ≡ bytes
all_sent bytes sent rest max split e = grind (arith, length-append, length-take, take_all)

-- no packet is longer than the maximum of a device that takes packets so long, or all of the data
-- in one
packet_within : (t : Target) (wanted : ℕ) (s : State) (rest : List ℕ) → IsMaximum t wanted s
    → length rest ≤ wanted → length (take t.max rest) ≤ max_packet s.spec
packet_within t wanted s rest fits few = grind (arith, at_least_8, length-take)

not_all_sent : (bytes sent rest : List ℕ) → bytes ≡ sent ++ rest → 0 < length rest
    → length sent ≡ length bytes → sent ≡ bytes
not_all_sent bytes sent rest split some e = grind (arith, length-append)

module _ (t : Target) (request : Setup) (way : IsToDevice request) (some : 1 ≤ request.length)
    (same : setup_of (bytes_of request) ≡ request) where
  wants_some : (request.length == 0) ≡ false
  wants_some = grind (arith, nat_tests, some)

  -- as it accepted it
  data_accepted : {old now : World} {j : Location} (s u : State)
      (x : AcceptedAt t (bytes_of request) old now j s u) → u ≡ record s {
        naks = s.spec.naks;
        stage = stage_begun (row_of x.holder.below) request s;
      }
  data_accepted s u x = grind (arith, asks_data_only, outcome-is_writing, wants_some, x.is)

  told_data : {old first : World} (j : Location) (s u : State) → is_at s t ≡ true
      → Requested t request (Ok []) old first j s u → DataTold t request 0 [] old first first j s u
  told_data {old} {first} j s u at y =
      let x : AcceptedAt t (bytes_of request) old first j s u = y.done.done at [] refl in
      let e : u ≡ record s {
        naks = s.spec.naks;
        stage = stage_begun (row_of x.holder.below) request s;
      } = data_accepted s u x in
      record {
        row = row_of x.holder.below;
        accepts = record { state = u; at = x; had = refl };
        frame = grind arith;
        naks = grind arith;
        losses = λ plain. y.kept plain tt;
        far = elim (begins (row_of x.holder.below) s request.length
            (outcome s.spec s.registers request)
            (grind (arith, outcome-is_writing, wants_some)) wants_some) [
              | begins_refused h ↦ refuses_data h (ap (λ d. d.stage) e ∙ h) (ap (λ d. d.taken) e)
              | begins_write kept h ↦ writes_data kept h (record {
                stage = ap (λ d. d.stage) e ∙ h ∙ ap writing (search so_far-first);
                taken = grind (arith, nothing_yet);
              })
            ];
      }

  module _ {n : ℕ} {sent : List ℕ} {old first now : World} {j : Location} {s u : State}
      (at : is_at s t ≡ true) (x : DataTold t request n sent old first now j s u) where
    -- the next packet
    abbrev part : List ℕ → List ℕ
    part rest = take t.max rest

    abbrev w : Bool → Write
    w kept = so_far request.length kept n sent

    data_on : GoesOn t j s u
    data_on = grind (arith, goes_on)

    data_at : is_at u t ≡ true
    data_at = data_on.at at

    data_frame : (v : State) → OnlyWrite u v → OnlyWrite s v
    data_frame v f = grind arith

    -- a packet that came
    data_more : (bytes : List ℕ) {new : World} {v : State}
        → ControlOutAsked t (flips n One) bytes (Ok []) now new j u v
        → 1 ≤ length bytes → length sent + length bytes ≤ request.length
        → DataTold t request (n + 1) (sent ++ bytes) old first new j s v
    data_more bytes {v = v} y more within = record {
      row = x.row;
      accepts = x.accepts;
      frame = data_frame v y.told.leaves.frame;
      naks = omega (arith, x.naks, y.told.leaves.naks);
      losses = grind arith;
      far = elim x.far [
        | refuses_data f h k ↦ absurd (grind (arith, data_at))
        | writes_data kept f h ↦ writes_data kept f (subst (λ w. WritingAt s.taken w v)
            (search so_far-more)
            (y.told.leaves.write data_at s.taken (so_far request.length kept n sent) refl
            (grind arith) (level h)))
      ];
    }

    refused_data : {new : World} → Course (IsBehindData t) first new
        → (stage_begun x.row request s ≡ refused)
        ⊎ (stage_begun x.row request s ≡ writing (first_write request.length false))
        → DataRefused t request old new j s
    refused_data since is = grind arith

    -- a packet that did not come
    data_lost : (bytes rest : List ℕ) (fault : TransFault) (why : PipeFault)
        → why ≡ as_pipe_fault fault → request.length ≡ length bytes → bytes ≡ sent ++ rest
        → 0 < length rest → 1 ≤ t.max → now.damages ≡ old.damages → {new : World}
        → (Fell fault trans.Stalled → Course (IsBehindData t) first new) → (v : State)
        → ControlOutAsked t (flips n One) (take t.max rest) (Err fault) now new j u v
        → DataAsked t request bytes (Err why) old new j s v
    data_lost bytes rest fault why told all split more least undamaged {new} since v z = record {
      frame = data_frame v y.frame;
      done = λ z e. cc e;
      failed = grind (arith, by_end, ends, write_at, y, x.far, y.refused);
      refuses = grind (arith, ends, fell_same_fault, refused_data, x.far);
      ends = last_failed why fault told now (Expects (part rest) u) data_on undamaged (y.could
          data_at)
          expected (λ three. (z.told.why three).answered) (λ three. (z.told.why three).waited);
      losses = grind (arith, sound_told);
    }
      where
        y : WriteOut t (flips n One) (part rest) (Err fault) j u v
        y = z.told.leaves

        expected : IsMaximum t request.length s → Expects (part rest) u
        expected m =
            let fits : length (part rest) ≤ max_packet u.spec =
            grind (arith, data_on, length-append, packet_within) in
            elim x.far [
              | refuses_data f h k ↦ refused_write h
              | writes_data kept f h ↦ data_write (w kept) h.stage fits
            ]

        is_packet : (kept : Bool) → IsPacketOf (w kept) (part rest)
        is_packet kept = grind (arith, length-append, length-take)

        ends : (kept : Bool) → WritingAt s.taken (w kept) u
            → WriteEnds s.taken (w kept) (part rest) (Err fault) v
        ends kept h = y.write data_at s.taken (w kept) refl (is_packet kept) (level h)

        by_end : (kept : Bool) → WriteAt s.taken (w kept) (part rest) v
            → (v.taken ≡ s.taken) ⊎ (v.taken ≡ s.taken ++ bytes)
        by_end kept (level z) = grind (arith, not_all_sent, taken_by)
        by_end kept (ahead z) = taken_by s.taken bytes (sent ++ part rest)
            (written_on (w kept) (part rest)) refl all (search all_sent) v z.taken

    -- The status stage, where all bytes have come

    status_losses : {result : Result (List ℕ) TransFault} {new : World} {v : State}
        → ControlInAsked t One result now new j u v → TransNotOfBus result
        → new.losses ≡ now.losses
    status_losses y sound = grind (arith, data_at, y.kept)

    data_unconfirmed : (bytes : List ℕ) (fault : TransFault) (why : PipeFault)
        → why ≡ as_pipe_fault fault → request.length ≡ length bytes → sent ≡ bytes
        → now.damages ≡ old.damages → {new : World}
        → (Fell fault trans.Stalled → Course (IsBehindData t) first new) → (v : State)
        → ControlInAsked t One (Err fault) now new j u v
        → DataAsked t request bytes (Err why) old new j s v
    data_unconfirmed bytes fault why told all is undamaged since v y = record {
      frame = data_frame v (only_write u v y.told.leaves.frame (elim x.far [
        | refuses_data f h k ↦ y.told.leaves.rests h
        | writes_data kept f h ↦ (y.told.write refl).rests data_at s.taken (w kept) h
      ]));
      done = λ z e. cc e;
      failed = grind (
        arith,
        data_at,
        taken_by,
        taken_failed,
        x.far,
        y.told.leaves.frame,
        y.told.write,
      );
      refuses = grind (
        arith,
        data_at,
        fell_same_fault,
        not_kept,
        refused_data,
        x.far,
        y.told.leaves.stalled,
      );
      ends = grind (
        arith,
        data_at,
        data_on,
        last_failed,
        x.far,
        y.told.leaves.could,
        y.told.why,
        y.told.write_why,
      );
      losses = λ plain sound. status_losses y (grind (arith, sound_told))
          ∙ x.losses plain;
    }
      where
        not_kept : (kept : Bool) → not (is_done (w kept)) ≡ true → kept ≡ false
        not_kept true h = grind (arith, nat_tests)
        not_kept false h = refl

    data_whole : (bytes given : List ℕ) → request.length ≡ length bytes → sent ≡ bytes
        → {new : World} → Course (IsBehindData t) first new → (v : State)
        → ControlInAsked t One (Ok given) now new j u v → DataAsked t request bytes (Ok tt) old new
        j s v
    data_whole bytes given all is {new} since v y = elim x.far [
      | refuses_data f h k ↦ absurd (grind (arith, data_at))
      | writes_data kept f h ↦ ended kept f h ((y.told.write refl).status data_at s.taken (w kept)
          h)
    ]
      where
        is_kept : (kept : Bool) → is_done (w kept) ≡ true → kept ≡ true
        is_kept true h = refl
        is_kept false h = absurd (grind (arith, nat_tests, h))

        ended : (kept : Bool) → stage_begun x.row request s
            ≡ writing (first_write request.length kept) → WritingAt s.taken (w kept) u
            → WriteStatusEnds s.taken (w kept) (Ok given) v
            → DataAsked t request bytes (Ok tt) old new j s v
        ended kept f h (none, done, end) =
            let came : v.taken ≡ s.taken ++ bytes = grind (arith, taken_ended) in
            record {
              frame = data_frame v (only_write u v y.told.leaves.frame
                  ((y.told.write refl).rests data_at s.taken (w kept) h));
              done = grind (arith, is_kept, x.accepts);
              failed = inr came;
              refuses = λ e. cc e;
              ends = grind (arith, data_at, data_on, not_failed, y.told.leaves.could);
              losses = grind (arith, status_losses);
            }

  -- a SETUP that was not acknowledged
  data_no_set_up : (bytes : List ℕ) (fault : TransFault) (why : PipeFault)
      → why ≡ as_pipe_fault fault → {old new : World} (j : Location) (s v : State)
      → is_at s t ≡ true → Requested t request (Err fault) old new j s v
      → DataAsked t request bytes (Err why) old new j s v
  data_no_set_up bytes fault why told j s v at y = record {
    frame = elim y.done.kept [
      | inl e ↦ subst (λ d. OnlyWrite s d) (sym e) refl
      | inr z ↦ subst (λ d. OnlyWrite s d) (sym (data_accepted s v z.at)) refl
    ];
    done = λ z e. cc e;
    failed = inl (elim y.done.kept as (λ _. v.taken ≡ s.taken) [
      | inl e ↦ ap (λ d. d.taken) e
      | inr z ↦ ap (λ d. d.taken) (data_accepted s v z.at)
    ]);
    refuses = grind (arith, fell_same_fault, y.done.could);
    ends = grind (arith, set_up_failed);
    losses = grind (arith, sound_told);
  }

  -- so many packets were acknowledged
  data_gone : {old first : World} {n : ℕ} {sent : List ℕ} {now : World}
      → Gave t 0 One first n sent now
      → RequestReached t request (DataTold t request 0 [] old first first) old first
      → length sent ≤ request.length
      → RequestReached t request (DataTold t request n sent old first now) old now
  data_gone moves.start r few = r
  data_gone {old} {first} (moves.packet {n} {sent} {mid} {new} bytes g full more fits puts) r few =
      let all : length (sent ++ bytes) ≡ length sent + length bytes = length-append sent bytes in
      reached_more (ControlOutAsked t (flips n One) bytes (Ok []) mid new)
      (DataTold t request (n + 1) (sent ++ bytes) old first new) []
      (grind arith) (grind (arith, data_more))
      (data_gone g r (omega (arith, few, all))) puts (grind (arith, put_leaves))

  module _ (bytes : List ℕ) (all : request.length ≡ length bytes) (least : 1 ≤ t.max)
      (old new : World) (settled : IsSettled old.roots) (single : new.shared ≡ false) where
    data_reached : {first : World} → SetUp t request old (Ok []) first
        → RequestReached t request (DataTold t request 0 [] old first first) old first
    data_reached set_up = search (reached_first, told_data)

    -- at the end
    data_last : (result : Result (List ℕ) TransFault) (ended : Result (Unit {0}) PipeFault)
        {first second : World} → SetUp t request old (Ok []) first
        → (gone : AllGone t 0 One bytes first second) → Asks t One second result new
        → (second.damages ≡ old.damages → (j : Location) (s u v : State) → is_at s t ≡ true
        → DataTold t request gone.packets bytes old first second j s u
        → ControlInAsked t One result second new j u v
        → DataAsked t request bytes ended old new j s v)
        → EachSpared t request (Only t (DataAsked t request bytes ended old new)) old new
    data_last result ended {first} {second} set_up gone status f =
        let r = data_gone gone.gone (data_reached set_up) (omega (arith, all)) in
        reached_last (ControlInAsked t One result second new) (DataAsked t request bytes ended old
        new)
        (heard_as One) (in_attempt t 0) new result (grind arith) (f r.damages)
        r status (grind (arith, asked_leaves)) single

    data_asked : (result : Result (Unit {0}) PipeFault) → PutsData t request bytes old result new
        → EachSpared t request (Only t (DataAsked t request bytes result old new)) old new
    data_asked (Ok done) x =
        data_last (Ok x.given) (Ok done) x.set_up x.data_stage x.status
        (λ undamaged j s u v at y z. data_whole at y bytes x.given all refl
        (course_joined (gave_behind t x.data_stage.gone) (asked_behind t One x.status)) v z)
    data_asked (Err why) (inl x) =
        only_first t request (DataAsked t request bytes (Err why) old new) (Err x.fault) same
        settled x.set_up (search (data_no_set_up, x.fault, x.told)) single
    data_asked (Err why) (inr (inl x)) =
        let d = x.data_stage in
        let whole = ap length d.split ∙ length-append d.sent d.rest in
        let r = data_gone d.before (data_reached x.set_up) (omega (arith, all, whole)) in
        reached_last (ControlOutAsked t (flips d.packets One) (take t.max d.rest) (Err d.fault)
        d.mid new) (DataAsked t request bytes (Err why) old new) heard_when_sent
        (out_attempt t 0 (flips d.packets One) (take t.max d.rest)) new (Err d.fault) (grind arith)
        (λ j s u v at y z. data_lost at y bytes d.rest d.fault why d.told all d.split d.some least
        r.damages
        (λ stall. course_joined (gave_behind t d.before) (grind (arith, put_behind))) v z)
        r d.lost (grind (arith, put_leaves)) single
    data_asked (Err why) (inr (inr x)) =
        data_last (Err x.fault) (Err why) x.set_up x.data_stage x.status
        (λ undamaged j s u v at y z. data_unconfirmed at y bytes x.fault why x.told all refl
        undamaged
        (λ stall. course_joined (gave_behind t x.data_stage.gone) (asked_behind t One
        (subst (λ r. Asks t One x.second r new) stall x.status))) v z)

-- What its call tells

pub put_told : (t : Target) (request : Setup) (bytes sent : List ℕ) {old : World} (new : World)
    (result : Result (Unit {0}) PipeFault) → 1 ≤ t.max → IsToDevice request → 1 ≤ request.length
    → request.length ≡ length bytes → sent ≡ bytes_of request → setup_of sent ≡ request
    → IsSettled old.roots
    → MatchResult result (λ _. AttemptsMade (div_ceil (length bytes) t.max + 2) old new)
    (λ fault. FaultAfter 1 old fault new)
    → result ≢ Err pipe_fault.Memory → PutsData t request bytes old result new
    → DataWrite t request bytes old result new
put_told t request bytes sent {old} new result least way some all is fields settled ended room x =
    let same : setup_of (bytes_of request) ≡ request = grind arith in
    let each = λ (single : new.shared ≡ false). data_asked t request way some same bytes all least
    old new settled single result x in
    record {
      ends = ended;
      stages = x;
      settled = settled;
      room = room;
      what = λ single. spared_wider t request _ _ (grind (arith, decided)) old new (each single);
      why = λ three sound single. spared_wider t request _ _ (grind arith) old new (each single);
      losses = λ plain sound single. spared_wider t request _ _ (grind arith) old new (each single);
      who = elim result as (λ r. PutsData t request bytes old r new
          → OnOk r ((is_harmless request ≡ false → t.addr ≢ 0)
          → Unshared new (Answerer t old new))) [
            | Ok done ↦ λ y addressed. who_puts t request bytes done old new same addressed settled
                y
            | Err why ↦ λ y. tt
          ] x;
    }
