-- A poll of a hub's status endpoint (11.12.3): what it leaves of each device, and why it fails.
use Rattle.std.proofs.Common.{◌≡◌, ◌≢◌, ◌≤◌, ◌⊎◌, inl, inr, ℕ, nat_le, ◌&&◌, if◌then◌else◌, Bool}
use Rattle.std.proofs.Common.{true, false, List, [], ◌∷◌, length, Option, None, Some, Result, Ok}
use Rattle.std.proofs.Common.{Err, refl, sym, subst, ap, ◌∙◌, arith}
use Rattle.std.proofs.lemmas.Bool.Decides.{nat_tests}
use Rattle.arrayvec.specs.ArrayVec.{ArrayVec}
use Rattle.usb_packet.specs.{Toggle, other, is_same}
use Rattle.usb_port.specs.{PortState}
use Rattle.usb_device.specs.{Answer, tells_changes, change_bits, change_bytes, hub_ports, told_bits}
use Rattle.usb_device.specs.{status_length, status_number, State, Reply, forgotten, acknowledged}
use Rattle.usb_device.specs.{payload, Way, is_whole, heard, gave, held_law, in_law, Ports, full}
use Rattle.usb_device.specs.{row_of, place_on, Location, PollAt, level, told, ahead, NeverTold}
use Rattle.usb_device.specs.{PollOn, OnlyChanges}
use Rattle.usb_device.specs.declared.answer.Answer.TheVariants as answer
use Rattle.usb_device.specs.declared.transfer.InEndpoint.TheVariants as by
use Rattle.usb_device.specs.Attempt.{whole}
use Rattle.usb_device.proofs.Interface.{is_same-refl, law_is, other-other, poll_on, told-back}
use Rattle.usb_world.specs.{Attempt, Outcome, EachWas, DidIn, got, attempt, after, outcome_in}
use Rattle.usb_world.specs.{damage_in, at_attempt, with_attempt, World, Made, IsSettled}
use Rattle.usb_world.specs.declared.types.Outcome.TheVariants.{Payload, Stall}
use Rattle.usb_world.proofs.Interface.{got_nak, got_payload, got_stall, made_step, ready_taken}
use Rattle.usb_world.proofs.Interface.{decided, false_true}
use Rattle.usb_transfer.specs.{TransFault, Stalled, Busy, NoAnswer, Bus, HeardOutcome, Moved}
use Rattle.usb_transfer.specs.{Repeat, Lost, Target, NoThreeDamaged, Listens, PollFailure, polled}
use Rattle.usb_transfer.specs.{polled_as, IsNotOfBus, IsStatusEndpoint, is_at, ToldIn, ToldSince}
use Rattle.usb_transfer.specs.{ToldBy, ToldSome, none_came, one_came, PollEnds, ChangesIn}
use Rattle.usb_transfer.specs.{AttemptLog, IsNoEnd, Polled, packed, in_attempt}
use Rattle.usb_transfer.proofs.DeviceRuns.{AttemptDelivered, IsOfBus, IsPollEnd, RunThrough}
use Rattle.usb_transfer.proofs.DeviceRuns.{over_poll, in_kind, DeviceTold, AttemptLeft, as_whole}
use Rattle.usb_transfer.proofs.DeviceRuns.{asked_in, at_end, each_device, Turns, few_repeats}
use Rattle.usb_transfer.proofs.DeviceRuns.{heeded, in_others, listens_on, PollGot, of_bus}
use Rattle.usb_transfer.proofs.DeviceRuns.{stays_away}
use Rattle.usb_transfer.proofs.LastOutcomes.{polled_last}

-- the bytes of some bits are no more than a packet of the hub has (11.12.4)
few_bytes : (ports bits max : ℕ) → status_length ports ≤ max
    → nat_le (length (change_bytes ports bits)) max ≡ true
few_bytes ports bits max m = grind (arith, nat_tests)

-- The replies to IN of a configured hub's status endpoint, by whether all packets came whole

abbrev poll_byte_state : State → Option ℕ → Bool → State
poll_byte_state s held came = if came then forgotten
    (acknowledged (record s { held = held }) by.Changes) else record s { held = held }

module _ (s : State) (P : Bool → Reply → Type 0) (silent : (held : Option ℕ)
    → P false (None, record s { held = held })) (stalls : (clear : Bool) → s.changes.halted ≡ true
    → P clear (Some answer.Stall, s))
    (waits : (clear : Bool) → P clear (Some answer.Nak, s))
    (gives : (clear : Bool) (held : Option ℕ) (bits : ℕ)
    → P clear (
      Some (payload s.changes.toggle (change_bytes (hub_ports s.spec.hub) bits)),
      poll_byte_state s held clear,
    ))
  where
    abbrev Room : ℕ → Type 0
    Room max = status_length (hub_ports s.spec.hub) ≤ max

    abbrev bytes_of : ℕ → List ℕ
    bytes_of bits = change_bytes (hub_ports s.spec.hub) bits

    by_heard : (t2 t3 : Way) (x : Option Answer) → P (is_whole t3) (x, s)
        → P (is_whole t2 && is_whole t3) (heard t2 x, s)
    by_heard t2 t3 x h = grind arith

    by_byte : (max : ℕ) → Room max → (t2 t3 : Way) (held : Option ℕ) (bits : ℕ)
        → P (is_whole t2 && is_whole t3) (gave (record s { held = held }) by.Changes max
        s.changes.toggle (bytes_of bits) t2 t3)
    by_byte max m t2 t3 held bits = grind (arith, few_bytes)

    by_held : (row : List PortState) (max : ℕ) → Room max → (t2 t3 : Way) (held : Option ℕ)
        → P (is_whole t2 && is_whole t3) (held_law s row held max t2 t3)
    by_held row max m t2 t3 held = grind (arith, by_byte, by_heard)

    by_reply : tells_changes s.spec s.registers ≡ true → (row : List PortState) (max : ℕ) → Room max
        → (t1 t2 t3 : Way) → P (is_whole t1 && is_whole t2 && is_whole t3)
        (in_law s row (status_number s.spec s.registers) max t1 t2 t3)
    by_reply h row max m whole t2 t3 = rw (law_is s h row max t2 t3) (halt s.changes.halted refl)
      where
        halt : (halted : Bool) → s.changes.halted ≡ halted
            → P (is_whole t2 && is_whole t3) (if halted then (heard t2 (Some answer.Stall), s)
            else held_law s row s.held max t2 t3)
        halt true q = grind (arith, by_heard)
        halt false q = by_held row max m t2 t3 s.held
    by_reply h row max m t1 t2 t3 = silent s.held

-- what one attempt leaves of the endpoint
record PollStep (t : Toggle) (s : State) (clear : Bool) (o : Outcome) (v : State) : Type 0 where
  frame : OnlyChanges s v
  quiet : v.changes.halted ≡ s.changes.halted
  heeds : clear ≡ true → polled_as t o ≢ Lost
  unstalled : s.changes.halted ≡ false → o ≢ Stall
  even : s.changes.toggle ≡ t → IsNoEnd (polled_as t o) → (v.changes.toggle ≡ t)
      × (polled_as t o ≡ Lost)
  behind : s.changes.toggle ≡ other t → IsNoEnd (polled_as t o) → (v.changes.toggle ≡ t)
      ⊎ ((v.changes.toggle ≡ other t) × (clear ≡ false))

-- a byte that comes to the host
never_lost : (b : ArrayVec ℕ) (x : Bool) → polled (if x then Moved b else Repeat) ≢ Lost
never_lost b x = grind arith

step_byte : (t : Toggle) (s : State) (clear : Bool) (held : Option ℕ) (b : ArrayVec ℕ)
    → PollStep t s clear (Payload s.changes.toggle b) (poll_byte_state s held clear)
step_byte t s clear held b = grind (arith, is_same-refl, never_lost, other-other)

poll_step : (t : Toggle) (s : State) → tells_changes s.spec s.registers ≡ true
    → (row : List PortState) (ep max : ℕ) → ep ≡ status_number s.spec s.registers
    → status_length (hub_ports s.spec.hub) ≤ max → (t1 t2 t3 : Way) (o : Outcome) (v : State)
    → o ≡ got max (in_law s row ep max t1 t2 t3).0 → v ≡ (in_law s row ep max t1 t2 t3).1
    → PollStep t s (is_whole t1 && is_whole t2 && is_whole t3) o v
poll_step t s h row ep max number m t1 t2 t3 o v e f =
    rw (e, f, number) (by_reply s (λ clear r. PollStep t s clear (got max r.0) r.1)
    (λ held. record {
      frame = refl;
      quiet = refl;
      heeds = λ c. false_true c;
      unstalled = λ q e. cc e;
      even = λ q n. (q, refl);
      behind = λ q n. inr (q, refl);
    })
    (λ clear e. record {
      frame = refl;
      quiet = refl;
      heeds = λ c l. cc l;
      unstalled = λ q. false_true (sym q ∙ e);
      even = λ q n. elim n [ ];
      behind = λ q n. elim n [ ];
    })
    (λ clear. record {
      frame = refl;
      quiet = refl;
      heeds = λ c l. cc l;
      unstalled = λ q e. cc e;
      even = λ q n. elim n [ ];
      behind = λ q n. elim n [ ];
    }) (grind (arith, few_bytes, step_byte)) h row
    max m t1 t2 t3)

-- What the host hears of an answer

poll_at-wider : (Told So : ℕ → Type 0) → ((bits : ℕ) → Told bits → So bits)
    → (t : Toggle) (s : State) → PollAt Told t s → PollAt So t s
poll_at-wider Told So f t s (level h q) = level h q
poll_at-wider Told So f t s (told bits so h q) = told bits (f bits so) h q
poll_at-wider Told So f t s (ahead bits h q) = ahead bits h q

never_told : (Told : ℕ → Type 0) (t : Toggle) (s : State) → PollAt NeverTold t s → PollAt Told t s
never_told Told t s = poll_at-wider NeverTold Told (λ bits so. elim so [ ]) t s

module _ (ports : ℕ) (Told : ℕ → Type 0) (bits : ℕ) (t : Toggle) (max : ℕ)
    (m : status_length ports ≤ max) (v : State) (counted : hub_ports v.spec.hub ≡ ports) where
  fits_came : (given : ℕ) (bytes : List ℕ) → bytes ≡ change_bytes (hub_ports v.spec.hub) given
      → nat_le (length bytes) max ≡ true
  fits_came given bytes is = grind (arith, counted, few_bytes)

  -- no byte came, or one that ends the poll
  came : (o : Option Answer) → PollOn (ToldSome ports Told) bits t o v
      → PollAt (ToldSome ports Told) t v
      ⊎ (PollAt NeverTold (other t) v × (IsNoEnd (polled_as t (got max o)) → ⊥))
  came None on = inl on
  came (Some answer.Ack) on = elim on [ ]
  came (Some answer.Nak) on = inl (never_told (ToldSome ports Told) t v on.1)
  came (Some answer.Stall) on = inl on.0
  came (Some (answer.Data given b)) on =
      elim (decided (is_same t given)) [
        | inl h ↦
            inr (
              (on.0 h).between,
              λ n. rw (fits_came (on.0 h).bits b.items (on.0 h).came, h) at n,
            )
        | inr h ↦ inl (on.1 h)
      ]

  goes_on : (o : Option Answer) → PollOn (ToldSome ports Told) bits t o v
      → IsNoEnd (polled_as t (got max o)) → PollAt (ToldSome ports Told) t v
  goes_on o on n = elim (came o on) [ inl x ↦ x | inr y ↦ absurd (y.1 n) ]

  -- bits are what the ports told, where NAK was answered
  ends : (result : Result (Option (List ℕ)) TransFault) (o : Option Answer)
      (outcomes : List Outcome) → (o ≡ Some answer.Nak → Told bits)
      → PollOn (ToldSome ports Told) bits t o v → IsPollEnd t result (got max o) outcomes
      → PollEnds ports Told t result v
  ends (Ok None) o outcomes so on e =
      let nak : o ≡ Some answer.Nak = got_nak max o e in
      let x : (bits ≡ 0) × PollAt NeverTold t v =
      subst (λ y. PollOn (ToldSome ports Told) bits t y v) nak
      on in
      (subst Told x.0 (so nak), x.1)
  ends (Ok (Some bytes)) o outcomes so on e =
      (subst (λ y. PollOn (ToldSome ports Told) bits t y v)
      (got_payload max o t (packed bytes) (polled_last t (got max o) bytes e)) on).0
      (is_same-refl t)
  ends (Err Stalled) o outcomes so on e =
      subst (λ y. PollOn (ToldSome ports Told) bits t y v) (got_stall max o e) on
  ends (Err (Bus fault)) o outcomes so on e =
      elim (came o on) [ inl x ↦ none_came x | inr y ↦ one_came y.0 ]
  ends (Err fault) o outcomes so on e = goes_on o on e.0

  -- what an outcome says of the endpoint, where the poll goes on and where it ends
  abbrev Says : Outcome → Type 0
  Says o = (IsNoEnd (polled_as t o) → PollAt (ToldSome ports Told) t v)
      × ((result : Result (Option (List ℕ)) TransFault) (outcomes : List Outcome)
      → IsPollEnd t result o outcomes → PollEnds ports Told t result v)

  says : (o : Outcome) (x : Option Answer) → o ≡ got max x → (x ≡ Some answer.Nak → Told bits)
      → PollOn (ToldSome ports Told) bits t x v → Says o
  says o x e so on = rw e (
    λ n. goes_on x on n,
    λ result outcomes is. ends result x outcomes so on is,
  )

-- The events that are due come with an attempt

due_came : (a : Attempt) (w : World) → Made w (after (attempt a) w)
    → (at_attempt w).taken ≤ (after (attempt a) w).taken
unfolding with_attempt
due_came a w made = grind (arith, made_step)

-- A hub that tells of changes, at the target

module _ (t : Target) (ep : ℕ) (toggle : Toggle) (old : World) (j : Location) (s : State)
    (at : is_at s t ≡ true) (h : IsStatusEndpoint t ep s) where
  abbrev a : Attempt
  a = in_attempt t ep

  abbrev ports : ℕ
  ports = hub_ports s.spec.hub

  abbrev hear : Outcome → HeardOutcome
  hear o = polled_as toggle o

  -- one attempt
  module _ (w : World) (u v : State) (x : OnlyChanges s u) (d : DidIn a w j u v) where
    still_at : is_at u t ≡ true
    still_at = ap (λ y. is_at y t) x ∙ at

    tells : tells_changes u.spec u.registers ≡ true
    tells = grind arith

    counted : hub_ports u.spec.hub ≡ ports
    counted = grind arith

    number : ep ≡ status_number u.spec u.registers
    number = grind arith

    room : status_length (hub_ports u.spec.hub) ≤ t.max
    room = grind (arith, counted)

    asked : (row : List PortState) × AttemptDelivered t a (in_law u row ep t.max) w j u v
    asked = asked_in t ep w j u v d still_at

    abbrev clear : Bool
    clear = is_whole asked.1.first && is_whole asked.1.second && is_whole asked.1.third

    is_clear : Listens t j s → damage_in w ≡ None → clear ≡ true
    is_clear l none = grind (arith, as_whole, asked, listens_on)

    step : PollStep toggle u clear (outcome_in a w) v
    step = poll_step toggle u tells asked.0 ep t.max number room asked.1.first asked.1.second
        asked.1.third (outcome_in a w) v asked.1.gave asked.1.is

    frame : OnlyChanges s v
    frame = grind (arith, step)

    counted_then : hub_ports v.spec.hub ≡ ports
    counted_then = grind (arith, frame)

    abbrev TheSaid : (ℕ → Type 0) → Type 0
    TheSaid Told = Says ports Told 0 toggle t.max h.fits v counted_then (outcome_in a w)

    -- of anything that is so of the bits that its ports tell now
    gave_it : (Told : ℕ → Type 0) → ((b : PortState) (below : Ports)
        → place_on (at_attempt w).roots j ≡ Some (full b u below)
        → Told (change_bits (hub_ports u.spec.hub) (row_of below))) → DidIn a w j u v
        → PollAt (ToldSome ports Told) toggle u → TheSaid Told
    gave_it Told tells_now (DidIn.other e same) before = false_true (sym e ∙ still_at)
    gave_it Told tells_now (DidIn.silent e q o is) before =
        says ports Told 0 toggle t.max h.fits v counted_then (outcome_in a w) None o
        (λ n. absurd (cc n)) (subst (PollAt (ToldSome ports Told) toggle) (sym is) before)
    gave_it Told tells_now (DidIn.asked e q b below stood y o is) before =
        let bits : ℕ = change_bits (hub_ports u.spec.hub) (row_of below) in
        let so : Told bits = tells_now b below stood in
        let again : told_bits (change_bytes ports bits) ≡ bits =
        grind (arith, counted, told-back) in
        says ports Told bits toggle t.max h.fits v counted_then (outcome_in a w)
        (in_law u (row_of below) ep t.max y.first y.second y.third).0 o (λ n. so)
        (subst (PollOn (ToldSome ports Told) bits toggle
        (in_law u (row_of below) ep t.max y.first y.second y.third).0) (sym is)
        (subst (λ n. PollOn (ToldSome ports Told) bits toggle
        (in_law u (row_of below) n t.max y.first y.second y.third).0
        (in_law u (row_of below) n t.max y.first y.second y.third).1) (sym number)
        (search (poll_on, room, tells, y.first, y.second, y.third))))

    module _ (outcomes : List Outcome) (trail : AttemptLog a old outcomes w) where
      -- what its ports tell now, by any world that more of the same attempts lead to
      told_here : (b : PortState) (below : Ports) → place_on (at_attempt w).roots j
          ≡ Some (full b u below) → (now : World) (later : List Outcome) → AttemptLog a w later now
          → ToldIn a old now j (change_bits (hub_ports u.spec.hub) (row_of below))
      told_here b below stood now later since = grind arith

      -- up to the attempt, or where it was made past it
      abbrev Ever : ℕ → Type 0
      Ever bits = (now : World) × ToldIn a old now j bits

      by_then : PollAt (ToldSome ports (ToldSince a old w j)) toggle u
          → PollAt (ToldSome ports Ever) toggle u
      by_then = poll_at-wider (ToldSome ports (ToldSince a old w j)) (ToldSome ports Ever)
          (λ bits x. (x.0, x.1, (w, x.2.told))) toggle u

      gave_then : DidIn a w j u v → PollAt (ToldSome ports (ToldSince a old w j)) toggle u
          → TheSaid Ever
      gave_then d before = gave_it Ever
          (λ b below stood. (w, told_here b below stood w [] AttemptLog.start)) d (by_then before)

      gave_since : Made w (after (attempt a) w) → DidIn a w j u v
          → PollAt (ToldSome ports (ToldSince a old w j)) toggle u
          → TheSaid (ToldSince a old (after (attempt a) w) j)
      unfolding told_here
      gave_since made d before =
          gave_it (ToldSince a old (after (attempt a) w) j)
          (λ b below stood. record {
            told = told_here b below stood (after (attempt a) w)
                (outcome_in a w ∷ []) (AttemptLog.next w AttemptLog.start made);
            came = due_came a w made;
          }) d
          (poll_at-wider (ToldSome ports (ToldSince a old w j))
          (ToldSome ports (ToldSince a old (after (attempt a) w) j))
          (λ bits x. (x.0, x.1, told_on bits x.2)) toggle u before)
        where
          told_on : (bits : ℕ) → ToldSince a old w j bits
              → ToldSince a old (after (attempt a) w) j bits
          told_on bits x = record {
            told = record {
              outcomes = x.told.outcomes;
              mid = x.told.mid;
              trail = x.told.trail;
              b = x.told.b;
              s = x.told.s;
              below = x.told.below;
              stood = x.told.stood;
              told = x.told.told;
              later = outcome_in a w ∷ x.told.later;
              since = AttemptLog.next w x.told.since made;
            };
            came = omega (arith, x.came, ready_taken w, due_came a w made);
          }

      ended : (result : Result (Option (List ℕ)) TransFault) (new : World) → DidIn a w j u v
          → PollAt (ToldSome ports (ToldSince a old w j)) toggle u
          → IsPollEnd toggle result (outcome_in a w) outcomes
          → ((IsOfBus result → ⊥) → AttemptLeft a w new)
          → PollEnds ports (ToldBy a old result new j) toggle result v
      ended (Ok got) new d before end made =
          let m : AttemptLeft a w new = made (λ g. g tt) in
          subst (λ n. PollEnds ports (ToldSince a old n j) toggle (Ok got) v) (sym m.1)
          ((gave_since m.0 d before).1 (Ok got) outcomes end)
      ended (Err fault) new d before end made = (gave_then d before).1 (Err fault) outcomes end

  left : (result : Result (Option (List ℕ)) TransFault) (new : World) (v : State)
      → RunThrough (DidIn a) a hear (IsPollEnd toggle result) (IsOfBus result) old new j s v
      → OnlyChanges s v × (PollAt NeverTold toggle s
      → PollEnds ports (ToldBy a old result new j) toggle result v)
  left result new v run =
      at_end hear (λ outcomes w u. OnlyChanges s u
      × (PollAt NeverTold toggle s → PollAt (ToldSome ports (ToldSince a old w j)) toggle u))
      (refl, never_told (ToldSome ports (ToldSince a old old j)) toggle s)
      (λ outcomes w u x r made i d n. (
        frame w u x i.0 d,
        λ k. (gave_since w u x i.0 d outcomes r made d (i.1 k)).0 n,
      ))
      (λ x. OnlyChanges s x × (PollAt NeverTold toggle s
      → PollEnds ports (ToldBy a old result new j) toggle result x)) v
      (λ outcomes w u r i d end made. (
        frame w u v i.0 d,
        λ k. ended w u v i.0 d outcomes r result new d (i.1 k) end made,
      ))
      (λ gave outcomes w i. (
        i.0,
        λ k. of_bus (λ x. PollEnds ports (ToldBy a old x new j) toggle x v)
            (λ fault. none_came (poll_at-wider (ToldSome ports (ToldSince a old w j))
            (ToldSome ports (λ bits. (now : World) × ToldIn a old now j bits))
            (grind arith) toggle v (i.1 k))) result gave,
      )) run

  -- a hub that listens, and whose endpoint is not halted
  module _ (three : NoThreeDamaged old) (l : Listens t j s) where
    abbrev Answers : State → Type 0
    Answers u = OnlyChanges s u × (u.changes.halted ≡ false)

    module _ (w : World) (u y : State) (d : DidIn a w j u y) (is : Answers u) where
      stays : Answers y
      stays = (frame w u y is.0 d, (step w u y is.0 d).quiet ∙ is.1)

      heeds : damage_in w ≡ None → hear (outcome_in a w) ≢ Lost
      heeds none = (step w u y is.0 d).heeds (is_clear w u y is.0 d l none)

      turns : IsNoEnd (hear (outcome_in a w)) → Turns toggle u.changes.toggle y.changes.toggle
          (hear (outcome_in a w)) (damage_in w ≢ None)
      turns n = record {
        even = λ q. (step w u y is.0 d).even q n;
        behind = λ q. elim ((step w u y is.0 d).behind q n) [
          | inl e ↦ inl e
          | inr e ↦ inr (e.0, λ none. false_true (sym e.1 ∙ is_clear w u y is.0 d l none))
        ];
      }

    answers : s.changes.halted ≡ false → (fault : TransFault)
        → IsNotOfBus {A = Option (List ℕ)} (Err fault)
        → (new : World) (v : State) → RunThrough (DidIn a) a hear (IsPollEnd toggle (Err fault))
        (IsOfBus {A = Option (List ℕ)} (Err fault)) old new j s v → ⊥
    answers quiet Stalled sound new v run =
        at_end hear (λ outcomes w u. Answers u) (refl, quiet) (search stays) (λ y. ⊥) v
        (λ outcomes w u r i d end made. (step w u v i.0 d).unstalled i.1 end) (grind arith) run
    answers quiet Busy sound new v run =
        few_repeats (PollGot toggle) (Err Busy) run Answers (λ w u y d n i. stays w u y d i)
        (refl, quiet) toggle (λ u. u.changes.toggle) three (λ w u y d i n. turns w u y d i n) refl
    answers quiet NoAnswer sound new v run =
        heeded (PollGot toggle) (Err NoAnswer) run Answers (λ w u y d n i. stays w u y d i)
        (refl, quiet) three (search heeds) refl
    answers quiet (Bus fault) sound new v run = sound

-- Each device

pub changes_told : (t : Target) (ep : ℕ) (toggle : Toggle)
    (result : Result (Option (List ℕ)) TransFault) (old new : World) → IsSettled old.roots
    → Polled toggle (in_attempt t ep) old result new → new.shared ≡ false
    → EachWas (DeviceTold (ChangesIn t ep toggle old result new)
    (λ j s v. IsNotOfBus result → PollFailure t ep toggle result j s v) old) old new
changes_told t ep toggle result old new settled x single =
    each_device old new
    (λ j s v run.
    let away : (is_at s t ≡ false → v ≡ s) = stays_away t (λ w u x. in_others t ep w j u x) run in
    record {
      leaves = record {
        others = away;
        frame = λ h. elim (decided (is_at s t)) [
          | inl at ↦ (left t ep toggle old j s at h result new v run).0
          | inr y ↦ subst (OnlyChanges s) (sym (away y)) refl
        ];
        poll = λ at h. (left t ep toggle old j s at h result new v run).1;
      };
      why = λ three sound. record {
        answered = λ l h start quiet fault e.
            answers t ep toggle old j s l.at h three l quiet fault (subst IsNotOfBus e sound) new v
            (subst (λ r. RunThrough (DidIn (in_attempt t ep)) (in_attempt t ep) (polled_as toggle)
            (IsPollEnd toggle r) (IsOfBus r) old new j s v) e run);
      };
    }) (over_poll (in_kind t ep) old settled toggle new single result x)
