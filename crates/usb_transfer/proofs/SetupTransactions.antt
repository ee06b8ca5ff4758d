-- SETUP: setup data that were accepted more than once are as if they were accepted once, the last
-- time; and who is not reset by them.
use Rattle.std.proofs.Common.{◌≡◌, ◌⊎◌, inl, inr, ℕ, ◌&&◌, if◌then◌else◌, true, false, List, []}
use Rattle.std.proofs.Common.{◌∷◌, length, Option, None, Some, Result, Ok, Err, refl, sym, subst}
use Rattle.std.proofs.Common.{ap, ◌∙◌, arith}
use Rattle.std.proofs.lemmas.Option.{same_Some}
use Rattle.usb_request.specs.{Setup, setup_of}
use Rattle.usb_port.specs.{PortState}
use Rattle.usb_device.specs.{Leaves, Outcome, outcome, State, with_endpoints, accepted}
use Rattle.usb_device.specs.{asked_by_setup, Way, is_whole, setup_law, Ports, full, acted, row_of}
use Rattle.usb_device.specs.{Location, path_to, reach_on, state_on, place_on, Place}
use Rattle.usb_device.specs.Attempt.{whole}
use Rattle.usb_device.proofs.Interface.{begun-twice, outcome-again}
use Rattle.usb_world.specs.{Attempt, is_harmless, resets, Relation, Was, EachWas, DidSetup, IsMade}
use Rattle.usb_world.specs.{IsSetup, HolderIn, got, token_way, payload_way, answer_way, at_attempt}
use Rattle.usb_world.specs.{damage_in, outcome_in, attempt, after, World}
use Rattle.usb_world.specs.declared.types.Outcome as bus
use Rattle.usb_world.specs.declared.types.Outcome.TheVariants.{Ack, Nothing}
use Rattle.usb_world.specs.{IsSettled, deep_at, address_of, IsNew}
use Rattle.usb_world.proofs.Interface.{each_setup, made_is, made_reach, made_true, quiet_resets}
use Rattle.usb_world.proofs.Interface.{register_address, setup_in, setup_place_in, setup_sound_in}
use Rattle.usb_world.proofs.Interface.{stands, state_stands, step_new, decided, equal_same}
use Rattle.usb_world.proofs.Interface.{false_true}
use Rattle.usb_transfer.specs.{TransFault, Stalled, Busy, Target, Listens, SetupFailure, set_up_as}
use Rattle.usb_transfer.specs.{is_at, CanAccept, AcceptedAt, AcceptedSince, SetupDone, IsSpared}
use Rattle.usb_transfer.specs.{EachSpared, AttemptLog, Transacted, waits_in, setup_attempt}
use Rattle.usb_transfer.proofs.DeviceRuns.{IsEnd, IsOfBus, AttemptLeft, at_end, each_if-joined}
use Rattle.usb_transfer.proofs.DeviceRuns.{DeviceTold, Moves, heeded, listens_at, of_bus, Through}
use Rattle.usb_transfer.proofs.DeviceRuns.{was_then, over_transaction, stays_away}

-- A request asks the same once it was accepted

pub spec_stays : (d : State) (o : Outcome) → (with_endpoints d o).spec ≡ d.spec
spec_stays d o = grind arith

asked_twice : (d : State) (first : List PortState) (r : Setup)
    → outcome (accepted d first r).spec (accepted d first r).registers r
    ≡ outcome d.spec d.registers r
asked_twice d first r = grind (arith, outcome-again, spec_stays)

-- a device is as after setup data that it accepted with these ports
pub record AcceptedWith (bytes : List ℕ) (s v : State) : Type 0 where
  pub row : List PortState
  pub is : v ≡ accepted s row (setup_of bytes)

abbrev pub SetupKept : List ℕ → State → State → Type 0
SetupKept bytes s v = (v ≡ s) ⊎ AcceptedWith bytes s v

-- it is where it was, and what the request asks of it is the same
record AsBefore (r : Setup) (s v : State) : Type 0 where
  spec : v.spec ≡ s.spec
  address : address_of v ≡ address_of s
  again : (row : List PortState) → accepted v row r ≡ accepted s row r
  asks : asked_by_setup v r ≡ asked_by_setup s r

kept_as_before : (bytes : List ℕ) (s v : State) → SetupKept bytes s v
    → AsBefore (setup_of bytes) s v
kept_as_before bytes s v (inl e) = grind arith
kept_as_before bytes s v (inr y) =
    let r : Setup = setup_of bytes in
    let o : Outcome = outcome s.spec s.registers r in
    let again : _ = asked_twice s y.row r in
    grind (arith, begun-twice, register_address, spec_stays)

-- Devices that a request leaves where they are

-- what changes no device but those at the target
abbrev pub LeavesOthers : Target → Relation → Type 0
LeavesOthers t R = (j : Location) (s v : State) → R j s v → is_at s t ≡ false → v ≡ s

module _ (t : Target) (request : Setup) where
  pub spared_wider : (R S : Relation) → ((j : Location) (s v : State) → R j s v → S j s v)
      → (old new : World) → EachSpared t request R old new → EachSpared t request S old new
  spared_wider R S f old new e j s on there x = let was = e j s on there x in search was_then

  -- of a request that resets none it is so of each device
  pub spared_all : (R : Relation) (old new : World) → is_harmless request ≡ true
      → EachSpared t request R old new → EachWas R old new
  spared_all R old new harmless e j s on there = grind (arith, false_true)

  -- a device that has an address now had one before: it was at the target, or is the same
  was_spared : (s v : State) → (is_at s t ≡ false → v ≡ s) → IsSpared t request v
      → IsSpared t request s
  was_spared s v f x h = grind (arith, decided, equal_same)

  pub spared_joined : (R S T : Relation) → LeavesOthers t S
      → ((j : Location) (s u v : State) → R j s u → S j u v → T j s v) → (old mid new : World)
      → EachSpared t request R old mid → EachWas S mid new → EachSpared t request T old new
  spared_joined R S T others f old mid new e g =
      each_if-joined old mid new (search was_spared) f e
      (λ j s on there x. g j s on there)

-- One attempt

-- a device that was just reset has no address
new_at_0 : (x : Option Place) (v : State) → IsNew x → stands x ≡ Some v → address_of v ≡ 0
new_at_0 x v n e = grind (arith, same_Some)

-- the device accepted them in this attempt
pub record AcceptedNow (t : Target) (bytes : List ℕ) (w : World) (j : Location) (s v : State) :
    Type 0 where
  pub holder : HolderIn (setup_attempt t bytes) w
  pub there : holder.spot ≡ j
  pub is : v ≡ accepted s (row_of holder.below) (setup_of bytes)
  pub left : place_on (after (attempt (setup_attempt t bytes)) w).roots j
      ≡ Some (full holder.port v (acted (asked_by_setup s (setup_of bytes)) holder.below))

-- it did or did not, and did where the host got ACK
pub record SetupResult (t : Target) (bytes : List ℕ) (w : World) (j : Location) (s v : State) :
    Type 0 where
  pub others : is_at s t ≡ false → v ≡ s
  same : AsBefore (setup_of bytes) s v
  kept : (v ≡ s) ⊎ AcceptedNow t bytes w j s v
  answered : is_at s t ≡ true → (outcome_in (setup_attempt t bytes) w ≡ Nothing)
      ⊎ ((outcome_in (setup_attempt t bytes) w ≡ Ack) × (s.spec.silent ≡ false)
      × AcceptedNow t bytes w j s v)
  heeds : Listens t j s → damage_in w ≡ None → outcome_in (setup_attempt t bytes) w ≡ Ack

module _ (t : Target) (bytes : List ℕ) (eight : length bytes ≡ 8) (w : World)
    (m : IsMade (setup_attempt t bytes) w) (u : (after (attempt (setup_attempt t bytes)) w).shared
    ≡ false) (j : Location) (v : State)
    (on : reach_on (after (attempt (setup_attempt t bytes)) w).roots j ≡ true)
    (there : state_on (after (attempt (setup_attempt t bytes)) w).roots j ≡ Some v) where
  abbrev a : Attempt
  a = setup_attempt t bytes

  abbrev new : World
  new = after (attempt a) w

  is_setup : IsSetup a bytes
  is_setup = grind arith

  spared_rests : IsSpared t (setup_of bytes) v → resets (attempt a) w (path_to j) ≡ false
  spared_rests x =
      elim (decided (is_harmless (setup_of bytes))) [
        | inl h ↦ quiet_resets (attempt a) w (path_to j) h
        | inr h ↦
            elim (decided (resets (attempt a) w (path_to j))) [
              | inl y ↦ absurd ((x h).1 (new_at_0 (place_on new.roots j) v
                  (search step_new) (grind (arith, state_stands))))
              | inr y ↦ y
            ]
      ]

  unmoved : (s : State) → v ≡ s → (is_at s t ≡ true → outcome_in a w ≡ Nothing)
      → (Listens t j s → damage_in w ≡ None → outcome_in a w ≡ Ack) → SetupResult t bytes w j s v
  unmoved s e n h = grind (arith, kept_as_before)

  -- the device that holds the address, by how the packets came
  module _ (s : State) (at : is_at s t ≡ true) (loud : s.spec.silent ≡ false) (b : PortState)
      (below : Ports) (on_then : reach_on (at_attempt w).roots j ≡ true)
      (stood : place_on (at_attempt w).roots j ≡ Some (full b s below)) where
    abbrev h : HolderIn a w
    h = record {
      made = m;
      single = u;
      found = record {
        spot = j;
        port = b;
        own = s;
        below = below;
        on = on_then;
        stands = stood;
        at = equal_same (address_of s) t.addr at;
      };
    }

    heard_whole : Listens t j s → damage_in w ≡ None → outcome_in a w ≡ Ack
    heard_whole l none = (setup_sound_in a w h loud l.hears none bytes is_setup).outcome

    abbrev made : State
    made = accepted s (row_of below) (setup_of bytes)

    taken : v ≡ made → (outcome_in a w ≡ Nothing) ⊎ (outcome_in a w ≡ Ack)
        → place_on new.roots j ≡ Some (full b made
        (acted (asked_by_setup s (setup_of bytes)) below)) → SetupResult t bytes w j s v
    taken e o l =
        let now : AcceptedNow t bytes w j s v = record {
          holder = h;
          there = refl;
          is = e;
          left = grind arith;
        } in
        record {
          others = λ away. false_true (sym away ∙ at);
          same = kept_as_before bytes s v (grind arith);
          kept = inr now;
          answered = grind arith;
          heeds = heard_whole;
        }

    by_ways : (t1 t2 t3 : Way) → v ≡ (setup_law s (row_of below) bytes t1 t2 t3).1
        → outcome_in a w ≡ got 8 (setup_law s (row_of below) bytes t1 t2 t3).0
        → place_on new.roots j ≡ Some (full b (setup_law s (row_of below) bytes t1 t2 t3).1
        (acted (if is_whole t1 && is_whole t2 then asked_by_setup s (setup_of bytes)
        else Leaves) below)) → SetupResult t bytes w j s v
    by_ways t1 t2 t3 e o l = grind (arith, heard_whole, taken, unmoved)

    of_holder : SetupResult t bytes w j s v
    of_holder =
        let x = setup_in a w h loud bytes is_setup in
        let d = damage_in (at_attempt w) in
        by_ways (token_way a d (deep_at false j.rest) s) (payload_way a d (deep_at false j.rest) s)
        (answer_way a d (at_attempt w).roots) (same_Some v _ (sym there ∙ x.state)) x.outcome
        (setup_place_in a w h loud bytes is_setup)

  on_ready : resets (attempt a) w (path_to j) ≡ false → reach_on (at_attempt w).roots j ≡ true
  unfolding resets
  on_ready rest = made_reach a (at_attempt w) (path_to j) (rw (made_true a w m) at rest)
      (grind (arith, made_is))

  accepts : resets (attempt a) w (path_to j) ≡ false → (s : State) → DidSetup a bytes w j s v
      → SetupResult t bytes w j s v
  accepts rest s (DidSetup.other d e) = grind (arith, false_true, unmoved)
  accepts rest s (DidSetup.silent d q o e) = grind (arith, false_true, unmoved)
  accepts rest s (DidSetup.asked d loud b below stood x o e) = search (of_holder, on_ready)

-- so it is of each device that the attempt does not reset
pub accepting : (t : Target) (bytes : List ℕ) → length bytes ≡ 8 → (w : World)
    → IsMade (setup_attempt t bytes) w → (after (attempt (setup_attempt t bytes)) w).shared ≡ false
    → EachSpared t (setup_of bytes) (SetupResult t bytes w) w
    (after (attempt (setup_attempt t bytes)) w)
accepting t bytes eight w m u j v on there x =
    let rest : _ = spared_rests t bytes eight w m u j v on there x in
    let was : Was (DidSetup (setup_attempt t bytes) bytes w) w j v =
    each_setup (setup_attempt t bytes) w bytes m
    (record { kind = refl; ep = refl; payload = refl; whole = eight }) u j v rest on there in
    was_then was (accepts t bytes eight w m u j v on there rest was.before was.so)

-- The transaction

pub kept_of : {t : Target} {bytes : List ℕ} {old : World} {j : Location} {s v : State} → (v ≡ s)
    ⊎ AcceptedSince t bytes old j s v → SetupKept bytes s v
kept_of kept = grind arith

-- to SETUP nothing is a wait
never_waits : (outcomes : List bus.Outcome) → waits_in set_up_as outcomes ≡ 0
unfolding waits_in
never_waits [] = refl
never_waits (Ack ∷ outcomes) = never_waits outcomes
never_waits (o ∷ outcomes) = never_waits outcomes

module _ (t : Target) (bytes : List ℕ) (old : World) (j : Location) (s : State) where
  abbrev KeptSince : State → Type 0
  KeptSince v = (v ≡ s) ⊎ AcceptedSince t bytes old j s v

  -- one attempt more
  module _ (outcomes : List bus.Outcome) (w : World)
      (r : AttemptLog (setup_attempt t bytes) old outcomes w) (u v : State) (k : KeptSince u) where
    accepted_at : AcceptedNow t bytes w j u v
        → AcceptedAt t bytes old (after (attempt (setup_attempt t bytes)) w) j s v
    accepted_at x =
        let same : AsBefore (setup_of bytes) s u = kept_as_before bytes s u (kept_of k) in
        record {
          outcomes = outcomes;
          mid = w;
          trail = r;
          last = refl;
          holder = x.holder;
          there = x.there;
          is = grind arith;
          left = grind arith;
        }

    kept_more : (v ≡ u) ⊎ AcceptedNow t bytes w j u v → KeptSince v
    kept_more is = grind (arith, accepted_at)

  -- what the answer says of the device that was asked
  abbrev Ends : World → State → Result (List ℕ) TransFault → Type 0
  Ends new v result = ((got : List ℕ) → result ≡ Ok got → AcceptedAt t bytes old new j s v)
      × CanAccept s.spec result

  ends : (outcomes : List bus.Outcome) (w new : World)
      → AttemptLog (setup_attempt t bytes) old outcomes w → (u v : State) → KeptSince u
      → SetupResult t bytes w j u v → is_at s t ≡ true → (result : Result (List ℕ) TransFault)
      → IsEnd set_up_as result (outcome_in (setup_attempt t bytes) w) outcomes
      → ((IsOfBus result → ⊥) → AttemptLeft (setup_attempt t bytes) w new) → Ends new v result
  ends outcomes w new r u v k d at = by (outcome_in (setup_attempt t bytes) w)
      (d.answered (grind arith))
    where
      same : AsBefore (setup_of bytes) s u
      same = kept_as_before bytes s u (kept_of k)

      by : (o : bus.Outcome) → (o ≡ Nothing)
          ⊎ ((o ≡ Ack) × (u.spec.silent ≡ false) × AcceptedNow t bytes w j u v)
          → (result : Result (List ℕ) TransFault) → IsEnd set_up_as result o outcomes
          → ((IsOfBus result → ⊥) → AttemptLeft (setup_attempt t bytes) w new) → Ends new v result
      by o (inl n) (Ok x) end told = grind arith
      by o (inr y) (Ok x) end told = (
        λ got e. subst (λ z. AcceptedAt t bytes old z j s v) (sym (told (λ g. g tt)).1)
            (accepted_at outcomes w r u v k y.2),
        ap (λ z. z.silent) (sym same.spec) ∙ y.1,
      )
      by o (inl n) (Err Stalled) end told = absurd (cc (sym n ∙ end))
      by o (inr y) (Err Stalled) end told = absurd (cc (sym y.0 ∙ end))
      by o h (Err Busy) end told = absurd (omega (arith, end.1, never_waits (o ∷ outcomes)))
      by o h (Err fault) end told = (λ got e. cc e, tt)

  set_up_done : (result : Result (List ℕ) TransFault) (new : World) (v : State)
      → Through (SetupResult t bytes) (setup_attempt t bytes) set_up_as result old new j s v
      → SetupDone t bytes result old new j s v
  set_up_done result new v run =
      let away : (is_at s t ≡ false → v ≡ s) = stays_away t (λ w u x d. d.others) run in
      at_end set_up_as (λ outcomes w u. KeptSince u) (inl refl)
      (λ outcomes w u x r made k d n. kept_more outcomes w r u x k d.kept)
      (SetupDone t bytes result old new j s) v
      (λ outcomes w u r k d end told.
      let all : (is_at s t ≡ true → Ends new v result) =
      λ h. search ends in
      record {
        others = away;
        kept = search kept_more;
        done = λ h. (all h).0;
        could = λ h. (all h).1;
      }) (grind (arith, of_bus)) run

-- setup data that come whole are answered by ACK
pub set_up_told : (t : Target) (bytes : List ℕ) (result : Result (List ℕ) TransFault)
    (old new : World) → length bytes ≡ 8 → IsSettled old.roots
    → Transacted set_up_as (setup_attempt t bytes) old result new → new.shared ≡ false
    → EachSpared t (setup_of bytes)
    (DeviceTold (SetupDone t bytes result old new) (SetupFailure t result) old) old new
set_up_told t bytes result old new eight settled x single =
    spared_wider t (setup_of bytes) _ _
    (λ j s v run. record {
      leaves = search set_up_done;
      why = λ three. record {
        answered = λ l. heeded (Moves set_up_as) result run (Listens t j)
            (grind (arith, listens_at)) l
            three (grind arith);
      };
    }) old new
    (over_transaction {a = setup_attempt t bytes} (record {
      Did = SetupResult t bytes;
      Of = IsSpared t (setup_of bytes);
      back = grind (arith, was_spared);
      does = accepting t bytes eight;
    }) old settled set_up_as new single result x)
