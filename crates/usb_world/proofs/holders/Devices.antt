-- One device over attempts: what it was before, seen from where it is reachable now.
use Rattle.std.proofs.Common.{◌≡◌, ℕ, true, false, List, Option, Some, option_map, sym, ap, ap₂}
use Rattle.std.proofs.Common.{◌∙◌, arith, ◌==◌, ◌&&◌, ◌⊎◌, inl, inr, Bool, None, is_some, subst}
use Rattle.std.proofs.lemmas.Option.{same_Some}
use Rattle.usb_device.specs.{State, Ports, reach_at, state_at, Location, path_to, reach_on}
use Rattle.usb_device.specs.{state_on, held_addresses, repeats, Reply, Way}
use Rattle.usb_world.specs.{Attempt, Damage, ports_in, World, at_attempt, with_attempt, attempt}
use Rattle.usb_world.specs.{after, IsMade, HolderIn, is_setup, damage_in, made_resets, resets}
use Rattle.usb_world.specs.{token_way, payload_way, answer_way, IsSetup, IsOut, IsIn, hears_attempt}
use Rattle.usb_world.specs.{Relation, Was, EachWas, Ways, DidIn, DidOut, DidSetup, address_of}
use Rattle.usb_world.specs.{same_number, same_path, reset_if, deep_at, NobodyHolds}
use Rattle.usb_world.proofs.addresses.AddressesKept.{data_calm, ready_stood}
use Rattle.usb_world.proofs.packets.Packets.{forgotten_ports, stands, state_stands}
use Rattle.usb_world.proofs.courses.Courses.{made_reach}
use Rattle.usb_world.proofs.TreeHolders.{is_twice-one_path}
use Rattle.usb_world.proofs.Booleans.{both, decided}
use Rattle.usb_world.proofs.Equality.{same_equal, swapped}
use Rattle.usb_world.proofs.holders.OneHolder.{acts, Holder, holder_holds}
use Rattle.usb_world.proofs.holders.OneHolderAttempts.{made_is, holder_in, ready_settled, made_true}
use Rattle.usb_world.proofs.holders.OneHolderAttempts.{nobody_in, silent_in, others_in, setup_in}
use Rattle.usb_world.proofs.holders.OneHolderAttempts.{out_in, ExchangedIn, AllWhole, undamaged}
use Rattle.usb_world.proofs.holders.OneHolderAttempts.{damage_ready, in_gone_in, reply_gone}
use Rattle.usb_world.proofs.holders.OneHolderAttempts.{gone_whole, holder_or_nobody}
use Rattle.usb_packet.specs.{Toggle}
use Rattle.usb_world.proofs.ways.Ways.{same_number-is, same_is}
use Rattle.usb_world.proofs.holders.OneDevice.{other_address, reach-full, full_state}

-- Devices that are reachable after an attempt, or the events before it: the one that holds its
-- address still is, and each was before.

-- forgetting what is remembered changes no port
stays_reachable : (a : Attempt) (d : Option Damage) (k : Ports) (h : Holder a.addr k)
    → reach_on (ports_in a d k) h.spot ≡ true
unfolding ports_in
stays_reachable a d k h =
    (forgotten_ports _ h.spot.row h.spot.rest).0
    ∙ (acts a d k h).on

pub stays_reachable_in : (a : Attempt) (w : World) (h : HolderIn a w)
    → reach_on (after (attempt a) w).roots h.spot ≡ true
unfolding with_attempt
stays_reachable_in a w h =
    ap (λ v. reach_on v.roots h.spot) (made_is a w h.made)
    ∙ stays_reachable a _ (at_attempt w).roots (holder_in a w h)

-- before the events that were due
pub due_back : (w : World) (j : Location) → reach_on (at_attempt w).roots j ≡ true
    → (reach_on w.roots j ≡ true) × (state_on (at_attempt w).roots j ≡ state_on w.roots j)
due_back w j = ready_stood w (path_to j)

-- before IN and OUT
pub data_back : (a : Attempt) (w : World) → IsMade a w → is_setup a.kind ≡ false → (j : Location)
    → reach_on (after (attempt a) w).roots j ≡ true → reach_on (at_attempt w).roots j ≡ true
data_back a w m kind j on =
    made_reach a (at_attempt w) (path_to j)
    (data_calm a _ (at_attempt w).roots (ready_settled w m.settled)
    kind j.row j.rest) (ap (λ x. reach_on x.roots j) (sym (made_is a w m)) ∙ on)

-- where no address is held twice, two reachable devices at one address are one
pub one_state : (n : ℕ) (k : Ports) (i j : ℕ) (e p : List ℕ) (u s : State)
    → repeats (held_addresses k) ≡ false → reach_at k i e ≡ true → state_at k i e ≡ Some u
    → address_of u ≡ n → reach_at k j p ≡ true → state_at k j p ≡ Some s → address_of s ≡ n → s ≡ u
one_state n k i j e p u s single on there at on2 there2 at2 =
    let x : _ = is_twice-one_path k i e j p n single on (ap (option_map address_of) there
    ∙ ap (λ y. Some y) at) on2 (ap (option_map address_of) there2 ∙ ap (λ y. Some y) at2) in
    same_Some s u (sym there2 ∙ sym (ap₂ (state_at k) x.0 x.1) ∙ there)

-- One device over attempts: what it was before, seen from where it is reachable now.

-- Over courses

pub each_none : (R : Relation) → ((j : Location) (s : State) → R j s s) → (w : World)
    → EachWas R w w
each_none R f w j s on there = record { before = s; on = on; stands = there; so = f j s }

pub each_joined : (R S T : Relation) → ((j : Location) (s u v : State) → R j s u → S j u v
    → T j s v) → (old mid new : World) → EachWas R old mid → EachWas S mid new → EachWas T old new
each_joined R S T f old mid new x y j s on there =
    let later : Was S mid j s = y j s on there in
    let sooner : Was R old j later.before = x j later.before later.on later.stands in
    record {
      before = sooner.before;
      on = sooner.on;
      stands = sooner.stands;
      so = f j sooner.before later.before s sooner.so later.so;
    }

pub each_wider : (R S : Relation) → ((j : Location) (s v : State) → R j s v → S j s v)
    → (old new : World) → EachWas R old new → EachWas S old new
each_wider R S f old new x j s on there =
    let was : Was R old j s = x j s on there in
    record { before = was.before; on = was.on; stands = was.stands; so = f j was.before s was.so }

-- with what else is so where a premise is
pub each_beside : (R S T : Relation) (P : Type 0)
    → ((j : Location) (s v : State) → R j s v → (P → S j s v) → T j s v) → (old new : World)
    → EachWas R old new → (P → EachWas S old new) → EachWas T old new
each_beside R S T P f old new x y j v on there =
    let was : Was R old j v = x j v on there in
    let other : P → S j was.before v = λ h. (let it : Was S old j v = y h j v on there in
    subst (λ d. S j d v) (same_Some it.before was.before (sym it.stands ∙ was.stands)) it.so)
    in
    record {
      before = was.before;
      on = was.on;
      stands = was.stands;
      so = f j was.before v was.so other;
    }

-- two relations of the same device
pub each_both : (R S : Relation) (old new : World) → EachWas R old new → EachWas S old new
    → EachWas (λ j s v. R j s v × S j s v) old new
each_both R S old new x y = each_beside R S (λ j s v. R j s v × S j s v) (Unit {0})
    (λ j s v r c. (r, c tt)) old new x (λ u. y)

-- A reachable device stands

reset_if-no : (b : Bool) (s : State) → b ≡ false → Some (reset_if b s) ≡ Some s
reset_if-no b s h = grind arith

-- two spots whose numbers and paths are the same
is_spot : (x y : Location) → (same_number x.row y.row && same_path x.rest y.rest) ≡ true → y ≡ x
is_spot x y h =
    let both_same : _ = both (same_number x.row y.row) _ h in
    ap₂ (λ i e. record { row = i; rest = e }) (same_number-is x.row y.row both_same.0)
    (same_is x.rest y.rest both_same.1)

-- An attempt that is made, at a place that it does not reset

module _ (a : Attempt) (w : World) (m : IsMade a w) (u : (after (attempt a) w).shared ≡ false)
    (j : Location) (v : State)
    (rest : resets (attempt a) w (path_to j) ≡ false) (on : reach_on (after (attempt a) w).roots j
    ≡ true) (there : state_on (after (attempt a) w).roots j ≡ Some v) where
  rest_made : made_resets a (at_attempt w) (path_to j) ≡ false
  unfolding resets
  rest_made = grind (arith, made_true)

  on_ready : reach_on (at_attempt w).roots j ≡ true
  on_ready = made_reach a (at_attempt w) (path_to j) rest_made
      (ap (λ x. reach_on x.roots j) (sym (made_is a w m)) ∙ on)

  was_so : (reach_on w.roots j ≡ true) × (state_on (at_attempt w).roots j ≡ state_on w.roots j)
  was_so = ready_stood w (path_to j) on_ready

  -- what is so of a device that does not hold the address, and of the one that does
  module _ (R : Relation) (other : (s : State) → (address_of s == a.addr) ≡ false → v ≡ s → R j s v)
      (itself : (h : HolderIn a w) → state_on (after (attempt a) w).roots h.spot ≡ Some v
      → R h.spot h.own v) where
    was_of : (s : State) → state_on (at_attempt w).roots j ≡ Some s → R j s v → Was R w j v
    was_of s e x = record { before = s; on = was_so.0; stands = sym was_so.1 ∙ e; so = x }

    of_nobody : NobodyHolds a.addr (at_attempt w).roots → (s : State)
        → state_on (at_attempt w).roots j ≡ Some s → R j s v
    of_nobody n s e =
        other s (swapped a.addr (address_of s) (n j.row j.rest s e on_ready))
        (same_Some v s (sym there ∙ ap (λ k. state_on k j) (nobody_in a w m n).1 ∙ e))

    of_other : (h : HolderIn a w) → (same_number j.row h.spot.row && same_path j.rest h.spot.rest)
        ≡ false → (s : State) → state_on (at_attempt w).roots j ≡ Some s → R j s v
    of_other h d s e =
        other s (swapped a.addr (address_of s) (other_address a.addr (at_attempt w).roots h.spot.row
        h.spot.rest (holder_holds a.addr (at_attempt w).roots (holder_in a w h)) j.row
        j.rest s d e on_ready))
        (same_Some v s (sym there ∙ others_in a w h j.row j.rest s d e
        ∙ reset_if-no _ s rest))

    of_itself : (h : HolderIn a w) → h.spot ≡ j → (s : State) → state_on (at_attempt w).roots j
        ≡ Some s → R j s v
    of_itself h x s e =
        subst (λ t. R j t v) (same_Some h.own s (ap stands (sym h.stands)
        ∙ state_stands _ h.spot.row h.spot.rest
        ∙ ap (state_on _) x ∙ e))
        (subst (λ i. R i h.own v) x (itself h (ap (state_on _) x
        ∙ there)))

    of_holder : (h : HolderIn a w) → (s : State) → state_on (at_attempt w).roots j ≡ Some s
        → R j s v
    of_holder h s e =
        elim (decided (same_number j.row h.spot.row && same_path j.rest h.spot.rest)) [
          | inl y ↦ of_itself h (is_spot j h.spot y) s e
          | inr y ↦ of_other h y s e
        ]

    of_any : HolderIn a w ⊎ NobodyHolds a.addr (at_attempt w).roots → (s : State)
        → state_on (at_attempt w).roots j ≡ Some s → R j s v
    of_any h = grind (arith, of_holder, of_nobody)

    at_place : Was R w j v
    at_place =
        let x : _ = reach-full (at_attempt w).roots j.row j.rest on_ready in
        let e : _ = full_state (at_attempt w).roots j.row j.rest x in
        was_of x.own e (of_any (holder_or_nobody a w m u) x.own e)

-- the device that holds the address
module _ (a : Attempt) (w : World) (h : HolderIn a w) (v : State)
    (there : state_on (after (attempt a) w).roots h.spot ≡ Some v) where
  open h use {spot, port as b, own as s, below}

  abbrev deep : Bool
  deep = deep_at false spot.rest

  abbrev token : Way
  token = token_way a (damage_in (at_attempt w)) deep s

  abbrev payload : Way
  payload = payload_way a (damage_in (at_attempt w)) deep s

  abbrev answer : Way
  answer = answer_way a (damage_in (at_attempt w)) (at_attempt w).roots

  its_own : (address_of s == a.addr) ≡ true
  its_own = same_equal (address_of s) a.addr h.at

  then_is : (r : Reply) → ExchangedIn a w h r → v ≡ r.1
  then_is r x = same_Some v r.1 (sym there ∙ x.state)

  -- without damage each packet comes whole, where the device hears it
  undamaged_ways : damage_in w ≡ None → hears_attempt a deep s ≡ true
      → AllWhole a (damage_in (at_attempt w)) (at_attempt w).roots deep s
  undamaged_ways n g = subst (λ d. AllWhole a d (at_attempt w).roots deep s)
      (sym (damage_ready w ∙ n)) (undamaged a _ deep s g)

  abbrev in_ways : IsIn a → Ways a w spot s
  in_ways i = record {
    first = token;
    second = answer;
    third = reply_gone a (damage_in (at_attempt w)) (at_attempt w).roots (holder_in a w h) i;
    heard = λ n g. let x : _ = undamaged_ways n g in
        (x.token, x.answer, gone_whole a _ _ (holder_in a w h) i x);
  }

  abbrev sent_ways : is_some a.payload ≡ true → Ways a w spot s
  sent_ways sends = record {
    first = token;
    second = payload;
    third = answer;
    heard = λ n g. let x : _ = undamaged_ways n g in (x.token, x.payload sends, x.answer);
  }

  did_in : IsIn a → DidIn a w spot s v
  did_in i = elim (decided s.spec.silent) [
    | inl y ↦ let x : _ = silent_in a w h y in DidIn.silent its_own y x.outcome (then_is _ x)
    | inr y ↦
        let x : _ = in_gone_in a w h y i in
        DidIn.asked its_own y b below h.stands (in_ways i) x.outcome (then_is _ x)
  ]

  did_out : (t : Toggle) (bytes : List ℕ) → IsOut a t bytes → DidOut a t bytes w spot s v
  did_out t bytes i = elim (decided s.spec.silent) [
    | inl y ↦ let x : _ = silent_in a w h y in DidOut.silent its_own y x.outcome (then_is _ x)
    | inr y ↦
        let x : _ = out_in a w h y t bytes i in
        DidOut.asked its_own y (sent_ways (ap is_some i.payload)) x.outcome (then_is _ x)
  ]

  did_setup : (bytes : List ℕ) → IsSetup a bytes → DidSetup a bytes w spot s v
  did_setup bytes i = elim (decided s.spec.silent) [
    | inl y ↦ let x : _ = silent_in a w h y in DidSetup.silent its_own y x.outcome (then_is _ x)
    | inr y ↦
        let x : _ = setup_in a w h y bytes i in
        DidSetup.asked its_own y b below h.stands (sent_ways (ap is_some i.payload)) x.outcome
        (then_is _ x)
  ]

-- The three kinds

-- IN and OUT reset nothing
data_resets_none : (a : Attempt) (w : World) → IsMade a w → is_setup a.kind ≡ false → (j : Location)
    → resets (attempt a) w (path_to j) ≡ false
unfolding resets
data_resets_none a w m kind j = grind (arith, data_calm, made_true, ready_settled)

pub each_holder : (a : Attempt) (w : World) → IsMade a w → is_setup a.kind ≡ false
    → (after (attempt a) w).shared ≡ false → (R : Relation)
    → ((j : Location) (s v : State) → (address_of s == a.addr) ≡ false → v ≡ s → R j s v)
    → ((h : HolderIn a w) (v : State) → state_on (after (attempt a) w).roots h.spot ≡ Some v
    → R h.spot h.own v) → EachWas R w (after (attempt a) w)
each_holder a w m kind u R other itself = grind (arith, at_place, data_resets_none)

pub each_in : (a : Attempt) (w : World) → IsMade a w → IsIn a → (after (attempt a) w).shared ≡ false
    → EachWas (DidIn a w) w (after (attempt a) w)
each_in a w m i u = each_holder a w m (ap is_setup i.kind) u (DidIn a w)
    (λ j s v d e. DidIn.other d e) (λ h v at. did_in a w h v at i)

pub each_out : (a : Attempt) (w : World) (t : Toggle) (bytes : List ℕ) → IsMade a w
    → IsOut a t bytes → (after (attempt a) w).shared ≡ false
    → EachWas (DidOut a t bytes w) w (after (attempt a) w)
each_out a w t bytes m i u = each_holder a w m (ap is_setup i.kind) u (DidOut a t bytes w)
    (λ j s v d e. DidOut.other d e) (λ h v at. did_out a w h v at t bytes i)

-- setup data may reset a device; of a place that they do not reset
pub each_setup : (a : Attempt) (w : World) (bytes : List ℕ) → IsMade a w → IsSetup a bytes
    → (after (attempt a) w).shared ≡ false
    → (j : Location) (v : State) → resets (attempt a) w (path_to j) ≡ false
    → reach_on (after (attempt a) w).roots j ≡ true → state_on (after (attempt a) w).roots j
    ≡ Some v → Was (DidSetup a bytes w) w j v
each_setup a w bytes m i u j v rest on there =
    at_place a w m u j v rest on there (DidSetup a bytes w)
    (λ s d e. DidSetup.other d e) (λ h at. did_setup a w h v at bytes i)
