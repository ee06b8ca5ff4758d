-- What one attempt leaves of addresses.
use Rattle.std.proofs.Common.{◌≡◌, ℕ, ◌&&◌, if◌then◌else◌, inr, Bool, true, false, List, Option}
use Rattle.std.proofs.Common.{None, Some, Err, refl, ap, sym, subst, ◌∙◌}
use Rattle.usb_packet.specs.{Toggle}
use Rattle.usb_request.specs.{setup_of}
use Rattle.usb_device.specs.{Way, is_whole, heard, outcome, State, Reply, accepted, row_of}
use Rattle.usb_device.specs.{Location, path_to, reach_on, state_on}
use Rattle.usb_device.specs.declared.answer.Answer.TheVariants as answer
use Rattle.usb_world.specs.{Attempt, BusFault, Limit, Memory, Failed, World, Made, at_attempt}
use Rattle.usb_world.specs.{attempt, after, outcome_in, here, step, AttemptFails, resets, is_quiet}
use Rattle.usb_world.specs.{IsSetup, IsOut, IsIn, IsMade, got, Was, DidIn, DidOut, DidSetup}
use Rattle.usb_world.specs.{is_setup, NoneTakes, address_of, IsSettled}
use Rattle.usb_world.specs.declared.types.Outcome.TheVariants.{Ack}
use Rattle.usb_world.proofs.Interface.{course_keeps, due_back, each_in, each_out, each_setup}
use Rattle.usb_world.proofs.Interface.{given_up_shared, settled_after, step_own, step_unshared}
use Rattle.usb_world.proofs.Interface.{equal_same, false_true, same_equal}
use Rattle.usb_hub.specs.Aims.{Aims}
use Rattle.usb_hub.specs.{AllAim, TakesOnly, Never, MapHolds}
use Rattle.usb_hub.proofs.Stages.{none_takes, in_keeps, out_keeps}
use Rattle.usb_hub.proofs.AddressRequests.{first_aims}

-- Events that are due

pub aim_ready : (Q : ℕ → Type 0) (n : ℕ) (w : World) → AllAim Q n w → AllAim Q n (at_attempt w)
aim_ready Q n w h i s on there at =
    let was : _ = due_back w i on in h i s was.0 (sym was.1 ∙ there) at

none_ready : (n : ℕ) (w : World) → AllAim Never n w → NoneTakes n (at_attempt w).roots
none_ready n w h i e s on there at =
    none_takes s.stage (aim_ready Never n w h (record { row = i; rest = e }) s on there at)

-- IN and OUT

module _ (Q : ℕ → Type 0) where
  in_place : (a : Attempt) (w : World) (i : Location) (s v : State) → DidIn a w i s v
      → Aims Q s.stage → Aims Q v.stage
  in_place a w i s v (DidIn.other d same) h = subst (λ x. Aims Q x.stage) (sym same) h
  in_place a w i s v (DidIn.silent d q o same) h = subst (λ x. Aims Q x.stage) (sym same) h
  in_place a w i s v (DidIn.asked d q b below p x o same) h =
      subst (λ x. Aims Q x.stage) (sym same)
      (in_keeps Q s (row_of below) a.ep a.max x.first x.second x.third h)

  out_place : (a : Attempt) (t : Toggle) (bytes : List ℕ) (w : World) (i : Location) (s v : State)
      → DidOut a t bytes w i s v → Aims Q s.stage → Aims Q v.stage
  out_place a t bytes w i s v (DidOut.other d same) h = subst (λ x. Aims Q x.stage) (sym same) h
  out_place a t bytes w i s v (DidOut.silent d q o same) h =
      subst (λ x. Aims Q x.stage) (sym same) h
  out_place a t bytes w i s v (DidOut.asked d q x o same) h =
      subst (λ x. Aims Q x.stage) (sym same) (out_keeps Q s a.ep t bytes x.first x.second x.third h)

  in_at : (a : Attempt) (w : World) (i : Location) (s v : State) → DidIn a w i s v
      → address_of v ≡ a.addr → address_of s ≡ a.addr
  in_at a w i s v (DidIn.other d same) h = ap address_of (sym same) ∙ h
  in_at a w i s v (DidIn.silent d q o same) h = equal_same (address_of s) a.addr d
  in_at a w i s v (DidIn.asked d q b below p x o same) h = equal_same (address_of s) a.addr d

  out_at : (a : Attempt) (t : Toggle) (bytes : List ℕ) (w : World) (i : Location) (s v : State)
      → DidOut a t bytes w i s v → address_of v ≡ a.addr → address_of s ≡ a.addr
  out_at a t bytes w i s v (DidOut.other d same) h = ap address_of (sym same) ∙ h
  out_at a t bytes w i s v (DidOut.silent d q o same) h = equal_same (address_of s) a.addr d
  out_at a t bytes w i s v (DidOut.asked d q x o same) h = equal_same (address_of s) a.addr d

  pub in_aims : (a : Attempt) (w : World) → IsMade a w → IsIn a → (after (attempt a) w).shared
      ≡ false → AllAim Q a.addr w → AllAim Q a.addr (after (attempt a) w)
  in_aims a w m is u h i v on there at =
      let x : Was (DidIn a w) w i v = each_in a w m is u i v on there in
      in_place a w i x.before v x.so (h i x.before x.on x.stands (in_at a w i x.before v x.so at))

  pub out_aims : (a : Attempt) (t : Toggle) (bytes : List ℕ) (w : World) → IsMade a w
      → IsOut a t bytes → (after (attempt a) w).shared ≡ false → AllAim Q a.addr w
      → AllAim Q a.addr (after (attempt a) w)
  out_aims a t bytes w m is u h i v on there at =
      let x : Was (DidOut a t bytes w) w i v = each_out a w t bytes m is u i v on there in
      out_place a t bytes w i x.before v x.so
      (h i x.before x.on x.stands (out_at a t bytes w i x.before v x.so at))

  -- setup data that were acknowledged

  abbrev taken_or : Bool → Reply → Reply → Reply
  taken_or c x y = if c then x else y

  unheard : (a : Attempt) (way : Way) (c : Bool) (s v : State)
      → got a.max (taken_or c (heard way (Some answer.Ack), v) (None, s)).0 ≡ Ack → c ≡ true
  unheard a way true s v h = refl
  unheard a way false s v h = cc

  then_is : (c : Bool) (x y : Reply) → c ≡ true → (taken_or c x y).1 ≡ x.1
  then_is true x y h = refl
  then_is false x y h = false_true h

  set_up_place : (a : Attempt) (bytes : List ℕ) (w : World) (i : Location) (s v : State)
      → ((s : State) → TakesOnly Q (outcome s.spec s.registers (setup_of bytes)))
      → DidSetup a bytes w i s v → outcome_in a w ≡ Ack → address_of v ≡ a.addr → Aims Q v.stage
  set_up_place a bytes w i s v c (DidSetup.other d same) h at =
      false_true (sym d ∙ same_equal (address_of s) a.addr (ap address_of (sym same) ∙ at))
  set_up_place a bytes w i s v c (DidSetup.silent d q o same) h at = absurd (cc (o, h))
  set_up_place a bytes w i s v c (DidSetup.asked d q b below p x o same) h at =
      subst (λ x. Aims Q x.stage)
      (sym (same ∙ then_is (is_whole x.first && is_whole x.second) (
        heard x.third (Some answer.Ack),
        accepted s (row_of below) (setup_of bytes),
      ) (None, s)
      (unheard a x.third (is_whole x.first && is_whole x.second) s
      (accepted s (row_of below) (setup_of bytes)) (sym o ∙ h))))
      (first_aims Q (row_of below) s (setup_of bytes).length
      (outcome s.spec s.registers (setup_of bytes)) (c s))

  pub set_up_aims : (a : Attempt) (bytes : List ℕ) (w : World) → IsMade a w → IsSetup a bytes
      → (after (attempt a) w).shared ≡ false
      → ((s : State) → TakesOnly Q (outcome s.spec s.registers (setup_of bytes)))
      → outcome_in a w ≡ Ack → (i : Location) (v : State) → resets (attempt a) w (path_to i) ≡ false
      → reach_on (after (attempt a) w).roots i ≡ true → state_on (after (attempt a) w).roots i
      ≡ Some v → address_of v ≡ a.addr → Aims Q v.stage
  set_up_aims a bytes w m is u c h i v rest on there at =
      let x : Was (DidSetup a bytes w) w i v = each_setup a w bytes m is u i v rest on there in
      set_up_place a bytes w i x.before v c x.so h at

-- Addresses

-- an attempt leaves the ports settled, whether it is made or not
pub settled_attempt : (a : Attempt) (w : World) → IsSettled w.roots
    → IsSettled (after (attempt a) w).roots
settled_attempt a w = settled_after (attempt a) w

pub unshared_after : (f : List ℕ → Option ℕ) (a : Attempt) (w : World) → MapHolds f w
    → (after (attempt a) w).shared ≡ false
unshared_after f a w o = step_unshared f o.distinct (attempt a) w o.own o.single

pub data_owned : (f : List ℕ → Option ℕ) (a : Attempt) (w : World) → is_setup a.kind ≡ false
    → MapHolds f w → AllAim Never a.addr w → MapHolds f (after (attempt a) w)
data_owned f a w kind o h =
    let x : _ = course_keeps f o.distinct (step (attempt a) (inr (kind, none_ready a.addr w h))
    (here (after (attempt a) w))) o.settled o.own o.single in
    record { distinct = o.distinct; own = x.0; single = x.1; settled = x.2 }

pub quiet_owned : (f : List ℕ → Option ℕ) (a : Attempt) (w : World) → is_quiet (attempt a) ≡ true
    → Made w (after (attempt a) w) → MapHolds f w → MapHolds f (after (attempt a) w)
quiet_owned f a w q made o = record {
  distinct = o.distinct;
  own = step_own f (attempt a) w q o.own;
  single = unshared_after f a w o;
  settled = settled_attempt a w o.settled;
}

-- An attempt that the bus gave up: no address was held twice at it

pub fails_unshared : (f : List ℕ → Option ℕ) (a : Attempt) (w v : World) (fault : BusFault)
    → MapHolds f w → AttemptFails a w (Err fault) v → v.shared ≡ false
fails_unshared f a w v Limit o h = ap (λ x. x.shared) h ∙ unshared_after f a w o
fails_unshared f a w v Memory o h = given_up_shared a w v Memory h f o.distinct o.own o.single
fails_unshared f a w v Failed o h =
    given_up_shared a w v Failed h f o.distinct o.own o.single
