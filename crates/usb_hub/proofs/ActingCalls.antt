-- What the calls at a port ask of ports, and that they act there.
use Rattle.std.proofs.Common.{if◌then◌else◌, arith, ◌≡◌, ℕ, zero, suc, ◌&&◌, ◌⊎◌, inl, inr, Bool}
use Rattle.std.proofs.Common.{true, false, List, [], ◌∷◌, ◌++◌, Option, None, Some, option_map}
use Rattle.std.proofs.Common.{refl, ap, sym, subst, ◌∙◌}
use Rattle.std.proofs.lemmas.Option.{same_Some}
use Rattle.usb_port.specs.{is_attached, PortCall, is_reset, called_port, set_call}
use Rattle.usb_request.specs.{SET_ADDRESS, SET_FEATURE, DEVICE_OUT, PORT_OUT, setup_of, bytes_of}
use Rattle.usb_request.specs.{Setup}
use Rattle.usb_device.specs.{Leaves, Registers, is_whole, effect_of_request, asked_by_setup}
use Rattle.usb_device.specs.{outcome, port_named, called_at, Is, Spec, Ports, ended, vacant, taken}
use Rattle.usb_device.specs.{before, reset_where, called, changed_at, acted, place, place_at}
use Rattle.usb_device.specs.{Location, path_to}
use Rattle.usb_world.specs.{Attempt, is_harmless, resets, step_keeps_pending, IsMade, IsSetup}
use Rattle.usb_world.specs.{HolderIn, setup_asked, token_way, payload_way, AsksNothing}
use Rattle.usb_world.specs.{is_port_request, is_sparing, leaves_step, attempt, root_call, after}
use Rattle.usb_world.specs.{at_attempt, damage_in, World, is_way, NobodyHolds, deep_at}
use Rattle.usb_world.specs.{keeps_pending}
use Rattle.usb_world.proofs.Interface.{holder_or_nobody, nobody_in, others_asked_nothing}
use Rattle.usb_world.proofs.Interface.{self_asked, setup_place_in, silent_place_in, decided}
use Rattle.usb_transfer.specs.{Target, setup_attempt}
use Rattle.usb_hub.proofs.ClaimedHubs.{ClaimedAt, claimed_holder}
use Rattle.usb_hub.proofs.HubPorts.{place_ports}
use Rattle.usb_hub.proofs.UnheldAddresses.{nobody_asks_nothing}
use Rattle.usb_hub.proofs.Steps.{unshared_after}
use Rattle.usb_hub.specs.{ActsAt}

-- Trees

-- what stands below a device, by the number of its port there
pub place_below : (k : Ports) (j : ℕ) (e : List ℕ) (m : ℕ) (r : List ℕ)
    → place_at k j (e ++ (suc m ∷ r)) ≡ place_at (place_ports (place_at k j e)) m r
unfolding place_at
place_below ended j e m r = refl
place_below (vacant b k) zero [] m r = refl
place_below (vacant b k) zero (n ∷ e) m r = refl
place_below (vacant b k) (suc j) e m r = place_below k j e m r
place_below (taken b s a k) zero [] m r = refl
place_below (taken b s a k) zero (zero ∷ e) m r = refl
place_below (taken b s a k) zero (suc i ∷ e) m r = place_below a i e m r
place_below (taken b s a k) (suc j) e m r = place_below k j e m r

pub place_called : (c : PortCall) (k : Ports) (i : ℕ) → place_at (changed_at (called c) k i []) i []
    ≡ option_map (called c) (place_at k i [])
unfolding place_at changed_at
place_called c (vacant b k) (suc i) = place_called c k i
place_called c (taken b s a k) zero = split (is_reset c && (b.power && is_attached b.attached))
  where
    split : (x : Bool) → place_at (before (reset_where x (called_port c b) s a) k) zero []
        ≡ Some (reset_where x (called_port c b) s a)
    split true = refl
    split false = refl
place_called c (taken b s a k) (suc i) = place_called c k i
place_called c _ _ = refl

-- A call at a root port

root_others : (c : PortCall) (n : ℕ) (w : World) (x : List ℕ) → is_way (n ∷ []) x ≡ false
    → AsksNothing (root_call c n) w x
unfolding is_way step_keeps_pending resets leaves_step
root_others c n w x d = grind arith

root_spared : (c : PortCall) (n : ℕ) (w : World) → keeps_pending c [] ≡ true
    → step_keeps_pending (root_call c n) w (n ∷ []) ≡ true
unfolding step_keeps_pending
root_spared c n w h = grind arith

pub root_acted : (c : PortCall) (n : ℕ) (w : World) → place (after (root_call c n) w).roots (n ∷ [])
    ≡ option_map (called c) (place w.roots (n ∷ []))
unfolding after
root_acted c zero w = refl
root_acted c (suc i) w = place_called c w.roots i

pub root_acts : (c : PortCall) (n : ℕ) (w : World) → ActsAt (n ∷ []) c (root_call c n) w
root_acts c n w = record {
  port = inr (root_acted c n w);
  about = search (root_others, root_spared);
}

-- A request for a call at the port of a number

pub record AsksFor (request : Setup) (c : PortCall) (n : ℕ) : Type 0 where
  pub names : request.index ≡ n
  pub nothing : request.length ≡ 0
  pub same : setup_of (bytes_of request) ≡ request
  pub asks : is_port_request request ≡ true
  pub sparing : keeps_pending c [] ≡ true → is_sparing request ≡ true
  pub calls : (spec : Spec) (g : Registers)
      → outcome spec g request ≡ called_at (Some c) (port_named spec.hub g n)
  pub other : Is request DEVICE_OUT SET_ADDRESS ≡ false
  pub harmless : is_reset c ≡ false → is_harmless request ≡ true
  pub sets : Is request PORT_OUT SET_FEATURE ≡ true → set_call request.value ≡ Some c

-- Attempts of it

-- what the hub asks of its port
effect_there : (c : PortCall) (i : ℕ) (below : Ports) (o : Option ℕ) → (o ≡ None) ⊎ (o ≡ Some i)
    → (place_at (acted (effect_of_request (called_at (Some c) o)) below) i [] ≡ place_at below i [])
    ⊎ (place_at (acted (effect_of_request (called_at (Some c) o)) below) i []
    ≡ option_map (called c) (place_at below i []))
effect_there c i below None x = inl refl
effect_there c i below (Some m) (inl x) = absurd cc
effect_there c i below (Some m) (inr x) =
    inr (ap (λ n. place_at (changed_at (called c) below n []) i []) (same_Some m i x)
    ∙ place_called c below i)

module _ (t : Target) (j : Location) (i : ℕ) (request : Setup) (c : PortCall)
    (asked : AsksFor request c (suc i)) where
  abbrev a : Attempt
  a = setup_attempt t (bytes_of request)

  abbrev p : List ℕ
  p = path_to j ++ (suc i ∷ [])

  is : IsSetup a (bytes_of request)
  unfolding bytes_of
  is = grind arith

  index : (setup_of (bytes_of request)).index ≡ suc i
  index = grind arith

  module _ (w : World) (made : IsMade a w) where
    -- nobody heard it
    nobody_acts : NobodyHolds a.addr (at_attempt w).roots → ActsAt p c (attempt a) w
    nobody_acts x = record {
      port = inl (ap (λ k. place k p) (nobody_in a w made x).1);
      about = record {
        others = search nobody_asks_nothing;
        spares = grind (arith, nobody_asks_nothing);
      };
    }

    -- the hub may have
    module _ (holder : HolderIn a w) where
      open holder use {own as s, below}

      -- the port
      abbrev port : List ℕ
      port = path_to holder.spot ++ (suc i ∷ [])

      stood : place (at_attempt w).roots port ≡ place_at below i []
      stood = grind (arith, place_below)

      silent_port : s.spec.silent ≡ true → place (after (attempt a) w).roots port
          ≡ place (at_attempt w).roots port
      silent_port h = grind (arith, place_below, silent_place_in)

      abbrev Called : Ports → Type 0
      Called left = (place_at left i [] ≡ place_at below i [])
          ⊎ (place_at left i [] ≡ option_map (called c) (place_at below i []))

      request_there : Called (acted (asked_by_setup s (setup_of (bytes_of request))) below)
      request_there = grind (arith, effect_there)

      asked_there : Called (acted (setup_asked a (damage_in (at_attempt w))
          (deep_at false holder.spot.rest) s (bytes_of request)) below)
      asked_there = split (is_whole (token_way a (damage_in (at_attempt w))
          (deep_at false holder.spot.rest) s) &&
          is_whole (payload_way a (damage_in (at_attempt w)) (deep_at false holder.spot.rest) s))
        where
          split : (x : Bool) → Called (acted
              (if x then asked_by_setup s (setup_of (bytes_of request)) else Leaves) below)
          split true = request_there
          split false = inl refl

      abbrev Acted : Type 0
      Acted = (place (after (attempt a) w).roots port ≡ place (at_attempt w).roots port)
          ⊎ (place (after (attempt a) w).roots port
          ≡ option_map (called c) (place (at_attempt w).roots port))

      loud_port : s.spec.silent ≡ false → Acted
      loud_port h = elim asked_there [
        | inl x ↦ inl (left ∙ x ∙ sym stood)
        | inr x ↦ inr (left ∙ x ∙ ap (option_map (called c)) (sym stood))
      ]
        where
          left : place (after (attempt a) w).roots port
              ≡ place_at (acted (setup_asked a (damage_in (at_attempt w))
              (deep_at false holder.spot.rest) s (bytes_of request)) below) i []
          left = place_below (after (attempt a) w).roots holder.spot.row holder.spot.rest i []
              ∙ ap (λ o. place_at (place_ports o) i [])
              (setup_place_in a w holder h (bytes_of request) is)

      port_acted : Acted
      port_acted = elim (decided s.spec.silent)
          [ inl h ↦ inl (silent_port h) | inr h ↦ loud_port h ]

      hub_acts : ActsAt port c (attempt a) w
      hub_acts = record {
        port = port_acted;
        about = record {
          others = λ x d. others_asked_nothing a w holder (bytes_of request) is (suc i) index
              (grind arith) x d;
          spares = grind (arith, is, self_asked);
        };
      }

    pub attempt_acts : ClaimedAt (path_to j) t.addr w → ActsAt p c (attempt a) w
    attempt_acts claimed =
        elim (holder_or_nobody a w made (unshared_after claimed.claims a w claimed.owned)) [
          | inl x ↦ subst (λ q. ActsAt (q ++ (suc i ∷ [])) c (attempt a) w)
              (claimed_holder (path_to j) t.addr w claimed a refl x) (hub_acts x)
          | inr x ↦ nobody_acts x
        ]
