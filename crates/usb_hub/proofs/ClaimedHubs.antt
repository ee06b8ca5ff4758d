-- Who holds the target's address at each attempt of a request about a hub's port: the device at the
-- path that claims it, or nobody.
use Rattle.std.proofs.Common.{◌≡◌, ℕ, ◌⊎◌, inl, inr, true, false, List, [], ◌∷◌, ◌++◌, None, Some}
use Rattle.std.proofs.Common.{option_map, if◌then◌else◌, refl, ap, sym, ◌∙◌}
use Rattle.usb_request.specs.{SET_ADDRESS, DEVICE_OUT, setup_of, bytes_of, Setup}
use Rattle.usb_device.specs.{Is, State, Location, path_to, reach_on, state_on}
use Rattle.usb_world.specs.{Attempt, Outcome, after_reset, is_harmless, HolderIn, Step, at_attempt}
use Rattle.usb_world.specs.{attempt, after, Course, here, World, Made, address_of, same_path}
use Rattle.usb_world.specs.{is_way}
use Rattle.usb_world.proofs.Interface.{course_then, ready_own, same_is, stands, state_stands}
use Rattle.usb_world.proofs.Interface.{false_true}
use Rattle.usb_transfer.specs.{Target, AttemptLog, start, next, setup_attempt}
use Rattle.usb_hub.specs.{AddressMap, MapHolds}
use Rattle.usb_hub.proofs.AddressPorts.{not_way}
use Rattle.usb_hub.proofs.PortResets.{Fits, Resets, step_on, is_way-same_path}
use Rattle.usb_hub.proofs.Steps.{quiet_owned}

-- a path claims an address
pub record ClaimedAt (q : List ℕ) (address : ℕ) (w : World) : Type 0 where
  pub claims : AddressMap
  pub owned : MapHolds claims w
  pub held : claims q ≡ Some address

module _ (q : List ℕ) (address : ℕ) (w : World) (c : ClaimedAt q address w) where
  -- so a device that is reached and has it is there
  pub claimed_path : (j : Location) (s : State) → reach_on w.roots j ≡ true
      → state_on w.roots j ≡ Some s → address_of s ≡ address → path_to j ≡ q
  claimed_path j s on there at =
      same_is q (path_to j)
      (c.owned.distinct q (path_to j) address c.held (sym (c.owned.own (path_to j) on)
      ∙ ap (option_map address_of) there ∙ ap (λ n. Some n) at))

  -- also when the events that are due have come
  pub claimed_holder : (a : Attempt) → a.addr ≡ address → (x : HolderIn a w) → path_to x.spot ≡ q
  claimed_holder a is x =
      same_is q (path_to x.spot)
      (c.owned.distinct q (path_to x.spot) address c.held
      (sym (ready_own c.claims w c.owned.own (path_to x.spot) x.on)
      ∙ ap (option_map address_of) there ∙ ap (λ n. Some n) (x.at ∙ is)))
    where
      there : state_on (at_attempt w).roots x.spot ≡ Some x.own
      there = sym (state_stands (at_attempt w).roots x.spot.row x.spot.rest) ∙ ap stands x.stands

-- what is so at each attempt, and says who holds the address
pub record KeepsClaim (t : Target) (request : Setup) (q : List ℕ) (P : World → Type 0) : Type 0
  where
    pub claimed : (w : World) → P w → ClaimedAt q t.addr w
    pub onward : (w : World) → Made w (after (attempt (setup_attempt t (bytes_of request))) w) → P w
        → P (after (attempt (setup_attempt t (bytes_of request))) w)

pub trail_with : (P : World → Type 0) {K : Step → World → Type 0} {a : Attempt} {old new : World}
    {outcomes : List Outcome}
    → ((w : World) → Made w (after (attempt a) w) → P w → P (after (attempt a) w))
    → ((w : World) → Made w (after (attempt a) w) → P w → K (attempt a) w)
    → AttemptLog a old outcomes new → P old → P new × Course K old new
trail_with P {old} onward each start p = (p, here old)
trail_with P {a} onward each (next w t made) p =
    let x : _ = trail_with P onward each t p in
    (onward w made x.0, course_then (attempt a) x.1 (each w made x.0))

module _ (t : Target) (request : Setup) (same : setup_of (bytes_of request) ≡ request)
    (f : AddressMap) where
  -- a request that resets nothing
  pub quiet_follows : (q : List ℕ) → is_harmless request ≡ true → f q ≡ Some t.addr
      → KeepsClaim t request q (MapHolds f)
  quiet_follows q harmless held = record {
    claimed = λ w o. record { claims = f; owned = o; held = held };
    onward = λ w made o. quiet_owned f (setup_attempt t (bytes_of request)) w (ap is_harmless same
        ∙ harmless) made o;
  }

  -- PORT_RESET of the hub's own port, where address 0 is claimed there and below it alone
  module _ (q : List ℕ) (n : ℕ) (names : request.index ≡ n)
      (other : Is request DEVICE_OUT SET_ADDRESS ≡ false) (held : f q ≡ Some t.addr)
      (distinct : (x : List ℕ) → f x ≡ Some t.addr → x ≡ q)
      (only : (x : List ℕ) → f x ≡ Some 0 → is_way (q ++ (n ∷ [])) x ≡ true) where
    pub some : t.addr ≡ 0 → ⊥
    some e = false_true (sym (not_way q n) ∙ only q (held ∙ ap (λ a. Some a) e))

    still_held : after_reset f (q ++ (n ∷ [])) q ≡ Some t.addr
    still_held = split (same_path (q ++ (n ∷ [])) q) refl
      where
        split : (b : _) → same_path (q ++ (n ∷ [])) q ≡ b
            → (if b then Some 0 else if is_way (q ++ (n ∷ [])) q then None else f q) ≡ Some t.addr
        split true e = false_true (sym (not_way q n) ∙ is_way-same_path (q ++ (n ∷ [])) q e)
        split false e = ap (λ b. if b then None else f q) (not_way q n) ∙ held

    pub fits : Fits q n t request same names some f
    fits = record { at = distinct; only = only }

    pub reset_follows : KeepsClaim t request q (Resets q n t request same names some f fits other)
    reset_follows = record {
      claimed = claimed;
      onward = λ w made x. step_on q n t request same names some f fits other w made x;
    }
      where
        claimed : (w : World) → MapHolds f w ⊎ MapHolds (after_reset f (q ++ (n ∷ []))) w
            → ClaimedAt q t.addr w
        claimed w (inl o) = record { claims = f; owned = o; held = held }
        claimed w (inr o) = record {
          claims = after_reset f (q ++ (n ∷ []));
          owned = o;
          held = still_held;
        }
