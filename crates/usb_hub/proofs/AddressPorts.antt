-- What requests about a port of a hub do to the addresses that devices hold (11.24.2).
use Rattle.std.proofs.Common.{◌≡◌, ℕ, zero, ◌⊎◌, true, false, List, [], ◌∷◌, ◌++◌, Some, Result}
use Rattle.std.proofs.Common.{refl, ap, sym, ◌∙◌, arith, MatchResult}
use Rattle.usb_request.specs.{PORT_RESET, Setup, set_port_feature}
use Rattle.usb_request.proofs.Interface.{same_setup}
use Rattle.usb_port.specs.{IsPath}
use Rattle.usb_world.specs.{after_reset, World, is_way, same_number}
use Rattle.usb_world.proofs.Interface.{same_is, and_false, false_true}
use Rattle.usb_transfer.specs.{Target, AttemptsMade, PipeFault, FaultAfter, Writes}
use Rattle.usb_hub.specs.{AddressMap, LeavesPipe, MapHolds, WhileBusWorks}
use Rattle.usb_hub.proofs.TransferSequences.{write_till, either_alone}
use Rattle.usb_hub.proofs.PortResets.{resets_leave}

-- Paths

-- a hub is not below its own port
pub not_way : (q : List ℕ) (n : ℕ) → is_way (q ++ (n ∷ [])) q ≡ false
unfolding is_way
not_way [] n = refl
not_way (m ∷ q) n = rw (not_way q n) (and_false (same_number m m))

pub is_path-empty : IsPath [] → ⊥
is_path-empty is = omega (arith, is.0)

pub no_root : (e : List ℕ) → IsPath (zero ∷ e) → ⊥
no_root e is = omega (arith, (is.2 0 0 (omega arith)).0)

-- The clear of PORT_ENABLE

module _ (t : Target) (k n : ℕ) (old new : World) (f : AddressMap) where
  pub reset_till : (hub : List ℕ) (port : ℕ) (result : Result (Unit {0}) PipeFault)
      → f hub ≡ Some t.addr → MatchResult result (λ _. AttemptsMade k old new)
      (λ fault. FaultAfter n old fault new)
      → Writes t (set_port_feature PORT_RESET port) old result new
      → ((x : List ℕ) → f x ≡ Some 0 → is_way (hub ++ (port ∷ [])) x ≡ true)
      → WhileBusWorks (MapHolds f) old
      → WhileBusWorks (λ w. MapHolds f w ⊎ MapHolds (after_reset f (hub ++ (port ∷ []))) w) new
  unfolding set_port_feature
  reset_till hub port result held ends writes only o =
      write_till (λ w. MapHolds f w ⊎ MapHolds g w) (either_alone f g) old new k n t request
      o.single result ends writes (λ sound. leaves (o.so sound))
    where
      g : AddressMap
      g = after_reset f (hub ++ (port ∷ []))

      request : Setup
      request = set_port_feature PORT_RESET port

      some : t.addr ≡ 0 → ⊥
      some e = false_true (sym (not_way hub port) ∙ only hub (held ∙ ap (λ a. Some a) e))

      leaves : MapHolds f old → LeavesPipe (λ w. MapHolds f w ⊎ MapHolds g w) result new
      leaves own = resets_leave hub port t request (same_setup request) refl some f
          (record {
            at = λ x h. sym (same_is x hub (own.distinct x hub t.addr h held));
            only = only;
          }) refl old result new writes own
