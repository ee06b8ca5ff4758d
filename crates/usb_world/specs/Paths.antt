-- What a tree of ports says of a path: whether its way is powered, and whether a change of
-- connection is pending on it.
use Rattle.std.specs.Prelude.{◌≡◌, ℕ, zero, suc, ◌&&◌, ◌||◌, Bool, true, false, List, [], ◌∷◌, Some}
use Rattle.std.specs.Prelude.{option_map}
use Rattle.usb_device.specs.{State, Ports, ended, vacant, taken, Location, reach_on, state_on}

-- whether a port stands at a path, and it and each port on its way is powered
unfoldable pub has_power_at : Ports → ℕ → List ℕ → Bool
has_power_at ended i p = false
has_power_at (vacant b k) zero [] = b.power
has_power_at (vacant b k) zero (n ∷ p) = false
has_power_at (vacant b k) (suc i) p = has_power_at k i p
has_power_at (taken b s a k) zero [] = b.power
has_power_at (taken b s a k) zero (zero ∷ p) = false
has_power_at (taken b s a k) zero (suc j ∷ p) = b.power && has_power_at a j p
has_power_at (taken b s a k) (suc i) p = has_power_at k i p

abbrev pub has_power : Ports → List ℕ → Bool
has_power k [] = false
has_power k (zero ∷ p) = false
has_power k (suc i ∷ p) = has_power_at k i p

-- whether the port at a path, or one on its way, has C_PORT_CONNECTION set, and is powered as are
-- all on its own way
unfoldable pub pending_at : Ports → ℕ → List ℕ → Bool
pending_at ended i p = false
pending_at (vacant b k) zero p = b.power && b.connection_changed
pending_at (vacant b k) (suc i) p = pending_at k i p
pending_at (taken b s a k) zero [] = b.power && b.connection_changed
pending_at (taken b s a k) zero (zero ∷ p) = b.power && b.connection_changed
pending_at (taken b s a k) zero (suc j ∷ p) = b.power && (b.connection_changed || pending_at a j p)
pending_at (taken b s a k) (suc i) p = pending_at k i p

abbrev pub pending : Ports → List ℕ → Bool
pending k [] = false
pending k (zero ∷ p) = false
pending k (suc i ∷ p) = pending_at k i p

abbrev pub address_of : State → ℕ
address_of s = s.registers.address

abbrev pub same_number : ℕ → ℕ → Bool
same_number zero zero = true
same_number zero (suc n) = false
same_number (suc m) zero = false
same_number (suc m) (suc n) = same_number m n

abbrev pub same_path : List ℕ → List ℕ → Bool
same_path [] [] = true
same_path [] (n ∷ p) = false
same_path (m ∷ x) [] = false
same_path (m ∷ x) (n ∷ p) = same_number m n && same_path x p

-- whether a path leads to another, or beyond it
unfoldable pub is_way : List ℕ → List ℕ → Bool
is_way [] p = true
is_way (m ∷ x) [] = false
is_way (m ∷ x) (n ∷ p) = same_number m n && is_way x p

-- the same, of a port on a row and the rest of the path
abbrev pub on_way : ℕ → List ℕ → ℕ → List ℕ → Bool
on_way i e j p = same_number i j && is_way e p

-- a reachable device at an address
pub record HoldsAddress (k : Ports) (n : ℕ) : Type 0 where
  pub spot : Location
  pub on : reach_on k spot ≡ true
  pub at : option_map address_of (state_on k spot) ≡ Some n

-- two devices at different places that hold one address
pub record Two (k : Ports) : Type 0 where
  pub n : ℕ
  pub one : HoldsAddress k n
  pub other : HoldsAddress k n
  pub differ : (same_number one.spot.row other.spot.row && same_path one.spot.rest other.spot.rest)
      ≡ false
