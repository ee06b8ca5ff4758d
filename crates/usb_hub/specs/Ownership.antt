-- Each reachable device holds the address that its path claims, and no address was ever held twice.
use Rattle.std.specs.Prelude.{◌≡◌, ◌⊎◌, ℕ, List, false, None}
use Rattle.usb_world.specs.{after_taking, HoldsMapped, Injective, World, is_way, IsSettled}
use Rattle.usb_hub.specs.Claims.{AddressMap}

-- each reachable device holds the address that its path claims; what claims one need not be
-- reachable
pub record MapHolds (f : AddressMap) (w : World) : Type 0 where
  pub distinct : Injective f
  pub own : HoldsMapped f w
  pub single : w.shared ≡ false
  pub settled : IsSettled w.roots

-- the same but for what is claimed at a path and below it
pub record MapHoldsExcept (p : List ℕ) (f : AddressMap) (w : World) : Type 0 where
  pub claims : AddressMap
  pub owned : MapHolds claims w
  pub others : (x : List ℕ) → is_way p x ≡ false → claims x ≡ f x

-- the device at a path that is being enumerated, where one is reached, has address 0 or the one
-- that is set aside for it
pub record Enumerating (f : AddressMap) (p : List ℕ) (address : ℕ) (w : World) : Type 0 where
  pub has : ℕ
  pub is : (has ≡ 0) ⊎ (has ≡ address)
  pub owned : MapHolds (after_taking f p has) w

-- so it is as long as the bus is at work; no address was ever held twice, also where it has given
-- up
pub record WhileBusWorks (P : World → Type 0) (w : World) : Type 0 where
  pub so : w.fault ≡ None → P w
  pub single : w.shared ≡ false

-- whoever holds which address keeps it
pub record KeepsAddresses (old new : World) : Type 0 where
  pub kept : (f : AddressMap) → WhileBusWorks (MapHolds f) old → WhileBusWorks (MapHolds f) new
