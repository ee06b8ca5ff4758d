-- How the device at a port that is being enumerated comes to hold its address, from one call to the
-- next.
use Rattle.std.proofs.Common.{◌≡◌, ◌⊎◌, ◌≤◌, ℕ, inr, true, false, List, [], ◌∷◌, ◌++◌, Some, refl}
use Rattle.std.proofs.Common.{subst, arith}
use Rattle.usb_world.specs.{after_taking, World, same_path, is_way}
use Rattle.usb_hub.specs.{AddressMap, Unused, MapHolds, Enumerating, WhileBusWorks, KeepsAddresses}
use Rattle.usb_hub.specs.{HubPort, IsAt, IsClaimed, Resets, GivesAddress}
use Rattle.usb_hub.proofs.Interface.{after_a_reset, after_an_address, after_taking-zero}
use Rattle.usb_hub.proofs.Interface.{is_way-same_path}
use Rattle.usb_enum.specs.{IsSpare, Within, TakesAddress}
use Rattle.usb_world.proofs.Interface.{self_number}

-- Till a fault

pub till_weaker : {P Q : World → Type 0} {w : World} → WhileBusWorks P w → (P w → Q w)
    → WhileBusWorks Q w
till_weaker t step = grind arith

-- which of the two addresses the device has; after a fault either may be said
pub record Having (f : AddressMap) (p : List ℕ) (address : ℕ) (w : World) : Type 0 where
  pub has : ℕ
  pub is : (has ≡ 0) ⊎ (has ≡ address)
  pub owned : WhileBusWorks (MapHolds (after_taking f p has)) w

pub having : (f : AddressMap) (p : List ℕ) (address : ℕ) {w : World}
    → WhileBusWorks (Enumerating f p address) w → Having f p address w
having f p address t = grind arith

-- Paths

same_path-longer : (q : List ℕ) (n : ℕ) → same_path (q ++ (n ∷ [])) q ≡ false
same_path-longer [] n = refl
same_path-longer (m ∷ q) n = rw (self_number m, same_path-longer q n) refl

-- the hub of a port stands above it, so its claim stays
pub at_taking : (f : AddressMap) (port : HubPort) (p : List ℕ) (a : ℕ) → IsAt f port p
    → IsAt (after_taking f p a) port p
at_taking f port p a at = grind (arith, same_path-longer)

-- One call after the other

pub within_none : (port : HubPort) (address : ℕ) (w : World) → Within port address w w
within_none port address w = grind arith

pub within_then : {port : HubPort} {address : ℕ} {a b c : World} → Within port address a b
    → Within port address b c → Within port address a c
within_then m n = grind arith

pub takes_after : {port : HubPort} {address : ℕ} {a b c : World} → Within port address a b
    → TakesAddress port address b c → TakesAddress port address a c
takes_after m n = grind arith

pub takes_then : {port : HubPort} {address : ℕ} {a b c : World} → TakesAddress port address a b
    → KeepsAddresses b c → TakesAddress port address a c
takes_then m n = search (n.kept, m.took)

-- What each call does

pub within_kept : {port : HubPort} {address : ℕ} {old new : World} → KeepsAddresses old new
    → Within port address old new
within_kept {address} keeps = record {
  stays = λ f p spare t.
      let h = having f p address t in
      till_weaker (keeps.kept (after_taking f p h.has) h.owned) (grind arith);
}

pub within-keeps_addresses : {port : HubPort} {address : ℕ} {a b c : World}
    → Within port address a b → KeepsAddresses b c → Within port address a c
within-keeps_addresses within keeps = grind (arith, within_kept, within_then)

-- only the port that is being enumerated may claim address 0
pub zero_there : (f : AddressMap) (p : List ℕ) (has : ℕ) → Unused f 0 → (x : List ℕ)
    → after_taking f p has x ≡ Some 0 → is_way p x ≡ true
zero_there f p has none x e = grind (arith, is_way-same_path)

pub within_reset : (port : HubPort) (address : ℕ) (old new : World) → Resets port old new
    → Within port address old new
within_reset port address old new resets = record {
  stays = λ f p spare t.
      let h = having f p address t in
      let g : AddressMap = after_taking f p h.has in
      till_weaker (resets.resets g p (search at_taking) (grind (arith, zero_there)) h.owned)
      (search after_a_reset);
}

-- SET_ADDRESS, at address 0
pub within_given : (port : HubPort) {target address : ℕ} {old new : World} → target ≡ 0
    → 1 ≤ address → GivesAddress target address old new → Within port address old new
within_given port {address} {new} zero_is least gives = record {
  stays = λ f p spare t.
      let h = having f p address t in
      let g : AddressMap = after_taking f p h.has in
      till_weaker (gives.gives g p (grind (arith, after_taking-zero))
      (grind arith) (grind arith)
      h.owned) (search after_an_address);
}

-- Who holds which address

-- whoever answered at address 0, or at the one that is set aside, is the device at the port
pub answered_has : {f : AddressMap} {port : HubPort} {p : List ℕ} {address : ℕ} (has n : ℕ)
    → IsSpare f port p address → (n ≡ 0) ⊎ (n ≡ address) → (q : List ℕ)
    × (after_taking f p has q ≡ Some n) → has ≡ n
answered_has has n spare is who = grind arith

-- whoever answered at the address stands at the port
pub takes_answered : (port : HubPort) {address : ℕ} {old new : World} → KeepsAddresses old new
    → IsClaimed address old → TakesAddress port address old new
takes_answered port {address} {old} keeps answers = record {
  took = λ f p spare t.
      let h = having f p address t in
      keeps.kept (after_taking f p address)
      (subst (λ n. WhileBusWorks (MapHolds (after_taking f p n)) old)
      (answered_has h.has address spare (inr refl) (search answers.held)) h.owned);
}
