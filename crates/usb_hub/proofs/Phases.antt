-- What calls add, one after the other.
use Rattle.std.proofs.Common.{◌≡◌, ℕ, suc, true, false, List, [], ◌∷◌, ◌++◌, refl, subst}
use Rattle.usb_port.specs.{PortCall}
use Rattle.usb_device.specs.{Location, path_to}
use Rattle.usb_world.specs.{World}
use Rattle.usb_hub.specs.{Few, KeepsAll, KeepsBy, KeepsCall, KeepsFound, is_marked, only, ports_at}
use Rattle.usb_hub.specs.{unmarked, gives_power}
use Rattle.usb_hub.proofs.BacklogEvents.{keeps-none, keeps-then}
use Rattle.usb_hub.proofs.Places.{few-none, few-reset, few-vacant, just_covers, ports_cover}

pub few-only : (p : List ℕ) → Few unmarked (only p)
few-only (suc j ∷ e) = few-reset j e
few-only p = few-none

pub few-changed : (p : List ℕ) → Few (only p) unmarked
few-changed (suc j ∷ e) = few-vacant j e
few-changed p = few-none

pub is_itself : (p : List ℕ) → is_marked (only p) p ≡ true
is_itself (suc j ∷ e) = just_covers j e
is_itself p = refl

pub all_none : (w : World) → KeepsAll w w
all_none w = record { all = λ ports m v r few. keeps-none m v r few w ports }

pub all_then : {a b c : World} → KeepsAll a b → KeepsAll b c → KeepsAll a c
all_then {a} {b} x y = record {
  all = λ ports m v r few. let one : KeepsBy m v r a b =
      x.all ports m v r few in keeps-then m v r few one (y.all one.left m v r few);
}

pub found_all : (p : List ℕ) {a b : World} → KeepsAll a b → KeepsFound p a b
found_all p x = record { found = λ ports. x.all ports (ports_at p) unmarked (only p) (few-only p) }

pub found_then : (p : List ℕ) {a b c : World} → KeepsFound p a b → KeepsFound p b c
    → KeepsFound p a c
found_then p {a} {b} x y = record {
  found =
      λ ports. let one : KeepsBy (ports_at p) unmarked (only p) a b = x.found ports in
      keeps-then (ports_at p) unmarked (only p) (few-only p) one (y.found one.left);
}

-- a call at the port itself that gives it no power
pub found_called : (p : List ℕ) (c : PortCall) {a b : World} → gives_power c ≡ false
    → KeepsCall p c a b → KeepsFound p a b
found_called p c quiet x = record {
  found =
      λ ports. x.covered ports (ports_at p) unmarked (only p) (few-only p)
      (record { power = λ g. absurd (cc (quiet, g)); reset = λ g. is_itself p });
}

-- and one that gives power to a port of the device there
pub ports_covered : (p : List ℕ) (x : Location) (n : ℕ) → path_to x ≡ p
    → ports_at p x.row (x.rest ++ (suc n ∷ [])) ≡ true
ports_covered p x n same = subst (λ q. ports_at q x.row (x.rest ++ (suc n ∷ [])) ≡ true) same
    (ports_cover x.row x.rest n)
