-- The usual hub descriptor is one.
use Rattle.std.proofs.Common.{◌≡◌, ◌≤◌, ℕ, if◌then◌else◌, Bool, List, [], ◌∷◌, true, false, nat_le}
use Rattle.std.proofs.Common.{nat_lt, Ok, refl, arith}
use Rattle.std.proofs.lemmas.Bool.Decides.{nat_tests}
use Rattle.usb_request.specs.{HUB}
use Rattle.usb_descriptor.specs.{hub_length, hub_spelled}
use Rattle.usb_device.specs.{agrees, usual_descriptor}
use Rattle.usb_device.proofs.Interface.{same_number}

pub at_least_one : (n : ℕ) → 1 ≤ n → nat_le 1 n ≡ true
at_least_one n h = grind (arith, nat_tests, h)

-- a hub has at most 15 ports
at_most_fifteen : (n : ℕ) → n ≤ 15 → nat_le n 15 ≡ true
at_most_fifteen n h = grind (arith, nat_tests, h)

-- the first nine bytes, of which the last is of DeviceRemovable or PortPwrCtrlMask
abbrev front : ℕ → ℕ → ℕ → List ℕ
front size n last = size ∷ HUB ∷ n ∷ 1 ∷ 0 ∷ 0 ∷ 0 ∷ 0 ∷ last ∷ []

front_spelled : (size n last : ℕ) → nat_lt size (hub_length n) ≡ false → 1 ≤ n → n ≤ 15
    → hub_spelled true (front size n last) ≡ Ok (front size n last)
unfolding hub_spelled
front_spelled size n last fits least most =
    rw (fits, at_least_one n least, at_most_fifteen n most) refl

agrees-front : (size n last : ℕ) (rest : List ℕ) → nat_lt size (hub_length n) ≡ false → 1 ≤ n
    → n ≤ 15 → agrees n (size ∷ HUB ∷ n ∷ 1 ∷ 0 ∷ 0 ∷ 0 ∷ 0 ∷ last ∷ rest) ≡ true
agrees-front size n last rest fits least most =
    rw (agrees, front_spelled size n last fits least most) (same_number n)

pub agrees-usual : (n : ℕ) → 1 ≤ n → n ≤ 15 → agrees n (usual_descriptor n) ≡ true
agrees-usual n least most = by_size (nat_lt 7 n) refl
  where
    by_size : (many : Bool) → nat_lt 7 n ≡ many
        → agrees n (if many then 11 ∷ HUB ∷ n ∷ 1 ∷ 0 ∷ 0 ∷ 0 ∷ 0 ∷ 0 ∷ 255 ∷ 255 ∷ []
        else 9 ∷ HUB ∷ n ∷ 1 ∷ 0 ∷ 0 ∷ 0 ∷ 0 ∷ 255 ∷ []) ≡ true
    by_size true is = agrees-front 11 n 0 (255 ∷ 255 ∷ []) (rw is refl) least most
    by_size false is = agrees-front 9 n 255 [] (rw is refl) least most

pub ruleset usual = agrees-usual
