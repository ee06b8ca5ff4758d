-- Two numbers, or two paths, are the same or not.
use Rattle.std.proofs.Common.{◌≡◌, ℕ, zero, suc, ◌==◌, true, false, List, [], ◌∷◌, refl, arith}
use Rattle.std.proofs.lemmas.Bool.Decides.{nat_tests}
use Rattle.usb_world.specs.{same_number, same_path}

pub equal_same : (n x : ℕ) → (n == x) ≡ true → n ≡ x
equal_same n x h = grind (arith, nat_tests)

pub same_equal : (n x : ℕ) → n ≡ x → (n == x) ≡ true
same_equal n x h = grind (arith, nat_tests)

pub unequal : (n x : ℕ) → (n ≡ x → ⊥) → (n == x) ≡ false
unequal n x h = grind (arith, nat_tests, h)

pub swapped : (m n : ℕ) → (m == n) ≡ false → (n == m) ≡ false
swapped m n h = grind (arith, nat_tests, h)

pub self_number : (n : ℕ) → same_number n n ≡ true
self_number zero = refl
self_number (suc n) = self_number n

pub self_path : (p : List ℕ) → same_path p p ≡ true
self_path [] = refl
self_path (n ∷ p) = rw (self_number n, self_path p) refl
