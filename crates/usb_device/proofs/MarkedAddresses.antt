-- Marks tell which addresses stand twice.
use Rattle.std.proofs.Common.{◌≡◌, ◌<◌, ℕ, zero, suc, ◌==◌, ◌||◌, if◌then◌else◌, Bool, true, false}
use Rattle.std.proofs.Common.{List, [], ◌∷◌, ◌++◌, Option, None, Some, length, slice_set}
use Rattle.std.proofs.Common.{slice_index_or, refl, ap, ap₂, sym, ◌∙◌, arith, rules}
use Rattle.std.proofs.lemmas.Bool.{eqb-true, or_parts}
use Rattle.std.proofs.lemmas.Bool.Decides.{nat_tests}
use Rattle.usb_port.specs.{PortState}
use Rattle.usb_device.specs.{Ports, Plugged, before, standing, held_addresses, held_in}
use Rattle.usb_device.specs.{has, repeats, AreBytes}

-- ---- marks along a list
abbrev pub meets : List ℕ → List Bool → Bool
meets [] marks = false
meets (n ∷ ns) marks = slice_index_or marks n false || meets ns (slice_set marks n true)

length-set : (m : List Bool) (i : ℕ) (b : Bool) → length (slice_set m i b) ≡ length m
length-set (x ∷ m) (suc i) b = ap suc (length-set m i b)
length-set m i b = refl

-- ---- the addresses of a row of ports that begins with a place
address_if_enabled : (x : ℕ) (a k : List ℕ) (e : Bool) → (if e then x ∷ (a ++ k) else k)
    ≡ (if e then x ∷ a else []) ++ k
address_if_enabled x a k true = refl
address_if_enabled x a k false = refl

pub held-before : (b : PortState) (d : Option Plugged) (k : Ports)
    → held_addresses (before (standing b d) k) ≡ held_in b d ++ held_addresses k
unfolding held_addresses
held-before b None k = refl
held-before b (Some t) k = address_if_enabled t.own.registers.address (held_addresses t.ports)
    (held_addresses k) b.enable

all_append : (xs ys : List ℕ) → AreBytes xs → AreBytes ys → AreBytes (xs ++ ys)
all_append [] ys h g = g
all_append (x ∷ xs) ys h g = (h.0, all_append xs ys h.1 g)

pub bytes-before : (b : PortState) (d : Option Plugged) (k : Ports) → AreBytes (held_in b d)
    → AreBytes (held_addresses k) → AreBytes (held_addresses (before (standing b d) k))
bytes-before b d k h g = rw (held-before b d k) (all_append (held_in b d) (held_addresses k) h g)

-- ---- what the marks tell
pub or_assoc : (a b c : Bool) → ((a || b) || c) ≡ (a || (b || c))
or_assoc a b c = search rules

second_first : (a b c : Bool) → (a || (b || c)) ≡ (b || (a || c))
second_first a b c = search rules

first_and_rest : (a b c d e : Bool) → ((a || b) || (c || (d || e))) ≡ ((b || c) || ((a || d) || e))
first_and_rest a b c d e = search rules

first_behind : (a b c d e : Bool) → ((a || b) || (c || (d || e))) ≡ ((a || c) || (d || (b || e)))
first_behind a b c d e = search rules

-- some number stands in both lists
abbrev pub share : List ℕ → List ℕ → Bool
share [] ys = false
share (x ∷ xs) ys = has x ys || share xs ys

pub nat_eq-sym : (x y : ℕ) → (x == y) ≡ (y == x)
nat_eq-sym x y = grind (arith, nat_tests)

shuffle : (a b c d : Bool) → ((a || b) || (c || d)) ≡ ((a || c) || (b || d))
shuffle a b c d = search rules

share-more : (xs ys : List ℕ) (x : ℕ) → share xs (x ∷ ys) ≡ (has x xs || share xs ys)
share-more [] ys x = refl
share-more (z ∷ zs) ys x =
    ap (λ b. ((z == x) || has z ys) || b) (share-more zs ys x)
    ∙ shuffle (z == x) (has z ys) (has x zs) (share zs ys)
    ∙ ap (λ b. (b || has x zs) || (has z ys || share zs ys)) (nat_eq-sym z x)

rest_of_it : (h s t u : Bool) → (h || ((t || s) || u)) ≡ ((h || s) || (t || u))
rest_of_it h s t u = search rules

index-set : (m : List Bool) (i n : ℕ) → i < length m → slice_index_or (slice_set m i true) n false
    ≡ ((n == i) || slice_index_or m n false)
index-set [] i n h = absurd (omega (arith, h))
index-set (b ∷ m) zero zero h = refl
index-set (b ∷ m) zero (suc n) h = let e : (suc n == 0) ≡ false = grind (arith, nat_tests) in
    rw e refl
index-set (b ∷ m) (suc i) zero h = let e : (0 == suc i) ≡ false = grind (arith, nat_tests) in
    rw e refl
index-set (b ∷ m) (suc i) (suc n) h = let e : (suc n == suc i) ≡ (n == i) =
    grind (arith, nat_tests) in rw e (index-set m i n (omega (arith, h)))

-- the marks are those of the numbers met before, as far as these are bytes
abbrev pub Marks : List Bool → List ℕ → Type 0
Marks m ys = (n : ℕ) → n < 256 → slice_index_or m n false ≡ has n ys

pub meets-is : (xs ys : List ℕ) (m : List Bool) → length m ≡ 256 → AreBytes xs → Marks m ys
    → meets xs m ≡ (share xs ys || repeats xs)
unfolding repeats
meets-is [] ys m len small marks = refl
meets-is (x ∷ xs) ys m len small marks =
    let within : x < length m = omega (arith, small.0, len) in
    ap (λ b. slice_index_or m x false || b)
    (meets-is xs (x ∷ ys) (slice_set m x true) (length-set m x true ∙ len) small.1
    (λ n below. index-set m x n within ∙ ap (λ b. (n == x) || b) (marks n below)))
    ∙ ap (λ b. b || (share xs (x ∷ ys) || repeats xs)) (marks x small.0)
    ∙ ap (λ b. has x ys || (b || repeats xs)) (share-more xs ys x)
    ∙ rest_of_it (has x ys) (share xs ys) (has x xs) (repeats xs)

share-none : (xs : List ℕ) → share xs [] ≡ false
share-none [] = refl
share-none (x ∷ xs) = share-none xs

-- where no mark is set
pub met_none_of : (xs : List ℕ) (m : List Bool) → length m ≡ 256 → AreBytes xs
    → ((n : ℕ) → slice_index_or m n false ≡ false) → meets xs m ≡ repeats xs
met_none_of xs m len small none =
    meets-is xs [] m len small (λ n below. none n) ∙ ap (λ b. b || repeats xs) (share-none xs)

-- ---- a list with another one in its middle
pub has-append : (n : ℕ) (xs ys : List ℕ) → has n (xs ++ ys) ≡ (has n xs || has n ys)
has-append n [] ys = refl
has-append n (x ∷ xs) ys =
    ap (λ b. (n == x) || b) (has-append n xs ys) ∙ sym (or_assoc (n == x) (has n xs) (has n ys))

pub has-middle : (n : ℕ) (xs ys zs : List ℕ)
    → has n (xs ++ (ys ++ zs)) ≡ (has n ys || has n (xs ++ zs))
has-middle n [] ys zs = has-append n ys zs
has-middle n (x ∷ xs) ys zs =
    ap (λ b. (n == x) || b) (has-middle n xs ys zs)
    ∙ second_first (n == x) (has n ys) (has n (xs ++ zs))

twice-append : (xs ys : List ℕ) → repeats (xs ++ ys) ≡ (share xs ys || (repeats xs || repeats ys))
unfolding repeats
twice-append [] ys = refl
twice-append (x ∷ xs) ys =
    ap₂ (λ b c. b || c) (has-append x xs ys) (twice-append xs ys)
    ∙ first_and_rest (has x xs) (has x ys) (share xs ys) (repeats xs) (repeats ys)

pub twice-middle : (xs ys zs : List ℕ)
    → repeats (xs ++ (ys ++ zs)) ≡ (share ys (xs ++ zs) || (repeats ys || repeats (xs ++ zs)))
unfolding repeats
twice-middle [] ys zs = twice-append ys zs
twice-middle (x ∷ xs) ys zs =
    ap₂ (λ b c. b || c) (has-middle x xs ys zs) (twice-middle xs ys zs)
    ∙ first_behind (has x ys) (has x (xs ++ zs)) (share ys (xs ++ zs)) (repeats ys)
    (repeats (xs ++ zs))
    ∙ ap (λ b. b || (repeats ys || (has x (xs ++ zs) || repeats (xs ++ zs))))
    (sym (share-more ys (xs ++ zs) x))

-- a number of a list that shares none with another one is not in that one
pub unshared : (n : ℕ) (xs ys : List ℕ) → share xs ys ≡ false → has n xs ≡ true → has n ys ≡ false
unshared n [] ys e h = cc
unshared n (x ∷ xs) ys e h =
    split (n == x) refl (unshared n xs ys (or_parts (has x ys) (share xs ys) e).1) h
  where
    split : (b : Bool) → (n == x) ≡ b → (has n xs ≡ true → has n ys ≡ false)
        → (b || has n xs) ≡ true → has n ys ≡ false
    split true is behind h =
        ap (λ m. has m ys) (eqb-true n x is) ∙ (or_parts (has x ys) (share xs ys) e).0
    split false is behind h = behind h
