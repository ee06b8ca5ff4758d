-- One holder: where no address is held twice, each address leads to one path.
use Rattle.std.proofs.Common.{◌≡◌, ℕ, zero, suc, ◌+◌, ◌≤◌, ◌==◌, if◌then◌else◌, ◌⊎◌, inl, inr, Bool}
use Rattle.std.proofs.Common.{true, false, List, [], ◌∷◌, ◌++◌, Some, option_map, refl, ap, sym}
use Rattle.std.proofs.Common.{subst, ◌∙◌, arith}
use Rattle.std.proofs.lemmas.Option.{same_Some}
use Rattle.usb_device.specs.{PortState}
use Rattle.usb_device.specs.{State, Ports, ended, vacant, taken, reach_at, state_at, path_to}
use Rattle.usb_device.specs.{held_addresses, has, repeats}
use Rattle.usb_world.specs.{address_of, HoldsAddress, Two}
use Rattle.usb_world.proofs.Booleans.{false_true, both, neither, and_of, or_left, or_right}
use Rattle.usb_world.proofs.Booleans.{either_of}
use Rattle.usb_world.proofs.Equality.{equal_same}
use Rattle.usb_device.proofs.Interface.{same_number}

-- how often a number stands in a list
abbrev pub one_if : Bool → ℕ
one_if true = 1
one_if false = 0

unfoldable pub occurs : ℕ → List ℕ → ℕ
occurs a [] = 0
occurs a (x ∷ xs) = one_if (a == x) + occurs a xs

pub occurs_append : (a : ℕ) (xs ys : List ℕ) → occurs a (xs ++ ys) ≡ occurs a xs + occurs a ys
unfolding occurs
occurs_append a [] ys = omega arith
occurs_append a (x ∷ xs) ys = omega (arith, occurs_append a xs ys)

held_on : (b : PortState) (s : State) (a k : Ports) → b.enable ≡ true
    → held_addresses (taken b s a k) ≡ address_of s ∷ (held_addresses a ++ held_addresses k)
unfolding held_addresses
held_on b s a k e = rw e refl

occurs_on : (n : ℕ) (b : PortState) (s : State) (a k : Ports) → b.enable ≡ true
    → occurs n (held_addresses (taken b s a k)) ≡ one_if (n == address_of s) +
    (occurs n (held_addresses a) + occurs n (held_addresses k))
unfolding occurs
occurs_on n b s a k e = ap (λ x. occurs n x) (held_on b s a k e)
    ∙ ap (λ x. one_if (n == address_of s) + x)
    (occurs_append n (held_addresses a) (held_addresses k))

occurs_rest : (n : ℕ) (b : PortState) (s : State) (a k : Ports)
    → occurs n (held_addresses k) ≤ occurs n (held_addresses (taken b s a k))
unfolding held_addresses occurs
occurs_rest n b s a k = split b.enable
  where
    split : (x : Bool) → occurs n (held_addresses k)
        ≤ occurs n (if x then address_of s ∷ (held_addresses a ++ held_addresses k)
        else held_addresses k)
    split true = omega (arith, occurs_append n (held_addresses a) (held_addresses k))
    split false = omega arith

occurs_vacant : (n : ℕ) (b : PortState) (k : Ports) → occurs n (held_addresses (vacant b k))
    ≡ occurs n (held_addresses k)
unfolding held_addresses
occurs_vacant n b k = refl

here_is : (m n : ℕ) → m ≡ n → one_if (n == m) ≡ 1
here_is m n h = rw h (ap one_if (same_number n))

-- who is reachable is counted
pub occurs-reached : (k : Ports) (j : ℕ) (p : List ℕ) (n : ℕ) → reach_at k j p ≡ true
    → option_map address_of (state_at k j p) ≡ Some n → 1 ≤ occurs n (held_addresses k)
unfolding reach_at state_at
occurs-reached (vacant b k) (suc j) p n h e =
    omega (arith, occurs_vacant n b k, occurs-reached k j p n h e)
occurs-reached (taken b s a k) zero [] n h e =
    omega (arith, occurs_on n b s a k h, here_is (address_of s) n (same_Some (address_of s) n e))
occurs-reached (taken b s a k) zero (suc j ∷ p) n h e =
    let on : _ = both b.enable (reach_at a j p) h in
    omega (arith, occurs_on n b s a k on.0, occurs-reached a j p n on.1 e)
occurs-reached (taken b s a k) (suc j) p n h e =
    omega (arith, occurs_rest n b s a k, occurs-reached k j p n h e)
occurs-reached k j p n h e = false_true h

-- two reachable devices that hold one address are one, or it is counted twice
abbrev pub SameOr : ℕ → List ℕ → ℕ → List ℕ → ℕ → Ports → Type 0
SameOr i p j q n k = ((i ≡ j) × (p ≡ q)) ⊎ (2 ≤ occurs n (held_addresses k))

pub same_or_twice : (k : Ports) (i : ℕ) (p : List ℕ) (j : ℕ) (q : List ℕ) (n : ℕ)
    → reach_at k i p ≡ true → option_map address_of (state_at k i p) ≡ Some n
    → reach_at k j q ≡ true → option_map address_of (state_at k j q) ≡ Some n → SameOr i p j q n k
unfolding reach_at state_at
same_or_twice ended i p j q n h e g f = false_true h
same_or_twice (vacant b k) zero p j q n h e g f = false_true h
same_or_twice (vacant b k) (suc i) p (suc j) q n h e g f = pick (same_or_twice k i p j q n h e g f)
  where
    pick : SameOr i p j q n k → SameOr (suc i) p (suc j) q n (vacant b k)
    pick (inl y) = inl (ap (λ x. suc x) y.0, y.1)
    pick (inr y) = inr (omega (arith, y, occurs_vacant n b k))
same_or_twice (taken b s a k) zero [] zero [] n h e g f = inl (refl, refl)
same_or_twice (taken b s a k) zero [] zero (suc j ∷ q) n h e g f =
    inr (omega (
      arith,
      occurs_on n b s a k h,
      here_is (address_of s) n (same_Some (address_of s) n e),
      occurs-reached a j q n (both b.enable (reach_at a j q) g).1 f,
    ))
same_or_twice (taken b s a k) zero [] (suc j) q n h e g f =
    inr (omega (
      arith,
      occurs_on n b s a k h,
      here_is (address_of s) n (same_Some (address_of s) n e),
      occurs-reached k j q n g f,
    ))
same_or_twice (taken b s a k) zero (zero ∷ p) j q n h e g f = false_true h
same_or_twice (taken b s a k) zero (suc i ∷ p) zero [] n h e g f =
    inr (omega (
      arith,
      occurs_on n b s a k g,
      here_is (address_of s) n (same_Some (address_of s) n f),
      occurs-reached a i p n (both b.enable (reach_at a i p) h).1 e,
    ))
same_or_twice (taken b s a k) zero (suc i ∷ p) zero (suc j ∷ q) n h e g f =
    pick (same_or_twice a i p j q n (both b.enable (reach_at a i p) h).1 e
    (both b.enable (reach_at a j q) g).1 f)
  where
    pick : SameOr i p j q n a → SameOr zero (suc i ∷ p) zero (suc j ∷ q) n (taken b s a k)
    pick (inl y) = inl (refl, ap (λ x. suc x ∷ p) y.0 ∙ ap (λ x. suc j ∷ x) y.1)
    pick (inr y) = inr (omega (arith, y, occurs_on n b s a k (both b.enable (reach_at a i p) h).0))
same_or_twice (taken b s a k) zero (suc i ∷ p) (suc j) q n h e g f =
    inr (omega (
      arith,
      occurs_on n b s a k (both b.enable (reach_at a i p) h).0,
      occurs-reached a i p n (both b.enable (reach_at a i p) h).1 e,
      occurs-reached k j q n g f,
    ))
same_or_twice (taken b s a k) (suc i) p zero [] n h e g f =
    inr (omega (
      arith,
      occurs_on n b s a k g,
      here_is (address_of s) n (same_Some (address_of s) n f),
      occurs-reached k i p n h e,
    ))
same_or_twice (taken b s a k) (suc i) p zero (suc j ∷ q) n h e g f =
    inr (omega (
      arith,
      occurs_on n b s a k (both b.enable (reach_at a j q) g).0,
      occurs-reached a j q n (both b.enable (reach_at a j q) g).1 f,
      occurs-reached k i p n h e,
    ))
same_or_twice (taken b s a k) (suc i) p (suc j) q n h e g f =
    pick (same_or_twice k i p j q n h e g f)
  where
    pick : SameOr i p j q n k → SameOr (suc i) p (suc j) q n (taken b s a k)
    pick (inl y) = inl (ap (λ x. suc x) y.0, y.1)
    pick (inr y) = inr (omega (arith, y, occurs_rest n b s a k))
same_or_twice k i p j q n h e g f = false_true g

has_not : (n : ℕ) (xs : List ℕ) → has n xs ≡ false → occurs n xs ≡ 0
unfolding occurs
has_not n [] h = refl
has_not n (x ∷ xs) h =
    let on : _ = neither (n == x) (has n xs) h in
    rw on.0 (omega (arith, has_not n xs on.1))

pub occurs-most : (n : ℕ) (xs : List ℕ) → repeats xs ≡ false → occurs n xs ≤ 1
unfolding repeats occurs
occurs-most n [] h = omega arith
occurs-most n (x ∷ xs) h = split (n == x) refl (neither (has x xs) (repeats xs) h)
    (occurs-most n xs)
  where
    split : (b : Bool) → (n == x) ≡ b → (has x xs ≡ false) × (repeats xs ≡ false)
        → (repeats xs ≡ false → occurs n xs ≤ 1) → one_if b + occurs n xs ≤ 1
    split true e on rest = omega (arith, has_not n xs (rw (equal_same n x e) on.0))
    split false e on rest = omega (arith, rest on.1)

-- where no address is held twice, two reachable devices at one address are one
pub is_twice-one_path : (k : Ports) (i : ℕ) (p : List ℕ) (j : ℕ) (q : List ℕ) (n : ℕ)
    → repeats (held_addresses k) ≡ false
    → reach_at k i p ≡ true → option_map address_of (state_at k i p) ≡ Some n
    → reach_at k j q ≡ true → option_map address_of (state_at k j q) ≡ Some n → (i ≡ j) × (p ≡ q)
is_twice-one_path k i p j q n u h e g f = pick (same_or_twice k i p j q n h e g f)
  where
    pick : SameOr i p j q n k → (i ≡ j) × (p ≡ q)
    pick (inl y) = y
    pick (inr y) = let c : _ = occurs-most n (held_addresses k) u in
        false_true (absurd (omega (arith, c, y)))

has_append : (n : ℕ) (xs ys : List ℕ) → has n (xs ++ ys) ≡ true → (has n xs ≡ true)
    ⊎ (has n ys ≡ true)
has_append n [] ys h = inr h
has_append n (x ∷ xs) ys h = pick (either_of (n == x) (has n (xs ++ ys)) h) (has_append n xs ys)
  where
    on : (has n xs ≡ true) ⊎ (has n ys ≡ true) → (has n (x ∷ xs) ≡ true) ⊎ (has n ys ≡ true)
    on (inl y) = inl (or_right (n == x) _ y)
    on (inr y) = inr y

    pick : ((n == x) ≡ true) ⊎ (has n (xs ++ ys) ≡ true)
        → (has n (xs ++ ys) ≡ true → (has n xs ≡ true) ⊎ (has n ys ≡ true))
        → (has n (x ∷ xs) ≡ true) ⊎ (has n ys ≡ true)
    pick (inl y) f = inl (or_left (n == x) _ y)
    pick (inr y) f = on (f y)

holds_address_behind : (b : PortState) (s : State) (a k : Ports) (n : ℕ) → HoldsAddress k n
    → HoldsAddress (taken b s a k) n
unfolding reach_at state_at
holds_address_behind b s a k n h = record {
  spot = record { row = suc h.spot.row; rest = h.spot.rest };
  on = h.on;
  at = h.at;
}

holds_address_beyond : (b : PortState) (k : Ports) (n : ℕ) → HoldsAddress k n
    → HoldsAddress (vacant b k) n
unfolding reach_at state_at
holds_address_beyond b k n h = record {
  spot = record { row = suc h.spot.row; rest = h.spot.rest };
  on = h.on;
  at = h.at;
}

holds_address_below : (b : PortState) (s : State) (a k : Ports) (n : ℕ) → b.enable ≡ true
    → HoldsAddress a n → HoldsAddress (taken b s a k) n
unfolding reach_at state_at
holds_address_below b s a k n e h = record {
  spot = record { row = zero; rest = path_to h.spot };
  on = and_of b.enable _ e h.on;
  at = h.at;
}

at_it : (b : PortState) (s : State) (a k : Ports) → b.enable ≡ true
    → HoldsAddress (taken b s a k) (address_of s)
unfolding reach_at state_at
at_it b s a k e = record { spot = record { row = zero; rest = [] }; on = e; at = refl }

holder_of : (k : Ports) (n : ℕ) → has n (held_addresses k) ≡ true → HoldsAddress k n
unfolding held_addresses reach_at state_at
holder_of ended n h = false_true h
holder_of (vacant b k) n h =
    let x : _ = holder_of k n h in record {
      spot = record { row = suc x.spot.row; rest = x.spot.rest };
      on = x.on;
      at = x.at;
    }
holder_of (taken b s a k) n h = split b.enable refl h (holder_of a n) (holder_of k n)
  where
    split : (x : Bool) → b.enable ≡ x
        → has n (if x then address_of s ∷ (held_addresses a ++ held_addresses k) else held_addresses
        k) ≡ true → (has n (held_addresses a) ≡ true → HoldsAddress a n)
        → (has n (held_addresses k) ≡ true → HoldsAddress k n) → HoldsAddress (taken b s a k) n
    split true e h in_a in_k = first (either_of (n == address_of s)
        (has n (held_addresses a ++ held_addresses k)) h)
      where
        second : (has n (held_addresses a) ≡ true) ⊎ (has n (held_addresses k) ≡ true)
            → HoldsAddress (taken b s a k) n
        second (inl y) = holds_address_below b s a k n e (in_a y)
        second (inr y) = holds_address_behind b s a k n (in_k y)

        first : ((n == address_of s) ≡ true) ⊎ (has n (held_addresses a ++ held_addresses k) ≡ true)
            → HoldsAddress (taken b s a k) n
        first (inl y) = subst (λ m. HoldsAddress (taken b s a k) m)
            (sym (equal_same n (address_of s) y)) (at_it b s a k e)
        first (inr y) = second (has_append n (held_addresses a) (held_addresses k) y)
    split false e h in_a in_k = holds_address_behind b s a k n (in_k h)

Both : List ℕ → List ℕ → Type 0
Both xs ys = (n : ℕ) × (has n xs ≡ true) × (has n ys ≡ true)

twice_append : (xs ys : List ℕ) → repeats (xs ++ ys) ≡ true → (repeats xs ≡ true)
    ⊎ ((repeats ys ≡ true) ⊎ Both xs ys)
unfolding repeats Both
twice_append [] ys h = inr (inl h)
twice_append (x ∷ xs) ys h = pick (either_of (has x (xs ++ ys)) (repeats (xs ++ ys)) h)
    (twice_append xs ys)
  where
    head : (has x xs ≡ true) ⊎ (has x ys ≡ true) → (repeats (x ∷ xs) ≡ true)
        ⊎ ((repeats ys ≡ true) ⊎ Both (x ∷ xs) ys)
    head (inl y) = inl (or_left (has x xs) _ y)
    head (inr y) = inr (inr (x, or_left (x == x) _ (same_number x), y))

    tail : (repeats xs ≡ true) ⊎ ((repeats ys ≡ true) ⊎ Both xs ys) → (repeats (x ∷ xs) ≡ true)
        ⊎ ((repeats ys ≡ true) ⊎ Both (x ∷ xs) ys)
    tail (inl y) = inl (or_right (has x xs) _ y)
    tail (inr (inl y)) = inr (inl y)
    tail (inr (inr y)) = inr (inr (y.0, or_right (y.0 == x) _ y.1, y.2))

    pick : (has x (xs ++ ys) ≡ true) ⊎ (repeats (xs ++ ys) ≡ true)
        → (repeats (xs ++ ys) ≡ true → (repeats xs ≡ true) ⊎ ((repeats ys ≡ true) ⊎ Both xs ys))
        → (repeats (x ∷ xs) ≡ true) ⊎ ((repeats ys ≡ true) ⊎ Both (x ∷ xs) ys)
    pick (inl y) f = head (has_append x xs ys y)
    pick (inr y) f = tail (f y)

pub twice_two : (k : Ports) → repeats (held_addresses k) ≡ true → Two k
unfolding held_addresses repeats Both holds_address_behind holds_address_below at_it
    holds_address_beyond
twice_two ended h = false_true h
twice_two (vacant b k) h =
    let t : Two k = twice_two k h in
    record {
      n = t.n;
      one = holds_address_beyond b k t.n t.one;
      other = holds_address_beyond b k t.n t.other;
      differ = t.differ;
    }
twice_two (taken b s a k) h = split b.enable refl h (twice_two a) (twice_two k)
  where
    deeper : b.enable ≡ true → Two a → Two (taken b s a k)
    deeper e t = record {
      n = t.n;
      one = holds_address_below b s a k t.n e t.one;
      other = holds_address_below b s a k t.n e t.other;
      differ = t.differ;
    }

    onward : Two k → Two (taken b s a k)
    onward t = record {
      n = t.n;
      one = holds_address_behind b s a k t.n t.one;
      other = holds_address_behind b s a k t.n t.other;
      differ = t.differ;
    }

    split : (x : Bool) → b.enable ≡ x
        → repeats (if x then address_of s ∷ (held_addresses a ++ held_addresses k)
        else held_addresses k) ≡ true → (repeats (held_addresses a) ≡ true → Two a)
        → (repeats (held_addresses k) ≡ true → Two k) → Two (taken b s a k)
    split true e h in_a in_k =
        first (either_of (has (address_of s) (held_addresses a ++ held_addresses k))
        (repeats (held_addresses a ++ held_addresses k)) h)
      where
        with_it : (has (address_of s) (held_addresses a) ≡ true)
            ⊎ (has (address_of s) (held_addresses k) ≡ true) → Two (taken b s a k)
        with_it (inl y) = record {
          n = address_of s;
          one = at_it b s a k e;
          other = holds_address_below b s a k (address_of s) e (holder_of a (address_of s) y);
          differ = refl;
        }
        with_it (inr y) = record {
          n = address_of s;
          one = at_it b s a k e;
          other = holds_address_behind b s a k (address_of s) (holder_of k (address_of s) y);
          differ = refl;
        }

        without : (repeats (held_addresses a) ≡ true)
            ⊎ ((repeats (held_addresses k) ≡ true) ⊎ Both (held_addresses a) (held_addresses k))
            → Two (taken b s a k)
        without (inl y) = deeper e (in_a y)
        without (inr (inl y)) = onward (in_k y)
        without (inr (inr y)) = record {
          n = y.0;
          one = holds_address_below b s a k y.0 e (holder_of a y.0 y.1);
          other = holds_address_behind b s a k y.0 (holder_of k y.0 y.2);
          differ = refl;
        }

        first : (has (address_of s) (held_addresses a ++ held_addresses k) ≡ true)
            ⊎ (repeats (held_addresses a ++ held_addresses k) ≡ true) → Two (taken b s a k)
        first (inl y) = with_it (has_append (address_of s) (held_addresses a) (held_addresses k) y)
        first (inr y) = without (twice_append (held_addresses a) (held_addresses k) y)
    split false e h in_a in_k = onward (in_k h)
