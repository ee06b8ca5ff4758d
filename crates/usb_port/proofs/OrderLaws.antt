-- Below, parent, order and rank.
use Rattle.std.proofs.Common.{◌≡◌, ℕ, zero, suc, ◌+◌, ◌-◌, ◌*◌, ◌^◌, ◌≤◌, ◌<◌, Bool, true, false}
use Rattle.std.proofs.Common.{cond, List, [], ◌∷◌, ◌++◌, length, take, drop, Option, Some, None}
use Rattle.std.proofs.Common.{All, refl, sym, ap, ◌∙◌, arith, length-append, nat_lt, inl, inr}
use Rattle.std.proofs.Common.{IsTrue, nat_eq, ◌↔◌}
use Rattle.std.specs.Ordering.{nat_cmp}
use Rattle.std.specs.Cmp.{nat_cmp_is}
use Rattle.std.specs.Cmp.Lexicographic.{pointwise, same_text, told_text}
use Rattle.std.specs.declared.cmp.Ordering.TheVariants.{Less, Equal, Greater}
use Rattle.std.proofs.lemmas.List.{take-append-drop, take_more, take_all}
use Rattle.std.proofs.lemmas.List.Elements.{All-head, All-tail, All-take}
use Rattle.std.proofs.lemmas.Bool.{and_parts, and_from, lt-ltb, ltb-true, cases_order}
use Rattle.std.proofs.Math.Seq.{take-append_seam, get_or-append_seam}
use Rattle.std.proofs.Math.Nat.{mul-le-mul_right, pow-suc}
use Rattle.usb_port.specs.{IsPath, IsPortNumber, path_cmp, is_below, parent_of, port_on_hub}
use Rattle.usb_port.specs.{digits_worth, rank_of}

pub taken_if : {X : Type 0} (b : Bool) (x : Option X) (y : X) → cond b x None ≡ Some y → (b ≡ true)
    × (x ≡ Some y)
taken_if true x y h = (refl, h)
taken_if false x y h = cc

-- what a path goes on with
abbrev IsExtension : List ℕ → List ℕ → Type 0
IsExtension p q = (rest : List ℕ) × (p ≡ q ++ rest) × (1 ≤ length rest)

below_extends : (p q : List ℕ) → is_below p q ≡ true → IsExtension p q
unfolding is_below
below_extends p q h =
    let parts = and_parts (nat_lt (length q) (length p)) _ h in
    let shorter : length q < length p = ltb-true (length q) (length p) parts.0 in
    let front : q ≡ take (length q) p = same_text q (take (length q) p) (sym parts.1) in
    let whole : p ≡ q ++ drop (length q) p = sym (take-append-drop (length q) p)
    ∙ ap (λ l. l ++ drop (length q) p) (sym front) in
    let size : length p ≡ length q + length (drop (length q) p) = ap length whole
    ∙ length-append q (drop (length q) p) in
    (drop (length q) p, whole, omega (arith, size, shorter))

same_test : (q : List ℕ) (r : Bool) → r ≡ pointwise nat_eq q q → r ≡ true
same_test q true h = refl
same_test q false h = absurd (told_text q q false h refl)

below_if : (p q : List ℕ) → IsExtension p q → is_below p q ≡ true
unfolding is_below
below_if p q (rest, whole, some) =
    let size : length p ≡ length q + length rest = ap length whole ∙ length-append q rest in
    let shorter : length q < length p = omega (arith, size, some) in
    let front : take (length q) p ≡ q = ap (take (length q)) whole ∙ take-append_seam q rest in
    and_from (nat_lt (length q) (length p)) _ (lt-ltb (length q) (length p) shorter)
    (rw front (same_test q (pointwise nat_eq q q) refl))

pub is_below-extension : (p q : List ℕ) → IsTrue (is_below p q) ↔ IsExtension p q
is_below-extension p q = (below_extends p q, below_if p q)

front_first : (q : List ℕ) (r : ℕ) (rest : List ℕ) → path_cmp q (q ++ r ∷ rest) ≡ Less
front_first [] r rest = refl
front_first (x ∷ xs) r rest = rw (sym (nat_cmp_is x x Equal refl)) (front_first xs r rest)

goes_on_after : (p q rest : List ℕ) → p ≡ q ++ rest → 1 ≤ length rest → path_cmp q p ≡ Less
goes_on_after p q [] whole some = absurd (omega (arith, some))
goes_on_after p q (r ∷ rest) whole some = rw whole (front_first q r rest)

pub below_is_after : (p q : List ℕ) → IsTrue (is_below p q) → path_cmp q p ≡ Less
below_is_after p q h = let on = below_extends p q h in goes_on_after p q on.0 on.1 on.2

pub parent : (p : List ℕ) (n : ℕ) → 1 ≤ length p → parent_of (p ++ n ∷ []) ≡ Some p
unfolding parent_of
parent p n some =
    let size : length (p ++ n ∷ []) ≡ length p + 1 = length-append p (n ∷ []) in
    let long : nat_lt 1 (length (p ++ n ∷ [])) ≡ true =
    lt-ltb 1 (length (p ++ n ∷ [])) (omega (arith, size, some)) in
    let less : length (p ++ n ∷ []) - 1 ≡ length p = omega (arith, size) in
    rw (long, less) (ap Some (take-append_seam p (n ∷ [])))

pub port_on_hub-push : (p : List ℕ) (n : ℕ) → port_on_hub (p ++ n ∷ []) ≡ n
unfolding port_on_hub
port_on_hub-push p n =
    let size : length (p ++ n ∷ []) ≡ length p + 1 = length-append p (n ∷ []) in
    let less : length (p ++ n ∷ []) - 1 ≡ length p = omega (arith, size) in
    rw less (get_or-append_seam p n [] 0)

record ParentIsFront (p q : List ℕ) : Type 0 where
  long : 1 < length p
  front : q ≡ take (length p - 1) p

parent_of-front : (p q : List ℕ) → parent_of p ≡ Some q → ParentIsFront p q
unfolding parent_of
parent_of-front p q h =
    let taken = taken_if (nat_lt 1 (length p)) _ q h in
    record { long = ltb-true 1 (length p) taken.0; front = cc taken.1 }

pub rejoined : (p q : List ℕ) → parent_of p ≡ Some q → p ≡ q ++ port_on_hub p ∷ []
unfolding port_on_hub
rejoined p q h =
    let c = parent_of-front p q h in
    let long = c.long in
    let more = take_more p (length p - 1) 0 (omega (arith, long)) in
    let all : length p - 1 + 1 ≡ length p = omega (arith, long) in
    rw c.front (sym (take_all (length p) p (omega arith)) ∙ ap (λ n. take n p) (sym all) ∙ more)

pub is_path : (p q : List ℕ) → IsPath p → parent_of p ≡ Some q → IsPath q
is_path p q h e =
    let c = parent_of-front p q e in
    let long = c.long in
    let again = rejoined p q e in
    let size : length p ≡ length q + 1 = ap length again ∙ length-append q (port_on_hub p ∷ []) in
    let most = h.1 in (
      omega (arith, size, long),
      omega (arith, size, most),
      rw c.front (All-take IsPortNumber (length p - 1) p h.2),
    )

power_pos : (k : ℕ) → 1 ≤ 16 ^ k
power_pos zero = omega arith
power_pos (suc k) = rw (pow-suc 16 k) (omega (arith, power_pos k))

worth_below : (k : ℕ) (p : List ℕ) → All IsPortNumber p → digits_worth k p < 16 ^ k
unfolding digits_worth
worth_below zero p all = omega arith
worth_below (suc k) [] all = let pos = power_pos (suc k) in omega (arith, pos)
worth_below (suc k) (n ∷ p) all =
    let number = All-head IsPortNumber n p all in
    let first : n * 16 ^ k ≤ 15 * 16 ^ k = mul-le-mul_right (16 ^ k) number.1 in
    let rest = worth_below k p (All-tail IsPortNumber n p all) in
    rw (pow-suc 16 k) (omega (arith, first, rest))

pub bound : (p : List ℕ) → IsPath p → rank_of p < 16 ^ 7
unfolding rank_of
bound p h = worth_below 7 p h.2

worth_rises : (k : ℕ) (p q : List ℕ) → All IsPortNumber p → All IsPortNumber q → length p ≤ k
    → length q ≤ k → path_cmp p q ≡ Less → digits_worth k p < digits_worth k q
unfolding digits_worth
worth_rises k [] [] all_p all_q short_p short_q less = cc
worth_rises k (x ∷ p) [] all_p all_q short_p short_q less = cc
worth_rises zero [] (y ∷ q) all_p all_q short_p short_q less = absurd (omega (arith, short_q))
worth_rises zero (x ∷ p) (y ∷ q) all_p all_q short_p short_q less = absurd (omega (arith, short_q))
worth_rises (suc k) [] (y ∷ q) all_p all_q short_p short_q less =
    let number = All-head IsPortNumber y q all_q in
    let first : 1 * 16 ^ k ≤ y * 16 ^ k = mul-le-mul_right (16 ^ k) number.0 in
    let pos = power_pos k in
    omega (arith, first, pos)
worth_rises (suc k) (x ∷ p) (y ∷ q) all_p all_q short_p short_q less =
    elim (cases_order x y) [
      | inl same ↦
          let tied : nat_cmp x y ≡ Equal = sym (nat_cmp_is x y Equal same) in
          let rest = worth_rises k p q (All-tail IsPortNumber x p all_p)
          (All-tail IsPortNumber y q all_q) (omega (arith, short_p)) (omega (arith, short_q))
          (rw tied at less) in
          let first : x * 16 ^ k ≡ y * 16 ^ k = ap (λ n. n * 16 ^ k) same in
          omega (arith, rest, first)
      | inr other ↦ elim other [
        | inl lower ↦
            let first : (x + 1) * 16 ^ k ≤ y * 16 ^ k =
            mul-le-mul_right (16 ^ k) (omega (arith, lower)) in
            let rest = worth_below k p (All-tail IsPortNumber x p all_p) in
            omega (arith, first, rest)
        | inr higher ↦
            let tied : nat_cmp x y ≡ Greater = sym (nat_cmp_is x y Greater higher) in
            let wrong = rw tied at less in
            cc
      ]
    ]

pub rank_of-less : (p q : List ℕ) → IsPath p → IsPath q → path_cmp p q ≡ Less
    → rank_of p < rank_of q
unfolding rank_of
rank_of-less p q h i less = worth_rises 7 p q h.2 i.2 h.1 i.1 less
