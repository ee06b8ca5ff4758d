-- Statuses and their bytes, both ways.
use Rattle.std.proofs.Common.{◌≡◌, ℕ, zero, suc, ◌*◌, ◌<◌, List, [], ◌∷◌, length, take, drop}
use Rattle.std.proofs.Common.{All}
use Rattle.std.proofs.Common.{get_or, refl, sym, ap, ◌∙◌, arith, length-append}
use Rattle.std.proofs.lemmas.List.{take_at, drop_at}
use Rattle.usb_dialogue.specs.{AreStatuses, IsStatus, statuses_bytes}

pub length-statuses_bytes : (xs : List (List ℕ)) → All IsStatus xs
    → length (statuses_bytes xs) ≡ 4 * length xs
length-statuses_bytes [] each = refl
length-statuses_bytes (x ∷ xs) each =
    let more = length-statuses_bytes xs (λ k d less. each (suc k) d (omega arith)) in
    let both = length-append x (statuses_bytes xs) in
    let first : length x ≡ 4 = each 0 [] (omega arith) in
    omega (arith, more, both, first)

pub statuses_bytes-28 : (xs : List (List ℕ)) → AreStatuses xs → length (statuses_bytes xs) ≡ 28
statuses_bytes-28 xs are =
    let all = length-statuses_bytes xs are.each in
    omega (arith, all, are.seven)

same_statuses : (xs ys : List (List ℕ)) → length xs ≡ length ys → All IsStatus xs → All IsStatus ys
    → statuses_bytes xs ≡ statuses_bytes ys → xs ≡ ys
same_statuses [] [] n a b e = refl
same_statuses [] (y ∷ ys) n a b e = absurd (omega arith)
same_statuses (x ∷ xs) [] n a b e = absurd (omega arith)
same_statuses (x ∷ xs) (y ∷ ys) n a b e =
    let first : length x ≡ 4 = a 0 [] (omega arith) in
    let other : length y ≡ 4 = b 0 [] (omega arith) in
    let heads : x ≡ y = sym (take_at x (statuses_bytes xs) 4 first) ∙ ap (take 4) e
    ∙ take_at y (statuses_bytes ys) 4 other in
    let rests : statuses_bytes xs ≡ statuses_bytes ys =
    sym (drop_at x (statuses_bytes xs) 4 first) ∙ ap (drop 4) e
    ∙ drop_at y (statuses_bytes ys) 4 other in
    let tails = same_statuses xs ys (omega arith) (λ k d less. a (suc k) d (omega arith))
    (λ k d less. b (suc k) d (omega arith)) rests in
    cc

-- the same bytes are of the same statuses
pub statuses_bytes-same : (xs ys : List (List ℕ)) → AreStatuses xs → AreStatuses ys
    → statuses_bytes xs ≡ statuses_bytes ys → xs ≡ ys
statuses_bytes-same xs ys a b e = same_statuses xs ys (a.seven ∙ sym b.seven) a.each b.each e

-- 28 bytes, one by one
pub bytes-28 : (xs : List ℕ) → length xs ≡ 28 → xs ≡
    get_or xs 0 0 ∷ get_or xs 1 0 ∷ get_or xs 2 0 ∷ get_or xs 3 0 ∷ get_or xs 4 0 ∷ get_or xs 5 0
    ∷ get_or xs 6 0 ∷ get_or xs 7 0 ∷ get_or xs 8 0 ∷ get_or xs 9 0 ∷ get_or xs 10 0
    ∷ get_or xs 11 0 ∷ get_or xs 12 0 ∷ get_or xs 13 0 ∷ get_or xs 14 0 ∷ get_or xs 15 0
    ∷ get_or xs 16 0 ∷ get_or xs 17 0 ∷ get_or xs 18 0 ∷ get_or xs 19 0 ∷ get_or xs 20 0
    ∷ get_or xs 21 0 ∷ get_or xs 22 0 ∷ get_or xs 23 0 ∷ get_or xs 24 0 ∷ get_or xs 25 0
    ∷ get_or xs 26 0 ∷ get_or xs 27 0 ∷ []
bytes-28 (a0 ∷ a1 ∷ a2 ∷ a3 ∷ b0 ∷ b1 ∷ b2 ∷ b3 ∷ c0 ∷ c1 ∷ c2 ∷ c3 ∷ d0 ∷ d1 ∷ d2 ∷ d3 ∷ e0 ∷
    e1 ∷ e2 ∷ e3 ∷ f0 ∷ f1 ∷ f2 ∷ f3 ∷ g0 ∷ g1 ∷ g2 ∷ g3 ∷ []) size = refl
bytes-28 _ size = absurd (omega arith)

-- seven statuses
each_of : (a b c d e f g : List ℕ) → length a ≡ 4 → length b ≡ 4 → length c ≡ 4 → length d ≡ 4
    → length e ≡ 4 → length f ≡ 4 → length g ≡ 4 → (k : ℕ) (x : List ℕ) → k < 7
    → length (get_or (a ∷ b ∷ c ∷ d ∷ e ∷ f ∷ g ∷ []) k x) ≡ 4
each_of a b c d e f g la lb lc ld le lf lg zero x less = la
each_of a b c d e f g la lb lc ld le lf lg (suc zero) x less = lb
each_of a b c d e f g la lb lc ld le lf lg (suc (suc zero)) x less = lc
each_of a b c d e f g la lb lc ld le lf lg (suc (suc (suc zero))) x less = ld
each_of a b c d e f g la lb lc ld le lf lg (suc (suc (suc (suc zero)))) x less = le
each_of a b c d e f g la lb lc ld le lf lg (suc (suc (suc (suc (suc zero))))) x less = lf
each_of a b c d e f g la lb lc ld le lf lg (suc (suc (suc (suc (suc (suc zero)))))) x less = lg
each_of a b c d e f g la lb lc ld le lf lg (suc (suc (suc (suc (suc (suc (suc k))))))) x less =
    absurd (omega arith)

pub seven_statuses : (a b c d e f g : List ℕ) → length a ≡ 4 → length b ≡ 4 → length c ≡ 4
    → length d ≡ 4 → length e ≡ 4 → length f ≡ 4 → length g ≡ 4
    → AreStatuses (a ∷ b ∷ c ∷ d ∷ e ∷ f ∷ g ∷ [])
seven_statuses a b c d e f g la lb lc ld le lf lg = record {
  seven = refl;
  each = each_of a b c d e f g la lb lc ld le lf lg;
}
