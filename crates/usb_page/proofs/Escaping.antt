-- What a browser shows of an escaped text.
use Rattle.std.proofs.Common.{◌≡◌, ◌≢◌, ◌∙◌, refl, sym, ap, subst, arith, ℕ, suc, zero, ◌==◌, List}
use Rattle.std.proofs.Common.{[], ◌∷◌, ◌++◌, Bool, true, false, codes, if◌then◌else◌}
use Rattle.std.proofs.lemmas.Bool.{eqb-true}
use Rattle.std.proofs.lemmas.Bool.Decides.{nat_tests}
use Rattle.usb_page.specs.{Shows, escaped}
use Rattle.usb_page.specs.Escape.{nothing, plain, quote, ampersand, apostrophe, less, greater}

is_other : (c k : ℕ) → (c == k) ≡ false → c ≢ k
is_other c k test same = absurd (grind (arith, nat_tests, test, same))

-- a byte behind its tests
shows_tested : (c : ℕ) {source text : List ℕ} (q a p l g : Bool) → (c == 34) ≡ q → (c == 38) ≡ a
    → (c == 39) ≡ p → (c == 60) ≡ l → (c == 62) ≡ g → Shows source text
    → Shows ((if q then codes "&quot;" else if a then codes "&amp;" else if p then codes "&#39;"
    else if l then codes "&lt;" else if g then codes "&gt;" else c ∷ []) ++ source) (c ∷ text)
shows_tested c {source} {text} true a p l g iq ia ip il ig shows =
    subst (λ x. Shows (codes "&quot;" ++ source) (x ∷ text)) (sym (eqb-true c 34 iq)) (quote shows)
shows_tested c {source} {text} false true p l g iq ia ip il ig shows =
    subst (λ x. Shows (codes "&amp;" ++ source) (x ∷ text)) (sym (eqb-true c 38 ia))
    (ampersand shows)
shows_tested c {source} {text} false false true l g iq ia ip il ig shows =
    subst (λ x. Shows (codes "&#39;" ++ source) (x ∷ text)) (sym (eqb-true c 39 ip))
    (apostrophe shows)
shows_tested c {source} {text} false false false true g iq ia ip il ig shows =
    subst (λ x. Shows (codes "&lt;" ++ source) (x ∷ text)) (sym (eqb-true c 60 il)) (less shows)
shows_tested c {source} {text} false false false false true iq ia ip il ig shows =
    subst (λ x. Shows (codes "&gt;" ++ source) (x ∷ text)) (sym (eqb-true c 62 ig)) (greater shows)
shows_tested c {source} {text} false false false false false iq ia ip il ig shows =
    plain c (record {
      quote = is_other c 34 iq;
      ampersand = is_other c 38 ia;
      apostrophe = is_other c 39 ip;
      less = is_other c 60 il;
      greater = is_other c 62 ig;
    }) shows

pub shows_escaped : (text : List ℕ) → Shows (escaped text) text
shows_escaped [] = nothing
shows_escaped (c ∷ text) =
    shows_tested c (c == 34) (c == 38) (c == 39) (c == 60) (c == 62) refl refl refl refl refl
    (shows_escaped text)

-- the byte of the entity that begins so, and how many bytes of it follow its ampersand
entity_byte : List ℕ → ℕ
entity_byte [] = 38
entity_byte (c ∷ cs) =
    if c == 113 then 34 else if c == 97 then 38 else if c == 35 then 39
    else if c == 108 then 60 else 62

entity_rest : List ℕ → ℕ
entity_rest [] = 0
entity_rest (c ∷ cs) =
    if c == 113 then 5 else if c == 97 then 4 else if c == 35 then 4 else 3

-- what is shown, where so many bytes are still an entity's
decoded : ℕ → List ℕ → List ℕ
decoded k [] = []
decoded (suc k) (c ∷ cs) = decoded k cs
decoded zero (c ∷ cs) = if c == 38 then entity_byte cs ∷ decoded (entity_rest cs) cs
    else c ∷ decoded 0 cs

not_same : (c k : ℕ) → c ≢ k → (c == k) ≡ false
not_same c k other = grind (arith, nat_tests, other)

shows_decoded : (source text : List ℕ) → Shows source text → decoded 0 source ≡ text
unfolding decoded entity_byte entity_rest
shows_decoded _ _ nothing = refl
shows_decoded _ _ (plain c {source} {text} is shows) =
    ap (λ (b : Bool). if b then entity_byte source ∷ decoded (entity_rest source) source
    else c ∷ decoded 0 source) (not_same c 38 is.ampersand)
    ∙ ap (λ (l : List ℕ). c ∷ l) (shows_decoded source text shows)
shows_decoded _ _ (quote {source} {text} shows) =
    ap (λ (l : List ℕ). 34 ∷ l) (shows_decoded source text shows)
shows_decoded _ _ (ampersand {source} {text} shows) =
    ap (λ (l : List ℕ). 38 ∷ l) (shows_decoded source text shows)
shows_decoded _ _ (apostrophe {source} {text} shows) =
    ap (λ (l : List ℕ). 39 ∷ l) (shows_decoded source text shows)
shows_decoded _ _ (less {source} {text} shows) =
    ap (λ (l : List ℕ). 60 ∷ l) (shows_decoded source text shows)
shows_decoded _ _ (greater {source} {text} shows) =
    ap (λ (l : List ℕ). 62 ∷ l) (shows_decoded source text shows)

pub shows_alone : (source one other : List ℕ) → Shows source one → Shows source other → one ≡ other
shows_alone source one other first second =
    sym (shows_decoded source one first) ∙ shows_decoded source other second
