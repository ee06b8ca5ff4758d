-- What a buffer takes of a text.
use Rattle.std.proofs.Common.{◌≡◌, ◌∙◌, ◌+◌, ◌-◌, ◌<◌, ◌≤◌, ◌==◌, ◌&&◌, ◌||◌, not, ℕ, List, ◌++◌}
use Rattle.std.proofs.Common.{Option, Bool, true, false, Err, ap, arith, drop, length, subst, sym}
use Rattle.std.proofs.Common.{take, take-append-drop, refl, [], ◌∷◌, append_assoc, flat_map, get_or}
use Rattle.std.proofs.Common.{suc, zero}
use Rattle.std.proofs.lemmas.Bool.Decides.{nat_tests}
use lib.Seq.{take-add, take-take}
use Rattle.std.specs.Io.KnownBytes.{Appends}
use Rattle.std.proofs.KnownBytes.{Appends-trans}
use Rattle.usb_watch.specs.{PutsText}
use Rattle.usb_watch.proofs.Interface.{appends_front}

-- some of a text was taken, and then some more
pub wrote_more : (a b c : Option (List ℕ)) (xs : List ℕ) (done n : ℕ) → n ≤ length xs - done
    → Appends a b (take done xs) → Appends b c (take n (take (length xs - done) (drop done xs)))
    → Appends a c (take (done + n) xs)
wrote_more a b c xs done n fits h more =
    subst (Appends a c)
    (ap (λ l. take done xs ++ l) (take-take n (length xs - done) (drop done xs) fits)
    ∙ sym (take-add done n xs))
    (Appends-trans a b c (take done xs) (take n (take (length xs - done) (drop done xs))) h more)

-- pieces, up to one of them and from then on
pub pieces_split : {A : Type 0} (f : A → List ℕ) (vs : List A) (i : ℕ) (d : A) → i < length vs
    → flat_map f vs ≡ flat_map f (take i vs) ++ (f (get_or vs i d) ++ flat_map f (drop (suc i) vs))
pieces_split f [] i d lt = absurd (omega (arith, lt))
pieces_split f (x ∷ vs) zero d lt = refl
pieces_split f (x ∷ vs) (suc i) d lt =
    ap (λ l. f x ++ l) (pieces_split f vs i d (omega (arith, lt)))
    ∙ sym (append_assoc (f x) (flat_map f (take i vs))
    (f (get_or vs i d) ++ flat_map f (drop (suc i) vs)))

-- a mark that a write which took something leaves
pub took : (old new : Bool) (n k : ℕ) → new ≡ ((n == 0) && not (k == 0)) → (n ≡ 0 → ⊥)
    → (old ≡ true → false ≡ true) → new ≡ old
took true new n k mark some none = absurd (cc (none refl))
took false new n k mark some none = mark ∙ grind (arith, nat_tests, some)

pub took_more : (old new : Bool) (n k : ℕ) → new ≡ (old || ((n == 0) && not (k == 0)))
    → (n ≡ 0 → ⊥) → old ≡ false → new ≡ false
took_more true new n k mark some none = absurd (cc none)
took_more false new n k mark some none = mark ∙ grind (arith, nat_tests, some)

-- one that a write which took nothing sets
pub took_none : (new : Bool) (n k : ℕ) → new ≡ ((n == 0) && not (k == 0)) → n ≡ 0 → 0 < k
    → new ≡ true
took_none new n k mark none some = mark ∙ grind (arith, nat_tests, none, some)

-- a prefix of a text was put, and then a write failed
pub puts_front : {T A E : Type 0} (text : T → Option (List ℕ)) (failed : T → Bool) (old new : T)
    (e : E) (put : List ℕ) (done : ℕ) → Appends (text old) (text new) (take done put)
    → failed new ≡ true → PutsText {A = A} text failed old (Err e) new put
puts_front text failed old new e put done gone marked = record {
  front = appends_front (text old) (text new) (take done put) (drop done put) put
      (sym (take-append-drop done put)) gone;
  ok = tt;
  unmarked = tt;
  marked = marked;
}
