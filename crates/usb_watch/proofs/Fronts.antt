-- Lemmas on what a writer took of a piece.
use Rattle.std.proofs.Common.{◌≡◌, ℕ, List, ◌++◌, sym, ap, ◌∙◌, append_assoc, take, drop}
use Rattle.std.proofs.Common.{take-append-drop, ◌-◌, ◌≤◌, length, arith, Bool, true, false, ◌||◌}
use Rattle.std.proofs.Common.{◌&&◌, ◌∷◌, zero, suc}
use Rattle.std.proofs.Common.{not, ◌==◌, Option, None, Result, Ok, Err, refl, subst, [], append-nil}
use Rattle.std.proofs.lemmas.Bool.Decides.{nat_tests}
use Rattle.std.proofs.lemmas.List.{take_rest}
use Rattle.std.specs.Io.KnownBytes.{Appends, Keeps}
use Rattle.std.proofs.KnownBytes.{Appends-trans, Appends-kept, Appends-nil}
use Rattle.usb_watch.specs.{AppendsFront, PendsFront, PutsText, is_some_text}

pub appends_front : (a b : Option (List ℕ)) (gone rest piece : List ℕ) → piece ≡ gone ++ rest
    → Appends a b gone → AppendsFront a b piece
appends_front a b gone rest piece e h = record { gone = gone; rest = rest; split = e; appended = h }

-- a failed write changes no known byte
pub front_kept : (a b c : Option (List ℕ)) (gone rest piece : List ℕ) → piece ≡ gone ++ rest
    → Appends a b gone → Keeps b c → AppendsFront a c piece
front_kept a b c gone rest piece e h k =
    appends_front a c gone rest piece e (Appends-kept a b c gone h k)

-- a front of the second part after all of the first
pub front_after : (a b c : Option (List ℕ)) (xs ys more all : List ℕ) → all ≡ xs ++ (ys ++ more)
    → Appends a b xs → AppendsFront b c ys → AppendsFront a c all
front_after a b c xs ys more all e h f =
    appends_front a c (xs ++ f.gone) (f.rest ++ more) all
    (e ∙ ap (λ l. xs ++ (l ++ more)) f.split ∙ ap (λ l. xs ++ l) (append_assoc f.gone f.rest more)
    ∙ sym (append_assoc xs f.gone (f.rest ++ more)))
    (Appends-trans a b c xs f.gone h f.appended)

pub moves_front : (all done rest : List ℕ) (n : ℕ) → all ≡ done ++ rest
    → all ≡ (done ++ take n rest) ++ take (length rest - n) (drop n rest)
moves_front all done rest n e =
    e ∙ ap (λ l. done ++ l) (sym (take-append-drop n rest))
    ∙ sym (append_assoc done (take n rest) (drop n rest))
    ∙ ap (λ l. (done ++ take n rest) ++ l) (sym (take_rest rest n))

-- a mark that a write which took something leaves
pub unmarked_by : (old new : Bool) (n k : ℕ) → new ≡ (old || ((n == 0) && not (k == 0)))
    → (n ≡ 0 → ⊥) → new ≡ old
unmarked_by true new n k e h = e
unmarked_by false new n k e h = e ∙ grind (arith, nat_tests)

-- a write that took something of the rest leaves a flush due
pub pending_more : (was mid new : Bool) (done rest : List ℕ) (n : ℕ)
    → mid ≡ (was || is_some_text done) → new ≡ (mid || not (n == 0)) → (n ≡ 0 → ⊥)
    → n ≤ length rest → new ≡ (was || is_some_text (done ++ take n rest))
pending_more true mid new done rest n first then some few =
    then ∙ ap (λ m. m || not (n == 0)) first
pending_more false mid new (c ∷ done) rest n first then some few =
    then ∙ ap (λ m. m || not (n == 0)) first
pending_more false mid new [] rest zero first then some few = absurd (some refl)
pending_more false mid new [] (c ∷ rest) (suc n) first then some few =
    then ∙ ap (λ m. m || not (suc n == 0)) first ∙ grind (arith, nat_tests)
pending_more false mid new [] [] (suc n) first then some few = absurd (omega (arith, few))

no_more : (b : Bool) → (b || false) ≡ b
no_more true = refl
no_more false = refl

-- one that took nothing
pub pending_kept : (was mid is : Bool) (a b c : Option (List ℕ)) (gone rest piece : List ℕ)
    → piece ≡ gone ++ rest → Appends a b gone → Keeps b c → mid ≡ (was || is_some_text gone)
    → is ≡ (mid || false) → PendsFront was a is c piece
pending_kept was mid is a b c gone rest piece e h k m n = record {
  gone = gone;
  rest = rest;
  split = e;
  appended = Appends-kept a b c gone h k;
  pending = n ∙ no_more mid ∙ m;
}

-- a front of the first of two parts
pub first_front : (a b : Option (List ℕ)) (xs ys : List ℕ) → AppendsFront a b xs
    → AppendsFront a b (xs ++ ys)
first_front a b xs ys f =
    appends_front a b f.gone (f.rest ++ ys) (xs ++ ys) (ap (λ l. l ++ ys) f.split
    ∙ append_assoc f.gone f.rest ys) f.appended

-- all of the first part, then a front of the second
pub front_after_first : (a b c : Option (List ℕ)) (xs ys : List ℕ) → Appends a b xs
    → AppendsFront b c ys → AppendsFront a c (xs ++ ys)
front_after_first a b c xs ys h f =
    appends_front a c (xs ++ f.gone) f.rest (xs ++ ys) (ap (λ l. xs ++ l) f.split
    ∙ sym (append_assoc xs f.gone f.rest)) (Appends-trans a b c xs f.gone h f.appended)

-- nothing is known of the text, before and after
pub puts_unknown : {T A E : Type 0} (text : T → Option (List ℕ)) (failed : T → Bool) (t : T) (x : A)
    (put : List ℕ) → text t ≡ None → PutsText {E = E} text failed t (Ok x) t put
puts_unknown text failed t x put e =
    let appended = subst (λ o. Appends o o put) (sym e) tt in
    record {
      front = appends_front (text t) (text t) put [] put (sym (append-nil put)) appended;
      ok = appended;
      unmarked = refl;
      marked = tt;
    }

-- no text
pub puts_no_text : {T A E : Type 0} (text : T → Option (List ℕ)) (failed : T → Bool) (t : T) (x : A)
    → PutsText {E = E} text failed t (Ok x) t []
puts_no_text text failed t x =
    let appended = Appends-nil (text t) in
    record {
      front = appends_front (text t) (text t) [] [] [] refl appended;
      ok = appended;
      unmarked = refl;
      marked = tt;
    }

-- a text of two parts: the first went out, and what came of the second
pub puts_then : {T A E : Type 0} (text : T → Option (List ℕ)) (failed : T → Bool) (a b c : T)
    (r : Result A E) (xs ys all : List ℕ) → all ≡ xs ++ ys → Appends (text a) (text b) xs
    → failed b ≡ failed a → PutsText text failed b r c ys → PutsText text failed a r c all
puts_then text failed a b c (Ok x) xs ys all e h same p =
    subst (PutsText text failed a (Ok x) c) (sym e) (record {
      front = front_after_first _ _ _ xs ys h p.front;
      ok = Appends-trans _ _ _ xs ys h p.ok;
      unmarked = p.unmarked ∙ same;
      marked = tt;
    })
puts_then text failed a b c (Err x) xs ys all e h same p =
    subst (PutsText text failed a (Err x) c) (sym e) (record {
      front = front_after_first _ _ _ xs ys h p.front;
      ok = tt;
      unmarked = tt;
      marked = p.marked;
    })
