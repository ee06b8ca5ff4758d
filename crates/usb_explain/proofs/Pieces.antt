-- Texts that go out one after the other.
use Rattle.std.proofs.Common.{◌≡◌, ℕ, Bool, true, List, ◌++◌, Option, Result, Ok, Err, IsErrAnd}
use Rattle.std.proofs.Common.{sym, ap, subst, ◌∙◌, append_assoc}
use Rattle.std.proofs.KnownBytes.{Appends-trans}
use Rattle.std.specs.Io.KnownBytes.{Appends}
use Rattle.usb_watch.specs.{AppendsFront, PutsText}
use Rattle.usb_watch.proofs.Interface.{front_after_first}

-- the first of two went out, and what came of the second
pub puts_after : {T A E : Type 0} (text : T → Option (List ℕ)) (failed : T → Bool) (a b c : T)
    (r : Result A E) (xs ys all : List ℕ) → all ≡ xs ++ ys → Appends (text a) (text b) xs
    → failed b ≡ failed a → PutsText text failed b r c ys → PutsText text failed a r c all
puts_after text failed a b c (Ok x) xs ys all e h same p =
    subst (PutsText text failed a (Ok x) c) (sym e) (record {
      front = front_after_first _ _ _ xs ys h p.front;
      ok = Appends-trans _ _ _ xs ys h p.ok;
      unmarked = p.unmarked ∙ same;
      marked = tt;
    })
puts_after text failed a b c (Err x) xs ys all e h same p =
    subst (PutsText text failed a (Err x) c) (sym e) (record {
      front = front_after_first _ _ _ xs ys h p.front;
      ok = tt;
      unmarked = tt;
      marked = p.marked;
    })

-- the first of two went out in part
pub puts_cut : {T A E : Type 0} (P : E → Type 0) (text : T → Option (List ℕ)) (failed : T → Bool)
    (a b : T) (r : Result A E) (xs ys : List ℕ) → IsErrAnd r P
    → AppendsFront (text a) (text b) xs → failed b ≡ true → PutsText text failed a r b (xs ++ ys)
puts_cut P text failed a b (Ok x) xs ys is f marked = absurd is
puts_cut P text failed a b (Err x) xs ys is f marked = record {
  front = record {
    gone = f.gone;
    rest = f.rest ++ ys;
    split = ap (λ l. l ++ ys) f.split ∙ append_assoc f.gone f.rest ys;
    appended = f.appended;
  };
  ok = tt;
  unmarked = tt;
  marked = marked;
}
