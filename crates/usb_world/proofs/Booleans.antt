-- Tests that are joined.
use Rattle.std.proofs.Common.{◌≡◌, ◌&&◌, ◌||◌, ◌⊎◌, inl, inr, Bool, true, false, not, if◌then◌else◌}
use Rattle.std.proofs.Common.{refl, sym}
use Rattle.std.proofs.lemmas.Bool.{false≢true}

pub false_true : {A : Type 0} → false ≡ true → A
false_true h = elim (false≢true h) [ ]

pub both : (a b : Bool) → (a && b) ≡ true → (a ≡ true) × (b ≡ true)
both true b h = (refl, h)
both false b h = false_true h

pub and_of : (a b : Bool) → a ≡ true → b ≡ true → (a && b) ≡ true
and_of true b h g = g
and_of false b h g = h

pub and_false : (a : Bool) → (a && false) ≡ false
and_false true = refl
and_false false = refl

pub or_left : (a b : Bool) → a ≡ true → (a || b) ≡ true
or_left true b h = refl
or_left false b h = false_true h

pub or_right : (a b : Bool) → b ≡ true → (a || b) ≡ true
or_right true b h = refl
or_right false b h = h

pub either_of : (a b : Bool) → (a || b) ≡ true → (a ≡ true) ⊎ (b ≡ true)
either_of true b h = inl refl
either_of false b h = inr h

pub and_kept : (a b c : Bool) → (b ≡ true → c ≡ true) → (a && b) ≡ true → (a && c) ≡ true
and_kept true b c f h = f h
and_kept false b c f h = h

pub and_wider : (a b c d : Bool) → (a ≡ true → b ≡ true) → (c ≡ true → d ≡ true) → (a && c) ≡ true
    → (b && d) ≡ true
and_wider true b c d f g h = and_of b d (f refl) (g h)
and_wider false b c d f g h = false_true h

pub or-rises : (a b c : Bool) → (b ≡ true → c ≡ true) → (a || b) ≡ true → (a || c) ≡ true
or-rises true b c f h = refl
or-rises false b c f h = f h

pub or_wider : (a c d : Bool) → (a ≡ true → c ≡ true) → (a || d) ≡ true → (c || d) ≡ true
or_wider true c d f h = or_left c d (f refl)
or_wider false c d f h = or_right c d h

pub neither : (a b : Bool) → (a || b) ≡ false → (a ≡ false) × (b ≡ false)
neither true b h = false_true (sym h)
neither false b h = (refl, h)

-- a test holds or not
pub decided : (a : Bool) → (a ≡ true) ⊎ (a ≡ false)
decided true = inl refl
decided false = inr refl

pub not-true : (a : Bool) → not a ≡ true → a ≡ false
not-true true h = false_true h
not-true false h = refl

pub neither_of : (a b : Bool) → a ≡ false → b ≡ false → (a || b) ≡ false
neither_of true b h g = h
neither_of false b h g = g

pub and_none : (a b : Bool) → b ≡ false → (a && b) ≡ false
and_none true b h = h
and_none false b h = refl

pub or_nothing : (a : Bool) → (a || false) ≡ a
or_nothing true = refl
or_nothing false = refl

pub same_bools : (a b : Bool) → (a ≡ true → b ≡ true) → (b ≡ true → a ≡ true) → a ≡ b
same_bools true b f g = sym (f refl)
same_bools false true f g = g refl
same_bools false false f g = refl

pub if-true : {A : Type 0} (a : Bool) (x y : A) → a ≡ true → (if a then x else y) ≡ x
if-true true x y h = refl
if-true false x y h = false_true h

pub if-false : {A : Type 0} (a : Bool) (x y : A) → a ≡ false → (if a then x else y) ≡ y
if-false false x y h = refl
if-false true x y h = false_true (sym h)
