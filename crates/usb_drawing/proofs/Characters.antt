-- Units of strings as characters.
use Rattle.std.proofs.Common.{◌≡◌, ◌∙◌, sym, ap, arith, inl, inr, ℕ, ◌<◌, true, false, Option, None}
use Rattle.std.proofs.Common.{Some, ◌&&◌, nat_le, nat_lt, if◌then◌else◌, MatchOption, SomeIff}
use Rattle.std.specs.Char.{IsScalar, InScalarRange, OutOfScalarRange}
use Rattle.std.specs.Char.Utf16.{lone_unit_char}
use Rattle.std.proofs.lemmas.Bool.Decides.{nat_tests}

-- a unit is a character of its own, where it is no surrogate
pub lone_same : (u : ℕ) (r : Option ℕ) → u < 65536 → SomeIff r (IsScalar u) u
    → MatchOption r (OutOfScalarRange u) (λ _. InScalarRange u) → r ≡ lone_unit_char u
lone_same u None small value (inl range) =
    let surrogate : (nat_le 0xD800 u && nat_lt u 0xE000) ≡ true = grind (arith, nat_tests, range) in
    ap (λ b. if b then None else Some u) (sym surrogate)
lone_same u None small value (inr beyond) = absurd (omega (arith, small, beyond))
lone_same u (Some c) small value (inl below) =
    let none : (nat_le 0xD800 u && nat_lt u 0xE000) ≡ false = grind (arith, nat_tests, below) in
    ap Some value.1 ∙ ap (λ b. if b then None else Some u) (sym none)
lone_same u (Some c) small value (inr range) =
    let none : (nat_le 0xD800 u && nat_lt u 0xE000) ≡ false = grind (arith, nat_tests, range) in
    ap Some value.1 ∙ ap (λ b. if b then None else Some u) (sym none)
