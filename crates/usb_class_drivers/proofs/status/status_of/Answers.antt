use Rattle.std.proofs.Common.{◌≡◌, ℕ, ◌<◌, List, [], ◌∷◌, length, get_or, refl, arith, rules}
use Rattle.std.proofs.Common.{lit<, suc, w32, zero}
use Rattle.std.specs.Int.{from_le_bytes, to_le_bytes}
use Rattle.std.proofs.lemmas.Nat.{le_bytes_4}
use Rattle.usb_class_drivers.proofs.status.status_of.Goals as goal

-- the bytes of a list of thirteen
thirteen : (bs : List ℕ) → length bs ≡ 13 → bs
    ≡ get_or bs 0 0 ∷ get_or bs 1 0 ∷ get_or bs 2 0 ∷ get_or bs 3 0
    ∷ get_or bs 4 0 ∷ get_or bs 5 0 ∷ get_or bs 6 0 ∷ get_or bs 7 0
    ∷ get_or bs 8 0 ∷ get_or bs 9 0 ∷ get_or bs 10 0 ∷ get_or bs 11 0 ∷ get_or bs 12 0 ∷ []
thirteen (a ∷ b ∷ c ∷ d ∷ e ∷ f ∷ g ∷ h ∷ i ∷ j ∷ k ∷ l ∷ m ∷ []) long = refl
thirteen _ long = absurd (omega arith)

-- each of the four bytes of the residue is small
small : (bs : List ℕ) → ((i : ℕ) → get_or bs i 0 < 256) → (i : ℕ)
    → get_or (get_or bs 8 0 ∷ get_or bs 9 0 ∷ get_or bs 10 0 ∷ get_or bs 11 0 ∷ []) i 0 < 256
small bs fits zero = fits 8
small bs fits (suc zero) = fits 9
small bs fits (suc (suc zero)) = fits 10
small bs fits (suc (suc (suc zero))) = fits 11
small bs fits (suc (suc (suc (suc i)))) = lit< tt

pub returns-clause-some : goal.returns-clause-some
returns-clause-some c =
    let bs = c.args.bytes.now in
    let signature : (get_or bs 0 0 ∷ get_or bs 1 0 ∷ get_or bs 2 0 ∷ get_or bs 3 0 ∷ [])
    ≡ (0x55 ∷ 0x53 ∷ 0x42 ∷ 0x53 ∷ []) = search rules in
    let own : (get_or bs 4 0 ∷ get_or bs 5 0 ∷ get_or bs 6 0 ∷ get_or bs 7 0 ∷ [])
    ≡ to_le_bytes w32 c.args.tag = search rules in
    let rest : c.from_le_bytes.result ≡ from_le_bytes w32
    (get_or bs 8 0 ∷ get_or bs 9 0 ∷ get_or bs 10 0 ∷ get_or bs 11 0 ∷ []) = search rules in
    let fits : (i : ℕ) → get_or bs i 0 < 256 = λ i. omega (arith, c.type_inv.bytes i) in
    let residue = le_bytes_4
    (get_or bs 8 0 ∷ get_or bs 9 0 ∷ get_or bs 10 0 ∷ get_or bs 11 0 ∷ [])
    c.from_le_bytes.result refl (small bs fits) rest in
    let whole = thirteen bs (omega arith) in
    let last = c.in_ok-outcome_of.ensures.some in
    cc (whole, signature, own, residue, last)
