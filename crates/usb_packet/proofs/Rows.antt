-- Packets in a row: how many bytes they have, and how often the toggle turned.
use Rattle.std.proofs.Common.{◌≡◌, ◌≢◌, ℕ, ◌+◌, ◌*◌, ◌<◌, nat_eq, Bool, false, List, ◌++◌, length}
use Rattle.std.proofs.Common.{refl, sym, ap, ◌∙◌, add-one, length-append, arith}
use Rattle.std.proofs.lemmas.Bool.{eqb-false}
use Rattle.usb_packet.specs.{Toggle, flips, other}

pub flips_none : (toggle : Toggle) → toggle ≡ flips 0 toggle
unfolding flips
flips_none toggle = refl

pub flips_next : (n : ℕ) (first due next : Toggle) → due ≡ flips n first → next ≡ other due
    → next ≡ flips (n + 1) first
unfolding flips
flips_next n first due next e f = rw (add-one n) (f ∙ ap other e)

pub next_size : (moved max : ℕ) (got bytes : List ℕ) → length got ≡ moved * max
    → length bytes ≡ max → length (got ++ bytes) ≡ (moved + 1) * max
next_size moved max got bytes e f = omega (arith, length-append got bytes, e, f)

-- a slice that is not empty
pub nonzero : (n : ℕ) (b : Bool) → b ≡ nat_eq n 0 → b ≡ false → 0 < n
nonzero n b is e = let no : n ≢ 0 = eqb-false n 0 (sym is ∙ e) in omega arith
