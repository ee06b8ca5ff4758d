-- Paths that rise come to an end.
use Rattle.std.proofs.Common.{◌≡◌, refl, arith, ℕ, ◌+◌, ◌*◌, ◌<◌, ◌≤◌, List, Option, Some, None}
use Rattle.std.proofs.Common.{IfSome, ◌^◌}
use Rattle.std.proofs.Math.Nat.{mul-le-mul_right}
use Rattle.std.proofs.lemmas.Nat.{row_fits}
use Rattle.usb_port.specs.{IsPath, rank_of}
use Rattle.usb_port.proofs.Interface.{bound, rank_of-less}
use Rattle.usb_table.specs.{ComesAfter}

-- how many paths are at most as far as the last one
abbrev pub rank_after : Option (List ℕ) → ℕ
rank_after None = 0
rank_after (Some path) = rank_of path + 1

sixteen : 16 ^ 7 ≡ 268435456
sixteen = refl

pub rank_most : (path : List ℕ) → IsPath path → rank_after (Some path) ≤ 268435456
rank_most path is = omega (arith, bound path is, sixteen)

pub rank_rises : (last : Option (List ℕ)) (path : List ℕ) → IfSome last IsPath → IsPath path
    → ComesAfter last path → rank_after last < rank_after (Some path)
rank_rises last path before is after = grind (arith, rank_of-less)

pub rank_after_most : (last : Option (List ℕ)) → IfSome last IsPath → rank_after last ≤ 268435456
rank_after_most last is = grind (arith, rank_most)

-- so what is done at each of them adds up
pub rank_more : (k : ℕ) (last : Option (List ℕ)) (path : List ℕ) → IfSome last IsPath → IsPath path
    → ComesAfter last path → rank_after last * k + k ≤ rank_after (Some path) * k
rank_more k last path before is after = grind (arith, rank_rises, row_fits)

pub rank_within : (k r : ℕ) → r ≤ 268435456 → r * k ≤ 268435456 * k
rank_within k r le = mul-le-mul_right k le
