-- The first bad configuration.
use Rattle.std.proofs.Common.{◌≡◌, ℕ, zero, suc, ◌+◌, ◌<◌, List, Some, None, ap, sym, ◌∙◌, inl, inr}
use Rattle.std.proofs.Common.{arith}
use Rattle.std.specs.Option.{option_or}
use Rattle.std.proofs.lemmas.Bool.{cases_order}
use Rattle.usb_remarks.specs.{Remark, config_remark, configs_remark}

-- the first bad one is the first of more
pub configs_found : (configs : List (List ℕ)) (i n : ℕ) (r : Remark) → i < n
    → configs_remark configs i ≡ None → config_remark configs i ≡ Some r
    → configs_remark configs n ≡ Some r
unfolding configs_remark
configs_found configs i zero r l h k = absurd (omega (arith, l))
configs_found configs i (suc n) r l h k = elim (cases_order i n) [
  | inl e ↦ ap (λ j. option_or (configs_remark configs j) (config_remark configs j)) (sym e)
      ∙ ap (λ o. option_or o (config_remark configs i)) h ∙ k
  | inr (inl m) ↦ ap (λ o. option_or o (config_remark configs n))
      (configs_found configs i n r m h k)
  | inr (inr m) ↦ absurd (omega (arith, l, m))
]

pub configs_passed : (configs : List (List ℕ)) (i : ℕ) → configs_remark configs i ≡ None
    → config_remark configs i ≡ None → configs_remark configs (i + 1) ≡ None
unfolding configs_remark
configs_passed configs i h k = let e : i + 1 ≡ suc i = omega arith in
    rw e (ap (λ o. option_or o (config_remark configs i)) h ∙ k)
