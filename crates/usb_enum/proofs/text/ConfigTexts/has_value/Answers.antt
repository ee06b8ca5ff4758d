-- `any` and the definition decide the same: some text has the value.
use Rattle.std.proofs.Common.{◌≡◌, ◌≢◌, ℕ, ◌<◌, Bool, true, false, eqb, List, [], length, Decides}
use Rattle.std.proofs.Common.{MatchBool, refl, arith, rules, tests}
use Rattle.std.specs.List.{HoldsAt, AllWithin}
use Rattle.std.proofs.lemmas.Iterator.{cases_from_any, YieldsList-from_slice}
use Rattle.std.proofs.lemmas.Bool.{false≢true}
use Rattle.std.proofs.lemmas.Bool.Decides.{same_from_decides, Decides-by_or, Decides-eqb}
use Rattle.usb_descriptor.specs.{configuration_value}
use Rattle.usb_enum.specs.{any_has_value}
use Rattle.usb_enum.proofs.text.ConfigTexts.has_value.Goals as goal

abbrev Has : ℕ → List ℕ → Type 0
Has value text = configuration_value text ≡ value

abbrev HasSome : ℕ → List (List ℕ) → Type 0
HasSome value texts = (k : ℕ) × (k < length texts) × HoldsAt (Has value) texts k

decides_cases : (value : ℕ) (r : Bool) (texts : List (List ℕ))
    → MatchBool r (HasSome value texts) (AllWithin (λ text. configuration_value text ≢ value) texts
    0 (length texts)) → Decides r (HasSome value texts)
decides_cases value true texts h = (λ _. h, λ _. refl)
decides_cases value false texts h =
    (λ e. absurd (false≢true e), λ w. absurd (h w.0 [] (omega arith) w.1 (w.2 [])))

pub returns : goal.returns
returns c =
    let texts = c.args.self.now in
    let value = c.args.value in
    let by_call = cases_from_any _ _ _ (Has value) (λ text. configuration_value text ≢ value)
    c.any.ensures.ran (YieldsList-from_slice texts cc) (λ x q k. search (rules, tests))
    (λ x q k. search (rules, tests)) in
    let by_spec = Decides-by_or (λ text. eqb (configuration_value text) value) (Has value)
    (any_has_value value) (λ text. Decides-eqb (configuration_value text) value) refl
    (λ _ _. refl) texts in
    same_from_decides _ (any_has_value value texts) (decides_cases value _ texts by_call) by_spec
