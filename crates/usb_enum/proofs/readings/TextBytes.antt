-- How many bytes texts have together, and what they leave of a budget.
use Rattle.std.proofs.Common.{◌≡◌, ◌<◌, ◌≤◌, ◌+◌, ℕ, zero, suc, true, false, List, [], ◌∷◌, ◌++◌}
use Rattle.std.proofs.Common.{map, take, length, slice_get, Option, Some, Ok, is_ok, refl, ap, sym}
use Rattle.std.proofs.Common.{◌∙◌, arith}
use Rattle.std.specs.List.{sum_by}
use Rattle.std.proofs.lemmas.Bool.{and_parts}
use Rattle.std.proofs.lemmas.List.{get_or-take}
use Rattle.std.proofs.lemmas.List.Sums.{sum_by-cons, sum_by_push}
use Rattle.usb_descriptor.specs.{config_head_of, config_of, total_in}
use Rattle.usb_descriptor.proofs.Interface.{header_of}
use Rattle.usb_device.specs.{Spec, said_length}
use Rattle.usb_enum.specs.{HasConfigurations, is_good_text, is_over, left_of, said_below, text_read}
use Rattle.usb_enum.specs.{texts_length}
use Rattle.usb_enum.proofs.readings.SettingValues.{each_good, fresh_text, ok_total}

-- One text

-- a configuration text is as long as its head says
config_total : (bytes : List ℕ) → is_ok (config_of bytes) ≡ true
    → config_head_of bytes ≡ Ok (length bytes)
unfolding config_of
config_total bytes ok = grind arith

-- what is read of a good text is as long as that
good_length : (text : List ℕ) → is_good_text text ≡ true
    → length (text_read text) ≡ said_length text
unfolding text_read said_length
good_length text good =
    let head = config_head_of (take 9 text) in
    let total : ℕ = total_in head in
    let read = take total text in
    let parts = and_parts (is_ok head) (is_ok (config_of read)) good in
    let said = header_of (take 9 text) total (ok_total head parts.0) in
    let whole = header_of read (length read) (config_total read parts.1) in
    grind (arith, get_or-take)

-- Some texts

lengths_said : (n : ℕ) (xs : List (List ℕ))
    → ((i : ℕ) (text : List ℕ) → i < n → slice_get xs i ≡ Some text → is_good_text text ≡ true)
    → texts_length (map text_read (take n xs)) ≡ sum_by said_length (take n xs)
lengths_said zero xs goods = refl
lengths_said (suc n) [] goods = refl
lengths_said (suc n) (x ∷ xs) goods =
    sum_by-cons length (text_read x) (map text_read (take n xs))
    ∙ ap (λ k. k + texts_length (map text_read (take n xs)))
    (good_length x (goods zero x (omega arith) refl))
    ∙ ap (λ k. said_length x + k)
    (lengths_said n xs (λ i text below e. goods (suc i) text (omega (arith, below)) e))
    ∙ sym (search sum_by-cons)

-- those that were read have as many bytes as their heads say
pub kept_said : {budget : Option ℕ} {count : ℕ} {texts : List (List ℕ)} {spec : Spec}
    → HasConfigurations budget count texts spec → texts_length texts ≡ said_below spec count
kept_said {budget} {count} {spec} has =
    ap texts_length has.read
    ∙ lengths_said count spec.configs
    (λ i text below e. (fresh_text (left_of budget (said_below spec i)) spec i text e
    (search each_good)).good)

-- and leave as much as what was said
pub left_said : {budget : Option ℕ} (room : Option ℕ) {count : ℕ} {texts : List (List ℕ)}
    {spec : Spec} → room ≡ left_of budget (texts_length texts)
    → HasConfigurations budget count texts spec → room ≡ left_of budget (said_below spec count)
left_said {budget} room same has =
    same ∙ ap (left_of budget) (kept_said has)

-- Within a budget

pub within_none : (budget : Option ℕ) (texts : List (List ℕ)) → texts ≡ []
    → is_over budget (texts_length texts) ≡ false
within_none budget texts none = grind arith

pub left_none : (budget : Option ℕ) (texts : List (List ℕ)) → texts ≡ []
    → budget ≡ left_of budget (texts_length texts)
left_none budget texts none = grind arith

-- as long as what is left
pub within_shorter : (room : Option ℕ) (bytes most : ℕ) → bytes ≤ most → is_over room most ≡ false
    → is_over room bytes ≡ false
within_shorter room bytes most less fits = grind arith

-- one text more
module _ (texts : List (List ℕ)) (text : List ℕ) where
  texts_more : texts_length (texts ++ text ∷ []) ≡ texts_length texts + length text
  texts_more = sum_by_push length texts text

  pub left_more : (budget room : Option ℕ) → room ≡ left_of budget (texts_length texts)
      → left_of room (length text) ≡ left_of budget (texts_length (texts ++ text ∷ []))
  left_more budget room same = grind (arith, texts_more)

  pub within_more : (budget room : Option ℕ) → room ≡ left_of budget (texts_length texts)
      → is_over budget (texts_length texts) ≡ false → is_over room (length text) ≡ false
      → is_over budget (texts_length (texts ++ text ∷ [])) ≡ false
  within_more budget room same kept fits = grind (arith, texts_more)
