-- The first item with a fault.
use Rattle.std.proofs.Common.{◌≡◌, ℕ, zero, suc, ◌+◌, ◌-◌, ◌<◌, ◌≤◌, List, [], ◌∷◌, length, drop}
use Rattle.std.proofs.Common.{get_or, Bool, true, false, cond, ◌||◌, ◌&&◌, ◌==◌, nat_lt, Option}
use Rattle.std.proofs.Common.{Some, None, refl, ap, sym, ◌∙◌, arith, length-drop}
use Rattle.std.specs.Option.{option_or}
use Rattle.std.proofs.lemmas.Bool.{ltb-false, or_parts}
use Rattle.std.proofs.lemmas.List.{drop-drop, drop_all}
use Rattle.usb_request.specs.{ENDPOINT, ENDPOINT_LENGTH, INTERFACE, INTERFACE_LENGTH}
use Rattle.usb_descriptor.specs.{DescriptorFault, Length, Total, front_fault}
use Rattle.usb_remarks.specs.{is_too_small, item_remark, item_remark_within, noted}
use Rattle.usb_remarks.specs.declared.text.TextRemark.TheVariants.{Item}

-- what is left to look at
pub record ItemsLeft (text : List ℕ) (at : ℕ) : Type 0 where
  pub fuel : ℕ
  pub enough : length text - at ≤ fuel
  pub same : item_remark_within (length (drop 9 text)) 9 (drop 9 text)
      ≡ item_remark_within fuel at (drop at text)

passed : (b : Bool) (fault : DescriptorFault) (o : Option DescriptorFault)
    → cond b (Some fault) o ≡ None → (b ≡ false) × (o ≡ None)
passed true fault o h = absurd cc
passed false fault o h = (refl, h)

-- an item without a fault has two bytes, and does not pass the end
pub front_long : (rest : List ℕ) → 0 < length rest → front_fault rest ≡ None
    → (2 ≤ get_or rest 0 0) × (get_or rest 0 0 ≤ length rest)
front_long [] some h = absurd (omega arith)
front_long (l ∷ []) some h = absurd cc
front_long (l ∷ t ∷ bytes) some h =
    let a = passed (is_too_small l t) Length _ h in
    let b = passed (nat_lt (length (l ∷ t ∷ bytes)) l) Total _ a.1 in
    let c = or_parts (nat_lt l 2 || (t == INTERFACE && nat_lt l INTERFACE_LENGTH))
    (t == ENDPOINT && nat_lt l ENDPOINT_LENGTH) a.0 in
    let d = or_parts (nat_lt l 2) (t == INTERFACE && nat_lt l INTERFACE_LENGTH) c.0 in
    (ltb-false l 2 d.0, ltb-false (length (l ∷ t ∷ bytes)) l b.0)

pub items_first : (text : List ℕ) → ItemsLeft text 9
items_first text = record {
  fuel = length (drop 9 text);
  enough = omega (arith, length-drop 9 text);
  same = refl;
}

-- the item that begins here has no fault
pub items_next : (text rest : List ℕ) (at : ℕ) → rest ≡ drop at text → 0 < length rest
    → front_fault rest ≡ None → ItemsLeft text at → ItemsLeft text (at + get_or rest 0 0)
items_next text rest at e some good h = next h.fuel rest e some good h.enough h.same
  where
    next : (fuel : ℕ) (rest : List ℕ) → rest ≡ drop at text → 0 < length rest
        → front_fault rest ≡ None → length text - at ≤ fuel
        → item_remark_within (length (drop 9 text)) 9 (drop 9 text)
        ≡ item_remark_within fuel at (drop at text) → ItemsLeft text (at + get_or rest 0 0)
    next fuel [] e some good enough same = absurd (omega arith)
    next zero (l ∷ bytes) e some good enough same = absurd
        (omega (arith, ap length e, length-drop at text))
    next (suc fuel) (l ∷ bytes) e some good enough same =
        let long = front_long (l ∷ bytes) some good in
        let more : l ≡ suc (l - 1) = omega (arith, long.0) in
        let back : drop (l - 1) bytes ≡ drop (at + l) text =
        sym (ap (λ n. drop n (l ∷ bytes)) more) ∙ ap (drop l) e ∙ drop-drop l at text in
        record {
          fuel = fuel;
          enough = omega (arith, long.0);
          same = same ∙ ap (item_remark_within (suc fuel) at) (sym e)
              ∙ ap (λ o. option_or (noted at o) (item_remark_within fuel (at + l)
              (drop (l - 1) bytes))) good ∙ ap (item_remark_within fuel (at + l)) back;
        }

-- it has one
pub items_found : (text rest : List ℕ) (at : ℕ) (fault : DescriptorFault) → rest ≡ drop at text
    → 0 < length rest → front_fault rest ≡ Some fault → ItemsLeft text at
    → Some (Item at fault) ≡ item_remark text
unfolding item_remark
items_found text rest at fault e some bad h = sym (found h.fuel rest e some bad h.enough h.same)
  where
    found : (fuel : ℕ) (rest : List ℕ) → rest ≡ drop at text → 0 < length rest
        → front_fault rest ≡ Some fault → length text - at ≤ fuel
        → item_remark_within (length (drop 9 text)) 9 (drop 9 text)
        ≡ item_remark_within fuel at (drop at text)
        → item_remark_within (length (drop 9 text)) 9 (drop 9 text) ≡ Some (Item at fault)
    found fuel [] e some bad enough same = absurd (omega arith)
    found zero (l ∷ bytes) e some bad enough same = absurd
        (omega (arith, ap length e, length-drop at text))
    found (suc fuel) (l ∷ bytes) e some bad enough same =
        same ∙ ap (item_remark_within (suc fuel) at) (sym e)
        ∙ ap (λ o. option_or (noted at o) (item_remark_within fuel (at + l)
        (drop (l - 1) bytes))) bad

-- nothing is left
pub items_none : (text : List ℕ) (at : ℕ) → length text ≤ at → ItemsLeft text at
    → None ≡ item_remark text
unfolding item_remark
items_none text at end h = sym (h.same ∙ ap (item_remark_within h.fuel at) (drop_all at text end)
    ∙ nothing h.fuel)
  where
    nothing : (fuel : ℕ) → item_remark_within fuel at [] ≡ None
    nothing zero = refl
    nothing (suc fuel) = refl
