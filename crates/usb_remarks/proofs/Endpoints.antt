-- The first endpoint descriptor that counts.
use Rattle.std.proofs.Common.{◌≡◌, ℕ, zero, suc, ◌+◌, ◌-◌, ◌<◌, ◌≤◌, List, [], ◌∷◌, length, drop}
use Rattle.std.proofs.Common.{get_or, Bool, true, false, ◌&&◌, ◌==◌, nat_lt, Some, None}
use Rattle.std.proofs.Common.{refl, ap, sym, ◌∙◌, arith, length-drop, if◌then◌else◌}
use Rattle.std.proofs.lemmas.Bool.{ltb-false}
use Rattle.std.proofs.lemmas.List.{drop-drop, drop_all}
use Rattle.usb_request.specs.{ENDPOINT}
use Rattle.usb_remarks.specs.{counts_behind, endpoint_within, first_endpoint}

-- what is left to look at
pub record EndpointsLeft (text : List ℕ) (at : ℕ) (counts : Bool) : Type 0 where
  pub fuel : ℕ
  pub enough : length text - at ≤ fuel
  pub same : endpoint_within (length (drop 9 text)) 9 false (drop 9 text)
      ≡ endpoint_within fuel at counts (drop at text)

-- the item that begins here is no endpoint that counts
pub endpoints_next : (text rest : List ℕ) (at : ℕ) (counts : Bool) → rest ≡ drop at text
    → 0 < length rest → nat_lt (get_or rest 0 0) 2 ≡ false
    → (counts && get_or rest 1 0 == ENDPOINT) ≡ false → EndpointsLeft text at counts
    → EndpointsLeft text (at + get_or rest 0 0) (counts_behind counts rest)
endpoints_next text rest at counts e some long other h =
    next h.fuel rest e some long other h.enough h.same
  where
    next : (fuel : ℕ) (rest : List ℕ) → rest ≡ drop at text → 0 < length rest
        → nat_lt (get_or rest 0 0) 2 ≡ false → (counts && get_or rest 1 0 == ENDPOINT) ≡ false
        → length text - at ≤ fuel
        → endpoint_within (length (drop 9 text)) 9 false (drop 9 text)
        ≡ endpoint_within fuel at counts (drop at text)
        → EndpointsLeft text (at + get_or rest 0 0) (counts_behind counts rest)
    next fuel [] e some long other enough same = absurd (omega arith)
    next zero (l ∷ bytes) e some long other enough same = absurd
        (omega (arith, ap length e, length-drop at text))
    next (suc fuel) (l ∷ bytes) e some long other enough same =
        let two = ltb-false l 2 long in
        let more : l ≡ suc (l - 1) = omega (arith, two) in
        let back : drop (l - 1) bytes ≡ drop (at + l) text =
        sym (ap (λ n. drop n (l ∷ bytes)) more) ∙ ap (drop l) e ∙ drop-drop l at text in
        let later = endpoint_within fuel (at + l) (counts_behind counts (l ∷ bytes)) in
        record {
          fuel = fuel;
          enough = omega (arith, two);
          same = same ∙ ap (endpoint_within (suc fuel) at counts) (sym e)
              ∙ ap (λ b. if b then None else if counts && get_or (l ∷ bytes) 1 0 == ENDPOINT
              then Some at else later (drop (l - 1) bytes)) long
              ∙ ap (λ b. if b then Some at else later (drop (l - 1) bytes)) other
              ∙ ap later back;
        }

-- it is one
pub endpoints_found : (text rest : List ℕ) (at : ℕ) (counts : Bool) → rest ≡ drop at text
    → 0 < length rest → nat_lt (get_or rest 0 0) 2 ≡ false
    → (counts && get_or rest 1 0 == ENDPOINT) ≡ true → EndpointsLeft text at counts
    → Some at ≡ first_endpoint text
unfolding first_endpoint
endpoints_found text rest at counts e some long is h =
    sym (found h.fuel rest e some long is h.enough h.same)
  where
    found : (fuel : ℕ) (rest : List ℕ) → rest ≡ drop at text → 0 < length rest
        → nat_lt (get_or rest 0 0) 2 ≡ false → (counts && get_or rest 1 0 == ENDPOINT) ≡ true
        → length text - at ≤ fuel
        → endpoint_within (length (drop 9 text)) 9 false (drop 9 text)
        ≡ endpoint_within fuel at counts (drop at text)
        → endpoint_within (length (drop 9 text)) 9 false (drop 9 text) ≡ Some at
    found fuel [] e some long is enough same = absurd (omega arith)
    found zero (l ∷ bytes) e some long is enough same = absurd
        (omega (arith, ap length e, length-drop at text))
    found (suc fuel) (l ∷ bytes) e some long is enough same =
        let later = endpoint_within fuel (at + l) (counts_behind counts (l ∷ bytes)) in
        same ∙ ap (endpoint_within (suc fuel) at counts) (sym e)
        ∙ ap (λ b. if b then None else if counts && get_or (l ∷ bytes) 1 0 == ENDPOINT
        then Some at else later (drop (l - 1) bytes)) long
        ∙ ap (λ b. if b then Some at else later (drop (l - 1) bytes)) is

-- nothing is left
pub endpoints_none : (text : List ℕ) (at : ℕ) (counts : Bool) → length text ≤ at
    → EndpointsLeft text at counts → None ≡ first_endpoint text
unfolding first_endpoint
endpoints_none text at counts end h = sym (h.same
    ∙ ap (endpoint_within h.fuel at counts) (drop_all at text end) ∙ nothing h.fuel)
  where
    nothing : (fuel : ℕ) → endpoint_within fuel at counts [] ≡ None
    nothing zero = refl
    nothing (suc fuel) = refl
