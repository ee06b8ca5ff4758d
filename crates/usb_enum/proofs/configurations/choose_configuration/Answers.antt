-- The first text that needs little enough is that of the first need that is little enough.
use Rattle.std.proofs.Common.{rules, tests, ◌≡◌, ◌∙◌, refl, sym, ap, ℕ, ◌+◌, Bool, cond, not, List}
use Rattle.std.proofs.Common.{[], ◌∷◌, map, nat_le, position}
use Rattle.std.proofs.lemmas.Iterator.{YieldsList-from_slice}
use Rattle.std.proofs.lemmas.Iterator.Search.{position_from_yields_List}
use Rattle.std.proofs.lemmas.List.{length-map}
use Rattle.std.specs.List.{prefix_len}
use Rattle.usb_enum.specs.{need_of, needs_of, choice_of}
use Rattle.usb_enum.proofs.configurations.choose_configuration.Goals as goal

prefix_of_mapped : (p : ℕ → Bool) (f : List ℕ → ℕ) (xs : List (List ℕ))
    → prefix_len p (map f xs) ≡ prefix_len (λ x. p (f x)) xs
prefix_of_mapped p f [] = refl
prefix_of_mapped p f (x ∷ xs) =
    ap (λ (n : ℕ). cond (p (f x)) (1 + n) 0) (prefix_of_mapped p f xs)

position_of_mapped : (p : ℕ → Bool) (f : List ℕ → ℕ) (xs : List (List ℕ))
    → position p (map f xs) ≡ position (λ x. p (f x)) xs
position_of_mapped p f xs =
    rw (prefix_of_mapped (λ n. not (p n)) f xs) (rw (length-map xs f) refl)

first_of_mapped : (supply : ℕ) (texts : List (List ℕ))
    → position (λ text. nat_le (need_of text) supply) texts ≡ choice_of supply texts
unfolding needs_of
first_of_mapped supply texts = sym (position_of_mapped (λ need. nat_le need supply) need_of texts)

pub returns-clause-chosen : goal.returns-clause-chosen
returns-clause-chosen c =
    let supply = c.args.supply in
    let texts = c.as_slice.result.now in
    position_from_yields_List (λ text. nat_le (need_of text) supply) _ _ _ c.position.ensures.ran
    (YieldsList-from_slice texts cc) (λ x b q k. search (rules, tests))
    ∙ first_of_mapped supply texts ∙ ap (choice_of supply) c.as_slice.ensures
