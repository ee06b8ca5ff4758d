-- The text of a number in the words.
use Rattle.std.proofs.Common.{◌≡◌, refl, ℕ, List, Option, Some, None, option_and_then}
use Rattle.std.proofs.Common.{option_map, slice_get}
use Rattle.std.specs.List.{find}
use Rattle.std.specs.Str.{bytes_eq}
use Rattle.clap.specs.Values.{read_as}
use Rattle.clap.specs.Walk.{Row, Text, first_of, one_of, row_text}

-- the text that a number is read from
pub number_text : (o : Option (List ℕ)) (r : Option ℕ) (n : ℕ) → (o ≡ None → r ≡ None) → r ≡ Some n
    → (t : List ℕ) × (o ≡ Some t)
number_text (Some t) r n none some = (t, λ i. Some t)
number_text None r n none some = let gone : r ≡ None = none (λ i. None) in cc

mapped_none : (o : Option Text) (f : Text → Text) → o ≡ None → option_map f o ≡ None
mapped_none None f none = refl
mapped_none (Some t) f none = absurd (cc)

row_none : (o : Option Row) → option_and_then (λ r. slice_get r.values 0) o ≡ None
    → option_and_then row_text o ≡ None
row_none None none = refl
row_none (Some r) none = mapped_none (slice_get r.values 0) (read_as r.reading) none

-- where there is no text, none is read
pub first_none : (id : Text) (rows : List Row) → first_of id rows ≡ None → one_of id rows ≡ None
first_none id rows none = row_none (find (λ r. bytes_eq r.id id) rows) none
