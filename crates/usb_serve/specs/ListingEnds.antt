-- The last line of a listing.
use Rattle.std.specs.Prelude.{◌≡◌, ℕ, List, [], ◌∷◌, codes}

-- the pieces of a line are the last line of a listing, and the end of the line
abbrev pub IsListingEnd : List (List ℕ) → Type 0
IsListingEnd pieces = pieces ≡ codes "end" ∷ codes "\n" ∷ []
