-- The words of a line.
use Rattle.std.specs.Prelude.{◌≡◌, ℕ, ◌≤◌, ◌==◌, ◌&&◌, nat_le, Bool, List, [], ◌∷◌, length}
use Rattle.std.specs.List.{list_all, slice_split}
use Rattle.usb_wire.specs.declared.words.Words.{Words}
use Rattle.usb_wire.specs.declared.words.Words.TheVariants.{One, Two, Three, Four, More}

-- they stand one space apart
abbrev pub words : List ℕ → List (List ℕ)
words line = slice_split (λ c. c == 32) line

-- printable ASCII
abbrev pub is_printable : ℕ → Bool
is_printable c = nat_le 32 c && nat_le c 126

abbrev pub all_printable : List ℕ → Bool
all_printable text = list_all is_printable text

-- the words are these
abbrev pub AreWords : List (List ℕ) → Words → Type 0
AreWords ws (One a) = ws ≡ a.now ∷ []
AreWords ws (Two a b) = ws ≡ a.now ∷ b.now ∷ []
AreWords ws (Three a b c) = ws ≡ a.now ∷ b.now ∷ c.now ∷ []
AreWords ws (Four a b c d) = ws ≡ a.now ∷ b.now ∷ c.now ∷ d.now ∷ []
AreWords ws More = 5 ≤ length ws
