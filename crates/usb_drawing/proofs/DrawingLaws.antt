-- A drawing has one line for each entry, in their order.
use Rattle.std.proofs.Common.{◌≡◌, refl, ap, arith, add-one, ℕ, suc, ◌+◌, List, [], ◌∷◌, ◌++◌}
use Rattle.std.proofs.Common.{length, Bool, Some, slice_get}
use Rattle.usb_enum.specs.{Finding}
use Rattle.usb_serve.specs.{Entries, SpecTree}
use Rattle.usb_drawing.specs.{Style, drawing_lines, drawn_entries, ruled_line}

length-entry_lines : (style : Style) (wide : Bool) (tree : SpecTree) (all entries : Entries)
    → length (drawn_entries style wide tree all entries) ≡ length entries
length-entry_lines style wide tree all [] = refl
length-entry_lines style wide tree all (entry ∷ behind) =
    ap suc (length-entry_lines style wide tree all behind)

pub drawing_lines-length : (style : Style) (number : ℕ) (wide : Bool) (tree : SpecTree)
    (entries : Entries) → length (drawing_lines style number wide tree entries) ≡ length entries + 1
unfolding drawing_lines
drawing_lines-length style number wide tree entries = let each =
    length-entry_lines style wide tree entries entries in omega (arith, each)

entry_lines_at : (style : Style) (wide : Bool) (tree : SpecTree) (all before behind : Entries)
    (e : List ℕ × Finding)
    → slice_get (drawn_entries style wide tree all (before ++ e ∷ behind)) (length before)
    ≡ Some (ruled_line style wide tree all e behind)
entry_lines_at style wide tree all [] behind e = refl
entry_lines_at style wide tree all (b ∷ before) behind e =
    entry_lines_at style wide tree all before behind e

pub order : (style : Style) (number : ℕ) (wide : Bool) (tree : SpecTree) (before behind : Entries)
    (e : List ℕ × Finding)
    → slice_get (drawing_lines style number wide tree (before ++ e ∷ behind)) (length before + 1)
    ≡ Some (ruled_line style wide tree (before ++ e ∷ behind) e behind)
unfolding drawing_lines
order style number wide tree before behind e =
    rw add-one (entry_lines_at style wide tree (before ++ e ∷ behind) before behind e)
