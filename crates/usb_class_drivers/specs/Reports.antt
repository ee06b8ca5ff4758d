-- The report of a boot keyboard (HID, appendix B.1).
use Rattle.std.specs.Prelude.{ℕ, List, [], ◌∷◌, Bool, not, ◌&&◌, nat_le, Option, Some, None, filter}
use Rattle.std.specs.Prelude.{◌==◌}
use Rattle.std.specs.List.{list_any}
use Rattle.usb_class_drivers.specs.declared.report.Report.{Report}

-- a byte of modifiers, one that is reserved, and six keys
abbrev pub report_of : List ℕ → Option Report
report_of (modifiers ∷ reserved ∷ a ∷ b ∷ c ∷ d ∷ e ∷ f ∷ rest) =
    Some (record { modifiers = modifiers; keys = a ∷ b ∷ c ∷ d ∷ e ∷ f ∷ [] })
report_of _ = None

-- it has no code that says that too many keys are down
abbrev pub is_known : Report → Bool
is_known report = not (list_any (λ k. k == 1) report.keys)

-- a key, and none that was down before
abbrev pub is_pressed : Report → ℕ → Bool
is_pressed earlier key = nat_le 4 key && not (list_any (λ k. k == key) earlier.keys)

abbrev pub pressed : Report → Report → List ℕ
pressed earlier now = filter (is_pressed earlier) now.keys
