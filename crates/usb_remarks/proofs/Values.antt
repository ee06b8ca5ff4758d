-- The values of configurations.
use Rattle.std.proofs.Common.{◌≡◌, ℕ, Bool, List, [], ◌∷◌, map, not, refl, ap, ◌&&◌, ◌||◌, ◌==◌}
use Rattle.std.specs.List.{list_all, list_any}
use Rattle.usb_descriptor.specs.{configuration_value}
use Rattle.usb_enum.specs.{any_has_value, text_read}
use Rattle.usb_remarks.specs.{has_status, lack_status}

-- a value among those of texts
pub value_among : (value : ℕ) (texts : List (List ℕ)) → any_has_value value (map text_read texts)
    ≡ list_any (λ text. configuration_value (text_read text) == value) texts
value_among value [] = refl
value_among value (text ∷ texts) = ap (λ b. configuration_value (text_read text) == value || b)
    (value_among value texts)

-- texts without a status endpoint
pub all_lacking : (wide : Bool) (ports : ℕ) (texts : List (List ℕ))
    → lack_status wide ports (map text_read texts)
    ≡ list_all (λ text. not (has_status wide ports (text_read text))) texts
all_lacking wide ports [] = refl
all_lacking wide ports (text ∷ texts) = ap (λ b. not (has_status wide ports (text_read text)) && b)
    (all_lacking wide ports texts)
