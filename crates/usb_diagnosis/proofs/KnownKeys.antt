-- The names of keys.
use Rattle.std.proofs.Common.{◌≡◌, ℕ, List, [], ◌∷◌, map, refl, ap, ◌||◌}
use Rattle.std.specs.List.{list_any}
use Rattle.std.specs.Str.{bytes_eq}
use Rattle.usb_diagnosis.specs.{PlanKey, key_name}

-- a name among those of keys
pub known_names : (name : List ℕ) (keys : List PlanKey)
    → list_any (bytes_eq name) (map key_name keys) ≡ list_any (λ k. bytes_eq name (key_name k)) keys
known_names name [] = refl
known_names name (key ∷ keys) = ap (λ b. bytes_eq name (key_name key) || b) (known_names name keys)
