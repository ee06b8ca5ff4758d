-- The keys of a table by its entries.
use Rattle.std.proofs.Common.{◌≡◌, ℕ, List, [], ◌∷◌, map, String, Global, string_bytes, refl, ap}
use Rattle.std.proofs.Common.{◌||◌, Bor}
use Rattle.std.specs.List.{list_any, list_all}
use Rattle.std.specs.Str.{bytes_eq}
use Rattle.std.specs.Map.{keys_of}
use Rattle.toml.specs.declared.value.Value.{Value}
use Rattle.toml.specs.View.{members_view}
use Rattle.usb_plan.specs.{only_named}

any_map : (k : List ℕ) (names : List (Bor (List ℕ)))
    → list_any (bytes_eq k) (map (λ n. n.now) names) ≡ list_any (λ n. bytes_eq k n.now) names
any_map k [] = refl
any_map k (n ∷ names) = ap (λ b. bytes_eq k n.now || b) (any_map k names)

pub only_named-refs : (names : List (Bor (List ℕ))) (es : List (String Global × Value))
    → only_named (map (λ n. n.now) names) (members_view es)
    ≡ list_all (λ k. list_any (λ n. bytes_eq (string_bytes k) n.now) names) (keys_of es)
unfolding only_named
only_named-refs names [] = refl
only_named-refs names (e ∷ es) = rw (any_map (string_bytes e.0) names, only_named-refs names es)
