-- Devices, damages and values that are copied one by one.
use Rattle.std.proofs.Common.{◌≡◌, ◌<◌, ℕ, zero, suc, List, [], ◌∷◌, take, drop, length, get_or}
use Rattle.std.proofs.Common.{refl, ap, sym, Bool, true, false, not, arith, map, cond, String}
use Rattle.std.proofs.Common.{Global, string_bytes, nat_cmp, if◌then◌else◌}
use Rattle.std.proofs.lemmas.Bool.{and_parts, not-true, or_parts}
use Rattle.std.proofs.lemmas.List.{take-map}
use Rattle.std.specs.List.{list_any}
use Rattle.std.specs.Str.{bytes_eq}
use Rattle.std.specs.BTreeMap.{is_at}
use Rattle.std.specs.Cmp.Lexicographic.{slice_cmp}
use Rattle.std.specs.Map.{remove_entry}
use Rattle.toml.specs.Data.{Members, member, same_key}
use Rattle.toml.specs.View.{members_view, view}
use Rattle.toml.specs.declared.value.Value.{Value}
use Rattle.usb_places.specs.{without}
use Rattle.usb_device.specs.{Spec, is_named, names_differ}
use Rattle.usb_scene.proofs.Interface.{bytes_eq-sym}

any_apart : (p : Spec → Bool) (xs : List Spec) (i : ℕ) (d : Spec) → list_any p xs ≡ false
    → i < length xs → p (get_or xs i d) ≡ false
any_apart p [] i d e lt = absurd (omega (arith, lt))
any_apart p (x ∷ xs) zero d e lt = (or_parts (p x) (list_any p xs) e).0
any_apart p (x ∷ xs) (suc i) d e lt =
    any_apart p xs i d (or_parts (p x) (list_any p xs) e).1 (omega (arith, lt))

-- no device before one has its name
pub named_apart : (xs : List Spec) (i : ℕ) (d : Spec) → names_differ xs ≡ true → i < length xs
    → is_named (take i xs) (get_or xs i d).name ≡ false
named_apart [] i d e lt = absurd (omega (arith, lt))
named_apart (x ∷ xs) zero d e lt = refl
named_apart (x ∷ xs) (suc i) d e lt =
    let parts = and_parts (not (is_named xs x.name)) (names_differ xs) e in
    let below : i < length xs = omega (arith, lt) in
    let apart = any_apart (λ s. bytes_eq s.name x.name) xs i d
    (not-true (is_named xs x.name) parts.0) below in
    rw (bytes_eq-sym (get_or xs i d).name x.name apart, named_apart xs i d parts.1 below)

abbrev Entry : Type 0
Entry = String Global × Value

removed : (b : Bool) (e : Entry) (es rest : List Entry) (ms : Members) → members_view rest ≡ ms
    → members_view (cond b es (e ∷ rest))
    ≡ (if b then members_view es else member (string_bytes e.0) (view e.1) ms)
removed true e es rest ms same = refl
removed false e es rest ms same = ap (member (string_bytes e.0) (view e.1)) same

-- what is left of a table without a key
pub table_without : (k : List ℕ) (es : List Entry)
    → members_view (remove_entry (is_at (λ x. slice_cmp nat_cmp k (string_bytes x))) es)
    ≡ without k (members_view es)
unfolding without
table_without k [] = refl
table_without k (e ∷ es) = removed (same_key k (string_bytes e.0)) e es _ _ (table_without k es)

-- values by the data of the first ones, and of those behind them
pub view_take : (n : ℕ) (vs : List Value) → map view (take n vs) ≡ take n (map view vs)
view_take n vs = sym (take-map view n vs)

pub view_drop : (n : ℕ) (vs : List Value) → map view (drop n vs) ≡ drop n (map view vs)
view_drop zero vs = refl
view_drop (suc n) [] = refl
view_drop (suc n) (v ∷ vs) = view_drop n vs
