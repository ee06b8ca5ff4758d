-- What stands in a list of entries whose paths rise.
use Rattle.std.proofs.Common.{◌≡◌, ◌<◌, ◌∙◌, sym, ap, subst, ℕ, true, List, ◌∷◌, Some}
use Rattle.std.specs.Prelude.{Contains}
use Rattle.std.specs.Map.{keys_of}
use Rattle.std.specs.BTreeMap.{is_at}
use Rattle.std.specs.Cmp.{eq_by_cmp_equiv}
use Rattle.std.specs.Cmp.Lexicographic.{nat_list_cmp_total}
use Rattle.std.specs.declared.cmp.Ordering.TheVariants.{Less}
use Rattle.std.proofs.lemmas.List.{get_or-map, length-map}
use Rattle.std.proofs.lemmas.List.Elements.{All-contains}
use Rattle.std.proofs.lemmas.Map.Keys.{IsDistinct-from_sorted}
use Rattle.std.proofs.lemmas.Map.Views.{All-after_first, Contains-from_lookup, lookup-from_Contains}
use Rattle.usb_port.specs.{path_cmp}
use Rattle.usb_enum.specs.{Finding}
use Rattle.usb_table.specs.{Entries, Rises, finding_at}
use Rattle.usb_table.proofs.Interface.{path_itself, path_tied}

-- what is found at a path is an entry
pub entry_found : (path : List ℕ) (f : Finding) (es : Entries) → finding_at path es ≡ Some f
    → Contains es (path, f)
entry_found path f es at = Contains-from_lookup path_tied path f es at

-- each entry is found
pub finding_of : (path : List ℕ) (f : Finding) (es : Entries) → Rises es → Contains es (path, f)
    → finding_at path es ≡ Some f
finding_of path f es rises has = lookup-from_Contains (eq_by_cmp_equiv nat_list_cmp_total) path f
    es (IsDistinct-from_sorted path_cmp (keys_of es) rises) has

key_there : (x : List ℕ × Finding) (es : Entries) → Contains es x → Contains (keys_of es) x.0
key_there x es (k, less, at) = (
  k,
  subst (λ n. k < n) (sym (length-map es (λ (e : List ℕ × Finding). e.0))) less,
  get_or-map (λ (e : List ℕ × Finding). e.0) es k x x.0 less
      ∙ ap (λ (e : List ℕ × Finding). e.0) at,
)

-- no later entry has the path of the first
pub later_differs : (e x : List ℕ × Finding) (es : Entries) → Rises (e ∷ es) → Contains es x
    → e.0 ≡ x.0 → ⊥
later_differs e x es rises has same =
    let less : path_cmp e.0 x.0 ≡ Less = All-contains (λ k. path_cmp e.0 k ≡ Less) (keys_of es) x.0
    (All-after_first path_cmp e.0 (keys_of es) rises) (key_there x es has) in
    let tied : is_at (path_cmp e.0) x.0 ≡ true = subst (λ k. is_at (path_cmp e.0) k ≡ true) same
    (path_itself e.0) in
    absurd (cc (less, tied))
