-- What is plugged at one path, event by event.
use Rattle.std.proofs.Common.{◌≡◌, ℕ, not, cond, Bool, true, false, List, [], ◌∷◌, Option, None}
use Rattle.std.proofs.Common.{Some, nat_eq, refl, ap, sym, ◌∙◌, ⊎_elim, if◌then◌else◌, ◌+◌}
use Rattle.std.proofs.Common.{◌<◌, ◌++◌, get_or, length, take}
use Rattle.std.proofs.Common.{is_eq}
use Rattle.std.specs.Cmp.Lexicographic.{bytes_decides, pointwise}
use Rattle.std.specs.List.{starts_with}
use Rattle.std.specs.BTreeMap.{insert_entry}
use Rattle.std.proofs.lemmas.Bool.{cases_Bool}
use Rattle.std.proofs.lemmas.List.{take_more}
use Rattle.std.proofs.lemmas.Map.Entries.{lookup-filter-keys}
use Rattle.usb_port.specs.{path_cmp}
use Rattle.usb_world.specs.{Action, Event, PluggedMap, index_at, plugged_after, plugged_by}
use Rattle.usb_world.specs.{plugged_without, Plug, Unplug}
use Rattle.usb_world.specs.declared.event.Action.TheVariants.{Change, Ask}
use Rattle.usb_world.proofs.Interface.{found_same, plugged_by-next, insert_here}
use Rattle.usb_world.proofs.Interface.{insert_other}
use Rattle.usb_drawing.specs.{index_after}

plugged_at : (tree : PluggedMap) (e q : List ℕ) (d : ℕ) (same : Bool) → pointwise nat_eq e q ≡ same
    → index_at (insert_entry path_cmp tree e d) q ≡ (if same then Some d else index_at tree q)
plugged_at tree e q d true h =
    ap (index_at (insert_entry path_cmp tree e d)) (sym ((bytes_decides e q).0 h))
    ∙ insert_here tree e d
plugged_at tree e q d false h =
    ⊎_elim (λ y. let at = ap (λ x. pointwise nat_eq e x) (found_same q e y)
    ∙ (bytes_decides e e).1 refl in let bad = sym h ∙ at in cc)
    (λ n. insert_other tree e d q n) (cases_Bool (is_eq (path_cmp q e)))

unplugged_at : (tree : PluggedMap) (e q : List ℕ) → index_at (plugged_without e tree) q
    ≡ (if starts_with nat_eq q e then None else index_at tree q)
unfolding plugged_without
unplugged_at tree e q =
    lookup-filter-keys (λ p. is_eq (path_cmp q p)) (λ p. not (starts_with nat_eq p e))
    (not (starts_with nat_eq q e))
    (λ k h. ap (λ p. not (starts_with nat_eq p e)) (sym (found_same q k h))) tree
    ∙ turned (starts_with nat_eq q e) (index_at tree q)
  where
    turned : (b : Bool) (o : Option ℕ) → cond (not b) o None ≡ (if b then None else o)
    turned true o = refl
    turned false o = refl

-- what an action leaves at a path is known from what was there
pub index_next : (tree : PluggedMap) (path : List ℕ) (action : Action)
    → index_at (plugged_after action tree) path ≡ index_after path (index_at tree path) action
index_next tree path (Change (Plug place device)) =
    plugged_at tree place path device (pointwise nat_eq place path) refl
index_next tree path (Change (Unplug place)) = unplugged_at tree place path
index_next tree path (Ask ask) = refl

-- and so one event later
pub index_more : (events : List Event) (path : List ℕ) (i : ℕ) (e : Event) → i < length events
    → e ≡ get_or events i e
    → index_at (plugged_by [] (take (i + 1) events)) path
    ≡ index_after path (index_at (plugged_by [] (take i events)) path) e.action
index_more events path i e lt is =
    let more : take (i + 1) events ≡ take i events ++ e ∷ [] =
    take_more events i e lt ∙ ap (λ x. take i events ++ x ∷ []) (sym is) in
    ap (λ es. index_at (plugged_by [] es) path) more
    ∙ ap (λ tree. index_at tree path) (plugged_by-next [] (take i events) e)
    ∙ index_next (plugged_by [] (take i events)) path e.action
