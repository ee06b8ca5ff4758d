-- The first entry from the path on tells whether any is at or below it.
use Rattle.std.proofs.Common.{◌≡◌, ◌∙◌, sym, ap, subst, false, ℕ, List, None, Some, Option, IfNone}
use Rattle.std.specs.List.Sorted.{IsStrictlySortedBy}
use Rattle.std.specs.Map.{keys_of}
use Rattle.std.specs.Map.Iter.{deref_pair}
use Rattle.std.proofs.lemmas.Map.Iter.{rest_more, rest_all}
use Rattle.usb_port.specs.{path_cmp}
use Rattle.usb_table.specs.{PathKeys}
use Rattle.usb_table.proofs.entries.Ranges.{away_if_first, from_path, has_path_below, FirstIsAway}
use Rattle.usb_table.proofs.indexes.Indexes.first_at.Goals as goal

on_none : {A : Type 0} (r : Option A) (P : Type 0) → P → IfNone r P
on_none None P p = p
on_none (Some x) P p = tt

none_if : (paths rest : PathKeys) (path start : List ℕ) → start ≡ path
    → rest ≡ from_path start paths → IsStrictlySortedBy path_cmp (keys_of paths)
    → FirstIsAway path rest → has_path_below path paths ≡ false
none_if paths rest path start same is rises away =
    let rest_is = is ∙ ap (λ (s : List ℕ). from_path s paths) same in
    away_if_first path paths rises (subst (FirstIsAway path) rest_is away)

pub returns-in_err-first-clause-none : goal.returns-in_err-first-clause-none
returns-in_err-first-clause-none c =
    let end = rest_all deref_pair _ _ _ c.in_err-first.was c.next.ensures.steps in
    on_none c.from_residual.result _
    (none_if c.args.self.now.by_path.entries c.range.result c.args.path.now c.duplicate.result
    c.duplicate.ensures (c.range.ensures.between tt) c.range.ensures.ordered (rw end tt))

pub returns-then-not-is_at_or_below-clause-none : goal.returns-then-not-is_at_or_below-clause-none
returns-then-not-is_at_or_below-clause-none c =
    let turn = rest_more deref_pair _ _ _ _ c.in_ok-first.was c.next.ensures.steps in
    let away = sym c.is_at_or_below.ensures ∙ c.if-not-is_at_or_below.true in
    none_if c.args.self.now.by_path.entries c.range.result c.args.path.now c.duplicate.result
    c.duplicate.ensures (c.range.ensures.between tt) c.range.ensures.ordered (rw turn away)
