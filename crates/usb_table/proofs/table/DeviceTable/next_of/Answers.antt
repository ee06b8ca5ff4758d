-- The first entry of the kind behind the last path is the next one.
use Rattle.std.proofs.Common.{◌≡◌, ◌∙◌, sym, ap, ℕ, List, true, None, Some, option_copied}
use Rattle.std.specs.BTreeMap.Range.{entries_between, IsEntryInRange}
use Rattle.std.specs.declared.ops.Bound.{Bound}
use Rattle.std.specs.declared.ops.Bound.TheVariants.{Unbounded}
use Rattle.std.specs.Map.Iter.{deref_pair}
use Rattle.std.proofs.lemmas.Map.Iter.{rest_more, rest_all}
use Rattle.std.proofs.lemmas.Map.Views.{All-turn}
use Rattle.slab.specs.Slab.{get}
use Rattle.usb_port.specs.{path_cmp}
use Rattle.usb_table.specs.{PathKeys, findings, finding_under, entries_of, Table, fits}
use Rattle.usb_table.proofs.entries.Keys.{entries_rise, finding_stands, findings-standing}
use Rattle.usb_table.proofs.entries.Keys.{some_standing}
use Rattle.usb_table.proofs.entries.Ranges.{first_from, first_behind, next_is, last_is}
use Rattle.usb_table.proofs.table.DeviceTable.next_of.Goals as goal

pub entries-init : goal.entries-init
entries-init c =
    let paths = c.self.inside.indexes.by_path.entries in
    let kind = fits c.args.kind in
    let last = option_copied c.args.last in
    let found = findings (get c.self.inside.entries) in
    let first_of = λ (left : PathKeys). first_from kind None (entries_of found left) in
    let from = λ (start : Bound (List ℕ)). entries_between path_cmp start Unbounded paths in
    ap first_of (c.into_iter-path-iterator.ensures.into_iter_gives
    ∙ c.range-path-items.ensures.between tt ∙ ap from c.start_after.ensures)
    ∙ first_behind kind last found paths
    ∙ ap (λ (t : Table). first_from kind last t.entries) c.self.view_is

pub index-requires : goal.index-requires
index-requires c =
    let s = c.self.inside in
    let start = c.start_after.result in
    let InRange = IsEntryInRange path_cmp start Unbounded s.indexes.by_path in
    let turn =
    All-turn deref_pair InRange _ _ _ _ _ _ _ (c.range-path-items.ensures.in_range tt).0
    c.into_iter-path-iterator.ensures.into_iter_gives c.entries.yielded_by
    c.in-Some.is c.next.ensures.steps in
    some_standing (get s.entries) c.in-Some.key.now
    (c.self.invariant.0.stands c.in-Some.path.now c.in-Some.key.now turn.1)

pub returns-then-fits-clause-some : goal.returns-then-fits-clause-some
returns-then-fits-clause-some c =
    let s = c.self.inside in
    let turn = rest_more deref_pair _ _ _ _ c.in-Some.is c.next.ensures.steps in
    let stands : finding_under (findings (get s.entries)) c.in-Some.key.now ≡ c.finding.result.now =
    finding_stands (findings (get s.entries)) c.in-Some.key.now c.index.result.now.finding
    (findings-standing (get s.entries) c.in-Some.key.now c.index.result.now c.index.ensures)
    ∙ sym c.finding.ensures in
    let kind : fits c.args.kind (finding_under (findings (get s.entries)) c.in-Some.key.now)
    ≡ true = ap (fits c.args.kind) stands ∙ sym c.fits.ensures ∙ c.if-fits.true in
    let found : first_from (fits c.args.kind) (option_copied c.args.last) c.args.self.now.entries
    ≡ Some c.duplicate.result =
    sym c.entries.invariant
    ∙ ap (λ (left : PathKeys). first_from (fits c.args.kind) None
    (entries_of (findings (get s.entries)) left)) turn
    ∙ rw kind (ap Some (sym c.duplicate.ensures)) in
    next_is (fits c.args.kind) (option_copied c.args.last) c.args.self.now.entries
    c.duplicate.result (rw (← c.self.view_is) (entries_rise (findings (get s.entries)) _
    c.range-path-items.ensures.ordered)) found

pub returns-clause-none : goal.returns-clause-none
returns-clause-none c =
    let end = rest_all deref_pair _ _ _ c.in-None.is c.next.ensures.steps in
    last_is (fits c.args.kind) (option_copied c.args.last) c.args.self.now.entries
    (sym c.entries.invariant ∙ ap (λ (left : PathKeys). first_from (fits c.args.kind) None
    (entries_of (findings (get c.self.inside.entries)) left)) end)
