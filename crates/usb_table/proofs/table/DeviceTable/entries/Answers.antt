-- The slab has what each key of a path names.
use Rattle.std.proofs.Common.{◌≡◌, ◌∙◌, Some}
use Rattle.std.specs.BTreeMap as tree
use Rattle.std.specs.Map.Iter.{deref_pair}
use Rattle.std.proofs.lemmas.Map.Views.{All-turn}
use Rattle.slab.specs.Slab.{get}
use Rattle.usb_port.specs.{path_cmp}
use Rattle.usb_table.specs.{findings}
use Rattle.usb_table.proofs.entries.Keys.{entries_rise, some_standing}
use Rattle.usb_table.proofs.levels.PathCalls.{are_pipes_at}
use Rattle.usb_table.proofs.table.DeviceTable.entries.Goals as goal

pub index-requires : goal.index-requires
index-requires c =
    let paths = c.self.inside.indexes.by_path in
    let turn = All-turn deref_pair (λ e. tree.get path_cmp paths e.0 ≡ Some e.1) _ _ _ _ _ _ _
    c.iter-path-items.ensures.found (c.into_iter-path-iterator.ensures.into_iter_gives
    ∙ c.iter-path-items.ensures.rest) c.entries.yielded_by c.in-Some.is
    c.next.ensures.steps in
    some_standing (get c.self.inside.entries) c.in-Some.key.now
    (c.self.invariant.0.stands c.in-Some.path.now c.in-Some.key.now turn)

pub returns-in_err-entries-clause-rising : goal.returns-in_err-entries-clause-rising
returns-in_err-entries-clause-rising c = rw (← c.self.view_is)
    (entries_rise (findings (get c.self.inside.entries)) _ c.len.ensures.ordered)

pub returns-in_err-entries-clause-pipes : goal.returns-in_err-entries-clause-pipes
returns-in_err-entries-clause-pipes c path =
    rw (← c.self.view_is) (are_pipes_at _ _ _ c.self.invariant.0 c.self.invariant.1 path)

pub returns-in_err-try_clone-clause-rising : goal.returns-in_err-try_clone-clause-rising
returns-in_err-try_clone-clause-rising c = rw (← c.self.view_is)
    (entries_rise (findings (get c.self.inside.entries)) _ c.iter-path-items.ensures.ordered)

pub returns-in_err-try_clone-clause-pipes : goal.returns-in_err-try_clone-clause-pipes
returns-in_err-try_clone-clause-pipes c path =
    rw (← c.self.view_is) (are_pipes_at _ _ _ c.self.invariant.0 c.self.invariant.1 path)

pub returns-in_err-push-clause-rising : goal.returns-in_err-push-clause-rising
returns-in_err-push-clause-rising c = rw (← c.self.view_is)
    (entries_rise (findings (get c.self.inside.entries)) _ c.iter-path-items.ensures.ordered)

pub returns-in_err-push-clause-pipes : goal.returns-in_err-push-clause-pipes
returns-in_err-push-clause-pipes c path =
    rw (← c.self.view_is) (are_pipes_at _ _ _ c.self.invariant.0 c.self.invariant.1 path)

pub returns-clause-rising : goal.returns-clause-rising
returns-clause-rising c = rw (← c.self.view_is)
    (entries_rise (findings (get c.self.inside.entries)) _ c.iter-path-items.ensures.ordered)

pub returns-clause-pipes : goal.returns-clause-pipes
returns-clause-pipes c path =
    rw (← c.self.view_is) (are_pipes_at _ _ _ c.self.invariant.0 c.self.invariant.1 path)
