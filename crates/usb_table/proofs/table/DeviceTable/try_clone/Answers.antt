-- Each entry goes behind those that were copied.
use Rattle.std.proofs.Common.{◌∙◌}
use Rattle.slab.specs.Slab.{get}
use Rattle.usb_table.proofs.entries.Keys.{copied_all, copied_more, copied_none, next_address}
use Rattle.usb_table.proofs.entries.Keys.{next_at, next_away, some_standing}
use Rattle.usb_table.proofs.table.DeviceTable.try_clone.Goals as goal

pub index-requires : goal.index-requires
index-requires c =
    some_standing (get c.self.inside.entries) c.in-Some.key.now
    (c.self.invariant.0.stands c.in-Some.path.now c.in-Some.key.now
    (next_at _ _ _ _ _ _ _ c.iter-path-items.ensures.ordered c.iter-path-items.ensures.found
    c.entries.invariant c.in-Some.ensures.steps))

pub put-requires-clause-away : goal.put-requires-clause-away
put-requires-clause-away c =
    rw c.duplicate.ensures
    (next_away _ _ _ _ _ _ _ c.iter-path-items.ensures.ordered c.iter-path-items.ensures.found
    c.entries.invariant c.in-Some.ensures.steps)

pub put-requires-clause-fits : goal.put-requires-clause-fits
put-requires-clause-fits c =
    rw (c.in_ok-entry.ensures, c.duplicate.ensures)
    (c.self.invariant.1 c.in-Some.path.now c.in-Some.key.now c.index.result.now
    (next_at _ _ _ _ _ _ _ c.iter-path-items.ensures.ordered c.iter-path-items.ensures.found
    c.entries.invariant c.in-Some.ensures.steps) c.index.ensures)

pub put-requires-clause-address : goal.put-requires-clause-address
put-requires-clause-address c =
    rw c.in_ok-entry.ensures
    (next_address _ _ _ _ _ _ _ c.iter-path-items.ensures.ordered c.iter-path-items.ensures.found
    c.entries.invariant c.in-Some.ensures.steps c.self.inside.indexes.by_address.entries
    c.index.result.now c.index.ensures
    c.self.invariant.0)

pub entries-init : goal.entries-init
entries-init c =
    copied_none _ _ _ _
    (c.into_iter-path-iterator.ensures.into_iter_gives ∙ c.iter-path-items.ensures.rest)
    c.new-table.ensures

pub entries-preserved : goal.entries-preserved
entries-preserved c =
    copied_more _ _ _ _ _ _ _ c.iter-path-items.ensures.ordered c.iter-path-items.ensures.found
    c.entries.invariant c.in-Some.ensures.steps c.index.result.now c.put.new.self c.index.ensures
    (rw (c.in_ok-entry.ensures, c.duplicate.ensures) at c.in_ok-put.ensures.ok)

pub returns : goal.returns
returns c =
    copied_all _ _ _ _ c.entries.invariant c.in-None.ensures.steps.0 ∙ c.self.view_is
