-- The slab has what the path's key names.
use Rattle.std.proofs.Common.{◌∙◌, sym, ap, Some}
use Rattle.slab.specs.Slab.{get}
use Rattle.usb_table.specs.{findings}
use Rattle.usb_table.proofs.entries.Keys.{entries_of-key, entries_of-no_key, findings-standing}
use Rattle.usb_table.proofs.levels.PathCalls.{are_pipes_at}
use Rattle.usb_table.proofs.table.DeviceTable.get.Goals as goal

pub returns-in-Some-clause-value : goal.returns-in-Some-clause-value
returns-in-Some-clause-value c =
    let s = c.self.inside in
    rw (← c.self.view_is)
    (ap Some c.finding.ensures
    ∙ sym (entries_of-key (findings (get s.entries)) c.args.path.now s.indexes.by_path.entries
    c.in-Some.key.now c.index.result.now.finding (sym c.in-Some.ensures.value)
    (findings-standing (get s.entries) c.in-Some.key.now c.index.result.now c.index.ensures)))

pub returns-in-None-clause-value : goal.returns-in-None-clause-value
returns-in-None-clause-value c =
    let s = c.self.inside in
    rw (← c.self.view_is) (sym (entries_of-no_key (findings (get s.entries)) c.args.path.now
    s.indexes.by_path.entries (sym c.in-None.ensures.value)))

pub returns-in-Some-clause-sound : goal.returns-in-Some-clause-sound
returns-in-Some-clause-sound c =
    let sound =
    (c.self.invariant.1 c.args.path.now c.in-Some.key.now c.index.result.now
    (sym c.in-Some.ensures.value) c.index.ensures).0 in
    rw c.finding.ensures sound

pub returns-in-Some-clause-pipes : goal.returns-in-Some-clause-pipes
returns-in-Some-clause-pipes c =
    rw (← c.self.view_is)
    (are_pipes_at _ _ _ c.self.invariant.0 c.self.invariant.1 c.args.path.now)

pub returns-in-None-clause-pipes : goal.returns-in-None-clause-pipes
returns-in-None-clause-pipes c =
    rw (← c.self.view_is)
    (are_pipes_at _ _ _ c.self.invariant.0 c.self.invariant.1 c.args.path.now)
