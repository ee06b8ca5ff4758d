-- The slab has what the path's key names.
use Rattle.std.proofs.Common.{◌∙◌, sym}
use Rattle.slab.specs.Slab.{get}
use Rattle.usb_table.proofs.levels.PathCalls.{said_found, said_none}
use Rattle.usb_table.proofs.table.DeviceTable.said.Goals as goal

pub returns-in-Some : goal.returns-in-Some
returns-in-Some c =
    let s = c.self.inside in
    rw (← c.self.view_is)
    (c.said.ensures
    ∙ sym (said_found (get s.entries) c.args.path.now s.indexes.by_path.entries
    c.in-Some.key.now c.index.result.now (sym c.in-Some.ensures.value) c.index.ensures))

pub returns-in-None : goal.returns-in-None
returns-in-None c =
    let s = c.self.inside in
    rw (← c.self.view_is) (sym (said_none (get s.entries) c.args.path.now
    s.indexes.by_path.entries (sym c.in-None.ensures.value)))
