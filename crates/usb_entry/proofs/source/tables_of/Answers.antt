use Rattle.usb_entry.proofs.Tables.{made_more}
use Rattle.usb_entry.proofs.source.tables_of.Goals as goal

pub sources-preserved : goal.sources-preserved
sources-preserved c = made_more c.args.ports c.args.sources.now c.sources.made _
    c.sources.tables.items c.push_table.new.tables.items c.sources-test.true c.sources.invariant
    c.in-Ok.ensures.ok
