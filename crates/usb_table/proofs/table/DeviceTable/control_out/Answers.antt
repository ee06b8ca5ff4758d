use Rattle.std.proofs.Common.{sym, refl, Err, Ok}
use Rattle.usb_bus.proofs.Interface.{went_none}
use Rattle.usb_table.proofs.transfers.PlainRequests.{told_error, table_writes, refused_controls}
use Rattle.usb_table.proofs.table.DeviceTable.control_out.Goals as goal

pub returns-in_err-write_to-in-Ok-clause-writes : goal.returns-in_err-write_to-in-Ok-clause-writes
returns-in_err-write_to-in-Ok-clause-writes g c known =
    table_writes c.args.path.now c.args.setup c.args.bytes.now c.requires.writes c.args.self.now
    c.write_target.ensures.pipes _ (sym c.in-Ok.ensures.value) (Err
    c.in_err-write_to-in-Ok.field-0.0)
    (told_error _ _ c.from_residual.ensures.0 c.from_residual.ensures.1)
    (c.write_to.ensures.steps known) (c.in_err-write_to-in-Ok.ensures.made known)

pub returns-in_ok-write_to-in-Ok-clause-writes : goal.returns-in_ok-write_to-in-Ok-clause-writes
returns-in_ok-write_to-in-Ok-clause-writes g c known =
    table_writes c.args.path.now c.args.setup c.args.bytes.now c.requires.writes c.args.self.now
    c.write_target.ensures.pipes _ (sym c.in-Ok.ensures.value) (Ok c.in_ok-write_to-in-Ok.field-0)
    refl (c.write_to.ensures.steps known) (c.in_ok-write_to-in-Ok.ensures.made known)

pub returns-in-Err-clause-writes : goal.returns-in-Err-clause-writes
returns-in-Err-clause-writes g c known =
    refused_controls _ _ c.args.path.now _ c.args.setup c.args.self.now
    c.write_target.ensures.pipes _ (sym c.in-Err.ensures.value) refl refl went_none
