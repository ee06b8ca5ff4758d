use Rattle.std.proofs.Common.{sym, refl, Err, Ok}
use Rattle.usb_bus.proofs.Interface.{went_none}
use Rattle.usb_table.proofs.transfers.PlainRequests.{table_reads, told_error, refused_controls}
use Rattle.usb_table.proofs.table.DeviceTable.control_in.Goals as goal

pub returns-in_err-read_from-in-Ok-clause-reads : goal.returns-in_err-read_from-in-Ok-clause-reads
returns-in_err-read_from-in-Ok-clause-reads g c known =
    table_reads c.args.path.now c.args.setup c.requires.reads c.args.self.now
    c.control_target.ensures.pipes _ (sym c.in-Ok.ensures.value) (Err
    c.in_err-read_from-in-Ok.field-0.0)
    (told_error _ _ c.from_residual.ensures.0 c.from_residual.ensures.1)
    (c.read_from.ensures.steps known) (c.in_err-read_from-in-Ok.ensures.read known)

pub returns-in_ok-read_from-in-Ok-clause-reads : goal.returns-in_ok-read_from-in-Ok-clause-reads
returns-in_ok-read_from-in-Ok-clause-reads g c known =
    table_reads c.args.path.now c.args.setup c.requires.reads c.args.self.now
    c.control_target.ensures.pipes _ (sym c.in-Ok.ensures.value) (Ok
    c.in_ok-read_from-in-Ok.field-0)
    refl (c.read_from.ensures.steps known) (c.in_ok-read_from-in-Ok.ensures.read known)

pub returns-in-Err-clause-reads : goal.returns-in-Err-clause-reads
returns-in-Err-clause-reads g c known =
    refused_controls _ _ c.args.path.now _ c.args.setup c.args.self.now
    c.control_target.ensures.pipes _ (sym c.in-Err.ensures.value) refl refl went_none
