use Rattle.std.proofs.Common.{sym}
use Rattle.usb_verdict.proofs.Amends.{refused_get}
use Rattle.usb_verdict.proofs.report.see_last.Goals as goal

pub returns-in-Some-clause-fault : goal.returns-in-Some-clause-fault
returns-in-Some-clause-fault c =
    refused_get c.args.path.now c.args.ports.now c.in-Some.port.now c.see_port.result
    (sym c.in-Some.ensures.value) c.see_port.ensures.fault
