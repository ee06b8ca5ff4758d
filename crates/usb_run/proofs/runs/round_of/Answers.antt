use Rattle.std.proofs.Common.{refl}
use Rattle.usb_run.proofs.endings.Ends.{round_fails, round_runs}
use Rattle.usb_run.proofs.runs.round_of.Goals as goal

pub returns-in-Ok-clause-on : goal.returns-in-Ok-clause-on
returns-in-Ok-clause-on g c =
    round_runs c.args.host.now c.round.new.self c.round.result c.in-Ok.round c.in-Ok.is
    (c.round.ensures.tells refl)

pub returns-in-Err-clause-on : goal.returns-in-Err-clause-on
returns-in-Err-clause-on g c =
    round_fails c.args.host.now c.round.new.self c.round.result c.in-Err.fault c.in-Err.is
    (c.round.ensures.tells refl)
    c.round_fault.result c.round_fault.ensures

pub returns-in-Ok-clause-owning : goal.returns-in-Ok-clause-owning
returns-in-Ok-clause-owning g c = (c.round.ensures.tells refl).keeps.owning

pub returns-in-Err-clause-owning : goal.returns-in-Err-clause-owning
returns-in-Err-clause-owning g c = (c.round.ensures.tells refl).keeps.owning
