use Rattle.std.proofs.Common.{arith}
use Rattle.usb_host.proofs.StepSums.{goes_wider}
use Rattle.usb_host.proofs.entries.Roots.{on_any}
use Rattle.usb_host.proofs.Services.{own_reports, ports_report}
use Rattle.usb_host.proofs.host.Host.service_reported.Goals as goal

pub returns-then-bits-eq1-clause-serves : goal.returns-then-bits-eq1-clause-serves
returns-then-bits-eq1-clause-serves g c known =
    let x = c.serve_own.ensures.serves known in
    record {
      goes = goes_wider x.goes (omega arith);
      holds = on_any c.serve_own.result _ x.holds;
      owned = x.owned;
      ports = λ not. absurd (not c.if-bits-eq1.true);
      order = own_reports c.args.hub.now c.args.bits c.serve_own.result c.args.self.now
          c.serve_own.new.self c.if-bits-eq1.true x.served;
    }

pub returns-else-bits-eq1-clause-serves : goal.returns-else-bits-eq1-clause-serves
returns-else-bits-eq1-clause-serves g c known =
    let x = c.serve_ports.ensures.serves known in
    record {
      goes = x.part.goes;
      holds = x.holds;
      owned = x.part.owned;
      ports = λ not. x;
      order = ports_report c.args.hub.now c.args.bits c.serve_ports.result c.args.self.now
          c.serve_ports.new.self c.if-bits-eq1.false x.order;
    }
