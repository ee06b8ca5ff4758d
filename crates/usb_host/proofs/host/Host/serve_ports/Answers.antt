use Rattle.usb_host.proofs.host.Host.serve_ports.Goals.{then-bits-number-eq1+in_ok-handle_below}
use Rattle.usb_host.proofs.host.Host.serve_ports.Goals.{else-bits-number-eq1}
use Rattle.usb_host.proofs.PartCalls.{call_fails, call_next, call_none, call_then, call_wider}
use Rattle.std.proofs.Common.{arith}
use Rattle.usb_host.proofs.Services.{bit_not, bit_so}
use Rattle.usb_host.proofs.RoundLoops.{ports_begin, ports_clear, ports_cut, ports_end}
use Rattle.usb_host.proofs.RoundLoops.{ports_handled}
use Rattle.usb_host.proofs.StepSums.{handed_is}
use Rattle.usb_host.proofs.host.Host.serve_ports.Goals as goal

pub ports-init : goal.ports-init
ports-init g c = record { call = call_none; so = λ known. ports_begin _ }

pub ports-preserved : goal.ports-preserved
ports-preserved g c =
    let i = c.ports.invariant in
    elim c.if-bits-number-eq1.branch [
      | then-bits-number-eq1+in_ok-handle_below w ↦ rw w.self-is (record {
        call = call_next i.call w.in_ok-handle_below.ensures.call
            (omega (arith, c.ports.auto.number));
        so = λ known. ports_handled (i.so known) (omega (arith, c.ports.auto.number))
            (omega (arith, c.ports-test.true))
            (bit_so c.args.bits c.ports.number w.if-bits-number-eq1.true)
            (w.in_ok-handle_below.ensures.handles known);
      })
      | else-bits-number-eq1 w ↦ rw w.self-is (record {
        call = call_wider i.call (omega arith);
        so = λ known. ports_clear (i.so known) (omega (arith, c.ports.auto.number))
            (bit_not c.args.bits c.ports.number w.if-bits-number-eq1.false);
      })
    ]

pub returns-in_err-handle_below : goal.returns-in_err-handle_below
returns-in_err-handle_below g c = record {
  call = call_fails c.from_residual.ensures.1 (call_then c.ports.invariant.call
      c.in_err-handle_below.ensures.call) (omega (arith, c.ports-test.true, c.ports.auto.number));
  serves = λ known. rw (handed_is c.from_residual.ensures.1) (ports_cut
      (c.ports.invariant.so known) (omega (arith, c.ports.auto.number))
      (omega (arith, c.ports-test.true)) (c.ports.invariant.call.works known)
      (bit_so c.args.bits c.ports.number c.if-bits-number-eq1.true)
      (c.in_err-handle_below.ensures.handles known));
}

pub returns : goal.returns
returns g c = record {
  call = call_wider c.ports.invariant.call (omega (arith, c.ports.auto.number-end));
  serves = λ known. ports_end c.args.bits (c.ports.invariant.so known)
      (omega (arith, c.ports.auto.number-end, c.ports-test.false));
}
