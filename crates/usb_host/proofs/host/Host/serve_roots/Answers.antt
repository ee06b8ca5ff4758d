use Rattle.usb_host.proofs.host.Host.serve_roots.Goals.{then-has_changed+in_ok-handle_root}
use Rattle.usb_host.proofs.host.Host.serve_roots.Goals.{else-has_changed}
use Rattle.usb_host.proofs.PartCalls.{call_leaves, call_then, round_fails, round_leaves, round_none}
use Rattle.usb_host.proofs.PartCalls.{round_wider, round_worked}
use Rattle.std.proofs.Common.{◌∙◌, ap, arith, sym}
use Rattle.usb_world.specs.{roots_of}
use Rattle.usb_host.specs.{HostState}
use Rattle.usb_host.proofs.RoundLoops.{roots_begin, roots_cut, roots_end, roots_handled}
use Rattle.usb_host.proofs.RoundLoops.{roots_steady}
use Rattle.usb_host.proofs.StepSums.{handed_is}
use Rattle.usb_host.proofs.host.Host.serve_roots.Goals as goal

pub ports-init : goal.ports-init
ports-init g c = record { call = round_none; so = λ known. roots_begin _ }

pub ports-preserved : goal.ports-preserved
ports-preserved g c =
    let i = c.ports.invariant in
    let rests = c.has_changed.ensures.rests in
    elim c.if-has_changed.branch [
      | then-has_changed+in_ok-handle_root w ↦ rw (w.self-is, w.round-is) (record {
        call = round_worked (call_then (call_leaves i.call.part rests)
            w.in_ok-handle_root.ensures.call) (omega (arith, c.ports.auto.number));
        so = λ known. roots_handled {round = c.ports.round} (rw (rests.none known) (i.so known))
            (omega (arith, c.ports.auto.number))
            (rw (rests.none known) (sym (c.has_changed.ensures.changed known)
            ∙ w.if-has_changed.true))
            (omega (
              arith,
              c.ports-test.true,
              c.root_ports-roots.ensures.count known,
              (i.so known).part.goes.went.spends.roots,
              ap (λ (h : HostState). roots_of h.world) (rests.none known),
              ap (λ (h : HostState). roots_of h.world) c.self.view_is,
            )) (w.in_ok-handle_root.ensures.handles known);
      })
      | else-has_changed w ↦ rw (w.self-is, w.round-is) (record {
        call = round_leaves (round_wider i.call (omega (arith, c.ports.auto.number))) rests
            c.has_changed.ensures.fewer;
        so = λ known.
            rw (rests.none known) (roots_steady (i.so known) (omega (arith, c.ports.auto.number))
            (sym (c.has_changed.ensures.changed known) ∙ w.if-has_changed.false));
      })
    ]

pub returns-in_err-handle_root : goal.returns-in_err-handle_root
returns-in_err-handle_root g c = record {
  call = round_fails c.from_residual.ensures.1 (call_then (call_leaves c.ports.invariant.call.part
      c.has_changed.ensures.rests) c.in_err-handle_root.ensures.call) (omega (
        arith,
        c.ports-test.true,
        c.ports.auto.number,
        c.root_ports-roots.ensures.most,
      ));
  roots = λ known.
      let same = c.has_changed.ensures.rests.none known in
      rw (handed_is c.from_residual.ensures.1) (roots_cut {round = c.ports.round}
      (rw same (c.ports.invariant.so known)) (omega (arith, c.ports.auto.number))
      (rw same (sym (c.has_changed.ensures.changed known) ∙ c.if-has_changed.true))
      (omega (arith, c.ports-test.true, c.root_ports-roots.ensures.most))
      (rw same (c.ports.invariant.call.part.works known))
      (c.in_err-handle_root.ensures.handles known));
}

pub returns : goal.returns
returns g c = record {
  call = round_wider c.ports.invariant.call (omega (
    arith,
    c.ports.auto.number-end,
    c.root_ports-roots.ensures.most,
  ));
  roots = λ known. roots_end c.ports.round (c.ports.invariant.so known)
      (omega (arith, c.ports.auto.number, c.ports.auto.number-end, c.root_ports-roots.ensures.most))
      (omega (
        arith,
        c.ports-test.false,
        c.ports.auto.number,
        c.ports.auto.number-end,
        c.root_ports-roots.ensures.count known,
        ap (λ (h : HostState). roots_of h.world) c.self.view_is,
      ));
}
