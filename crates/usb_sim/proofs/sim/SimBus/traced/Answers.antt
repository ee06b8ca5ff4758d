use Rattle.std.proofs.Common.{◌≡◌, length, arith, ap, sym, subst, ◌∙◌, All}
use Rattle.usb_device.specs.{IsSpec, row_of}
use Rattle.usb_world.specs.{IsSettled, Consistent}
use Rattle.usb_world.proofs.Interface.{new_long, sane_new_ports, settled_new}
use Rattle.usb_bus.specs.{shown_names}
use Rattle.usb_sim.proofs.Plans.{copies_come}
use Rattle.usb_sim.proofs.sim.SimBus.traced.Goals as goal

pub invariant_of-result-clause-planned : goal.invariant_of-result-clause-planned
invariant_of-result-clause-planned g c =
    copies_come c.args.plan.now (length c.in-Ok.stage.devices) c.in-Ok.stage.left.items
    c.limit.ensures.plan
    (ap length c.in-Ok.ensures.devices.0) c.in-Ok.ensures.events

pub invariant_of-result-clause-settled : goal.invariant_of-result-clause-settled
invariant_of-result-clause-settled g c =
    subst IsSettled (sym c.in-Ok.ensures.roots) (settled_new c.args.plan.now.roots)

pub invariant_of-result-clause-sane : goal.invariant_of-result-clause-sane
invariant_of-result-clause-sane g c = λ _. subst Consistent (sym c.in-Ok.ensures.roots)
    (sane_new_ports c.args.plan.now.roots)

pub invariant_of-result-clause-ruled : goal.invariant_of-result-clause-ruled
invariant_of-result-clause-ruled g c = subst (All IsSpec) (sym c.in-Ok.ensures.devices.0)
    c.limit.ensures.plan.devices.ruled

pub invariant_of-result-clause-some_root : goal.invariant_of-result-clause-some_root
invariant_of-result-clause-some_root g c =
    let n = c.args.plan.now.roots in
    let long : length (row_of c.in-Ok.stage.roots) ≡ n =
    ap (λ k. length (row_of k)) c.in-Ok.ensures.roots ∙ new_long n in
    omega (arith, long, c.limit.ensures.plan.some_root)

pub invariant_of-result-clause-few_roots : goal.invariant_of-result-clause-few_roots
invariant_of-result-clause-few_roots g c =
    let n = c.args.plan.now.roots in
    let long : length (row_of c.in-Ok.stage.roots) ≡ n =
    ap (λ k. length (row_of k)) c.in-Ok.ensures.roots ∙ new_long n in
    omega (arith, long, c.limit.ensures.plan.few_roots)

pub invariant_of-result-clause-named : goal.invariant_of-result-clause-named
invariant_of-result-clause-named g c = c.in-Ok.ensures.devices.1
    ∙ ap shown_names (sym c.in-Ok.ensures.devices.0)
