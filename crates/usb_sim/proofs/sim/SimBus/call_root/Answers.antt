use Rattle.std.proofs.Common.{◌≡◌, ℕ, List, length, sym, subst, ap, ◌∙◌, arith, [], ◌∷◌}
use Rattle.usb_port.specs.{PortCall}
use Rattle.usb_device.specs.{Ports, row_of, called, changed}
use Rattle.usb_world.specs.{IsSettled, Consistent}
use Rattle.usb_world.proofs.Interface.{row_long, sane_called_at, settled_called}
use Rattle.usb_sim.proofs.sim.SimBus.call_root.Goals as goal

row_kept : (call : PortCall) (k new : Ports) (p : List ℕ) → new ≡ changed (called call) k p
    → length (row_of new) ≡ length (row_of k)
row_kept call k new p e = ap (λ r. length (row_of r)) e ∙ row_long (called call) k p

pub invariant_of-self-clause-some_root : goal.invariant_of-self-clause-some_root
invariant_of-self-clause-some_root g c =
    let s = c.args.self.now in
    let long = row_kept c.args.call s.roots _ (c.args.port ∷ []) c.call_at.ensures.called in
    omega (arith, long, s.some_root)

pub invariant_of-self-clause-few_roots : goal.invariant_of-self-clause-few_roots
invariant_of-self-clause-few_roots g c =
    let s = c.args.self.now in
    let long = row_kept c.args.call s.roots _ (c.args.port ∷ []) c.call_at.ensures.called in
    omega (arith, long, s.few_roots)

pub invariant_of-self-clause-settled : goal.invariant_of-self-clause-settled
invariant_of-self-clause-settled g c = subst IsSettled (sym c.call_at.ensures.called)
    (settled_called c.args.call c.args.self.now.roots (c.args.port ∷ []) c.args.self.now.settled)

pub invariant_of-self-clause-sane : goal.invariant_of-self-clause-sane
invariant_of-self-clause-sane g c = λ none.
    subst Consistent (sym c.call_at.ensures.called)
    (sane_called_at c.args.call c.args.self.now.roots (c.args.port ∷ [])
    (c.args.self.now.sane none))

pub returns-clause-roots : goal.returns-clause-roots
returns-clause-roots g c =
    row_kept c.args.call c.args.self.now.roots _ (c.args.port ∷ []) c.call_at.ensures.called
