use Rattle.std.proofs.Math.Logic.{∥∥₁_map}
use Rattle.usb_live.proofs.Courses.{restart_on}
use Rattle.usb_live.proofs.bus.CourseBusBus.restart_endpoint.Goals as goal

pub invariant_of-self : goal.invariant_of-self
invariant_of-self g c = record {
  bounded = c.args.self.now.bounded;
  course = ∥∥₁_map c.args.self.now.course
      (λ x. restart_on g.R.Read.remaining g.W.Write.contents g.B.Begun.host
      c.args.self.now.listings g.B.Begun.unread g.B.Begun.before c.args.self.now.bus
      c.restart_endpoint.new.self c.args.self.now.stage
      c.args.self.now.owed c.args.address c.args.number c.args.is_in
      c.restart_endpoint.ensures.again c.restart_endpoint.ensures.asks x);
}
