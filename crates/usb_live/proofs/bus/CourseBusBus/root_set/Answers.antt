use Rattle.std.proofs.Math.Logic.{∥∥₁_map}
use Rattle.usb_port.specs.{set_call}
use Rattle.usb_live.proofs.Courses.{call_on}
use Rattle.usb_live.proofs.bus.CourseBusBus.root_set.Goals as goal

pub invariant_of-self : goal.invariant_of-self
invariant_of-self g c = record {
  bounded = c.args.self.now.bounded;
  course = ∥∥₁_map c.args.self.now.course
      (λ x. call_on g.R.Read.remaining g.W.Write.contents g.B.Begun.host
      c.args.self.now.listings g.B.Begun.unread g.B.Begun.before c.args.self.now.bus
      c.root_set.new.self c.args.self.now.stage
      c.args.self.now.owed c.args.port (set_call c.args.feature) c.root_set.ensures.again
      c.root_set.ensures.asks x);
}
