use Rattle.std.proofs.Math.Logic.{∥∥₁_map}
use Rattle.usb_live.proofs.Courses.{ins_on}
use Rattle.usb_live.proofs.bus.CourseBusBus.attempt_ins.Goals as goal

pub invariant_of-self : goal.invariant_of-self
invariant_of-self g c = record {
  bounded = c.args.self.now.bounded;
  course = ∥∥₁_map c.args.self.now.course
      (λ x. ins_on g.R.Read.remaining g.W.Write.contents g.B.Begun.host
      c.args.self.now.listings g.B.Begun.unread g.B.Begun.before c.args.self.now.bus
      c.attempt_ins.new.self c.args.self.now.stage
      c.args.self.now.owed c.args.to c.args.toggle c.args.most c.attempt_ins.result
      c.attempt_ins.new.got.items c.attempt_ins.ensures.again c.attempt_ins.ensures.asks x);
}
