use Rattle.std.proofs.Common.{◌∙◌, refl, subst, sym}
use Rattle.std.proofs.Math.Logic.{∥∥₁_map}
use Rattle.usb_stream.specs.{kept_of, unread_of, written_of}
use Rattle.usb_live.specs.{CourseTo}
use Rattle.usb_live.proofs.Courses.{nothing_is, wait_on}
use Rattle.usb_live.proofs.bus.CourseBus.wait.Goals as goal

pub invariant_of-self : goal.invariant_of-self
invariant_of-self g c = rw (c.stage_of-self.ensures, c.owed_by-self.ensures) (record {
  bounded = c.args.self.now.bounded;
  course = ∥∥₁_map c.args.self.now.course
      (λ x. wait_on g.R.Read.remaining g.W.Write.contents g.B.Begun.host
      c.args.self.now.listings g.B.Begun.unread g.B.Begun.before c.args.self.now.bus
      c.wait-answer.new.self c.args.self.now.stage
      c.wait-answer.result (kept_of c.args.self.now.bus).fault refl c.wait-answer.ensures.again
      c.wait-answer.ensures.asks (subst (λ o. CourseTo c.args.self.now.stage o g.B.Begun.host
      c.args.self.now.listings g.B.Begun.unread g.B.Begun.before (unread_of g.R.Read.remaining
      c.args.self.now.bus)
      (written_of g.W.Write.contents c.args.self.now.bus) (kept_of c.args.self.now.bus))
      (nothing_is c.args.self.now.owed (sym c.is_nothing.ensures ∙ c.if-not-is_nothing.false))
      x));
})
