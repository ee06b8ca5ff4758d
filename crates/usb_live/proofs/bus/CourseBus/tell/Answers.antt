use Rattle.std.proofs.Common.{◌∙◌, sym, ap, refl}
use Rattle.std.proofs.Math.Logic.{∥∥₁_map}
use Rattle.usb_watch.specs.{pipe_of}
use Rattle.usb_stream.specs.{kept_of}
use Rattle.usb_live.proofs.Courses.{tell_off, tell_on}
use Rattle.usb_live.proofs.bus.CourseBus.tell.Goals as goal

pub invariant_of-self : goal.invariant_of-self
invariant_of-self g c = rw (c.stage_behind-stage.ensures, c.number-number.ensures) (record {
  bounded = c.args.self.now.bounded;
  course = ∥∥₁_map c.args.self.now.course
      (λ x. tell_on g.R.Read.remaining g.W.Write.contents g.B.Begun.host
      c.args.self.now.listings g.B.Begun.unread g.B.Begun.before c.args.self.now.bus
      c.tell-told.new.self c.args.self.now.stage
      c.args.self.now.owed c.args.item.now c.args.text.now c.tell-told.result
      (kept_of c.args.self.now.bus).fault (sym c.is_ok.ensures.value ∙ c.if-is_ok.true)
      c.requires.text c.requires.owed c.requires.shown refl c.tell-told.ensures.again
      (ap (pipe_of g.R.Read.remaining) c.tell-told.ensures.reader)
      c.tell-told.ensures.told x);
})

pub invariant_of-self-else-is_ok : goal.invariant_of-self-else-is_ok
invariant_of-self-else-is_ok g c = record {
  bounded = c.args.self.now.bounded;
  course = ∥∥₁_map c.args.self.now.course
      (λ x. tell_off g.R.Read.remaining g.W.Write.contents g.B.Begun.host
      c.args.self.now.listings g.B.Begun.unread g.B.Begun.before c.args.self.now.bus
      c.tell-told.new.self c.args.self.now.stage
      c.args.self.now.owed c.args.item.now c.args.text.now c.tell-told.result
      (sym c.is_ok.ensures.value ∙ c.if-is_ok.false) c.requires.text c.requires.owed
      c.requires.shown c.tell-told.ensures.again
      (ap (pipe_of g.R.Read.remaining) c.tell-told.ensures.reader)
      c.tell-told.ensures.told x);
}
