use Rattle.std.proofs.Common.{◌∙◌, inr, refl, sym}
use Rattle.usb_far.specs.{played_of}
use Rattle.usb_far.proofs.Deeds.{event_wanted, nothing_wanted, part_went, too_much_wanted}
use Rattle.usb_far.proofs.far_end.FarEnd.wait.Goals as goal

pub returns-then-self-clause-done : goal.returns-then-self-clause-done
returns-then-self-clause-done g c = nothing_wanted (played_of c.args.self.now) _ c.if-self.true refl
    refl

pub returns-in-Some-clause-done : goal.returns-in-Some-clause-done
returns-in-Some-clause-done g c =
    part_went (played_of c.args.self.now) _ c.in-Some.sending c.next_part-wanted.result
    c.if-self.false (sym c.take.ensures.value ∙ c.in-Some.is) c.next_part-wanted.ensures refl refl

pub returns-in-Some-due_wanted-clause-done : goal.returns-in-Some-due_wanted-clause-done
returns-in-Some-due_wanted-clause-done g c =
    event_wanted (played_of c.args.self.now) _ c.in-Ok.due c.in-Some-due_wanted.wanted
    c.if-self.false (sym c.take.ensures.value ∙ c.in_default.is) c.in-Ok.ensures.takes
    (sym c.due_wanted.ensures ∙ c.in-Some-due_wanted.is) refl

pub returns-in-None-clause-fault : goal.returns-in-None-clause-fault
returns-in-None-clause-fault g c =
    inr (too_much_wanted (played_of c.args.self.now) _ c.in-Ok.due c.if-self.false
    (sym c.take.ensures.value ∙ c.in_default.is) c.in-Ok.ensures.takes
    (sym c.due_wanted.ensures ∙ c.in-None.is) (rw c.take.ensures.after refl))
