use Rattle.std.proofs.Common.{rules}
use Rattle.usb_class_drivers.specs.Transports.{put_not_concluded, put_not_given, put_not_sent}
use Rattle.usb_class_drivers.specs.Transports.{was_put}
use Rattle.usb_class_drivers.proofs.Steps.{concludes_of, gives_of}
use Rattle.usb_class_drivers.proofs.transport.Transport.put.Goals as goal

pub returns-in_err-ask-clause-puts : goal.returns-in_err-ask-clause-puts
returns-in_err-ask-clause-puts g c = put_not_sent c.in_err-ask.field-0.0
    (rw c.in_err-ask.was at c.ask.ensures.sends) (search rules)

pub returns-in_err-whole-clause-puts : goal.returns-in_err-whole-clause-puts
returns-in_err-whole-clause-puts g c = put_not_given c.ask.new.host c.in_err-whole.field-0.0
    (rw c.in_ok-ask.was at c.ask.ensures.sends)
    (gives_of c.args.self.now (rw (c.ask.ensures.tag, c.in_err-whole.was) at c.give.ensures))
    (search rules)

pub returns-in_err-answer-clause-puts : goal.returns-in_err-answer-clause-puts
returns-in_err-answer-clause-puts g c = put_not_concluded c.ask.new.host c.give.new.host
    c.in_ok-whole.whole c.in_err-answer.field-0.0 (rw c.in_ok-ask.was at c.ask.ensures.sends)
    (gives_of c.args.self.now (rw (c.ask.ensures.tag, c.in_ok-whole.was) at c.give.ensures))
    (concludes_of c.args.self.now
    (rw (c.ask.ensures.tag, c.in_err-answer.was) at c.conclude.ensures)) (search rules)

pub returns-clause-puts : goal.returns-clause-puts
returns-clause-puts g c = was_put c.ask.new.host c.give.new.host c.in_ok-whole.whole
    c.in_ok-answer.answer c.residue_of.result (rw c.in_ok-ask.was at c.ask.ensures.sends)
    (gives_of c.args.self.now (rw (c.ask.ensures.tag, c.in_ok-whole.was) at c.give.ensures))
    (concludes_of c.args.self.now
    (rw (c.ask.ensures.tag, c.in_ok-answer.was) at c.conclude.ensures))
    (rw c.as_slice.ensures.value at c.residue_of.ensures) c.put.ensures
