use Rattle.std.proofs.Common.{refl}
use Rattle.usb_world.specs.{attempt_data}
use Rattle.usb_far.specs.{played_of}
use Rattle.usb_far.proofs.Deeds.{played_attempt}
use Rattle.usb_far.proofs.far_end.FarEnd.attempt.Goals as goal

pub returns-clause-done : goal.returns-clause-done
returns-clause-done g c =
    played_attempt (attempt_data c.args.attempt.now) (played_of c.args.self.now) _ _ _ _ _ _
    c.in-Ok.ensures.attempts c.answer_of.ensures c.is_poll-poll.ensures
    c.events_taken-taken.ensures c.unseen_in-self.ensures refl c.in-Ok.ensures.leaves.answered
