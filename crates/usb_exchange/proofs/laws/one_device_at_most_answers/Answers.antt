use Rattle.usb_world.proofs.holders.OneHolderAttempts.{few_answers, no_collision, no_collision_in}
use Rattle.usb_exchange.proofs.laws.one_device_at_most_answers.Goals as goal

pub returns : goal.returns
returns c = record { answers = few_answers; heard = no_collision; line = no_collision_in }
