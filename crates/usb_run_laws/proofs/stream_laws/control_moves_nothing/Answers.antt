use Rattle.usb_run_laws.proofs.Heads.{course_kept}
use Rattle.usb_run_laws.proofs.stream_laws.control_moves_nothing.Goals as goal

pub returns : goal.returns
returns c = λ old new course settled. course_kept course settled
