use Rattle.usb_run_laws.proofs.Stretches.{run_is_stretch}
use Rattle.usb_run_laws.proofs.stream_laws.runs_are_stretches.Goals as goal

pub returns : goal.returns
returns c = run_is_stretch
