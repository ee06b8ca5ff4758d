use Rattle.usb_device.proofs.progress.SinkProgress.{sink_on, sink_only}
use Rattle.usb_function.proofs.laws.sink_goes_on.Goals as goal

pub returns-clause-sink : goal.returns-clause-sink
returns-clause-sink c = sink_on

pub returns-clause-frame : goal.returns-clause-frame
returns-clause-frame c = sink_only
