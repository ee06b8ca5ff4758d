use Rattle.usb_run_laws.proofs.Streams.{stood_or_found}
use Rattle.usb_run_laws.proofs.stream_laws.transfers_join.Goals as goal

pub returns : goal.returns
returns c = stood_or_found
