use Rattle.usb_bench_laws.proofs.Replying.{lines_as_far}
use Rattle.usb_bench_laws.proofs.judged_laws.judged_host_replies_as_far.Goals as goal

pub returns : goal.returns
returns c = lines_as_far
