use Rattle.usb_bench_laws.proofs.Judging.{hosts_are_placed}
use Rattle.usb_bench_laws.proofs.judged_laws.judged_hosts_are_placed.Goals as goal

pub returns : goal.returns
returns c = hosts_are_placed c.judged_runs_are_placed.ensures
