use Rattle.usb_bench_laws.proofs.Waits.{nothing_found}
use Rattle.usb_bench_laws.proofs.placed_laws.others_find_nothing.Goals as goal

pub returns : goal.returns
returns c = nothing_found
