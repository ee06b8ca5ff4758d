use Rattle.usb_bench_laws.proofs.Placed.{placed_run}
use Rattle.usb_bench_laws.proofs.placed_laws.places_play.Goals as goal

pub returns : goal.returns
returns c = placed_run
