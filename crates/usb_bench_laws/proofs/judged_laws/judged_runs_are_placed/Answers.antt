use Rattle.usb_bench_laws.proofs.Judging.{lines_are_placed}
use Rattle.usb_bench_laws.proofs.judged_laws.judged_runs_are_placed.Goals as goal

pub returns : goal.returns
returns c = lines_are_placed c.places_play.ensures c.others_find_nothing.ensures
