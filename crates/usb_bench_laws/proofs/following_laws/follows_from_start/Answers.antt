use Rattle.usb_bench_laws.proofs.Following.{from_start}
use Rattle.usb_bench_laws.proofs.following_laws.follows_from_start.Goals as goal

pub returns : goal.returns
returns c = from_start
