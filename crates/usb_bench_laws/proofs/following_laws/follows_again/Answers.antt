use Rattle.usb_bench_laws.proofs.Following.{from_last_start}
use Rattle.usb_bench_laws.proofs.following_laws.follows_again.Goals as goal

pub returns : goal.returns
returns c = from_last_start
