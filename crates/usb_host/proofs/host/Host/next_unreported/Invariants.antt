use Rattle.std.proofs.Common.{◌-◌, List, ℕ, IfSome}
use Rattle.usb_port.specs.{IsPath}
use Rattle.usb_table.specs.{ComesAfter}
use Rattle.usb_host.specs.{HasArrived, known_in}
use Rattle.usb_host.proofs.entries.Ranks.{rank_after}
use Rattle.usb_host.proofs.host.Host.next_unreported.Given as goal

abbrev pub invariant-devices : goal.invariant-devices
invariant-devices g l = record {
  passed : (q : List ℕ) → HasArrived (known_in l.self) q → ComesAfter l.last q;
  path : IfSome l.last IsPath;
}

abbrev pub decreases-devices : goal.decreases-devices
decreases-devices g l = 268435456 - rank_after l.last
