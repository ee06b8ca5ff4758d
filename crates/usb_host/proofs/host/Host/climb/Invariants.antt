use Rattle.std.proofs.Common.{◌≡◌, ◌-◌, ◌*◌, ◌≤◌, length, true, Ok}
use Rattle.usb_transfer.specs.{write_bound}
use Rattle.usb_world.specs.{is_way}
use Rattle.usb_host.specs.{OnlyBusSteps, PartCall}
use Rattle.usb_host.proofs.PortDrops.{ClimbedTo}
use Rattle.usb_host.proofs.host.Host.climb.Given as goal

abbrev pub invariant-up : goal.invariant-up
invariant-up g l = record {
  call : PartCall {A = Unit {0}} g.B.Bus.modelled ((7 - length l.path) * write_bound)
      l.initial.self (Ok tt) l.self;
  so : g.B.Bus.modelled ≡ true → ClimbedTo l.initial.path l.path l.initial.self l.self;
  rests : OnlyBusSteps l.initial.self l.self;
  on : is_way l.path l.initial.path ≡ true;
  least : 1 ≤ length l.path;
  most : length l.path ≤ 7;
}

abbrev pub decreases-up : goal.decreases-up
decreases-up g l = length l.path
