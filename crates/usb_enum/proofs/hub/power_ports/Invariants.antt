use Rattle.std.proofs.Common.{◌*◌, ◌≡◌, None, true}
use Rattle.usb_transfer.specs.{write_bound}
use Rattle.usb_enum.specs.{Gone, OnlyTells, Powered}
use Rattle.usb_enum.proofs.hub.power_ports.Given as goal

abbrev pub invariant-ports : goal.invariant-ports
invariant-ports g l = record {
  gone : Gone g.B.Bus.modelled g.B.Bus.world g.B.Bus.trace g.B.Bus.spent g.B.Bus.ports
      g.B.Bus.failed (OnlyTells l.target.addr) (l.before * write_bound) l.initial.bus None l.bus;
  powered : g.B.Bus.modelled ≡ true
      → Powered l.target l.before (g.B.Bus.world l.initial.bus) (g.B.Bus.world l.bus);
}
