use Rattle.std.proofs.Common.{◌≡◌, ◌-◌, true}
use Rattle.usb_bus.specs.{Traced}
use Rattle.usb_host.proofs.parts.Openings.{powered_world}
use Rattle.usb_host.proofs.host.Host.with_options.Given as goal

abbrev pub invariant-ports : goal.invariant-ports
invariant-ports g l = record {
  ports : g.B.Bus.ports l.bus ≡ g.B.Bus.ports l.initial.bus;
  powered : g.B.Bus.modelled ≡ true → g.B.Bus.world l.bus ≡ powered_world (l.port - 1)
      (g.B.Bus.world l.initial.bus);
  traced : g.B.Bus.modelled ≡ true → Traced (g.B.Bus.world l.initial.bus)
      (g.B.Bus.trace l.initial.bus) (g.B.Bus.world l.bus) (g.B.Bus.trace l.bus);
  silent : g.B.Bus.modelled ≡ true → g.B.Bus.trace l.bus ≡ g.B.Bus.trace l.initial.bus;
}
