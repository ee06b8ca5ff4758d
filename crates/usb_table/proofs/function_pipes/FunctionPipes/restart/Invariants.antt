use Rattle.std.proofs.Common.{◌≡◌, true}
use Rattle.usb_bus.specs.{Spends}
use Rattle.usb_table.proofs.function_pipes.FunctionPipes.restart.Given as goal

abbrev pub invariant-ends : goal.invariant-ends
invariant-ends g l = record {
  unspent : Spends g.B.Bus.spent g.B.Bus.ports 0 l.initial.bus l.bus;
  world : g.B.Bus.modelled ≡ true → g.B.Bus.world l.bus ≡ g.B.Bus.world l.initial.bus;
  silent : g.B.Bus.modelled ≡ true → g.B.Bus.trace l.bus ≡ g.B.Bus.trace l.initial.bus;
}
