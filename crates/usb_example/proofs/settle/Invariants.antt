use Rattle.std.proofs.Common.{◌≡◌, None, true}
use Rattle.usb_example.proofs.settle.Given as goal

abbrev pub invariant-rounds : goal.invariant-rounds
invariant-rounds g l = g.B.Bus.modelled ≡ true → l.initial.host.world.fault ≡ None
    → l.host.world.fault ≡ None
