use Rattle.std.proofs.Common.{◌≡◌, ◌⊎◌, ◌*◌, None, true}
use Rattle.usb_enum.specs.{AtPort, Gone, pass_bound, Misses, NoAnswerTold, Says}
use Rattle.usb_enum.proofs.passes.passes.Given as goal

abbrev pub invariant-loop-pass : goal.invariant-loop-pass
invariant-loop-pass g l = record {
  gone : Gone g.B.Bus.modelled g.B.Bus.world g.B.Bus.trace g.B.Bus.spent g.B.Bus.ports
      g.B.Bus.failed (AtPort l.port l.address) (l._pass * pass_bound l.port) l.initial.bus None
      l.bus;
  silent : g.B.Bus.modelled ≡ true → (l._pass ≡ 0)
      ⊎ NoAnswerTold l.port l.address (g.B.Bus.world l.initial.bus) (g.B.Bus.world l.bus);
  missed : g.B.Bus.modelled ≡ true
      → Misses l.port l.address l._pass (g.B.Bus.world l.initial.bus) (g.B.Bus.world l.bus);
  said : g.B.Bus.modelled ≡ true
      → Says l.port l.address l.initial.said.items l.said.items (g.B.Bus.world l.initial.bus)
      (g.B.Bus.world l.bus);
}
