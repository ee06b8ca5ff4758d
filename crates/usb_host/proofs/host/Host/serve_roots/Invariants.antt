use Rattle.std.proofs.Common.{◌≡◌, ◌-◌, ◌*◌, true, Ok}
use Rattle.usb_host.specs.{RoundCall, handling_bound}
use Rattle.usb_host.proofs.RoundLoops.{RootsHandled}
use Rattle.usb_host.proofs.host.Host.serve_roots.Given as goal

abbrev pub invariant-ports : goal.invariant-ports
invariant-ports g l = record {
  call : RoundCall g.B.Bus.modelled ((l.number - 1) * handling_bound) l.initial.self
      (Ok l.round) l.self;
  so : g.B.Bus.modelled ≡ true → RootsHandled l.number l.round l.initial.self l.self;
}
