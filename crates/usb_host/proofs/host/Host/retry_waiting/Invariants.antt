use Rattle.std.proofs.Common.{◌≡◌, ◌-◌, ◌*◌, true, IfSome, Ok}
use Rattle.usb_port.specs.{IsPath}
use Rattle.usb_host.specs.{RoundCall, handling_bound, NoneWait, Quiet}
use Rattle.usb_host.proofs.entries.Ranks.{rank_after}
use Rattle.usb_host.proofs.RoundLoops.{WaitingHandled}
use Rattle.usb_host.proofs.host.Host.retry_waiting.Given as goal

abbrev pub invariant-waiting : goal.invariant-waiting
invariant-waiting g l = record {
  call : RoundCall g.B.Bus.modelled (rank_after l.last * handling_bound) l.initial.self
      (Ok l.round) l.self;
  so : g.B.Bus.modelled ≡ true → WaitingHandled l.last l.round l.initial.self l.self;
  idle : NoneWait l.initial.self.entries → (l.round ≡ Quiet) × (l.self ≡ l.initial.self);
  path : IfSome l.last IsPath;
}

abbrev pub decreases-waiting : goal.decreases-waiting
decreases-waiting g l = 268435456 - rank_after l.last
