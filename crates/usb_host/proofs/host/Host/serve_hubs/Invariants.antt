use Rattle.std.proofs.Common.{◌≡◌, ◌-◌, ◌*◌, true, [], IfSome, Ok}
use Rattle.usb_port.specs.{IsPath}
use Rattle.usb_host.specs.{RoundCall, hub_poll_bound, Quiet}
use Rattle.usb_host.proofs.entries.Ranks.{rank_after}
use Rattle.usb_host.proofs.RoundLoops.{HubsHandled}
use Rattle.usb_host.proofs.host.Host.serve_hubs.Given as goal

abbrev pub invariant-hubs : goal.invariant-hubs
invariant-hubs g l = record {
  call : RoundCall g.B.Bus.modelled (rank_after l.last * hub_poll_bound) l.initial.self
      (Ok l.round) l.self;
  so : g.B.Bus.modelled ≡ true → HubsHandled l.last l.round l.initial.self l.self;
  idle : l.initial.self.entries ≡ [] → (l.round ≡ Quiet) × (l.self ≡ l.initial.self);
  path : IfSome l.last IsPath;
}

abbrev pub decreases-hubs : goal.decreases-hubs
decreases-hubs g l = 268435456 - rank_after l.last
