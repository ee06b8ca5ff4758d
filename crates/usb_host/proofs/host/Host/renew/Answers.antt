use Rattle.usb_host.proofs.PartCalls.{port_forgets, port_renews}
use Rattle.std.proofs.Common.{refl}
use Rattle.usb_host.proofs.PortServes.{forgot_placed}
use Rattle.usb_host.proofs.host.Host.renew.Goals as goal

pub discover-requires-clause-port : goal.discover-requires-clause-port
discover-requires-clause-port g c =
    forgot_placed c.forget.ensures
    c.requires

pub returns-then-status : goal.returns-then-status
returns-then-status g c = record {
  call = port_renews c.forget.ensures c.discover.ensures.call;
  renews = λ known. record {
    mid = c.forget.new.self;
    forgot = c.forget.ensures;
    none = λ off. absurd (cc (off, c.if-status.true));
    entered = λ on. c.discover.ensures.entered;
    found = λ on. c.discover.ensures.finds known;
  };
}

pub returns-else-status : goal.returns-else-status
returns-else-status g c = record {
  call = port_forgets c.forget.ensures;
  renews = λ known. record {
    mid = c.forget.new.self;
    forgot = c.forget.ensures;
    none = λ off. (refl, refl);
    entered = λ on. absurd (cc (on, c.if-status.false));
    found = λ on. absurd (cc (on, c.if-status.false));
  };
}
