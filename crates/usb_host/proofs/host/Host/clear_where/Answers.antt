use Rattle.std.proofs.Common.{refl}
use Rattle.usb_host.proofs.host.Host.clear_where.Goals as goal

pub returns-then-asked-clause-clears : goal.returns-then-asked-clause-clears
returns-then-asked-clause-clears g c known =
    record {
      so = λ yes. c.clear.ensures.clears known;
      not = λ no. absurd (cc (no, c.if-asked.true));
    }

pub returns-else-asked-clause-clears : goal.returns-else-asked-clause-clears
returns-else-asked-clause-clears g c known =
    record { so = λ yes. absurd (cc (yes, c.if-asked.false)); not = λ no. (refl, refl) }
