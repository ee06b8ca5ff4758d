use Rattle.std.proofs.Common.{◌∙◌, ap, arith, sym, is_some}
use Rattle.usb_host.specs.{HostState, known_in, reported_at}
use Rattle.usb_host.proofs.arrivals.News.{next_arrived, none_arrived, passed_next}
use Rattle.usb_host.proofs.entries.Ranks.{rank_most, rank_rises}
use Rattle.usb_host.proofs.host.Host.next_unreported.Goals as goal

pub devices-smaller : goal.devices-smaller
devices-smaller g c =
    let rises = rank_rises c.devices.last c.in-Some.path c.devices.invariant.path
    c.numbers-numbers.ensures.path c.in-Some.ensures.some.stands.after in
    omega (arith, rank_most c.in-Some.path c.numbers-numbers.ensures.path)

pub devices-preserved : goal.devices-preserved
devices-preserved g c =
    let same = ap (λ (h : HostState). is_some (reported_at c.in-Some.path h.reported))
    c.self.view_is in
    record {
      passed = passed_next (known_in c.args.self.now) c.devices.last c.devices.invariant.passed
          c.in-Some.path c.in-Some.ensures.some (sym same ∙ sym c.has.ensures ∙ c.if-not-has.false);
      path = c.numbers-numbers.ensures.path;
    }

pub returns-clause-none : goal.returns-clause-none
returns-clause-none g c =
    none_arrived (known_in c.args.self.now) c.devices.last c.devices.invariant.passed
    c.in_default.ensures.none

pub returns-then-not-has-clause-some : goal.returns-then-not-has-clause-some
returns-then-not-has-clause-some g c =
    let same = ap (λ (h : HostState). is_some (reported_at c.in-Some.path h.reported))
    c.self.view_is in
    next_arrived (known_in c.args.self.now) c.devices.last c.devices.invariant.passed
    c.in-Some.path c.in-Some.ensures.some c.in-Some-number_at.number
    (sym c.in-Some-number_at.ensures.value) (sym same ∙ sym c.has.ensures ∙ c.if-not-has.true)
