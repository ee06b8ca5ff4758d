use Rattle.std.proofs.Common.{rules, ◌≡◌, ◌∙◌, sym, ap, subst, ◌<◌, min, length, arith}
use Rattle.usb_world.specs.{FitsMaximum}
use Rattle.std.proofs.lemmas.Bool.{eqb-true}
use Rattle.usb_bus.proofs.MadeRows.{all_left, few_left, flips_next, flips_none, less_left}
use Rattle.usb_bus.proofs.MadeRows.{none_left, nonzero, packet_fits, sent_size}
use Rattle.usb_bus.proofs.MadeRows.{taking_more, taking_none}
use Rattle.usb_bus.proofs.bus.Bus.attempt_outs.Goals as goal

pub packets-init : goal.packets-init
packets-init g c = (
  all_left c.args.to.max (length c.args.bytes.now) c.requires.row.0.least,
  flips_none c.args.toggle,
  search rules,
  λ known. taking_none c.args.to c.args.toggle c.args.bytes.now _ _,
)

pub returns-then-not-is_ack-clause-fits : goal.returns-then-not-is_ack-clause-fits
returns-then-not-is_ack-clause-fits g c =
    let some : 0 < length c.packets.rest.now = nonzero _ _ c.is_empty.ensures c.packets-test.true
    in
    record {
      counts = few_left c.args.to.max (length c.args.bytes.now) c.packets.moved
          (length c.packets.rest.now) c.requires.row.0.least some c.packets.invariant.0;
      fits = subst (λ max. FitsMaximum max c.in-Ok.outcome)
          (ap (λ a. a.max) c.out_attempt-attempt.ensures) c.in-Ok.ensures.fits;
    }

pub packets-preserved : goal.packets-preserved
packets-preserved g c =
    let some : 0 < length c.packets.rest.now = nonzero _ _ c.is_empty.ensures c.packets-test.true
    in
    let is : c.min.result ≡ min (length c.packets.rest.now) c.args.to.max =
    omega (arith, c.min.ensures, c.from.ensures) in (
      less_left c.args.to.max (length c.args.bytes.now) c.packets.moved (length c.packets.rest.now)
          c.min.result (length c.split_at.result.1.now) some is
          (omega (arith, c.split_at.ensures.back_len)) c.packets.invariant.0,
      flips_next c.packets.moved c.args.toggle c.packets.due c.other-due.result
          c.packets.invariant.1 c.other-due.ensures,
      search rules,
      λ known. taking_more (c.packets.invariant.3 known) c.packets.due c.split_at.result.0.now
          c.min.result some is c.split_at.ensures.front c.packets.invariant.1 c.packets.invariant.0
          c.requires.row.0.least c.split_at.result.1.now c.out_attempt-attempt.ensures
          c.split_at.ensures.back
          (rw (c.is_ack.ensures.yes c.if-not-is_ack.false) at (c.in-Ok.ensures.attempts known)),
    )

pub returns-in-Err-clause-attempts : goal.returns-in-Err-clause-attempts
returns-in-Err-clause-attempts g c known =
    let some : 0 < length c.packets.rest.now = nonzero _ _ c.is_empty.ensures c.packets-test.true
    in
    let is : c.min.result ≡ min (length c.packets.rest.now) c.args.to.max =
    omega (arith, c.min.ensures, c.from.ensures) in
    let so_far = c.packets.invariant.3 known in
    let fits = packet_fits so_far c.packets.due c.split_at.result.0.now c.min.result some is
    c.split_at.ensures.front c.packets.invariant.1 c.packets.invariant.0 c.requires.row.0.least in
    record {
      sent = so_far.sent;
      rest = c.packets.rest.now;
      split = so_far.split;
      full = λ more. sent_size so_far more c.packets.invariant.0;
      mid = g.Self.Bus.world c.packets.self;
      between = g.Self.Bus.trace c.packets.self;
      taken = so_far.taken;
      ends = (
        some,
        rw (c.out_attempt-attempt.ensures, c.packets.invariant.1, fits) at
            (c.in-Err.ensures.attempts known),
      );
    }

pub returns-in-Err-clause-fits : goal.returns-in-Err-clause-fits
returns-in-Err-clause-fits g c =
    let some : 0 < length c.packets.rest.now = nonzero _ _ c.is_empty.ensures c.packets-test.true
    in
    record {
      counts = few_left c.args.to.max (length c.args.bytes.now) c.packets.moved
          (length c.packets.rest.now) c.requires.row.0.least some c.packets.invariant.0;
      fits = tt;
    }

pub returns-clause-fits : goal.returns-clause-fits
returns-clause-fits g c =
    let none = eqb-true _ 0 (sym c.is_empty.ensures ∙ c.packets-test.false) in
    record {
      counts = none_left c.args.to.max (length c.args.bytes.now) c.packets.moved
          (length c.packets.rest.now) c.requires.row.0.least none c.packets.invariant.0;
      fits = tt;
    }
