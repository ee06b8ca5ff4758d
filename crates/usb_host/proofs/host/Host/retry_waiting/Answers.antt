use Rattle.usb_host.specs.{handling_bound}
use Rattle.usb_host.proofs.PartCalls.{call_then, round_fails, round_none, round_then, round_wider}
use Rattle.std.proofs.Common.{arith, refl}
use Rattle.usb_host.proofs.entries.Ranks.{rank_after, rank_after_most, rank_more, rank_most}
use Rattle.usb_host.proofs.entries.Ranks.{rank_rises, rank_within}
use Rattle.usb_host.proofs.RoundLoops.{waiting_begin, waiting_cut, waiting_end, waiting_handled}
use Rattle.usb_host.proofs.payments.RoundPayments.{one_waits}
use Rattle.usb_host.proofs.StepSums.{handed_is}
use Rattle.usb_host.proofs.host.Host.retry_waiting.Goals as goal

pub waiting-init : goal.waiting-init
waiting-init g c = record {
  call = round_none;
  so = λ known. waiting_begin _;
  idle = λ none. (refl, refl);
  path = tt;
}

pub waiting-smaller : goal.waiting-smaller
waiting-smaller g c =
    let rises = rank_rises c.waiting.last c.in-Some.path c.waiting.invariant.path
    c.numbers-numbers.ensures.path c.in-Some.ensures.some.1 in
    omega (arith, rank_most c.in-Some.path c.numbers-numbers.ensures.path)

pub waiting-preserved : goal.waiting-preserved
waiting-preserved g c =
    let i = c.waiting.invariant in
    let some = c.in-Some.ensures.some in
    let is = c.numbers-numbers.ensures.path in
    record {
      call = rw c.and-round.ensures (round_then i.call c.in_ok-retry_one.ensures.call
          (rank_more handling_bound c.waiting.last c.in-Some.path i.path is some.1));
      so = λ known. rw c.and-round.ensures (waiting_handled (i.so known) i.path is some.0 some.1
          (c.in_ok-retry_one.ensures.looks known));
      idle = λ none. absurd (one_waits (i.idle none).1 some.0 none);
      path = is;
    }

pub returns-in_err-retry_one : goal.returns-in_err-retry_one
returns-in_err-retry_one g c = record {
  call =
      let i = c.waiting.invariant in
      let is = c.numbers-numbers.ensures.path in
      round_fails c.from_residual.ensures.1 (call_then i.call.part
      c.in_err-retry_one.ensures.call.part)
      (omega (
        arith,
        rank_rises c.waiting.last c.in-Some.path i.path is c.in-Some.ensures.some.1,
        rank_most c.in-Some.path is,
      ));
  looks = λ known.
      let i = c.waiting.invariant in
      let some = c.in-Some.ensures.some in
      rw (handed_is c.from_residual.ensures.1) (waiting_cut (i.so known) i.path
      c.numbers-numbers.ensures.path some.0 some.1 (i.call.part.works known)
      (c.in_err-retry_one.ensures.looks known) (λ none. (i.idle none).1));
}

pub returns : goal.returns
returns g c = record {
  call =
      let i = c.waiting.invariant in
      round_wider i.call
      (rank_within handling_bound (rank_after c.waiting.last)
      (rank_after_most c.waiting.last i.path));
  looks = λ known.
      let i = c.waiting.invariant in
      waiting_end (i.so known) i.path
      c.in_default.ensures.agree c.in_default.ensures.none i.idle;
}
