use Rattle.usb_host.specs.{hub_poll_bound}
use Rattle.usb_host.proofs.PartCalls.{call_then, round_fails, round_none, round_then, round_wider}
use Rattle.std.proofs.Common.{arith, refl}
use Rattle.usb_host.proofs.rests.RestingRounds.{none_next, next_listed}
use Rattle.usb_host.proofs.entries.Ranks.{rank_after, rank_after_most, rank_more, rank_most}
use Rattle.usb_host.proofs.entries.Ranks.{rank_rises, rank_within}
use Rattle.usb_host.proofs.RoundLoops.{hubs_begin, hubs_cut, hubs_all_handled, hubs_handled}
use Rattle.usb_host.proofs.StepSums.{handed_is}
use Rattle.usb_host.proofs.host.Host.serve_hubs.Goals as goal

pub hubs-init : goal.hubs-init
hubs-init g c = record {
  call = round_none;
  so = λ known. hubs_begin _;
  idle = λ none. (refl, refl);
  path = tt;
}

pub serve_hub-requires : goal.serve_hub-requires
serve_hub-requires g c = next_listed c.in-Some.ensures.some

pub hubs-smaller : goal.hubs-smaller
hubs-smaller g c =
    let rises = rank_rises c.hubs.last c.in-Some.hub c.hubs.invariant.path
    c.numbers-numbers.ensures.path
    c.in-Some.ensures.some.stands.after in
    omega (arith, rank_most c.in-Some.hub c.numbers-numbers.ensures.path)

pub hubs-preserved : goal.hubs-preserved
hubs-preserved g c =
    let i = c.hubs.invariant in
    let next = c.in-Some.ensures.some in
    let is = c.numbers-numbers.ensures.path in
    record {
      call = rw c.and-round.ensures (round_then i.call c.in_ok-serve_hub.ensures.call
          (rank_more hub_poll_bound c.hubs.last c.in-Some.hub i.path is next.stands.after));
      so = λ known. rw c.and-round.ensures (hubs_handled (i.so known) i.path is next
          (c.in_ok-serve_hub.ensures.polls known));
      idle = λ none. absurd (none_next (i.idle none).1 none next);
      path = is;
    }

pub returns-in_err-serve_hub : goal.returns-in_err-serve_hub
returns-in_err-serve_hub g c = record {
  call =
      let i = c.hubs.invariant in
      let is = c.numbers-numbers.ensures.path in
      round_fails c.from_residual.ensures.1 (call_then i.call.part
      c.in_err-serve_hub.ensures.call.part)
      (omega (
        arith,
        rank_rises c.hubs.last c.in-Some.hub i.path is c.in-Some.ensures.some.stands.after,
        rank_most c.in-Some.hub is,
      ));
  hubs = λ known.
      let i = c.hubs.invariant in
      rw (handed_is c.from_residual.ensures.1) (hubs_cut (i.so known) i.path
      c.numbers-numbers.ensures.path c.in-Some.ensures.some (i.call.part.works known)
      (c.in_err-serve_hub.ensures.polls known) (λ none. (i.idle none).1));
}

pub returns : goal.returns
returns g c = record {
  call =
      let i = c.hubs.invariant in
      round_wider i.call
      (rank_within hub_poll_bound (rank_after c.hubs.last) (rank_after_most c.hubs.last i.path));
  hubs = λ known.
      let i = c.hubs.invariant in
      hubs_all_handled c.hubs.last c.hubs.round (i.so known) i.path
      c.in_default.ensures.none c.in_default.ensures.agree i.idle;
}
