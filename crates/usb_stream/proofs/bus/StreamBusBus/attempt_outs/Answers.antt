use Rattle.std.proofs.Common.{rules, ◌≡◌, ◌∙◌, ◌<◌, ◌*◌, ◌+◌, ◌++◌, ap, sym, refl, length, arith}
use Rattle.std.proofs.Common.{min, []}
use Rattle.std.specs.Int.{div_ceil}
use Rattle.usb_packet.proofs.Interface.{flips_next, flips_none, nonzero}
use Rattle.usb_stream.specs.{bytes_in, kept_of, outs_plan}
use Rattle.usb_stream.proofs.Rows.{all_moved, few_moved, left_size}
use Rattle.usb_stream.proofs.Rows.{none_so_far, one_so_far, outs_as_planned, rest_first}
use Rattle.usb_stream.proofs.Rows.{rest_more, row_answered}
use Rattle.usb_stream.proofs.Rows.{row_failed, row_whole, some_left, zero_of}
use Rattle.usb_stream.proofs.bus.StreamBusBus.attempt_outs.Goals as goal

pub packets-init : goal.packets-init
packets-init g c = (
  rest_first c.args.bytes.now c.args.to.max,
  omega (arith, c.requires.row.0.least),
  flips_none c.args.toggle,
  search rules,
  λ f is. (refl, refl),
  λ sound. ([], none_so_far _ _ _ _ sound),
)

pub packets-preserved : goal.packets-preserved
packets-preserved g c =
    let some : 0 < length c.packets.rest.now = nonzero _ _ c.is_empty.ensures c.packets-test.true
    in
    let is : c.min.result ≡ min (length c.packets.rest.now) c.args.to.max =
    omega (arith, c.min.ensures, c.from.ensures) in
    let less = some_left c.args.bytes.now c.packets.rest.now c.packets.moved c.args.to.max
    c.packets.invariant.0 some in
    let more : (c.packets.moved + 1) * c.args.to.max ≡ c.packets.moved * c.args.to.max +
    c.args.to.max = omega arith in (
      c.split_at.ensures.back ∙ rest_more c.args.bytes.now c.packets.rest.now c.packets.moved
          c.args.to.max c.min.result c.packets.invariant.0 is,
      omega (arith, more, less),
      flips_next c.packets.moved c.args.toggle c.packets.due c.other-due.result
          c.packets.invariant.2 c.other-due.ensures,
      search rules,
      λ f is. let so = c.packets.invariant.4 f is in
          let (clash, same) = c.in-Ok.ensures.again f (ap (λ s. (kept_of s).fault) so.1 ∙ is) in cc,
      λ sound. let (got, so) = c.packets.invariant.5 sound in (
        got ++ bytes_in c.outcome_for-outcome.result,
        one_so_far (outs_plan (kept_of c.args.self.now).rows c.args.to c.args.toggle
            c.args.bytes.now) _ _ _ c.packets.moved got _ _ _ _ _ _ c.in-Ok.answer _ _ so
            (outs_as_planned c.args.to c.args.toggle c.packets.due c.args.bytes.now
            c.packets.rest.now c.packets.moved _ _ so.rows c.packets.invariant.2
            c.packets.invariant.0) (c.in-Ok.ensures.asks so.sound)
            c.outcome_for-outcome.ensures.value (sym c.is_ack.ensures ∙ c.if-not-is_ack.false),
      ),
    )

pub returns-then-not-is_ack-clause-again : goal.returns-then-not-is_ack-clause-again
returns-then-not-is_ack-clause-again g c = λ f is. let so = c.packets.invariant.4 f is in
    let (clash, same) = c.in-Ok.ensures.again f (ap (λ s. (kept_of s).fault) so.1 ∙ is) in cc

pub returns-then-not-is_ack-clause-asks : goal.returns-then-not-is_ack-clause-asks
returns-then-not-is_ack-clause-asks g c = λ sound.
    let (got, so) = c.packets.invariant.5 sound in
    let some : 0 < length c.packets.rest.now = nonzero _ _ c.is_empty.ensures c.packets-test.true
    in
    let less = some_left c.args.bytes.now c.packets.rest.now c.packets.moved c.args.to.max
    c.packets.invariant.0 some in (
      got,
      row_answered (outs_plan (kept_of c.args.self.now).rows c.args.to c.args.toggle
          c.args.bytes.now) (div_ceil (length c.args.bytes.now) c.args.to.max) c.packets.moved _ _
          _ _ _ _ _ _ _ got _ c.in-Ok.answer _ so
          (few_moved (length c.args.bytes.now) c.packets.moved c.args.to.max
          c.requires.row.0.least less)
          (outs_as_planned c.args.to c.args.toggle c.packets.due c.args.bytes.now
          c.packets.rest.now c.packets.moved _ _ so.rows c.packets.invariant.2
          c.packets.invariant.0) (c.in-Ok.ensures.asks so.sound)
          c.outcome_for-outcome.ensures.value (sym c.is_ack.ensures ∙ c.if-not-is_ack.true),
    )

pub returns-then-not-is_ack-clause-fits : goal.returns-then-not-is_ack-clause-fits
returns-then-not-is_ack-clause-fits g c =
    let some : 0 < length c.packets.rest.now = nonzero _ _ c.is_empty.ensures c.packets-test.true
    in
    record {
      counts = few_moved (length c.args.bytes.now) c.packets.moved c.args.to.max
          c.requires.row.0.least (some_left c.args.bytes.now c.packets.rest.now c.packets.moved
          c.args.to.max c.packets.invariant.0 some);
      fits = c.outcome_for-outcome.ensures.fits;
    }

pub returns-in-Err-clause-again : goal.returns-in-Err-clause-again
returns-in-Err-clause-again g c = λ f is. let so = c.packets.invariant.4 f is in
    let (told, same) = c.in-Err.ensures.again f (ap (λ s. (kept_of s).fault) so.1 ∙ is) in (
      same ∙ so.1,
      λ some. let fault : c.in-Err.fault ≡ f = cc in rw (so.0, c.bus_fault.ensures, fault) refl,
    )

pub returns-in-Err-clause-asks : goal.returns-in-Err-clause-asks
returns-in-Err-clause-asks g c = λ sound. let (got, so) = c.packets.invariant.5 sound in
    let some : 0 < length c.packets.rest.now = nonzero _ _ c.is_empty.ensures c.packets-test.true
    in
    let less = some_left c.args.bytes.now c.packets.rest.now c.packets.moved c.args.to.max
    c.packets.invariant.0 some in (
      got,
      row_failed (outs_plan (kept_of c.args.self.now).rows c.args.to c.args.toggle
          c.args.bytes.now) (div_ceil (length c.args.bytes.now) c.args.to.max) c.packets.moved _ _
          _ _ _ _ _ _ _ got _ c.in-Err.fault _ so
          (few_moved (length c.args.bytes.now) c.packets.moved c.args.to.max
          c.requires.row.0.least less)
          (outs_as_planned c.args.to c.args.toggle c.packets.due c.args.bytes.now
          c.packets.rest.now c.packets.moved _ _ so.rows c.packets.invariant.2
          c.packets.invariant.0) (c.in-Err.ensures.asks so.sound) c.bus_fault.ensures,
    )

pub returns-in-Err-clause-fits : goal.returns-in-Err-clause-fits
returns-in-Err-clause-fits g c =
    let some : 0 < length c.packets.rest.now = nonzero _ _ c.is_empty.ensures c.packets-test.true
    in
    record {
      counts = few_moved (length c.args.bytes.now) c.packets.moved c.args.to.max
          c.requires.row.0.least (some_left c.args.bytes.now c.packets.rest.now c.packets.moved
          c.args.to.max c.packets.invariant.0 some);
      fits = tt;
    }

pub returns-clause-again : goal.returns-clause-again
returns-clause-again g c = λ f is. let so = c.packets.invariant.4 f is in
    let none = zero_of _ _ c.is_empty.ensures c.packets-test.false in
    let size = left_size c.args.bytes.now c.packets.rest.now (c.packets.moved * c.args.to.max)
    c.packets.invariant.0 in
    let zero = ap (λ n. n * c.args.to.max) so.0 in
    (so.1, λ some. absurd (omega (arith, size, zero, none, some)))

pub returns-clause-asks : goal.returns-clause-asks
returns-clause-asks g c = λ sound. let (got, so) = c.packets.invariant.5 sound in
    let none = zero_of _ _ c.is_empty.ensures c.packets-test.false in (
      got,
      row_whole (outs_plan (kept_of c.args.self.now).rows c.args.to c.args.toggle
          c.args.bytes.now) (div_ceil (length c.args.bytes.now) c.args.to.max) c.packets.moved _ _
          _ _ _ _ got so
          (all_moved c.args.bytes.now c.packets.rest.now c.packets.moved c.args.to.max
          c.requires.row.0.least c.packets.invariant.0 none c.packets.invariant.1),
    )

pub returns-clause-fits : goal.returns-clause-fits
returns-clause-fits g c =
    let none = zero_of _ _ c.is_empty.ensures c.packets-test.false in
    record {
      counts = all_moved c.args.bytes.now c.packets.rest.now c.packets.moved c.args.to.max
          c.requires.row.0.least c.packets.invariant.0 none c.packets.invariant.1;
      fits = tt;
    }
