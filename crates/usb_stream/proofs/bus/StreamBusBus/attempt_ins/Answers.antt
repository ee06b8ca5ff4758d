use Rattle.std.proofs.Common.{rules, ◌≡◌, ◌∙◌, ◌-◌, ◌++◌, ap, sym, refl, length, arith}
use Rattle.usb_packet.proofs.Interface.{flips_next, flips_none, next_size}
use Rattle.usb_stream.specs.{bytes_in, ins_plan, kept_of}
use Rattle.usb_stream.proofs.Rows.{full_moves, ins_as_planned}
use Rattle.usb_stream.proofs.Rows.{none_so_far, not_full, one_so_far, row_answered, row_failed}
use Rattle.usb_stream.proofs.Rows.{row_whole_at}
use Rattle.usb_stream.proofs.bus.StreamBusBus.attempt_ins.Goals as goal

pub packets-init : goal.packets-init
packets-init g c = (
  omega (arith, ap length c.clear.ensures),
  flips_none c.args.toggle,
  search rules,
  λ f is. (refl, refl),
  λ sound. rw c.clear.ensures (none_so_far _ _ _ _ sound),
)

pub packets-preserved : goal.packets-preserved
packets-preserved g c =
    let added = c.if-not-add_full.ensures in
    let turned = c.packets.invariant.1 in (
      ap length added.3 ∙ next_size c.packets.moved c.args.to.max c.packets.got.items added.0
          c.packets.invariant.0 added.2,
      flips_next c.packets.moved c.args.toggle c.packets.due c.other-due.result turned
          c.other-due.ensures,
      search rules,
      λ f is. let so = c.packets.invariant.3 f is in
          let (clash, same) = c.in-Ok.ensures.again f (ap (λ s. (kept_of s).fault) so.1 ∙ is) in cc,
      λ sound. let so = c.packets.invariant.4 sound in
          rw (added.3 ∙ ap (λ b. c.packets.got.items ++ b) (sym (ap bytes_in added.1)))
          (one_so_far
          (ins_plan (kept_of c.args.self.now).rows c.args.to c.args.toggle c.args.most) _
          _ _ c.packets.moved c.packets.got.items _ _ _ _ _ _ c.in-Ok.answer _ _ so
          (ins_as_planned c.args.to c.args.toggle c.packets.due c.args.most c.packets.moved
          (c.args.most - c.packets.moved) _ _ so.rows turned refl) (c.in-Ok.ensures.asks so.sound)
          c.outcome_for-outcome.ensures.value
          (full_moves c.args.to.max c.packets.moved c.args.toggle c.packets.due _ added.0 turned
          added.1 added.2)),
    )

pub returns-then-not-add_full-clause-again : goal.returns-then-not-add_full-clause-again
returns-then-not-add_full-clause-again g c = λ f is. let so = c.packets.invariant.3 f is in
    let (clash, same) = c.in-Ok.ensures.again f (ap (λ s. (kept_of s).fault) so.1 ∙ is) in cc

pub returns-then-not-add_full-clause-asks : goal.returns-then-not-add_full-clause-asks
returns-then-not-add_full-clause-asks g c = λ sound. let so = c.packets.invariant.4 sound in
    let added = c.if-not-add_full.ensures in
    let turned = c.packets.invariant.1 in
    rw added.1 (row_answered
    (ins_plan (kept_of c.args.self.now).rows c.args.to c.args.toggle c.args.most) c.args.most
    c.packets.moved _ _ _ _ _ _ _ _ _ c.packets.got.items _ c.in-Ok.answer _ so
    (omega (arith, c.packets-test.true))
    (ins_as_planned c.args.to c.args.toggle c.packets.due c.args.most c.packets.moved
    (c.args.most - c.packets.moved) _ _ so.rows turned refl) (c.in-Ok.ensures.asks so.sound)
    c.outcome_for-outcome.ensures.value
    (not_full c.args.to.max c.packets.moved c.args.toggle c.packets.due _ turned added.0))

pub returns-in-Err-clause-again : goal.returns-in-Err-clause-again
returns-in-Err-clause-again g c = λ f is. let so = c.packets.invariant.3 f is in
    let (told, same) = c.in-Err.ensures.again f (ap (λ s. (kept_of s).fault) so.1 ∙ is) in (
      same ∙ so.1,
      λ some. let fault : c.in-Err.fault ≡ f = cc in rw (so.0, c.bus_fault.ensures, fault) refl,
    )

pub returns-in-Err-clause-asks : goal.returns-in-Err-clause-asks
returns-in-Err-clause-asks g c = λ sound. let so = c.packets.invariant.4 sound in
    row_failed (ins_plan (kept_of c.args.self.now).rows c.args.to c.args.toggle c.args.most)
    c.args.most c.packets.moved _ _ _ _ _ _ _ _ _ c.packets.got.items _ c.in-Err.fault _ so
    (omega (arith, c.packets-test.true))
    (ins_as_planned c.args.to c.args.toggle c.packets.due c.args.most c.packets.moved
    (c.args.most - c.packets.moved) _ _ so.rows c.packets.invariant.1 refl)
    (c.in-Err.ensures.asks so.sound) c.bus_fault.ensures

pub returns-clause-again : goal.returns-clause-again
returns-clause-again g c = λ f is. let so = c.packets.invariant.3 f is in
    (so.1, λ some. absurd (omega (arith, so.0, c.packets-test.false, some)))

pub returns-clause-asks : goal.returns-clause-asks
returns-clause-asks g c = λ sound.
    row_whole_at (ins_plan (kept_of c.args.self.now).rows c.args.to c.args.toggle c.args.most)
    c.args.most c.packets.moved c.args.most _ _ _ _ _ _ c.packets.got.items
    (c.packets.invariant.4 sound) (omega (arith, c.packets-test.false))
    (omega (arith, c.packets-test.false))
