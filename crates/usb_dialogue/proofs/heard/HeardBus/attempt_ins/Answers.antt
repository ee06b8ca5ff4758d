use Rattle.std.proofs.Common.{rules, ◌∙◌, ap, length, arith, Ok, Err, refl}
use Rattle.usb_packet.proofs.Interface.{flips_next, flips_none, next_size}
use Rattle.usb_dialogue.specs.HeardRows.{none_heard}
use Rattle.usb_dialogue.proofs.RowLaws.{ends_answered, ends_faulted, heard_more}
use Rattle.usb_dialogue.proofs.heard.HeardBus.attempt_ins.Goals as goal

pub packets-init : goal.packets-init
packets-init g c = (
  omega (arith, ap length c.clear.ensures),
  flips_none c.args.toggle,
  search rules,
  rw c.clear.ensures none_heard,
)

pub packets-preserved : goal.packets-preserved
packets-preserved g c =
    let added = c.if-not-add_full.ensures in
    let turned = c.packets.invariant.1 in (
      ap length added.3 ∙ next_size c.packets.moved c.args.to.max c.packets.got.items added.0
          c.packets.invariant.0 added.2,
      flips_next c.packets.moved c.args.toggle c.packets.due c.other-due.result turned
          c.other-due.ensures,
      search rules,
      heard_more g.B.Begun.answers c.packets.self.answers.items c.args.to c.args.toggle
          c.packets.due c.args.most c.packets.moved _ c.packets.self.so_far
          c.hear_in.new.self.so_far
          c.packets.got.items (Ok c.in-Ok.outcome) c.packets.self.heard turned
          c.packets.invariant.3 c.in-Ok.ensures.gives c.in-Ok.ensures.asks added.0 _
          (ap Ok added.1) added.2 added.3,
    )

pub returns-then-not-add_full-clause-hears : goal.returns-then-not-add_full-clause-hears
returns-then-not-add_full-clause-hears g c =
    let added = c.if-not-add_full.ensures in
    ends_answered g.B.Begun.answers c.packets.self.answers.items c.args.to c.args.toggle
    c.packets.due c.args.most c.packets.moved _ c.packets.self.so_far c.hear_in.new.self.so_far
    c.packets.got.items (Ok c.in-Ok.outcome) c.packets.self.heard c.packets.invariant.1
    c.packets.invariant.3 c.in-Ok.ensures.gives c.in-Ok.ensures.asks c.in-Ok.outcome _
    (search rules) refl added.0 added.1

pub returns-in-Err-clause-hears : goal.returns-in-Err-clause-hears
returns-in-Err-clause-hears g c =
    ends_faulted g.B.Begun.answers c.packets.self.answers.items c.args.to c.args.toggle
    c.packets.due c.args.most c.packets.moved _ c.packets.self.so_far c.hear_in.new.self.so_far
    c.packets.got.items (Err c.in-Err.fault) c.packets.self.heard c.packets.invariant.1
    c.packets.invariant.3 c.in-Err.ensures.gives c.in-Err.ensures.asks c.in-Err.fault
    (search rules) refl
