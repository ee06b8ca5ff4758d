use Rattle.std.proofs.Common.{rules, ◌∙◌, ap, length, arith}
use Rattle.usb_bus.specs.{none_came, one_came}
use Rattle.usb_bus.proofs.MadeRows.{flips_next, flips_none, next_size}
use Rattle.usb_bus.proofs.bus.Bus.attempt_ins.Goals as goal

pub packets-init : goal.packets-init
packets-init g c = (
  omega (arith, ap length c.clear.ensures),
  flips_none c.args.toggle,
  search rules,
  λ known. rw c.clear.ensures none_came,
)

pub packets-preserved : goal.packets-preserved
packets-preserved g c =
    let added = c.if-not-add_full.ensures in
    let turned = c.packets.invariant.1 in (
      ap length added.3 ∙ next_size c.packets.moved c.args.to.max c.packets.got.items added.0
          c.packets.invariant.0 added.2,
      flips_next c.packets.moved c.args.toggle c.packets.due c.other-due.result turned
          c.other-due.ensures,
      search rules,
      λ known. rw added.3 (one_came added.0 (c.packets.invariant.3 known)
          (rw (added.1, turned) at (c.in-Ok.ensures.attempts known)) added.2),
    )
