use Rattle.std.proofs.Common.{◌<◌, ◌∙◌, ◌∷◌, ◌++◌, [], ap, length, subst, sym, List}
use Rattle.usb_packet.proofs.Interface.{nonzero}
use Rattle.usb_dialogue.specs.{Answer}
use Rattle.usb_dialogue.proofs.RowLaws.{Cut, cut_more, cut_none}
use Rattle.usb_dialogue.proofs.row.packets_of.Goals as goal

pub packets-init : goal.packets-init
packets-init c = subst (λ (xs : List Answer).
    Cut c.args.first c.args.max c.args.statuses c.args.bytes.now xs c.args.bytes.now c.args.first)
    (sym c.new-answers.ensures.items)
    (cut_none c.args.first c.args.max c.args.statuses c.args.bytes.now c.requires.full)

pub packets-preserved : goal.packets-preserved
packets-preserved c =
    let some : 0 < length c.packets.rest.now = nonzero _ _ c.is_empty.ensures c.packets-test.true
    in
    cut_more c.packets.invariant c.split_at.result.0.now c.split_at.result.1.now
    c.other-due.result c.push.new.self.items some c.split_at.ensures.by_index.0
    c.split_at.ensures.front_len c.other-due.ensures
    (c.in_ok-push.ensures.items
    ∙ ap (λ (x : Answer). c.packets.answers.items ++ x ∷ []) c.packet_answer.ensures)
