use Rattle.std.proofs.Common.{◌++◌, codes}
use Rattle.usb_entry.specs.{descriptor_line, head_line, identity_lines, name_line, known_speed_line}
use Rattle.usb_entry.proofs.Pieces.{last_one, pieces_more}
use Rattle.usb_entry.proofs.text.push_identity.Goals as goal

pub returns : goal.returns
unfolding identity_lines
returns c =
    let old = c.args.out.now.items in
    let e = c.args.entry.now in
    let notes = c.args.notes.now in
    let name = name_line c.args.name.now in
    let head = head_line notes.product e ++ codes "[[device]]\n" in
    let speed = known_speed_line notes.speed e in
    let first =
    pieces_more old (head_line notes.product e) c.push_head.new.out.items (codes "[[device]]\n")
    c.push_text.new.out.items c.in_ok-push_head.ensures c.in_ok-push_text.ensures in
    let second = pieces_more old head c.push_text.new.out.items name c.push_name.new.out.items first
    c.in_ok-push_name.ensures in
    let third = pieces_more old (head ++ name) c.push_name.new.out.items speed
    c.push_speed.new.out.items second c.in_ok-push_speed.ensures in
    last_one c.push_descriptor.result old (head ++ name ++ speed) c.push_speed.new.out.items
    (descriptor_line e.device) c.push_descriptor.new.out.items third c.push_descriptor.ensures
