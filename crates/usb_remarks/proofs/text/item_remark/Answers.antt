use Rattle.std.proofs.Common.{◌<◌, ap, arith, drop, length, length-drop, sym, ◌∙◌}
use Rattle.std.proofs.lemmas.List.{take_rest}
use Rattle.usb_remarks.proofs.Items.{items_first, items_found, items_next, items_none}
use Rattle.usb_remarks.proofs.text.item_remark.Goals as goal

pub items-init : goal.items-init
items-init c = items_first c.args.text.now

pub returns-in-Some : goal.returns-in-Some
returns-in-Some c =
    let rest = take_rest c.args.text.now c.items.at in
    let some : 0 < length (drop c.items.at c.args.text.now) =
    omega (arith, length-drop c.items.at c.args.text.now, c.items-test.true) in
    items_found c.args.text.now _ c.items.at c.in-Some.fault rest
    (omega (arith, ap length rest, some))
    (sym c.front_fault.ensures ∙ c.in-Some.is) c.items.invariant

pub items-preserved : goal.items-preserved
items-preserved c =
    let rest = take_rest c.args.text.now c.items.at in
    let some : 0 < length (drop c.items.at c.args.text.now) =
    omega (arith, length-drop c.items.at c.args.text.now, c.items-test.true) in
    rw c.from-at.ensures (items_next c.args.text.now _ c.items.at rest
    (omega (arith, ap length rest, some)) (sym c.front_fault.ensures ∙ c.in_default.is)
    c.items.invariant)

pub returns : goal.returns
returns c = items_none c.args.text.now c.items.at c.items-test.false c.items.invariant
