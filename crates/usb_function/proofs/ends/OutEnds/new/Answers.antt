use Rattle.std.proofs.Common.{◌≡◌, ◌∙◌, sym, ap, refl, false, is_some, length, arith, []}
use Rattle.std.proofs.lemmas.Bool.Decides.{nat_tests}
use Rattle.usb_device.specs.{joined, plugged_head}
use Rattle.usb_device.proofs.JoinedRows.{joined-plain, joined-plugged, numbered-all}
use Rattle.usb_function.proofs.ends.OutEnds.new.Goals as goal

pub returns-then-not-is_empty : goal.returns-then-not-is_empty
returns-then-not-is_empty c = rw (c.plug_outs.ensures, c.new.ensures.items)
    (ap (λ heads. joined heads []) (numbered-all (plugged_head c.args.spec.now) _ refl)
    ∙ joined-plugged c.args.spec.now)

pub returns-else-is_some : goal.returns-else-is_some
returns-else-is_some c =
    let none_said : length c.args.spec.now.endpoints ≡ 0 = grind (
      arith,
      nat_tests,
      c.is_empty.ensures,
      c.if-not-is_empty.false,
      c.as_slice.ensures.value,
      c.endpoints.ensures.value,
    ) in
    let never : is_some c.args.spec.now.halt_after ≡ false =
    ap is_some (sym c.halt_after.ensures.value) ∙ sym c.is_some.ensures ∙ c.if-is_some.false in
    rw c.new.ensures.items (joined-plain c.args.spec.now none_said never)
