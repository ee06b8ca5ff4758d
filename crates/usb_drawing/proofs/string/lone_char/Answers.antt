use Rattle.std.proofs.Common.{◌∙◌, ap, arith}
use Rattle.std.specs.Char.Utf16.{lone_unit_char}
use Rattle.usb_drawing.proofs.Characters.{lone_same}
use Rattle.usb_drawing.proofs.string.lone_char.Goals as goal

pub returns : goal.returns
returns c =
    let same = c.from.ensures in
    lone_same c.from.result c.from_u32.result (omega (arith, same)) c.from_u32.ensures.value
    c.from_u32.ensures.cases ∙ ap lone_unit_char same
