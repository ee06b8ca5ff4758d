use Rattle.std.proofs.Common.{◌≡◌, flat_map, take}
use Rattle.usb_page.specs.{shown_byte}
use Rattle.usb_page.proofs.escape.escaped.Given as goal

-- the bytes so far are escaped
abbrev pub invariant-bytes : goal.invariant-bytes
invariant-bytes l = l.out.items ≡ flat_map shown_byte (take l.byte-index l.text)
