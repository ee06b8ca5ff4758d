use Rattle.std.proofs.Common.{◌≡◌, take}
use Rattle.usb_port.specs.{path_text}
use Rattle.usb_port.proofs.path.PortPath.text.Given as goal

abbrev pub invariant-loop-number : goal.invariant-loop-number
invariant-loop-number l = l.text.bytes ≡ path_text (take l.number-index l.number-items)
