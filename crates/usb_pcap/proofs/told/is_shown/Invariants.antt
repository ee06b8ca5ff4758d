use Rattle.std.proofs.Common.{take}
use Rattle.usb_pcap.specs.{Begins}
use Rattle.usb_pcap.proofs.told.is_shown.Given as goal

-- the bytes so far are taken
abbrev pub invariant-bytes : goal.invariant-bytes
invariant-bytes l = Begins (take l.byte-index l.line) l.begun.items
