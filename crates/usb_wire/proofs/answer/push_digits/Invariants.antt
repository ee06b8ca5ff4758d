use Rattle.std.proofs.Common.{◌≡◌, ◌+◌, ◌*◌, ◌++◌, length, drop}
use Rattle.hex.specs.Hex.{encode_upper}
use Rattle.usb_wire.proofs.answer.push_digits.Given as goal

abbrev pub invariant-bytes : goal.invariant-bytes
invariant-bytes l = record {
  room : length l.line.bytes ≡ length l.fn.line.bytes + 2 * l.byte-index;
  text : l.line.bytes ++ encode_upper (drop l.byte-index l.bytes) ≡ l.fn.line.bytes ++ encode_upper
      l.bytes;
}
