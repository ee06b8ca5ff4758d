use Rattle.std.proofs.Common.{◌≡◌, ◌*◌, ◌++◌, length, take, drop}
use Rattle.hex.specs.Hex.{encode_upper}
use Rattle.usb_packet.proofs.text.write_digits.Given as goal

abbrev pub invariant-bytes : goal.invariant-bytes
invariant-bytes l = record {
  room : length l.digits ≡ length l.fn.digits;
  behind : drop (2 * l.i) l.digits ≡ drop (2 * l.i) l.fn.digits;
  text : take (2 * l.i) l.digits ++ encode_upper (drop l.i l.bytes) ≡ encode_upper l.bytes;
}
