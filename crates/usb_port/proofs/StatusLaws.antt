-- The bits of a status, read back.
use Rattle.std.proofs.Common.{◌≡◌, ◌+◌, ◌*◌, Bool, true, false, ◌&&◌, refl}
use Rattle.usb_port.specs.{PortState, bit, status_of, is_attached, is_low, has_bit, status_in, seen}

low_of_two : (b c : Bool) → has_bit (bit b + 2 * bit c) 0 ≡ b
unfolding has_bit
low_of_two true true = refl
low_of_two true false = refl
low_of_two false true = refl
low_of_two false false = refl

high_of_two : (b c : Bool) → has_bit (bit b + 2 * bit c) 1 ≡ c
unfolding has_bit
high_of_two true true = refl
high_of_two true false = refl
high_of_two false true = refl
high_of_two false false = refl

record Changes (b c d : Bool) : Type 0 where
  first : has_bit (bit b + 2 * bit c + 16 * bit d) 0 ≡ b
  second : has_bit (bit b + 2 * bit c + 16 * bit d) 1 ≡ c
  third : has_bit (bit b + 2 * bit c + 16 * bit d) 2 ≡ false
  fourth : has_bit (bit b + 2 * bit c + 16 * bit d) 3 ≡ false
  fifth : has_bit (bit b + 2 * bit c + 16 * bit d) 4 ≡ d

change_bits : (b c d : Bool) → Changes b c d
unfolding has_bit
change_bits true true true = record {
  first = refl;
  second = refl;
  third = refl;
  fourth = refl;
  fifth = refl;
}
change_bits true true false = record {
  first = refl;
  second = refl;
  third = refl;
  fourth = refl;
  fifth = refl;
}
change_bits true false true = record {
  first = refl;
  second = refl;
  third = refl;
  fourth = refl;
  fifth = refl;
}
change_bits true false false = record {
  first = refl;
  second = refl;
  third = refl;
  fourth = refl;
  fifth = refl;
}
change_bits false true true = record {
  first = refl;
  second = refl;
  third = refl;
  fourth = refl;
  fifth = refl;
}
change_bits false true false = record {
  first = refl;
  second = refl;
  third = refl;
  fourth = refl;
  fifth = refl;
}
change_bits false false true = record {
  first = refl;
  second = refl;
  third = refl;
  fourth = refl;
  fifth = refl;
}
change_bits false false false = record {
  first = refl;
  second = refl;
  third = refl;
  fourth = refl;
  fifth = refl;
}

pub status_seen : (p : PortState) → status_in (status_of p) ≡ seen p
unfolding status_in status_of
status_seen p =
    let changes = change_bits p.connection_changed p.enable_changed p.reset_changed in
    rw (
      low_of_two (p.power && is_attached p.attached) p.enable,
      high_of_two (p.power && is_attached p.attached) p.enable,
      low_of_two p.power (p.power && is_low p.attached),
      high_of_two p.power (p.power && is_low p.attached),
      changes.first,
      changes.second,
      changes.third,
      changes.fourth,
      changes.fifth,
    ) refl
