-- Values of bEndpointAddress (9.6.6).
use Rattle.std.specs.Prelude.{ℕ, ◌+◌, nat_le, ◌&&◌, ◌||◌, Bool}
use Rattle.usb_request.specs.Codes.{DIRECTION_IN}

-- the address of an endpoint besides endpoint 0: OUT 1 to 15, or IN 1 to 15
abbrev pub is_endpoint_address : ℕ → Bool
is_endpoint_address address =
    (nat_le 1 address && nat_le address 15) ||
    (nat_le (DIRECTION_IN + 1) address && nat_le address (DIRECTION_IN + 15))
