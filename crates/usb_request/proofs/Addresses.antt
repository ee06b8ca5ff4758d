-- Addresses of endpoints.
use Rattle.std.proofs.Common.{◌≡◌, ℕ, ◌<◌, true, arith}
use Rattle.std.proofs.lemmas.Bool.Decides.{nat_tests}
use Rattle.usb_request.specs.{is_endpoint_address}

pub address_byte : (a : ℕ) → is_endpoint_address a ≡ true → a < 256
address_byte a h = grind (arith, nat_tests)
