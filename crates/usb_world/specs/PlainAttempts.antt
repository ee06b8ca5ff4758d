-- An attempt as plain data: what the world, its steps and their lemmas speak of.
use Rattle.std.specs.Prelude.{ℕ, Bool, Option, None, Some}
use Rattle.arrayvec.specs.ArrayVec.{ArrayVec}
use Rattle.usb_packet.specs.{Toggle, Zero, TokenKind, OutTok, InTok, SetupTok, speed_has_pre}
use Rattle.usb_packet.specs.{speed_is_low}
use Rattle.usb_world.specs.declared.types.Attempt.{Attempt as Asked}
use Rattle.usb_world.specs.declared.types.Attempt.TheVariants.{Setup, Out, In}
use Rattle.usb_world.specs.declared.types.Destination.{Destination}

-- the token and its fields; low speed, and PRE before each packet of the host (8.6.5); the
-- endpoint's maximum packet; what SETUP and OUT send
pub record Attempt : Type 0 where
  pub kind : TokenKind
  pub addr : ℕ
  pub ep : ℕ
  pub low : Bool
  pub pre : Bool
  pub max : ℕ
  pub payload : Option (Toggle × ArrayVec ℕ)

abbrev pub attempt_kind : Asked → TokenKind
attempt_kind (Setup to bytes) = SetupTok
attempt_kind (Out to toggle bytes) = OutTok
attempt_kind (In to) = InTok

abbrev pub destination_of : Asked → Destination
destination_of (Setup to bytes) = to
destination_of (Out to toggle bytes) = to
destination_of (In to) = to

-- the setup data go in DATA0 (8.5.3)
abbrev pub attempt_payload : Asked → Option (Toggle × ArrayVec ℕ)
attempt_payload (Setup to bytes) = Some (Zero, record { items = bytes })
attempt_payload (Out to toggle bytes) = Some (toggle, bytes)
attempt_payload (In to) = None

abbrev pub attempt_data : Asked → Attempt
attempt_data a = record {
  kind = attempt_kind a;
  addr = (destination_of a).address;
  ep = (destination_of a).number;
  low = speed_is_low (destination_of a).speed;
  pre = speed_has_pre (destination_of a).speed;
  max = (destination_of a).max;
  payload = attempt_payload a;
}
