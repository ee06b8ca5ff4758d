-- What packets leave as it is.
use Rattle.std.specs.Prelude.{◌≡◌, ℕ, Bool, true, false}
use Rattle.usb_packet.specs.{Packet, Payload, Ack}
use Rattle.usb_device.specs.Rows.{State, in_end}

abbrev pub is_data : Packet → Bool
is_data (Payload t bytes) = true
is_data p = false

abbrev pub is_ack : Packet → Bool
is_ack Ack = true
is_ack p = false

-- a packet changes no description; only an ACK changes the address or moves on in a source, and
-- only data change the configuration, a setting or an OUT endpoint, or are taken
pub record Keeps (p : Packet) (old new : State) : Type 0 where
  pub spec : new.spec ≡ old.spec
  pub address : is_ack p ≡ false → new.registers.address ≡ old.registers.address
  pub configuration : is_data p ≡ false → new.registers.configuration ≡ old.registers.configuration
  pub settings : is_data p ≡ false → new.registers.settings ≡ old.registers.settings
  pub outs : is_data p ≡ false → new.outs ≡ old.outs
  pub place : is_ack p ≡ false → (e : ℕ) → (in_end new e).place ≡ (in_end old e).place
  pub taken : is_data p ≡ false → new.taken ≡ old.taken
