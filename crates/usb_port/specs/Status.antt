-- What the bits of a port's status say.
use Rattle.std.specs.Prelude.{ℕ, ◌/◌, ◌%◌, ◌^◌, ◌==◌, Bool, false, ◌&&◌, List, slice_index}
use Rattle.usb_port.specs.PortStates.{PortState, is_attached, is_low}
use Rattle.usb_port.specs.declared.status.PortStatus.{PortStatus}

unfoldable pub has_bit : ℕ → ℕ → Bool
has_bit byte number = byte / 2 ^ number % 2 == 1

unfoldable pub status_in : List ℕ → PortStatus
status_in bytes = record {
  connected = has_bit (slice_index bytes 0) 0;
  enabled = has_bit (slice_index bytes 0) 1;
  powered = has_bit (slice_index bytes 1) 0;
  low_speed = has_bit (slice_index bytes 1) 1;
  connection_changed = has_bit (slice_index bytes 2) 0;
  enable_changed = has_bit (slice_index bytes 2) 1;
  suspend_changed = has_bit (slice_index bytes 2) 2;
  over_current_changed = has_bit (slice_index bytes 2) 3;
  reset_changed = has_bit (slice_index bytes 2) 4;
}

-- what a port's status says of it: what is attached is seen with power only, and neither suspended
-- nor over-current ports are played
abbrev pub seen : PortState → PortStatus
seen p = record {
  connected = p.power && is_attached p.attached;
  enabled = p.enable;
  powered = p.power;
  low_speed = p.power && is_low p.attached;
  connection_changed = p.connection_changed;
  enable_changed = p.enable_changed;
  suspend_changed = false;
  over_current_changed = false;
  reset_changed = p.reset_changed;
}
