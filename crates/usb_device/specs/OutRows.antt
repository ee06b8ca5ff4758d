-- OUT endpoints as a device keeps them: what each has taken apart from the rest of it, and nothing
-- kept of those that have taken no bytes.
use Rattle.std.specs.Prelude.{ℕ, List, [], ◌∷◌, Bool, ◌&&◌}
use Rattle.usb_packet.specs.{other}
use Rattle.usb_device.specs.declared.ends.OutHead.{OutHead}
use Rattle.usb_device.specs.DeviceSpecs.{Spec}
use Rattle.usb_device.specs.EndpointSpecs.{endpoint_row}
use Rattle.usb_device.specs.Bulk.{rested, is_last}
use Rattle.usb_device.specs.Ends.{OutEnd, pace_by, paced_on, renewed, steady}

-- one that has taken these bytes
abbrev pub with_sink : OutHead → List ℕ → OutEnd
with_sink head sink = record { state = head.state; pace = head.pace; sink = sink }

-- one but for what it has taken
abbrev pub head_of : OutEnd → OutHead
head_of end = record { state = end.state; pace = end.pace }

abbrev pub no_head : OutHead
no_head = record { state = rested; pace = steady }

-- as it is at the plug
abbrev pub plugged_head : Spec → ℕ → OutHead
plugged_head s e =
    record { state = rested; pace = pace_by (endpoint_row s.endpoints e) s.halt_after }

-- as a configuration leaves it
abbrev pub rested_head : OutHead → OutHead
rested_head head = record { state = rested; pace = renewed head.pace }

-- after a packet that joined its sink; its plan may say that it halts
abbrev pub taken_head : Bool → OutHead → OutHead
taken_head halts head = record {
  state = record {
    toggle = other head.state.toggle;
    halted = halts && is_last head.pace.until_halt;
  };
  pace = paced_on head.pace;
}

-- each with what it has taken, which is nothing beyond the sinks
unfoldable pub joined : List OutHead → List (List ℕ) → List OutEnd
joined [] sinks = []
joined (head ∷ heads) [] = with_sink head [] ∷ joined heads []
joined (head ∷ heads) (sink ∷ sinks) = with_sink head sink ∷ joined heads sinks
