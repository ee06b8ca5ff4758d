-- What requests ask of ports, and which ports a step leaves alone.
use Rattle.std.specs.Prelude.{◌≡◌, ℕ, zero, suc, ◌==◌, ◌&&◌, ◌||◌, not, Bool, true, false, List, []}
use Rattle.std.specs.Prelude.{◌∷◌, Option, None, Some}
use Rattle.usb_request.specs.{PORT_ENABLE, PORT_RESET, PORT_POWER, C_PORT_ENABLE, C_PORT_RESET}
use Rattle.usb_request.specs.{CLEAR_FEATURE, SET_FEATURE, SET_CONFIGURATION, DEVICE_OUT, PORT_OUT}
use Rattle.usb_request.specs.{Setup}
use Rattle.usb_port.specs.{PortState}
use Rattle.usb_device.specs.{Is, Sent, Ports, reach}
use Rattle.usb_world.specs.PlainAttempts.{Attempt}
use Rattle.usb_world.specs.Exchanges.{token_out, payload_out}
use Rattle.usb_world.specs.Paths.{is_way, same_number, same_path}
use Rattle.usb_world.specs.AttemptPackets.{after_sent}
use Rattle.usb_world.specs.WayEffects.{way_leaves}
use Rattle.usb_world.specs.Worlds.{World}
use Rattle.usb_world.specs.Steps.{at_attempt, damage_in, Step, attempt, root_call, event, report}
use Rattle.usb_world.specs.Courses.{at_path, resets, step_keeps_pending}

-- Which ports a step leaves alone

-- whether a packet that goes out or does not leaves the port at a path, and each on its way
abbrev pub sent_leaves : Option Sent → Ports → ℕ → List ℕ → Bool
sent_leaves None k j p = true
sent_leaves (Some q) k j p = way_leaves q false k j p

-- the same of an attempt: only the host's data ask something of ports
abbrev pub made_leaves : Attempt → World → List ℕ → Bool
made_leaves a w p = at_path (sent_leaves (payload_out a (damage_in w))
    (after_sent (token_out a (damage_in w)) w.roots)) true p

-- a root call changes its own port
abbrev pub root_leaves : ℕ → List ℕ → Bool
root_leaves zero p = true
root_leaves (suc i) p = at_path (λ j e. not (same_number i j)) true p

-- whether a step asks nothing of the port at a path, nor of a port on its way
unfoldable pub leaves_step : Step → World → List ℕ → Bool
leaves_step (attempt a) w p = made_leaves a (at_attempt w) p
leaves_step (root_call c n) w p = root_leaves n p
leaves_step event w p = true
leaves_step (report line) w p = true

abbrev pub LeavesPort : List ℕ → Step → World → Type 0
LeavesPort p s w = leaves_step s w p ≡ true

-- a step that asks nothing of any port on the way to a path, nor of the one there
pub record AsksNothing (s : Step) (w : World) (p : List ℕ) : Type 0 where
  pub spares : step_keeps_pending s w p ≡ true
  pub rests : resets s w p ≡ false
  pub leaves : leaves_step s w p ≡ true

-- whether the ports at a path are those of the host, or of a device that is reached
abbrev pub row_reached : Ports → List ℕ → Bool
row_reached k [] = true
row_reached k (n ∷ q) = reach k (n ∷ q)

-- a port stands where one stood, with each change bit that was set still set, and its power
pub record StillSet (b : PortState) (o : Option PortState) : Type 0 where
  pub now : PortState
  pub stands : o ≡ Some now
  pub power : b.power ≡ true → now.power ≡ true
  pub connection : b.connection_changed ≡ true → now.connection_changed ≡ true
  pub enable : b.enable_changed ≡ true → now.enable_changed ≡ true
  pub reset : b.reset_changed ≡ true → now.reset_changed ≡ true

-- Requests

-- a request that asks nothing of ports: neither SetPortFeature nor ClearPortFeature, nor
-- SetConfiguration
abbrev pub asks_no_port : Setup → Bool
asks_no_port r = not (Is r PORT_OUT SET_FEATURE) &&
    (not (Is r PORT_OUT CLEAR_FEATURE) && not (Is r DEVICE_OUT SET_CONFIGURATION))

-- SetPortFeature or ClearPortFeature, of a port
abbrev pub is_port_request : Setup → Bool
is_port_request r = Is r PORT_OUT SET_FEATURE || Is r PORT_OUT CLEAR_FEATURE

-- PORT_RESET, PORT_POWER, and the clearing of PORT_ENABLE, C_PORT_ENABLE and C_PORT_RESET: of these
-- the port itself keeps
-- its power and its change of connection
abbrev pub is_sparing : Setup → Bool
is_sparing r = (Is r PORT_OUT SET_FEATURE && (r.value == PORT_RESET || r.value == PORT_POWER)) ||
    (Is r PORT_OUT CLEAR_FEATURE && (r.value == PORT_ENABLE ||
    (r.value == C_PORT_ENABLE || r.value == C_PORT_RESET)))

-- whether a path leads to another, and beyond it
abbrev pub is_above : List ℕ → List ℕ → Bool
is_above x p = is_way x p && not (same_path x p)
