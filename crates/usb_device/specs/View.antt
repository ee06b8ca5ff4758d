-- A tree of devices, seen place by place: what stands at a path is told by the place at its first
-- number.
use Rattle.std.specs.Prelude.{ℕ, zero, suc, List, [], ◌∷◌, Option, None}
use Rattle.usb_port.specs.{PortState}
use Rattle.usb_device.specs.Rows.{State, forgotten}
use Rattle.usb_device.specs.Tree.{Ports, Place, empty, full, state_at, port_at}
use Rattle.usb_device.specs.Delivery.{all_forgotten}

abbrev pub state_there : Ports → List ℕ → Option State
state_there k [] = None
state_there k (zero ∷ p) = None
state_there k (suc i ∷ p) = state_at k i p

abbrev pub port_there : Ports → List ℕ → Option PortState
port_there k [] = None
port_there k (zero ∷ p) = None
port_there k (suc i ∷ p) = port_at k i p

-- a place between attempts
abbrev pub forgotten_place : Place → Place
forgotten_place (empty b) = empty b
forgotten_place (full b s a) = full b (forgotten s) (all_forgotten a)
