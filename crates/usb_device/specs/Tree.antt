-- The devices that are plugged, as a tree: a row of ports, and below each device a row of ports
-- again (4.1.1).
use Rattle.std.specs.Prelude.{ℕ, zero, suc, ◌-◌, ◌==◌, ◌&&◌, if◌then◌else◌, Bool, true, false, List}
use Rattle.std.specs.Prelude.{[], ◌∷◌, slice_get, Option, None, Some, is_some}
use Rattle.usb_port.specs.{PortState, off, plugged, unplugged, powered_off, is_attached, PortCall}
use Rattle.usb_port.specs.{called_port, is_reset}
use Rattle.usb_device.specs.DeviceSpecs.{Spec, Hub}
use Rattle.usb_device.specs.declared.effect.Effect.{Effect}
use Rattle.usb_device.specs.declared.effect.Effect.TheVariants.{Leaves, Calls, PortsOff}
use Rattle.usb_device.specs.Rows.{State, fresh, reset_state}

-- a row of ports, the first one first: no port more, an empty port, or a port with a device and
-- that device's ports
pub data Ports : Type 0 where
  ended : Ports
  vacant : PortState → Ports → Ports
  taken : PortState → State → Ports → Ports → Ports

-- a device with all that is plugged below it
pub record Plugged : Type 0 where
  pub own : State
  pub ports : Ports

-- so many ports that are off
unfoldable pub new_ports : ℕ → Ports
new_ports zero = ended
new_ports (suc n) = vacant off (new_ports n)

-- the ports of a device that was just plugged: a function has none
abbrev pub first_ports : Option Hub → Ports
first_ports None = ended
first_ports (Some hub) = new_ports hub.ports

-- no power, so no enable and no change; what is plugged stays
unfoldable pub all_off : Ports → Ports
all_off ended = ended
all_off (vacant b k) = vacant (powered_off b) (all_off k)
all_off (taken b s a k) = taken (powered_off b) s a (all_off k)

-- a device after a bus reset: its own ports are off
abbrev pub reset_whole : Plugged → Plugged
reset_whole t = record { own = reset_state t.own; ports = all_off t.ports }

-- a port, and the device on it with that device's ports
pub data Place : Type 0 where
  empty : PortState → Place
  full : PortState → State → Ports → Place

abbrev pub port_of : Place → PortState
port_of (empty b) = b
port_of (full b s a) = b

abbrev pub device_of : Place → Option Plugged
device_of (empty b) = None
device_of (full b s a) = Some (record { own = s; ports = a })

-- the port stands before these
abbrev pub before : Place → Ports → Ports
before (empty b) k = vacant b k
before (full b s a) k = taken b s a k

-- the device is reset, and its ports are off
abbrev pub reset_where : Bool → PortState → State → Ports → Place
reset_where true b s a = full b (reset_state s) (all_off a)
reset_where false b s a = full b s a

-- a call at a port: PORT_RESET of a powered port with something attached resets the device on it
abbrev pub called : PortCall → Place → Place
called c (empty b) = empty (called_port c b)
called c (full b s a) = reset_where (is_reset c && (b.power && is_attached b.attached))
    (called_port c b) s a

-- a device as it is plugged
abbrev pub new_device : Spec → Plugged
new_device s = record { own = fresh s; ports = first_ports s.hub }

-- a port with another device, or with none: what stood there is unplugged first
abbrev pub put : Option Plugged → Place → Place
put None q = empty (unplugged (port_of q))
put (Some t) q = full (plugged t.own.spec.low (unplugged (port_of q))) t.own t.ports

-- the same with a new device
abbrev pub replaced : Option Spec → Place → Place
replaced None q = put None q
replaced (Some s) q = put (Some (new_device s)) q

-- A port is named by its number on the row it stands in, counted from 0, and the rest of its path:
-- on each device on
-- the way the number of a port, counted from 1.

-- the ports with one of them changed, wherever it is
unfoldable pub changed_at : (Place → Place) → Ports → ℕ → List ℕ → Ports
changed_at f ended i p = ended
changed_at f (vacant b k) zero [] = before (f (empty b)) k
changed_at f (vacant b k) zero (n ∷ p) = vacant b k
changed_at f (vacant b k) (suc i) p = vacant b (changed_at f k i p)
changed_at f (taken b s a k) zero [] = before (f (full b s a)) k
changed_at f (taken b s a k) zero (zero ∷ p) = taken b s a k
changed_at f (taken b s a k) zero (suc j ∷ p) = taken b s (changed_at f a j p) k
changed_at f (taken b s a k) (suc i) p = taken b s a (changed_at f k i p)

-- the same, of a path
abbrev pub changed : (Place → Place) → Ports → List ℕ → Ports
changed f k [] = k
changed f k (zero ∷ p) = k
changed f k (suc i ∷ p) = changed_at f k i p

-- the place, or one below it where the path goes on
abbrev pub changed_in : (Place → Place) → Place → List ℕ → Place
changed_in f q [] = f q
changed_in f (empty b) (n ∷ p) = empty b
changed_in f (full b s a) (n ∷ p) = full b s (changed f a (n ∷ p))

-- what a device asks of its ports
abbrev pub acted : Effect → Ports → Ports
acted Leaves a = a
acted (Calls c i) a = changed_at (called c) a i []
acted PortsOff a = all_off a

-- what stands at a path
unfoldable pub place_at : Ports → ℕ → List ℕ → Option Place
place_at ended i p = None
place_at (vacant b k) zero [] = Some (empty b)
place_at (vacant b k) zero (n ∷ p) = None
place_at (vacant b k) (suc i) p = place_at k i p
place_at (taken b s a k) zero [] = Some (full b s a)
place_at (taken b s a k) zero (zero ∷ p) = None
place_at (taken b s a k) zero (suc j ∷ p) = place_at a j p
place_at (taken b s a k) (suc i) p = place_at k i p

abbrev pub place : Ports → List ℕ → Option Place
place k [] = None
place k (zero ∷ p) = None
place k (suc i ∷ p) = place_at k i p

-- the state of the device there
unfoldable pub state_at : Ports → ℕ → List ℕ → Option State
state_at ended i p = None
state_at (vacant b k) zero p = None
state_at (vacant b k) (suc i) p = state_at k i p
state_at (taken b s a k) zero [] = Some s
state_at (taken b s a k) zero (zero ∷ p) = None
state_at (taken b s a k) zero (suc j ∷ p) = state_at a j p
state_at (taken b s a k) (suc i) p = state_at k i p

-- the device there, with its ports
unfoldable pub plugged_at : Ports → ℕ → List ℕ → Option Plugged
plugged_at ended i p = None
plugged_at (vacant b k) zero p = None
plugged_at (vacant b k) (suc i) p = plugged_at k i p
plugged_at (taken b s a k) zero [] = Some (record { own = s; ports = a })
plugged_at (taken b s a k) zero (zero ∷ p) = None
plugged_at (taken b s a k) zero (suc j ∷ p) = plugged_at a j p
plugged_at (taken b s a k) (suc i) p = plugged_at k i p

abbrev pub device_there : Ports → List ℕ → Option Plugged
device_there k [] = None
device_there k (zero ∷ p) = None
device_there k (suc i ∷ p) = plugged_at k i p

-- the device at a place, or below it where the path goes on
abbrev pub plugged_in : Place → List ℕ → Option Plugged
plugged_in (empty b) p = None
plugged_in (full b s a) [] = Some (record { own = s; ports = a })
plugged_in (full b s a) (n ∷ p) = device_there a (n ∷ p)

-- the port there
unfoldable pub port_at : Ports → ℕ → List ℕ → Option PortState
port_at ended i p = None
port_at (vacant b k) zero [] = Some b
port_at (vacant b k) zero (n ∷ p) = None
port_at (vacant b k) (suc i) p = port_at k i p
port_at (taken b s a k) zero [] = Some b
port_at (taken b s a k) zero (zero ∷ p) = None
port_at (taken b s a k) zero (suc j ∷ p) = port_at a j p
port_at (taken b s a k) (suc i) p = port_at k i p

-- the ports of a row, without what is on them
unfoldable pub row_of : Ports → List PortState
row_of ended = []
row_of (vacant b k) = b ∷ row_of k
row_of (taken b s a k) = b ∷ row_of k

-- the device on a port of a device, by its number, counted from 1
abbrev pub child_of : Plugged → ℕ → Option Plugged
child_of t n = device_there t.ports (n ∷ [])

-- another device on that port
abbrev pub with_child : Plugged → ℕ → Plugged → Plugged
with_child t n c = record t { ports = changed (put (Some c)) t.ports (n ∷ []) }

-- none on that port; where none was there, nothing changes
abbrev pub without_child : Plugged → ℕ → Plugged
without_child t n = if is_some (child_of t n) then record t {
  ports =
      changed (put None) t.ports (n ∷ []);
} else t

-- a port by its number, counted from 1
abbrev pub numbered : List PortState → ℕ → Option PortState
numbered row n = if n == 0 then None else slice_get row (n - 1)

-- whether a device stands at a path and each port on its way is enabled: so it is powered, and
-- something is attached
unfoldable pub reach_at : Ports → ℕ → List ℕ → Bool
reach_at ended i p = false
reach_at (vacant b k) zero p = false
reach_at (vacant b k) (suc i) p = reach_at k i p
reach_at (taken b s a k) zero [] = b.enable
reach_at (taken b s a k) zero (zero ∷ p) = false
reach_at (taken b s a k) zero (suc j ∷ p) = b.enable && reach_at a j p
reach_at (taken b s a k) (suc i) p = reach_at k i p

abbrev pub reach : Ports → List ℕ → Bool
reach k [] = false
reach k (zero ∷ p) = false
reach k (suc i ∷ p) = reach_at k i p

-- Where something stands in a tree: the number of its port on the root row, counted from 0, and the
-- rest of its path, on each device on
-- the way the number of a port, counted from 1.
pub record Location : Type 0 where
  pub row : ℕ
  pub rest : List ℕ

-- the path that leads there
abbrev pub path_to : Location → List ℕ
path_to x = suc x.row ∷ x.rest

-- what is there
abbrev pub place_on : Ports → Location → Option Place
place_on k x = place_at k x.row x.rest

abbrev pub state_on : Ports → Location → Option State
state_on k x = state_at k x.row x.rest

abbrev pub reach_on : Ports → Location → Bool
reach_on k x = reach_at k x.row x.rest
