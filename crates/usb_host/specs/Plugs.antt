-- Where devices were plugged, and that none waits for an address where few were.
use Rattle.std.specs.Prelude.{◌≡◌, ◌≢◌, ◌≤◌, ℕ, Bool, true, false, List, take, Any, Some}
use Rattle.std.specs.List.{count_by}
use Rattle.usb_world.specs.{Action, Plug, Unplug, Event, PlanData, IsPlan, AtPorts, AnyStep, Course}
use Rattle.usb_world.specs.{opening}
use Rattle.usb_world.specs.declared.event.Action.TheVariants.{Change, Ask}
use Rattle.usb_enum.specs.{NoAddress, Accepted}
use Rattle.usb_enum.specs.declared.finding.Finding.TheVariants.{Refused}
use Rattle.usb_table.specs.{accepted_device_at, finding_at}
use Rattle.usb_host.specs.HostStates.{HostState}

-- a device is plugged at the path
abbrev pub PlugsAt : List ℕ → Action → Type 0
PlugsAt path (Change (Plug at device)) = at ≡ path
PlugsAt path (Change (Unplug at)) = ⊥
PlugsAt path (Ask ask) = ⊥

abbrev pub is_plug : Action → Bool
is_plug (Change (Plug at device)) = true
is_plug (Change (Unplug at)) = false
is_plug (Ask ask) = false

-- how many events plug a device
abbrev pub plug_events : List Event → ℕ
plug_events events = count_by (λ e. is_plug e.action) events

-- among the events that came, one plugged a device at the path
abbrev pub WasPlugged : List Event → ℕ → List ℕ → Type 0
WasPlugged events came path = Any (λ e. PlugsAt path e.action) (take came events)

-- each accepted device stands where one was plugged; and where at most 127 are plugged, none waits
-- for an address
pub record HasPlugs (events : List Event) (h : HostState) : Type 0 where
  pub each : (path : List ℕ) (device : Accepted) → accepted_device_at path h.entries ≡ Some device
      → WasPlugged events h.world.taken path
  pub none_waits : plug_events events ≤ 127 → (path : List ℕ)
      → finding_at path h.entries ≢ Some (Refused NoAddress)

-- so it stays, in a course of a plan
abbrev pub KeepsPlugs : HostState → HostState → Type 0
KeepsPlugs old new = (plan : PlanData) → IsPlan plan → AtPorts plan.events
    → Course AnyStep (opening plan) old.world
    → HasPlugs plan.events old → HasPlugs plan.events new
