-- What the events that came have left of a plan.
use Rattle.std.specs.Prelude.{◌≡◌, ◌≤◌, List, length, drop, All, ⊤}
use Rattle.usb_port.specs.{IsPath}
use Rattle.usb_device.specs.{Spec, State}
use Rattle.usb_world.specs.declared.event.Event.{Event}
use Rattle.usb_world.specs.declared.event.Action.{Action}
use Rattle.usb_world.specs.declared.event.Action.TheVariants.{Change, Ask}
use Rattle.usb_world.specs.declared.event.Change.TheVariants.{Plug, Unplug}
use Rattle.usb_world.specs.Plans.{PlanData}
use Rattle.usb_world.specs.Worlds.{World}

-- a device's description
abbrev pub spec_of : State → Spec
spec_of s = s.spec

-- a world in a course of a plan: the events that are left are those after the ones that came
pub record FollowsPlan (plan : PlanData) (w : World) : Type 0 where
  pub left : w.left ≡ drop w.taken plan.events
  pub devices : w.devices ≡ plan.devices
  pub taken : w.taken ≤ length plan.events

-- a plug is at the path of a port, which is not empty and has no number 0
abbrev pub PlugsAtPort : Action → Type 0
PlugsAtPort (Change (Plug path device)) = IsPath path
PlugsAtPort (Change (Unplug path)) = ⊤
PlugsAtPort (Ask ask) = ⊤

abbrev pub AtPorts : List Event → Type 0
AtPorts events = All (λ e. PlugsAtPort e.action) events
