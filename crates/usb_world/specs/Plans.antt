-- A plan as contracts see it, and the rules that it keeps.
use Rattle.std.specs.Prelude.{◌≡◌, ◌≤◌, ℕ, List, [], ◌∷◌, length, Bool, true, ◌&&◌, not, nat_le}
use Rattle.std.specs.Prelude.{nat_lt, is_some}
use Rattle.usb_request.specs.{DIRECTION_IN}
use Rattle.usb_device.specs.{Spec, AreDevices}
use Rattle.usb_world.specs.declared.event.Event.{Event}
use Rattle.usb_world.specs.declared.event.Action.{Action}
use Rattle.usb_world.specs.declared.event.Action.TheVariants.{Change, Ask}
use Rattle.usb_world.specs.declared.event.Change.TheVariants.{Plug, Unplug}
use Rattle.usb_world.specs.declared.event.Ask.{Ask as Asked}
use Rattle.usb_world.specs.declared.event.Ask.TheVariants.{Show, Send, Receive, Clear, ControlIn}
use Rattle.usb_world.specs.declared.event.Ask.TheVariants.{SendTo, ReceiveFrom, Poll, ClearOf}
use Rattle.usb_world.specs.declared.event.Ask.TheVariants.{ControlOut, Look, News, SetInterface}
use Rattle.usb_world.specs.declared.damage.Damage.{Damage}
use Rattle.usb_world.specs.declared.damage.Harm.{Harm}
use Rattle.usb_world.specs.declared.damage.Harm.TheVariants.{Lose, LosePre, Flip}
use Rattle.usb_world.specs.PlanLimits.{attempt_most, after_most}
use Rattle.usb_world.specs.PluggedDevices.{PluggedMap, index_at, plugged_after, is_rooted, has_port}

-- something is plugged at the path
abbrev pub is_taken : PluggedMap → List ℕ → Bool
is_taken tree path = is_some (index_at tree path)

-- what may be asked: of a device, below a root port, and of an endpoint of the right way (9.6.6)
abbrev pub ask_fits : ℕ → Asked → Bool
ask_fits roots (Show said) = true
ask_fits roots (Send path bytes) = is_rooted roots path
ask_fits roots (Receive path packets) = is_rooted roots path && nat_le packets 1000
ask_fits roots (Clear path) = is_rooted roots path
ask_fits roots (SendTo path endpoint bytes) = is_rooted roots path && not
    (nat_le DIRECTION_IN endpoint)
ask_fits roots (ReceiveFrom path endpoint packets) = is_rooted roots path && nat_le DIRECTION_IN
    endpoint && nat_le packets 1000
ask_fits roots (Poll path endpoint) = is_rooted roots path && nat_le DIRECTION_IN endpoint
ask_fits roots (ClearOf path endpoint) = is_rooted roots path
ask_fits roots (SetInterface path interface setting) = is_rooted roots path
ask_fits roots (ControlIn path request) = is_rooted roots path
ask_fits roots (ControlOut path request) = is_rooted roots path
ask_fits roots (Look path) = is_rooted roots path
ask_fits roots News = true

-- the action may come where so much is plugged
abbrev pub action_fits : ℕ → List Spec → PluggedMap → Action → Bool
action_fits roots devices tree (Change (Plug path device)) = has_port roots devices tree path &&
    not (is_taken tree path) && nat_lt device (length devices)
action_fits roots devices tree (Change (Unplug path)) = is_rooted roots path && is_taken tree path
action_fits roots devices tree (Ask ask) = ask_fits roots ask

abbrev pub event_fits : ℕ → List Spec → PluggedMap → Event → Bool
event_fits roots devices tree e = nat_le e.after after_most && action_fits roots devices tree
    e.action

-- each event fits what is plugged before it
abbrev pub events_fit : ℕ → List Spec → PluggedMap → List Event → Bool
events_fit roots devices tree [] = true
events_fit roots devices tree (e ∷ events) = event_fits roots devices tree e && events_fit roots
    devices (plugged_after e.action tree) events

abbrev pub harm_fits : Harm → Bool
harm_fits Lose = true
harm_fits LosePre = true
harm_fits (Flip bit) = nat_le bit 535

-- the damage is to an attempt after that one
abbrev pub damage_fits : ℕ → Damage → Bool
damage_fits last d = nat_lt last d.attempt && nat_le 1 d.packet && nat_le d.packet 3 &&
    harm_fits d.harm

-- attempts rise strictly
abbrev pub damages_fit : ℕ → List Damage → Bool
damages_fit last [] = true
damages_fit last (d ∷ damages) = damage_fits last d && damages_fit d.attempt damages

pub record PlanData : Type 0 where
  pub limit : ℕ
  pub roots : ℕ
  pub wide : Bool  -- the host takes hubs of 8 to 15 ports, and status endpoints of any number
  pub devices : List Spec
  pub events : List Event
  pub damages : List Damage

abbrev pub plan_data : ℕ → ℕ → Bool → List Spec → List Event → List Damage → PlanData
plan_data limit roots wide devices events damages = record {
  limit = limit;
  roots = roots;
  wide = wide;
  devices = devices;
  events = events;
  damages = damages;
}

-- the rules of a plan
pub record IsPlan (p : PlanData) : Type 0 where
  pub limit : p.limit ≤ attempt_most
  pub some_root : 1 ≤ p.roots
  pub few_roots : p.roots ≤ 7
  pub devices : AreDevices p.devices
  pub events : events_fit p.roots p.devices [] p.events ≡ true
  pub damages : damages_fit 0 p.damages ≡ true

-- the action plugs one of so many devices, where it plugs one
abbrev pub can_be_done : ℕ → Action → Bool
can_be_done devices (Change (Plug path device)) = nat_lt device devices
can_be_done devices (Change (Unplug path)) = true
can_be_done devices (Ask ask) = true

abbrev pub can_come : ℕ → Event → Bool
can_come devices e = can_be_done devices e.action
