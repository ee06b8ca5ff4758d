-- How many attempts are enough for a plan.
use Rattle.std.specs.Prelude.{ℕ, ◌+◌, ◌*◌, List, [], ◌∷◌, length, Option, Some, None, slice_get}
use Rattle.std.specs.Prelude.{max, min, ◌^◌, ◌-◌, Bool, true, false}
use Rattle.std.specs.List.{sum_by, count_by}
use Rattle.usb_world.specs.{Action, Plug, Unplug, Send, Receive, SendTo, ReceiveFrom, ControlIn}
use Rattle.usb_world.specs.{ControlOut, Look, Event, PlanData}
use Rattle.usb_world.specs.declared.event.Action.TheVariants.{Change, Ask}
use Rattle.usb_device.specs.{said_lengths, Spec}

abbrev pub total_at : Option Spec → ℕ
total_at (Some device) = said_lengths device
total_at None = 0

abbrev pub total_after : List Spec → Action → ℕ
total_after devices (Change (Plug path device)) = total_at (slice_get devices device)
total_after devices (Change (Unplug path)) = 0
total_after devices (Ask ask) = 0

-- the sum over the texts of the device that an event plugs
unfoldable pub plugged_total : List Spec → Event → ℕ
plugged_total devices event = total_after devices event.action

-- the greatest of these, 0 with no event
unfoldable pub greatest_total : List Spec → List Event → ℕ
greatest_total devices [] = 0
greatest_total devices (e ∷ events) = max (plugged_total devices e) (greatest_total devices events)

abbrev pub moved_in : Action → ℕ
moved_in (Ask (Send path bytes)) = length bytes
moved_in (Ask (Receive path packets)) = packets
moved_in (Ask (SendTo path endpoint bytes)) = length bytes
moved_in (Ask (ReceiveFrom path endpoint packets)) = packets
moved_in (Ask (ControlIn path request)) = request.length
moved_in (Ask (ControlOut path request)) = request.setup.length
moved_in _ = 0

-- the bytes that an event sends, the packets that it receives, or wLength of its request (9.3.5)
unfoldable pub moved : Event → ℕ
moved e = moved_in e.action

abbrev pub is_look_at : Action → Bool
is_look_at (Ask (Look path)) = true
is_look_at _ = false

-- the event has the host look once more at a port
abbrev pub is_look : Event → Bool
is_look e = is_look_at e.action

-- the events that look at a port
abbrev pub looks_in : List Event → ℕ
looks_in events = count_by is_look events

-- enough attempts for v events, l of them looks, if no plugged device has more than w bytes of
-- configurations, and m bytes and packets are moved; each look may make the host handle again all
-- that the events plugged
abbrev pub enough_for : ℕ → ℕ → ℕ → ℕ → ℕ
enough_for v l w m =
    200 * (v * (1 + l)) * (30000 + 10 * w) + 50000 * (v * (1 + l)) * v + 1000 * m + 2

-- the greatest number of 64 bits where it is more
unfoldable pub bound_of : PlanData → ℕ
bound_of p = min (enough_for (length p.events) (looks_in p.events)
    (greatest_total p.devices p.events) (sum_by moved p.events)) (2 ^ 64 - 1)
