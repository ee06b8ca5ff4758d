-- The steps of a world: attempts, root calls, events and lines of report.
use Rattle.std.specs.Prelude.{◌≡◌, ◌≢◌, ℕ, ◌+◌, ◌-◌, ◌==◌, nat_le, Bool, true, false, ◌&&◌, ◌||◌}
use Rattle.std.specs.Prelude.{not, if◌then◌else◌, List, [], ◌∷◌, slice_get, slice_set, Option, Some}
use Rattle.std.specs.Prelude.{None, is_some, Result, Ok, Err, IfErr, All, ⊤}
use Rattle.usb_port.specs.{PortCall, set_call, clear_call, port_by, is_clearing}
use Rattle.usb_device.specs.{Sent, Spec, IsSpec, Ports, new_ports, called, replaced, changed}
use Rattle.usb_device.specs.{held_addresses, repeats, all_forgotten, Stopped}
use Rattle.usb_world.specs.declared.damage.Damage.{Damage}
use Rattle.usb_world.specs.declared.event.Ask.{Ask as Asked}
use Rattle.usb_world.specs.declared.event.Event.{Event}
use Rattle.usb_world.specs.declared.event.Action.{Action}
use Rattle.usb_world.specs.declared.event.Action.TheVariants.{Change, Ask}
use Rattle.usb_world.specs.declared.event.Change.TheVariants.{Plug, Unplug}
use Rattle.usb_world.specs.declared.exchange.Exchange.{Exchange}
use Rattle.usb_world.specs.PlainAttempts.{Attempt}
use Rattle.usb_world.specs.declared.types.Outcome.{Outcome}
use Rattle.usb_world.specs.declared.types.BusFault.{BusFault}
use Rattle.usb_world.specs.declared.types.BusFault.TheVariants.{Limit, Memory, Failed}
use Rattle.usb_world.specs.Wire.{damage_of}
use Rattle.usb_world.specs.Exchanges.{heard_in, mark_in, lost_in, cleared_in, exchange_in, ports_in}
use Rattle.usb_world.specs.Exchanges.{outcome_of, token_out, payload_out}
use Rattle.usb_world.specs.Losses.{no_losses, counted, after_clearing}
use Rattle.usb_world.specs.Paths.{is_way}
use Rattle.usb_world.specs.AttemptPackets.{IsSettled, after_sent}
use Rattle.usb_world.specs.SanePorts.{Consistent}
use Rattle.usb_world.specs.Plans.{PlanData}
use Rattle.usb_world.specs.Worlds.{World, root_row, root_port_at, to_come, AttemptsWithin, HasFault}

-- Events

-- a device is plugged at a path, where the plan has it
abbrev pub with_plugged : Option Spec → List ℕ → Ports → Ports
with_plugged None path k = k
with_plugged (Some spec) path k = changed (replaced (Some spec)) k path

-- what an action does to what is plugged
abbrev pub after_change : Action → List Spec → Ports → Ports
after_change (Change (Plug path device)) devices k = with_plugged (slice_get devices device) path k
after_change (Change (Unplug path)) devices k = changed (replaced None) k path
after_change (Ask ask) devices k = k

-- whether a path is another's, or that of a port on its way
abbrev pub way_of : List ℕ → List ℕ → Bool
way_of [] p = false
way_of (m ∷ x) p = is_way (m ∷ x) p

-- whether an action plugs or unplugs at a path, or at a port on its way
abbrev pub names_path : List Spec → Action → List ℕ → Bool
names_path devices (Change (Plug path device)) p = is_some (slice_get devices device) &&
    way_of path p
names_path devices (Change (Unplug path)) p = way_of path p
names_path devices (Ask ask) p = false

-- what an action asks of whoever drives the host
unfoldable pub ask_of : Action → Option Asked
ask_of (Change change) = None
ask_of (Ask ask) = Some ask

-- what is asked waits until the host has nothing left to do; a change does not wait
abbrev pub waits : Action → Bool
waits (Change change) = false
waits (Ask ask) = true

-- the event comes, and these are the events after it
unfoldable pub after_event : Event → List Event → World → World
after_event e events w = record w {
  roots = after_change e.action w.devices w.roots;
  left = events;
  taken = w.taken + 1;
  attempts_then = w.attempts;
}

abbrev pub after_first_event : List Event → World → World
after_first_event [] w = w
after_first_event (e ∷ events) w = after_event e events w

abbrev pub is_due : Event → World → Bool
is_due e w = not (waits e.action) && nat_le e.after (w.attempts - w.attempts_then)

-- the events that are due come, one after the other
unfoldable pub after_due_events : List Event → World → World
after_due_events [] w = w
after_due_events (e ∷ events) w = if is_due e w then after_due_events events
    (after_event e events w) else w

-- the next event is due
unfoldable pub has_due : World → Bool
has_due w = elim w.left [ [] ↦ false | e ∷ events ↦ is_due e w ]

-- the world in which an attempt is made
unfoldable pub at_attempt : World → World
at_attempt w = after_due_events w.left w

-- Attempts

-- the damage of the next attempt
abbrev pub damage_in : World → Option Damage
damage_in w = damage_of w.damages (w.attempts + 1)

-- the packets of the next attempt
abbrev pub made_in : Attempt → World → Exchange
made_in a w = exchange_in a (damage_in w) w.roots

-- the attempt's packets have gone
unfoldable pub with_attempt : Attempt → World → World
with_attempt a w = record w {
  roots = ports_in a (damage_in w) w.roots;
  attempts = w.attempts + 1;
  losses = counted (lost_in a (damage_in w) w.roots)
      (after_clearing (cleared_in a (damage_in w) w.roots) w.losses);
  shared = w.shared || repeats (held_addresses w.roots);
}

abbrev pub outcome_made : Attempt → Exchange → Outcome
outcome_made a x = outcome_of x.answer x.answer_mark a.max

-- what the host gets
unfoldable pub outcome_in : Attempt → World → Outcome
outcome_in a w = outcome_of (heard_in a (damage_in (at_attempt w)) (at_attempt w).roots)
    (mark_in a (damage_in (at_attempt w)) (at_attempt w).roots) a.max

-- Steps

pub data Step : Type 0 where
  attempt : Attempt → Step
  root_call : PortCall → ℕ → Step
  event : Step
  report : List ℕ → Step

abbrev pub attempted : Attempt → Option BusFault → World → World
attempted a (Some f) w = w
attempted a None w = if w.attempts == w.limit then record w { fault = Some Limit }
    else with_attempt a (at_attempt w)

abbrev pub event_taken : Option BusFault → World → World
event_taken (Some f) w = w
event_taken None w = after_first_event w.left w

unfoldable pub after : Step → World → World
after (attempt a) w = attempted a w.fault w
after (root_call c n) w = record w {
  roots = changed (called c) w.roots (n ∷ []);
  losses =
      after_clearing (is_clearing c) w.losses;
}
after event w = event_taken w.fault w
after (report line) w = w

-- events that are due came, one after the other, up to some of them
pub data Coming : World → World → Type 0 where
  nothing_yet : (w : World) → Coming w w
  next_came : {w v : World} → Coming w v → has_due v ≡ true → Coming w (after_first_event v.left v)

-- memory was refused for the host's data on their way down the tree: some devices had them, and
-- nothing went after them
pub record IsCut (a : Attempt) (damage : Option Damage) (old new : Ports) : Type 0 where
  pub sent : Sent
  pub went : payload_out a damage ≡ Some sent
  pub tree : Ports
  pub stopped : Stopped sent false (after_sent (token_out a damage) old) tree
  pub is : new ≡ all_forgotten tree

-- what a fault leaves of an attempt: some of the events that were due, and no attempt; or all of
-- them, and an attempt
-- that memory was refused for; or the whole step, and only its line was not written
pub data Left (a : Attempt) (old : World) (f : BusFault) (new : World) : Type 0 where
  at_event : Coming old new → Left a old f new
  at_packet : (k : Ports) → f ≡ Memory → IsCut a (damage_in (at_attempt old)) (at_attempt old).roots
      k
      → new ≡ record (at_attempt old) {
        roots = k;
        shared =
            (at_attempt old).shared || repeats (held_addresses (at_attempt old).roots);
      }
      → Left a old f new
  at_line : f ≡ Failed → new ≡ with_attempt a (at_attempt old) → Left a old f new

-- an attempt within the limit that the bus gave up
pub record GaveUp (a : Attempt) (old : World) (f : BusFault) (new : World) : Type 0 where
  pub below : old.attempts ≢ old.limit
  pub left : World
  pub so_far : Left a old f left
  pub told : new ≡ record left { fault = Some f }

abbrev pub AttemptFails : Attempt → World → Result Outcome BusFault → World → Type 0
AttemptFails a old (Ok outcome) new = ⊤
AttemptFails a old (Err Limit) new = new ≡ after (attempt a) old
AttemptFails a old (Err Memory) new = GaveUp a old Memory new
AttemptFails a old (Err Failed) new = GaveUp a old Failed new

-- a course of steps each of which has K where it stands
pub data Course (K : Step → World → Type 0) : World → World → Type 0 where
  here : (w : World) → Course K w w
  step : (s : Step) {w v : World} → K s w → Course K (after s w) v → Course K w v

abbrev pub AnyStep : Step → World → Type 0
AnyStep s w = ⊤

-- between two steps no device remembers a packet, ports are sane, and the plan's devices are as the
-- rules say
pub record WorldInvariant (w : World) : Type 0 where
  pub settled : IsSettled w.roots
  pub sane : Consistent w.roots
  pub ruled : All IsSpec w.devices

-- a root call is its step, and one row of the port table at one root port (11.24.2)
pub record SetsRoot (port feature : ℕ) (old new : World) : Type 0 where
  pub step : (c : PortCall) → set_call feature ≡ Some c → new ≡ after (root_call c port) old
  pub row : root_row new ≡ slice_set (root_row old) (port - 1)
      (port_by (set_call feature) (root_port_at old port))

pub record ClearsRoot (port feature : ℕ) (old new : World) : Type 0 where
  pub step : (c : PortCall) → clear_call feature ≡ Some c → new ≡ after (root_call c port) old
  pub row : root_row new ≡ slice_set (root_row old) (port - 1)
      (port_by (clear_call feature) (root_port_at old port))

-- a plan's world before anything came
abbrev pub opening : PlanData → World
opening p = record {
  roots = new_ports p.roots;
  devices = p.devices;
  left = p.events;
  taken = 0;
  attempts = 0;
  attempts_then = 0;
  limit = p.limit;
  damages = p.damages;
  losses = no_losses;
  shared = false;
  fault = None;
}

-- How a call ends

abbrev pub fault_of : {T : Type 0} → Result T BusFault → Option BusFault
fault_of (Ok x) = None
fault_of (Err fault) = Some fault

-- an event that came, no event that was left, or a fault that stays
pub record EventCame (old new : World) : Type 0 where
  pub sound : old.fault ≡ None
  pub one : new.taken ≡ old.taken + 1
  pub still : new.fault ≡ None

pub record NoneLeft (old new : World) : Type 0 where
  pub sound : old.fault ≡ None
  pub none : to_come old ≡ 0
  pub same : new ≡ old

abbrev pub EventEnds : World → Result (Option (Option Asked)) BusFault → World → Type 0
EventEnds old (Ok None) new = NoneLeft old new
EventEnds old (Ok (Some asked)) new = EventCame old new
EventEnds old (Err fault) new = HasFault fault new

-- an event step: no attempt is made
pub record TookEvent (old : World) (result : Result (Option (Option Asked)) BusFault)
    (new : World) : Type 0 where
  pub spends : AttemptsWithin 0 old new
  pub ends : EventEnds old result new
  pub again : (fault : BusFault) → old.fault ≡ Some fault → (result ≡ Err fault) × (new ≡ old)

abbrev pub LineEnds : World → Result (Unit {0}) BusFault → World → Type 0
LineEnds old (Ok _) new = (old.fault ≡ None) × (new ≡ old)
LineEnds old (Err fault) new = new ≡ record old { fault = Some fault }

-- a report step changes nothing but the fault, and tells of itself only that the line was not
-- written
pub record PutLine (old : World) (result : Result (Unit {0}) BusFault) (new : World) : Type 0 where
  pub told : old.fault ≡ None → IfErr result (λ f. f ≡ Failed)
  pub ends : LineEnds old result new
  pub again : (fault : BusFault) → old.fault ≡ Some fault → (result ≡ Err fault) × (new ≡ old)
