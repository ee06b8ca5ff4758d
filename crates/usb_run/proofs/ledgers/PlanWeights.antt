-- What a plan's bound is made of, and what a host that was just made owes.
use Rattle.std.proofs.Common.{◌≡◌, ◌≤◌, ℕ, zero, suc, ◌*◌, ◌-◌, ◌^◌, List, [], ◌∷◌, length}
use Rattle.std.proofs.Common.{slice_get, Option, None, Some, false, refl, arith, All, IfSome}
use Rattle.std.specs.List.{sum_by}
use Rattle.std.proofs.lemmas.List.Elements.{All-cons, All-nil}
use Rattle.usb_device.specs.{Spec, said_lengths, new_ports, row_of}
use Rattle.usb_world.specs.{Action, Plug, Unplug, Event, PlanData, IsPlan, change_of, changes}
use Rattle.usb_world.specs.declared.event.Action.TheVariants.{Change, Ask}
use Rattle.usb_hub.specs.{PortMark, after_first, looks_by, strays_by}
use Rattle.usb_enum.specs.{PlugsWithin}
use Rattle.usb_host.specs.{Weights, repowered}
use Rattle.usb_plan.specs.{bound_of, enough_for, greatest_total, looks_in, moved, plugged_total}
use Rattle.usb_plan.specs.{total_after}
use Rattle.usb_plan.specs.{total_at}
use Rattle.usb_run.proofs.ledgers.Sums.{uncut}

-- the weights of a plan
abbrev pub weights : PlanData → Weights
weights plan = record {
  polls = 768 * length plan.events;
  most = greatest_total plan.devices plan.events;
}

-- The greatest total is that of no device that is plugged

at_within : (most : ℕ) (o : Option Spec) → total_at o ≤ most
    → IfSome o (λ spec. said_lengths spec ≤ most)
at_within most None h = tt
at_within most (Some spec) h = h

action_within : (most : ℕ) (devices : List Spec) (action : Action)
    → total_after devices action ≤ most → PlugsWithin most devices action
action_within most devices (Change (Plug path device)) h =
    at_within most (slice_get devices device) h
action_within most devices (Change (Unplug path)) h = tt
action_within most devices (Ask ask) h = tt

pub greatest_total-plugs : (most : ℕ) (devices : List Spec) (events : List Event)
    → greatest_total devices events ≤ most → All (λ e. PlugsWithin most devices e.action) events
unfolding greatest_total plugged_total
greatest_total-plugs most devices [] h = All-nil (λ (e : Event). PlugsWithin most devices e.action)
greatest_total-plugs most devices (e ∷ events) h =
    All-cons (λ (x : Event). PlugsWithin most devices x.action) e events
    (action_within most devices e.action (omega (arith, h)))
    (greatest_total-plugs most devices events (omega (arith, h)))

-- The bound is not cut off where it is within the limit

pub bound_uncut : (plan : PlanData) → IsPlan plan → bound_of plan ≤ plan.limit
    → enough_for (length plan.events) (looks_in plan.events)
    (greatest_total plan.devices plan.events) (sum_by moved plan.events) ≤ plan.limit
unfolding bound_of
bound_uncut plan is below =
    uncut (enough_for (length plan.events) (looks_in plan.events)
    (greatest_total plan.devices plan.events) (sum_by moved plan.events)) (2 ^ 64 - 1) plan.limit
    below (omega (arith, is.limit))

-- Nothing is plugged where power is taken and given first

pub looks_by-opening : (m : PortMark) (n : ℕ) → looks_by m (repowered (new_ports n)) ≡ 0
unfolding looks_by repowered new_ports
looks_by-opening m zero = refl
looks_by-opening m (suc n) = looks_by-opening (after_first m) n

pub strays_by-opening : (v r : PortMark) → ((i : ℕ) → v i [] ≡ false) → ((i : ℕ) → r i [] ≡ false)
    → (n : ℕ) → strays_by v r (repowered (new_ports n)) ≡ 0
unfolding strays_by repowered new_ports
strays_by-opening v r f g zero = refl
strays_by-opening v r f g (suc n) = let rest = strays_by-opening (after_first v) (after_first r)
    (λ i. f (suc i)) (λ i. g (suc i)) n in rw (f zero, g zero) (omega (arith, rest))

pub changes-opening : (n : ℕ) → changes (row_of (repowered (new_ports n))) ≡ 0
unfolding changes change_of row_of repowered new_ports
changes-opening zero = refl
changes-opening (suc n) = omega (arith, changes-opening n)
