-- Devices are at most the events that came.
use Rattle.std.proofs.Common.{◌≡◌, ◌≤◌, ℕ, zero, suc, ◌+◌, true, List, ◌∷◌, length}
use Rattle.std.proofs.Common.{Option, Some, refl, arith}
use Rattle.usb_port.specs.{PortCall}
use Rattle.usb_device.specs.{Effect, Leaves, Calls, PortsOff, Ports, Spec}
use Rattle.usb_world.specs.{Action, AnyStep, AtPorts, Course, FollowsPlan, PlanData, Plug}
use Rattle.usb_world.specs.{Unplug, World, after_change, after_event, at_attempt, damage_in}
use Rattle.usb_world.specs.{opening}
use Rattle.usb_world.specs.{with_attempt, with_plugged}
use Rattle.usb_world.specs.declared.event.Action.TheVariants.{Change, Ask}
use Rattle.usb_world.proofs.Interface.{OverEvents, OverSteps, events_went, over_course}
use Rattle.usb_hub.specs.{KeepsBy, KeepsFound, OwesAnew, PortMark, allowed, devices_in, looks_by}
use Rattle.usb_hub.specs.{only, ports_at, strays_by, unmarked}
use Rattle.usb_hub.proofs.BacklogDevices.{devices_in-new, devices_in-plugged, devices_in-unplugged}
use Rattle.usb_hub.proofs.Places.{looks_by-less, looks_by-ports, strays_by-less, strays_by-reset}
use Rattle.usb_hub.proofs.BacklogSteps.{less-attempt, less-root, root_allowed}

-- Over a step

-- no device more, but by events
abbrev Counts : World → World → Type 0
Counts w x = devices_in x.roots + w.taken ≤ devices_in w.roots + x.taken

counts-plugged : (o : Option Spec) (path : List ℕ) (k : Ports)
    → devices_in (with_plugged o path k) ≤ devices_in k + 1
counts-plugged (Some s) (suc i ∷ p) k = devices_in-plugged s k i p
counts-plugged o path k = omega arith

counts-unplugged : (path : List ℕ) (devices : List Spec) (k : Ports)
    → devices_in (after_change (Change (Unplug path)) devices k) ≤ devices_in k + 1
counts-unplugged (suc i ∷ p) devices k = omega (arith, devices_in-unplugged k i p)
counts-unplugged path devices k = omega arith

counts-happened : (action : Action) (devices : List Spec) (k : Ports)
    → devices_in (after_change action devices k) ≤ devices_in k + 1
counts-happened (Change (Plug path device)) devices k = counts-plugged _ path k
counts-happened (Change (Unplug path)) devices k = counts-unplugged path devices k
counts-happened (Ask ask) devices k = omega arith

counts-events : OverEvents Counts
unfolding after_event
counts-events = record {
  same = λ w. omega arith;
  joined = λ w m x one two. omega (arith, one, two);
  came = λ e events w l. omega (arith, counts-happened e.action w.devices w.roots);
}

-- whatever is asked of ports

abbrev everywhere : PortMark
everywhere i p = true

all_allowed : (e : Effect) → allowed (λ i. true) (λ i. true) e ≡ true
all_allowed Leaves = refl
all_allowed (Calls c i) = refl
all_allowed PortsOff = refl

root_anywhere : (c : PortCall) (n : ℕ) → root_allowed everywhere everywhere c n ≡ true
root_anywhere c zero = refl
root_anywhere c (suc i) = refl

counts-steps : OverSteps AnyStep Counts
unfolding with_attempt
counts-steps = record {
  events = counts-events;
  made = λ a w made k.
      let less = less-attempt everywhere everywhere everywhere a (damage_in (at_attempt w))
      (at_attempt w).roots (λ q is j e t at deep. all_allowed _) in
      omega (arith, less.whole);
  root = λ c n w k.
      let less = less-root everywhere everywhere everywhere c n w.roots (root_anywhere c n) in
      omega (arith, less.whole);
  refused = λ w. omega arith;
}

-- Over a course of a plan

pub devices_in-plan : (plan : PlanData) (w : World) → Course AnyStep (opening plan) w
    → devices_in w.roots ≤ length plan.events
devices_in-plan plan w course =
    let follows : FollowsPlan plan w = events_went plan w course in
    omega (arith, over_course counts-steps course, devices_in-new plan.roots, follows.taken)

-- At the device that is found at a place

ports_at-most : (p : List ℕ) (k : Ports)
    → looks_by (ports_at p) k ≤ looks_by unmarked k + devices_in k
ports_at-most (suc j ∷ e) k = looks_by-ports k j e
ports_at-most p k = omega arith

only-most : (p : List ℕ) (k : Ports)
    → strays_by unmarked (only p) k ≤ strays_by unmarked unmarked k + 1
only-most (suc j ∷ e) k = strays_by-reset k j e
only-most p k = omega arith

pub anew_owed : (p : List ℕ) {a b : World} → AtPorts a.left → KeepsFound p a b → OwesAnew a b
anew_owed p {a} {b} ports found =
    let by : KeepsBy (ports_at p) unmarked (only p) a b = found.found ports in
    record {
      looks = omega (arith, by.looks, looks_by-less (ports_at p) b.roots, ports_at-most p a.roots);
      strays = omega (
        arith,
        by.strays,
        strays_by-less unmarked (only p) b.roots,
        only-most p a.roots,
      );
    }
