-- What root calls leave, for whoever calls them as a hub's port.
use Rattle.std.proofs.Common.{◌≡◌, ◌∙◌, refl, ap, arith, true, length-set, ℕ, ◌+◌, ◌-◌, ◌≤◌, Bool}
use Rattle.std.proofs.Common.{length, List, Option, Ok}
use Rattle.usb_request.specs.{PORT_RESET}
use Rattle.usb_port.specs.{PortState, set_call, IsSetFeature, IsClearFeature}
use Rattle.usb_world.specs.{World, AttemptsWithin, IsRootPort, root_row, changes, SetsRoot}
use Rattle.usb_world.specs.{ClearsRoot}
use Rattle.usb_world.proofs.Interface.{RootCalled, change_most, changes-set, clears_change}
use Rattle.usb_world.proofs.Interface.{clears_spend, resets_spend, root_called}
use Rattle.usb_bus.specs.{Traced, Steps}
use Rattle.usb_hub.specs.{HubPort, Root, IsAsked, IsPort, order_bound, TakesNoTime, RootSet}
use Rattle.usb_hub.specs.{RootCleared, SetSteps, PortSet, PortCleared}

root_call_takes_no_time : (number : ℕ) (p : PortState) (old new : World)
    → RootCalled number p old new → TakesNoTime old new
root_call_takes_no_time number p old new c = record {
  attempts = c.attempts;
  limit = c.limit;
  taken = c.taken;
  left = c.left;
  fault = c.fault;
  roots = ap length c.row ∙ length-set (root_row old) (number - 1) p;
}

changes_written : (number : ℕ) (p : PortState) (old new : World) → IsRootPort old number
    → RootCalled number p old new → changes (root_row new) ≤ changes (root_row old) + 1
changes_written number p old new is c = grind (arith, change_most, changes-set)

pub root_set : (number feature : ℕ) (old new : World) → IsRootPort old number → IsSetFeature feature
    → SetsRoot number feature old new → RootSet number feature old (Ok tt) new
root_set number feature old new is named row =
    let called = root_called number (set_call feature) old new is named row.step in
    record {
      done = refl;
      row = row;
      quiet = search root_call_takes_no_time;
      resets = λ e. resets_spend number old new is (grind arith);
      powers = search changes_written;
    }

pub root_cleared : (number feature : ℕ) (old new : World) → IsRootPort old number
    → IsClearFeature feature → ClearsRoot number feature old new
    → RootCleared number feature old (Ok tt) new
root_cleared number feature old new is named row = record {
  done = refl;
  row = row;
  quiet = grind (arith, root_call_takes_no_time, root_called);
  count = search clears_spend;
  served = grind (arith, clears_change);
}

-- a port stays one while the bus has as many root ports
pub is_port-spends : (n : ℕ) (port : HubPort) (old new : World) → AttemptsWithin n old new
    → IsPort old port → IsPort new port
is_port-spends n port old new s is = grind arith

pub asked_port : (modelled : Bool) (w : World) (port : HubPort) → modelled ≡ true
    → IsAsked modelled w port → IsPort w port
asked_port modelled w port known asked = grind arith

-- so a root port that is asked is there
pub asked-root : (modelled : Bool) (w : World) {port : HubPort} {number : ℕ} → port ≡ Root number
    → IsAsked modelled w port → modelled ≡ true → IsRootPort w number
asked-root modelled w is asked h = grind arith

pub is_asked_stays : (modelled : Bool) (n : ℕ) (port : HubPort) (old new : World)
    → (modelled ≡ true → AttemptsWithin n old new) → IsAsked modelled old port
    → IsAsked modelled new port
is_asked_stays modelled n port old new s asked = grind arith

-- the same of a port that is one of the root
pub port_set-root : (port : HubPort) (number feature : ℕ) (old new : World) → port ≡ Root number
    → IsPort old port → IsSetFeature feature → SetsRoot number feature old new
    → PortSet port feature old (Ok tt) new
port_set-root port number feature old new e is named row = grind (arith, root_set)

pub port_cleared-root : (port : HubPort) (number feature : ℕ) (old new : World) → port ≡ Root number
    → IsPort old port → IsClearFeature feature → ClearsRoot number feature old new
    → PortCleared port feature old (Ok tt) new
port_cleared-root port number feature old new e is named row = grind (arith, root_cleared)

-- and the course that such a call is
pub set_went-root : {S : Type 0} (world : S → World) (trace : S → Option (List ℕ)) (port : HubPort)
    (number feature : ℕ) (old new : S) → port ≡ Root number
    → PortSet port feature (world old) (Ok tt) (world new)
    → Traced (world old) (trace old) (world new) (trace new)
    → SetSteps world trace port feature (order_bound port) old new
set_went-root world trace port number feature old new e set traced = grind arith

-- PORT_RESET's attempts, at each port
pub reset_went : {S : Type 0} (world : S → World) (trace : S → Option (List ℕ)) (port : HubPort)
    (old new : S) → SetSteps world trace port PORT_RESET (order_bound port) old new
    → Steps world trace (order_bound port) old new
reset_went world trace port old new p = grind arith

pub cleared_spends-root : (port : HubPort) (number feature : ℕ) (old new : World)
    → port ≡ Root number → PortCleared port feature old (Ok tt) new
    → AttemptsWithin (order_bound port) old new
cleared_spends-root port number feature old new e cleared = grind arith
