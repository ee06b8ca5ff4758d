-- A host that was just made.
use Rattle.usb_bus.specs.{Traced}
use Rattle.usb_enum.specs.{IsInOrder, HostOptions}
use Rattle.usb_enum.proofs.Interface.{traced_in_order}
use Rattle.std.proofs.Common.{◌≡◌, ◌⊎◌, ◌∙◌, ◌<◌, inl, inr, refl, sym, ap, arith, zero, suc, ℕ}
use Rattle.std.proofs.Common.{List, Option, None, ◌∷◌, Bool, true, [], false, length, ◌-◌, ◌≤◌}
use Rattle.std.specs.FinSet as set
use Rattle.usb_port.specs.{parent_of, port_on_hub, PortState, powered_off, powered_on, speed_of}
use Rattle.usb_port.specs.{ClearPower, SetPower, Addresses}
use Rattle.usb_device.specs.{forgotten, Ports, ended, vacant, taken, row_of, reach, reach_at}
use Rattle.usb_device.specs.{state_at, all_forgotten, called, changed_at}
use Rattle.usb_world.specs.{has_power_at, IsSettled, pending_at, Consistent, World, roots_of}
use Rattle.usb_world.specs.{ClearsRoot, SetsRoot, after, root_call}
use Rattle.usb_table.specs.{Table, empty}
use Rattle.usb_host.specs.{DeviceNumbers, ReportedDevices, first_numbers, BusCounts, HostState}
use Rattle.usb_host.specs.{no_counts, opening_host, repowered, HostMapHolds, HostInvariant}
use Rattle.usb_host.specs.{PortsListed}
use Rattle.usb_host.proofs.entries.Roots.{rooted_opening}
use Rattle.usb_request.specs.{PORT_POWER}

abbrev going : World → Option (List ℕ) → BusCounts → Table → Addresses → DeviceNumbers
    → ReportedDevices → HostOptions → HostState
going w t counts table addresses numbers reported options = record {
  world = w;
  trace = t;
  counts = counts;
  entries = table.entries;
  pipes = table.pipes;
  addresses = addresses;
  numbers = numbers;
  reported = reported;
  options = options;
  stopped = false;
}

abbrev world_powered : World → World
world_powered w = record w { roots = repowered w.roots }

-- power is taken and given in silence
pub powered_is_opening : (w0 w : World) (t0 t : Option (List ℕ)) (counts : BusCounts)
    (table : Table) (addresses : Addresses) (numbers : DeviceNumbers) (reported : ReportedDevices)
    (options : HostOptions) → w ≡ world_powered w0 → t ≡ t0 → counts ≡ no_counts → table ≡ empty
    → addresses ≡ set.empty
    → numbers ≡ first_numbers → reported ≡ []
    → going w t counts table addresses numbers reported options ≡ opening_host options w0 t0
powered_is_opening w0 w t0 t counts table addresses numbers reported options e silent none f h n r =
    grind arith

-- A port that lost power is disabled, so no device is reached

reach-repowered : (k : Ports) (i : ℕ) (r : List ℕ) → reach_at (repowered k) i r ≡ false
unfolding repowered reach_at
reach-repowered (vacant b k) (suc i) r = reach-repowered k i r
reach-repowered (taken b s a k) zero [] = refl
reach-repowered (taken b s a k) zero (suc j ∷ r) = refl
reach-repowered (taken b s a k) (suc i) r = reach-repowered k i r
reach-repowered _ _ _ = refl

path-repowered : (k : Ports) (path : List ℕ) → reach (repowered k) path ≡ false
path-repowered k path = grind (arith, reach-repowered)

forgotten-repowered : (k : Ports) → all_forgotten (repowered k) ≡ repowered (all_forgotten k)
unfolding repowered all_forgotten
forgotten-repowered ended = refl
forgotten-repowered (vacant b k) = ap (vacant (powered_on (powered_off b))) (forgotten-repowered k)
forgotten-repowered (taken b s a k) = ap (taken (powered_on (powered_off b)) (forgotten s)
    (all_forgotten a)) (forgotten-repowered k)

pub owning_opening : (options : HostOptions) (w : World) (t : Option (List ℕ)) → IsSettled w.roots
    → w.shared ≡ false → HostMapHolds (opening_host options w t)
owning_opening options w t settled single = grind (arith, forgotten-repowered, path-repowered)

-- What a new host knows is so

-- a device that stands at a port is told of
told_again : (b : PortState) (low : Bool) → b.attached ≡ speed_of low
    → (powered_on (powered_off b)).connection_changed ≡ true
told_again b low at = grind arith

known-repowered : (k : Ports) (i : ℕ) → Consistent k → i < length (row_of (repowered k))
    → (pending_at (repowered k) i [] ≡ true) ⊎ ((has_power_at (repowered k) i [] ≡ true)
    × (state_at (repowered k) i [] ≡ None))
unfolding repowered Consistent row_of pending_at has_power_at state_at
known-repowered ended i h lt = absurd (omega arith)
known-repowered (vacant b k) zero h lt = inr (refl, refl)
known-repowered (vacant b k) (suc i) h lt = known-repowered k i h.2 (omega arith)
known-repowered (taken b s a k) zero h lt = inl (told_again b s.spec.low h.1)
known-repowered (taken b s a k) (suc i) h lt = known-repowered k i h.3 (omega arith)

known_opening : (w : World) → Consistent w.roots → PortsListed (world_powered w) []
unfolding parent_of port_on_hub
known_opening w sane [] port = absurd (omega (arith, port.some))
known_opening w sane (zero ∷ []) port = absurd (omega (arith, port.port.0))
known_opening w sane (suc i ∷ []) port = grind (arith, known-repowered)
known_opening w sane (n ∷ m ∷ rest) port = grind arith

pub sound_opening : (options : HostOptions) (w : World) (t : Option (List ℕ))
    → Traced w t (opening_host options w t).world (opening_host options w t).trace
    → IsSettled w.roots → IsInOrder w → w.shared ≡ false → HostInvariant (opening_host options w t)
sound_opening options w t traced settled order single = record {
  owned = (owning_opening options w t settled single).owned refl;
  rooted = rooted_opening options w t;
  order = traced_in_order traced order;
  known = λ still. known_opening w (order still).sane;
  truthful = grind arith;
  level = grind arith;
}

-- The root ports lose power and get it again one by one.

-- so it is of the first so many ports
pub repowered_upto : ℕ → Ports → Ports
repowered_upto zero k = k
repowered_upto (suc n) ended = ended
repowered_upto (suc n) (vacant b k) = vacant (powered_on (powered_off b)) (repowered_upto n k)
repowered_upto (suc n) (taken b s a k) = taken (powered_on (powered_off b)) s a (repowered_upto n k)

abbrev pub powered_world : ℕ → World → World
powered_world n w = record w { roots = repowered_upto n w.roots }

set_one : (n : ℕ) (k : Ports) → changed_at (called SetPower) (changed_at (called ClearPower)
    (repowered_upto n k) n []) n [] ≡ repowered_upto (suc n) k
unfolding repowered_upto changed_at
set_one zero ended = refl
set_one zero (vacant b k) = refl
set_one zero (taken b s a k) = refl
set_one (suc n) ended = refl
set_one (suc n) (vacant b k) = ap (λ r. vacant (powered_on (powered_off b)) r) (set_one n k)
set_one (suc n) (taken b s a k) = ap (λ r. taken (powered_on (powered_off b)) s a r) (set_one n k)

all_upto : (k : Ports) → repowered_upto (length (row_of k)) k ≡ repowered k
unfolding repowered_upto row_of repowered
all_upto ended = refl
all_upto (vacant b k) = ap (λ r. vacant (powered_on (powered_off b)) r) (all_upto k)
all_upto (taken b s a k) = ap (λ r. taken (powered_on (powered_off b)) s a r) (all_upto k)

pub powered_none : (w : World) → w ≡ powered_world 0 w
unfolding repowered_upto
powered_none w = refl

powers_next : (w0 : World) (n : ℕ) → after (root_call SetPower (suc n))
    (after (root_call ClearPower (suc n)) (powered_world n w0)) ≡ powered_world (suc n) w0
unfolding after
powers_next w0 n = search set_one

pub powers_one : (w0 w u v : World) (port : ℕ) → 1 ≤ port → w ≡ powered_world (port - 1) w0
    → ClearsRoot port PORT_POWER w u → SetsRoot port PORT_POWER u v → v ≡ powered_world port w0
powers_one w0 w u v port least e c s =
    let n : ℕ = port - 1 in
    let next : suc n ≡ port = omega arith in
    let both : ℕ → World → World = λ m x. after (root_call SetPower m)
    (after (root_call ClearPower m) x) in
    s.step SetPower refl ∙ ap (λ x. after (root_call SetPower port) x) (c.step ClearPower refl)
    ∙ ap (λ x. both port x) e ∙ ap (λ m. both m (powered_world n w0)) (sym next)
    ∙ powers_next w0 n ∙ ap (λ m. powered_world m w0) next

pub powered_all : (w0 w : World) {n : ℕ} → n ≡ roots_of w0 → w ≡ powered_world n w0
    → w ≡ record w0 { roots = repowered w0.roots }
powered_all w0 w e h = grind (arith, all_upto)
