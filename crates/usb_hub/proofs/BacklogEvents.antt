-- What events add to what is left to do, where ports are marked.
use Rattle.std.proofs.Common.{◌≡◌, ◌≤◌, ℕ, zero, suc, ◌+◌, ◌||◌, Bool, true, false, List, [], ◌∷◌}
use Rattle.std.proofs.Common.{length, slice_get, Option, None, Some, refl, subst, ◌∙◌, arith}
use Rattle.std.proofs.lemmas.List.Elements.{All-head, All-tail}
use Rattle.usb_port.specs.{bit}
use Rattle.usb_device.specs.{fresh, Spec, Hub, Ports, ended, vacant, taken, new_ports, first_ports}
use Rattle.usb_device.specs.{replaced, changed_at}
use Rattle.usb_world.specs.{Action, Plug, Unplug, Event, AtPorts, PlugsAtPort, after, event}
use Rattle.usb_world.specs.{after_change, at_attempt, after_event, with_plugged, World}
use Rattle.usb_world.specs.declared.event.Action.TheVariants.{Change, Ask}
use Rattle.usb_world.proofs.Interface.{OverEvents, over_ready, over_taken}
use Rattle.usb_hub.specs.{charged, devices_in, Few, KeepsBy, PortMark, after_first, below_first}
use Rattle.usb_hub.specs.{devices_by, looks_by, strays_by}
use Rattle.usb_hub.proofs.BacklogDevices.{charged-rises, charged-more, charged-most}
use Rattle.usb_hub.proofs.BacklogDevices.{devices_in-plugged, devices_in-unplugged, own-most}

-- The ports of a new device

looks_by-new : (m : PortMark) (n : ℕ) → looks_by m (new_ports n) ≡ 0
unfolding looks_by new_ports
looks_by-new m zero = refl
looks_by-new m (suc n) = looks_by-new (after_first m) n

devices_by-new : (m : PortMark) (n : ℕ) → devices_by m (new_ports n) ≡ 0
unfolding devices_by new_ports
devices_by-new m zero = refl
devices_by-new m (suc n) = devices_by-new (after_first m) n

looks_by-first : (m : PortMark) (o : Option Hub) → looks_by m (first_ports o) ≡ 0
unfolding looks_by
looks_by-first m None = refl
looks_by-first m (Some hub) = looks_by-new m hub.ports

devices_by-first : (m : PortMark) (o : Option Hub) → devices_by m (first_ports o) ≡ 0
unfolding devices_by
devices_by-first m None = refl
devices_by-first m (Some hub) = devices_by-new m hub.ports

strays_by-first : (v r : PortMark) → ((n : ℕ) → strays_by v r (new_ports n) ≤ 1) → (o : Option Hub)
    → strays_by v r (first_ports o) ≤ 1
unfolding strays_by
strays_by-first v r h None = omega arith
strays_by-first v r h (Some hub) = h hub.ports

-- A plug

looks_by-plugged : (m : PortMark) (s : Spec) (k : Ports) (i : ℕ) (p : List ℕ)
    → looks_by m (changed_at (replaced (Some s)) k i p) ≤ looks_by m k + 1 + length p
unfolding looks_by changed_at fresh
looks_by-plugged m s (vacant b k) zero [] =
    omega (
      arith,
      looks_by-first (below_first m) s.hub,
      own-most (m zero [] || (b.power || (b.power || b.connection_changed))) s.hub,
    )
looks_by-plugged m s (vacant b k) (suc i) p = looks_by-plugged (after_first m) s k i p
looks_by-plugged m s (taken b t a k) zero [] =
    omega (
      arith,
      looks_by-first (below_first m) s.hub,
      own-most (m zero [] || (b.power || (b.power || b.connection_changed))) s.hub,
    )
looks_by-plugged m s (taken b t a k) zero (suc j ∷ p) =
    let one : charged (m zero [] || b.connection_changed)
    (1 + devices_in (changed_at (replaced (Some s)) a j p))
    ≤ charged (m zero [] || b.connection_changed) (1 + devices_in a) + 1 =
    charged-more (m zero [] || b.connection_changed)
    (1 + devices_in (changed_at (replaced (Some s)) a j p)) (1 + devices_in a)
    (omega (arith, devices_in-plugged s a j p)) in
    omega (arith, looks_by-plugged (below_first m) s a j p, one)
looks_by-plugged m s (taken b t a k) (suc i) p =
    omega (arith, looks_by-plugged (after_first m) s k i p)
looks_by-plugged m s k i p = omega arith

devices_by-plugged : (m : PortMark) (s : Spec) (k : Ports) (i : ℕ) (p : List ℕ)
    → devices_by m (changed_at (replaced (Some s)) k i p) ≤ devices_by m k + 1
unfolding devices_by changed_at fresh
devices_by-plugged m s (vacant b k) zero [] =
    omega (arith, devices_by-first (below_first m) s.hub, charged-most (m zero []) 1)
devices_by-plugged m s (vacant b k) (suc i) p = devices_by-plugged (after_first m) s k i p
devices_by-plugged m s (taken b t a k) zero [] =
    omega (arith, devices_by-first (below_first m) s.hub)
devices_by-plugged m s (taken b t a k) zero (suc j ∷ p) =
    omega (arith, devices_by-plugged (below_first m) s a j p)
devices_by-plugged m s (taken b t a k) (suc i) p =
    omega (arith, devices_by-plugged (after_first m) s k i p)
devices_by-plugged m s k i p = omega arith

strays_by-plugged : (v r : PortMark) → Few v r → (s : Spec) (k : Ports) (i : ℕ) (p : List ℕ)
    → strays_by v r (changed_at (replaced (Some s)) k i p) ≤ strays_by v r k + 1
unfolding strays_by changed_at fresh
strays_by-plugged v r h s ended i p = omega arith
strays_by-plugged v r h s (vacant b k) zero (n ∷ p) = omega arith
strays_by-plugged v r h s (vacant b k) (suc i) p =
    omega (
      arith,
      strays_by-plugged (after_first v) (after_first r) (λ i p n. h (suc i) p n) s k i p,
    )
strays_by-plugged v r h s (taken b t a k) zero (zero ∷ p) = omega arith
strays_by-plugged v r h s (taken b t a k) zero (suc j ∷ p) =
    omega (
      arith,
      strays_by-plugged (below_first v) (below_first r) (λ i p n. h zero (suc i ∷ p) n) s a j p,
    )
strays_by-plugged v r h s (taken b t a k) (suc i) p =
    omega (
      arith,
      strays_by-plugged (after_first v) (after_first r) (λ i p n. h (suc i) p n) s k i p,
    )
strays_by-plugged v r h s k i p =
    omega (arith, strays_by-first (below_first v) (below_first r) (h zero []) s.hub)

-- An unplug

looks_by-unplugged : (m : PortMark) (k : Ports) (i : ℕ) (p : List ℕ)
    → looks_by m (changed_at (replaced None) k i p) ≤ looks_by m k
unfolding looks_by changed_at
looks_by-unplugged m (vacant b k) zero [] = omega arith
looks_by-unplugged m (vacant b k) (suc i) p = looks_by-unplugged (after_first m) k i p
looks_by-unplugged m (taken b t a k) zero (suc j ∷ p) =
    let less : charged (m zero [] || b.connection_changed)
    (1 + devices_in (changed_at (replaced None) a j p))
    ≤ charged (m zero [] || b.connection_changed) (1 + devices_in a) =
    charged-rises (m zero [] || b.connection_changed)
    (1 + devices_in (changed_at (replaced None) a j p)) (1 + devices_in a)
    (omega (arith, devices_in-unplugged a j p)) in
    omega (arith, looks_by-unplugged (below_first m) a j p, less)
looks_by-unplugged m (taken b t a k) (suc i) p =
    omega (arith, looks_by-unplugged (after_first m) k i p)
looks_by-unplugged m k i p = omega arith

devices_by-unplugged : (m : PortMark) (k : Ports) (i : ℕ) (p : List ℕ)
    → devices_by m (changed_at (replaced None) k i p) ≤ devices_by m k
unfolding devices_by changed_at
devices_by-unplugged m (vacant b k) zero [] = omega arith
devices_by-unplugged m (vacant b k) (suc i) p = devices_by-unplugged (after_first m) k i p
devices_by-unplugged m (taken b t a k) zero (suc j ∷ p) =
    omega (arith, devices_by-unplugged (below_first m) a j p)
devices_by-unplugged m (taken b t a k) (suc i) p =
    omega (arith, devices_by-unplugged (after_first m) k i p)
devices_by-unplugged m k i p = omega arith

bit-one : (x : Bool) → bit x ≤ 1
bit-one true = omega arith
bit-one false = omega arith

strays_by-unplugged : (v r : PortMark) (k : Ports) (i : ℕ) (p : List ℕ)
    → strays_by v r (changed_at (replaced None) k i p) ≤ strays_by v r k + 1
unfolding strays_by changed_at
strays_by-unplugged v r (vacant b k) zero [] =
    omega (arith, bit-one (v zero [] || (b.power || b.connection_changed)))
strays_by-unplugged v r (vacant b k) (suc i) p =
    omega (arith, strays_by-unplugged (after_first v) (after_first r) k i p)
strays_by-unplugged v r (taken b t a k) zero [] =
    omega (arith, bit-one (v zero [] || (b.power || b.connection_changed)))
strays_by-unplugged v r (taken b t a k) zero (suc j ∷ p) =
    omega (arith, strays_by-unplugged (below_first v) (below_first r) a j p)
strays_by-unplugged v r (taken b t a k) (suc i) p =
    omega (arith, strays_by-unplugged (after_first v) (after_first r) k i p)
strays_by-unplugged v r k i p = omega arith

-- An event

module _ (m v r : PortMark) (few : Few v r) where
  -- at most seven looks, one device and one change that asks for no look
  record Adds (k l : Ports) : Type 0 where
    pub looks : looks_by m l ≤ looks_by m k + 7
    pub strays : strays_by v r l ≤ strays_by v r k + 1
    pub devices : (d : PortMark) → devices_by d l ≤ devices_by d k + 1

  adds-none : (k : Ports) → Adds k k
  adds-none k = record { looks = omega arith; strays = omega arith; devices = λ d. omega arith }

  adds-plugged : (o : Option Spec) (path : List ℕ) (k : Ports) → length path ≤ 7
      → Adds k (with_plugged o path k)
  adds-plugged (Some s) (suc i ∷ p) k h = record {
    looks = omega (arith, looks_by-plugged m s k i p, h);
    strays = strays_by-plugged v r few s k i p;
    devices = λ d. devices_by-plugged d s k i p;
  }
  adds-plugged o path k h = adds-none k

  adds-unplugged : (path : List ℕ) (devices : List Spec) (k : Ports)
      → Adds k (after_change (Change (Unplug path)) devices k)
  adds-unplugged (suc i ∷ p) devices k = record {
    looks = omega (arith, looks_by-unplugged m k i p);
    strays = strays_by-unplugged v r k i p;
    devices = λ d. omega (arith, devices_by-unplugged d k i p);
  }
  adds-unplugged path devices k = adds-none k

  adds-happened : (action : Action) (devices : List Spec) (k : Ports) → PlugsAtPort action
      → Adds k (after_change action devices k)
  adds-happened (Change (Plug path device)) devices k h =
      adds-plugged (slice_get devices device) path k h.1
  adds-happened (Change (Unplug path)) devices k h = adds-unplugged path devices k
  adds-happened (Ask ask) devices k h = adds-none k

  pub keeps-none : (w : World) → AtPorts w.left → KeepsBy m v r w w
  keeps-none w h = record {
    looks = omega arith;
    strays = omega arith;
    devices = λ d. omega arith;
    left = h;
    onward = omega arith;
    still = λ e d. refl;
  }

  pub keeps-then : {w x y : World} → KeepsBy m v r w x → KeepsBy m v r x y → KeepsBy m v r w y
  keeps-then one two = record {
    looks = omega (arith, one.looks, two.looks);
    strays = omega (arith, one.strays, two.strays);
    devices = λ d. omega (arith, one.devices d, two.devices d);
    left = two.left;
    onward = omega (arith, one.onward, two.onward);
    still = λ e d. two.still (omega (arith, one.onward, two.onward, e)) d
        ∙ one.still (omega (arith, one.onward, two.onward, e)) d;
  }

  keeps-took : (e : Event) (events : List Event) (w : World) → AtPorts (e ∷ events)
      → KeepsBy m v r w (after_event e events w)
  unfolding after_event
  keeps-took e events w h =
      let adds : Adds w.roots (after_change e.action w.devices w.roots) =
      adds-happened e.action w.devices w.roots (All-head (λ x. PlugsAtPort x.action) e events h)
      in
      record {
        looks = omega (arith, adds.looks);
        strays = omega (arith, adds.strays);
        devices = λ d. omega (arith, adds.devices d);
        left = All-tail (λ x. PlugsAtPort x.action) e events h;
        onward = omega arith;
        still = λ same d. absurd (omega (arith, same));
      }

  -- where the events to come are at ports
  abbrev pub KeepsFrom : World → World → Type 0
  KeepsFrom w x = AtPorts w.left → KeepsBy m v r w x

  pub keeps-joined : (w x y : World) → KeepsFrom w x → KeepsFrom x y → KeepsFrom w y
  keeps-joined w x y one two h =
      let first : KeepsBy m v r w x = one h in keeps-then first (two first.left)

  pub keeps-events : OverEvents KeepsFrom
  keeps-events = record {
    same = keeps-none;
    joined = keeps-joined;
    came = λ e events w l h. keeps-took e events w (subst AtPorts l h);
  }

  -- those that are due before an attempt
  pub keeps-ready : (w : World) → AtPorts w.left → KeepsBy m v r w (at_attempt w)
  keeps-ready = over_ready keeps-events

  -- and one that is applied
  pub keeps-event : (w : World) → AtPorts w.left → KeepsBy m v r w (after event w)
  unfolding after
  keeps-event w = over_taken keeps-events w.fault w
