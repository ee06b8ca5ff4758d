-- How many devices stand at ports, over calls, plugs and unplugs.
use Rattle.std.proofs.Common.{◌≡◌, ◌≤◌, ℕ, zero, suc, ◌+◌, Bool, true, false, List, [], ◌∷◌, Option}
use Rattle.std.proofs.Common.{None, Some, refl, arith}
use Rattle.usb_device.specs.{fresh, Spec, Hub, Ports, vacant, taken, new_ports, first_ports}
use Rattle.usb_device.specs.{replaced, changed_at}
use Rattle.usb_hub.specs.{charged, devices_in}

pub charged-rises : (x : Bool) (m n : ℕ) → m ≤ n → charged x m ≤ charged x n
charged-rises true m n h = h
charged-rises false m n h = omega arith

pub charged-more : (x : Bool) (m n : ℕ) → m ≤ n + 1 → charged x m ≤ charged x n + 1
charged-more true m n h = h
charged-more false m n h = omega arith

pub charged-most : (x : Bool) (n : ℕ) → charged x n ≤ n
charged-most true n = omega arith
charged-most false n = omega arith

-- All ports go off

-- The ports of a new device

pub devices_in-new : (n : ℕ) → devices_in (new_ports n) ≡ 0
unfolding devices_in new_ports
devices_in-new zero = refl
devices_in-new (suc n) = devices_in-new n

pub devices_in-first : (o : Option Hub) → devices_in (first_ports o) ≡ 0
unfolding devices_in
devices_in-first None = refl
devices_in-first (Some hub) = devices_in-new hub.ports

pub own-most : (x : Bool) (o : Option Hub) → charged x (1 + devices_in (first_ports o)) ≤ 1
own-most x o = omega (arith, charged-most x (1 + devices_in (first_ports o)), devices_in-first o)

-- A plug

pub devices_in-plugged : (s : Spec) (k : Ports) (i : ℕ) (p : List ℕ)
    → devices_in (changed_at (replaced (Some s)) k i p) ≤ devices_in k + 1
unfolding devices_in changed_at fresh
devices_in-plugged s (vacant b k) zero [] = omega (arith, devices_in-first s.hub)
devices_in-plugged s (vacant b k) (suc i) p = devices_in-plugged s k i p
devices_in-plugged s (taken b t a k) zero [] = omega (arith, devices_in-first s.hub)
devices_in-plugged s (taken b t a k) zero (suc j ∷ p) = omega (arith, devices_in-plugged s a j p)
devices_in-plugged s (taken b t a k) (suc i) p = omega (arith, devices_in-plugged s k i p)
devices_in-plugged s k i p = omega arith

-- An unplug

pub devices_in-unplugged : (k : Ports) (i : ℕ) (p : List ℕ)
    → devices_in (changed_at (replaced None) k i p) ≤ devices_in k
unfolding devices_in changed_at
devices_in-unplugged (vacant b k) zero [] = omega arith
devices_in-unplugged (vacant b k) (suc i) p = devices_in-unplugged k i p
devices_in-unplugged (taken b t a k) zero (suc j ∷ p) = omega (arith, devices_in-unplugged a j p)
devices_in-unplugged (taken b t a k) (suc i) p = omega (arith, devices_in-unplugged k i p)
devices_in-unplugged k i p = omega arith
