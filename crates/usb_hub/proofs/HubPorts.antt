-- The ports of a hub: which one a request names, and what stands at a place.
use Rattle.std.proofs.Common.{◌≡◌, ℕ, suc, ◌-◌, ◌==◌, ◌&&◌, nat_le, not, ◌⊎◌, inl, inr, Bool, true}
use Rattle.std.proofs.Common.{false, Option, None, Some, option_map, if◌then◌else◌, refl, arith}
use Rattle.std.proofs.lemmas.Option.{same_Some}
use Rattle.usb_device.specs.{Registers, Hub, port_named, State, Ports, ended, full, Place}
use Rattle.usb_world.specs.{address_of}

-- what stands at the ports of a device
abbrev pub place_ports : Option Place → Ports
place_ports (Some (full b s a)) = a
place_ports _ = ended

-- What the hub is asked

pub port_named-cases : (h : Option Hub) (g : Registers) (n : ℕ) → (port_named h g n ≡ None)
    ⊎ (port_named h g n ≡ Some (n - 1))
port_named-cases None g n = inl refl
port_named-cases (Some hub) g n = split (not (g.configuration == 0) && nat_le 1 n &&
    nat_le n hub.ports)
  where
    pick : Bool → Option ℕ
    pick b = if b then Some (n - 1) else None

    split : (b : Bool) → ((if b then Some (n - 1) else None) ≡ None)
        ⊎ ((if b then Some (n - 1) else None) ≡ Some (n - 1))
    split true = inr refl
    split false = inl refl

pub less_one : (i : ℕ) → suc i - 1 ≡ i
less_one i = omega arith

-- The port

pub held_of : (o : Option State) (n : ℕ) → option_map address_of o ≡ Some n → (v : State)
    × (o ≡ Some v) × (address_of v ≡ n)
held_of None n h = absurd (cc h)
held_of (Some v) n h = (v, refl, same_Some (address_of v) n h)
