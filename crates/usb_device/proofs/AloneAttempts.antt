-- A whole attempt at one device: the token and the ACK ask nothing of its ports.
use Rattle.std.proofs.Common.{◌≡◌, Bool, true, if◌then◌else◌, refl}
use Rattle.usb_device.specs.{HostSide, Leaves, asks, State, hears, effect_of, token_sent, ack_sent}

either-leaves : (x y : Bool) → (if x then (if y then Leaves else Leaves) else Leaves) ≡ Leaves
either-leaves true true = refl
either-leaves x y = refl

pub effect_of-token : (x : HostSide) (deep : Bool) (s : State)
    → effect_of (token_sent x) deep s ≡ Leaves
unfolding effect_of asks
effect_of-token x deep s = either-leaves (hears (token_sent x) deep s) s.spec.silent

pub effect_of-ack : (x : HostSide) (deep : Bool) (s : State)
    → effect_of (ack_sent x) deep s ≡ Leaves
unfolding effect_of asks
effect_of-ack x deep s = either-leaves (hears (ack_sent x) deep s) s.spec.silent

pub ruleset calm = (effect_of-token, effect_of-ack)
