-- What a packet adds to what is left to do, where ports are marked.
use Rattle.std.proofs.Common.{◌≡◌, zero, suc, ◌+◌, ◌||◌, if◌then◌else◌, Bool, true, false, [], ◌∷◌}
use Rattle.std.proofs.Common.{Option, None, Some, refl, ap, arith}
use Rattle.usb_port.specs.{PortState}
use Rattle.usb_device.specs.{Sent, State, forgotten, Ports, ended, vacant, taken, acted, state_at}
use Rattle.usb_device.specs.{after_packet, all_forgotten, answer_of, effect_of}
use Rattle.usb_world.specs.{after_sent}
use Rattle.usb_world.proofs.Interface.{CalmOut}
use Rattle.usb_hub.specs.{charged, devices_in, PortMark, AllowsMarks, below_first, after_first}
use Rattle.usb_hub.specs.{allowed, devices_by, looks_by, ports_by, strays_by}
use Rattle.usb_hub.proofs.BacklogCalls.{Less, less-acted, less-same, less-then}

-- A row of ports, as its parts

less-vacant : (m v r : PortMark) (b : PortState) {k l : Ports}
    → Less (after_first m) (after_first v) (after_first r) k l
    → Less m v r (vacant b k) (vacant b l)
unfolding looks_by strays_by devices_by ports_by devices_in
less-vacant m v r b h = record {
  whole = h.whole;
  looks = h.looks;
  strays = omega (arith, h.strays);
  devices = λ d. h.devices (after_first d);
  ports = λ d. omega (arith, h.ports (after_first d));
}

less-parts : (m v r : PortMark) (b : PortState) (s t : State) {a c k l : Ports}
    → Less (below_first m) (below_first v) (below_first r) a c
    → Less (after_first m) (after_first v) (after_first r) k l
    → Less m v r (taken b s a k) (taken b t c l)
unfolding looks_by strays_by devices_by ports_by devices_in
less-parts m v r b s t {a} {c} below beside =
    let same : charged (m zero [] || b.connection_changed) (1 + devices_in c)
    ≡ charged (m zero [] || b.connection_changed) (1 + devices_in a) =
    ap (λ n. charged (m zero [] || b.connection_changed) (1 + n)) below.whole in
    record {
      whole = omega (arith, below.whole, beside.whole);
      looks = omega (arith, same, below.looks, beside.looks);
      strays = omega (arith, below.strays, beside.strays);
      devices = λ d. omega (arith, below.devices (below_first d), beside.devices (after_first d));
      ports = λ d. omega (arith, below.ports (below_first d), beside.ports (after_first d));
    }

pub less-packet : (m v r : PortMark) (q : Sent) (deep : Bool) (k : Ports) → AllowsMarks m r q k
    → Less m v r k (after_packet q deep k)
unfolding after_packet state_at
less-packet m v r q deep ended h = less-same m v r ended
less-packet m v r q deep (vacant b k) h =
    less-vacant m v r b (less-packet (after_first m) (after_first v) (after_first r) q deep k
    (λ j e. h (suc j) e))
less-packet m v r q deep (taken b s a k) h =
    split b.enable (less-packet (after_first m) (after_first v) (after_first r) q deep k
    (λ j e. h (suc j) e))
    (less-then (less-packet (below_first m) (below_first v) (below_first r) q true a
    (λ j e. h zero (suc j ∷ e)))
    (less-acted (below_first m) (below_first v) (below_first r) (effect_of q deep s)
    (after_packet q true a) (h zero [] s refl deep)))
  where
    split : (x : Bool) → Less (after_first m) (after_first v) (after_first r) k
        (after_packet q deep k) → Less (below_first m) (below_first v) (below_first r) a
        (acted (effect_of q deep s) (after_packet q true a)) → Less m v r (taken b s a k)
        (if x then taken b (answer_of q deep s a).1
        (acted (effect_of q deep s) (after_packet q true a)) (after_packet q deep k)
        else taken b s a (after_packet q deep k))
    split true beside below = less-parts m v r b s (answer_of q deep s a).1 below beside
    split false beside below = less-parts m v r b s s
        (less-same (below_first m) (below_first v) (below_first r) a) beside

pub less-forgotten : (m v r : PortMark) (k : Ports) → Less m v r k (all_forgotten k)
unfolding all_forgotten
less-forgotten m v r ended = less-same m v r ended
less-forgotten m v r (vacant b k) = less-vacant m v r b
    (less-forgotten (after_first m) (after_first v) (after_first r) k)
less-forgotten m v r (taken b s a k) =
    less-parts m v r b s (forgotten s) (less-forgotten (below_first m) (below_first v)
    (below_first r) a) (less-forgotten (after_first m) (after_first v) (after_first r) k)

-- A packet that goes out, or not

-- one that asks nothing of any port
pub less-calm : (m v r : PortMark) (o : Option Sent) (k : Ports) → CalmOut o
    → Less m v r k (after_sent o k)
less-calm m v r None k c = less-same m v r k
less-calm m v r (Some q) k c = less-packet m v r q false k
    (λ j e t at deep. ap (allowed _ _) (c deep t))

-- one of which each device asks what is allowed
pub less-sent : (m v r : PortMark) (o : Option Sent) (k : Ports)
    → ((q : Sent) → o ≡ Some q → AllowsMarks m r q k) → Less m v r k (after_sent o k)
less-sent m v r None k h = less-same m v r k
less-sent m v r (Some q) k h = less-packet m v r q false k (h q refl)
