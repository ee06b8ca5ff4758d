-- What calls at ports add to what is left to do, where ports are marked.
use Rattle.std.proofs.Common.{◌≡◌, ◌≤◌, ℕ, zero, suc, ◌+◌, ◌&&◌, ◌||◌, not, if◌then◌else◌, Bool}
use Rattle.std.proofs.Common.{true, false, [], refl, ap, ◌∙◌, arith}
use Rattle.std.proofs.Math.Bool.{or-true}
use Rattle.usb_port.specs.{PortState, is_attached, bit, PortCall, SetPower, SetReset, ClearPower}
use Rattle.usb_port.specs.{ClearConnectionChange, called_port, is_reset}
use Rattle.usb_device.specs.{Effect, Leaves, Calls, PortsOff, State, Ports, ended, vacant, taken}
use Rattle.usb_device.specs.{empty, full, before, all_off, acted, called, changed_at, reset_where}
use Rattle.usb_device.specs.{Place}
use Rattle.usb_world.proofs.Interface.{both, false_true}
use Rattle.usb_hub.specs.{charged, devices_in, PortMark, below_first, after_first, allowed}
use Rattle.usb_hub.specs.{devices_by, looks_by, ports_by, strays_by, gives_power}

-- no more is left to do in one tree than in another, with as many devices at the same places
pub record Less (m v r : PortMark) (k l : Ports) : Type 0 where
  pub whole : devices_in l ≡ devices_in k
  pub looks : looks_by m l ≤ looks_by m k
  pub strays : strays_by v r l ≤ strays_by v r k
  pub devices : (d : PortMark) → devices_by d l ≡ devices_by d k
  pub ports : (d : PortMark) → ports_by d l ≡ ports_by d k

pub less-same : (m v r : PortMark) (k : Ports) → Less m v r k k
less-same m v r k = record {
  whole = refl;
  looks = omega arith;
  strays = omega arith;
  devices = λ d. refl;
  ports = λ d. refl;
}

pub less-then : {m v r : PortMark} {k l n : Ports} → Less m v r k l → Less m v r l n
    → Less m v r k n
less-then one two = record {
  whole = two.whole ∙ one.whole;
  looks = omega (arith, one.looks, two.looks);
  strays = omega (arith, one.strays, two.strays);
  devices = λ d. two.devices d ∙ one.devices d;
  ports = λ d. two.ports d ∙ one.ports d;
}

-- Ports

bit-or_less : (x y z : Bool) → bit y ≤ bit z → bit (x || y) ≤ bit (x || z)
bit-or_less true y z h = omega arith
bit-or_less false y z h = h

either_port : (P : PortState → Type 0) (x : Bool) (b c : PortState) → P b → P c
    → P (if x then b else c)
either_port P true b c h g = h
either_port P false b c h g = g

abbrev with_power : PortState → PortState
with_power b = record b {
  power = true;
  connection_changed = is_attached b.attached || b.connection_changed;
}

abbrev when_reset : PortState → PortState
when_reset b = record b { enable = true; reset_changed = true }

-- the change of connection, unless the port is marked and given power
connection-called : (x : Bool) (c : PortCall) → (x || not (gives_power c)) ≡ true
    → (b : PortState) (n : ℕ) → charged (x || (called_port c b).connection_changed) n
    ≤ charged (x || b.connection_changed) n
connection-called false SetPower h b n = false_true h
connection-called false SetReset h b n =
    either_port (λ c. charged c.connection_changed n ≤ charged b.connection_changed n)
    (b.power && is_attached b.attached) (when_reset b) b (omega arith) (omega arith)
connection-called x c h b n = omega arith

-- the change of an empty port, which counts what it sees
seen-called : (x : Bool) (c : PortCall) (b : PortState)
    → bit (x || (is_attached (called_port c b).attached || (called_port c b).connection_changed))
    ≤ bit (x || (is_attached b.attached || b.connection_changed))
seen-called false SetPower b =
    either_port (λ c. bit (is_attached c.attached || c.connection_changed)
    ≤ bit (is_attached b.attached || b.connection_changed)) b.power b (with_power b) (omega arith)
    (twice (is_attached b.attached) b.connection_changed)
  where
    twice : (x y : Bool) → bit (x || (x || y)) ≤ bit (x || y)
    twice true y = omega arith
    twice x y = omega arith
seen-called false SetReset b =
    either_port (λ c. bit (is_attached c.attached || c.connection_changed)
    ≤ bit (is_attached b.attached || b.connection_changed)) (b.power && is_attached b.attached)
    (when_reset b) b (omega arith) (omega arith)
seen-called false ClearPower b = bit-or_less (is_attached b.attached) false b.connection_changed
    (omega arith)
seen-called false ClearConnectionChange b =
    bit-or_less (is_attached b.attached) false b.connection_changed (omega arith)
seen-called x c b = omega arith

enable-called : (c : PortCall) (b : PortState) → bit (called_port c b).enable_changed
    ≤ bit b.enable_changed
enable-called SetPower b = either_port (λ c. bit c.enable_changed ≤ bit b.enable_changed) b.power b
    (with_power b) (omega arith) (omega arith)
enable-called SetReset b =
    either_port (λ c. bit c.enable_changed ≤ bit b.enable_changed)
    (b.power && is_attached b.attached) (when_reset b) b (omega arith) (omega arith)
enable-called c b = omega arith

-- the change of reset, unless the port is marked and reset
reset-called : (x : Bool) (c : PortCall) → (x || not (is_reset c)) ≡ true → (b : PortState)
    → bit (x || (called_port c b).reset_changed) ≤ bit (x || b.reset_changed)
reset-called false SetPower h b = either_port (λ c. bit c.reset_changed ≤ bit b.reset_changed)
    b.power b (with_power b) (omega arith) (omega arith)
reset-called false SetReset h b = false_true h
reset-called x c h b = omega arith

-- One call

less-taken : (m v r : PortMark) (b c : PortState) (s t : State) (a d k : Ports)
    → ((n : ℕ) → charged (m zero [] || c.connection_changed) n
    ≤ charged (m zero [] || b.connection_changed) n)
    → bit c.enable_changed ≤ bit b.enable_changed → bit (r zero [] || c.reset_changed)
    ≤ bit (r zero [] || b.reset_changed) → Less (below_first m) (below_first v) (below_first r) a d
    → Less m v r (taken b s a k) (taken c t d k)
unfolding looks_by strays_by devices_by ports_by devices_in
less-taken m v r b c s t a d k looks enable reset below =
    let same : charged (m zero [] || c.connection_changed) (1 + devices_in d)
    ≡ charged (m zero [] || c.connection_changed) (1 + devices_in a) =
    ap (λ n. charged (m zero [] || c.connection_changed) (1 + n)) below.whole in
    record {
      whole = omega (arith, below.whole);
      looks = omega (arith, same, looks (1 + devices_in a), below.looks);
      strays = omega (arith, enable, reset, below.strays);
      devices = λ x. omega (arith, below.devices (below_first x));
      ports = λ x. omega (arith, below.ports (below_first x));
    }

less-after : (m v r : PortMark) (q : Place) (k l : Ports)
    → Less (after_first m) (after_first v) (after_first r) k l
    → Less m v r (before q k) (before q l)
unfolding looks_by strays_by devices_by ports_by devices_in
less-after m v r (empty b) k l h = record {
  whole = h.whole;
  looks = h.looks;
  strays = omega (arith, h.strays);
  devices = λ d. h.devices (after_first d);
  ports = λ d. omega (arith, h.ports (after_first d));
}
less-after m v r (full b s a) k l h = record {
  whole = omega (arith, h.whole);
  looks = omega (arith, h.looks);
  strays = omega (arith, h.strays);
  devices = λ d. omega (arith, h.devices (after_first d));
  ports = λ d. omega (arith, h.ports (after_first d));
}

less-empty : (m v r : PortMark) (c : PortCall) (b : PortState) (k : Ports)
    → (r zero [] || not (is_reset c)) ≡ true → Less m v r (vacant b k) (vacant (called_port c b) k)
unfolding looks_by strays_by devices_by ports_by devices_in
less-empty m v r c b k reset = record {
  whole = refl;
  looks = omega arith;
  strays = omega (
    arith,
    seen-called (v zero []) c b,
    enable-called c b,
    reset-called (r zero []) c reset b,
  );
  devices = λ d. refl;
  ports = λ d. refl;
}

-- All ports go off

less-off : (m v r : PortMark) (k : Ports) → Less m v r k (all_off k)
unfolding all_off
less-off m v r ended = less-same m v r ended
less-off m v r (vacant b k) = less-then (less-empty m v r ClearPower b k (or-true (r zero [])))
    (less-after m v r (empty (called_port ClearPower b)) k (all_off k)
    (less-off (after_first m) (after_first v) (after_first r) k))
less-off m v r (taken b s a k) =
    less-then
    (less-taken m v r b (called_port ClearPower b) s s a a k
    (connection-called (m zero []) ClearPower (or-true (m zero [])) b) (enable-called ClearPower b)
    (reset-called (r zero []) ClearPower (or-true (r zero [])) b)
    (less-same (below_first m) (below_first v) (below_first r) a))
    (less-after m v r (full (called_port ClearPower b) s a) k (all_off k)
    (less-off (after_first m) (after_first v) (after_first r) k))

-- it gives power to a marked port alone, and resets one alone
pub less-called : (m v r : PortMark) (c : PortCall) (k : Ports) (i : ℕ)
    → (m i [] || not (gives_power c)) ≡ true → (r i [] || not (is_reset c)) ≡ true
    → Less m v r k (changed_at (called c) k i [])
unfolding changed_at
less-called m v r c ended i power reset = less-same m v r ended
less-called m v r c (vacant b k) zero power reset = less-empty m v r c b k reset
less-called m v r c (vacant b k) (suc i) power reset =
    less-after m v r (empty b) k _ (less-called (after_first m) (after_first v) (after_first r) c k
    i power reset)
less-called m v r c (taken b s a k) zero power reset =
    split (is_reset c && (b.power && is_attached b.attached))
  where
    own : (t : State) (d : Ports) → Less (below_first m) (below_first v) (below_first r) a d
        → Less m v r (taken b s a k) (taken (called_port c b) t d k)
    own t d below = less-taken m v r b (called_port c b) s t a d k
        (connection-called (m zero []) c power b) (enable-called c b)
        (reset-called (r zero []) c reset b) below

    split : (x : Bool) → Less m v r (taken b s a k) (before (reset_where x (called_port c b) s a) k)
    split true = own _ (all_off a) (less-off (below_first m) (below_first v) (below_first r) a)
    split false = own s a (less-same (below_first m) (below_first v) (below_first r) a)
less-called m v r c (taken b s a k) (suc i) power reset =
    less-after m v r (full b s a) k _ (less-called (after_first m) (after_first v) (after_first r) c
    k i power reset)

-- what a device asks of its ports
pub less-acted : (m v r : PortMark) (e : Effect) (a : Ports) → allowed (λ i. m i []) (λ i. r i []) e
    ≡ true → Less m v r a (acted e a)
less-acted m v r Leaves a h = less-same m v r a
less-acted m v r (Calls c i) a h =
    let x : _ = both (m i [] || not (gives_power c)) (r i [] || not (is_reset c)) h in
    less-called m v r c a i x.0 x.1
less-acted m v r PortsOff a h = less-off m v r a
