-- A packet that was refused memory at a row of ports that begins with a place.
use Rattle.std.proofs.Common.{◌≡◌, Bool, true, Result, Ok, Err, OnErr, refl, ap, sym, subst, ◌∙◌}
use Rattle.usb_port.specs.{PortState}
use Rattle.usb_device.specs.{Sent, State, Ports, taken, Plugged, empty, full, before, after_packet}
use Rattle.usb_device.specs.{delivered_place, Stopped, behind_empty, behind, below, here}
use Rattle.usb_device.specs.{StoppedDevice, lower, itself, StoppedPlace, IsRefused, Place}

pub stopped_on_err : {T E P : Type 0} (r : Result T E) → P → OnErr r P
stopped_on_err (Ok x) p = tt
stopped_on_err (Err e) p = p

-- the device at the head of the row
stopped_taken : (q : Sent) (deep : Bool) (b : PortState) (t u : Plugged) (k : Ports)
    → b.enable ≡ true → StoppedDevice q deep t u
    → Stopped q deep (taken b t.own t.ports k) (taken b u.own u.ports k)
stopped_taken q deep b t u k on (lower same x) =
    let P : State → Type 0 = λ s. Stopped q deep (taken b t.own t.ports k) (taken b s u.ports k) in
    subst P (sym same) (below b t.own k on x)
stopped_taken q deep b t u k on (itself p content heard grows is) =
    let P : Plugged → Type 0 = λ x. Stopped q deep (taken b t.own t.ports k)
    (taken b x.own x.ports k) in
    subst P (sym is) (here b t.own t.ports k p on content heard grows)

pub stopped_first : (q : Sent) (deep : Bool) (x y : Place) (k : Ports) → StoppedPlace q deep x y
    → Stopped q deep (before x k) (before y k)
stopped_first q deep x y k h =
    let P : Place → Type 0 = λ z. Stopped q deep (before z k) (before y k) in
    let Q : Place → Type 0 = λ z. Stopped q deep (before (full h.port h.device.own h.device.ports)
    k) (before z k) in
    subst P (sym h.was) (subst Q (sym h.is) (stopped_taken q deep h.port h.device h.left k h.enabled
    h.stopped))

-- a device further along the row
behind_place : (q : Sent) (deep : Bool) (x : Place) (k m : Ports) → Stopped q deep k m
    → Stopped q deep (before x k) (before (delivered_place q deep x).1 m)
behind_place q deep (empty b) k m h = behind_empty b h
behind_place q deep (full b s a) k m h = behind b s a h

stopped_behind : (q : Sent) (deep : Bool) (x y : Place) (k m : Ports)
    → y ≡ (delivered_place q deep x).1 → Stopped q deep k m
    → Stopped q deep (before x k) (before y m)
stopped_behind q deep x y k m is h =
    let P : Place → Type 0 = λ z. Stopped q deep (before x k) (before z m) in
    subst P (sym is) (behind_place q deep x k m h)

pub stopped_further : {T E : Type 0} (r : Result T E) (q : Sent) (deep : Bool) (x y : Place)
    (k m : Ports) → y ≡ (delivered_place q deep x).1 → OnErr r (Stopped q deep k m)
    → OnErr r (Stopped q deep (before x k) (before y m))
stopped_further (Ok v) q deep x y k m is h = tt
stopped_further (Err e) q deep x y k m is h = stopped_behind q deep x y k m is h

-- the device itself, when those below it had the packet
stopped_itself : (q : Sent) (deep : Bool) (t u : Plugged) (m : Ports)
    → m ≡ after_packet q true t.ports → u ≡ record t { ports = m } → IsRefused q deep t.own
    → StoppedDevice q deep t u
stopped_itself q deep t u m had is h = itself h.packet h.content h.heard h.grows (is
    ∙ ap (λ x. record t { ports = x }) had)

pub stopped_at : {T E : Type 0} (r : Result T E) (q : Sent) (deep : Bool) (t u : Plugged)
    (m : Ports) → m ≡ after_packet q true t.ports → OnErr r (u ≡ record t { ports = m })
    → OnErr r (IsRefused q deep t.own) → OnErr r (StoppedDevice q deep t u)
stopped_at (Ok v) q deep t u m had is h = tt
stopped_at (Err e) q deep t u m had is h = stopped_itself q deep t u m had is h

-- the device on a port
pub stopped_place : {T E : Type 0} (r : Result T E) (q : Sent) (deep : Bool) (b : PortState)
    (t u : Plugged) (x : Place) → x ≡ full b t.own t.ports → b.enable ≡ true
    → OnErr r (StoppedDevice q deep t u) → OnErr r (StoppedPlace q deep x (full b u.own u.ports))
stopped_place (Ok v) q deep b t u x was on h = tt
stopped_place (Err e) q deep b t u x was on h = record {
  port = b;
  device = t;
  left = u;
  was = was;
  is = refl;
  enabled = on;
  stopped = h;
}
