-- A packet that was refused memory on its way down a tree of devices: who had it, and who had not.
use Rattle.std.specs.Prelude.{◌≡◌, Bool, true}
use Rattle.usb_packet.specs.{Packet}
use Rattle.usb_port.specs.{PortState}
use Rattle.usb_device.specs.declared.delivery.Content.{Content}
use Rattle.usb_device.specs.declared.delivery.Content.TheVariants.{Whole}
use Rattle.usb_device.specs.declared.delivery.Sent.{Sent}
use Rattle.usb_device.specs.Rows.{State, sink_grows}
use Rattle.usb_device.specs.Tree.{Ports, vacant, taken, Plugged, Place, full, before}
use Rattle.usb_device.specs.Delivery.{hears, after_packet, delivered_place}

-- the ports before and after: those in front had the packet, those behind had not
pub data Stopped (q : Sent) : Bool → Ports → Ports → Type 0 where
  -- further along the row
  behind_empty : {deep : Bool} {k m : Ports} (b : PortState) → Stopped q deep k m
      → Stopped q deep (vacant b k) (vacant b m)
  behind : {deep : Bool} {k m : Ports} (b : PortState) (s : State) (a : Ports) → Stopped q deep k m
      → Stopped q deep (taken b s a k) (before (delivered_place q deep (full b s a)).1 m)
  -- below a device, which then did not have it
  below : {deep : Bool} {a c : Ports} (b : PortState) (s : State) (k : Ports) → b.enable ≡ true
      → Stopped q true a c → Stopped q deep (taken b s a k) (taken b s c k)
  -- at a device whose sink was to grow, when those below it had it
  here : {deep : Bool} (b : PortState) (s : State) (a k : Ports) (p : Packet) → b.enable ≡ true
      → q.content ≡ Whole p → hears q deep s ≡ true → sink_grows s p ≡ true
      → Stopped q deep (taken b s a k) (taken b s (after_packet q true a) k)

-- the same of a device with all below it: one below it was refused memory, or it was itself when
-- those below had the packet
pub data StoppedDevice (q : Sent) (deep : Bool) (old new : Plugged) : Type 0 where
  lower : new.own ≡ old.own → Stopped q true old.ports new.ports → StoppedDevice q deep old new
  itself : (p : Packet) → q.content ≡ Whole p → hears q deep old.own ≡ true
      → sink_grows old.own p ≡ true
      → new ≡ record old { ports = after_packet q true old.ports } → StoppedDevice q deep old new

-- the same of an enabled port with the device on it
pub record StoppedPlace (q : Sent) (deep : Bool) (old new : Place) : Type 0 where
  pub port : PortState
  pub device : Plugged
  pub left : Plugged
  pub was : old ≡ full port device.own device.ports
  pub is : new ≡ full port left.own left.ports
  pub enabled : port.enable ≡ true
  pub stopped : StoppedDevice q deep device left

-- a packet that a device hears, and at which its sink was to grow
pub record IsRefused (q : Sent) (deep : Bool) (s : State) : Type 0 where
  pub packet : Packet
  pub content : q.content ≡ Whole packet
  pub heard : hears q deep s ≡ true
  pub grows : sink_grows s packet ≡ true

-- the same of a packet's content alone
pub record IsRefusedContent (c : Content) (s : State) : Type 0 where
  pub packet : Packet
  pub content : c ≡ Whole packet
  pub grows : sink_grows s packet ≡ true
