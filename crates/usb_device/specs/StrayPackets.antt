-- Packets that are for none of the devices that they reach.
use Rattle.std.specs.Prelude.{◌==◌, ◌&&◌, ◌||◌, Bool, true, false}
use Rattle.usb_packet.specs.{Packet, Token, Payload, Ack}
use Rattle.usb_device.specs.declared.transfer.RememberedPacket.{RememberedPacket}
use Rattle.usb_device.specs.declared.transfer.RememberedPacket.TheVariants.{Nothing, SetupSeen}
use Rattle.usb_device.specs.declared.transfer.RememberedPacket.TheVariants.{OutSeen, AckAwaited}
use Rattle.usb_device.specs.declared.delivery.Content.{Content}
use Rattle.usb_device.specs.declared.delivery.Content.TheVariants.{Whole, Broken}
use Rattle.usb_device.specs.Rows.{State}
use Rattle.usb_device.specs.Tree.{Ports, ended, vacant, taken}

abbrev pub awaits_data : RememberedPacket → Bool
awaits_data Nothing = false
awaits_data SetupSeen = true
awaits_data (OutSeen e) = true
awaits_data (AckAwaited endpoint) = false

abbrev pub awaits_ack : RememberedPacket → Bool
awaits_ack (AckAwaited endpoint) = true
awaits_ack m = false

-- a packet is for a device with such a memory: a token with its address, data behind such a token,
-- the ACK of what it gave
abbrev pub is_for : State → RememberedPacket → Packet → Bool
is_for d m (Token kind a e) = a == d.registers.address
is_for d m (Payload t bytes) = awaits_data m
is_for d m Ack = awaits_ack m
is_for d m p = false

abbrev pub is_token : Packet → Bool
is_token (Token kind a e) = true
is_token p = false

-- what goes out is for a device
abbrev pub concerns : Content → State → Bool
concerns (Whole p) s = is_for s s.memory p
concerns Broken s = false

-- it is for one that it reaches through enabled ports
unfoldable pub concerns_some : Content → Ports → Bool
concerns_some c ended = false
concerns_some c (vacant b k) = concerns_some c k
concerns_some c (taken b s a k) = (b.enable && (concerns c s || concerns_some c a)) ||
    concerns_some c k
