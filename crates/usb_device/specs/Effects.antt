-- What a device asks of its own ports when a packet comes (9.4.7, 11.24).
use Rattle.std.specs.Prelude.{ℕ, ◌==◌, if◌then◌else◌, List, length}
use Rattle.usb_packet.specs.{Toggle, Zero, Packet, Payload}
use Rattle.usb_request.specs.{Setup, setup_of}
use Rattle.usb_device.specs.declared.transfer.RememberedPacket.{RememberedPacket}
use Rattle.usb_device.specs.declared.transfer.RememberedPacket.TheVariants.{SetupSeen}
use Rattle.usb_device.specs.declared.effect.Effect.{Effect}
use Rattle.usb_device.specs.declared.effect.Effect.TheVariants.{Leaves, Calls, PortsOff}
use Rattle.usb_device.specs.Request.{Outcome, calls_port, takes_configuration, outcome}
use Rattle.usb_device.specs.Rows.{State}

-- what a request asks of the ports: with a new configuration they are all off
abbrev pub effect_of_request : Outcome → Effect
effect_of_request (calls_port c i) = Calls c i
effect_of_request (takes_configuration c) = PortsOff
effect_of_request o = Leaves

abbrev pub asked_by_setup : State → Setup → Effect
asked_by_setup d r = effect_of_request (outcome d.spec d.registers r)

-- setup data asks where it is accepted
abbrev pub asked_by_data : State → RememberedPacket → Toggle → List ℕ → Effect
asked_by_data d SetupSeen Zero bytes = if length bytes == 8 then asked_by_setup d (setup_of bytes)
    else Leaves
asked_by_data d m t bytes = Leaves

abbrev pub asked_by_packet : State → Packet → Effect
asked_by_packet d (Payload t bytes) = asked_by_data d d.memory t bytes.items
asked_by_packet d p = Leaves

-- what a device asks of its ports at a packet
unfoldable pub asks : State → Packet → Effect
asks d p = if d.spec.silent then Leaves else asked_by_packet d p
