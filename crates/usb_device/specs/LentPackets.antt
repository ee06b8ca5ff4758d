-- What goes out, where its packet is lent.
use Rattle.std.specs.Prelude.{Bool, Option, None, Some}
use Rattle.usb_packet.specs.{Packet}
use Rattle.usb_device.specs.declared.delivery.Content.{Content}
use Rattle.usb_device.specs.declared.delivery.Content.TheVariants.{Whole, Broken}
use Rattle.usb_device.specs.declared.delivery.Sent.{Sent}

-- what is read of it: a packet or none
abbrev pub content_of : Option Packet → Content
content_of None = Broken
content_of (Some p) = Whole p

abbrev pub whole : Bool → Bool → Packet → Sent
whole low pre p = record { low = low; pre = pre; content = Whole p }

abbrev pub broken : Bool → Bool → Sent
broken low pre = record { low = low; pre = pre; content = Broken }
