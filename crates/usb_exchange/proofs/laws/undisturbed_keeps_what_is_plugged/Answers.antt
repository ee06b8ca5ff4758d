use Rattle.usb_world.proofs.events.PluggedDevices.{undisturbed_keeps, undisturbed_way}
use Rattle.usb_world.proofs.ways.Ways.{undisturbed_on_way}
use Rattle.usb_exchange.proofs.laws.undisturbed_keeps_what_is_plugged.Goals as goal

pub returns : goal.returns
returns c = record { there = undisturbed_keeps; way = undisturbed_way; above = undisturbed_on_way }
