use Rattle.usb_world.proofs.holders.Devices.{each_in, each_out, each_setup}
use Rattle.usb_exchange.proofs.laws.what_an_attempt_does_to_a_device.Goals as goal

pub returns : goal.returns
returns c = record { into = each_in; out = each_out; setup = each_setup }
