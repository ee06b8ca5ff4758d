use Rattle.usb_world.proofs.addresses.AddressesKept.{course_keeps}
use Rattle.usb_exchange.proofs.laws.control_courses_keep_addresses.Goals as goal

pub returns : goal.returns
returns c = λ f inj w v course settled own h. course_keeps f inj course settled own h
