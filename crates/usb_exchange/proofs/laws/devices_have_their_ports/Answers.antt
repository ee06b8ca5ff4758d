use Rattle.usb_world.proofs.ports.SanePorts.{ports_counted, ports_stand}
use Rattle.usb_world.proofs.courses.Courses.{between_course, between_opening}
use Rattle.usb_exchange.proofs.laws.devices_have_their_ports.Goals as goal

pub returns : goal.returns
returns c = record {
  opening = λ plan is. between_opening plan is.devices.ruled;
  kept = λ w v course. between_course course;
  count = λ w between x b s below. ports_counted w.roots x.row x.rest b s below between.sane;
  stands = λ w between x t m. ports_stand w.roots x.row x.rest t m between.sane;
}
