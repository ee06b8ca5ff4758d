-- A driver as its callers see it.
use Rattle.std.specs.Prelude.{box_value, option_map}
use Rattle.usb_dialogue.specs.Drivers.{DriverState}
use Rattle.usb_dialogue.specs.declared.driver.Driver.{Driver}

abbrev pub driver_state : Driver → DriverState
driver_state d = record {
  roots = d.roots;
  options = d.options;
  host = option_map box_value d.host;
  want = d.want;
  statuses = d.statuses;
  heard = d.heard.items;
  asked = d.asked;
  told = d.told.items;
}
