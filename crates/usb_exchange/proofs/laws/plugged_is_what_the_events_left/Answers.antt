use Rattle.usb_world.proofs.events.PluggedDevices.{events_went, devices_left}
use Rattle.usb_exchange.proofs.laws.plugged_is_what_the_events_left.Goals as goal

pub returns-clause-events : goal.returns-clause-events
returns-clause-events c = events_went

pub returns-clause-devices : goal.returns-clause-devices
returns-clause-devices c = devices_left
