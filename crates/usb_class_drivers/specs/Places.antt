-- The device that a driver was given.
use Rattle.std.specs.Prelude.{Bool, false, List, Option, None, Some, ◌==◌, ℕ}
use Rattle.usb_host.specs.{HostState, KnownDevice, device_in, known_in}
use Rattle.usb_class_drivers.specs.declared.place.Place.{Place}

abbrev pub has_that_number : ℕ → Option KnownDevice → Bool
has_that_number number None = false
has_that_number number (Some device) = device.number == number

-- the host lists the device with that number at that path
abbrev pub is_there : Place → HostState → Bool
is_there place host = has_that_number place.number (device_in place.path (known_in host))

-- the device that the host lists at a path
abbrev pub place_at : List ℕ → Option KnownDevice → Option Place
place_at path None = None
place_at path (Some device) = Some (record { path = path; number = device.number })
