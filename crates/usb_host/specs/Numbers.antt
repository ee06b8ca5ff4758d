-- The numbers of accepted devices, of which a host gives none twice.
use Rattle.std.specs.Prelude.{◌≡◌, ◌⊎◌, ℕ, ◌+◌, ◌<◌, ◌≤◌, List, Option, Some, None, length}
use Rattle.std.specs.Prelude.{slice_index, slice_set}
use Rattle.std.specs.List.{range_with_len}
use Rattle.usb_enum.specs.{Accepted, Finding, HostOptions}
use Rattle.usb_enum.specs.declared.finding.Finding.TheVariants.{Device, Refused}
use Rattle.usb_table.specs.{Entries, accepted_device_at}

-- the number of the device at each address, by address, and the number that the next device gets
pub record DeviceNumbers : Type 0 where
  pub of : List ℕ
  pub next : ℕ

-- from the start each address has a number, which no device gets
unfoldable pub first_numbers : DeviceNumbers
first_numbers = record { of = range_with_len 0 128; next = 128 }

-- each address has a number that is less than the next one, and no two have the same
pub record AreNumbers (numbers : DeviceNumbers) : Type 0 where
  pub long : length numbers.of ≡ 128
  pub given : (a : ℕ) → a < 128 → slice_index numbers.of a < numbers.next
  pub differ : (a b : ℕ) → a < 128 → b < 128
      → slice_index numbers.of a ≡ slice_index numbers.of b → a ≡ b

-- an accepted device that is entered gets the next number
abbrev pub with_number : Finding → DeviceNumbers → DeviceNumbers
with_number (Device device) numbers = record {
  of = slice_set numbers.of device.address numbers.next;
  next = numbers.next + 1;
}
with_number (Refused cause) numbers = numbers

-- a device that is known, with its number
pub record KnownDevice : Type 0 where
  pub accepted : Accepted
  pub number : ℕ

abbrev pub known_device : Option Accepted → DeviceNumbers → Option KnownDevice
known_device None numbers = None
known_device (Some device) numbers =
    Some (record { accepted = device; number = slice_index numbers.of device.address })

-- the accepted devices with their numbers, those that were reported to the caller, and what is
-- taken of devices
pub record Known : Type 0 where
  pub entries : Entries
  pub numbers : DeviceNumbers
  pub reported : List (List ℕ × ℕ)
  pub options : HostOptions

-- the accepted device at a path
abbrev pub device_in : List ℕ → Known → Option KnownDevice
device_in path known = known_device (accepted_device_at path known.entries) known.numbers

-- numbers rise. A device that is listed now was listed before at the same path, with the same
-- description and number, or its number is new. What was reported stays, and what is taken
pub record KeepsKnown (old new : Known) : Type 0 where
  pub rising : old.numbers.next ≤ new.numbers.next
  pub each : (path : List ℕ) (device : KnownDevice) → device_in path new ≡ Some device
      → (device_in path old ≡ Some device) ⊎ (old.numbers.next ≤ device.number)
  pub reported : new.reported ≡ old.reported
  pub options : new.options ≡ old.options

-- no two devices have the same number, and each was given before the next one
pub record NumbersFit (known : Known) : Type 0 where
  pub given : (path : List ℕ) (device : KnownDevice) → device_in path known ≡ Some device
      → device.number < known.numbers.next
  pub differ : (path other : List ℕ) (device alike : KnownDevice)
      → device_in path known ≡ Some device → device_in other known ≡ Some alike
      → device.number ≡ alike.number → path ≡ other
