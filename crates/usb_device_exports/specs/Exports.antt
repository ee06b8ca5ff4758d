-- What each call does to the devices of a handle, `None` if the handle is closed, and which number
-- it returns (`enum usb_devices_status`).
use Rattle.std.specs.Prelude.{◌≡◌, ℕ, List, Option, Some, None, Result, Ok, Err, option_map}
use Rattle.usb_world.specs.{Failed, Limit, Memory}
use Rattle.usb_far.specs.{FarFault}
use Rattle.usb_far.specs.declared.fault.FarFault.TheVariants as far
use Rattle.usb_device_exports.specs.Linked.{DevicesState, Fetches, IsUnopened, devices_state}
use Rattle.usb_device_exports.specs.Linked as linked
use Rattle.usb_device_exports.specs.declared.fault.OpenFault.{OpenFault}
use Rattle.usb_device_exports.specs.declared.fault.OpenFault.TheVariants as unopened
use Rattle.usb_device_exports.specs.declared.handle.Handle.{Handle}

-- the devices of a handle, as its callers see them
abbrev pub held_by : Handle → Option DevicesState
held_by handle = option_map devices_state handle.slot.held

-- ---- numbers

abbrev pub open_number : OpenFault → ℕ
open_number unopened.Memory = 1
open_number unopened.NoText = 4
open_number (unopened.Plan fault) = 5

abbrev pub far_number : FarFault → ℕ
far_number far.Write = 1
far_number (far.Bus Memory) = 1
far_number (far.Bus Limit) = 6
far_number far.LineTooLong = 7
far_number far.BadCharacter = 8
far_number far.NoQuestion = 9
far_number far.BadNumber = 10
far_number far.HostGone = 11
far_number far.LongSend = 12
far_number far.Read = 13
far_number (far.Bus Failed) = 13

abbrev pub ask_number : Result (Unit {0}) FarFault → ℕ
ask_number (Ok done) = 0
ask_number (Err fault) = far_number fault

-- ---- the exports

-- the number of why a handle stays closed
pub record StaysClosed (text : List ℕ) (number : ℕ) : Type 0 where
  pub fault : OpenFault
  pub cause : IsUnopened text fault
  pub returned : number ≡ open_number fault

abbrev pub Opens : Option DevicesState → List ℕ → ℕ → Option DevicesState → Type 0
Opens (Some old) text number new = (number ≡ 2) × (new ≡ Some old)
Opens None text number (Some new) = (number ≡ 0) × linked.Opens text new
Opens None text number None = StaysClosed text number

-- a call of an open handle, which stays open
pub record Asked (old : DevicesState) (lines : List ℕ) (number : ℕ) (new : DevicesState)
    : Type 0 where
  pub result : Result (Unit {0}) FarFault
  pub asks : linked.Asks old lines result new
  pub returned : number ≡ ask_number result

abbrev pub Asks : Option DevicesState → List ℕ → ℕ → Option DevicesState → Type 0
Asks None lines number new = (number ≡ 3) × (new ≡ None)
Asks (Some old) lines number (Some new) = Asked old lines number new
Asks (Some old) lines number None = ⊥

abbrev pub Says : Option DevicesState → List ℕ → ℕ → Option DevicesState → List ℕ → Type 0
Says None room count new now = (count ≡ 0) × (new ≡ None) × (now ≡ room)
Says (Some old) room count (Some new) now = Fetches old room count new now
Says (Some old) room count None now = ⊥

abbrev pub Closes : Option DevicesState → ℕ → Option DevicesState → Type 0
Closes None number new = (number ≡ 3) × (new ≡ None)
Closes (Some old) number new = (number ≡ 0) × (new ≡ None)
