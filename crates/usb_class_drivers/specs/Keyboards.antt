-- What the calls of a boot keyboard's driver come to, in the host's own calls (HID, 7.2).
use Rattle.std.specs.Prelude.{◌≡◌, ℕ, List, [], Bool, false, Option, Some, None, Result}
use Rattle.std.specs.Prelude.{Ok, Err, if◌then◌else◌}
use Rattle.arrayvec.specs.ArrayVec.{ArrayVec}
use Rattle.usb_request.specs.{Setup}
use Rattle.usb_table.specs.declared.fault.TransferFault.TheVariants.{NoAnswer, Stalled}
use Rattle.usb_host.specs.{HostFault, HostState, KnownDevice}
use Rattle.usb_host.specs.declared.fault.HostFault.TheVariants.{Transfer}
use Rattle.usb_class_drivers.specs.declared.keyboard.TheConstants.{KEYBOARD}
use Rattle.usb_class_drivers.specs.declared.fault.DriverFault.{DriverFault}
use Rattle.usb_class_drivers.specs.declared.fault.DriverFault.TheVariants.{Alien, Gone, Host, Short}
use Rattle.usb_class_drivers.specs.declared.found.End.{End}
use Rattle.usb_class_drivers.specs.declared.found.Interface.{Interface}
use Rattle.usb_class_drivers.specs.declared.keyboard.Keyboard.{Keyboard}
use Rattle.usb_class_drivers.specs.declared.place.Place.{Place}
use Rattle.usb_class_drivers.specs.declared.report.Report.{Report}
use Rattle.usb_class_drivers.specs.Calls.{Clears, Polls, Writes}
use Rattle.usb_class_drivers.specs.Faults.{driver_told, is_stalled}
use Rattle.usb_class_drivers.specs.Interfaces.{interface_at}
use Rattle.usb_class_drivers.specs.Places.{place_at}
use Rattle.usb_class_drivers.specs.Reports.{is_known, report_of}
use Rattle.usb_class_drivers.specs.Requests.{class_request}

-- Requests

-- the boot protocol
abbrev pub set_protocol : ℕ → Setup
set_protocol interface = class_request interface 0x0B 0 0

-- reports are of changes alone
abbrev pub set_idle : ℕ → Setup
set_idle interface = class_request interface 0x0A 0 0

-- an output report of one byte
abbrev pub set_report : ℕ → Setup
set_report interface = class_request interface 0x09 0x0200 1

-- one request to the keyboard was made, with these bytes, and so it ended
pub record AsksOnce (modelled : Bool) (keyboard : Keyboard) (request : Setup) (bytes : List ℕ)
    (old : HostState) (result : Result (Unit {0}) DriverFault) (new : HostState) : Type 0 where
  pub written : Result (Unit {0}) HostFault
  pub writes : Writes modelled keyboard.place.path request bytes old written new
  pub told : result ≡ driver_told written

-- Reports

-- which keys a report says are down, if it says so
abbrev pub keys_told : Option Report → Result (Option Report) DriverFault
keys_told None = Err Short
keys_told (Some report) = Ok (if is_known report then Some report else None)

-- what a poll gave; a report that was lost on the way comes with the next one
abbrev pub poll_told : Result (Option (ArrayVec ℕ)) HostFault → Result (Option Report) DriverFault
poll_told (Ok None) = Ok None
poll_told (Ok (Some packet)) = keys_told (report_of packet.items)
poll_told (Err (Transfer NoAnswer)) = Ok None
poll_told (Err fault) = Err (Host fault)

-- what a clear gave
abbrev pub clear_told : Result (Unit {0}) HostFault → Result (Option Report) DriverFault
clear_told (Ok done) = Ok None
clear_told (Err fault) = Err (Host fault)

-- a report: the keyboard was polled once, and if it answered STALL its halt was cleared once
pub data AsksReport (modelled : Bool) (keyboard : Keyboard) (old : HostState)
    (result : Result (Option Report) DriverFault) (new : HostState) : Type 0 where
  was_polled : (polled : Result (Option (ArrayVec ℕ)) HostFault)
      → Polls modelled keyboard.place.path keyboard.reports old polled new
      → is_stalled polled ≡ false → result ≡ poll_told polled
      → AsksReport modelled keyboard old result new
  was_cleared : (mid : HostState) (cleared : Result (Unit {0}) HostFault)
      → Polls modelled keyboard.place.path keyboard.reports old (Err (Transfer Stalled)) mid
      → Clears modelled keyboard.place.path keyboard.reports mid cleared new
      → result ≡ clear_told cleared → AsksReport modelled keyboard old result new

-- Whom the driver takes

abbrev pub keyboard_with : Place → ℕ → Option End → Result Keyboard DriverFault
keyboard_with place interface None = Err Alien
keyboard_with place interface (Some end) =
    Ok (record { place = place; interface = interface; reports = end.address })

abbrev pub keyboard_of : Option Place → Option Interface → Result Keyboard DriverFault
keyboard_of None found = Err Gone
keyboard_of (Some place) None = Err Alien
keyboard_of (Some place) (Some found) = keyboard_with place found.number found.into

-- the keyboard at a path, or why it is none
abbrev pub keyboard_at : List ℕ → Option KnownDevice → Result Keyboard DriverFault
keyboard_at path device = keyboard_of (place_at path device) (interface_at KEYBOARD device)

-- it is set to the boot protocol and to report changes alone; the latter it may refuse
pub data Begins (modelled : Bool) (keyboard : Keyboard) (old : HostState)
    (result : Result (Unit {0}) DriverFault) (new : HostState) : Type 0 where
  no_protocol : (fault : HostFault)
      → Writes modelled keyboard.place.path (set_protocol keyboard.interface) [] old (Err fault) new
      → result ≡ Err (Host fault) → Begins modelled keyboard old result new
  was_idled : (mid : HostState) (idled : Result (Unit {0}) HostFault)
      → Writes modelled keyboard.place.path (set_protocol keyboard.interface) [] old (Ok tt) mid
      → Writes modelled keyboard.place.path (set_idle keyboard.interface) [] mid idled new
      → result ≡ (if is_stalled idled then Ok tt else driver_told idled)
      → Begins modelled keyboard old result new

abbrev pub given_if : Keyboard → Result (Unit {0}) DriverFault → Result Keyboard DriverFault
given_if keyboard (Ok done) = Ok keyboard
given_if keyboard (Err fault) = Err fault

-- where there is none, nothing is attempted
pub data KeyboardOpens (modelled : Bool) (found : Result Keyboard DriverFault) (old : HostState)
    (result : Result Keyboard DriverFault) (new : HostState) : Type 0 where
  found_none : (fault : DriverFault) → found ≡ Err fault → result ≡ Err fault → new ≡ old
      → KeyboardOpens modelled found old result new
  found_one : (keyboard : Keyboard) (begun : Result (Unit {0}) DriverFault) → found ≡ Ok keyboard
      → Begins modelled keyboard old begun new → result ≡ given_if keyboard begun
      → KeyboardOpens modelled found old result new
