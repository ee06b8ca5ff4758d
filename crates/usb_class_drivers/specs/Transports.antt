-- What a command by Bulk-Only Transport comes to, in the host's own calls (its sections 5 and 6.7).
use Rattle.std.specs.Prelude.{◌≡◌, ℕ, ◌+◌, ◌%◌, ◌^◌, List, [], length, Bool, true, false, ◌==◌}
use Rattle.std.specs.Prelude.{◌&&◌, nat_lt, if◌then◌else◌, Option, Some, None, Result, Ok, Err}
use Rattle.std.specs.Int.{div_ceil}
use Rattle.std.specs.Global.{Vec}
use Rattle.usb_request.specs.{Setup}
use Rattle.usb_table.specs.declared.fault.TransferFault.TheVariants.{Stalled}
use Rattle.usb_host.specs.{HostFault, HostState, KnownDevice}
use Rattle.usb_host.specs.declared.fault.HostFault.TheVariants.{Transfer}
use Rattle.usb_class_drivers.specs.declared.transport.TheConstants.{DISK}
use Rattle.usb_class_drivers.specs.declared.command.Command.{Command}
use Rattle.usb_class_drivers.specs.declared.fault.DriverFault.{DriverFault}
use Rattle.usb_class_drivers.specs.declared.fault.DriverFault.TheVariants.{Alien, Gone, Host}
use Rattle.usb_class_drivers.specs.declared.fault.DriverFault.TheVariants.{OutOfStep, Short}
use Rattle.usb_class_drivers.specs.declared.found.End.{End}
use Rattle.usb_class_drivers.specs.declared.found.Interface.{Interface}
use Rattle.usb_class_drivers.specs.declared.place.Place.{Place}
use Rattle.usb_class_drivers.specs.declared.transport.Transport.{Transport}
use Rattle.usb_class_drivers.specs.Calls.{Clears, Receives, Sends, Writes}
use Rattle.usb_class_drivers.specs.Commands.{wrapper}
use Rattle.usb_class_drivers.specs.Faults.{driver_told, is_stalled}
use Rattle.usb_class_drivers.specs.Interfaces.{interface_at}
use Rattle.usb_class_drivers.specs.Places.{place_at}
use Rattle.usb_class_drivers.specs.Requests.{class_request}
use Rattle.usb_class_drivers.specs.Statuses.{StatusTold}

-- Steps

-- a command goes out in its wrapper, once
abbrev pub SendsCommand : Bool → Transport → Command → ℕ → HostState
    → Result (Unit {0}) HostFault → HostState → Type 0
SendsCommand modelled disk command length =
    Sends modelled disk.place.path disk.out.address (wrapper disk.tag length command)

-- the next command has a tag of its own
abbrev pub with_next_tag : Transport → Transport
with_next_tag disk = record disk { tag = (disk.tag + 1) % 2 ^ 32 }

-- how many packets bring so many bytes, as far as one call asks for them
abbrev pub packets_of : ℕ → ℕ → ℕ
packets_of most bytes =
    if nat_lt (div_ceil bytes most) 65536 then div_ceil bytes most else 65535

abbrev pub came : Result (Vec ℕ) HostFault → Result (Option (Vec ℕ)) HostFault
came (Ok bytes) = Ok (Some bytes)
came (Err fault) = Err fault

abbrev pub came_none : Result (Unit {0}) HostFault → Result (Option (Vec ℕ)) HostFault
came_none (Ok done) = Ok None
came_none (Err fault) = Err fault

-- its data were asked for once, and a halt was cleared (6.7.2)
pub data Collects (modelled : Bool) (disk : Transport) (bytes : ℕ) (old : HostState)
    (result : Result (Option (Vec ℕ)) HostFault) (new : HostState) : Type 0 where
  was_received : (received : Result (Vec ℕ) HostFault)
      → Receives modelled disk.place.path disk.into.address (packets_of disk.into.most bytes) old
      received new
      → is_stalled received ≡ false → result ≡ came received
      → Collects modelled disk bytes old result new
  was_halted : (mid : HostState) (cleared : Result (Unit {0}) HostFault)
      → Receives modelled disk.place.path disk.into.address (packets_of disk.into.most bytes) old
      (Err (Transfer Stalled)) mid
      → Clears modelled disk.place.path disk.into.address mid cleared new
      → result ≡ came_none cleared → Collects modelled disk bytes old result new

abbrev pub went : Bool → Result (Unit {0}) HostFault → Result Bool HostFault
went whole (Ok done) = Ok whole
went whole (Err fault) = Err fault

-- its data were sent once, and a halt was cleared (6.7.3); whether all of them went out
pub data Gives (modelled : Bool) (disk : Transport) (bytes : List ℕ) (old : HostState)
    (result : Result Bool HostFault) (new : HostState) : Type 0 where
  was_sent : (sent : Result (Unit {0}) HostFault)
      → Sends modelled disk.place.path disk.out.address bytes old sent new
      → is_stalled sent ≡ false → result ≡ went true sent → Gives modelled disk bytes old result new
  was_refused : (mid : HostState) (cleared : Result (Unit {0}) HostFault)
      → Sends modelled disk.place.path disk.out.address bytes old (Err (Transfer Stalled)) mid
      → Clears modelled disk.place.path disk.out.address mid cleared new
      → result ≡ went false cleared → Gives modelled disk bytes old result new

-- its status was asked for, and once more where the endpoint halted, which was cleared (6.7)
pub data Concludes (modelled : Bool) (disk : Transport) (old : HostState)
    (result : Result (Vec ℕ) HostFault) (new : HostState) : Type 0 where
  at_once : Receives modelled disk.place.path disk.into.address 1 old result new
      → is_stalled result ≡ false → Concludes modelled disk old result new
  once_more : (mid cleared : HostState)
      → Receives modelled disk.place.path disk.into.address 1 old (Err (Transfer Stalled)) mid
      → Clears modelled disk.place.path disk.into.address mid (Ok tt) cleared
      → Receives modelled disk.place.path disk.into.address 1 cleared result new
      → Concludes modelled disk old result new
  not_cleared : (mid : HostState) (fault : HostFault)
      → Receives modelled disk.place.path disk.into.address 1 old (Err (Transfer Stalled)) mid
      → Clears modelled disk.place.path disk.into.address mid (Err fault) new
      → result ≡ Err fault → Concludes modelled disk old result new

-- Commands

-- all the bytes that were asked for came, and none of them fills a gap up (6.7.2)
abbrev pub taken_if : ℕ → Option (Vec ℕ) → ℕ → Result (Vec ℕ) DriverFault
taken_if asked None residue = Err Short
taken_if asked (Some bytes) residue =
    if nat_lt asked (length bytes.items) then Err OutOfStep
    else if length bytes.items == asked && residue == 0 then Ok bytes
    else Err Short

abbrev pub taken : ℕ → Option (Vec ℕ) → Result ℕ DriverFault → Result (Vec ℕ) DriverFault
taken asked data_came (Ok residue) = taken_if asked data_came residue
taken asked data_came (Err fault) = Err fault

-- all the bytes went out, and the disk took them
abbrev pub put : Bool → Result ℕ DriverFault → Result (Unit {0}) DriverFault
put whole (Ok residue) = if whole && residue == 0 then Ok tt else Err Short
put whole (Err fault) = Err fault

-- a command whose data come from the disk: it went out once, then its data were asked for once, and
-- then its status. A fault is that of the step that failed
pub data Takes (modelled : Bool) (disk : Transport) (command : Command) (asked : ℕ)
    (old : HostState) (result : Result (Vec ℕ) DriverFault) (new : HostState) : Type 0 where
  take_not_sent : (fault : HostFault)
      → SendsCommand modelled disk command asked old (Err fault) new
      → result ≡ Err (Host fault) → Takes modelled disk command asked old result new
  take_not_collected : (sent : HostState) (fault : HostFault)
      → SendsCommand modelled disk command asked old (Ok tt) sent
      → Collects modelled disk asked sent (Err fault) new
      → result ≡ Err (Host fault) → Takes modelled disk command asked old result new
  take_not_concluded : (sent collected : HostState) (data_came : Option (Vec ℕ)) (fault : HostFault)
      → SendsCommand modelled disk command asked old (Ok tt) sent
      → Collects modelled disk asked sent (Ok data_came) collected
      → Concludes modelled disk collected (Err fault) new
      → result ≡ Err (Host fault) → Takes modelled disk command asked old result new
  was_taken : (sent collected : HostState) (data_came : Option (Vec ℕ)) (status : Vec ℕ)
      (told : Result ℕ DriverFault)
      → SendsCommand modelled disk command asked old (Ok tt) sent
      → Collects modelled disk asked sent (Ok data_came) collected
      → Concludes modelled disk collected (Ok status) new
      → StatusTold disk.tag asked status.items told
      → result ≡ taken asked data_came told → Takes modelled disk command asked old result new

-- one whose data go to the disk
pub data Puts (modelled : Bool) (disk : Transport) (command : Command) (bytes : List ℕ)
    (old : HostState) (result : Result (Unit {0}) DriverFault) (new : HostState) : Type 0 where
  put_not_sent : (fault : HostFault)
      → SendsCommand modelled disk command (length bytes) old (Err fault) new
      → result ≡ Err (Host fault) → Puts modelled disk command bytes old result new
  put_not_given : (sent : HostState) (fault : HostFault)
      → SendsCommand modelled disk command (length bytes) old (Ok tt) sent
      → Gives modelled disk bytes sent (Err fault) new
      → result ≡ Err (Host fault) → Puts modelled disk command bytes old result new
  put_not_concluded : (sent given : HostState) (whole : Bool) (fault : HostFault)
      → SendsCommand modelled disk command (length bytes) old (Ok tt) sent
      → Gives modelled disk bytes sent (Ok whole) given
      → Concludes modelled disk given (Err fault) new
      → result ≡ Err (Host fault) → Puts modelled disk command bytes old result new
  was_put : (sent given : HostState) (whole : Bool) (status : Vec ℕ) (told : Result ℕ DriverFault)
      → SendsCommand modelled disk command (length bytes) old (Ok tt) sent
      → Gives modelled disk bytes sent (Ok whole) given
      → Concludes modelled disk given (Ok status) new
      → StatusTold disk.tag (length bytes) status.items told
      → result ≡ put whole told → Puts modelled disk command bytes old result new

-- Both begin again (5.3.4)

-- Bulk-Only Mass Storage Reset (3.1)
abbrev pub reset_request : ℕ → Setup
reset_request interface = class_request interface 0xFF 0 0

-- a reset, then the halt of the IN endpoint is cleared, and then that of the OUT endpoint; the
-- first fault ends it
pub data Recovers (modelled : Bool) (disk : Transport) (old : HostState)
    (result : Result (Unit {0}) DriverFault) (new : HostState) : Type 0 where
  not_reset : (fault : HostFault)
      → Writes modelled disk.place.path (reset_request disk.interface) [] old (Err fault) new
      → result ≡ Err (Host fault) → Recovers modelled disk old result new
  in_not_cleared : (reset : HostState) (fault : HostFault)
      → Writes modelled disk.place.path (reset_request disk.interface) [] old (Ok tt) reset
      → Clears modelled disk.place.path disk.into.address reset (Err fault) new
      → result ≡ Err (Host fault) → Recovers modelled disk old result new
  both_cleared : (reset mid : HostState) (cleared : Result (Unit {0}) HostFault)
      → Writes modelled disk.place.path (reset_request disk.interface) [] old (Ok tt) reset
      → Clears modelled disk.place.path disk.into.address reset (Ok tt) mid
      → Clears modelled disk.place.path disk.out.address mid cleared new
      → result ≡ driver_told cleared → Recovers modelled disk old result new

-- Whom the driver takes

abbrev pub transport_with : Place → ℕ → Option End → Option End → Result Transport DriverFault
transport_with place interface (Some out) (Some into) =
    Ok (record { place = place; interface = interface; out = out; into = into; tag = 1 })
transport_with place interface _ _ = Err Alien

abbrev pub transport_of : Option Place → Option Interface → Result Transport DriverFault
transport_of None found = Err Gone
transport_of (Some place) None = Err Alien
transport_of (Some place) (Some found) = transport_with place found.number found.out found.into

-- the disk at a path, or why it is none
abbrev pub transport_at : List ℕ → Option KnownDevice → Result Transport DriverFault
transport_at path device = transport_of (place_at path device) (interface_at DISK device)
