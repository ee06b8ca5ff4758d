-- What the calls of a disk's driver come to.
use Rattle.std.specs.Prelude.{◌≡◌, ◌≢◌, ℕ, ◌+◌, ◌*◌, ◌<◌, ◌≤◌, List, length, Bool, true, false}
use Rattle.std.specs.Prelude.{Result, Ok, Err}
use Rattle.std.specs.Global.{Vec}
use Rattle.usb_host.specs.{HostState}
use Rattle.usb_class_drivers.specs.declared.capacity.Capacity.{Capacity as ACapacity}
use Rattle.usb_class_drivers.specs.declared.command.Command.TheVariants.{Capacity, Write}
use Rattle.usb_class_drivers.specs.declared.disk.Disk.{Disk}
use Rattle.usb_class_drivers.specs.declared.fault.DriverFault.{DriverFault}
use Rattle.usb_class_drivers.specs.declared.fault.DriverFault.TheVariants.{Alien, Failed, Short}
use Rattle.usb_class_drivers.specs.declared.transport.Transport.{Transport}
use Rattle.usb_class_drivers.specs.Capacities.{IsNoCapacity, capacity_bytes}
use Rattle.usb_class_drivers.specs.Transports.{Puts, Takes, with_next_tag}

-- Its size

-- what an answer makes of it
pub data SizeTold (disk : Transport) (told : Result (Vec ℕ) DriverFault)
    (result : Result Disk DriverFault) : Type 0 where
  is_sized : (bytes : Vec ℕ) (capacity : ACapacity) → told ≡ Ok bytes
      → bytes.items ≡ capacity_bytes capacity.last capacity.block
      → result ≡ Ok (record { transport = disk; capacity = capacity }) → SizeTold disk told result
  is_alien : (bytes : Vec ℕ) → told ≡ Ok bytes → IsNoCapacity bytes.items → result ≡ Err Alien
      → SizeTold disk told result
  not_told : (fault : DriverFault) → told ≡ Err fault → result ≡ Err fault
      → SizeTold disk told result

-- so many commands for its size, one after the other, each failed
pub data SizesFailed (modelled : Bool) (disk : Transport) (old : HostState) : ℕ → Transport
    → HostState → Type 0 where
  none_asked : SizesFailed modelled disk old 0 disk old
  one_failed : {n : ℕ} {next : Transport} {mid new : HostState}
      → SizesFailed modelled disk old n next mid
      → Takes modelled next Capacity 8 mid (Err Failed) new
      → SizesFailed modelled disk old (n + 1) (with_next_tag next) new

abbrev pub is_failed : {A : Type 0} → Result A DriverFault → Bool
is_failed (Err Failed) = true
is_failed _ = false

-- its size was asked for until the disk did not fail, three times at most
pub data AsksSize (modelled : Bool) (disk : Transport) (old : HostState)
    (result : Result Disk DriverFault) (new : HostState) : Type 0 where
  all_failed : (last : Transport) → SizesFailed modelled disk old 3 last new → result ≡ Err Failed
      → AsksSize modelled disk old result new
  was_told : (n : ℕ) (next : Transport) (mid : HostState) (told : Result (Vec ℕ) DriverFault)
      → n < 3 → SizesFailed modelled disk old n next mid
      → Takes modelled next Capacity 8 mid told new → is_failed told ≡ false
      → SizeTold (with_next_tag next) told result → AsksSize modelled disk old result new

-- where there is no disk, nothing is attempted
pub data DiskOpens (modelled : Bool) (found : Result Transport DriverFault) (old : HostState)
    (result : Result Disk DriverFault) (new : HostState) : Type 0 where
  found_none : (fault : DriverFault) → found ≡ Err fault → result ≡ Err fault → new ≡ old
      → DiskOpens modelled found old result new
  found_one : (disk : Transport) → found ≡ Ok disk → AsksSize modelled disk old result new
      → DiskOpens modelled found old result new

-- Its blocks

-- after a command
abbrev pub next_disk : Disk → Disk
next_disk disk = record disk { transport = with_next_tag disk.transport }

-- blocks are written, if the bytes are those of whole blocks, 255 at most; else nothing is
-- attempted
pub data WritesBlocks (modelled : Bool) (disk : Disk) (first : ℕ) (bytes : List ℕ)
    (old : HostState) (result : Result (Unit {0}) DriverFault) (next : Disk) (new : HostState)
    : Type 0 where
  no_blocks : ((blocks : ℕ) → blocks ≤ 255 → length bytes ≢ blocks * disk.capacity.block)
      → result ≡ Err Short → next ≡ disk → new ≡ old
      → WritesBlocks modelled disk first bytes old result next new
  were_put : (blocks : ℕ) → length bytes ≡ blocks * disk.capacity.block
      → Puts modelled disk.transport (Write first blocks) bytes old result new
      → next ≡ next_disk disk → WritesBlocks modelled disk first bytes old result next new
