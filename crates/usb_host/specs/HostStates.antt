-- A host, as its callers see it.
use Rattle.std.specs.Prelude.{◌≡◌, ℕ, ◌+◌, Bool, true, false, List, [], Option, None}
use Rattle.std.specs.FinSet as set
use Rattle.usb_port.specs.{powered_off, powered_on, Addresses, Releases}
use Rattle.usb_device.specs.{Ports, ended, vacant, taken}
use Rattle.usb_world.specs.{BusFault, World, root_row, to_come, changes}
use Rattle.usb_enum.specs.{Finding, HostOptions}
use Rattle.usb_enum.specs.declared.finding.Finding.TheVariants.{Device, Refused}
use Rattle.usb_table.specs.{Pipes, Entries}
use Rattle.usb_host.specs.LeftPorts.{LeftStatuses, none_left}
use Rattle.usb_host.specs.Numbers.{DeviceNumbers, first_numbers}
use Rattle.usb_host.specs.Reported.{ReportedDevices}

-- what a bus counted and reported, and what its root ports showed that are left alone, where it is
-- not modelled: of a modelled one its world says so, and no port of it is left alone
pub record BusCounts : Type 0 where
  pub spent : ℕ  -- attempts
  pub failed : Option BusFault  -- the fault that was reported last
  pub left : LeftStatuses  -- the root ports that are left alone

abbrev pub no_counts : BusCounts
no_counts = record { spent = 0; failed = None; left = none_left }

abbrev pub counts_of : Bool → ℕ → Option BusFault → LeftStatuses → BusCounts
counts_of true spent failed left = no_counts
counts_of false spent failed left = record { spent = spent; failed = failed; left = left }

-- the same of a bus that a caller leaves in the host: nothing changes of a modelled one
abbrev pub counts_after : Bool → BusCounts → ℕ → Option BusFault → BusCounts
counts_after true old spent failed = old
counts_after false old spent failed = record old { spent = spent; failed = failed }

pub record HostState : Type 0 where
  pub world : World  -- the bus's
  pub trace : Option (List ℕ)  -- the text that the bus's trace has, where that is known
  pub counts : BusCounts
  pub entries : Entries
  pub pipes : List (List ℕ × Pipes)  -- to what was found, by path
  pub addresses : Addresses  -- those that are taken
  pub numbers : DeviceNumbers
  pub reported : ReportedDevices  -- to the caller, by `next_news`
  pub options : HostOptions  -- what it takes of devices, for good
  pub stopped : Bool

-- each port of a row lost power and has it again, and what is on it stays
unfoldable pub repowered : Ports → Ports
repowered ended = ended
repowered (vacant b k) = vacant (powered_on (powered_off b)) (repowered k)
repowered (taken b s a k) = taken (powered_on (powered_off b)) s a (repowered k)

-- the root ports lost power and have it again, and no device is known
abbrev pub opening_host : HostOptions → World → Option (List ℕ) → HostState
opening_host options w t = record {
  world = record w { roots = repowered w.roots };
  trace = t;
  counts = no_counts;
  entries =
      [];
  pipes = [];
  addresses = set.empty;
  numbers = first_numbers;
  reported = [];
  options = options;
  stopped = false;
}

-- the change bits that are set and the events to come
abbrev pub work : World → ℕ
work w = changes (root_row w) + to_come w

-- a device that goes frees its address
abbrev pub Frees : Finding → Addresses → Addresses → Type 0
Frees (Device device) old new = Releases old device.address new
Frees (Refused cause) old new = new ≡ old
