-- What the host does at a port.
use Rattle.std.specs.Prelude.{◌≡◌, ◌≢◌, ◌+◌, ◌<◌, ⊤, ℕ, Bool, List, true, false, None, Some, IsSome}
use Rattle.std.specs.Prelude.{Result, Ok, Err, IfErr, MatchResult}
use Rattle.std.specs.Map.{lookup}
use Rattle.std.specs.BTreeMap.{is_at, insert_entry}
use Rattle.usb_port.specs.{path_cmp, parent_of, port_on_hub, IsPath, seen, PortStatus, IsFull}
use Rattle.usb_world.specs.{World, HasFault, root_port_at, roots_of, is_way}
use Rattle.usb_hub.specs.{HubPort, Root, External, IsAsked, IsPort}
use Rattle.usb_enum.specs.{FaultAllowedAt, NoAddress, EnumFault, EnumWorks, ParentLost, Bus, Memory}
use Rattle.usb_enum.specs.{Finding}
use Rattle.usb_enum.specs.declared.finding.Finding.TheVariants.{Refused}
use Rattle.usb_table.specs.{KnownPort, known_port, IsAskable, has_at, without, pipes_at}
use Rattle.usb_host.specs.Transfers.{table_in}
use Rattle.usb_host.specs.declared.fault.HostFault.{HostFault}
use Rattle.usb_host.specs.Agreement.{Agrees}
use Rattle.usb_host.specs.declared.fault.HostFault.TheVariants as host
use Rattle.usb_host.specs.HostStates.{HostState, work}
use Rattle.usb_host.specs.Ownership.{IsRooted}
use Rattle.usb_host.specs.Progress.{HostProgress, Did, HostRuns}
use Rattle.usb_host.specs.declared.host.Round.{Round}
use Rattle.usb_host.specs.declared.host.Round.TheVariants.{Quiet}

-- the port at a path, as the table knows it and the bus has it; the table agrees with the pool
pub record StandsAt (path : List ℕ) (port : KnownPort) (h : HostState) : Type 0 where
  pub is : IsPath path
  pub known : known_port path h.entries ≡ Some port
  pub there : IsPort h.world port.port
  pub askable : IsAskable port.port
  pub agrees : Agrees h.options h.entries h.addresses

-- the same, where what the bus has is said of one that does what its world does
pub record IsPortAt (modelled : Bool) (path : List ℕ) (port : KnownPort) (h : HostState) : Type 0
  where
    pub is : IsPath path
    pub known : known_port path h.entries ≡ Some port
    pub asked : IsAsked modelled h.world port.port
    pub askable : IsAskable port.port
    pub agrees : Agrees h.options h.entries h.addresses

-- a path of no port: of a hub that is not known to have it, or of a root port that the root has
-- not; the table agrees with the pool
pub record StandsNowhere (path : List ℕ) (h : HostState) : Type 0 where
  pub is : IsPath path
  pub beyond : parent_of path ≡ None → roots_of h.world < port_on_hub path
  pub unknown : IsSome (parent_of path) → known_port path h.entries ≡ None
  pub agrees : Agrees h.options h.entries h.addresses

-- requests at a port: so many attempts at most, a fault has its cause, and without one of the bus,
-- that still works
pub record Requested {A : Type 0} (port : HubPort) (most : ℕ) (old : HostState)
    (result : Result A EnumFault) (new : HostState) : Type 0 where
  pub goes : HostRuns most old new
  pub told : IfErr result (λ fault. FaultAllowedAt port fault new.world)
  pub works : EnumWorks result old.world new.world

-- what stood at a path and below it was forgotten: an address is free where one went, and the
-- pipes to others are as they were; the table agrees with the pool
pub record Forgets (path : List ℕ) (old new : HostState) : Type 0 where
  pub others : new ≡ record old {
    entries = new.entries;
    pipes = new.pipes;
    addresses = new.addresses;
  }
  pub gone : has_at path new.entries ≡ false
  pub rest : new.entries ≡ without path old.entries
  pub full : IsFull new.addresses → IsFull old.addresses
  pub pipes : (other : List ℕ) → is_way path other ≡ false
      → pipes_at other (table_in new) ≡ pipes_at other (table_in old)
  pub agrees : Agrees new.options new.entries new.addresses

-- a root port tells of a change; a hub has told of it
abbrev pub IsDue : World → HubPort → Type 0
IsDue w (Root number) = (root_port_at w number).connection_changed ≡ true
IsDue w (External hub port) = ⊤

-- a device waits there for an address, and one is free
pub record Waits (path : List ℕ) (h : HostState) : Type 0 where
  pub entry : lookup (is_at (path_cmp path)) h.entries ≡ Some (Refused NoAddress)
  pub free : IsFull h.addresses → ⊥

-- what a second look did: it got on, where entries stand below the ports of the root
pub record Looked (round : Round) (old new : HostState) : Type 0 where
  pub did : Did round old new
  pub some : IsRooted old → round ≢ Quiet

-- a port was served, or its hub is lost: either way the host got on
abbrev pub ProgressOrLost : Result (Unit {0}) EnumFault → HostState → HostState → Type 0
ProgressOrLost (Ok done) old new = HostProgress old new
ProgressOrLost (Err ParentLost) old new = HostProgress old new
ProgressOrLost (Err (Bus fault)) old new = ⊤
ProgressOrLost (Err Memory) old new = ⊤

-- a change is served, or an attempt was made
abbrev pub Gained : World → World → Type 0
Gained old new = work new + old.attempts < work old + new.attempts

abbrev pub ProgressOnOk : {A : Type 0} → Result A EnumFault → World → World → Type 0
ProgressOnOk (Ok done) old new = Gained old new
ProgressOnOk (Err ParentLost) old new = Gained old new
ProgressOnOk (Err (Bus fault)) old new = ⊤
ProgressOnOk (Err Memory) old new = ⊤

-- a root port shows what it is; a hub is asked
abbrev pub Shown : HubPort → Result PortStatus EnumFault → World → World → Type 0
Shown (Root number) result old new = (result ≡ Ok (seen (root_port_at old number))) × (new ≡ old)
Shown (External hub port) result old new = ProgressOnOk result old new

-- the bus tells its fault, and the port has a hub that is lost
abbrev pub Broke : List ℕ → EnumFault → World → Type 0
Broke path ParentLost w = IsSome (parent_of path)
Broke path (Bus fault) w = HasFault fault w
Broke path Memory w = ⊤

-- how a call ends after a port was served: a fault of the bus and want of memory are told as they
-- are
abbrev pub EndsAs : Result (Unit {0}) EnumFault → Result (Unit {0}) HostFault → Type 0
EndsAs (Ok done) result = result ≡ Ok tt
EndsAs (Err ParentLost) result = ⊤
EndsAs (Err (Bus fault)) result = result ≡ Err (host.Bus fault)
EndsAs (Err Memory) result = result ≡ Err host.Memory

-- a finding is entered; a device waits only where no address was free
pub record EntersOne (path : List ℕ) (old new : HostState) : Type 0 where
  pub finding : Finding
  pub entries : new.entries ≡ insert_entry path_cmp old.entries path finding
  pub waits : finding ≡ Refused NoAddress → IsFull old.addresses

abbrev pub Entered : List ℕ → HostState → Result (Unit {0}) EnumFault → HostState → Type 0
Entered path old result new = MatchResult result (λ _. EntersOne path old new)
    (λ _. new.entries ≡ old.entries)
