-- When what a host knows of its ports is so.
use Rattle.std.specs.Prelude.{◌≡◌, ◌≢◌, ◌⊎◌, ◌≤◌, ℕ, List, [], ◌∷◌, ◌++◌, None, Some, IsSome}
use Rattle.std.specs.Prelude.{IfSome, unwrap_or, option_map, true, false, ⊤, Result, Ok, OnOk}
use Rattle.usb_port.specs.{parent_of, port_on_hub, Addresses}
use Rattle.usb_device.specs.{State, reach, state_there, port_there}
use Rattle.usb_world.specs.{EachWas, World, root_row, roots_of, changes, pending, is_way}
use Rattle.usb_hub.specs.{EachElsewhere, TouchesNoPort, KeepsAll}
use Rattle.usb_enum.specs.{Cause, NoAddress, Accepted, HostOptions, HubFacts, IsFindingOf, IsRight}
use Rattle.usb_enum.specs.{IsKnownAs, IsOccupied, FewLosses, IsInOrder, IsSet}
use Rattle.usb_enum.specs.declared.finding.Finding.TheVariants.{Device, Refused}
use Rattle.usb_table.specs.{KnownPort, Entries, accepted_device_at, known_port, AllInSync, InSyncAt}
use Rattle.usb_table.specs.{finding_at, hub_facts_at, IsListedPort, tier_of, ListsEach, SameDevice}
use Rattle.usb_transfer.specs.{NoThreeDamaged}
use Rattle.usb_host.specs.Agreement.{Agrees}
use Rattle.usb_host.specs.Bounds.{hub_poll_bound, hubs_bound, looks_bound, round_bound}
use Rattle.usb_host.specs.BulkPipes.{KeepsBulk}
use Rattle.usb_host.specs.HostStates.{HostState}
use Rattle.usb_host.specs.Plugs.{KeepsPlugs}
use Rattle.usb_host.specs.Progress.{HostRuns}
use Rattle.usb_host.specs.Transfers.{table_in}
use Rattle.usb_host.specs.Ownership.{IsOwned, IsOwnedBut, IsRooted, KeepsOwned, HostMapHolds}
use Rattle.usb_host.specs.declared.fault.HostFault.{HostFault}
use Rattle.usb_host.specs.declared.host.Round.{Round}
use Rattle.usb_host.specs.declared.host.Round.TheVariants.{Quiet}

-- Ports

-- so it is at each port of the root, and of each hub that is known
abbrev pub PortsListed : World → Entries → Type 0
PortsListed w entries = (path : List ℕ) → IsListedPort (roots_of w) entries path
    → IsKnownAs w path (finding_at path entries)

-- Devices

-- what the port at a path gives, as the host knows it
abbrev pub known_supply : List ℕ → Entries → ℕ
known_supply path entries = unwrap_or (option_map (λ (known : KnownPort). known.supply)
    (known_port path entries)) 0

-- what is known of an accepted device is so, of a host of these options
pub record IsTruthOf (options : HostOptions) (entries : Entries) (path : List ℕ) (device : Accepted)
    (s : State) : Type 0
  where
    pub found : IsFindingOf s.spec options (tier_of path) (known_supply path entries)
        (Device device)
    pub set : IsSet device s

-- what is known of the accepted device at a path is so where it is reached, whatever is damaged or
-- pending
abbrev pub IsAccurateAt : HostOptions → World → Entries → List ℕ → Type 0
IsAccurateAt options w entries path =
    (device : Accepted) (s : State) → accepted_device_at path entries
    ≡ Some device → reach w.roots path ≡ true → state_there w.roots path ≡ Some s
    → IsTruthOf options entries path device s

-- so it is of each
abbrev pub DevicesAccurate : HostOptions → World → Entries → Type 0
DevicesAccurate options w entries = (path : List ℕ) → IsAccurateAt options w entries path

-- the refused device at a path has its cause, or a change of connection is pending at its port; one
-- that waits for an address may have waited too long
abbrev pub IsJustifiedAt : HostOptions → World → Entries → List ℕ → Type 0
IsJustifiedAt options w entries path = (cause : Cause) (s : State)
    → finding_at path entries ≡ Some (Refused cause) → state_there w.roots path ≡ Some s
    → (pending w.roots path ≡ true) ⊎ IsRight ⊤ s.spec options (tier_of path)
    (known_supply path entries) (Refused cause)

-- so it is of each
abbrev pub RefusalsJustified : HostOptions → World → Entries → Type 0
RefusalsJustified options w entries = (path : List ℕ) → IsJustifiedAt options w entries path

-- The same but at a path and below it

abbrev pub Elsewhere : List ℕ → (List ℕ → Type 0) → Type 0
Elsewhere path So = (other : List ℕ) → is_way path other ≡ false → So other

abbrev pub KnownBut : List ℕ → World → Entries → Type 0
KnownBut path w entries = Elsewhere path (λ other. IsListedPort (roots_of w) entries other
    → IsKnownAs w other (finding_at other entries))

abbrev pub TruthfulBut : HostOptions → List ℕ → World → Entries → Type 0
TruthfulBut options path w entries = Elsewhere path (IsAccurateAt options w entries)

abbrev pub CausesBut : HostOptions → List ℕ → World → Entries → Type 0
CausesBut options path w entries = Elsewhere path (IsJustifiedAt options w entries)

-- Between two worlds

-- each device that is reached keeps its description, its address and its configuration, and each
-- that is reached elsewhere
abbrev pub EachStill : World → World → Type 0
EachStill = EachWas SameDevice

abbrev pub EachStillBut : List ℕ → World → World → Type 0
EachStillBut path = EachElsewhere path SameDevice

-- Entries

-- entries agree with the addresses that are taken, and one without a hub stands at a port that the
-- root has
pub record Accounted (options : HostOptions) (roots : ℕ) (entries : Entries)
    (addresses : Addresses) : Type 0
  where
    pub agrees : Agrees options entries addresses
    pub root : (path : List ℕ) → IsSome (finding_at path entries) → parent_of path ≡ None
        → port_on_hub path ≤ roots

-- no device waits for an address
abbrev pub NoneWait : Entries → Type 0
NoneWait entries = (path : List ℕ) → finding_at path entries ≢ Some (Refused NoAddress)

-- one does only where each is listed
abbrev pub NoneWaiting : Entries → Type 0
NoneWaiting entries = (path : List ℕ) → finding_at path entries ≡ Some (Refused NoAddress)
    → ListsEach entries

-- nothing is left to do: no change of connection is pending at a known port, and a device waits for
-- an address only where each is listed
pub record IsAtRest (w : World) (entries : Entries) : Type 0 where
  pub none_pending : (path : List ℕ) → IsListedPort (roots_of w) entries path
      → pending w.roots path ≡ false
  pub none_waiting : NoneWaiting entries

-- Between two calls of a host

-- each reachable device holds the address that the host has for it; as long as the bus is at work
-- ports are in order, and what is known of ports and
-- devices is so
pub record HostInvariant (h : HostState) : Type 0 where
  pub owned : IsOwned h
  pub rooted : IsRooted h
  pub order : IsInOrder h.world
  pub known : h.world.fault ≡ None → PortsListed h.world h.entries
  pub truthful : h.world.fault ≡ None → DevicesAccurate h.options h.world h.entries
  -- pipes are as far as their endpoints
  pub level : h.world.fault ≡ None → AllInSync (table_in h) h.world

-- so it is but of the ports at a path and below it
pub record IsSoundBut (path : List ℕ) (h : HostState) : Type 0 where
  pub owned : IsOwnedBut path h
  pub rooted : IsRooted h
  pub order : IsInOrder h.world
  pub known : h.world.fault ≡ None → KnownBut path h.world h.entries
  pub truthful : h.world.fault ≡ None → TruthfulBut h.options path h.world h.entries
  pub level : h.world.fault ≡ None → Elsewhere path (λ other. InSyncAt other (table_in h) h.world)

-- the bus is at work, no three attempts running are damaged, and up to the new world no address is
-- lost three times
pub record IsFairTo (old new : World) : Type 0 where
  pub still : new.fault ≡ None
  pub few : NoThreeDamaged old
  pub kept : FewLosses new

-- what is known stays so, of a host whose options stay, and where damage is fair each
-- refused device still has its cause
pub record KeepsInvariant (old new : HostState) : Type 0 where
  pub options : new.options ≡ old.options
  pub sound : HostInvariant old → HostInvariant new
  pub caused : HostInvariant old → IsFairTo old.world new.world
      → RefusalsJustified old.options old.world old.entries
      → RefusalsJustified new.options new.world new.entries

-- the same over a part of a round, which leaves the pipes to functions and their endpoints alone,
-- but where a device is found anew; devices stand where one was plugged, and with few plugs none
-- waits
pub record PartStays (old new : HostState) : Type 0 where
  pub sound : KeepsInvariant old new
  pub bulk : HostInvariant old → new.world.fault ≡ None → KeepsBulk old new
  pub plugs : HostInvariant old → new.world.fault ≡ None → KeepsPlugs old new

abbrev pub PartKeepsInvariant : {A : Type 0} → HostState → Result A HostFault → HostState → Type 0
PartKeepsInvariant old result new = OnOk result (PartStays old new)

-- a hub that is listed may be dropped: what is known elsewhere is so, and a device stands at its
-- port, or a change is pending there
pub record IsDroppable (hub : List ℕ) (h : HostState) : Type 0 where
  pub listed : IsSome (finding_at hub h.entries)
  pub but : IsSoundBut hub h
  pub there : h.world.fault ≡ None → IsOccupied h.world hub

-- a hub that failed is dropped: what is known elsewhere is known, and so is what is at the port
-- now; where damage is fair, a change was pending there
pub record DropsSound (hub : List ℕ) (old : HostState) (result : Result (Unit {0}) HostFault)
    (new : HostState) : Type 0 where
  pub sound : IsDroppable hub old → OnOk result (HostInvariant new)
  -- no more is left to do, but by events
  pub backlog : IsDroppable hub old → OnOk result (new.world.fault ≡ None
      → KeepsAll old.world new.world)
  pub bulk : IsDroppable hub old → OnOk result (new.world.fault ≡ None → KeepsBulk old new)
  pub plugs : OnOk result (KeepsPlugs old new)
  pub caused : IsDroppable hub old → IsFairTo old.world new.world → pending old.world.roots hub
      ≡ true → CausesBut old.options hub old.world old.entries
      → OnOk result (RefusalsJustified new.options new.world new.entries)

-- a round keeps what is known; a quiet one in which no event came leaves nothing to do, as long as
-- the bus is at work
pub record RoundsSound (old : HostState) (result : Result Round HostFault) (new : HostState) :
    Type 0 where
  pub keeps : PartKeepsInvariant old result new
  pub rest : HostInvariant old → result ≡ Ok Quiet → new.world.taken ≡ old.world.taken
      → new.world.fault ≡ None → IsAtRest new.world new.entries

-- Parts of a round

-- a part of a round: so many attempts at most, each reachable device holds the address that the
-- host has for it, and what is known stays so
pub record Part {A : Type 0} (most : ℕ) (old : HostState) (result : Result A HostFault)
    (new : HostState) : Type 0 where
  pub goes : HostRuns most old new
  pub owned : KeepsOwned old result new
  pub sound : PartKeepsInvariant old result new

-- no root port had changed, and nothing was done
pub record RootsRest (old new : HostState) : Type 0 where
  pub same : new ≡ old
  pub none : changes (root_row old.world) ≡ 0

-- no port of the hub that is listed at a path tells of a change of connection
abbrev pub IsSilent : List ℕ → HostState → Type 0
IsSilent hub h = (facts : HubFacts) (number : ℕ) → hub_facts_at hub h.entries ≡ Some facts
    → 1 ≤ number → number ≤ facts.ports
    → IfSome (port_there h.world.roots (hub ++ (number ∷ []))) (λ b. b.connection_changed ≡ false)

-- a hub was polled; where it told of no change, nothing was asked of any port, and where no change
-- is pending at it, none was told at its ports
pub record HubKeeps (hub : List ℕ) (old : HostState) (result : Result Round HostFault)
    (new : HostState) : Type 0 where
  pub part : Part hub_poll_bound old result new
  pub calm : result ≡ Ok Quiet → new.world.fault ≡ None → TouchesNoPort old.world new.world
  pub silent : HostInvariant old → result ≡ Ok Quiet → new.world.fault ≡ None
      → pending new.world.roots hub ≡ false → IsSilent hub new

-- so was each hub; where none told of a change and no event came, none is told at the ports of any
-- at which none is pending
pub record HubsKeep (old : HostState) (result : Result Round HostFault) (new : HostState) : Type 0
  where
    pub part : Part hubs_bound old result new
    pub calm : result ≡ Ok Quiet → new.world.fault ≡ None → TouchesNoPort old.world new.world
    pub silent : HostInvariant old → result ≡ Ok Quiet → new.world.fault ≡ None
        → new.world.taken ≡ old.world.taken → (hub : List ℕ) → pending new.world.roots hub ≡ false
        → IsSilent hub new
    pub agrees : OnOk result (Agrees new.options new.entries new.addresses)

-- devices that wait were looked at again; where none was, none need be
pub record LooksKeep (old : HostState) (result : Result Round HostFault) (new : HostState) : Type 0
  where
    pub part : Part looks_bound old result new
    pub rest : IsRooted old → result ≡ Ok Quiet → (new ≡ old) × NoneWaiting new.entries
    pub idle : NoneWait old.entries → (result ≡ Ok Quiet) × (new ≡ old)

-- all of them; quiet ones in which no event came leave nothing to do, as long as the bus is at work
pub record PartsKeep (old : HostState) (result : Result Round HostFault) (new : HostState)
    : Type 0 where
  pub part : Part round_bound old result new
  pub rest : HostInvariant old → result ≡ Ok Quiet → new.world.taken ≡ old.world.taken
      → new.world.fault ≡ None → IsAtRest new.world new.entries

-- Whole calls

-- devices hold the addresses that the host has for them, and what is known stays so
pub record TransferKeeps (old new : HostState) : Type 0 where
  pub owning : HostMapHolds old → HostMapHolds new
  pub sound : KeepsInvariant old new
  -- no more is left to do, but by events
  pub backlog : new.world.fault ≡ None → KeepsAll old.world new.world
