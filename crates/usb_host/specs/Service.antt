-- What a round does, part by part (11.12): how each port was served, how each hub was polled, and
-- in which order.
use Rattle.std.specs.Prelude.{◌≡◌, ◌≢◌, ◌⊎◌, ◌≤◌, ◌+◌, ℕ, List, [], ◌∷◌, ◌++◌, Bool, true, false}
use Rattle.std.specs.Prelude.{Option, None, Some, Result, Ok, Err, OnOk, OnErr, IfOk, MatchResult}
use Rattle.std.specs.Prelude.{IsSome, IsSomeAnd}
use Rattle.std.specs.BTreeMap.{insert_entry}
use Rattle.arrayvec.specs.ArrayVec.{ArrayVec}
use Rattle.usb_port.specs.{path_cmp, parent_of, IsPath, has_bit, PortStatus}
use Rattle.usb_device.specs.{told_bits}
use Rattle.usb_world.specs.{BusFault, PlanData, World, changes, root_port_at, root_row, roots_of}
use Rattle.usb_transfer.specs.{NoThreeDamaged, PipeFault, ByteTold}
use Rattle.usb_transfer.specs.declared.fault.PipeFault.TheVariants as pipe
use Rattle.usb_hub.specs.{PortStatusAt}
use Rattle.usb_enum.specs.{widest_enumeration, CanFail, EnumFault, ParentLost, Accepted, Finding}
use Rattle.usb_table.specs.{Entries, Replaced, without, is_hub, is_waiting, accepted_device_at}
use Rattle.usb_table.specs.{KnownPort, known_port, BitsOf, IsListening, ComesAfter, IsNext, IsLast}
use Rattle.usb_table.specs.{hub_facts_at, pipes_at, PipesPolled}
use Rattle.usb_port.specs.{IsFull}
use Rattle.usb_host.specs.Backlog.{hubs, PaysAtLook, PaysAtServe}
use Rattle.usb_host.specs.Bounds.{drop_bound, handling_bound, look_bound, roots_bound}
use Rattle.usb_host.specs.Bounds.{serving_bound, told_bound}
use Rattle.usb_host.specs.Changes.{was_disabled}
use Rattle.usb_host.specs.Budget.{Affords, HubPaid, NumberPaid, PaysPart, PaysRound, PortPaid}
use Rattle.usb_host.specs.Budget.{RootsPaid, RoundPaid, ToldPaid, Weights, handling_most, hubs_most}
use Rattle.usb_host.specs.Budget.{poll_most, told_most}
use Rattle.usb_host.specs.BulkPipes.{KeepsBulk, StaysWhere}
use Rattle.usb_host.specs.Cuts.{CutAt, ForgetsOnWay, StaysOrForgets}
use Rattle.usb_host.specs.Discoveries.{EntersFound, FindsAnew}
use Rattle.usb_host.specs.HostStates.{HostState}
use Rattle.usb_host.specs.Ownership.{DropsHub, HasLost, IsOwned, KeepsOwned, KeepsPort}
use Rattle.usb_host.specs.PortHandling.{DropsLost, FindsSound, ServesSound}
use Rattle.usb_host.specs.Ports.{Entered, Forgets, IsDue, Looked, Requested, ProgressOrLost}
use Rattle.usb_host.specs.Ports.{StandsNowhere, Waits}
use Rattle.usb_host.specs.Progress.{AddsNoWork, HostProgress, Did, DidRound, HostRuns, Remains}
use Rattle.usb_host.specs.Progress.{OnlyBusSteps, either}
use Rattle.usb_host.specs.Soundness.{DropsSound, HubKeeps, HubsKeep, HostInvariant, IsDroppable}
use Rattle.usb_host.specs.Soundness.{LooksKeep, Part, PartsKeep, RootsRest}
use Rattle.usb_host.specs.Requests.{ClearsAndReads, ClearsError, ClearsOwn, ClearsPort, ClearsTold}
use Rattle.usb_host.specs.Requests.{InOrder, SettlesPort, ShowsPort}
use Rattle.usb_host.specs.Transfers.{table_in}
use Rattle.usb_host.specs.declared.fault.HostFault.{HostFault}
use Rattle.usb_host.specs.declared.host.Round.{Round}
use Rattle.usb_host.specs.declared.host.Round.TheVariants.{Worked, Quiet}

-- A port

-- its status told of no change of connection: each other change that it told was cleared, and what
-- is known of the ports stays
pub record Tidied (path : List ℕ) (old new : HostState) : Type 0 where
  pub status : PortStatus
  pub mid : World
  pub told : PortStatusAt path status old.world mid
  pub steady : status.connection_changed ≡ false
  pub clears : ClearsTold path status mid new.world
  pub rests : OnlyBusSteps old new

-- what was found at a port and below it is forgotten; where a device is connected, one finding is
-- entered
abbrev pub Renews : Bool → List ℕ → Entries → Entries → Type 0
Renews true path old new = (finding : Finding)
    × (new ≡ insert_entry path_cmp (without path old) path finding)
Renews false path old new = new ≡ without path old

-- its change of connection was cleared, and what a status then showed was found: where a device is
-- connected, what is entered is what an enumeration at the port gave, with its reason
pub record LookedAt (path : List ℕ) (old new : HostState) : Type 0 where
  pub status : PortStatus
  pub mid : World
  pub cleared : ClearsAndReads path status old.world mid
  pub renewed : Renews status.connected path old.entries new.entries
  pub found : status.connected ≡ true → FindsAnew path old.entries mid new

-- a request to its hub failed: that hub, or one above it, is listed as lost
pub record LosesParent (path : List ℕ) (old new : Entries) : Type 0 where
  pub hub : List ℕ
  pub parent : parent_of path ≡ Some hub
  pub loses : HasLost hub old new

-- a port was served: tidied, looked at where its status told of a change of connection, or its hub
-- was lost
pub data ServedAt (path : List ℕ) (old new : HostState) : Type 0 where
  was_tidied : Tidied path old new → ServedAt path old new
  was_looked_at : (status : PortStatus) (mid : HostState)
      → PortStatusAt path status old.world mid.world → status.connection_changed ≡ true
      → OnlyBusSteps old mid → LookedAt path mid new → ServedAt path old new
  was_lost : LosesParent path old.entries new.entries → ServedAt path old new

-- a device that waits was looked at again, or its hub was lost
pub data LookedOnce (path : List ℕ) (old new : HostState) : Type 0 where
  looked_once : LookedAt path old new → LookedOnce path old new
  lost_once : LosesParent path old.entries new.entries → LookedOnce path old new

-- A hub

-- a port of a hub was served, where one that is known has that path; else nothing was done
pub data ServedBelow (hub : List ℕ) (number : ℕ) (old new : HostState) : Type 0 where
  port_known : ServedAt (hub ++ (number ∷ [])) old new → ServedBelow hub number old new
  port_unknown : (IsPath (hub ++ (number ∷ [])) → known_port (hub ++ (number ∷ [])) old.entries
      ≡ None) → new ≡ old → ServedBelow hub number old new

-- by rising number, each port of a hub below a number whose bit is set was served, and no other
pub data ServedTold (hub : List ℕ) (bits : ℕ) : ℕ → HostState → HostState → Type 0 where
  none_yet : (h : HostState) → ServedTold hub bits 1 h h
  bit_set : (n : ℕ) {old mid new : HostState} → ServedTold hub bits n old mid
      → has_bit bits n ≡ true → ServedBelow hub n mid new → ServedTold hub bits (n + 1) old new
  bit_clear : (n : ℕ) {old new : HostState} → ServedTold hub bits n old new → has_bit bits n ≡ false
      → ServedTold hub bits (n + 1) old new

-- where no three attempts running are damaged, no accepted device at the path heard the poll
abbrev pub NoneHears : List ℕ → HostState → World → Type 0
NoneHears hub old mid = NoThreeDamaged old.world → (device : Accepted)
    → accepted_device_at hub old.entries ≡ Some device → IsListening hub device mid → ⊥

-- one poll of the hub through its status pipe, with its answer; nothing else that is known changed
pub record PolledOnce (hub : List ℕ) (old : HostState)
    (answer : Result (Option (ArrayVec ℕ)) PipeFault) (new : HostState) : Type 0 where
  pub through : PipesPolled (pipes_at hub (table_in old)) old.world answer
      (pipes_at hub (table_in new)) new.world
  pub remains : Remains old new

-- a hub was polled: none of its ports had changed; or they told these bits, of which one at least
-- is set, and each port of which they tell was served;
-- or it did not answer, and was dropped
pub data HubPolled (hub : List ℕ) (old new : HostState) : Round → Type 0 where
  told_none : PolledOnce hub old (Ok None) new → BitsOf hub old.world new.world 0
      → HubPolled hub old new Quiet
  told_some : (packet : ArrayVec ℕ) (mid : HostState) → PolledOnce hub old (Ok (Some packet)) mid
      → (byte : ByteTold (BitsOf hub old.world mid.world) packet.items)
      → ServedTold hub byte.bits 16 mid new → HubPolled hub old new Worked
  not_heard : (fault : PipeFault) (mid : HostState) → PolledOnce hub old (Err fault) mid
      → NoneHears hub old mid.world → HasLost hub mid.entries new.entries
      → HubPolled hub old new Worked

-- A round

-- by rising number, each root port below a number whose connection had changed was served, and no
-- other
pub data RootsServed : ℕ → Round → HostState → HostState → Type 0 where
  no_root : (h : HostState) → RootsServed 1 Quiet h h
  root_changed : (n : ℕ) (round : Round) {old mid new : HostState} → RootsServed n round old mid
      → (root_port_at mid.world n).connection_changed ≡ true → ServedAt (n ∷ []) mid new
      → RootsServed (n + 1) Worked old new
  root_steady : (n : ℕ) (round : Round) {old new : HostState} → RootsServed n round old new
      → (root_port_at new.world n).connection_changed ≡ false → RootsServed (n + 1) round old new

-- hubs were polled up to a path, each the next one that was known, by rising path
pub data HubsPolled : Option (List ℕ) → Round → HostState → HostState → Type 0 where
  no_hub : (h : HostState) → HubsPolled None Quiet h h
  next_hub : (last : Option (List ℕ)) (hub : List ℕ) (before round : Round)
      {old mid new : HostState} → HubsPolled last before old mid
      → IsNext is_hub last mid.entries hub → HubPolled hub mid new round
      → HubsPolled (Some hub) (either before round) old new

-- devices that wait were looked at up to a path, by rising path
pub data LookedAgain : Option (List ℕ) → Round → HostState → HostState → Type 0 where
  no_device : (h : HostState) → LookedAgain None Quiet h h
  next_device : (last : Option (List ℕ)) (path : List ℕ) (before : Round) {old mid new : HostState}
      → LookedAgain last before old mid → Waits path mid → ComesAfter last path
      → LookedOnce path mid new → LookedAgain (Some path) Worked old new

-- each hub that is known, once
pub record EachPolled (round : Round) (old new : HostState) : Type 0 where
  pub last : Option (List ℕ)
  pub polled : HubsPolled last round old new
  pub all : IsLast is_hub last new.entries

-- each device that waits, once, while an address is free
pub record EachLookedAgain (round : Round) (old new : HostState) : Type 0 where
  pub last : Option (List ℕ)
  pub looked : LookedAgain last round old new
  pub all : IsFull new.addresses ⊎ IsLast is_waiting last new.entries

-- the root ports, then the hubs, then the devices that wait
pub record RoundParts (round : Round) (old new : HostState) : Type 0 where
  pub roots : Round
  pub first : HostState
  pub served : RootsServed (roots_of old.world + 1) roots old first
  pub hubs : Round
  pub second : HostState
  pub polled : EachPolled hubs first second
  pub looks : Round
  pub looked : EachLookedAgain looks second new
  pub is : round ≡ either (either roots hubs) looks

-- A round that failed

-- the changed root ports below one were served, and the host stopped while it served that one
pub record RootsFail (old new : HostState) : Type 0 where
  pub number : ℕ
  pub round : Round
  pub mid : HostState
  pub served : RootsServed number round old mid
  pub changed : (root_port_at mid.world number).connection_changed ≡ true
  pub bulk : KeepsBulk old mid
  pub cut : CutAt (number ∷ []) mid new

-- the ports that a hub told, below one, were served, and the host stopped while it served that one
pub record PortsFail (hub : List ℕ) (bits : ℕ) (old new : HostState) : Type 0 where
  pub number : ℕ
  pub mid : HostState
  pub served : ServedTold hub bits number old mid
  pub told : has_bit bits number ≡ true
  pub bulk : KeepsBulk old mid
  pub cut : CutAt (hub ++ (number ∷ [])) mid new

-- the host stopped in the poll of a hub, which changes nothing that is known; or at one of the
-- ports that the hub told; or while it dropped the hub, which had not answered
pub data HubFails (hub : List ℕ) (old new : HostState) : Type 0 where
  poll_failed : (fault : BusFault) → PolledOnce hub old (Err (pipe.Bus fault)) new
      → StaysWhere (Unit {0}) old new → HubFails hub old new
  port_failed : (packet : ArrayVec ℕ) (mid : HostState) → PolledOnce hub old (Ok (Some packet)) mid
      → (byte : ByteTold (BitsOf hub old.world mid.world) packet.items)
      → KeepsBulk old mid → PortsFail hub byte.bits mid new → HubFails hub old new
  drop_failed : (fault : PipeFault) (mid : HostState) → PolledOnce hub old (Err fault) mid
      → KeepsBulk old mid → CutAt hub mid new → HubFails hub old new

-- the hubs before one were polled, and the host stopped at that one
pub record HubsFail (old new : HostState) : Type 0 where
  pub last : Option (List ℕ)
  pub round : Round
  pub mid : HostState
  pub polled : HubsPolled last round old mid
  pub hub : List ℕ
  pub next : IsNext is_hub last mid.entries hub
  pub bulk : KeepsBulk old mid
  pub fails : HubFails hub mid new

-- the waiting devices before one were looked at, and the host stopped at that one
pub record LooksFail (old new : HostState) : Type 0 where
  pub last : Option (List ℕ)
  pub round : Round
  pub mid : HostState
  pub looked : LookedAgain last round old mid
  pub path : List ℕ
  pub waits : Waits path mid
  pub after : ComesAfter last path
  pub bulk : KeepsBulk old mid
  pub cut : CutAt path mid new

-- the host stopped in one of the three parts, and the parts before it were done
pub data PartsFail (old new : HostState) : Type 0 where
  roots_failed : RootsFail old new → PartsFail old new
  hubs_failed : (roots : Round) (first : HostState)
      → RootsServed (roots_of old.world + 1) roots old first
      → KeepsBulk old first → HubsFail first new → PartsFail old new
  looks_failed : (roots hubs : Round) (first second : HostState)
      → RootsServed (roots_of old.world + 1) roots old first → EachPolled hubs first second
      → KeepsBulk old second → LooksFail second new → PartsFail old new

-- What the calls of a host tell of it, where it is as it knows

-- a port was looked at, or its hub is lost, or the host stops
abbrev pub LookedOrLost : List ℕ → HostState → Result (Unit {0}) EnumFault → HostState → Type 0
LookedOrLost path old (Ok done) new = LookedAt path old new
LookedOrLost path old (Err fault) new = StaysOrForgets path old.entries new.entries

-- a port was served, or its hub is lost, or the host stops
abbrev pub ServedOrLost : List ℕ → HostState → Result (Unit {0}) EnumFault → HostState → Type 0
ServedOrLost path old (Ok done) new = ServedAt path old new
ServedOrLost path old (Err fault) new = StaysOrForgets path old.entries new.entries

-- after a port was served nothing more is done, but where its hub is lost
abbrev pub EndsAt : List ℕ → Result (Unit {0}) EnumFault → HostState → Result (Unit {0}) HostFault
    → HostState → Type 0
EndsAt path (Err ParentLost) old result new =
    MatchResult result (λ _. LosesParent path old.entries new.entries)
    (λ _. ForgetsOnWay path old.entries new.entries)
EndsAt path _ old result new = new ≡ old

-- what is there was found
pub record Discovers (path : List ℕ) (port : KnownPort) (old : HostState)
    (result : Result (Unit {0}) EnumFault) (new : HostState) : Type 0 where
  pub requested : Requested port.port widest_enumeration old result new
  pub owned : KeepsPort path old result new
  pub sound : FindsSound path old result new
  pub gave : OnOk result (EntersFound path port old.addresses old.world old.entries new)

-- what was found there and below it is forgotten, and where a device is connected, it was found
pub record RenewsPort (path : List ℕ) (port : KnownPort) (connected : Bool) (old : HostState)
    (result : Result (Unit {0}) EnumFault) (new : HostState) : Type 0 where
  pub mid : HostState
  pub forgot : Forgets path old mid
  pub none : connected ≡ false → (result ≡ Ok tt) × (new ≡ mid)
  pub entered : connected ≡ true → Entered path mid result new
  pub found : connected ≡ true → Discovers path port mid result new

-- what a look leaves; where it was due or a device waits, the host got on
pub record LooksAt (path : List ℕ) (port : KnownPort) (old : HostState)
    (result : Result (Unit {0}) EnumFault) (new : HostState) : Type 0 where
  pub requested : Requested port.port look_bound old result new
  pub on : IsDue old.world port.port ⊎ Waits path old → ProgressOrLost result old new
  pub owned : KeepsPort path old result new
  pub sound : ServesSound path old result new
  pub renewed : OnOk result (Replaced path (without path old.entries) new.entries)
  pub pays : PaysAtLook path old result new
  pub hubs : hubs new.entries ≤ hubs old.entries + 1
  pub looked : IsOwned old → LookedOrLost path old result new
  -- whatever its hub is: the change was cleared, and what is there was found
  pub order : InOrder (ClearsPort port.port) (λ status. RenewsPort path port status.connected) old
      result new

-- what one leaves after an error
pub record LooksAfterError (path : List ℕ) (port : KnownPort) (old : HostState)
    (result : Result (Unit {0}) EnumFault) (new : HostState) : Type 0 where
  pub requested : Requested port.port look_bound old result new
  pub on : CanFail port.port → ProgressOrLost result old new
  pub owned : KeepsPort path old result new
  pub order : InOrder (ClearsError port.port) (λ status. RenewsPort path port status.connected) old
      result new

-- what is done at a port for the status that was read: at a change of connection a look; at an
-- error that its hub has disabled it on, a look after that; else each change is cleared, and what
-- is known of the ports stays
pub data ServesFor (path : List ℕ) (port : KnownPort) (status : PortStatus) (old : HostState)
    (result : Result (Unit {0}) EnumFault) (new : HostState) : Type 0 where
  at_connection : status.connection_changed ≡ true → LooksAt path port old result new
      → ServesFor path port status old result new
  at_error : status.connection_changed ≡ false
      → was_disabled port.port status (accepted_device_at path old.entries) ≡ true
      → LooksAfterError path port old result new → ServesFor path port status old result new
  at_others : status.connection_changed ≡ false
      → was_disabled port.port status (accepted_device_at path old.entries) ≡ false
      → SettlesPort port.port status old result new → OnlyBusSteps old new
      → ServesFor path port status old result new

-- what the serving of a port leaves; where it was due, the host got on
pub record ServesPort (path : List ℕ) (port : KnownPort) (old : HostState)
    (result : Result (Unit {0}) EnumFault) (new : HostState) : Type 0 where
  pub requested : Requested port.port serving_bound old result new
  pub on : IsDue old.world port.port → ProgressOrLost result old new
  pub owned : KeepsPort path old result new
  pub sound : ServesSound path old result new
  pub pays : PaysAtServe path old result new
  pub hubs : hubs new.entries ≤ hubs old.entries + 1
  pub served : HostInvariant old → ServedOrLost path old result new
  -- whatever its hub is: the status was read, and what it asks for was done
  pub order : InOrder (ShowsPort port.port) (ServesFor path port) old result new

-- What is done whatever hubs report: not only over the hubs of a world, as a host knows them

-- this was done at the port of a path, that is known; or a request failed, and its hub, or one
-- above that, is listed as lost
pub data DoneAt (Does : KnownPort → HostState → Result (Unit {0}) EnumFault → HostState → Type 0)
    (path : List ℕ) (old new : HostState) : Type 0 where
  all_done : (port : KnownPort) → known_port path old.entries ≡ Some port
      → Does port old (Ok tt) new → DoneAt Does path old new
  hub_failed : (port : KnownPort) (mid : HostState) → known_port path old.entries ≡ Some port
      → Does port old (Err ParentLost) mid → LosesParent path mid.entries new.entries
      → DoneAt Does path old new

-- a port was handled: its status was read, and what that asks for was done
abbrev pub HandledSo : List ℕ → HostState → HostState → Type 0
HandledSo path = DoneAt (λ port. InOrder (ShowsPort port.port) (ServesFor path port)) path

-- a device that waits was looked at again
abbrev pub LookedSo : List ℕ → HostState → HostState → Type 0
LookedSo path =
    DoneAt (λ port. InOrder (ClearsPort port.port)
    (λ status. RenewsPort path port status.connected)) path

-- by rising number, each root port below a number whose connection had changed was handled, and no
-- other
pub data RootsHandledSo : ℕ → Round → HostState → HostState → Type 0 where
  roots_begun : (h : HostState) → RootsHandledSo 1 Quiet h h
  root_handled : (n : ℕ) (round : Round) {old mid new : HostState}
      → RootsHandledSo n round old mid → (root_port_at mid.world n).connection_changed ≡ true
      → HandledSo (n ∷ []) mid new → RootsHandledSo (n + 1) Worked old new
  root_unchanged : (n : ℕ) (round : Round) {old new : HostState} → RootsHandledSo n round old new
      → (root_port_at new.world n).connection_changed ≡ false
      → RootsHandledSo (n + 1) round old new

-- a port of a hub was handled, where one that is known has that path; else nothing was done
pub data BelowHandledSo (hub : List ℕ) (number : ℕ) (old new : HostState) : Type 0 where
  below_known : HandledSo (hub ++ (number ∷ [])) old new → BelowHandledSo hub number old new
  below_unknown : (IsPath (hub ++ (number ∷ [])) → known_port (hub ++ (number ∷ [])) old.entries
      ≡ None) → new ≡ old → BelowHandledSo hub number old new

-- by rising number, each port of a hub below a number whose bit is set was handled, and no other
pub data BitsHandledSo (hub : List ℕ) (bits : ℕ) : ℕ → HostState → HostState → Type 0 where
  bits_begun : (h : HostState) → BitsHandledSo hub bits 1 h h
  bit_handled : (n : ℕ) {old mid new : HostState} → BitsHandledSo hub bits n old mid
      → has_bit bits n ≡ true → BelowHandledSo hub n mid new
      → BitsHandledSo hub bits (n + 1) old new
  bit_unset : (n : ℕ) {old new : HostState} → BitsHandledSo hub bits n old new
      → has_bit bits n ≡ false → BitsHandledSo hub bits (n + 1) old new

-- the changes of the hub that has a port were cleared, by way of that port
abbrev pub OwnHandled : List ℕ → HostState → HostState → Type 0
OwnHandled = DoneAt (λ port old result new. ClearsOwn port.port old result new
    × OnlyBusSteps old new)

-- so it was of a hub, by way of its first port, where that is known; else nothing was done
pub data OwnServed (hub : List ℕ) (old new : HostState) : Type 0 where
  own_known : OwnHandled (hub ++ (1 ∷ [])) old new → OwnServed hub old new
  own_unknown : (IsPath (hub ++ (1 ∷ [])) → known_port (hub ++ (1 ∷ [])) old.entries ≡ None)
      → new ≡ old → OwnServed hub old new

-- what a hub reported was handled: its own changes where it reports itself alone, else its ports
pub data ReportHandled (hub : List ℕ) (bits : ℕ) (old new : HostState) : Type 0 where
  own_reported : bits ≡ 1 → OwnServed hub old new → ReportHandled hub bits old new
  ports_reported : bits ≢ 1 → BitsHandledSo hub bits 16 old new → ReportHandled hub bits old new

-- a hub was polled: it answered that it has no change; or with bits, and what it reported was
-- handled; or the poll failed, and it, or a hub above it, is listed as lost
pub data HubAsked (hub : List ℕ) (old new : HostState) : Round → Type 0 where
  asked_none : PolledOnce hub old (Ok None) new → HubAsked hub old new Quiet
  asked_some : (packet : ArrayVec ℕ) (mid : HostState) → PolledOnce hub old (Ok (Some packet)) mid
      → ReportHandled hub (told_bits packet.items) mid new → HubAsked hub old new Worked
  asked_failed : (fault : PipeFault) (mid : HostState) → PolledOnce hub old (Err fault) mid
      → HasLost hub mid.entries new.entries → HubAsked hub old new Worked

-- hubs were polled up to a path, each the next one that was known, by rising path
pub data HubsAsked : Option (List ℕ) → Round → HostState → HostState → Type 0 where
  hubs_begun : (h : HostState) → HubsAsked None Quiet h h
  hub_asked : (last : Option (List ℕ)) (hub : List ℕ) (before round : Round)
      {old mid new : HostState} → HubsAsked last before old mid → IsNext is_hub last mid.entries hub
      → HubAsked hub mid new round → HubsAsked (Some hub) (either before round) old new

-- a device that waits was looked at, or its port is not known
abbrev pub LooksInOrder : List ℕ → Round → HostState → HostState → Type 0
LooksInOrder path Worked old new = LookedSo path old new
LooksInOrder path Quiet old new = StandsNowhere path old × (new ≡ old)

-- devices that wait were looked at up to a path, by rising path
pub data WaitingAsked : Option (List ℕ) → Round → HostState → HostState → Type 0 where
  waiting_begun : (h : HostState) → WaitingAsked None Quiet h h
  waiting_next : (last : Option (List ℕ)) (path : List ℕ) (before round : Round)
      {old mid new : HostState} → WaitingAsked last before old mid → Waits path mid
      → ComesAfter last path → LooksInOrder path round mid new
      → WaitingAsked (Some path) (either before round) old new

-- each hub that is known, once
pub record EachAsked (round : Round) (old new : HostState) : Type 0 where
  pub last : Option (List ℕ)
  pub asked : HubsAsked last round old new
  pub all : IsLast is_hub last new.entries

-- each device that waits, once, while an address is free
pub record EachWaitingAsked (round : Round) (old new : HostState) : Type 0 where
  pub last : Option (List ℕ)
  pub looked : WaitingAsked last round old new
  pub all : IsFull new.addresses ⊎ IsLast is_waiting last new.entries

-- the root ports, then the hubs, then the devices that wait
pub record RoundOrder (round : Round) (old new : HostState) : Type 0 where
  pub roots : Round
  pub first : HostState
  pub handled : RootsHandledSo (roots_of old.world + 1) roots old first
  pub hubs : Round
  pub second : HostState
  pub asked : EachAsked hubs first second
  pub looks : Round
  pub looked : EachWaitingAsked looks second new
  pub is : round ≡ either (either roots hubs) looks

-- the changes of a hub itself were cleared, or it was dropped
pub record ServesOwn (Served : HostState → HostState → Type 0) (old : HostState)
    (result : Result (Unit {0}) HostFault) (new : HostState) : Type 0 where
  pub goes : HostRuns handling_bound old new
  pub holds : AddsNoWork old new
  pub owned : KeepsOwned old result new
  pub served : OnOk result (Served old new)

-- the hub of a port is listed
abbrev pub HasHub : List ℕ → Entries → Type 0
HasHub path entries = IsSomeAnd (parent_of path) (λ hub. IsSome (hub_facts_at hub entries))

-- how the handling of a port ends; where its hub was lost, one hub fewer is listed
pub record FinishesAt (path : List ℕ) (served : Result (Unit {0}) EnumFault) (old : HostState)
    (result : Result (Unit {0}) HostFault) (new : HostState) : Type 0 where
  pub goes : HostRuns drop_bound old new
  pub holds : AddsNoWork old new
  pub drops : DropsLost path served old result new
  pub left : EndsAt path served old result new
  pub fewer : served ≡ Err ParentLost → HasHub path old.entries
      → OnOk result (hubs new.entries + 1 ≤ hubs old.entries)

-- a hub is dropped: no more is left to do, and where it was listed, one hub fewer is
pub record DropsOne (hub : List ℕ) (old : HostState) (result : Result (Unit {0}) HostFault)
    (new : HostState) : Type 0 where
  pub goes : HostRuns drop_bound old new
  pub holds : AddsNoWork old new
  pub hubs : OnOk result (IsSome (hub_facts_at hub old.entries)
      → hubs new.entries + 1 ≤ hubs old.entries)
  pub owned : DropsHub hub old result new
  pub sound : DropsSound hub old result new
  pub cut : OnErr result (ForgetsOnWay hub old.entries new.entries)
  pub bulk : IsDroppable hub old
      → OnErr result (StaysWhere (new.world.fault ≡ None) old new)

-- a port was handled; where it was due, the host got on
pub record HandlesAt (path : List ℕ) (due : Type 0) (old new : HostState) : Type 0 where
  pub advances : due → HostProgress old new
  pub served : HostInvariant old → ServedAt path old new
  pub order : HandledSo path old new

-- and what that cost
pub record HandlesPort (path : List ℕ) (due : Type 0) (old : HostState)
    (result : Result (Unit {0}) HostFault) (new : HostState) : Type 0 where
  pub part : Part handling_bound old result new
  pub handled : OnOk result (HandlesAt path due old new)
  pub cut : OnErr result (HostInvariant old → CutAt path old new)
  pub pays : PaysPart handling_most (λ c done. PortPaid c path) old result new

-- a port of a hub was handled
pub record HandlesBelow (hub : List ℕ) (number : ℕ) (round : Round) (old new : HostState) : Type 0
  where
    pub did : Did round old new
    pub served : HostInvariant old → ServedBelow hub number old new
    pub order : BelowHandledSo hub number old new

-- and what that cost
pub record HandlesNumber (hub : List ℕ) (number : ℕ) (old : HostState)
    (result : Result Round HostFault) (new : HostState) : Type 0 where
  pub part : Part handling_bound old result new
  pub handled : IfOk result (λ round. HandlesBelow hub number round old new)
  pub cut : OnErr result (HostInvariant old → CutAt (hub ++ (number ∷ [])) old new)
  pub pays : PaysPart handling_most (λ c. NumberPaid c hub number) old result new

-- the ports of which a hub told were handled
pub record ServesPorts (hub : List ℕ) (bits : ℕ) (old : HostState)
    (result : Result (Unit {0}) HostFault) (new : HostState) : Type 0 where
  pub part : Part told_bound old result new
  pub holds : OnOk result (AddsNoWork old new)
  pub served : OnOk result (HostInvariant old → ServedTold hub bits 16 old new)
  pub order : OnOk result (BitsHandledSo hub bits 16 old new)
  pub fails : OnErr result (HostInvariant old → old.world.fault ≡ None
      → PortsFail hub bits old new)
  pub pays : PaysPart told_most (λ c done. ToldPaid hub bits c) old result new

-- and where it told of itself alone, its own changes were cleared
pub record ServesTold (hub : List ℕ) (bits : ℕ) (old : HostState)
    (result : Result (Unit {0}) HostFault) (new : HostState) : Type 0 where
  pub goes : HostRuns told_bound old new
  pub holds : OnOk result (AddsNoWork old new)
  pub owned : KeepsOwned old result new
  pub ports : bits ≢ 1 → ServesPorts hub bits old result new
  pub order : OnOk result (ReportHandled hub bits old new)

-- a device that waits was looked at again
pub record LooksOnceMore (path : List ℕ) (old : HostState) (result : Result Round HostFault)
    (new : HostState) : Type 0 where
  pub part : Part handling_bound old result new
  pub did : IfOk result (λ round. Looked round old new)
  pub looked : IfOk result (λ round. HostInvariant old → (round ≡ Worked) × LookedOnce path old new)
  pub order : IfOk result (λ round. LooksInOrder path round old new)
  pub cut : OnErr result (HostInvariant old → CutAt path old new)

-- each that waits, while an address is free
pub record LooksAgain (old : HostState) (result : Result Round HostFault) (new : HostState)
    : Type 0 where
  pub keeps : LooksKeep old result new
  pub did : IfOk result (λ round. Did round old new)
  pub looked : IfOk result (λ round. HostInvariant old → EachLookedAgain round old new)
  pub order : IfOk result (λ round. EachWaitingAsked round old new)
  pub fails : OnErr result (HostInvariant old → old.world.fault ≡ None → LooksFail old new)

-- a hub was polled
pub record PollsHub (hub : List ℕ) (round : Round) (old new : HostState) : Type 0 where
  pub did : Did round old new
  pub polled : HostInvariant old → new.world.fault ≡ None → HubPolled hub old new round
  pub order : HubAsked hub old new round

-- and what that cost
pub record ServesHub (hub : List ℕ) (old : HostState) (result : Result Round HostFault)
    (new : HostState) : Type 0 where
  pub keeps : HubKeeps hub old result new
  pub polls : IfOk result (λ round. PollsHub hub round old new)
  pub fails : OnErr result (HostInvariant old → old.world.fault ≡ None → HubFails hub old new)
  pub pays : PaysPart poll_most (HubPaid hub) old result new

-- each hub that is known was polled
pub record ServesHubs (old : HostState) (result : Result Round HostFault) (new : HostState) : Type 0
  where
    pub keeps : HubsKeep old result new
    pub did : IfOk result (λ round. Did round old new)
    pub polls : IfOk result (λ round. HostInvariant old → new.world.fault ≡ None
        → EachPolled round old new)
    pub order : IfOk result (λ round. EachAsked round old new)
    pub fails : OnErr result (HostInvariant old → old.world.fault ≡ None → HubsFail old new)
    pub pays : PaysPart hubs_most RoundPaid old result new
    -- where nothing is listed, nothing is done
    pub idle : old.entries ≡ [] → (result ≡ Ok Quiet) × (new ≡ old)

-- the parts of a round; where it is quiet no root port had changed
pub record WentByParts (old : HostState) (result : Result Round HostFault) (new : HostState) :
    Type 0 where
  pub keeps : PartsKeep old result new
  pub did : IfOk result (λ round. Did round old new)
  pub none : result ≡ Ok Quiet → changes (root_row old.world) ≡ 0
  pub parts : IfOk result (λ round. HostInvariant old → new.world.fault ≡ None
      → RoundParts round old new)
  pub order : IfOk result (λ round. RoundOrder round old new)
  pub fails : OnErr result (HostInvariant old → old.world.fault ≡ None → PartsFail old new)
  pub pays : (c : Weights) (plan : PlanData) → Affords c plan old → PaysRound c plan old result new
  -- where nothing is listed, and no root port had changed, nothing is done
  pub idle : old.entries ≡ [] → changes (root_row old.world) ≡ 0 → (result ≡ Ok Quiet) × (new ≡ old)

-- the root ports were served
pub record ServesRoots (round : Round) (old new : HostState) : Type 0 where
  pub did : Did round old new
  pub none : round ≡ Quiet → RootsRest old new
  pub served : HostInvariant old → RootsServed (roots_of old.world + 1) round old new
  pub order : RootsHandledSo (roots_of old.world + 1) round old new

-- and what that cost
pub record ServesEach (old : HostState) (result : Result Round HostFault) (new : HostState) : Type 0
  where
    pub part : Part roots_bound old result new
    pub serves : IfOk result (λ round. ServesRoots round old new)
    pub fails : OnErr result (HostInvariant old → old.world.fault ≡ None → RootsFail old new)
    pub pays : PaysPart handling_most RootsPaid old result new
    -- where none had changed, nothing is done
    pub idle : changes (root_row old.world) ≡ 0 → (result ≡ Ok Quiet) × (new ≡ old)

-- what a round did, part by part
pub record DidParts (round : Round) (old new : HostState) : Type 0 where
  pub did : DidRound round old new
  pub parts : HostInvariant old → old.world.fault ≡ None → RoundParts round old new
  -- whatever its hubs report
  pub order : RoundOrder round old new
