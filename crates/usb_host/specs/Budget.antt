-- How many attempts what is left to do may take.
use Rattle.std.specs.Prelude.{◌≡◌, ◌≤◌, ◌⊎◌, ℕ, ◌+◌, ◌*◌, true, false, List, [], ◌∷◌, ◌++◌, length}
use Rattle.std.specs.Prelude.{All, None, Some, is_some, IsSome, Result, IfOk, OnOk}
use Rattle.usb_port.specs.{IsPath, PortState, has_bit, PortStatus}
use Rattle.usb_device.specs.{port_there, state_there}
use Rattle.usb_world.specs.{PlanData, IsPlan, AtPorts, AnyStep, Course, opening, World, changes}
use Rattle.usb_world.specs.{root_row}
use Rattle.usb_hub.specs.{looks_by, strays_by, unmarked, PortStatusAt}
use Rattle.usb_enum.specs.{PlugsWithin}
use Rattle.usb_table.specs.{known_port}
use Rattle.usb_host.specs.declared.fault.HostFault.{HostFault}
use Rattle.usb_host.specs.declared.host.Round.{Round}
use Rattle.usb_host.specs.declared.host.Round.TheVariants.{Worked, Quiet}
use Rattle.usb_host.specs.Backlog.{hubs}
use Rattle.usb_host.specs.HostStates.{HostState}
use Rattle.usb_host.specs.Ownership.{HostMapHolds}
use Rattle.usb_host.specs.Plugs.{HasPlugs, plug_events}
use Rattle.usb_host.specs.Soundness.{HostInvariant, RoundsSound}

-- What a host has at hand, and owes

-- the polls of a round, and the most bytes that the texts of a device say
pub record Weights : Type 0 where
  pub polls : ℕ
  pub most : ℕ

-- a change that asks for no look, a hub that is listed, a look, an event
abbrev pub stray_weight : Weights → ℕ
stray_weight c = 35968 + c.polls

abbrev pub hub_weight : Weights → ℕ
hub_weight c = 47168 + c.polls

abbrev pub look_weight : Weights → ℕ
look_weight c = 369104 + 100 * c.most + 3 * c.polls

abbrev pub event_weight : Weights → ℕ
event_weight c = 2992000 + 800 * c.most + 25 * c.polls

-- the attempts that are enough for what is left to do
abbrev pub debt : Weights → HostState → ℕ
debt c h = look_weight c * looks_by unmarked h.world.roots + stray_weight c * strays_by unmarked
    unmarked h.world.roots + hub_weight c * hubs h.entries

-- a host at work on a plan that fits these weights
pub record WorksOn (c : Weights) (plan : PlanData) (h : HostState) : Type 0 where
  pub sound : HostInvariant h
  pub working : h.world.fault ≡ None
  pub is : IsPlan plan
  pub paths : AtPorts plan.events
  pub course : Course AnyStep (opening plan) h.world
  pub within : All (λ e. PlugsWithin c.most plan.devices e.action) plan.events
  pub polls : c.polls ≡ 768 * length plan.events

-- one that has no more plugs than there are addresses
pub record Affords (c : Weights) (plan : PlanData) (h : HostState) : Type 0 where
  pub works : WorksOn c plan h
  pub few : plug_events plan.events ≤ 127
  pub plugs : HasPlugs plan.events h

-- Payment

-- what was left to do, or events, paid for the attempts, and for so many more
abbrev pub Pays : Weights → ℕ → HostState → HostState → Type 0
Pays c spare old new =
    new.world.attempts + debt c new + spare + event_weight c * old.world.taken
    ≤ old.world.attempts + debt c old + event_weight c * new.world.taken

-- so many attempts and no more were not paid for
abbrev pub Costs : Weights → ℕ → HostState → HostState → Type 0
Costs c most old new =
    new.world.attempts + debt c new + event_weight c * old.world.taken ≤ old.world.attempts + debt c
    old + event_weight c * new.world.taken + most

-- attempts are within what was left to do, events, and so many more
abbrev pub StopsWithin : Weights → ℕ → HostState → HostState → Type 0
StopsWithin c more old new =
    new.world.attempts + event_weight c * old.world.taken ≤ old.world.attempts + debt c old +
    event_weight c * new.world.taken + more

-- wherever it ended, attempts are within what was left to do, events, and one handling more
abbrev pub Stops : Weights → HostState → HostState → Type 0
Stops c old new = StopsWithin c (event_weight c) old new

-- a part of a round: wherever it ended it stopped within so much; and where it is done, and the bus
-- is at work, this is so of what it cost
pub record PaysPart {A : Type 0} (most : Weights → ℕ) (Done : Weights → A → HostState → HostState
    → Type 0)
    (old : HostState) (result : Result A HostFault) (new : HostState) : Type 0 where
  pub stops : (c : Weights) (plan : PlanData) → WorksOn c plan old → StopsWithin c (most c) old new
  pub pays : (c : Weights) (plan : PlanData) → WorksOn c plan old → new.world.fault ≡ None
      → IfOk result (λ x. Done c x old new)

-- Ports

-- the attempts of a handling, with the drop of a hub
abbrev pub handling_most : Weights → ℕ
handling_most c = 268400 + 100 * c.most

-- a port was handled: that is paid, and the polls of a round, a poll that told, and fourteen
-- statuses; or its status told of no change, and few attempts were made
pub data PortPaid (c : Weights) (path : List ℕ) (old new : HostState) : Type 0 where
  paid : Pays c (c.polls + 28768) old new → PortPaid c path old new
  idle : (status : PortStatus) (mid : World) → PortStatusAt path status old.world mid
      → status.connection_changed ≡ false → status.reset_changed ≡ false
      → Costs c 2000 old new → PortPaid c path old new

-- the port of a number was handled, where the hub is known and has it
abbrev pub NumberPaid : Weights → List ℕ → ℕ → Round → HostState → HostState → Type 0
NumberPaid c hub number Worked old new = PortPaid c (hub ++ (number ∷ [])) old new
NumberPaid c hub number Quiet old new = (new ≡ old)
    × (IsPath (hub ++ (number ∷ [])) → known_port (hub ++ (number ∷ [])) old.entries ≡ None)

-- The ports of which a hub told

-- the port shows a change of its connection, or of its reset
pub record ShowsChange (w : World) (path : List ℕ) : Type 0 where
  pub port : PortState
  pub there : port_there w.roots path ≡ Some port
  pub changed : (port.connection_changed ≡ true) ⊎ (port.reset_changed ≡ true)

-- bits tell of one port at least, and each of which they tell is known and shows a change
pub record ShowsTold (hub : List ℕ) (bits : ℕ) (h : HostState) : Type 0 where
  pub number : ℕ
  pub least : 1 ≤ number
  pub few : number ≤ 15
  pub set : has_bit bits number ≡ true
  pub known : (n : ℕ) → 1 ≤ n → n ≤ 15 → has_bit bits n ≡ true → IsPath (hub ++ (n ∷ []))
      × IsSome (known_port (hub ++ (n ∷ [])) h.entries)
  pub shows : (n : ℕ) → 1 ≤ n → n ≤ 15 → has_bit bits n ≡ true
      → ShowsChange h.world (hub ++ (n ∷ []))

-- a status of each port, and then a handling
abbrev pub told_most : Weights → ℕ
told_most c = 32000 + handling_most c

-- the ports of which a hub told were handled: but for statuses all is paid; and where they show
-- their changes, so are these, a poll, and the polls of
-- a round
pub record ToldPaid (hub : List ℕ) (bits : ℕ) (c : Weights) (old new : HostState) : Type 0 where
  pub costs : Costs c 32000 old new
  pub shown : ShowsTold hub bits old → Pays c (c.polls + 768) old new

-- Hubs

-- the same after a poll
abbrev pub poll_most : Weights → ℕ
poll_most c = 768 + told_most c

-- a hub was polled: where it told of a change, or was dropped, that is paid, and the polls of a
-- round; else a device stands there
abbrev pub HubPaid : List ℕ → Weights → Round → HostState → HostState → Type 0
HubPaid hub c Worked old new = Pays c c.polls old new
HubPaid hub c Quiet old new = Costs c 768 old new
    × (is_some (state_there new.world.roots hub) ≡ true)

-- and after those that told nothing
abbrev pub hubs_most : Weights → ℕ
hubs_most c = c.polls + poll_most c

-- A round

-- root ports that had changed are paid, and the polls of a round
abbrev pub RootsPaid : Weights → Round → HostState → HostState → Type 0
RootsPaid c Worked old new = Pays c c.polls old new
RootsPaid c Quiet old new = new ≡ old

-- a round that worked is paid for; a quiet one costs the polls of its hubs
abbrev pub RoundPaid : Weights → Round → HostState → HostState → Type 0
RoundPaid c Worked old new = Pays c 0 old new
RoundPaid c Quiet old new = Costs c c.polls old new

abbrev pub PaysDone : Weights → Result Round HostFault → HostState → HostState → Type 0
PaysDone c result old new = IfOk result (λ round. RoundPaid c round old new)

-- a round, by a host at work on such a plan
pub record PaysRound (c : Weights) (plan : PlanData) (old : HostState)
    (result : Result Round HostFault) (new : HostState) : Type 0 where
  pub most : Stops c old new
  pub pays : new.world.fault ≡ None → PaysDone c result old new
  pub plugs : OnOk result (new.world.fault ≡ None → HasPlugs plan.events new)

-- a whole round: devices hold the addresses that the host has for them, what is known stays so, and
-- what was left to do pays; where nothing is listed,
-- and no root port had changed, nothing is done
pub record RoundKeeps (old : HostState) (result : Result Round HostFault) (new : HostState) : Type 0
  where
    pub owning : HostMapHolds old → HostMapHolds new
    pub sound : RoundsSound old result new
    pub pays : (c : Weights) (plan : PlanData) → Affords c plan old
        → PaysRound c plan old result new
    pub rests : old.entries ≡ [] → changes (root_row old.world) ≡ 0 → new ≡ old
