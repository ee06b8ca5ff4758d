-- How a run goes up to its next item: the host settles, then an event comes.
use Rattle.std.specs.Prelude.{◌≡◌, false, Option, None, Some, Result, Ok, Err}
use Rattle.usb_world.specs.declared.event.Ask.{Ask}
use Rattle.usb_world.specs.{BusFault}
use Rattle.usb_bus.specs.{TakesEvent}
use Rattle.usb_table.specs.{Matches}
use Rattle.usb_host.specs.{HostFault, Round, Quiet, Agrees, RoundTells, HostState, OnlyBusSteps}
use Rattle.usb_host.specs.{RefusalsJustified, IsAtRest, IsFairTo, HostInvariant}
use Rattle.usb_run.specs.declared.runs.RunFault.{RunFault}
use Rattle.usb_run.specs.Run.{round_fault}
use Rattle.usb_run.specs.Transfers.{IsItemOf}

-- A host

-- what a host knows of its ports and devices is so; and where damage was fair, each refused device
-- has its cause
pub record Knows (h : HostState) : Type 0 where
  pub sound : HostInvariant h
  pub causes : IsFairTo h.world h.world → RefusalsJustified h.options h.world h.entries

-- a host has settled: it goes on, and what it knows is so; as long as the bus is at work nothing is
-- left to do, and where damage was fair it lists what is plugged
pub record Settled (h : HostState) : Type 0 where
  pub running : h.stopped ≡ false
  pub knows : Knows h
  pub rest : h.world.fault ≡ None → IsAtRest h.world h.entries
  pub matches : IsFairTo h.world h.world → Matches h.options h.world h.entries

-- Rounds

-- a round failed, and this ends the run
pub record RoundFails (old : HostState) (fault : RunFault) (new : HostState) : Type 0 where
  pub why : HostFault
  pub tells : RoundTells old (Err why) new
  pub ends : fault ≡ round_fault why

-- one round of a run
abbrev pub OneRound : HostState → Result Round RunFault → HostState → Type 0
OneRound old (Ok round) new = RoundTells old (Ok round) new
OneRound old (Err fault) new = RoundFails old fault new

-- a round that ends settling: it was quiet, and no event came in it
pub record EndsSettling (round : Round) (old new : HostState) : Type 0 where
  pub quiet : round ≡ Quiet
  pub none : new.world.taken ≡ old.world.taken

-- rounds one after the other, none of which ends settling
pub data Rounds (old : HostState) : HostState → Type 0 where
  none : Rounds old old
  more : {h k : HostState} (round : Round) → Rounds old h → RoundTells h (Ok round) k
      → (EndsSettling round h k → ⊥) → Rounds old k

-- a host settled: rounds, of which the last alone ends settling
pub record Settles (old new : HostState) : Type 0 where
  pub before : HostState
  pub rounds : Rounds old before
  pub round : Round
  pub last : RoundTells before (Ok round) new
  pub ends : EndsSettling round before new

-- settling was cut off: its last round failed
pub record Unsettled (old : HostState) (fault : RunFault) (new : HostState) : Type 0 where
  pub before : HostState
  pub rounds : Rounds old before
  pub last : RoundFails before fault new

-- what `settle` does
abbrev pub Settling : HostState → Result (Unit {0}) RunFault → HostState → Type 0
Settling old (Ok done) new = Settles old new
Settling old (Err fault) new = Unsettled old fault new

-- what settling leaves of a host, by what was so before: the bus still works, if it did; that the
-- table agrees with the addresses is so of every host, as `tree` tells
pub record LeavesSettled (old new : HostState) : Type 0 where
  pub works : old.world.fault ≡ None → new.world.fault ≡ None
  pub rest : HostInvariant old → new.world.fault ≡ None → IsAtRest new.world new.entries
  pub settled : Agrees new.options new.entries new.addresses → Knows old → Settled new

-- Events

-- the next event came, or none was left, or the bus told its fault; no line but the event's was
-- written, and the host keeps what it had
pub record Comes (old : HostState) (result : Result (Option (Option Ask)) BusFault)
    (new : HostState) : Type 0 where
  pub takes : TakesEvent old.world old.trace result new.world new.trace
  pub rests : OnlyBusSteps old new
  pub agrees : Agrees old.options old.entries old.addresses

-- the host settled, and then the next event came, or none was left, or the bus told its fault
pub record Arrives (old : HostState) (result : Result (Option (Option Ask)) BusFault)
    (new : HostState) : Type 0 where
  pub mid : HostState
  pub settles : Settles old mid
  pub settled : Settled mid
  pub comes : Comes mid result new

-- events that make no item, before each of which the host settles
pub data Ran (old : HostState) : HostState → Type 0 where
  idle : Ran old old
  silent : {h k : HostState} (due : Option Ask) → Ran old h → Arrives h (Ok (Some due)) k
      → IsItemOf due None k k → Ran old k

-- such events, and then one more, or none that was left, or the bus's fault
pub record Reaches (old : HostState) (result : Result (Option (Option Ask)) BusFault)
    (new : HostState) : Type 0 where
  pub behind : HostState
  pub ran : Ran old behind
  pub arrives : Arrives behind result new

-- a part of a run that goes so where what its host knew was so
abbrev pub Knowing : {A : Type 0} (Goes : HostState → Result A RunFault → HostState → Type 0)
    → HostState → Result A RunFault → HostState → Type 0
Knowing Goes old result new = Knows old → Goes old result new
