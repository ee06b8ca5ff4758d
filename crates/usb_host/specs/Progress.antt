-- That a round gets on.
use Rattle.std.specs.Prelude.{◌≡◌, ℕ, ◌+◌, ◌*◌, ◌<◌, ◌≤◌, Bool, true, Result, IfOk}
use Rattle.std.specs.List.{count_by}
use Rattle.usb_world.specs.{root_row, changes}
use Rattle.usb_bus.specs.{StepRun}
use Rattle.usb_table.specs.{Entries, is_waiting}
use Rattle.usb_host.specs.HostStates.{HostState, work}
use Rattle.usb_host.specs.LeftPorts.{LeavesNoMore}
use Rattle.usb_host.specs.Numbers.{KeepsKnown, Known}
use Rattle.usb_host.specs.Ownership.{IsRooted}
use Rattle.usb_host.specs.declared.fault.HostFault.{HostFault}
use Rattle.usb_host.specs.declared.host.Round.{Round}
use Rattle.usb_host.specs.declared.host.Round.TheVariants.{Worked, Quiet}

-- how many devices wait for an address
abbrev pub waiting : Entries → ℕ
waiting entries = count_by (λ e. is_waiting e.1) entries

-- what is left to do without an attempt; a change that is served may leave one device more that
-- waits
abbrev pub idle_work : HostState → ℕ
idle_work h = 2 * work h.world + waiting h.entries

-- no more is left to do than before, but by attempts: each attempt may leave two things more
abbrev pub AddsNoWork : HostState → HostState → Type 0
AddsNoWork old new = idle_work new + 2 * old.world.attempts ≤ idle_work old + 2 * new.world.attempts

-- the same, and something was done: an attempt was made, or less is left to do
abbrev pub HostProgress : HostState → HostState → Type 0
HostProgress old new = idle_work new + 2 * old.world.attempts < idle_work old + 2 *
    new.world.attempts

-- nothing that the host keeps has changed
abbrev pub OnlyBusSteps : HostState → HostState → Type 0
OnlyBusSteps old new =
    new ≡ record old { world = new.world; trace = new.trace; counts = new.counts }

-- nothing has changed but which root ports are left alone, and of a modelled bus none is
pub record OnlyLeaves (modelled : Bool) (old new : HostState) : Type 0 where
  pub only : new ≡ record old { counts = record old.counts { left = new.counts.left } }
  pub none : modelled ≡ true → new ≡ old

-- nothing that is known of the ports has changed; hubs may have been polled
abbrev pub Remains : HostState → HostState → Type 0
Remains old new = new ≡ record old {
  world = new.world;
  trace = new.trace;
  counts = new.counts;
  pipes = new.pipes;
}

-- what a driver may know of the accepted devices
abbrev pub known_in : HostState → Known
known_in h = record {
  entries = h.entries;
  numbers = h.numbers;
  reported = h.reported;
  options = h.options;
}

-- over any bus: each device that is still listed keeps its number, and no number is given twice
abbrev pub KeepsNumbers : HostState → HostState → Type 0
KeepsNumbers old new = KeepsKnown (known_in old) (known_in new)

-- over any bus that is not modelled: at most so many attempts were made
abbrev pub HostSpends : ℕ → HostState → HostState → Type 0
HostSpends most old new = new.counts.spent ≤ old.counts.spent + most

-- at most so many attempts were made, and what was written is the text of the bus's steps
abbrev pub HostSteps : ℕ → HostState → HostState → Type 0
HostSteps most old new = StepRun most old.world old.trace new.world new.trace

-- so it went, and the host goes on as the one that it is
pub record HostRuns (most : ℕ) (old new : HostState) : Type 0 where
  pub went : HostSteps most old new
  pub going : new.stopped ≡ old.stopped
  pub options : new.options ≡ old.options

-- no entry has changed, and no more root ports are left alone
pub record StaysQuiet (old new : HostState) : Type 0 where
  pub entries : new.entries ≡ old.entries
  pub left : LeavesNoMore old.counts.left new.counts.left

-- over any bus: so it is behind a part of a round that is quiet
abbrev pub QuietKeeps : Result Round HostFault → HostState → HostState → Type 0
QuietKeeps result old new = IfOk result (λ round. round ≡ Quiet → StaysQuiet old new)

-- what a part of a round did
abbrev pub Did : Round → HostState → HostState → Type 0
Did Worked old new = HostProgress old new
Did Quiet old new = Remains old new

abbrev pub either : Round → Round → Round
either Worked other = Worked
either Quiet other = other

-- what a round did: it got on, or no port had changed; and entries still stand below the ports of
-- the root
pub record DidRound (round : Round) (old new : HostState) : Type 0 where
  pub worked : round ≡ Worked → HostProgress old new
  pub quiet : round ≡ Quiet → Remains old new × (changes (root_row old.world) ≡ 0)
  pub rooted : IsRooted old → IsRooted new
