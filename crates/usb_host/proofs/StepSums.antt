-- How many attempts are made at most, and how the parts of a round join.
use Rattle.std.proofs.Common.{◌≡◌, ◌∙◌, arith, ℕ, ◌+◌, ◌≤◌, List, None, Option, Err, IsErrAnd}
use Rattle.std.proofs.Common.{Result, false}
use Rattle.usb_world.specs.{World}
use Rattle.usb_bus.specs.{StepRun}
use Rattle.usb_enum.proofs.Interface.{went_sound, enumeration_most, status_most}
use Rattle.usb_bus.proofs.Interface.{went_none, went_then, went_wider}
use Rattle.usb_host.specs.{HostState, HostSteps, HostRuns, AddsNoWork, OnlyBusSteps, Did, either}
use Rattle.usb_host.specs.{Round, Quiet, StandsAt}
use Rattle.usb_hub.specs.{status_bound, HubPort}
use Rattle.usb_enum.specs.{EnumFault, Enumerates, Finding, IsWide, enumeration_bound, read_bound}
use Rattle.usb_enum.specs.{widest_enumeration}
use Rattle.usb_table.specs.{IsAskable, KnownPort, has_at, tier_of}
use Rattle.usb_host.specs.Accounts.{Accounts}

-- How the parts of a round join.

pub host_goes_none : {n : ℕ} {h : HostState} → HostRuns n h h
host_goes_none = grind (arith, went_none)

pub host_goes_then : {k m n : ℕ} {a b c : HostState} → HostRuns m a b → HostRuns n b c → m + n ≤ k
    → HostRuns k a c
host_goes_then {k = k} {m = m} {n = n} p q le = record {
  went = went_wider _ k (went_then m n p.went q.went) le;
  going = q.going ∙ p.going;
  options = q.options ∙ p.options;
}

pub goes_wider : {m k : ℕ} {a b : HostState} → HostRuns m a b → m ≤ k → HostRuns k a b
goes_wider p le = grind arith

-- a bus that is at work was so before
pub went_before : {n : ℕ} {old new : World} {t s : Option (List ℕ)} → StepRun n old t new s
    → new.fault ≡ None → old.fault ≡ None
went_before went h = search went_sound

-- what is forgotten takes no attempt
pub goes_forgotten : {n : ℕ} (a : HostState) {b c : HostState} → HostRuns n a b
    → c ≡ record b { entries = c.entries; pipes = c.pipes; addresses = c.addresses }
    → HostRuns n a c
goes_forgotten a g others = grind arith

pub host_rests_then : (a : HostState) {b : HostState} (c : HostState) → OnlyBusSteps a b
    → OnlyBusSteps b c → OnlyBusSteps a c
host_rests_then a c p q = grind arith

pub no_work_then : (a b c : HostState) → AddsNoWork a b → AddsNoWork b c → AddsNoWork a c
no_work_then a b c p q = omega arith

pub did_then : {m n : ℕ} (r s : Round) (a b c : HostState) → HostRuns m a b → HostRuns n b c
    → Did r a b → Did s b c → Did (either r s) a c
did_then r s a b c p q ab bc = grind arith

-- a call on the bus alone
pub goes_by : {n k : ℕ} (a b : HostState) → HostSteps n a b → n ≤ k → b.stopped ≡ a.stopped
    → b.options ≡ a.options → HostRuns k a b
goes_by a b w le e f = grind arith

pub either_quiet : (a b : Round) → either a b ≡ Quiet → (a ≡ Quiet) × (b ≡ Quiet)
either_quiet a b is = grind arith

-- a fault is handed on
pub handed_is : {A E : Type 0} {result : Result A E} {why : E} → IsErrAnd result (λ e. e ≡ why)
    → result ≡ Err why
handed_is is = grind arith

-- What requests to a port and an enumeration take at most.

pub askable_wide : (port : HubPort) → IsAskable port → IsWide port
askable_wide port h = grind arith

pub enumeration_goes : (port : HubPort) (a b : HostState) → IsAskable port
    → HostSteps (enumeration_bound port) a b → b.stopped ≡ a.stopped → b.options ≡ a.options
    → HostRuns widest_enumeration a b
enumeration_goes port a b askable w e f = search (askable_wide, enumeration_most, goes_by)

pub status_read_goes : (port : HubPort) (a b : HostState) → IsAskable port
    → HostSteps (status_bound port) a b → b.stopped ≡ a.stopped → b.options ≡ a.options
    → HostRuns (read_bound 4) a b
status_read_goes port a b askable w e f = search (askable_wide, goes_by, status_most)

-- an enumeration at a port of which nothing is listed
pub record EnumerationAt (n : ℕ) (path : List ℕ) (port : KnownPort)
    (result : Result Finding EnumFault) (a b : HostState) : Type 0 where
  pub stands : StandsAt path port a
  pub away : has_at path a.entries ≡ false
  pub accounts : Accounts a.entries a.addresses
  pub went : HostSteps n a b
  pub options : b.options ≡ a.options
  pub gives : Enumerates port.port a.addresses b.options (tier_of path) port.supply a.world result
      b.world
