-- That the host gets on.
use Rattle.std.proofs.Common.{◌≡◌, refl, ap, arith, ℕ, ◌+◌, ◌≤◌, ◌⊎◌, List, Ok, Err, Result, OnOk}
use Rattle.usb_port.specs.{PortStatus, IsFull}
use Rattle.usb_world.proofs.Interface.{way_itself}
use Rattle.usb_enum.specs.declared.cause.Cause.TheVariants as cause
use Rattle.usb_enum.specs.{EnumFault, FaultAllowedAt}
use Rattle.usb_table.specs.{Replaced, without, is_waiting}
use Rattle.usb_host.specs.{Forgets, HostState, work, HostFault, Waits, Gained, ProgressOrLost}
use Rattle.usb_host.specs.{EndsAs, EntersOne, HostRuns, OnlyBusSteps, AddsNoWork, HostProgress}
use Rattle.usb_host.specs.{waiting, ProgressOnOk, IsDue, Shown}
use Rattle.usb_host.proofs.entries.KindCounts.{of_kind-entered, of_kind-without}
use Rattle.usb_host.proofs.entries.KindCounts.{of_kind-without_one, waiting-entered_other}
use Rattle.usb_hub.specs.{HubPort}

-- That the host gets on by a look at a port.

-- where an address is free, what is entered does not wait
pub enters_other : (path : List ℕ) (c d : HostState) → EntersOne path c d → (IsFull c.addresses → ⊥)
    → waiting d.entries ≤ waiting c.entries
enters_other path c d e free = grind (arith, waiting-entered_other)

pub enters_few : (path : List ℕ) (c d : HostState) → EntersOne path c d
    → waiting d.entries ≤ waiting c.entries + 1
enters_few path c d e =
    omega (arith, ap waiting e.entries, of_kind-entered is_waiting path e.finding c.entries)

module _ {path : List ℕ} {m n : ℕ} {a b c d : HostState} (g : HostRuns m a b)
    (r : OnlyBusSteps a b) (f : Forgets path b c) (h : HostRuns n c d) where
  looks_due : Gained a.world b.world → waiting d.entries ≤ waiting c.entries + 1 → HostProgress a d
  looks_due gained few =
      let same : waiting b.entries ≡ waiting a.entries = grind arith in
      let left : waiting c.entries ≡ waiting (without path b.entries) = ap waiting f.rest in
      let done : work c.world ≡ work b.world = grind arith in
      let made : c.world.attempts ≡ b.world.attempts = grind arith in
      omega (
        arith,
        of_kind-without is_waiting path b.entries,
        h.went.spends.served,
        h.went.spends.later,
      )

  looks_waits : Waits path a → waiting d.entries ≤ waiting c.entries → HostProgress a d
  looks_waits w fewer =
      let same : waiting b.entries ≡ waiting a.entries = grind arith in
      let found = rw (← (ap (λ (x : HostState). x.entries) r)) at w.entry in
      let left : waiting c.entries ≡ waiting (without path b.entries) = ap waiting f.rest in
      let done : work c.world ≡ work b.world = grind arith in
      let made : c.world.attempts ≡ b.world.attempts = grind arith in
      omega (
        arith,
        of_kind-without_one is_waiting path path _ b.entries (way_itself path) refl found,
        h.went.spends.served,
        h.went.spends.later,
        g.went.spends.served,
        g.went.spends.later,
      )

  -- a change was to be served, or a device waits for an address and one is free
  pub looks : {Due : Type 0} → (Due → Gained a.world b.world)
      → waiting d.entries ≤ waiting c.entries + 1
      → ((IsFull c.addresses → ⊥) → waiting d.entries ≤ waiting c.entries) → Due ⊎ Waits path a
      → HostProgress a d
  looks gains few other h = grind (arith, looks_due, looks_waits)

pub served_any : (result : Result (Unit {0}) EnumFault) (a d : HostState) → HostProgress a d
    → ProgressOrLost result a d
served_any result a d on = grind arith

-- a port was served, and the rest of its handling took nothing back
pub handled : {Due : Type 0} (result : Result (Unit {0}) HostFault)
    (served : Result (Unit {0}) EnumFault) (a b c : HostState) → EndsAs served result
    → AddsNoWork b c → (Due → ProgressOrLost served a b) → OnOk result (Due → HostProgress a c)
handled result served a b c ends holds s = grind arith

-- what stood at the port and below it is forgotten
pub without_rests : {path : List ℕ} (a : HostState) {b c : HostState} → OnlyBusSteps a b
    → Forgets path b c → c.entries ≡ without path a.entries
without_rests a r f = grind arith

pub renews : {path : List ℕ} (a : HostState) {b c d : HostState} → OnlyBusSteps a b
    → Forgets path b c → EntersOne path c d → Replaced path (without path a.entries) d.entries
renews a r f one = grind arith

-- That the host gets on where a port is served, and where a hub is polled.

pub rests_holds : {n : ℕ} (a b : HostState) → HostRuns n a b → OnlyBusSteps a b → AddsNoWork a b
rests_holds a b g r = grind arith

-- a request for the status failed: a hub was asked
pub status_lost_on : (port : HubPort) (a b : HostState) → OnlyBusSteps a b → (fault : EnumFault)
    → Shown port (Err fault) a.world b.world → ProgressOrLost (Err fault) a b
status_lost_on port a b r fault shown = grind arith

-- a request failed that had gained
pub failed_on_way : (A : Type 0) (a b : HostState) (fault : EnumFault) → OnlyBusSteps a b
    → ProgressOnOk {A = A} (Err fault) a.world b.world → ProgressOrLost (Err fault) a b
failed_on_way A a b fault r gains = grind arith

-- a port whose hub is lost is that hub's
pub lost_on : (A : Type 0) (port : HubPort) (a b : HostState) (fault : EnumFault) → OnlyBusSteps a b
    → (IsDue a.world port → ProgressOnOk {A = A} (Err fault) a.world b.world)
    → FaultAllowedAt port fault b.world → ProgressOrLost (Err fault) a b
lost_on A port a b fault r gains told = grind arith

-- a status told of a change, and the port was looked at
pub looked_on : {n : ℕ} (port : HubPort) (a b c : HostState) (result : Result (Unit {0}) EnumFault)
    (status : PortStatus) → OnlyBusSteps a b → Shown port (Ok status) a.world b.world
    → HostRuns n a b → {Waits : Type 0} → (IsDue b.world port ⊎ Waits → ProgressOrLost result b c)
    → IsDue a.world port → ProgressOrLost result a c
looked_on port a b c result status r shown g looks due = grind arith
