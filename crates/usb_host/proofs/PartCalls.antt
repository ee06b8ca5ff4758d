-- How what the parts of a round owe joins, and what is owed at a port.
use Rattle.std.proofs.Common.{◌≡◌, ◌+◌, ◌≤◌, arith, ℕ, Bool, List, Option, true, Result, Ok, Err}
use Rattle.std.proofs.Common.{IfErr, IsErrAnd}
use Rattle.usb_world.specs.{BusFault}
use Rattle.usb_hub.specs.{StillWorks}
use Rattle.usb_enum.specs.{EnumFault, EnumWorks}
use Rattle.usb_host.specs.{EndsAs, Forgets, HostFault, HostSpends, HostState, KeepsNumbers}
use Rattle.usb_host.specs.{LeavesNoMore, LeftStatuses, OnlyLeaves, PartCall, PartFaultAllowed}
use Rattle.usb_host.specs.{Quiet, Round, RoundCall, Worked, counts_of, either, Entered}
use Rattle.usb_host.specs.{HostReported, OnlyBusSteps, PortPart}
use Rattle.usb_host.proofs.BusCounts.{quiet_none, forgot_spent}
use Rattle.usb_host.proofs.arrivals.KeptNumbers.{keeps_forgets, keeps_then}
use Rattle.usb_host.proofs.PortServes.{entered_hubs}
use Rattle.usb_host.proofs.entries.KindCounts.{hubs-forgot}
use Rattle.usb_host.proofs.Looks.{stay_found, stay_without}

-- How what the parts of a round owe joins.

pub call_none : {A : Type 0} {modelled : Bool} {n : ℕ} {h : HostState} {x : A}
    → PartCall modelled n h (Ok x) h
call_none = grind arith

-- a part and then another
pub call_then : {A B : Type 0} {modelled : Bool} {m n : ℕ} {a b c : HostState} {x : A}
    {result : Result B HostFault} → PartCall modelled m a (Ok x) b → PartCall modelled n b result c
    → PartCall modelled (m + n) a result c
call_then {a = a} {b = b} {c = c} {result = result} first next = record {
  spends = omega (arith, first.spends, next.spends);
  numbers = keeps_then first.numbers next.numbers;
  told = next.told;
  works = grind arith;
}

pub call_after : {A B : Type 0} {modelled : Bool} {m n : ℕ} {a b c : HostState} {x : A}
    {result : Result B HostFault} → PartCall modelled n b result c → PartCall modelled m a (Ok x) b
    → PartCall modelled (m + n) a result c
call_after next first = call_then first next

pub call_within : {A : Type 0} {modelled : Bool} {m k : ℕ} {a b : HostState}
    {result : Result A HostFault} → PartCall modelled m a result b → m ≤ k
    → PartCall modelled k a result b
call_within call le = grind arith

-- its answer is another
pub call_wider : {A B : Type 0} {modelled : Bool} {m k : ℕ} {a b : HostState} {x : A} {y : B}
    → PartCall modelled m a (Ok x) b → m ≤ k → PartCall modelled k a (Ok y) b
call_wider call le = grind arith

-- both are done
pub call_next : {A B C : Type 0} {modelled : Bool} {m n k : ℕ} {a b c : HostState} {x : A} {y : B}
    {z : C} → PartCall modelled m a (Ok x) b → PartCall modelled n b (Ok y) c → m + n ≤ k
    → PartCall modelled k a (Ok z) c
call_next first next le = call_wider (call_then first next) le

-- its fault is handed on
pub call_fails : {A B : Type 0} {modelled : Bool} {m k : ℕ} {a b : HostState} {fault : HostFault}
    {other : Result B HostFault} → IsErrAnd other (λ why. why ≡ fault)
    → PartCall {A = A} modelled m a (Err fault) b → m ≤ k → PartCall modelled k a other b
call_fails is call le = grind arith

-- another root port is left alone, or none is any longer
pub call_leaves : {A : Type 0} {modelled : Bool} {n : ℕ} {a b c : HostState} {x : A}
    → PartCall modelled n a (Ok x) b → OnlyLeaves modelled b c → PartCall modelled n a (Ok x) c
call_leaves call rests = grind arith

-- its fault is the one of a part that did nothing
pub call_stays : {A : Type 0} {modelled : Bool} {n : ℕ} {h : HostState} {fault : HostFault}
    → PartFaultAllowed modelled fault h → PartCall {A = A} modelled n h (Err fault) h
call_stays told = grind arith

-- only what is known of the ports changed
pub call_stands : {A : Type 0} {modelled : Bool} {a b : HostState}
    {result : Result A HostFault} → b.counts ≡ a.counts → b.world ≡ a.world → KeepsNumbers a b
    → IfErr result (λ fault. PartFaultAllowed modelled fault b)
    → PartCall modelled 0 a result b
call_stands counts world numbers told = grind arith

pub call_forgets : {modelled : Bool} {path : List ℕ} {a b : HostState} → Forgets path a b
    → PartCall {A = Unit {0}} modelled 0 a (Ok tt) b
call_forgets forgot = grind (arith, keeps_forgets)

-- a call on the bus alone
pub call_bus : (modelled : Bool) (s t : ℕ) (f e : Option BusFault) (left : LeftStatuses) {n : ℕ}
    {a b : HostState} → a.counts ≡ counts_of modelled s f left
    → b.counts ≡ counts_of modelled t e left → t ≤ s + n → KeepsNumbers a b
    → (modelled ≡ true → StillWorks a.world b.world)
    → PartCall {A = Unit {0}} modelled n a (Ok tt) b
call_bus modelled s t f e left old new most numbers works = grind arith

-- a port was served, and its hub dropped where that is lost
pub call_finished : (m : ℕ) (served : Result (Unit {0}) EnumFault) {modelled : Bool} {n k : ℕ}
    {result : Result (Unit {0}) HostFault} {a b c : HostState} → PartCall modelled n b result c
    → EndsAs served result → HostSpends m a b → KeepsNumbers a b
    → (modelled ≡ true → EnumWorks served a.world b.world) → m + n ≤ k
    → PartCall modelled k a result c
call_finished m served {result = result} {a = a} {b = b} {c = c} next ends spends numbers
    works le = record {
      spends = omega (arith, spends, next.spends, le);
      numbers = keeps_then numbers next.numbers;
      told = next.told;
      works = grind arith;
    }

-- Rounds

pub round_none : {modelled : Bool} {n : ℕ} {h : HostState} → RoundCall modelled n h (Ok Quiet) h
round_none = search (call_none, quiet_none)

pub round_worked : {A : Type 0} {modelled : Bool} {m k : ℕ} {a b : HostState} {x : A}
    → PartCall modelled m a (Ok x) b → m ≤ k → RoundCall modelled k a (Ok Worked) b
round_worked call le = grind arith

pub round_then : {modelled : Bool} {m n k : ℕ} {a b c : HostState} {r s : Round}
    → RoundCall modelled m a (Ok r) b → RoundCall modelled n b (Ok s) c → m + n ≤ k
    → RoundCall modelled k a (Ok (either r s)) c
round_then {r = r} {s = s} first next le = record {
  part = call_next first.part next.part le;
  quiet = grind arith;
}

pub round_fails : {A : Type 0} {modelled : Bool} {m k : ℕ} {a b : HostState} {fault : HostFault}
    {other : Result Round HostFault} → IsErrAnd other (λ why. why ≡ fault)
    → PartCall {A = A} modelled m a (Err fault) b → m ≤ k → RoundCall modelled k a other b
round_fails is call le = grind arith

-- only the root ports that are left alone changed, to fewer
pub round_leaves : {modelled : Bool} {n : ℕ} {a b c : HostState} {r : Round}
    → RoundCall modelled n a (Ok r) b → OnlyLeaves modelled b c
    → LeavesNoMore b.counts.left c.counts.left → RoundCall modelled n a (Ok r) c
round_leaves round rests fewer = grind arith

pub round_wider : {modelled : Bool} {m k : ℕ} {a b : HostState} {r : Round}
    → RoundCall modelled m a (Ok r) b → m ≤ k → RoundCall modelled k a (Ok r) b
round_wider round le = grind arith

-- How what is owed at a port joins.

module _ {modelled : Bool} {path : List ℕ} where
  -- only the bus went on
  pub port_rests : {m k : ℕ} {a b : HostState} {result : Result (Unit {0}) EnumFault}
      → HostSpends m a b → HostReported modelled result b → OnlyBusSteps a b → m ≤ k
      → PortPart modelled path k a result b
  port_rests spends told rests le = grind arith

  pub port_after : (m : ℕ) {n k : ℕ} {a b c : HostState} {result : Result (Unit {0}) EnumFault}
      → PortPart modelled path n b result c → HostSpends m a b → OnlyBusSteps a b → m + n ≤ k
      → PortPart modelled path k a result c
  port_after m call spends rests le = grind arith

  -- another root port is left alone, or none is any longer
  pub port_leaves : {n : ℕ} {a b c : HostState} → PortPart modelled path n a (Ok tt) b
      → OnlyLeaves modelled b c → PortPart modelled path n a (Ok tt) c
  port_leaves call leaves = grind arith

  -- what was at the port is forgotten
  pub port_forgets : {n : ℕ} {a b : HostState} → Forgets path a b
      → PortPart modelled path n a (Ok tt) b
  port_forgets {a = a} {b = b} forgot = record {
    spends = omega (arith, forgot_spent forgot);
    numbers = keeps_forgets forgot;
    told = λ off. tt;
    stay = stay_without path a.entries forgot.rest;
    hubs = omega (arith, hubs-forgot path a b forgot.rest);
  }

  -- and what is there is entered, where nothing is listed before
  pub port_renews : {n : ℕ} {a b c : HostState} {result : Result (Unit {0}) EnumFault}
      → Forgets path a b → PortPart modelled path n b result c → PortPart modelled path n a result c
  port_renews {a = a} {b = b} {c = c} forgot call = record {
    spends = omega (arith, forgot_spent forgot, call.spends);
    numbers = keeps_then (keeps_forgets forgot) call.numbers;
    told = call.told;
    stay = grind (arith, stay_without);
    hubs = omega (arith, hubs-forgot path a b forgot.rest, call.hubs);
  }

  pub port_enters : {n : ℕ} {a b : HostState} {result : Result (Unit {0}) EnumFault}
      → HostSpends n a b → KeepsNumbers a b → HostReported modelled result b
      → Entered path a result b → PortPart modelled path n a result b
  port_enters spends numbers told entered = grind (arith, entered_hubs, stay_found)

  -- a fault is handed on
  pub port_handed : {n : ℕ} {a b : HostState} {fault : EnumFault}
      {other : Result (Unit {0}) EnumFault} → IsErrAnd other (λ why. why ≡ fault)
      → PortPart modelled path n a (Err fault) b → PortPart modelled path n a other b
  port_handed is call = grind arith
