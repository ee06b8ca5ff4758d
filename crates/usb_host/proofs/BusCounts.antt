-- What a bus counts and reports, and which root ports are left alone, as its host has it.
use Rattle.std.proofs.Common.{◌≡◌, ◌+◌, ◌≤◌, arith, ℕ, Bool, true, false, Option, Some, refl, List}
use Rattle.std.proofs.Common.{Result, Ok, IfErr, inr, ◌-◌, length}
use Rattle.usb_world.specs.{BusFault, ClearsRoot, IsRootPort, World, root_port_at, root_row}
use Rattle.usb_enum.specs.{EnumFault, IsReported}
use Rattle.usb_table.specs.{TableFault, TransferTold}
use Rattle.usb_table.specs.declared.fault.TableFault.TheVariants as table
use Rattle.usb_host.specs.{HostFault, HostState, Forgets, IsReportedLast, LeftStatuses}
use Rattle.usb_host.specs.{PartFaultAllowed, counts_of, host_told, no_counts, LeavesNoMore}
use Rattle.usb_host.specs.{OnlyBusSteps, OnlyLeaves, QuietKeeps, Round, StaysQuiet, ClearsAndAsks}
use Rattle.usb_host.specs.{ClearsPort, ClearsWhere, InOrder, IsCleared}
use Rattle.usb_host.specs.declared.fault.HostFault.TheVariants as host
use Rattle.std.proofs.lemmas.List.{get_or-set_same}
use Rattle.usb_request.specs.{C_PORT_CONNECTION, PORT_ENABLE}
use Rattle.usb_port.specs.{PortStatus, off}
use Rattle.usb_hub.specs.{HubPort, IsPort, Root, External}

-- What a bus counts and reports, as its host has it.

pub counts_spend : (m : Bool) (s t : ℕ) (f e : Option BusFault) (left : LeftStatuses) {n : ℕ}
    (k : ℕ) → t ≤ s + n → n ≤ k → (counts_of m t e left).spent ≤ (counts_of m s f left).spent + k
counts_spend m s t f e left k most le = grind arith

reported : {A : Type 0} (f : Option BusFault) (outcome : Result A TableFault)
    → TransferTold outcome f → IfErr (host_told outcome) (λ fault. IsReportedLast fault f)
reported f outcome told = grind arith

module _ (s : ℕ) (f : Option BusFault) (l : LeftStatuses) where
  pub counts_told : {A : Type 0} (m : Bool) (result : Result A EnumFault)
      → IfErr result (λ fault. IsReported fault f) → m ≡ false
      → IfErr result (λ fault. IsReported fault (counts_of m s f l).failed)
  counts_told m result told off = grind arith

  pub counts_last : (m : Bool) {fault : BusFault} → f ≡ Some fault → m ≡ false
      → (counts_of m s f l).failed ≡ Some fault
  counts_last m told off = grind arith

pub part_reported : {A : Type 0} (m : Bool) (result : Result A HostFault) (h : HostState)
    → IfErr result (λ fault. PartFaultAllowed m fault h) → m ≡ false
    → IfErr result (λ fault. IsReportedLast fault h.counts.failed)
part_reported m result h told counted = grind arith

pub counts_known : (m : Bool) (s : ℕ) (f : Option BusFault) (l : LeftStatuses) → m ≡ true
    → counts_of m s f l ≡ no_counts
counts_known m s f l known = grind arith

pub forgot_spent : {path : List ℕ} {a b : HostState} → Forgets path a b
    → b.counts.spent ≡ a.counts.spent
forgot_spent f = grind arith

-- Which root ports are left alone is no step of the bus.

-- no step

pub leaves_rests : {m : Bool} {a b : HostState} → OnlyLeaves m a b → OnlyBusSteps a b
leaves_rests x = grind arith

-- no more

pub no_more : (l : LeftStatuses) → LeavesNoMore l l
no_more l = record { each = λ n. inr refl }

-- of the same root ports they tell, whatever was counted and reported
pub counts_keep : {W : Type 0} (m : Bool) (spent : W → ℕ) (failed : W → Option BusFault)
    (left : LeftStatuses) (bus after : W)
    → LeavesNoMore (counts_of m (spent bus) (failed bus) left).left
    (counts_of m (spent after) (failed after) left).left
counts_keep m spent failed left bus after = grind arith

-- Quiet

pub quiet_none : (h : HostState) → StaysQuiet h h
quiet_none h = grind arith

-- only the host's own stop is new
pub quiet_stopped : (result : Result Round HostFault) (a b : HostState) (stopped : Bool)
    → QuietKeeps result a b → QuietKeeps result a (record b { stopped = stopped })
quiet_stopped result a b stopped q = grind arith

-- A root port of a world tells of no change right behind its clearing.

cleared_row : (w v : World) (n : ℕ) → 1 ≤ n → n ≤ length (root_row w)
    → ClearsRoot n C_PORT_CONNECTION w v → (root_port_at v n).connection_changed ≡ false
unfolding root_port_at
cleared_row w v n least most c = grind (arith, get_or-set_same)

module _ {d : HostState} (number : ℕ) {status : PortStatus} where
  disabled_after : {c : HostState} {s : PortStatus}
      → InOrder (ClearsWhere s.enabled (Root number) PORT_ENABLE)
      (λ done h answer k. (answer ≡ Ok s) × (k ≡ h)) c (Ok status) d → status ≡ s
  disabled_after h = grind arith

  read_clear : {a : HostState} → IsRootPort a.world number
      → ClearsAndAsks (Root number) a (Ok status) d → status.connection_changed ≡ false
  read_clear is h = grind (arith, cleared_row)

-- of a bus that does what its world does each change is taken away
pub root_cleared : {a d : HostState} (port : HubPort) {status : PortStatus} → IsPort a.world port
    → ClearsPort port a (Ok status) d → IsCleared port status
root_cleared (External hub number) is x = tt
root_cleared (Root number) is x = read_clear number is x.order
