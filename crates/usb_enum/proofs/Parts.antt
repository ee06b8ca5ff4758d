-- How parts of an enumeration join.
use Rattle.std.proofs.Common.{◌≡◌, ◌+◌, ◌*◌, ◌<◌, ◌≤◌, ℕ, Bool, true, false, List, Option, None}
use Rattle.std.proofs.Common.{Some, Result, Ok, Err, IfErr, IsErrAnd, arith, refl}
use Rattle.std.proofs.Math.Nat.{mul-le-mul_right, suc-mul}
use Rattle.std.specs.Global.{Vec}
use Rattle.std.specs.Prelude.{⊤}
use Rattle.usb_request.specs.{Setup, set_address, set_configuration}
use Rattle.usb_device.specs.{Spec}
use Rattle.usb_world.specs.{BusFault, EachWas, World}
use Rattle.usb_bus.specs.{Steps}
use Rattle.usb_bus.proofs.Interface.{went_none, went_wider}
use Rattle.usb_transfer.specs.{Target, BusToldIt, FaultAfter, PipeFault, UsesBus, control_bound}
use Rattle.usb_hub.specs.{KeepsAddresses, HubPort, GivesAddress, TextAsked, Queried, Commanded}
use Rattle.usb_hub.specs.{AddressAsked, ConfigurationAsked, EndsAfter, WorksAfter}
use Rattle.usb_transfer.proofs.Interface.{bound_wide}
use Rattle.usb_enum.specs.{AtPort, read_bound, OnlyAsks, OnlySets, OnlyTells, FailsAt, Gone, Cause}
use Rattle.usb_enum.specs.{EnumFault, IsReportedStop, Part, Stop, StopNotOfBus, answered_or}
use Rattle.usb_enum.specs.{as_stop, at_port, stop_in, Went}
use Rattle.usb_enum.proofs.courses.Courses.{keeping, went_on_more, went_steps}
use Rattle.usb_enum.proofs.devices.Frames.{asks_none, asks_then, at_addressed, at_port_none}
use Rattle.usb_enum.proofs.devices.Frames.{at_port_then, configuration_sets, sets_asked, sets_then}
use Rattle.usb_enum.proofs.devices.Frames.{tells_none, tells_then, answer_asks}
use Rattle.usb_enum.proofs.stops.PlainStops.{answers_reported, port_reported}
use Rattle.usb_enum.proofs.stops.Reasons.{AtPortFails, call_ends}

-- What is kept where nothing went, and from one part to the next

pub record Keeping (Keeps : World → World → Type 0) : Type 0 where
  pub none : (w : World) → Keeps w w
  pub joined : (old mid new : World) → Keeps old mid → Went old mid → Went mid new
      → Keeps mid new → Keeps old new

pub asking : Keeping OnlyAsks
asking = record { none = asks_none; joined = asks_then }

pub telling : (address : ℕ) → Keeping (OnlyTells address)
telling address = search (tells_none, tells_then)

pub setting : (address : ℕ) → Keeping (OnlySets address)
setting address = search (asks_none, sets_asked, sets_then)

pub enumerating : (port : HubPort) (address : ℕ) → Keeping (AtPort port address)
enumerating port address = search (at_port_none, at_port_then)

module _ {S : Type 0} {modelled : Bool} {world : S → World} {trace : S → Option (List ℕ)}
    {spent ports : S → ℕ} {failed : S → Option BusFault} where
  -- What went, and went on

  pub gone_none : {K : World → World → Type 0} (n : ℕ) {old : S} → Keeping K
      → Gone modelled world trace spent ports failed K n old None old
  gone_none n {old} kept = record {
    spends = (omega arith, refl);
    told = tt;
    steps = λ known. keeping (went_wider 0 n went_none (omega arith)) (kept.none (world old));
    works = λ known sound none. none;
  }

  -- where what was kept in both joins to this
  pub gone_behind : {K L M : World → World → Type 0} {m n k : ℕ} {old mid new : S}
      {stop : Option Stop} → Gone modelled world trace spent ports failed K m old None mid
      → Gone modelled world trace spent ports failed L n mid stop new
      → (modelled ≡ true → M (world old) (world new)) → m + n ≤ k
      → Gone modelled world trace spent ports failed M k old stop new
  gone_behind {k} first next keeps le =
      record {
        spends = grind arith;
        told = next.told;
        steps = λ known. keeping (went_on_more k
            (first.steps known).run (next.steps known).run le) (keeps known);
        works = grind arith;
      }

  pub gone_then : {K : World → World → Type 0} {m n k : ℕ} {old mid new : S} {stop : Option Stop}
      → Keeping K → Gone modelled world trace spent ports failed K m old None mid
      → Gone modelled world trace spent ports failed K n mid stop new → m + n ≤ k
      → Gone modelled world trace spent ports failed K k old stop new
  gone_then {old} {mid} {new} kept first next =
      gone_behind first next (grind arith)

  pub gone_joined : {K : World → World → Type 0} {m n : ℕ} {old mid new : S} {stop : Option Stop}
      → Keeping K → Gone modelled world trace spent ports failed K m old None mid
      → Gone modelled world trace spent ports failed K n mid stop new
      → Gone modelled world trace spent ports failed K (m + n) old stop new
  gone_joined kept first next = gone_then kept first next (omega arith)

  pub gone_wider : {K : World → World → Type 0} {m n : ℕ} {old new : S} {stop : Option Stop}
      → Gone modelled world trace spent ports failed K m old stop new → m ≤ n
      → Gone modelled world trace spent ports failed K n old stop new
  gone_wider gone le = grind arith

  -- so many times the same, once more, and no more than there may be
  pub gone_again : {K : World → World → Type 0} (k : ℕ) {n : ℕ} {old mid new : S}
      {stop : Option Stop} → Keeping K
      → Gone modelled world trace spent ports failed K (k * n) old None mid
      → Gone modelled world trace spent ports failed K n mid stop new
      → Gone modelled world trace spent ports failed K ((k + 1) * n) old stop new
  gone_again k {n} kept first next = gone_then kept first next (omega (arith, suc-mul k n))

  pub gone_times : {K : World → World → Type 0} (k m n : ℕ) {old new : S} {stop : Option Stop}
      → Gone modelled world trace spent ports failed K (k * n) old stop new → k ≤ m
      → Gone modelled world trace spent ports failed K (m * n) old stop new
  gone_times k m n gone le = gone_wider gone (mul-le-mul_right n le)

  pub gone_more : {K : World → World → Type 0} (k m : ℕ) {n : ℕ} {old mid new : S}
      {stop : Option Stop} → Keeping K
      → Gone modelled world trace spent ports failed K (k * n) old None mid
      → Gone modelled world trace spent ports failed K n mid stop new → k < m
      → Gone modelled world trace spent ports failed K (m * n) old stop new
  gone_more k m {n} kept first next less =
      gone_times (k + 1) m n (gone_again k kept first next) (omega (arith, less))

  -- what is kept keeps something else
  pub gone_as : {K L : World → World → Type 0} {n : ℕ} {old new : S} {stop : Option Stop}
      → ((v w : World) → K v w → L v w)
      → Gone modelled world trace spent ports failed K n old stop new
      → Gone modelled world trace spent ports failed L n old stop new
  gone_as f gone = grind arith

  -- then something stopped it
  pub gone_stopped : {K : World → World → Type 0} {n : ℕ} {old new : S} {stop : Stop}
      → Gone modelled world trace spent ports failed K n old None new
      → IsReportedStop stop (failed new)
      → Gone modelled world trace spent ports failed K n old (Some stop) new
  gone_stopped gone told = grind arith

  -- what is an end of a request need not stop what goes on
  pub gone_on : {K : World → World → Type 0} {n : ℕ} {old new : S} {stop : Stop}
      → Gone modelled world trace spent ports failed K n old (Some stop) new → StopNotOfBus stop
      → Gone modelled world trace spent ports failed K n old None new
  gone_on gone sound = grind arith

  -- or perhaps nothing
  pub gone_ended : {A : Type 0} {K : World → World → Type 0} {n : ℕ} {old new : S}
      (result : Result A Stop) → Gone modelled world trace spent ports failed K n old None new
      → IfErr result (λ stop. IsReportedStop stop (failed new))
      → Gone modelled world trace spent ports failed K n old (stop_in result) new
  gone_ended result gone told = grind arith

  -- Requests

  pub gone_answered : {A : Type 0} {K : World → World → Type 0} {n : ℕ} (least : ℕ)
      (stalled : Cause) (outcome : Result A PipeFault) {result : Result A Stop} {old new : S}
      → result ≡ answered_or stalled outcome
      → UsesBus modelled (Steps world trace) spent ports failed n (BusToldIt outcome) old new
      → (modelled ≡ true → EndsAfter least (world old) outcome (world new))
      → (modelled ≡ true → K (world old) (world new))
      → Gone modelled world trace spent ports failed K n old (stop_in result) new
  gone_answered least stalled outcome {old} {new} is uses ends keeps = rw is (record {
    spends = uses.spends;
    told = search (answers_reported, uses.told);
    steps = search (keeping, uses.steps);
    works = grind arith;
  })

  -- at a maximum packet of 8 or more
  pub uses_read : {Told : Option BusFault → Type 0} (max bytes : ℕ) {old new : S} → 8 ≤ max
      → UsesBus modelled (Steps world trace) spent ports failed (control_bound max bytes) Told old
      new → UsesBus modelled (Steps world trace) spent ports failed (read_bound bytes) Told old new
  uses_read max bytes wide h = grind (arith, bound_wide)

  -- for data
  pub gone_asked : (given : Spec → Option (List ℕ)) {t : Target} {request : Setup} {wanted : ℕ}
      (bytes : ℕ) (stalled : Cause) {outcome : Result (Vec ℕ) PipeFault}
      {result : Result (Vec ℕ) Stop} {old new : S} → 8 ≤ t.max
      → result ≡ answered_or stalled outcome → UsesBus modelled (Steps world trace) spent ports
      failed (control_bound t.max bytes) (BusToldIt outcome) old new
      → (modelled ≡ true → Queried t request (world old) outcome (world new)) → (modelled ≡ true
      → (world new).shared ≡ false → EachWas (TextAsked given t wanted outcome) (world old)
      (world new)) → (modelled ≡ true → KeepsAddresses (world old) (world new)) → Gone modelled
      world trace spent ports failed OnlyAsks (read_bound bytes) old (stop_in result) new
  gone_asked given {t} bytes stalled {outcome} wide is uses asked what keeps =
      gone_answered 3 stalled outcome is (uses_read t.max bytes wide uses)
      (grind arith) (λ known. answer_asks (asked known) (what known) (keeps known))

  -- SET_ADDRESS, at address 0
  pub gone_addressed : {p : HubPort} {a m n : ℕ} {t : Target} (stalled : Cause)
      {outcome : Result (Unit {0}) PipeFault} {result : Result (Unit {0}) Stop} {old mid new : S}
      → Gone modelled world trace spent ports failed (AtPort p a) m old None mid → t.addr ≡ 0
      → 1 ≤ a → result ≡ answered_or stalled outcome
      → UsesBus modelled (Steps world trace) spent ports failed n (BusToldIt outcome) mid new
      → (modelled ≡ true → Commanded t (set_address a) (world mid) outcome (world new))
      → (modelled ≡ true → (world new).shared ≡ false
      → EachWas (AddressAsked t a outcome (world mid) (world new)) (world mid) (world new))
      → (modelled ≡ true → GivesAddress t.addr a (world mid) (world new))
      → Gone modelled world trace spent ports failed (AtPort p a) (m + n) old (stop_in result) new
  gone_addressed stalled {outcome} first zero least is uses
      ordered what gives =
      gone_behind first (gone_answered {K = λ v w. ⊤} 2 stalled outcome is uses
      (grind arith) (λ known. tt)) (λ known. at_addressed
      (first.steps known).keeps zero least (went_steps (uses.steps known))
      (ordered known) (what known) (gives known)) (omega arith)

  -- SET_CONFIGURATION
  pub gone_set : {n value : ℕ} {t : Target} (stalled : Cause)
      {outcome : Result (Unit {0}) PipeFault} {result : Result (Unit {0}) Stop} {old new : S}
      → result ≡ answered_or stalled outcome
      → UsesBus modelled (Steps world trace) spent ports failed n (BusToldIt outcome) old new
      → (modelled ≡ true → Commanded t (set_configuration value) (world old) outcome (world new))
      → (modelled ≡ true → (world new).shared ≡ false
      → EachWas (ConfigurationAsked t value outcome (world new)) (world old) (world new))
      → (modelled ≡ true → KeepsAddresses (world old) (world new))
      → Gone modelled world trace spent ports failed (OnlySets t.addr) n old (stop_in result) new
  gone_set {value} stalled {outcome} is uses ordered what keeps =
      gone_answered 2 stalled outcome is uses (grind arith)
      (grind (arith, configuration_sets))

  -- Parts

  -- an error that is handed on
  pub part_failed : {A : Type 0} {K : World → World → Type 0} {n : ℕ}
      {Gives : World → World → A → Type 0} {Stops : World → World → Stop → Type 0} {old new : S}
      {result : Result A Stop} {why : Stop} → IsErrAnd result (λ e. e ≡ why)
      → Gone modelled world trace spent ports failed K n old (Some why) new
      → (modelled ≡ true → Stops (world old) (world new) why)
      → Part modelled world trace spent ports failed K n Gives Stops old result new
  part_failed same gone stops = grind arith

  -- a call at the port
  pub part_called : {A : Type 0} (port : HubPort) {K : World → World → Type 0} {n : ℕ} {old new : S}
      (result : Result A EnumFault) (outcome : Result A PipeFault) → result ≡ at_port outcome
      → UsesBus modelled (Steps world trace) spent ports failed n (BusToldIt outcome) old new
      → (modelled ≡ true → IfErr outcome (λ why. FaultAfter 1 (world old) why (world new)))
      → (modelled ≡ true → (why : PipeFault) → outcome ≡ Err why → AtPortFails port why (world old)
      (world new)) → (modelled ≡ true → WorksAfter outcome (world old) (world new))
      → (modelled ≡ true → K (world old) (world new)) → Part modelled world trace spent ports failed
      K n (λ v w x. ⊤) (FailsAt port) old (as_stop result) new
  part_called port {old} {new} (Ok done) outcome is uses ends fails works keeps =
      record {
        gone = record {
          spends = uses.spends;
          told = tt;
          steps = search (keeping, uses.steps);
          works = grind arith;
        };
        ends = λ known. tt;
      }
  part_called port {old} {new} (Err fault) outcome is uses ends fails works keeps =
      record {
        gone = record {
          spends = uses.spends;
          told = search port_reported;
          steps = search (keeping, uses.steps);
          works = grind arith;
        };
        ends = λ known. call_ends port (Err fault) outcome (world old) (world new) is (ends known)
            (fails known);
      }
