-- Where a plan's run ends.
use Rattle.std.proofs.Common.{◌≡◌, ◌∙◌, refl, sym, ap, ap₂, subst, Ok, IsErrAnd, ℕ, List}
use Rattle.std.proofs.Common.{Option, Result, Err, false, IfErr}
use Rattle.usb_world.specs.{PlanData, IsPlan, AtPorts, opening, BusFault, Limit, Memory}
use Rattle.usb_world.specs.{Failed, World, HasFault}
use Rattle.usb_enum.specs.{usual_options}
use Rattle.usb_host.specs.{HostState, opening_host as host_opening, HostInvariant}
use Rattle.usb_host.specs.{RefusalsJustified, HostFault, RoundFaultAllowed}
use Rattle.usb_host.specs.{TransferFaultAllowed, TransferTells, is_final, RoundTells, Round}
use Rattle.usb_run.specs.{RunFault, Memory as NoMemory, transfer_ended, Knows, OneRound, IsCaused}
use Rattle.usb_run.specs.{GoesOn, Item, RunsOn, TransferStops, round_fault, run_fault, Opens}
use Rattle.usb_run.specs.Transfers.{Transfers}
use Rattle.usb_table.specs.{TransferFault}
use Rattle.usb_host.specs.declared.fault.HostFault.TheVariants as host
use Rattle.usb_bus.specs.{Traced}
use Rattle.usb_run.proofs.courses.RunParts.{round_running}

-- a fault that a bus told has its cause
pub failed_is_caused : (fault : BusFault) (w : World) → HasFault fault w
    → IsCaused (run_fault fault) w
failed_is_caused Limit w failed = (failed.at_limit refl, failed.told)
failed_is_caused Memory w failed = tt
failed_is_caused Failed w failed = failed.told

-- and so has that of a round
pub round_caused : (why : HostFault) (w : World) → RoundFaultAllowed why w
    → IsCaused (round_fault why) w
round_caused host.Stopped w told = tt
round_caused (host.Transfer fault) w told = tt
round_caused (host.Bus fault) w told = failed_is_caused fault w told
round_caused host.Memory w told = tt

abbrev failed_part : {A : Type 0} → RunFault → Result A RunFault
failed_part fault = Err fault

-- a part of a run that ends with a fault
pub error_runs_on : {A : Type 0} (Goes : HostState → Result A RunFault → HostState → Type 0)
    {old new : HostState} (result : Result A RunFault) (fault : RunFault)
    → IsErrAnd result (λ e. e ≡ fault)
    → Goes old (Err fault) new → IsCaused fault new.world → RunsOn Goes old result new
error_runs_on Goes (Ok x) fault is stops caused = absurd is
error_runs_on {A} Goes {old} {new} (Err e) fault is stops caused =
    subst (λ f. RunsOn Goes old (failed_part {A = A} f) new) (sym is)
    (record { goes = stops; running = tt; caused = caused })

-- One round

pub round_runs : (old new : HostState) (result : Result Round HostFault) (round : Round)
    → result ≡ Ok round → RoundTells old result new → RunsOn OneRound old (Ok round) new
round_runs old new result round is tells =
    let done : RoundTells old (Ok round) new = subst (λ r. RoundTells old r new) is tells in
    record { goes = done; running = round_running done; caused = tt }

pub round_fails : (old new : HostState) (result : Result Round HostFault) (why : HostFault)
    → result ≡ Err why → RoundTells old result new → (fault : RunFault) → fault ≡ round_fault why
    → RunsOn OneRound old (Err fault) new
round_fails old new result why is tells fault same =
    let failed : RoundTells old (Err why) new = subst (λ r. RoundTells old r new) is tells in
    record {
      goes = record { why = why; tells = failed; ends = same };
      running = tt;
      caused = subst (λ f. IsCaused f new.world) (sym same)
          (round_caused why new.world failed.told);
    }

-- Transfers

abbrev ended_result : {A : Type 0} → RunFault → Result (Result A TransferFault) RunFault
ended_result f = Err f

err_same : {A : Type 0} (a f : RunFault) → ended_result {A = A} a ≡ ended_result f → a ≡ f
err_same a f e = cc e

-- a transfer that did not end the run left the host running
pub answered_goes : {A : Type 0} (answer : Result A HostFault) (x : Result A TransferFault)
    → transfer_ended answer ≡ Ok x → is_final answer ≡ false
answered_goes (Ok done) x e = refl
answered_goes (Err host.Stopped) x e = refl
answered_goes (Err (host.Transfer fault)) x e = refl
answered_goes (Err (host.Bus fault)) x e = cc e
answered_goes (Err host.Memory) x e = cc e

-- and one that did told its cause
pub answered_caused : {A : Type 0} (answer : Result A HostFault) (f : RunFault) (w : World)
    → IfErr answer (λ h. TransferFaultAllowed h w) → transfer_ended answer ≡ Err f → IsCaused f w
answered_caused (Ok done) f w told e = cc e
answered_caused {A} (Err host.Stopped) f w told e =
    subst (λ x. IsCaused x w) (err_same {A = A} NoMemory f e) tt
answered_caused (Err (host.Transfer fault)) f w told e = cc e
answered_caused {A} (Err (host.Bus fault)) f w told e =
    subst (λ x. IsCaused x w) (err_same {A = A} (run_fault fault) f e)
    (failed_is_caused fault w told)
answered_caused {A} (Err host.Memory) f w told e =
    subst (λ x. IsCaused x w) (err_same {A = A} NoMemory f e) tt

-- a transfer was asked for
module _ {A : Type 0} {most : ℕ} {Did : HostState → Result A HostFault → HostState → Type 0}
    {Goes : HostState → Result Item RunFault → HostState → Type 0} {old new : HostState}
    {answer : Result A HostFault} (call : TransferTells most Did old answer new) where
  -- it gave its item
  pub transfer_goes : {item : Item} (told : Result A TransferFault)
      → transfer_ended answer ≡ Ok told → old.stopped ≡ false
      → (Transfers (TransferTells most Did) old told new → Goes old (Ok item) new)
      → GoesOn Goes old (Ok item) new
  transfer_goes told is running goes = record {
    on = record {
      goes = goes (record { answer = answer; call = call; tells = is });
      running = call.stopped.stops running ∙ answered_goes answer told is;
      caused = tt;
    };
    owning = call.keeps.owning;
  }

  -- it ended the run
  pub transfer_stops : (result : Result Item RunFault) (fault : RunFault)
      → IsErrAnd result (λ e. e ≡ fault) → transfer_ended answer ≡ Err fault
      → (TransferStops (TransferTells most Did) old fault new → Goes old (Err fault) new)
      → GoesOn Goes old result new
  transfer_stops result fault failed is stops = record {
    on = error_runs_on Goes result fault failed
        (stops (record { answer = answer; call = call; tells = is }))
        (answered_caused answer fault new.world call.told is);
    owning = call.keeps.owning;
  }

-- a plan's run begins with a host of its bus

pub opens_with : (plan : PlanData) (w : World) (t : Option (List ℕ)) (h : HostState)
    {before : Option (List ℕ)} → w ≡ opening plan → t ≡ before
    → h ≡ host_opening (usual_options plan.wide) w t
    → Traced w t h.world h.trace
    → (w.shared ≡ false → HostInvariant h) → IsPlan plan → AtPorts plan.events
    → Opens plan before h
opens_with plan w t h {before} same silent opens traced sound rules paths =
    let P : World → Type 0 = λ x. Traced x t h.world h.trace in
    let Q : Option (List ℕ) → Type 0 = λ x. Traced (opening plan) x h.world h.trace in
    record {
      is = opens ∙ ap₂ (host_opening (usual_options plan.wide)) same silent;
      traced = subst Q silent (subst P same traced);
      sound = sound (ap (λ (x : World). x.shared) same);
      rules = rules;
      paths = paths;
    }

-- it has refused none
opened_causes : (plan : PlanData) (h : HostState) {before : Option (List ℕ)} → Opens plan before h
    → RefusalsJustified h.options h.world h.entries
opened_causes plan h opens = subst (RefusalsJustified h.options h.world)
    (sym (ap (λ (k : HostState). k.entries) opens.is))
    (λ path cause state at stands. absurd (cc at))

-- takes the hubs that the plan says
pub options_opened : (plan : PlanData) (h : HostState) {before : Option (List ℕ)}
    → Opens plan before h → h.options ≡ usual_options plan.wide
options_opened plan h opens = ap (λ (k : HostState). k.options) opens.is

-- and has the plan's limit
pub limit_opened : (plan : PlanData) (h : HostState) {before : Option (List ℕ)}
    → Opens plan before h → h.world.limit ≡ plan.limit
limit_opened plan h opens = ap (λ (k : HostState). k.world.limit) opens.is

pub knows_opened : (plan : PlanData) (h : HostState) {before : Option (List ℕ)}
    → Opens plan before h → Knows h
knows_opened plan h opens = record {
  sound = opens.sound;
  causes = λ fair. opened_causes plan h opens;
}
