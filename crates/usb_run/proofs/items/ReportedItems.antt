-- How a report has the items of a run.
use Rattle.std.proofs.Common.{◌≡◌, ◌≢◌, ◌∙◌, refl, sym, ap, subst, inl, inr, arith, ℕ, ◌-◌, ◌≤◌}
use Rattle.std.proofs.Common.{◌<◌, length, List, [], ◌∷◌, ◌++◌, reverse, Bool, false, Option, None}
use Rattle.std.proofs.Common.{Some, Result, Ok, Err, IsErrAnd, All, IfOk}
use Rattle.std.proofs.lemmas.Grind.{reverse_onto}
use Rattle.std.proofs.lemmas.List.{get_or-reverse, length-reverse}
use Rattle.std.proofs.lemmas.List.Elements.{All-from_recursion}
use Rattle.std.specs.List.{AllByRecursion}
use Rattle.usb_world.specs.{PlanData, AtMostTwoRunning}
use Rattle.usb_host.specs.{HostState}
use Rattle.usb_run.specs.{Item, Report, RunFault, TraceFailed, Tree, IsListingOf}
use Rattle.usb_run.specs.{ListsPlugged, Knows, EndsWell, Finishes, Opens, RunsWell, Next}
use Rattle.usb_run.specs.{IsCaused, StoppedRun, begun, itself, never}
use Rattle.usb_world.specs.declared.types.BusFault.TheVariants as bus
use Rattle.usb_run.specs.Transcript.{Transcript}
use Rattle.usb_run.proofs.endings.Causes.{at_fault, run_limit, untold_trace}
use Rattle.usb_run.proofs.endings.Ends.{limit_opened}
use Rattle.usb_run.proofs.courses.KnowledgeKept.{makes_knows}
use Rattle.usb_run.proofs.items.Moments.{run_lists_right}
use Rattle.usb_run.proofs.courses.RunCourses.{over_transcript, spent_runs}
use Rattle.usb_run.proofs.courses.RunParts.{within_limit}
use Rattle.usb_run.proofs.items.Transcripts.{appends_no_text, over_next, told_next}

-- what holds of each element holds of each in turn
All-reverse : {X : Type 0} (P : X → Type 0) (xs : List X) → All P xs → All P (reverse xs)
All-reverse P xs each k d lt =
    let long : length (reverse xs) ≡ length xs = length-reverse xs in
    let less : k < length xs = omega (arith, lt, long) in
    subst P (sym (get_or-reverse xs k d less)) (each (length xs - 1 - k) d (omega (arith, less)))

-- the run so far, and its items in order
pub record ReportSoFar (was : Bool) (old : HostState) (made : List Item) (over : Bool)
    (new : HostState) : Type 0 where
  pub items : List Item
  pub so_far : Transcript Tree was old items over new
  pub in_order : made ≡ reverse items
  pub knows : over ≡ false → Knows new

pub report_begun : (was : Bool) (old : HostState) → (was ≡ false → Knows old)
    → ReportSoFar was old [] was old
report_begun was old knows = record { items = []; so_far = begun; in_order = refl; knows = knows }

pub report_told : {was : Bool} {old : HostState} {made : List Item} {over : Bool} {h : HostState}
    (r : ReportSoFar was old made over h) (item : Item) (on : Bool) (k : HostState)
    (more : List Item)
    → Next over h (Ok (Some item)) on k → more ≡ made ++ item ∷ [] → ReportSoFar was old more on k
report_told r item on k more next is = record {
  items = item ∷ r.items;
  so_far = told_next r.so_far next (appends_no_text k);
  in_order = is ∙ ap (λ l. l ++ item ∷ []) r.in_order ∙ sym (reverse_onto r.items item []);
  knows = λ _. makes_knows next.1;
}

-- a run that stopped is told with its fault
pub report_stopped : {was : Bool} {old k : HostState} {items : List Item}
    (result : Result Report RunFault) (said : RunFault) → IsErrAnd result (λ e. e ≡ said)
    → StoppedRun Tree (λ why. said ≡ itself why) ⊥ was old items k → IsCaused said k.world
    → Finishes was old result k
report_stopped {was} {old} {k} {items} result said is stopped caused =
    at_fault (λ x. Finishes was old x k) result said is
    (record { items = items; ends = stopped; report = tt; caused = caused })

-- the run is over
pub report_over : {was : Bool} {old : HostState} {made : List Item} {over : Bool} {h : HostState}
    (r : ReportSoFar was old made over h) (on : Bool) (k : HostState) (report : Report)
    → Next over h (Ok None) on k → report.items.items ≡ made
    → report.attempts ≡ k.world.attempts → report.address_losses ≡ k.world.losses.all
    → report.worst_address_run ≡ k.world.losses.worst → Finishes was old (Ok report) k
report_over {h = h} r on k report next made attempts losses worst = record {
  items = r.items;
  ends = over_next h k r.so_far next;
  report = record {
    items_made = made ∙ r.in_order;
    attempts = attempts;
    losses = losses;
    worst = worst;
  };
  caused = tt;
}

-- Attempts

-- a run that is reported made its attempts within the limit
pub reports_limit : (was : Bool) (old new : HostState) (result : Result Report RunFault) (limit : ℕ)
    → Finishes was old result new → old.world.attempts ≡ 0 → old.world.limit ≡ limit
    → IfOk result (λ report. report.attempts ≤ limit)
reports_limit was old new (Ok report) limit finishes none is =
    let least : old.world.attempts ≤ old.world.limit = omega (arith, none) in
    let most = within_limit old new (over_transcript spent_runs finishes.ends) least in
    omega (arith, most, is, finishes.report.attempts)
reports_limit was old new (Err fault) limit finishes none is = tt

-- a plan's run, from a host whose bus was just given power
runs_opened : (plan : PlanData) (before : Option (List ℕ)) (over : Bool) (h k : HostState)
    (result : Result Report RunFault) → Opens plan before h → over ≡ false
    → Finishes over h result k → k.world.shared ≡ false
    → result ≢ Err TraceFailed → RunsWell plan result
runs_opened plan before over h k result opens at_work finishes single untraced =
    let so : Finishes false h result k = subst (λ o. Finishes o h result k) at_work finishes in
    record {
      before = before;
      first = h;
      opens = opens;
      last = k;
      finishes = so;
      untraced = untraced;
      limit = run_limit Tree itself never false h so.items result k so.ends
          ∙ limit_opened plan h opens;
      single = single;
      lists = run_lists_right plan Tree itself never false h so.items k result opens so.ends;
    }

-- with what is told of it, where no line is made
pub ends_untraced : (plan : PlanData) (before : Option (List ℕ)) (over : Bool) (h k : HostState)
    (result : Result Report RunFault) → Opens plan before h → over ≡ false
    → Finishes over h result k → k.world.shared ≡ false
    → k.world.fault ≢ Some bus.Failed → EndsWell plan result
ends_untraced plan before over h k result opens at_work finishes single other =
    inr (runs_opened plan before over h k result opens at_work finishes single
    (untold_trace result k.world finishes.caused other))

-- What is told of it

reported : (P : Item → Type 0) (made items : List Item) → made ≡ reverse items
    → AllByRecursion P items → All P made
reported P made items is each = subst (All P) (sym is)
    (All-reverse P items (All-from_recursion P items each))

runs_plugged : (plan : PlanData) (report : Report) → RunsWell plan (Ok report)
    → AtMostTwoRunning plan.damages → ListsPlugged plan report
runs_plugged plan report runs few = λ worst.
    let told = runs.finishes.report in
    reported (IsListingOf plan) report.items.items runs.finishes.items told.items_made
    (runs.lists.right few (subst (λ n. n ≤ 2) told.worst worst))

pub ends_plugged : (plan : PlanData) (result : Result Report RunFault) → EndsWell plan result
    → AtMostTwoRunning plan.damages → IfOk result (ListsPlugged plan)
ends_plugged plan (Ok report) (inl refused) few = cc refused
ends_plugged plan (Ok report) (inr runs) few = runs_plugged plan report runs few
ends_plugged plan (Err fault) ends few = tt
