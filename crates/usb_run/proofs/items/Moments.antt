-- What is right of the items of a plan's run.
use Rattle.std.proofs.Common.{◌≡◌, ◌∙◌, refl, sym, ap, subst, length, List, [], ◌∷◌}
use Rattle.std.proofs.Common.{Bool, false, Option, None, Some, Result, Ok, Err, arith, ℕ, is_ok}
use Rattle.std.specs.List.{AllByRecursion}
use Rattle.usb_device.specs.{Spec, Ports}
use Rattle.usb_world.specs.{Action, Show, Send, Receive, Clear, ControlIn, ControlOut, Event}
use Rattle.usb_world.specs.{Look as LookAt, News as AskNews, BusFault, PlanData, IsPlan}
use Rattle.usb_world.specs.{SendTo, ReceiveFrom, Poll, ClearOf, SetInterface}
use Rattle.usb_world.specs.{AtMostTwoRunning, AtPorts, after, ask_of, event, event_taken}
use Rattle.usb_world.specs.{after_change, opening}
use Rattle.usb_world.specs.{after_event, after_first_event, World}
use Rattle.usb_world.specs.declared.event.Action.TheVariants as act
use Rattle.usb_world.specs.declared.event.Ask.{Ask}
use Rattle.usb_bus.specs.{next_due}
use Rattle.usb_world.specs.{AreOfDamages, Damage}
use Rattle.usb_world.proofs.Interface.{no_losses_yet}
use Rattle.usb_hub.proofs.Interface.{opening_settled}
use Rattle.usb_enum.specs.{FewLosses, usual_options}
use Rattle.usb_enum.proofs.Interface.{IsWorse, course_later}
use Rattle.usb_table.specs.{Delivered, EndpointChoice, FirstBulk, At, Matches, TransferFault}
use Rattle.usb_table.proofs.Interface.{lists_of_plan}
use Rattle.usb_host.specs.{HostInvariant, HostState, IsFairTo, table_in, SendTells}
use Rattle.usb_run.specs.{Item, RunFault, Mode, IsListingOf, ListsRight, TellsRight, Reaches}
use Rattle.usb_run.specs.{Settled, listing_of, Makes, asked, last, RunsTo, StoppedRun, behind}
use Rattle.usb_run.specs.{on_the_way, unwritten, in_text, begun, told, IsItemOf, sent_count, Opens}
use Rattle.usb_run.specs.declared.item.Item.TheVariants.{News as ToldNews}
use Rattle.usb_run.specs.Transcript.{Transcript}
use Rattle.usb_run.specs.Transfers.{Transfers}
use Rattle.usb_run.specs.{CallGives, CallTells, IsOfCall}
use Rattle.usb_run.proofs.AskedCalls.{AskAnswered, silent, listed, called, news, answered}
use Rattle.usb_run.proofs.AskedCalls.{same_item}
use Rattle.usb_run.proofs.courses.KnowledgeKept.{arrival_settled, item_knows, makes_options}
use Rattle.usb_run.proofs.courses.KnowledgeKept.{reaches_knows, reaches_running, reaches_still}
use Rattle.usb_run.proofs.courses.KnowledgeKept.{transcript_options}
use Rattle.usb_run.proofs.courses.RunCourses.{RunsOnward, onward_runs, onward_then, over_cuts}
use Rattle.usb_run.proofs.courses.RunCourses.{over_makes, over_puts, over_stops, over_transcript}
use Rattle.usb_run.proofs.courses.DamagedLosses.{damages_runs, damages_traced}
use Rattle.usb_run.proofs.courses.RunCourses.{over_run, traced_runs_onward, worse_runs}
use Rattle.usb_run.proofs.endings.Ends.{options_opened}
use Rattle.usb_run.proofs.items.ToldTransfers.{told_sent, told_received, told_cleared, told_read}
use Rattle.usb_run.proofs.items.ToldTransfers.{told_look, told_written, told_reported}
use Rattle.usb_run.proofs.items.ToldTransfers.{told_cleared_of, told_interface, count_done}

-- What is asked changes nothing that is plugged

ask_calm : (a : Action) (ask : Ask) (devices : List Spec) (k : Ports)
    → Some (ask_of a) ≡ Some (Some ask) → after_change a devices k ≡ k
unfolding ask_of
ask_calm (act.Change change) ask devices k e = cc e
ask_calm (act.Ask of_ask) ask devices k e = refl

first_calm : (ask : Ask) (events : List Event) (w : World) → next_due (record w { left = events })
    ≡ Some (Some ask) → (after_first_event events w).roots ≡ w.roots
unfolding next_due after_event
first_calm ask [] w e = refl
first_calm ask (x ∷ events) w e = ask_calm x.action ask w.devices w.roots e

taken_calm : (ask : Ask) (fault : Option BusFault) (w : World) → next_due w ≡ Some (Some ask)
    → (event_taken fault w).roots ≡ w.roots
taken_calm ask None w e = first_calm ask w.left w e
taken_calm ask (Some fault) w e = refl

asked_calm : (ask : Ask) (w : World) → next_due w ≡ Some (Some ask)
    → (after event w).roots ≡ w.roots
unfolding after
asked_calm ask w e = taken_calm ask w.fault w e

-- What an item tells

-- at the end of all events nothing changes
pub reaches_over : {h k : HostState} → Reaches h (Ok None) k → Settled k
reaches_over {h} {k} reaches =
    let comes = reaches.arrives.comes in
    arrival_settled reaches.arrives.mid k None comes
    (ap (λ (w : World). w.roots) comes.takes.took.ends.same) reaches.arrives.settled

reaches_asked : {h k : HostState} {ask : Ask} → Reaches h (Ok (Some (Some ask))) k → Settled k
reaches_asked {h} {k} {ask} reaches =
    let comes = reaches.arrives.comes in
    let mid : HostState = reaches.arrives.mid in
    let calm = asked_calm ask mid.world (sym comes.takes.asked) in
    arrival_settled mid k (Some (Some ask)) comes (ap (λ (w : World). w.roots) comes.takes.exact
    ∙ calm)
    reaches.arrives.settled

-- an item of an event that asked for it, by a host that had settled
pub item_right : (due : Option Ask) (made : Item) (h mid k : HostState)
    → Reaches h (Ok (Some due)) mid → IsItemOf due (Some made) mid k → TellsRight due made mid k
item_right due made h mid k reaches is = right (answered due (Some made) mid k is)
  where
    sound : HostInvariant mid
    sound = (reaches_knows reaches).sound

    still : mid.world.fault ≡ None
    still = reaches_still reaches

    running : mid.stopped ≡ false
    running = reaches_running reaches

    tells : (of_ask : Option Ask) (answer : Item) → due ≡ of_ask → Some made ≡ Some answer
        → TellsRight of_ask answer mid k → TellsRight due made mid k
    tells of_ask answer asks e so =
        let same : made ≡ answer = cc e in
        subst (λ d. TellsRight d made mid k) (sym asks)
        (subst (λ (i : Item). TellsRight of_ask i mid k) (sym same) so)

    sent_right : (choice : EndpointChoice) (path bytes : List ℕ)
        (answer : Result (Unit {0}) TransferFault)
        → Transfers (SendTells path choice bytes) mid answer k
        → Delivered path choice (is_ok (sent_count (length bytes) answer)) bytes (table_in mid)
        mid.world (table_in k) k.world
    sent_right choice path bytes answer came =
        subst (λ (b : Bool). Delivered path choice b bytes (table_in mid) mid.world (table_in k)
        k.world) (count_done (length bytes) answer)
        (told_sent path mid k sound still running choice bytes answer came)

    item_so : (ask : Ask) (x : Item) → Some made ≡ Some x → TellsRight (Some ask) x mid k
        → TellsRight (Some ask) made mid k
    item_so ask x of so =
        subst (λ (i : Item). TellsRight (Some ask) i mid k) (sym (same_item of)) so

    -- what came of a call
    call_right : (ask : Ask) (answer : Result (CallGives ask) TransferFault)
        → IsOfCall ask answer (Some made) → Transfers (CallTells ask) mid answer k
        → TellsRight (Some ask) made mid k
    call_right (Show said) answer of came = absurd of
    call_right AskNews answer of came = absurd of
    call_right (Send path bytes) answer of came =
        item_so (Send path bytes) _ of
        (sent_right FirstBulk path bytes answer came)
    call_right (Receive path packets) answer of came =
        item_so (Receive path packets) _ of
        (told_received path mid k sound still running FirstBulk packets answer came)
    call_right (Clear path) answer of came =
        item_so (Clear path) _ of
        (told_cleared path mid k sound still running answer came)
    call_right (SendTo path endpoint bytes) answer of came =
        item_so (SendTo path endpoint bytes) _ of
        (sent_right (At endpoint) path bytes answer came)
    call_right (ReceiveFrom path endpoint packets) answer of came =
        item_so (ReceiveFrom path endpoint packets) _ of
        (told_received path mid k sound still running (At endpoint) packets answer came)
    call_right (Poll path endpoint) answer of came =
        item_so (Poll path endpoint) _ of
        (told_reported path mid k sound still running endpoint answer came)
    call_right (ClearOf path endpoint) answer of came =
        item_so (ClearOf path endpoint) _ of
        (told_cleared_of path mid k sound still running endpoint answer came)
    call_right (SetInterface path interface setting) answer of came =
        item_so (SetInterface path interface setting) _ of
        (told_interface path mid k sound still running interface setting answer came)
    call_right (ControlIn path request) answer of came =
        item_so (ControlIn path request) _ of
        (told_read path mid k sound still running request answer came)
    call_right (ControlOut path write) answer of came =
        item_so (ControlOut path write) _ of (
          answer,
          refl,
          told_written path mid k sound still running write answer came,
        )
    call_right (LookAt path) answer of came =
        item_so (LookAt path) _ of
        (told_look path mid k sound still running answer came
        (item_knows due (Some made) mid k is (reaches_knows reaches)))

    right : AskAnswered due (Some made) mid k → TellsRight due made mid k
    right (silent nothing same) = absurd (cc nothing)
    right (listed said asks e same) =
        let shown = reaches_asked (subst (λ d. Reaches h (Ok (Some d)) mid) asks reaches) in
        tells (Some (Show said)) (listing_of said k) asks e (subst Settled (sym same) shown)
    right (called ask answer asks fits of came) =
        subst (λ d. TellsRight d made mid k) (sym asks) (call_right ask answer of came)
    right (news answer asks e all) = tells (Some AskNews) _ asks e all

-- Each listing is what is plugged

-- what came of a call is no listing
call_unlisted : (plan : PlanData) (ask : Ask) (answer : Result (CallGives ask) TransferFault)
    (made : Item) → IsOfCall ask answer (Some made) → IsListingOf plan made
call_unlisted plan (Show said) answer made of = absurd of
call_unlisted plan AskNews answer made of = absurd of
call_unlisted plan _ answer made of = subst (IsListingOf plan) (sym (same_item of)) tt

module _ (plan : PlanData) (rules : IsPlan plan) (paths : AtPorts plan.events) (end : World)
    (two : AtMostTwoRunning plan.damages) (few : FewLosses end) where
  -- a host that has settled on the way lists it
  listing_right : (said : Bool) (h : HostState) → h.options ≡ usual_options plan.wide
      → RunsOnward (opening plan) h.world → h.world.fault ≡ None
      → IsWorse h.world end → Settled h → IsListingOf plan (listing_of said h)
  listing_right said h kept before still on settled =
      let here : IsFairTo h.world h.world = record {
        still = still;
        few = subst AtMostTwoRunning (sym (course_later (before still).course).damages) two;
        kept = omega (arith, on, few);
      } in
      lists_of_plan plan rules paths h.world (before still).course
      (usual_options plan.wide) h.entries
      (subst (λ x. Matches x h.world h.entries) kept (settled.matches here))

  due_right : {due : Option Ask} (made : Item) (mid k : HostState)
      → k.options ≡ usual_options plan.wide
      → RunsOnward (opening plan) k.world → mid.world.fault ≡ None → IsWorse k.world end
      → AskAnswered due (Some made) mid k → TellsRight due made mid k → IsListingOf plan made
  due_right made mid k kept before still on (silent nothing same) right = absurd (cc nothing)
  due_right made mid k kept before still on (listed said asks e same) right =
      let is : made ≡ listing_of said k = cc e in
      let settled = subst (λ d. TellsRight d made mid k) asks right in
      let works = ap (λ (h : HostState). h.world.fault) same ∙ still in
      subst (IsListingOf plan) (sym is) (listing_right said k kept before works on settled)
  due_right made mid k kept before still on (called ask answer asks fits of came) right =
      call_unlisted plan ask answer made of
  due_right made mid k kept before still on (news answer asks e all) right =
      let is : made ≡ ToldNews answer = cc e in
      subst (IsListingOf plan) (sym is) tt

  made_right : {h k : HostState} {made : Item} {over : Bool} → h.options ≡ usual_options plan.wide
      → RunsOnward (opening plan) h.world
      → Makes h made over k → IsWorse k.world end → IsListingOf plan made
  made_right {h} {k} {made} kept before (asked {mid = mid} due reaches is right) on =
      due_right made mid k
      (makes_options (asked {item = made} {mid = mid} {new = k} due reaches is right) ∙ kept)
      (onward_then (opening plan) h.world k.world before (over_makes
      onward_runs (asked {item = made} {mid = mid} {new = k} due reaches is right)))
      (reaches_still reaches) on (answered due (Some made) mid k is) right
  made_right {h} {k} kept before (last reaches settled) on =
      listing_right false k (makes_options (last {new = k} reaches settled) ∙ kept)
      (onward_then (opening plan) h.world k.world before
      (over_makes onward_runs (last {new = k} reaches settled))) (reaches_still reaches) on settled

  items_right : {mode : Mode} {was : Bool} {old : HostState} {items : List Item} {over : Bool}
      {new : HostState} → old.options ≡ usual_options plan.wide
      → RunsOnward (opening plan) old.world
      → Transcript mode was old items over new → IsWorse new.world end
      → AllByRecursion (IsListingOf plan) items
  items_right kept before begun on = tt
  items_right {old = old} kept before (told {h = h} {k = k} {new = new} t makes puts) on =
      let here = onward_then (opening plan) old.world h.world before
      (over_transcript onward_runs t) in
      let later = worse_runs.joined k.world new.world end (over_puts worse_runs puts) on in (
        made_right (transcript_options t ∙ kept) here makes later,
        items_right kept before t
            (worse_runs.joined h.world k.world end (over_makes worse_runs makes) later),
      )

  stopped_right : {mode : Mode} {IsOf : RunFault → Type 0} {IsCut : Type 0} {was : Bool}
      {old : HostState} {items : List Item} {new : HostState}
      → old.options ≡ usual_options plan.wide
      → RunsOnward (opening plan) old.world → StoppedRun mode IsOf IsCut was old items new
      → IsWorse new.world end → AllByRecursion (IsListingOf plan) items
  stopped_right kept before (on_the_way {h = h} {new = new} of t stops) on =
      items_right kept before t
      (worse_runs.joined h.world new.world end (over_stops worse_runs stops) on)
  stopped_right kept before (unwritten {h = h} {new = new} whole t makes) on =
      items_right kept before t
      (worse_runs.joined h.world new.world end (over_makes worse_runs makes) on)
  stopped_right kept before (behind whole t) on = items_right kept before t on
  stopped_right {old = old} kept before (in_text {h = h} {k = k} {new = new} cut t makes cuts) on =
      let here = onward_then (opening plan) old.world h.world before
      (over_transcript onward_runs t) in
      let later = worse_runs.joined k.world new.world end (over_cuts worse_runs cuts) on in (
        made_right (transcript_options t ∙ kept) here makes later,
        items_right kept before t
            (worse_runs.joined h.world k.world end (over_makes worse_runs makes) later),
      )

  run_right : {A E : Type 0} (mode : Mode) (words : RunFault → E) (CutsAt : E → Type 0) (was : Bool)
      (old : HostState) (items : List Item) (new : HostState) (result : Result A E)
      → old.options ≡ usual_options plan.wide → RunsOnward (opening plan) old.world
      → RunsTo mode words CutsAt was old items result new → IsWorse new.world end
      → AllByRecursion (IsListingOf plan) items
  run_right mode words CutsAt was old items new (Ok done) kept before t on =
      items_right kept before t on
  run_right mode words CutsAt was old items new (Err fault) kept before t on =
      stopped_right kept before t on

-- each listing of a run is right
pub run_lists_right : {A E : Type 0} (plan : PlanData) (mode : Mode) (words : RunFault → E)
    (CutsAt : E → Type 0) (was : Bool) (old : HostState) (items : List Item) (new : HostState)
    (result : Result A E) {before : Option (List ℕ)} → Opens plan before old
    → RunsTo mode words CutsAt was old items result new → ListsRight plan items new.world
run_lists_right plan mode words CutsAt was old items new result opens t =
    let l = damages_runs plan.damages in
    let all = l.joined (opening plan) old.world new.world
    (damages_traced plan.damages opens.traced)
    (over_run l mode words CutsAt was old items result new t) in
    let lost = all.stays (λ none. opening_settled plan)
    (record { same = refl; lost = no_losses_yet plan.damages }) in
    record {
      losses = subst (λ (ds : List Damage). AreOfDamages new.world.attempts ds new.world.losses)
          lost.same lost.lost;
      right = λ two few. run_right plan opens.rules opens.paths new.world two few mode words CutsAt
          was old items new result (options_opened plan old opens)
          (traced_runs_onward opens.traced) t (worse_runs.same new.world);
    }
