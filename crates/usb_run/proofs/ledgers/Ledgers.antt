-- What was left to do and the events pay for the attempts of a run, as each round pays for its own.
use Rattle.std.proofs.Common.{◌≡◌, ◌≢◌, ◌≤◌, ◌∙◌, ℕ, ◌+◌, ◌*◌, refl, sym, ap, subst, arith, List}
use Rattle.std.proofs.Common.{[], ◌∷◌, length, cond, false, Option, None, Some, Result, Ok}
use Rattle.std.proofs.Common.{Err}
use Rattle.std.specs.List.{sum_by}
use Rattle.std.proofs.lemmas.List.Sums.{sum_by-cons}
use Rattle.usb_world.specs.{Action, Send, Receive, Clear, ControlIn, ControlOut, Look as LookAt}
use Rattle.usb_world.specs.{SendTo, ReceiveFrom, Poll, ClearOf, SetInterface, Show}
use Rattle.usb_world.specs.{News as AskNews}
use Rattle.usb_world.specs.{Event, BusFault, PlanData, IsPlan}
use Rattle.usb_world.specs.{AtPorts, AnyStep, Course, after, ask_of, event, event_taken, opening}
use Rattle.usb_world.specs.{after_event, after_first_event, World, to_come}
use Rattle.usb_world.specs.declared.event.Action.TheVariants as action
use Rattle.usb_world.specs.declared.event.Ask.{Ask}
use Rattle.usb_world.proofs.Interface.{course_joined}
use Rattle.usb_hub.specs.{KeepsBy, looks_by, strays_by, unmarked}
use Rattle.usb_hub.proofs.Interface.{few-none, keeps-event}
use Rattle.usb_bus.specs.{next_due, Traced}
use Rattle.usb_transfer.specs.{transaction_bound, write_bound}
use Rattle.usb_table.specs.{control_most}
use Rattle.usb_enum.specs.{usual_options}
use Rattle.usb_host.specs.{HostFault, Round, Worked, Quiet, hubs, clear_bound, Affords, Costs}
use Rattle.usb_host.specs.{Look, LookCosts, LookTells, handling_bound, is_final, look_cost}
use Rattle.usb_host.specs.{PaysRound, RoundPaid, Weights, debt, event_weight, hub_weight}
use Rattle.usb_host.specs.{look_weight, stray_weight, HasPlugs, plug_events, HostState}
use Rattle.usb_host.specs.{opening_host as host_opening, HostInvariant, RoundTells, TransferTells}
use Rattle.usb_host.proofs.Interface.{plugs_opening, plugs_same}
use Rattle.usb_plan.specs.{is_look, is_look_at, moved, moved_in}
use Rattle.usb_run.specs.{Item, RunFault, CallGives, CallTells, Comes, Opens, IsItemOf, StopsAt}
use Rattle.usb_run.proofs.AskedCalls.{AskAnswered, silent, listed, called, news, answered}
use Rattle.usb_run.proofs.AskedCalls.{Calls, no_call, calls, tells_news}
use Rattle.usb_run.proofs.AskedCalls.{all_reported, stop_calls}
use Rattle.usb_run.proofs.endings.Ends.{answered_goes}
use Rattle.usb_run.proofs.ledgers.EventsLeft.{sum_left, at_ports-course}
use Rattle.usb_run.proofs.courses.KnowledgeKept.{arrival_sound}
use Rattle.usb_run.proofs.ledgers.PlanWeights.{looks_by-opening, strays_by-opening}
use Rattle.usb_run.proofs.ledgers.PlanWeights.{greatest_total-plugs, weights}
use Rattle.usb_run.proofs.ledgers.RunBounds.{Carries, Few}
use Rattle.usb_run.proofs.courses.RunCourses.{Running, called_onward, comes_onward}
use Rattle.usb_run.proofs.courses.RunCourses.{traced_runs_onward}
use Rattle.usb_run.proofs.courses.RunParts.{Called, round_called}
use Rattle.usb_run.proofs.ledgers.Sums.{debt_grown, grown_pays, looked_within, moved_within}
use Rattle.usb_run.proofs.ledgers.Sums.{owed_after}
use Rattle.usb_run.proofs.ledgers.Sums.{owed_behind, owed_came, owed_due, owed_first, owed_moved}
use Rattle.usb_run.proofs.ledgers.Sums.{owed_settled, owed_worked, pays_costs, room_within}
use Rattle.usb_run.proofs.ledgers.Sums.{still_within, stopped_within}
use Rattle.usb_enum.proofs.Interface.{traced_faulted}

-- what an event pays beside its weight; a look pays one look again for each device below
abbrev pub event_pays : Weights → PlanData → Event → ℕ
event_pays c plan e = 1000 * moved e + look_weight c * length plan.events * cond (is_look e) 1 0

-- attempts that were made, what is enough for what is left to do, and what the events to come pay
abbrev pub weight_owed : Weights → PlanData → HostState → ℕ
weight_owed c plan h = h.world.attempts + debt c h + (event_weight c + c.polls) * to_come h.world +
    sum_by (event_pays c plan) h.world.left

-- what all events pay, and the polls of the last round
abbrev pub most_owed : Weights → PlanData → ℕ
most_owed c plan = (event_weight c + c.polls) * length plan.events +
    sum_by (event_pays c plan) plan.events + c.polls

-- attempts are few, whatever became of the bus; where it is at work, so many more may be made
pub record Paid (c : Weights) (plan : PlanData) (room : ℕ) (h : HostState) : Type 0 where
  pub few : Few (most_owed c plan + event_weight c) h
  pub affords : h.world.fault ≡ None → Affords c plan h
  pub owes : h.world.fault ≡ None → weight_owed c plan h + room ≤ most_owed c plan

-- Faults

few_called : {a b : HostState} (most : ℕ) → Called a b → Few most a
    → (a.world.fault ≡ None → Few most b) → Few most b
few_called {a} {b} most is few working = split a.world.fault refl
  where
    split : (f : Option BusFault) → a.world.fault ≡ f → Few most b
    split None e = working e
    split (Some fault) e = subst (λ n. n ≤ most) (sym (traced_faulted is.went.traced fault e).0)
        few

-- What an event pays

-- the attempts of what an event asks, and what a look leaves to do
abbrev pub room_of : Weights → PlanData → Option Ask → ℕ
room_of c plan (Some (Send path bytes)) = transaction_bound * length bytes
room_of c plan (Some (Receive path packets)) = transaction_bound * packets
room_of c plan (Some (Clear path)) = clear_bound
room_of c plan (Some (SendTo path endpoint bytes)) = transaction_bound * length bytes
room_of c plan (Some (ReceiveFrom path endpoint packets)) = transaction_bound * packets
room_of c plan (Some (Poll path endpoint)) = transaction_bound
room_of c plan (Some (ClearOf path endpoint)) = write_bound
room_of c plan (Some (SetInterface path interface setting)) = write_bound
room_of c plan (Some (ControlIn path request)) = control_most request.length
room_of c plan (Some (ControlOut path write)) = control_most write.setup.length
room_of c plan (Some (LookAt path)) = look_cost c plan
room_of c plan _ = 0

-- what one event pays beside what it adds
abbrev pub beside : Weights → ℕ
beside c = look_weight c + 3200

room_paid : (c : Weights) (plan : PlanData) (a : Action)
    → room_of c plan (ask_of a)
    ≤ beside c + (1000 * moved_in a + look_weight c * length plan.events * cond (is_look_at a) 1 0)
unfolding ask_of
room_paid c plan (action.Ask (LookAt path)) = omega arith
room_paid c plan _ = omega arith

room_moved : (c : Weights) (plan : PlanData) (e : Event)
    → room_of c plan (ask_of e.action) ≤ beside c + event_pays c plan e
unfolding moved
room_moved c plan e = room_paid c plan e.action

-- the first event to come asks for this
record IsFirstDue (w : World) (due : Option Ask) : Type 0 where
  e : Event
  events : List Event
  left : w.left ≡ e ∷ events
  asks : ask_of e.action ≡ due

first_due : (w : World) (due : Option Ask) → Some due ≡ next_due w → IsFirstDue w due
unfolding next_due
first_due w due is = split w.left refl is
  where
    split : (l : List Event) → w.left ≡ l
        → Some due ≡ elim l [ [] ↦ None | e ∷ events ↦ Some (ask_of e.action) ] → IsFirstDue w due
    split [] same h = absurd (cc h)
    split (e ∷ events) same h = record { e = e; events = events; left = same; asks = cc h }

after_left : (w : World) (e : Event) (events : List Event) → w.fault ≡ None → w.left ≡ e ∷ events
    → (after event w).left ≡ events
unfolding after after_event
after_left w e events working same = ap (λ f. (event_taken f w).left) working
    ∙ ap (λ l. (after_first_event l w).left) same

module _ (c : Weights) (plan : PlanData) where
  -- what one event adds
  abbrev added : ℕ
  added = 7 * look_weight c + stray_weight c

  event_is : event_weight c ≡ added + beside c
  event_is = omega arith

  debt_kept : (a b : HostState) → KeepsBy unmarked unmarked unmarked a.world b.world
      → b.entries ≡ a.entries → debt c b + added * a.world.taken ≤ debt c a + added * b.world.taken
  debt_kept a b keeps same =
      let fewer : hubs b.entries ≤ hubs a.entries = rw same (omega arith) in
      debt_grown (look_weight c) (stray_weight c) (hub_weight c) (looks_by unmarked a.world.roots)
      (strays_by unmarked unmarked a.world.roots) (hubs a.entries)
      (looks_by unmarked b.world.roots) (strays_by unmarked unmarked b.world.roots) (hubs b.entries)
      a.world.taken b.world.taken keeps.looks keeps.strays fewer

  owed_on : (a b : HostState) (k more : ℕ) → Course AnyStep a.world b.world → Costs c more a b
      → b.world.taken + to_come b.world ≡ a.world.taken + to_come a.world
      → to_come b.world + k ≤ to_come a.world
      → weight_owed c plan b + c.polls * k ≤ weight_owed c plan a + more
  owed_on a b k more course costs events fewer =
      owed_after (event_weight c) c.polls a.world.attempts (debt c a) a.world.taken
      (to_come a.world) (sum_by (event_pays c plan) a.world.left)
      b.world.attempts (debt c b) b.world.taken (to_come b.world)
      (sum_by (event_pays c plan) b.world.left) k more
      costs events fewer (sum_left (event_pays c plan) a.world b.world course)

  abbrev pub most : ℕ
  most = most_owed c plan

  abbrev pub all : ℕ
  all = most_owed c plan + event_weight c

  ports_at : (h : HostState) → Affords c plan h → AtPorts h.world.left
  ports_at h x = at_ports-course x.works.course x.works.paths

  affords_on : (a b : HostState) → Affords c plan a → Running a.world b.world
      → (HostInvariant a → HostInvariant b) → HasPlugs plan.events b → b.world.fault ≡ None
      → Affords c plan b
  affords_on a b x on sound plugs none = record {
    works = record {
      sound = sound x.works.sound;
      working = none;
      is = x.works.is;
      paths = x.works.paths;
      course = course_joined x.works.course on.course;
      within = x.works.within;
      polls = x.works.polls;
    };
    few = x.few;
    plugs = plugs;
  }

  paid_less : (h : HostState) (r q : ℕ) → q ≤ r → Paid c plan r h → Paid c plan q h
  paid_less h r q less x = record {
    few = x.few;
    affords = x.affords;
    owes = λ none. room_within (weight_owed c plan h) q r most less (x.owes none);
  }

  -- A round

  round_few : (a b : HostState) (room : ℕ) (result : Result Round HostFault) → Paid c plan room a
      → RoundTells a result b → Few all b
  round_few a b room result x tells = few_called all (round_called tells) x.few (λ working.
      stopped_within (event_weight c) c.polls a.world.attempts (debt c a) a.world.taken
      (to_come a.world) (sum_by (event_pays c plan) a.world.left) b.world.attempts b.world.taken
      most room
      (tells.keeps.pays c plan (x.affords working)).most (omega (arith, tells.went.spends.events))
      (x.owes working))

  module _ (a b : HostState) (round : Round) (x : Paid c plan c.polls a)
      (tells : RoundTells a (Ok round) b) (none : b.world.fault ≡ None) where
    round_work : Running a.world b.world
    round_work = called_onward (round_called tells) none

    round_paid : PaysRound c plan a (Ok round) b
    round_paid = tells.keeps.pays c plan (x.affords round_work.sound)

    round_affords : Affords c plan b
    round_affords = affords_on a b (x.affords round_work.sound) round_work
        tells.keeps.sound.keeps.sound.sound (round_paid.plugs none) none

    round_owed : (k more : ℕ) → Costs c more a b → to_come b.world + k ≤ to_come a.world
        → weight_owed c plan b + c.polls * k ≤ weight_owed c plan a + more
    round_owed k more costs fewer = owed_on a b k more round_work.course costs
        tells.went.spends.events fewer

    -- no event is added
    none_added : to_come b.world + 0 ≤ to_come a.world
    none_added = omega (arith, tells.went.spends.events, tells.went.spends.onward)

    event_came : (b.world.taken ≢ a.world.taken) → to_come b.world + 1 ≤ to_come a.world
    event_came other = omega (arith, other, tells.went.spends.events, tells.went.spends.onward)

    round_goes : (r : Round) → RoundPaid c r a b → (r ≡ Quiet → b.world.taken ≢ a.world.taken)
        → weight_owed c plan b + c.polls ≤ most
    round_goes Worked done came =
        owed_worked (weight_owed c plan b) (weight_owed c plan a) c.polls most
        (round_owed 0 0 (pays_costs (b.world.attempts + debt c b) (event_weight c * a.world.taken)
        (a.world.attempts + debt c a + event_weight c * b.world.taken) done) none_added)
        (x.owes round_work.sound)
    round_goes Quiet done came =
        owed_came (weight_owed c plan b) (weight_owed c plan a) c.polls most
        (round_owed 1 c.polls done (event_came (came refl))) (x.owes round_work.sound)

    round_settles : round ≡ Quiet → weight_owed c plan b + 0 ≤ most
    round_settles quiet =
        let done : RoundPaid c Quiet a b = subst (λ r. RoundPaid c r a b) quiet
        (round_paid.pays none) in
        owed_settled (weight_owed c plan b) (weight_owed c plan a) c.polls most
        (round_owed 0 c.polls done none_added) (x.owes round_work.sound)

  -- An event

  module _ (a b : HostState) (due : Option Ask) (x : Paid c plan 0 a)
      (comes : Comes a (Ok (Some due)) b) where
    came_work : Running a.world b.world
    came_work = comes_onward comes comes.takes.took.ends.still

    came_keeps : KeepsBy unmarked unmarked unmarked a.world b.world
    came_keeps = subst (KeepsBy unmarked unmarked unmarked a.world) (sym comes.takes.exact)
        (keeps-event unmarked unmarked unmarked few-none a.world
        (ports_at a (x.affords came_work.sound)))

    came_entries : b.entries ≡ a.entries
    came_entries = ap (λ (h : HostState). h.entries) comes.rests

    came_affords : Affords c plan b
    came_affords = affords_on a b (x.affords came_work.sound) came_work
        (arrival_sound a b (Some due) comes).sound
        (plugs_same plan.events a b comes.takes.took.spends.onward came_entries
        (x.affords came_work.sound).plugs) comes.takes.took.ends.still

    came_owed : weight_owed c plan b + (c.polls + room_of c plan due) ≤ most
    came_owed =
        let first : IsFirstDue a.world due = first_due a.world due comes.takes.asked in
        let left : b.world.left ≡ first.events = ap (λ (w : World). w.left) comes.takes.exact
        ∙ after_left a.world first.e first.events came_work.sound first.left in
        let fewer : to_come a.world ≡ to_come b.world + 1 =
        omega (arith, ap length first.left, ap length left) in
        let pays : Event → ℕ = event_pays c plan in
        let less : sum_by pays a.world.left ≡ pays first.e + sum_by pays b.world.left =
        ap (sum_by pays) first.left ∙ (sum_by-cons pays first.e first.events
        ∙ ap (λ l. pays first.e + sum_by pays l) (sym left)) in
        let fits : room_of c plan due ≤ beside c + pays first.e =
        subst (λ d. room_of c plan d ≤ beside c + pays first.e) first.asks
        (room_moved c plan first.e) in
        owed_due (weight_owed c plan b) (weight_owed c plan a) (beside c) c.polls (pays first.e)
        (room_of c plan due) most
        (owed_behind (event_weight c) added (beside c) c.polls a.world.attempts (debt c a)
        a.world.taken (to_come a.world) (sum_by (event_pays c plan) a.world.left)
        b.world.attempts (debt c b) b.world.taken (to_come b.world)
        (sum_by (event_pays c plan) b.world.left)
        (pays first.e)
        event_is comes.takes.took.spends.most (debt_kept a b came_keeps came_entries)
        comes.takes.took.ends.one fewer less) fits (x.owes came_work.sound)

    came_paid : Paid c plan (c.polls + room_of c plan due) b
    came_paid = record {
      few = still_within b.world.attempts a.world.attempts all comes.takes.took.spends.most x.few;
      affords = λ none. came_affords;
      owes = λ none. came_owed;
    }

  -- A transfer

  module _ {A : Type 0} (n : ℕ) {Did : HostState → Result A HostFault → HostState → Type 0}
      (a b : HostState) (result : Result A HostFault) (x : Paid c plan (c.polls + n) a)
      (tells : TransferTells n Did a result b) where
    transfer_calls : Called a b
    transfer_calls = record { most = n; went = tells.went }

    transfer_few : Few all b
    transfer_few = few_called all transfer_calls x.few (λ working.
        moved_within b.world.attempts a.world.attempts (debt c a)
        ((event_weight c + c.polls) * to_come a.world) (sum_by (event_pays c plan) a.world.left)
        c.polls n most (event_weight c) tells.went.spends.most (x.owes working))

    module _ (none : b.world.fault ≡ None) where
      transfer_work : Running a.world b.world
      transfer_work = called_onward transfer_calls none

      transfer_keeps : KeepsBy unmarked unmarked unmarked a.world b.world
      transfer_keeps = (tells.keeps.backlog none).all (ports_at a (x.affords transfer_work.sound))
          unmarked unmarked unmarked few-none

      transfer_affords : Affords c plan b
      transfer_affords = affords_on a b (x.affords transfer_work.sound) transfer_work
          tells.keeps.sound.sound
          (plugs_same plan.events a b tells.went.spends.onward tells.stopped.kept
          (x.affords transfer_work.sound).plugs) none

      transfer_owed : weight_owed c plan b + c.polls ≤ most
      transfer_owed =
          let fewer : to_come b.world + 0 ≤ to_come a.world =
          omega (arith, tells.went.spends.events, tells.went.spends.onward) in
          let costs : Costs c n a b = grown_pays (event_weight c) added (beside c)
          a.world.attempts (debt c a) a.world.taken b.world.attempts (debt c b) b.world.taken n
          event_is tells.went.spends.most (debt_kept a b transfer_keeps tells.stopped.kept)
          tells.went.spends.onward in
          owed_moved (weight_owed c plan b) (weight_owed c plan a) c.polls n most
          (owed_on a b 0 n transfer_work.course costs tells.went.spends.events fewer)
          (x.owes transfer_work.sound)

    transfer_paid : Paid c plan c.polls b
    transfer_paid = record { few = transfer_few; affords = transfer_affords; owes = transfer_owed }

  -- A look

  module _ (a b : HostState) (path : List ℕ) (result : Result Look HostFault)
      (x : Paid c plan (c.polls + look_cost c plan) a) (tells : LookTells path a result b) where
    look_calls : Called a b
    look_calls = record { most = handling_bound; went = tells.went }

    look_few : Few all b
    look_few = few_called all look_calls x.few (λ working.
        looked_within (event_weight c) c.polls a.world.attempts (debt c a) a.world.taken
        (to_come a.world) (sum_by (event_pays c plan) a.world.left) b.world.attempts b.world.taken
        most (look_cost c plan) (tells.keeps.costs c plan (x.affords working)).most
        (omega (arith, tells.went.spends.events)) (x.owes working))

    module _ (goes : is_final result ≡ false) (none : b.world.fault ≡ None) where
      look_work : Running a.world b.world
      look_work = called_onward look_calls none

      look_costs : LookCosts c plan a result b
      look_costs = tells.keeps.costs c plan (x.affords look_work.sound)

      look_affords : Affords c plan b
      look_affords = affords_on a b (x.affords look_work.sound) look_work
          (tells.keeps.sound goes).sound.sound (look_costs.plugs goes none) none

      look_owed : weight_owed c plan b + c.polls ≤ most
      look_owed =
          let fewer : to_come b.world + 0 ≤ to_come a.world =
          omega (arith, tells.went.spends.events, tells.went.spends.onward) in
          owed_moved (weight_owed c plan b) (weight_owed c plan a) c.polls (look_cost c plan) most
          (owed_on a b 0 (look_cost c plan) look_work.course (look_costs.costs goes none)
          tells.went.spends.events fewer) (x.owes look_work.sound)

    look_paid : is_final result ≡ false → Paid c plan c.polls b
    look_paid goes = record { few = look_few; affords = look_affords goes; owes = look_owed goes }

  -- The trace, and of which devices the caller was told

  kept_paid : (a : HostState) (trace : Option (List ℕ)) (reported : List (List ℕ × ℕ))
      → Paid c plan c.polls a
      → Paid c plan c.polls (record a { trace = trace; reported = reported })
  kept_paid a trace reported x = record {
    few = x.few;
    affords = λ none. so (x.affords none);
    owes = x.owes;
  }
    where
      so : Affords c plan a → Affords c plan (record a { trace = trace; reported = reported })
      so y =
          let s = y.works.sound in
          record {
            works = record {
              sound = record {
                owned = s.owned;
                rooted = s.rooted;
                order = s.order;
                known = s.known;
                truthful = s.truthful;
                level = s.level;
              };
              working = y.works.working;
              is = y.works.is;
              paths = y.works.paths;
              course = y.works.course;
              within = y.works.within;
              polls = y.works.polls;
            };
            few = y.few;
            plugs = record { each = y.plugs.each; none_waits = y.plugs.none_waits };
          }

  -- What an event asks

  same_paid : (a b : HostState) (room : ℕ) → b ≡ a → Paid c plan (c.polls + room) a
      → Paid c plan c.polls b
  same_paid a b room same x = subst (Paid c plan c.polls) (sym same)
      (paid_less a (c.polls + room) c.polls (omega arith) x)

  asked_paid : (a : HostState) {due asked : Option Ask} → due ≡ asked
      → Paid c plan (c.polls + room_of c plan due) a
      → Paid c plan (c.polls + room_of c plan asked) a
  asked_paid a asks x = subst (λ d. Paid c plan (c.polls + room_of c plan d) a) asks x

  call_paid : (ask : Ask) (a b : HostState) (result : Result (CallGives ask) HostFault)
      → Paid c plan (c.polls + room_of c plan (Some ask)) a → CallTells ask a result b
      → is_final result ≡ false → Paid c plan c.polls b
  call_paid (Show said) a b result x tells goes = absurd tells
  call_paid AskNews a b result x tells goes = absurd tells
  call_paid (LookAt path) a b result x tells goes = look_paid a b path result x tells goes
  call_paid ask a b result x tells goes =
      transfer_paid (room_of c plan (Some ask)) a b result x tells

  call_few : (ask : Ask) (a b : HostState) (result : Result (CallGives ask) HostFault)
      → Paid c plan (c.polls + room_of c plan (Some ask)) a → CallTells ask a result b → Few all b
  call_few (Show said) a b result x tells = absurd tells
  call_few AskNews a b result x tells = absurd tells
  call_few (LookAt path) a b result x tells = look_few a b path result x tells
  call_few ask a b result x tells = transfer_few (room_of c plan (Some ask)) a b result x tells

  asked_calls : (a b : HostState) {due : Option Ask} {item : Option Item}
      → Paid c plan (c.polls + room_of c plan due) a → AskAnswered due item a b
      → Paid c plan c.polls b
  asked_calls a b {due} x (silent nothing same) = same_paid a b (room_of c plan due) same x
  asked_calls a b {due} x (listed said asks is same) = same_paid a b (room_of c plan due) same x
  asked_calls a b x (called ask told asks fits of came) =
      call_paid ask a b came.answer (asked_paid a asks x) came.call
      (answered_goes came.answer told came.tells)
  asked_calls a b {due} x (news told asks is all) =
      let only = all_reported a b told.items all in
      subst (Paid c plan c.polls) (sym only.1) (kept_paid a a.trace only.0
      (paid_less a (c.polls + room_of c plan due) c.polls (omega arith) x))

  calls_few : (a b : HostState) (due : Option Ask) → Paid c plan (c.polls + room_of c plan due) a
      → Calls due a b → Few all b
  calls_few a b due x (no_call same) = subst (Few all) (sym same) x.few
  calls_few a b due x (calls ask result asks tells) =
      call_few ask a b result (asked_paid a asks x) tells
  calls_few a b due x (tells_news asks only) = subst (Few all) (sym only.1) x.few

  item_paid : (a b : HostState) (due : Option Ask) (item : Option Item)
      → Paid c plan (c.polls + room_of c plan due) a → IsItemOf due item a b → Paid c plan c.polls b
  item_paid a b due item x is = asked_calls a b x (answered due item a b is)

  stop_few : (a b : HostState) (due : Option Ask) (fault : RunFault)
      → Paid c plan (c.polls + room_of c plan due) a → StopsAt due fault a b → Few all b
  stop_few a b due fault x stops = calls_few a b due x (stop_calls due fault a b stops)

  -- A run

  pub carries_paid : Carries all (Paid c plan c.polls) (Paid c plan 0)
      (λ due. Paid c plan (c.polls + room_of c plan due))
  carries_paid = record {
    few = λ a x. x.few;
    goes = λ a b round x tells goes. record {
      few = round_few a b c.polls (Ok round) x tells;
      affords = round_affords a b round x tells;
      owes = λ none. round_goes a b round x tells none round
          ((round_paid a b round x tells none).pays none)
          (λ quiet same. goes (record { quiet = quiet; none = same }));
    };
    settles = λ a b round x tells ends. record {
      few = round_few a b c.polls (Ok round) x tells;
      affords = round_affords a b round x tells;
      owes = λ none. round_settles a b round x tells none ends.quiet;
    };
    fails = λ a b why x tells. round_few a b c.polls (Err why) x tells;
    comes = λ a b due x comes. came_paid a b due x comes;
    ends = λ a b result x comes. still_within b.world.attempts a.world.attempts all
        comes.takes.took.spends.most x.few;
    answers = λ a b due item x is. item_paid a b due item x is;
    stops = λ a b due fault x stops. stop_few a b due fault x stops;
    writes = λ a trace x. kept_paid a trace a.reported x;
  }

-- A run begins

module _ (plan : PlanData) (few : plug_events plan.events ≤ 127) (before : Option (List ℕ)) where
  abbrev first : HostState
  first = host_opening (usual_options plan.wide) (opening plan) before

  first_affords : HostInvariant first → IsPlan plan → AtPorts plan.events
      → Course AnyStep (opening plan) first.world → Affords (weights plan) plan first
  first_affords sound is paths course = record {
    works = record {
      sound = sound;
      working = refl;
      is = is;
      paths = paths;
      course = course;
      within = greatest_total-plugs (weights plan).most plan.devices plan.events (omega arith);
      polls = refl;
    };
    few = few;
    plugs = plugs_opening plan.events first refl;
  }

  first_owed : weight_owed (weights plan) plan first + (weights plan).polls
      ≤ most_owed (weights plan) plan
  first_owed =
      let c = weights plan in
      owed_first (look_weight c) (stray_weight c) (hub_weight c)
      (looks_by unmarked first.world.roots) (strays_by unmarked unmarked first.world.roots)
      (hubs first.entries)
      ((event_weight c + c.polls) * length plan.events) (sum_by (event_pays c plan) plan.events)
      c.polls
      (looks_by-opening unmarked plan.roots) (strays_by-opening unmarked unmarked (λ i. refl)
      (λ i. refl) plan.roots) refl

  pub opens_paid : (h : HostState) → Opens plan before h
      → Paid (weights plan) plan (weights plan).polls h
  opens_paid h opens = subst (Paid (weights plan) plan (weights plan).polls) (sym opens.is)
      (record {
        few = omega arith;
        affords = λ none. first_affords (subst HostInvariant opens.is opens.sound) opens.rules
            opens.paths
            (traced_runs_onward (subst (λ (k : HostState). Traced (opening plan) before k.world
            k.trace)
            opens.is opens.traced) refl).course;
        owes = λ none. first_owed;
      })
