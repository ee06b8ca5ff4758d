-- What was left to do pays for the polls of hubs, and for the ports that had changed.
use Rattle.std.proofs.Common.{◌≡◌, ◌≤◌, ◌<◌, ◌⊎◌, inl, inr, refl, ap, arith, ℕ, zero, suc, ◌+◌, ◌*◌}
use Rattle.std.proofs.Common.{Bool, true, false, cond, List, [], ◌∷◌, Option, None, Some, length}
use Rattle.std.proofs.Common.{take, ltb, Result, Ok, Any, ◌-◌, ◌++◌, Err}
use Rattle.std.specs.List.{count_by}
use Rattle.std.proofs.lemmas.List.Sums.{count_by-le-length, sum_by-cons}
use Rattle.usb_port.specs.{rank_of, PortState, has_bit, seen, PortStatus}
use Rattle.usb_world.specs.{Action, Plug, Event, PlanData, StillSet, row_reached, World}
use Rattle.usb_world.specs.{root_port_at, roots_of}
use Rattle.usb_world.specs.declared.event.Action.TheVariants.{Change}
use Rattle.usb_world.proofs.Interface.{course_joined, course_bits, course_wider, same_device}
use Rattle.usb_enum.proofs.Interface.{went_course}
use Rattle.usb_host.specs.{Part, Costs, HubPaid, Pays, PaysPart, RoundPaid, StopsWithin, Weights}
use Rattle.usb_host.specs.{WorksOn, debt, event_weight, hubs_most, poll_most, HostState, WasPlugged}
use Rattle.usb_host.specs.{either, HostFault, Round, Worked, Quiet, NumberPaid, PortPaid, RootsPaid}
use Rattle.usb_host.specs.{ShowsChange, ShowsTold, ToldPaid, handling_most, told_most, paid, idle}
use Rattle.usb_host.proofs.StepSums.{went_before}
use Rattle.usb_host.proofs.payments.Payments.{stops_after, part_works, costs_pays, costs_then}
use Rattle.usb_host.proofs.devices.Plugs.{any_cases, there_was_plugged}
use Rattle.usb_host.proofs.entries.Ranks.{rank_after}
use Rattle.std.proofs.lemmas.Option.{slice_get-get_or}
use Rattle.usb_device.specs.{port_there}
use Rattle.usb_hub.specs.{PortStatusAt, TouchesNoPort}
use Rattle.usb_hub.proofs.Interface.{row_port}

-- What was left to do pays for the polls of hubs.

-- How many polls found nothing

module _ {X : Type 0} (p q : X → Bool) (more : (x : X) → p x ≡ true → q x ≡ true) where
  one_less : (x y : Bool) → (x ≡ true → y ≡ true) → cond x 1 0 ≤ cond {A = ℕ} y 1 0
  one_less x y h = grind arith

  count_less : (xs : List X) → count_by p xs ≤ count_by q xs
  count_less [] = omega arith
  count_less (x ∷ xs) =
      omega (
        arith,
        one_less (p x) (q x) (more x),
        count_less xs,
        sum_by-cons (λ (y : X). cond (p y) 1 0) x xs,
        sum_by-cons (λ (y : X). cond (q y) 1 0) x xs,
      )

  -- one that is new counts
  count_fewer : (xs : List X) → Any (λ x. (p x ≡ false) × (q x ≡ true)) xs
      → count_by p xs + 1 ≤ count_by q xs
  count_fewer [] a = grind arith
  count_fewer (x ∷ xs) a =
      let before = sum_by-cons (λ (y : X). cond (p y) 1 0) x xs in
      let after = sum_by-cons (λ (y : X). cond (q y) 1 0) x xs in
      elim (any_cases (λ (y : X). (p y ≡ false) × (q y ≡ true)) x xs a) [
        | inl new ↦
            let none : cond {A = ℕ} (p x) 1 0 ≡ 0 = ap (λ (b : Bool). cond {A = ℕ} b 1 0) new.0 in
            let one : cond {A = ℕ} (q x) 1 0 ≡ 1 = ap (λ (b : Bool). cond {A = ℕ} b 1 0) new.1 in
            omega (arith, count_less xs, before, after)
        | inr later ↦
            omega (arith, one_less (p x) (q x) (more x), count_fewer xs later, before, after)
      ]

module _ {X : Type 0} (p : X → Bool) where
  count_taken : (m n : ℕ) (xs : List X) → m ≤ n → count_by p (take m xs) ≤ count_by p (take n xs)
  count_taken (suc m) zero (x ∷ xs) le = absurd (omega arith)
  count_taken (suc m) (suc n) (x ∷ xs) le =
      omega (
        arith,
        count_taken m n xs (omega arith),
        sum_by-cons (λ (y : X). cond (p y) 1 0) x (take m xs),
        sum_by-cons (λ (y : X). cond (p y) 1 0) x (take n xs),
      )
  count_taken _ n _ le = omega arith

  count_all : (n : ℕ) (xs : List X) → count_by p (take n xs) ≤ count_by p xs
  count_all (suc n) (x ∷ xs) =
      omega (
        arith,
        count_all n xs,
        sum_by-cons (λ (y : X). cond (p y) 1 0) x (take n xs),
        sum_by-cons (λ (y : X). cond (p y) 1 0) x xs,
      )
  count_all _ _ = omega arith

-- a device is plugged at a path of a lower rank
abbrev pub plugs_below : ℕ → Action → Bool
plugs_below r (Change (Plug path device)) = ltb (rank_of path) r
plugs_below r _ = false

below_later : (r s : ℕ) (a : Action) → r ≤ s → plugs_below r a ≡ true → plugs_below s a ≡ true
below_later r s a le is = grind arith

-- how many plugs that came are at a path of a lower rank
abbrev pub plugged_below : List Event → ℕ → ℕ → ℕ
plugged_below events came r = count_by (λ (e : Event). plugs_below r e.action) (take came events)

plugged_more : (events : List Event) (m n r s : ℕ) → m ≤ n → r ≤ s
    → plugged_below events m r ≤ plugged_below events n s
plugged_more events m n r s le on =
    omega (
      arith,
      count_taken (λ (e : Event). plugs_below r e.action) m n events le,
      count_less (λ (e : Event). plugs_below r e.action) (λ (e : Event). plugs_below s e.action)
          (λ e. below_later r s e.action on) (take n events),
    )

plugged_below-more : (events : List Event) (m n r s : ℕ) (path : List ℕ) → m ≤ n → r ≤ rank_of path
    → rank_of path < s → WasPlugged events n path
    → plugged_below events m r + 1 ≤ plugged_below events n s
plugged_below-more events m n r s path le least less was =
    let fewer =
    count_fewer (λ (e : Event). plugs_below r e.action) (λ (e : Event). plugs_below s e.action)
    (λ e. below_later r s e.action (omega arith)) (take n events)
    (grind arith) in grind (arith, count_taken)

plugged_most : (events : List Event) (came r : ℕ) → plugged_below events came r ≤ length events
plugged_most events came r = grind (arith, count_all, count_by-le-length)

-- Hubs that were polled

-- so many polls found nothing; all else is paid, and the polls of a round where one found something
abbrev pub PollsPaid : Weights → ℕ → Round → HostState → HostState → Type 0
PollsPaid c polls Worked a b = b.world.attempts + debt c b + c.polls + event_weight c *
    a.world.taken ≤ a.world.attempts + debt c a + event_weight c * b.world.taken + 768 * polls
PollsPaid c polls Quiet a b = Costs c (768 * polls) a b

pub record HubsPaid (c : Weights) (events : List Event) (last : Option (List ℕ)) (round : Round)
    (a b : HostState) : Type 0 where
  pub polls : ℕ
  pub few : polls ≤ plugged_below events b.world.taken (rank_after last)
  pub paid : PollsPaid c polls round a b

pub record HubsSoFar (last : Option (List ℕ)) (round : Round) (a b : HostState) : Type 0 where
  pub stops : (c : Weights) (plan : PlanData) → WorksOn c plan a → StopsWithin c (hubs_most c) a b
  pub pays : (c : Weights) (plan : PlanData) → WorksOn c plan a → b.world.fault ≡ None
      → HubsPaid c plan.events last round a b

-- no more polls than events
few_polls : {c : Weights} (plan : PlanData) (last : Option (List ℕ)) {round : Round} {a : HostState}
    (b : HostState) → WorksOn c plan a
    → (x : HubsPaid c plan.events last round a b) → 768 * x.polls ≤ c.polls
few_polls plan last b w x =
    omega (arith, x.few, plugged_most plan.events b.world.taken (rank_after last), w.polls)

done_by : (c : Weights) (polls : ℕ) (round : Round) (a b : HostState) → 768 * polls ≤ c.polls
    → PollsPaid c polls round a b → RoundPaid c round a b
done_by c polls round a b few x = grind arith

cost_by : (c : Weights) (polls : ℕ) (round : Round) (a b : HostState) → 768 * polls ≤ c.polls
    → PollsPaid c polls round a b → Costs c c.polls a b
cost_by c polls round a b few x = grind arith

quiet_next : (c : Weights) (polls : ℕ) (round : Round) (a b d : HostState)
    → PollsPaid c polls round a b → Costs c 768 b d
    → PollsPaid c (polls + 1) (either round Quiet) a d
quiet_next c polls round a b d x y = grind arith

worked_next : (c : Weights) (polls : ℕ) (round : Round) (a b d : HostState)
    → PollsPaid c polls round a b → Pays c c.polls b d → PollsPaid c polls (either round Worked) a d
worked_next c polls round a b d x y = grind arith

module _ {m n : ℕ} {last : Option (List ℕ)} (hub : List ℕ) {round : Round}
    {result : Result Round HostFault} {a b d : HostState} (first : Part m a (Ok round) b)
    (second : Part n b result d) (before : HubsSoFar last round a b)
    (then : PaysPart poll_most (HubPaid hub) b result d) where
  hubs_stop : (c : Weights) (plan : PlanData) → WorksOn c plan a → StopsWithin c (hubs_most c) a d
  hubs_stop c plan w =
      stops_after c a b d c.polls (poll_most c) (hubs_most c) second.goes.went
      (before.stops c plan w)
      (λ still. let y = before.pays c plan w still in
      cost_by c y.polls round a b (few_polls plan last b w y) y.paid)
      (λ still. then.stops c plan (part_works first w still)) (omega arith)

  pub hubs_failed_pay : {B : Type 0} {Done : Weights → B → HostState → HostState → Type 0}
      {fault : HostFault} → PaysPart hubs_most Done a (Err fault) d
  hubs_failed_pay = search hubs_stop

pub hubs_next : {m n : ℕ} {last : Option (List ℕ)} (hub : List ℕ) {round one : Round}
    {a b d : HostState} → rank_after last ≤ rank_of hub → Part m a (Ok round) b
    → Part n b (Ok one) d → HubsSoFar last round a b
    → PaysPart poll_most (HubPaid hub) b (Ok one) d → HubsSoFar (Some hub) (either round one) a d
hubs_next {n = n} {last = last} hub {round = round} {one = one} {a = a} {b = b} {d = d}
    rises first second before then = record {
      stops = search hubs_stop;
      pays = λ c plan w still.
          let here : b.world.fault ≡ None = went_before second.goes.went still in
          let works = part_works first w here in
          polled c plan works still one (then.pays c plan works still) (before.pays c plan w here);
    }
  where
    onward : b.world.taken ≤ d.world.taken
    onward = second.goes.went.spends.onward

    polled : (c : Weights) (plan : PlanData) → WorksOn c plan b → d.world.fault ≡ None
        → (one : Round) → HubPaid hub c one b d → HubsPaid c plan.events last round a b
        → HubsPaid c plan.events (Some hub) (either round one) a d
    polled c plan w still Worked y z = record {
      polls = z.polls;
      few = omega (
        arith,
        z.few,
        plugged_more plan.events b.world.taken d.world.taken (rank_after last)
            (rank_after (Some hub)) onward (omega arith),
      );
      paid = search worked_next;
    }
    polled c plan w still Quiet y z =
        let was : WasPlugged plan.events d.world.taken hub =
        there_was_plugged plan w.is w.paths
        (course_joined w.course (went_course n b.world d.world second.goes.went still)) hub y.1 in
        record {
          polls = z.polls + 1;
          few = omega (
            arith,
            z.few,
            plugged_below-more plan.events b.world.taken d.world.taken (rank_after last)
                (rank_after (Some hub)) hub onward rises (omega arith) was,
          );
          paid = search quiet_next;
        }

-- each of them was polled
pub hubs_all : (last : Option (List ℕ)) (round : Round) (a b : HostState) → HubsSoFar last round a b
    → PaysPart hubs_most RoundPaid a (Ok round) b
hubs_all last round a b x = record {
  stops = x.stops;
  pays = λ c plan w still. let y = x.pays c plan w still in
      done_by c y.polls round a b (few_polls plan last b w y) y.paid;
}

-- What was left to do pays for the ports that had changed.

-- A port that shows a change

row_back : (w v : World) (q : List ℕ) → TouchesNoPort w v → row_reached v.roots q ≡ true
    → row_reached w.roots q ≡ true
row_back w v [] rest on = refl
row_back w v (m ∷ q) rest on = (same_device (m ∷ q) (course_wider (λ s u k. k.rests) (rest (m ∷ q)))
    on).0

still_shows : {b : PortState} {o : Option PortState} → StillSet b o → (b.connection_changed ≡ true)
    ⊎ (b.reset_changed ≡ true)
    → (c : PortState) × (o ≡ Some c) × ((c.connection_changed ≡ true) ⊎ (c.reset_changed ≡ true))
still_shows x h = grind arith

-- it shows it as long as nothing is asked of it, and the device above it is reached
pub shows_on : (w : World) {v : World} (q : List ℕ) (n : ℕ) → TouchesNoPort w v
    → row_reached v.roots q ≡ true → ShowsChange w (q ++ (n ∷ [])) → ShowsChange v (q ++ (n ∷ []))
shows_on w q n rest on x =
    let y : _ =
    still_shows
    (course_bits q n (course_wider (λ s u k. k.leaves) (rest (q ++ (n ∷ [])))) on x.port x.there)
    x.changed in
    record { port = y.0; there = y.1; changed = y.2 }

-- so its status tells of it
status_shows : (w : World) (p : List ℕ) {status : PortStatus} (b : PortState)
    → port_there w.roots p ≡ Some b → status ≡ seen b → ShowsChange w p
    → status.connection_changed ≡ false → status.reset_changed ≡ false → ⊥
status_shows w p b there is x quiet steady = grind arith

pub told_shows : (w v : World) (p : List ℕ) {status : PortStatus} → PortStatusAt p status w v
    → ShowsChange w p → status.connection_changed ≡ false → status.reset_changed ≡ false → ⊥
told_shows w v p t x quiet steady = grind (arith, row_back, shows_on, status_shows)

pub changed_paid : {c : Weights} {p : List ℕ} (a : HostState) {b : HostState}
    → ShowsChange a.world p → PortPaid c p a b → Pays c (c.polls + 28768) a b
changed_paid a x (paid y) = y
changed_paid {p = p} a x (idle status mid told quiet steady y) =
    absurd (told_shows a.world mid p told x quiet steady)

-- Root ports

pub root_shows : (w : World) (n : ℕ) → 1 ≤ n → n ≤ roots_of w
    → (root_port_at w n).connection_changed ≡ true → ShowsChange w (n ∷ [])
unfolding root_port_at
root_shows w zero least most on = absurd (omega arith)
root_shows w (suc i) least most on =
    record {
      port = root_port_at w (suc i);
      there = grind (arith, row_port, slice_get-get_or);
      changed = inl on;
    }

roots_cost : (c : Weights) (round : Round) (a b : HostState) → RootsPaid c round a b → Costs c 0 a b
roots_cost c round a b x = grind arith

module _ {m n number : ℕ} {round : Round} {result : Result (Unit {0}) HostFault}
    {a b d : HostState} (first : Part m a (Ok round) b) (second : Part n b result d)
    (before : PaysPart handling_most RootsPaid a (Ok round) b)
    (then : PaysPart handling_most (λ c done. PortPaid c (number ∷ [])) b result d) where
  roots_stop : (c : Weights) (plan : PlanData) → WorksOn c plan a
      → StopsWithin c (handling_most c) a d
  roots_stop c plan w =
      stops_after c a b d 0 (handling_most c) (handling_most c) second.goes.went
      (before.stops c plan w) (λ still. roots_cost c round a b (before.pays c plan w still))
      (λ still. then.stops c plan (part_works first w still)) (omega arith)

  pub roots_failed_pay : {B : Type 0} {Done : Weights → B → HostState → HostState → Type 0}
      {fault : HostFault} → PaysPart handling_most Done a (Err fault) d
  roots_failed_pay = search roots_stop

pub roots_next : {m n number : ℕ} {round : Round} {a b d : HostState}
    → ShowsChange b.world (number ∷ []) → Part m a (Ok round) b
    → Part {A = Unit {0}} n b (Ok tt) d → PaysPart handling_most RootsPaid a (Ok round) b
    → PaysPart {A = Unit {0}} handling_most (λ c done. PortPaid c (number ∷ [])) b (Ok tt) d
    → PaysPart handling_most RootsPaid a (Ok Worked) d
roots_next {n = n} {round = round} {a = a} {b = b} {d = d} shows first second before then = record {
  stops = roots_stop first second before then;
  pays = λ c plan w still.
      let here : b.world.fault ≡ None = went_before second.goes.went still in
      costs_pays c a b d 0 (c.polls + 28768) c.polls
      (roots_cost c round a b (before.pays c plan w here))
      (changed_paid b shows (then.pays c plan (part_works first w here) still)) (omega arith);
}

-- Ports of which a hub told

-- so much is left over where the ports below a number were handled, and one of them had changed
abbrev pub LeftOver : Weights → ℕ → HostState → HostState → Type 0
LeftOver c number a b = b.world.attempts + debt c b + (c.polls + 32768) + event_weight c *
    a.world.taken ≤ a.world.attempts + debt c a + event_weight c * b.world.taken + 2000 * number

-- nothing was done yet, since no bit below the number is set
pub record NoneBelow (bits number : ℕ) (a b : HostState) : Type 0 where
  pub same : b ≡ a
  pub clear : (n : ℕ) → 1 ≤ n → n < number → has_bit bits n ≡ false

pub record ToldSoFar (hub : List ℕ) (bits number : ℕ) (a b : HostState) : Type 0 where
  pub stops : (c : Weights) (plan : PlanData) → WorksOn c plan a → StopsWithin c (told_most c) a b
  pub costs : (c : Weights) (plan : PlanData) → WorksOn c plan a → b.world.fault ≡ None
      → Costs c (2000 * number) a b
  pub shown : (c : Weights) (plan : PlanData) → WorksOn c plan a → b.world.fault ≡ None
      → ShowsTold hub bits a → NoneBelow bits number a b ⊎ LeftOver c number a b

pub told_so_far_none : {hub : List ℕ} {bits : ℕ} (h : HostState) → ToldSoFar hub bits 1 h h
told_so_far_none h = grind arith

-- the bit of the number is not set
pub told_clear : {hub : List ℕ} (bits number : ℕ) (a b : HostState) → has_bit bits number ≡ false
    → ToldSoFar hub bits number a b → ToldSoFar hub bits (number + 1) a b
told_clear bits number a b quiet x = record {
  stops = x.stops;
  costs = grind arith;
  shown = λ c plan w still s. elim (x.shown c plan w still s) [
    | inl y ↦ inl (grind arith)
    | inr y ↦ inr (omega arith)
  ];
}

number_costs : (c : Weights) (hub : List ℕ) (number : ℕ) (round : Round) (a b : HostState)
    → NumberPaid c hub number round a b → Costs c 2000 a b
number_costs c hub number round a b x = grind arith

-- the first port of which it told
first_paid : (c : Weights) {hub : List ℕ} {bits : ℕ} (number : ℕ) (round : Round) (a b : HostState)
    → 1 ≤ number → number ≤ 15 → has_bit bits number ≡ true → ShowsTold hub bits a
    → NumberPaid c hub number round a b → Pays c (c.polls + 28768) a b
first_paid c number Worked a b least most on x y = search (changed_paid, x.shows)
first_paid c number Quiet a b least most on x y = grind arith

module _ {m n : ℕ} {hub : List ℕ} {bits number : ℕ} (least : 1 ≤ number) (most : number ≤ 15)
    {result : Result Round HostFault} {a b d : HostState} (first : Part {A = Unit {0}} m a (Ok tt)
    b)
    (second : Part n b result d) (before : ToldSoFar hub bits number a b)
    (then : PaysPart handling_most (λ c. NumberPaid c hub number) b result d) where
  told_stop : (c : Weights) (plan : PlanData) → WorksOn c plan a → StopsWithin c (told_most c) a d
  told_stop c plan w =
      stops_after c a b d (2000 * number) (handling_most c) (told_most c) second.goes.went
      (before.stops c plan w) (before.costs c plan w)
      (λ still. then.stops c plan (part_works first w still)) (omega arith)

  pub told_failed : {B : Type 0} {Done : Weights → B → HostState → HostState → Type 0}
      {fault : HostFault} → PaysPart told_most Done a (Err fault) d
  told_failed = search told_stop

pub told_next : {m n : ℕ} {hub : List ℕ} {bits number : ℕ} {round : Round} {a b d : HostState}
    → 1 ≤ number → number ≤ 15 → has_bit bits number ≡ true → Part {A = Unit {0}} m a (Ok tt) b
    → Part n b (Ok round) d → ToldSoFar hub bits number a b
    → PaysPart handling_most (λ c. NumberPaid c hub number) b (Ok round) d
    → ToldSoFar hub bits (number + 1) a d
told_next {n = n} {hub = hub} {bits = bits} {number = number} {round = round} {a = a} {b = b}
    {d = d} least most on first second before then = record {
      stops = search told_stop;
      costs = λ c plan w still.
          costs_then c a b d (2000 * number) 2000 (2000 * (number + 1))
          (before.costs c plan w (here still))
          (number_costs c hub number round b d (one c plan w still)) (omega arith);
      shown = λ c plan w still s. inr (after c s (one c plan w still)
          (before.shown c plan w (here still) s));
    }
  where
    here : d.world.fault ≡ None → b.world.fault ≡ None
    here still = went_before second.goes.went still

    one : (c : Weights) (plan : PlanData) → WorksOn c plan a → d.world.fault ≡ None
        → NumberPaid c hub number round b d
    one c plan w still = then.pays c plan (part_works first w (here still)) still

    after : (c : Weights) → ShowsTold hub bits a → NumberPaid c hub number round b d
        → NoneBelow bits number a b ⊎ LeftOver c number a b → LeftOver c (number + 1) a d
    after c s one (inl y) =
        let pays : Pays c (c.polls + 28768) a d =
        first_paid c number round a d least most on s (rw y.same at one) in
        omega (arith, pays)
    after c s one (inr y) = grind arith

-- all of them were handled
pub told_all : {hub : List ℕ} {bits : ℕ} {done : Unit {0}} (a b : HostState)
    → ToldSoFar hub bits 16 a b → PaysPart told_most (λ c done. ToldPaid hub bits c) a (Ok done) b
told_all a b x = grind arith
