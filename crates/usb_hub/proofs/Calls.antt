-- That a call at a port acts there where it is done, and what it asks of ports whatever its answer
-- is.
use Rattle.std.proofs.Common.{◌≡◌, ◌≢◌, ℕ, zero, suc, ◌⊎◌, inl, inr, true, false, List, [], ◌∷◌}
use Rattle.std.proofs.Common.{◌++◌, Option, None, Some, option_map, Result, Ok, Err, refl, ap, sym}
use Rattle.std.proofs.Common.{subst, ◌∙◌, arith}
use Rattle.usb_port.specs.{IsPath, IsPortNumber, PortCall, set_call, clear_call, is_reset}
use Rattle.usb_port.specs.{IsSetFeature, IsClearFeature, SetPower}
use Rattle.usb_request.specs.{setup_of, bytes_of, set_port_feature, clear_port_feature, Setup}
use Rattle.usb_request.specs.{PORT_POWER}
use Rattle.usb_request.proofs.Interface.{same_setup}
use Rattle.usb_device.specs.{Calls, asked_by_setup, outcome, port_named, State, called, acted}
use Rattle.usb_device.specs.{place, place_at, Location, path_to, reach_on, state_on}
use Rattle.usb_world.specs.{Attempt, BusFault, Outcome, KeepsPendingAt, is_harmless, Was}
use Rattle.usb_world.specs.{LeavesPortAlone, Step, attempt, root_call, after, at_attempt, Course}
use Rattle.usb_world.specs.{here, step as step_then, AttemptFails, SetsRoot, ClearsRoot, World}
use Rattle.usb_world.specs.{Attempted, address_of, is_way, IsSettled, keeps_pending}
use Rattle.usb_world.proofs.Interface.{course_joined, course_wider, made_of, same_is, settled_wider}
use Rattle.usb_world.proofs.Interface.{Allows, decided, equal_same}
use Rattle.usb_transfer.specs.{Target, TransFault, Answerer, is_at, AcceptedAt, AttemptLog}
use Rattle.usb_transfer.specs.{BusFailed, start, Transacted, in_attempt, setup_attempt}
use Rattle.usb_transfer.specs.declared.trans_fault.TransFault.TheVariants as trans
use Rattle.usb_transfer.proofs.Interface.{trail_course, transacted_ended, who_writes}
use Rattle.usb_transfer.proofs.Interface.{write_attempts, write_leaves}
use Rattle.usb_transfer.specs.{PipeFault, as_pipe_fault, Writes, IsBehind, IsNoBusFault, EffectDone}
use Rattle.usb_transfer.specs.{WriteLeaves}
use Rattle.usb_transfer.specs.declared.fault.PipeFault.TheVariants.{Bus}
use Rattle.usb_hub.specs.{AddressMap, LeavesPipe, MapHolds, WhileBusWorks, IsBelow, IsAbout}
use Rattle.usb_hub.specs.{UpToFault, ActsAt, PortCallDone, CommandsPort, TouchesNoPort, Commanded}
use Rattle.usb_hub.specs.{HubPort, Root, External, CoversCall, KeepsAll, KeepsBy, KeepsCall}
use Rattle.usb_hub.specs.{KeepsFound, PortMark, only, ports_at, unmarked}
use Rattle.usb_hub.proofs.ClaimedHubs.{ClaimedAt, KeepsClaim, claimed_path, quiet_follows}
use Rattle.usb_hub.proofs.ClaimedHubs.{reset_follows, some, trail_with}
use Rattle.usb_hub.proofs.PortResets.{Fits, Resets, resets_leave}
use Rattle.usb_hub.proofs.Steps.{settled_attempt}
use Rattle.usb_hub.proofs.HubPorts.{place_ports}
use Rattle.usb_hub.proofs.AddressPorts.{is_path-empty, no_root}
use Rattle.usb_hub.proofs.TransferSequences.{trail_sound}
use Rattle.usb_hub.proofs.Transfers.{writes_leave}
use Rattle.usb_hub.proofs.ActingCalls.{place_below, place_called, AsksFor, attempt_acts, root_acts}
use Rattle.usb_hub.proofs.ActingCalls.{root_acted}
use Rattle.usb_hub.proofs.RestingRequests.{behind_rests, behind_asks_nothing}
use Rattle.usb_hub.proofs.Backlogs.{acted_keeps, call_keeps, holder_covers, request_keeps}
use Rattle.usb_hub.proofs.Backlogs.{rests_backlog}
use Rattle.usb_hub.proofs.Phases.{few-only, ports_covered}
use Rattle.usb_hub.proofs.BacklogSteps.{keeps-chain, keeps-root, root_allowed}
use Rattle.usb_hub.proofs.BacklogRequests.{sets_none}
use Rattle.usb_hub.proofs.CallFailures.{call_served}
use Rattle.usb_hub.proofs.ControlCourses.{commanded_control}
use Rattle.usb_port.proofs.Interface.{call_is}

-- The attempts of a request without data: its setup data again and again, and what comes behind
-- them

pub record Sent (t : Target) (request : Setup) (old new : World) : Type 0 where
  pub mid : World
  pub outcomes : List Outcome
  pub trail : AttemptLog (setup_attempt t (bytes_of request)) old outcomes mid
  pub behind : Course (IsBehind t) mid new

pub writes_sent : (t : Target) (request : Setup) (old : World)
    (result : Result (Unit {0}) PipeFault) (new : World) → IsNoBusFault result
    → Writes t request old result new → Sent t request old new
writes_sent t request old (Ok u) new n x =
    record {
      mid = x.mid;
      outcomes = x.set_up.last ∷ x.set_up.outcomes;
      trail = x.set_up.trail;
      behind = grind (arith, trail_course);
    }
writes_sent t request old (Err why) new n (inl x) =
    let e = transacted_ended (Unit {0}) why x.fault x.told n x.set_up in
    record { mid = new; outcomes = e.last ∷ e.outcomes; trail = e.trail; behind = here new }
writes_sent t request old (Err why) new n (inr x) =
    record {
      mid = x.mid;
      outcomes = x.set_up.last ∷ x.set_up.outcomes;
      trail = x.set_up.trail;
      behind = grind (arith, trail_course);
    }

-- where the bus gave up, up to the attempt that it refused
record SentUpTo (t : Target) (request : Setup) (old : World) (fault : BusFault) (new : World) :
    Type 0 where
  mid : World
  outcomes : List Outcome
  trail : AttemptLog (setup_attempt t (bytes_of request)) old outcomes mid
  cut : World
  behind : Course (IsBehind t) mid cut
  last : Attempt
  refused : Attempted last cut (Err fault) new
  fails : cut.fault ≡ None → AttemptFails last cut (Err fault) new

bus_failed : {hear : _} {a : Attempt} {old new : World} (fault : BusFault) (f : TransFault)
    → Bus fault ≡ as_pipe_fault f → Transacted hear a old (Err f) new → BusFailed hear a old fault
    new
bus_failed fault f e x = grind arith

sent_up_to : (t : Target) (request : Setup) (old : World) (fault : BusFault) (new : World)
    → Writes t request old (Err (Bus fault)) new → SentUpTo t request old fault new
sent_up_to t request old fault new (inl x) =
    let b = bus_failed fault x.fault x.told x.set_up in
    record {
      mid = b.mid;
      outcomes = b.outcomes;
      trail = b.trail;
      cut = b.mid;
      behind = here b.mid;
      last = setup_attempt t (bytes_of request);
      refused = b.refused;
      fails = b.fails;
    }
sent_up_to t request old fault new (inr x) =
    let b = bus_failed fault x.fault x.told x.status in
    record {
      mid = x.mid;
      outcomes = x.set_up.last ∷ x.set_up.outcomes;
      trail = x.set_up.trail;
      cut = b.mid;
      behind = trail_course (λ w made. inl refl) b.trail;
      last = in_attempt t 0;
      refused = b.refused;
      fails = b.fails;
    }

-- what comes behind is about each port
behind_about : (t : Target) (p : List ℕ) (c : PortCall) {w v : World} → Course (IsBehind t) w v
    → IsSettled w.roots → Course (IsAbout p c) w v
behind_about t p c course =
    settled_wider (λ s w k h. record {
      others = λ x d. behind_rests t x s w k h;
      spares = λ y. (behind_rests t p s w k h).spares;
    }) course

-- A call at a hub's port

module _ (t : Target) (j : Location) (i : ℕ) (request : Setup) (c : PortCall)
    (asked : AsksFor request c (suc i)) (P : World → Type 0)
    (follows : KeepsClaim t request (path_to j) P) where
  abbrev a : Attempt
  a = setup_attempt t (bytes_of request)

  abbrev p : List ℕ
  p = path_to j ++ (suc i ∷ [])

  acting : {old new : World} {outcomes : List Outcome} → AttemptLog a old outcomes new → P old
      → P new × Course (ActsAt p c) old new
  acting tr first =
      trail_with P follows.onward (λ w made x. let k : ClaimedAt (path_to j) t.addr w =
      follows.claimed w x in attempt_acts t j i request c asked w (search made_of) k) tr first

  module _ (old : World) (result : Result (Unit {0}) PipeFault) (new : World)
      (n : IsNoBusFault result) (stages : Writes t request old result new) (first : P old) where
    sent : Sent t request old new
    sent = writes_sent t request old result new n stages

    at_work : P sent.mid × Course (ActsAt p c) old sent.mid
    at_work = acting sent.trail first

    rests_behind : TouchesNoPort sent.mid new
    rests_behind x = behind_asks_nothing t x sent.behind
        (follows.claimed sent.mid at_work.0).owned.settled

    pub hub_rests : (x : List ℕ) → is_way p x ≡ false → Course (LeavesPortAlone x) old new
    hub_rests x d = course_joined (course_wider (λ s w k. k.about.others x d) at_work.1)
        (rests_behind x)

    pub hub_spares : keeps_pending c [] ≡ true → Course (KeepsPendingAt p) old new
    hub_spares h = course_joined (course_wider (λ s w k. k.about.spares h) at_work.1)
        (course_wider (λ s w k. k.spares) (rests_behind p))

  pub hub_about : {old mid cut : World} {outcomes : List Outcome} → AttemptLog a old outcomes mid
      → Course (IsBehind t) mid cut → P old → Course (IsAbout p c) old cut
  hub_about {old} {mid} {cut} tr behind first =
      let x : P mid × Course (ActsAt p c) old mid = acting tr first in
      course_joined (course_wider (λ s w k. k.about) x.1)
      (behind_about t p c behind (follows.claimed mid x.0).owned.settled)

  module _ (old new : World) (ordered : Commanded t request old (Ok tt) new) (first : P old)
      (last : P new) (addressed : is_harmless request ≡ false → t.addr ≢ 0) where
    before : ClaimedAt (path_to j) t.addr old
    before = follows.claimed old first

    behind : ClaimedAt (path_to j) t.addr new
    behind = follows.claimed new last

    who : Answerer t old new
    who = who_writes t request tt old new asked.same addressed ordered.settled ordered.stages
        behind.owned.single

    path : path_to who.spot ≡ path_to j
    path = claimed_path (path_to j) t.addr old before who.spot who.before who.was_on who.stood
        (grind (arith, equal_same))

    on : reach_on new.roots j ≡ true
    on = grind (arith, path)

    there : (v : State) × (state_on new.roots j ≡ Some v) × (address_of v ≡ t.addr)
    there = grind (arith, on)

    was : Was (WriteLeaves t request (Ok tt) old new) old j there.0
    was =
        write_leaves t request (Ok tt) old new asked.nothing asked.same ordered.settled
        ordered.stages behind.owned.single j there.0 on there.1 (grind arith)

    asked_it : is_at was.before t ≡ true
    asked_it = grind (arith, was)

    done : EffectDone t request old new j was.before there.0
    done = was.so.done asked_it tt refl

    abbrev now : World
    now = done.moment.now

    accepted_there : AcceptedAt t (bytes_of request) old now j was.before done.moment.accepts.state
    accepted_there = done.moment.accepts.at

    abbrev mid : World
    mid = accepted_there.mid

    is_named : port_named was.before.spec.hub was.before.registers (suc i) ≡ Some i
    is_named = grind arith

    -- the hub, which stood there, has the port
    pub hub_named : (s : State) × ((state_on old.roots j ≡ Some s)
        × (port_named s.spec.hub s.registers (suc i) ≡ Some i))
    hub_named = (was.before, (was.stands, is_named))

    effect : asked_by_setup was.before (setup_of (bytes_of request)) ≡ Calls c i
    effect = grind arith

    repeated : P mid × Course (ActsAt p c) old mid
    repeated = acting accepted_there.trail first

    acted_there : place (after (attempt a) mid).roots p
        ≡ option_map (called c) (place (at_attempt mid).roots p)
    acted_there =
        ap (λ w. place w.roots p) (sym accepted_there.last)
        ∙ place_below now.roots j.row j.rest i []
        ∙ ap (λ o. place_at (place_ports o) i []) accepted_there.left
        ∙ ap (λ x. place_at (acted x accepted_there.holder.below) i []) effect
        ∙ place_called c accepted_there.holder.below i
        ∙ ap (option_map (called c)) (grind (arith, accepted_there, place_below))

    pub hub_done : PortCallDone p c old new
    hub_done = record {
      before = mid;
      repeats = repeated.1;
      last = attempt a;
      acts = attempt_acts t j i request c asked mid accepted_there.holder.made
          (follows.claimed mid repeated.0);
      done = acted_there;
      since = λ x.
          subst (λ w. Course (LeavesPortAlone x) w new) accepted_there.last
          (behind_asks_nothing t x done.moment.since
          (grind (arith, settled_attempt)));
      row = record { parent = path_to j; number = suc i; is = refl; reached = on };
      acted = record {
        covered = λ ports m v r few covers. acted_keeps m v r few t (path_to j) i
            request c asked (search holder_covers) P follows
            accepted_there.trail accepted_there.holder.made first ports;
      };
      rested = subst (λ w. KeepsAll w new) accepted_there.last (rests_backlog t done.moment.since
          (grind (arith, settled_attempt)));
      control = search commanded_control;
    }

-- Which requests these are

module _ (n : ℕ) (c : PortCall) where
  pub set_asks : (feature : ℕ) → IsSetFeature feature → set_call feature ≡ Some c
      → AsksFor (set_port_feature feature n) c n
  unfolding set_port_feature outcome
  set_asks feature named is = grind (arith, same_setup)

  pub clear_asks : (feature : ℕ) → IsClearFeature feature → clear_call feature ≡ Some c
      → AsksFor (clear_port_feature feature n) c n
  unfolding clear_port_feature outcome
  clear_asks feature named is = grind (arith, same_setup)

-- Who has the hub's address meanwhile

record Route (t : Target) (request : Setup) (q : List ℕ) (old : World) : Type 1 where
  P : World → Type 0
  follows : KeepsClaim t request q P
  first : P old
  leaves : (result : Result (Unit {0}) PipeFault) (new : World) → Writes t request old result new
      → LeavesPipe P result new
  addressed : is_harmless request ≡ false → t.addr ≢ 0

route : (f : AddressMap) (t : Target) (q : List ℕ) (n : ℕ) (request : Setup) (c : PortCall)
    (asked : AsksFor request c n) (old : World) → f q ≡ Some t.addr
    → (is_reset c ≡ true → (x : List ℕ) → f x ≡ Some 0 → is_way (q ++ (n ∷ [])) x ≡ true)
    → MapHolds f old → Route t request q old
route f t q n request c asked old held alone own = pick (decided (is_reset c))
  where
    pick : (is_reset c ≡ true) ⊎ (is_reset c ≡ false) → Route t request q old
    pick (inr quiet) = record {
      P = MapHolds f;
      follows = grind (arith, quiet_follows);
      first = own;
      leaves = grind (arith, writes_leave);
      addressed = grind arith;
    }
    pick (inl reset) =
        let distinct : (x : List ℕ) → f x ≡ Some t.addr → x ≡ q =
        λ x h. same_is q x (own.distinct q x t.addr held h) in
        let away : t.addr ≡ 0 → ⊥ = some t request asked.same f q n asked.names asked.other held
        distinct (alone reset) in
        let fit : Fits q n t request asked.same asked.names away f = grind arith in
        record {
          P = Resets q n t request asked.same asked.names away f fit asked.other;
          follows = search reset_follows;
          first = inl own;
          leaves = grind (arith, resets_leave);
          addressed = λ h. away;
        }

-- Any port of a hub

module _ (t : Target) (c : PortCall) (request : Setup) (f : AddressMap) (old : World)
    (result : Result (Unit {0}) PipeFault) (new : World)
    (ordered : Commanded t request old result new) (own : MapHolds f old) where
  -- what is so at the port's path, as it is at one that is written out
  module _ (Q : List ℕ → Type 0) (there : (j : Location) (i : ℕ) (asked : AsksFor request c (suc i))
      → Route t request (path_to j) old → Q (path_to j ++ (suc i ∷ []))) where
    at_path : (q : List ℕ) (n : ℕ) → AsksFor request c n → IsPath q → IsPortNumber n
        → f q ≡ Some t.addr → (is_reset c ≡ true → (x : List ℕ) → f x ≡ Some 0
        → is_way (q ++ (n ∷ [])) x ≡ true) → Q (q ++ (n ∷ []))
    at_path [] n asked is number held alone = absurd (is_path-empty is)
    at_path (zero ∷ e) n asked is number held alone = absurd (no_root e is)
    at_path (suc j ∷ e) zero asked is number held alone = absurd (omega (arith, number.0))
    at_path (suc j ∷ e) (suc i) asked is number held alone =
        there (record { row = j; rest = e }) i asked (search route)

    below : (n : ℕ) → AsksFor request c n → (p : List ℕ) → IsBelow f t.addr n p
        → (is_reset c ≡ true → (x : List ℕ) → f x ≡ Some 0 → is_way p x ≡ true) → Q p
    below n asked p at alone = grind (arith, at_path)

  module _ (n : ℕ) (asked : AsksFor request c n) (p : List ℕ) (at : IsBelow f t.addr n p)
      (alone : is_reset c ≡ true → (x : List ℕ) → f x ≡ Some 0 → is_way p x ≡ true) where
    pub done_below : result ≡ Ok tt → PortCallDone p c old new
    done_below is =
        let so : Commanded t request old (Ok tt) new = rw is at ordered in
        below (λ p. PortCallDone p c old new) (λ j i asked r. hub_done t j i request c asked r.P
        r.follows old new so r.first (grind arith) r.addressed) n asked p at
        alone

    module _ (sound : IsNoBusFault result) where
      pub rests_below : (x : List ℕ) → is_way p x ≡ false → Course (LeavesPortAlone x) old new
      rests_below =
          below (λ p. (x : List ℕ) → is_way p x ≡ false → Course (LeavesPortAlone x) old new)
          (λ j i asked r. hub_rests t j i request c asked r.P r.follows old result new sound
          ordered.stages r.first) n asked p at alone

      pub backlog_below : KeepsCall p c old new
      backlog_below =
          below (λ p. KeepsCall p c old new)
          (λ j i asked r. let s : Sent t request old new = grind (arith, writes_sent) in
          record {
            covered = search (call_keeps, holder_covers);
          }) n asked p at alone

      pub spares_below : keeps_pending c [] ≡ true → Course (KeepsPendingAt p) old new
      spares_below =
          below (λ p. keeps_pending c [] ≡ true → Course (KeepsPendingAt p) old new)
          (λ j i asked r. hub_spares t j i request c asked r.P r.follows old result new sound
          ordered.stages r.first) n asked p at alone

-- up to a fault of the bus
module _ (t : Target) (c : PortCall) (request : Setup) (f : AddressMap) (old : World)
    (fault : BusFault) (new : World) (ordered : Commanded t request old (Err (Bus fault)) new)
    (till : WhileBusWorks (MapHolds f) old) where
  cut_there : SentUpTo t request old fault new
  cut_there = search sent_up_to

  module _ (n : ℕ) (asked : AsksFor request c n) (p : List ℕ) (at : IsBelow f t.addr n p)
      (alone : is_reset c ≡ true → (x : List ℕ) → f x ≡ Some 0 → is_way p x ≡ true) where
    about_below : (outcomes : List Outcome) (mid cut : World)
        → AttemptLog (setup_attempt t (bytes_of request)) old outcomes mid
        → Course (IsBehind t) mid cut → Course (IsAbout p c) old cut
    about_below [] w cut start behind = behind_about t p c behind ordered.settled
    about_below (o ∷ outcomes) w cut tr behind =
        below t c request f old (Err (Bus fault)) new ordered (till.so (trail_sound tr))
        (λ p. Course (IsAbout p c) old cut) (grind (arith, hub_about)) n asked p
        at alone

    pub cut_below : UpToFault (IsAbout p c) old fault new
    cut_below = grind (arith, about_below, cut_there)

module _ (port : HubPort) (hub : Target) (number : ℕ) (call : Option PortCall) (request : Setup)
    (some_call : (c : PortCall) × (call ≡ Some c)) (asks : (c : PortCall) → call ≡ Some c
    → AsksFor request c number)
    (old : World) (result : Result (Unit {0}) PipeFault) (new : World)
    (e : port ≡ External hub number) (ordered : Commanded hub request old result new) where
  of_hub : CommandsPort (External hub number) call old result new
  of_hub = record {
    done = λ f p c x is. done_below hub c request f old result new ordered (grind arith)
        number (asks c x.is) p x.at x.alone is;
    rests = λ f p c x sound. rests_below hub c request f old result new ordered
        (grind arith) number (asks c x.is) p x.at
        x.alone sound;
    spares = λ f p c x sound. spares_below hub c request f old result new ordered
        (grind arith) number (asks c x.is) p x.at
        x.alone sound;
    backlog = λ f p c x sound. backlog_below hub c request f old result new ordered
        (grind arith) number (asks c x.is) p x.at
        x.alone sound;
    cut = λ f p c x fault is. cut_below hub c request f old fault new
        (grind arith) x.owned number (asks c x.is) p
        x.at x.alone;
    why = λ t n same three single serves.
        call_served hub number request some_call.0 (asks some_call.0 some_call.1) old new three
        single (grind arith) result ordered;
    control = grind (arith, commanded_control);
  }

  hub_calls : CommandsPort port call old result new
  hub_calls = rw e of_hub

pub hub_sets : (port : HubPort) (hub : Target) (number feature : ℕ) (old : World)
    (result : Result (Unit {0}) PipeFault) (new : World) → port ≡ External hub number
    → IsSetFeature feature → Commanded hub (set_port_feature feature number) old result new
    → CommandsPort port (set_call feature) old result new
hub_sets port hub number feature old result new e named h = search (call_is, hub_calls, set_asks)

pub hub_clears : (port : HubPort) (hub : Target) (number feature : ℕ) (old : World)
    (result : Result (Unit {0}) PipeFault) (new : World) → port ≡ External hub number
    → IsClearFeature feature → Commanded hub (clear_port_feature feature number) old result new
    → CommandsPort port (clear_call feature) old result new
hub_clears port hub number feature old result new e named h =
    search (call_is, clear_asks, hub_calls)

-- A root port

root_covers : (m r : PortMark) (c : PortCall) (n : ℕ) → CoversCall m r (n ∷ []) c
    → root_allowed m r c n ≡ true
root_covers m r c n covers = grind arith

module _ (port : HubPort) (number : ℕ) (call : Option PortCall) (old new : World)
    (e : port ≡ Root number) (step : (c : PortCall) → call ≡ Some c
    → new ≡ after (root_call c number) old) where
  one_step : (K : Step → World → Type 0) (c : PortCall) → call ≡ Some c → K (root_call c number) old
      → Course K old new
  one_step K c is k = subst (λ w. Course K old w) (sym (step c is))
      (step_then (root_call c number) k (here (after (root_call c number) old)))

  of_root : CommandsPort (Root number) call old (Ok tt) new
  of_root = record {
    done = λ f p c x is. subst (λ p. PortCallDone p c old new) (sym x.at) (record {
      before = old;
      repeats = here old;
      last = root_call c number;
      acts = root_acts c number old;
      done = root_acted c number old;
      since = λ y. subst (λ w. Course (LeavesPortAlone y) (after (root_call c number) old) w)
          (sym (step c x.is)) (here (after (root_call c number) old));
      row = record { parent = []; number = number; is = refl; reached = refl };
      acted = search (keeps-root, root_covers);
      rested = grind arith;
      control = search one_step;
    });
    rests = λ f p c x sound y d. one_step (LeavesPortAlone y) c x.is
        ((root_acts c number old).about.others y (grind arith));
    spares = λ f p c x sound h. subst (λ p. Course (KeepsPendingAt p) old new) (sym x.at)
        (one_step (KeepsPendingAt (number ∷ [])) c x.is ((root_acts c number old).about.spares h));
    backlog = λ f p c x sound. subst (λ p. KeepsCall p c old new) (sym x.at)
        (record {
          covered = λ ports m v r few covers. subst (KeepsBy m v r old) (sym (step c x.is))
              (search (keeps-root, root_covers));
        });
    cut = grind arith;
    why = λ t n same. absurd (cc same);
    control = grind (arith, one_step);
  }

  root_calls : CommandsPort port call old (Ok tt) new
  root_calls = rw e of_root

pub root_sets : (port : HubPort) (number feature : ℕ) (old new : World) → port ≡ Root number
    → SetsRoot number feature old new → CommandsPort port (set_call feature) old (Ok tt) new
root_sets port number feature old new e sets = search root_calls

pub root_clears : (port : HubPort) (number feature : ℕ) (old new : World) → port ≡ Root number
    → ClearsRoot number feature old new → CommandsPort port (clear_call feature) old (Ok tt) new
root_clears port number feature old new e clears = search root_calls

-- PORT_POWER at a port of the device that a path claims the address for

zero_power : Allows sets_none (set_port_feature PORT_POWER 0)
unfolding set_port_feature
zero_power = grind arith

module _ (t : Target) (f : AddressMap) (q : List ℕ) (old : World)
    (result : Result (Unit {0}) PipeFault) (new : World) (sound : IsNoBusFault result)
    (held : f q ≡ Some t.addr) (own : MapHolds f old) where
  pub power_backlog : (n : ℕ) → Commanded t (set_port_feature PORT_POWER n) old result new
      → KeepsFound q old new
  power_backlog zero ordered = record {
    found =
        λ ports. keeps-chain (ports_at q) unmarked (only q) (few-only q) ports
        (request_keeps (ports_at q) unmarked (only q) (few-only q) t (set_port_feature PORT_POWER 0)
        zero_power ((write_attempts t (set_port_feature PORT_POWER 0) result old new
        ordered.stages).whole sound) ordered.settled);
  }
  power_backlog (suc i) ordered =
      let request : Setup = set_port_feature PORT_POWER (suc i) in
      let asked : AsksFor request SetPower (suc i) = search set_asks in
      let s : Sent t request old new = grind (arith, writes_sent) in
      record {
        found = λ ports.
            call_keeps (ports_at q) unmarked (only q) (few-only q) t q i request SetPower asked
            (grind (arith, ports_covered))
            (MapHolds f) (grind (arith, quiet_follows)) s.trail
            s.behind own ports;
      }
