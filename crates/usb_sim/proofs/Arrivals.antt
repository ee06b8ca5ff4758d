-- How events come, and what an attempt makes of the world.
use Rattle.std.proofs.Common.{◌≡◌, ℕ, ◌+◌, List, [], ◌∷◌, ◌++◌, length, Bool, true, false, ◌||◌}
use Rattle.std.proofs.Common.{Option, Some, None, Result, Ok, Err, refl, sym, ap, ap₂, ◌∙◌, subst}
use Rattle.std.proofs.Common.{arith, get_or, append_assoc, append-nil, zero, suc, take, drop}
use Rattle.std.proofs.Common.{flat_map, ◌-◌, ◌≤◌, ◌==◌, IsErrAnd}
use Rattle.std.specs.Io.KnownBytes.{Appends}
use Rattle.std.specs.Option.{option_to_list}
use Rattle.std.proofs.KnownBytes.{Appends-trans, Appends-nil}
use Rattle.usb_device.specs.{Ports, held_addresses, repeats}
use Rattle.usb_world.specs.{Event, BusFault, Limit, Memory, Failed, Exchange, Attempt, Damage}
use Rattle.usb_world.specs.{exchange_in, ports_in, counted, after_clearing, World, Coming}
use Rattle.usb_world.specs.{AttemptsWithin, nothing_yet, next_came, after_change, is_due, has_due}
use Rattle.usb_world.specs.{after_event, after_first_event, after_due_events, at_attempt, damage_in}
use Rattle.usb_world.specs.{made_in, with_attempt, outcome_made, outcome_in, ask_of, attempt_line}
use Rattle.usb_world.specs.declared.losses.Losses.{Losses}
use Rattle.usb_world.specs.declared.event.Ask.{Ask}
use Rattle.usb_bus.specs.{action_line, next_due, lines_between, made_line, step_lines, WritesText}
use Rattle.usb_watch.specs.{AppendsFront}
use Rattle.usb_sim.specs.{EventsCame, OneEventCame}
use Rattle.usb_watch.proofs.Interface.{appends_front, front_after_first}
use Rattle.std.proofs.lemmas.Bool.{eq-eqb}
use Rattle.usb_world.proofs.Interface.{first_fault, spends_none, spends_then, if-false, if-true}
use Rattle.usb_world.proofs.Interface.{unequal}

-- the next event came
took_first-arrival : (w : World) (e : Event) (rest : List Event) (roots : Ports) → w.left ≡ e ∷ rest
    → roots ≡ after_change e.action w.devices w.roots
    → record w { roots = roots; left = rest; taken = w.taken + 1; attempts_then = w.attempts }
    ≡ after_first_event w.left w
unfolding after_event
took_first-arrival w e rest roots split h =
    let made : Ports → World
    = λ r. record w { roots = r; left = rest; taken = w.taken + 1; attempts_then = w.attempts } in
    rw split (ap made h)

-- the same with a fault
pub came_faulted : (w : World) (e : Event) (rest : List Event) (roots : Ports)
    (f : Option BusFault) → w.left ≡ e ∷ rest → roots ≡ after_change e.action w.devices w.roots
    → record w {
      roots = roots;
      left = rest;
      taken = w.taken + 1;
      attempts_then = w.attempts;
      fault = f;
    } ≡ record (after_first_event w.left w) { fault = f }
came_faulted w e rest roots f split h =
    let faulted : World → World = λ x. record x { fault = f } in
    ap faulted (took_first-arrival w e rest roots split h)

pub came_sound : (w : World) (e : Event) (rest : List Event) (roots : Ports) → w.fault ≡ None
    → w.left ≡ e ∷ rest → roots ≡ after_change e.action w.devices w.roots → record w {
      roots = roots;
      left = rest;
      taken = w.taken + 1;
      attempts_then = w.attempts;
      fault = None;
    } ≡ after_first_event w.left w
came_sound w e rest roots sound split h =
    let faulted : Option BusFault → World =
    λ o. record (after_first_event w.left w) { fault = o } in
    came_faulted w e rest roots None split h ∙ ap faulted (sym (first_fault w.left w ∙ sound))

pub due_next : (w : World) (e : Event) (events : List Event) → w.left ≡ e ∷ events
    → Some (ask_of e.action) ≡ next_due w
unfolding next_due
due_next w e events split = rw split refl

step_at : (w : World) (left : List Event) → w.left ≡ left
    → (elim left [ [] ↦ false | e ∷ events ↦ is_due e w ]) ≡ true
    → after_due_events w.left w ≡ after_due_events (after_first_event w.left w).left
    (after_first_event w.left w)
unfolding after_due_events after_event
step_at w [] e h = cc
step_at w (x ∷ events) e h = rw e (if-true (is_due x w) _ _ h)

due_step : (w : World) → has_due w ≡ true
    → after_due_events w.left w ≡ after_due_events (after_first_event w.left w).left
    (after_first_event w.left w)
unfolding has_due
due_step w h = step_at w w.left refl h

-- nothing is due
end_at : (w : World) (left : List Event) → w.left ≡ left
    → (elim left [ [] ↦ false | e ∷ events ↦ is_due e w ]) ≡ false → after_due_events w.left w ≡ w
unfolding after_due_events
end_at w [] e h = rw e refl
end_at w (x ∷ events) e h = rw e (if-false (is_due x w) _ _ h)

due_end : (w : World) → has_due w ≡ false → after_due_events w.left w ≡ w
unfolding has_due
due_end w h = end_at w w.left refl h

-- The lines of the events that came

-- the first lines, and the next one
line_at : (f : Event → List ℕ) (n : ℕ) (l rest : List Event) (e : Event) → drop n l ≡ e ∷ rest
    → flat_map f (take (suc n) l) ≡ flat_map f (take n l) ++ f e
line_at f zero [] rest e h = cc h
line_at f zero (x ∷ l) rest e h = append-nil (f x) ∙ cc h
line_at f (suc n) [] rest e h = cc h
line_at f (suc n) (x ∷ l) rest e h = ap (λ t. f x ++ t) (line_at f n l rest e h)
    ∙ sym (append_assoc (f x) (flat_map f (take n l)) (f e))

rest_at : (n : ℕ) (l rest : List Event) (e : Event) → drop n l ≡ e ∷ rest → drop (suc n) l ≡ rest
rest_at (suc n) (x ∷ l) rest e h = rest_at n l rest e h
rest_at _ _ rest e h = cc h

-- some events came, the others are left
pub record Later (first now : World) : Type 0 where
  pub onward : first.taken ≤ now.taken
  pub left : drop (now.taken - first.taken) first.left ≡ now.left
  pub devices : now.devices ≡ first.devices

minus_same : (n : ℕ) → 0 ≡ n - n
minus_same n = omega arith

minus_next : (m n : ℕ) → m ≤ n → suc (n - m) ≡ n + 1 - m
minus_next m n le = omega (arith, le)

later_none : (w : World) → Later w w
later_none w = record {
  onward = omega arith;
  left = ap (λ n. drop n w.left) (sym (minus_same w.taken));
  devices = refl;
}

-- one event more, whatever came of the rest of the world
later_next : (first w v : World) (e : Event) (events : List Event) → Later first w
    → w.left ≡ e ∷ events → v.taken ≡ w.taken + 1 → v.left ≡ events → v.devices ≡ w.devices
    → Later first v
later_next first w v e events so split one rest same = record {
  onward = omega (arith, so.onward, one);
  left = ap (λ n. drop n first.left) (ap (λ n. n - first.taken) one
      ∙ sym (minus_next first.taken w.taken so.onward))
      ∙ rest_at (w.taken - first.taken) first.left events e (so.left ∙ split) ∙ sym rest;
  devices = same ∙ so.devices;
}

pub no_lines : (w v : World) → v.taken ≡ w.taken → [] ≡ lines_between w v
unfolding lines_between
no_lines w v e = ap (λ n. flat_map (λ x. action_line x.action w.devices) (take n w.left))
    (minus_same w.taken ∙ ap (λ n. n - w.taken) (sym e))

more_lines : (first w v : World) (e : Event) (events : List Event) → Later first w
    → w.left ≡ e ∷ events → v.taken ≡ w.taken + 1
    → lines_between first w ++ action_line e.action w.devices ≡ lines_between first v
unfolding lines_between
more_lines first w v e events so split one =
    let f : Event → List ℕ = λ x. action_line x.action first.devices in
    ap (λ d. flat_map f (take (w.taken - first.taken) first.left) ++ action_line e.action d)
    so.devices
    ∙ sym (line_at f (w.taken - first.taken) first.left events e (so.left ∙ split))
    ∙ ap (λ n. flat_map f (take n first.left)) (minus_next first.taken w.taken so.onward
    ∙ ap (λ n. n - first.taken) (sym one))

-- only how many events came is told
lines_same : (w u v : World) → v.taken ≡ u.taken → lines_between w u ≡ lines_between w v
unfolding lines_between
lines_same w u v e = ap (λ n. flat_map (λ x. action_line x.action w.devices)
    (take (n - w.taken) w.left)) (sym e)

-- the line of one event
one_line : (w v : World) (e : Event) (events : List Event) → w.left ≡ e ∷ events
    → v.taken ≡ w.taken + 1 → action_line e.action w.devices ≡ lines_between w v
one_line w v e events split one = ap (λ l. l ++ action_line e.action w.devices) (no_lines w w refl)
    ∙ more_lines w w v e events (later_none w) split one

-- the lines of one event more are those of all
lines_on : (first w v : World) (e : Event) (events : List Event) → Later first w
    → w.left ≡ e ∷ events → v.taken ≡ w.taken + 1 → lines_between first w ++ lines_between w v
    ≡ lines_between first v
lines_on first w v e events so split one =
    ap (λ l. lines_between first w ++ l) (sym (one_line w v e events split one))
    ∙ more_lines first w v e events so split one

-- What is due, event by event

next_at : (w : World) (left : List Event) → w.left ≡ left
    → (elim left [ [] ↦ false | e ∷ events ↦ is_due e w ]) ≡ true → (e : Event)
    × (events : List Event) × (w.left ≡ e ∷ events)
next_at w [] e h = cc h
next_at w (x ∷ events) e h = (x, events, e)

next_due_event : (w : World) → has_due w ≡ true → (e : Event) × (events : List Event)
    × (w.left ≡ e ∷ events)
unfolding has_due
next_due_event w h = next_at w w.left refl h

-- what has come so far of what was due at first
pub record DueSoFar (first now : World) (had has : Option (List ℕ)) : Type 0 where
  pub spends : AttemptsWithin 0 first now
  pub sound : now.fault ≡ None
  pub coming : Coming first now
  pub after : after_due_events first.left first ≡ after_due_events now.left now
  pub later : Later first now
  pub written : Appends had has (lines_between first now)

pub due_begins : (w : World) (had : Option (List ℕ)) → w.fault ≡ None → DueSoFar w w had had
due_begins w had sound = record {
  spends = spends_none w;
  sound = sound;
  coming = nothing_yet w;
  after = refl;
  later = later_none w;
  written = subst (Appends had had) (no_lines w w refl) (Appends-nil had);
}

took_is : (w v : World) (e : Event) (events : List Event) → w.left ≡ e ∷ events
    → v ≡ after_first_event w.left w → (v.taken ≡ w.taken + 1) × (v.left ≡ events)
    × (v.devices ≡ w.devices)
unfolding after_event
took_is w v e events split is =
    let same = is ∙ ap (λ l. after_first_event l w) split in
    (ap (λ x. x.taken) same, ap (λ x. x.left) same, ap (λ x. x.devices) same)

came_next : (first w v : World) → Coming first w → has_due w ≡ true
    → v ≡ after_first_event w.left w → Coming first v
came_next first w v c h e = subst (Coming first) (sym e) (next_came c h)

pub due_goes_on : (first w v : World) (had has now : Option (List ℕ)) (due : Option (Option Ask))
    → DueSoFar first w had has → has_due w ≡ true → OneEventCame w has (Ok due) v now
    → DueSoFar first v had now
due_goes_on first w v had has now due d h came =
    let (e, events, split) = next_due_event w h in
    let t = took_is w v e events split came.exact in
    record {
      spends = spends_then 0 0 first w v d.spends came.spends;
      sound = came.told;
      coming = came_next first w v d.coming h came.exact;
      after = d.after ∙ due_step w h ∙ ap (λ x. after_due_events x.left x) (sym came.exact);
      later = later_next first w v e events d.later split t.0 t.1 t.2;
      written = subst (Appends had now) (lines_on first w v e events d.later split t.0)
          (Appends-trans had has now _ _ d.written came.text);
    }

-- the same fault, told by another call
err_is : {A : Type 0} (q : Result A BusFault) (f : BusFault) → IsErrAnd q (λ x. x ≡ f) → q ≡ Err f
err_is (Ok x) f is = absurd is
err_is (Err x) f is = ap Err is

pub writes_told : {A : Type 0} (f : BusFault) (q : Result A BusFault) (a b : Option (List ℕ))
    (text : List ℕ) → IsErrAnd q (λ x. x ≡ f) → WritesText {A = A} (Err f) a b text
    → WritesText q a b text
writes_told f q a b text is w = subst (λ r. WritesText r a b text) (sym (err_is q f is)) w

-- where no event came nothing is written
pub writes_none : {A : Type 0} (r : Result A BusFault) (w v : World) (t : Option (List ℕ))
    → v.taken ≡ w.taken → WritesText r t t (lines_between w v)
writes_none (Err Failed) w v t e = appends_front t t [] (lines_between w v) (lines_between w v)
    refl (Appends-nil t)
writes_none _ w v t e = subst (Appends t t) (no_lines w v e) (Appends-nil t)

-- one event came: its line, or a front of it
pub appends_event : (w v : World) (e : Event) (events : List Event) (t s : Option (List ℕ))
    → w.left ≡ e ∷ events → v.taken ≡ w.taken + 1 → Appends t s (action_line e.action w.devices)
    → Appends t s (lines_between w v)
appends_event w v e events t s split one h = subst (Appends t s) (one_line w v e events split one) h

pub writes_line : {A : Type 0} (r : Result A BusFault) (t s : Option (List ℕ)) (text : List ℕ)
    → IsErrAnd r (λ x. x ≡ Failed) → AppendsFront t s text → WritesText r t s text
writes_line (Ok x) t s text is h = absurd is
writes_line (Err Failed) t s text is h = h
writes_line (Err f) t s text is h = cc is

pub writes_event : {A : Type 0} (r : Result A BusFault) (w v : World) (e : Event)
    (events : List Event) (t s : Option (List ℕ)) → w.left ≡ e ∷ events → v.taken ≡ w.taken + 1
    → IsErrAnd r (λ x. x ≡ Failed)
    → AppendsFront t s (action_line e.action w.devices) → WritesText r t s (lines_between w v)
writes_event r w v e events t s split one is h = writes_line r t s (lines_between w v) is
    (subst (AppendsFront t s) (one_line w v e events split one) h)

pub writes_memory : {A : Type 0} (r : Result A BusFault) (t s : Option (List ℕ)) (text : List ℕ)
    → IsErrAnd r (λ x. x ≡ Memory) → Appends t s text → WritesText r t s text
writes_memory (Ok x) t s text is h = absurd is
writes_memory (Err Failed) t s text is h = cc is
writes_memory (Err f) t s text is h = h

unfaulted : (w v : World) (f : BusFault) → w.fault ≡ None → v ≡ record w { fault = Some f }
    → record v { fault = None } ≡ w
unfaulted w v f sound e =
    let faulted : Option BusFault → World → World = λ o x. record x { fault = o } in
    ap (faulted None) e ∙ ap (λ o. faulted o w) (sym sound)

-- an event that was due did not come whole
cut_by : {A : Type 0} (f : BusFault) (first w v : World) (had has now : Option (List ℕ))
    → DueSoFar first w had has → has_due w ≡ true → OneEventCame w has (Err f) v now
    → EventsCame {A = A} first had (Err f) v now
cut_by Limit first w v had has now d h came = absurd (came.other refl)
cut_by Memory first w v had has now d h came =
    let same : v.taken ≡ w.taken = ap (λ (x : World). x.taken) (came.kept refl) in
    record {
      spends = spends_then 0 0 first w v d.spends came.spends;
      told = came.told;
      exact = tt;
      cut = subst (Coming first) (sym (unfaulted w v Memory d.sound (came.kept refl))) d.coming;
      other = came.other;
      text = subst (Appends had now) (append-nil (lines_between first w)
          ∙ lines_same first w v same)
          (Appends-trans had has now (lines_between first w) [] d.written
          (subst (Appends has now) (sym (no_lines w v same)) came.text));
    }
cut_by Failed first w v had has now d h came =
    let (e, events, split) = next_due_event w h in
    let one : v.taken ≡ w.taken + 1 = ap (λ (x : World). x.taken) (came.cut refl)
    ∙ (took_is w (after_first_event w.left w) e events split refl).0 in
    record {
      spends = spends_then 0 0 first w v d.spends came.spends;
      told = came.told;
      exact = tt;
      cut = came_next first w (record v { fault = None }) d.coming h
          (unfaulted (after_first_event w.left w) v Failed
          (first_fault w.left w ∙ d.sound) (came.cut refl));
      other = came.other;
      text = subst (AppendsFront had now) (lines_on first w v e events d.later split one)
          (front_after_first had has now _ _ d.written came.text);
    }

pub due_cut : {A : Type 0} (q : Result A BusFault) (f : BusFault) (first w v : World)
    (had has now : Option (List ℕ)) → IsErrAnd q (λ x. x ≡ f) → DueSoFar first w had has
    → has_due w ≡ true → OneEventCame w has (Err f) v now → EventsCame first had q v now
due_cut q f first w v had has now is d h came =
    subst (λ r. EventsCame first had r v now) (sym (err_is q f is))
    (cut_by f first w v had has now d h came)

pub due_ends : (first w : World) (had has : Option (List ℕ)) → DueSoFar first w had has
    → has_due w ≡ false → w ≡ at_attempt first
unfolding at_attempt
due_ends first w had has d h = sym (d.after ∙ due_end w h)

-- no event is left
length-no_events : (events : List Event) → length events ≡ 0 → events ≡ []
length-no_events [] h = refl
length-no_events (e ∷ events) h = absurd (omega (arith, h))

pub next_none : (w : World) → length w.left ≡ 0 → w ≡ after_first_event w.left w
next_none w h = rw (length-no_events w.left h) refl

pub due_none : (w : World) → length w.left ≡ 0 → None ≡ next_due w
unfolding next_due
due_none w h = rw (length-no_events w.left h) refl

-- the first event left, and what is done is what it does
pub record FirstCame (w : World) (rest : List Event) (e : Event) (roots : Ports) : Type 0 where
  pub split : w.left ≡ e ∷ rest
  pub done : roots ≡ after_change e.action w.devices w.roots
  pub fewer : length rest + 1 ≡ length w.left

pub first_came : (w : World) (rest : List Event) (o : Option Event) (e f : Event) (roots : Ports)
    → w.left ≡ option_to_list o ++ rest → o ≡ Some e → f ≡ get_or w.left 0 f
    → roots ≡ after_change f.action w.devices w.roots → FirstCame w rest e roots
first_came w rest o e f roots items is at done =
    let split : w.left ≡ e ∷ rest =
    items ∙ ap (λ (x : Option Event). option_to_list x ++ rest) is in
    let same : f ≡ e = at ∙ ap (λ (l : List Event). get_or l 0 f) split in
    let size : length w.left ≡ suc (length rest) = ap length split in
    record {
      split = split;
      done = done ∙ ap (λ (x : Event). after_change x.action w.devices w.roots) same;
      fewer = omega (arith, size);
    }

-- the lines of a step in which no attempt was made, and of one in which one was made
pub lines_alone : (a : Attempt) (w v : World) → v.attempts ≡ w.attempts
    → lines_between w v ≡ step_lines a w v
unfolding step_lines
lines_alone a w v e = sym (append-nil (lines_between w v)) ∙ ap (λ l. lines_between w v ++ l)
    (sym (if-true (v.attempts == w.attempts) [] (made_line a (at_attempt w))
    (eq-eqb v.attempts w.attempts e)))

pub writes_alone : {A : Type 0} (r : Result A BusFault) (a : Attempt) (w v : World)
    (t s : Option (List ℕ)) → v.attempts ≡ w.attempts → WritesText r t s (lines_between w v)
    → WritesText r t s (step_lines a w v)
writes_alone r a w v t s e h = subst (WritesText r t s) (lines_alone a w v e) h

lines_made : (a : Attempt) (w mid v : World) (n : ℕ) (x : Exchange) → mid ≡ at_attempt w
    → n ≡ mid.attempts + 1 → mid.attempts ≡ w.attempts → v.attempts ≡ w.attempts + 1
    → v.taken ≡ mid.taken
    → x ≡ made_in a mid → lines_between w mid ++ (attempt_line n a.pre x ++ 10 ∷ [])
    ≡ step_lines a w v
unfolding step_lines
lines_made a w mid v n x em en same one taken ex =
    let line : attempt_line n a.pre x ++ 10 ∷ [] ≡ made_line a (at_attempt w) =
    ap₂ (λ (m : ℕ) (y : Exchange). attempt_line m a.pre y ++ 10 ∷ []) (en
    ∙ ap (λ (u : World). u.attempts + 1) em) (ex ∙ ap (λ (u : World). made_in a u) em) in
    ap₂ (λ l r. l ++ r) (lines_same w mid v taken) (line
    ∙ sym (if-false (v.attempts == w.attempts) [] (made_line a (at_attempt w))
    (unequal v.attempts w.attempts (λ e. absurd (omega (arith, e, one))))))

-- the attempt is made where the due events came
made_in-attempt : (a : Attempt) (w mid : World) (x : Exchange) (roots : Ports)
    → mid ≡ at_attempt w → x ≡ made_in a mid → roots ≡ ports_in a (damage_in mid) mid.roots
    → record mid {
      roots = roots;
      attempts = mid.attempts + 1;
      losses = counted x.address_lost (after_clearing x.change_cleared mid.losses);
      shared = mid.shared || repeats (held_addresses mid.roots);
    } ≡ with_attempt a (at_attempt w)
unfolding with_attempt exchange_in
made_in-attempt a w mid x roots em ex er =
    let made : Exchange → Ports → World
    = λ y r. record mid {
      roots = r;
      attempts = mid.attempts + 1;
      losses = counted y.address_lost (after_clearing y.change_cleared mid.losses);
      shared = mid.shared || repeats (held_addresses mid.roots);
    } in
    ap₂ made ex er ∙ ap (λ (v : World). with_attempt a v) em

outcome_made_in : (a : Attempt) (w mid : World) (x : Exchange) → mid ≡ at_attempt w
    → x ≡ made_in a mid → outcome_made a x ≡ outcome_in a w
unfolding outcome_in exchange_in
outcome_made_in a w mid x em ex = ap (λ (y : Exchange). outcome_made a y) (ex
    ∙ ap (λ (v : World). made_in a v) em)

-- what the attempt makes behind the due events
pub record MadeThere (a : Attempt) (w mid v : World) (n : ℕ) (x : Exchange) : Type 0 where
  pub exact : v ≡ with_attempt a (at_attempt w)
  pub outcome : outcome_made a x ≡ outcome_in a w
  pub lines : lines_between w mid ++ (attempt_line n a.pre x ++ 10 ∷ [])
      ≡ step_lines a w (record mid { attempts = n })

pub made_there : (a : Attempt) (w mid : World) (d : Option Damage) (x : Exchange) (roots : Ports)
    (losses : Losses) (shared : Bool) → mid ≡ at_attempt w → mid.fault ≡ None
    → mid.attempts ≡ w.attempts → d ≡ damage_in mid → x ≡ exchange_in a d mid.roots
    → roots ≡ ports_in a d mid.roots
    → losses ≡ counted x.address_lost (after_clearing x.change_cleared mid.losses)
    → shared ≡ repeats (held_addresses mid.roots) → MadeThere a w mid (record mid {
      roots = roots;
      attempts = mid.attempts + 1;
      losses = losses;
      shared = mid.shared || shared;
      fault = None;
    }) (mid.attempts + 1) x
made_there a w mid d x roots losses shared em sound same ed ex er el es =
    let made : x ≡ made_in a mid = ex ∙ ap (λ (o : Option Damage). exchange_in a o mid.roots) ed in
    let ports : roots ≡ ports_in a (damage_in mid) mid.roots =
    er ∙ ap (λ (o : Option Damage). ports_in a o mid.roots) ed in
    let world : Losses → Bool → Option BusFault → World = λ l s f. record mid {
      roots = roots;
      attempts = mid.attempts + 1;
      losses = l;
      shared = mid.shared || s;
      fault = f;
    } in
    record {
      exact = ap (world losses shared) (sym sound)
          ∙ ap₂ (λ (l : Losses) (s : Bool). world l s mid.fault) el es
          ∙ made_in-attempt a w mid x roots em made ports;
      outcome = outcome_made_in a w mid x em made;
      lines = lines_made a w mid (record mid { attempts = mid.attempts + 1 }) (mid.attempts + 1) x
          em refl same (omega (arith, same)) refl made;
    }
