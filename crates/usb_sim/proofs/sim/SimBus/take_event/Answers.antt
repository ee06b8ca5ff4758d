use Rattle.std.proofs.Common.{rules, ◌≡◌, refl, sym, subst, true, length, arith, ◌∙◌, ap, ◌∷◌, Bool}
use Rattle.std.proofs.Common.{Some, None, Option, Ok, Result, List}
use Rattle.std.proofs.lemmas.Bool.{and_parts}
use Rattle.std.specs.List.{list_all}
use Rattle.usb_device.specs.{Ports, Spec, row_of}
use Rattle.usb_world.specs.{IsSettled, Action, Consistent, can_come, Event, after_change, BusFault}
use Rattle.usb_world.specs.{Failed}
use Rattle.usb_world.proofs.Interface.{came_spends, happened_long, sane_happened, settled_happened}
use Rattle.usb_world.proofs.Interface.{spends_none}
use Rattle.usb_world.specs.declared.event.Ask.{Ask}
use Rattle.usb_sim.specs.{world_of}
use Rattle.usb_sim.proofs.Arrivals.{came_sound, came_faulted, appends_event, writes_event}
use Rattle.usb_sim.proofs.Arrivals.{writes_none, due_next, first_came, next_none, due_none}
use Rattle.usb_sim.proofs.sim.SimBus.take_event.Goals as goal

none_came : Result (Option (Option Ask)) BusFault
none_came = Ok None

-- no event was left
pub returns-in_default-clause-came : goal.returns-in_default-clause-came
unfolding none_came
returns-in_default-clause-came g c =
    let w = world_of c.args.self.now in
    record {
      spends = spends_none w;
      told = search rules;
      none = λ _. (search rules, refl);
      one = search rules;
      asked = due_none w (search rules);
      exact = next_none w (search rules);
      kept = λ e. cc e;
      cut = λ e. cc e;
      other = tt;
      text = writes_none none_came w _ _ refl;
    }

-- memory was refused
pub returns-in_err-carry_out-clause-came : goal.returns-in_err-carry_out-clause-came
returns-in_err-carry_out-clause-came g c = record {
  spends = search rules;
  told = search rules;
  none = search rules;
  one = search rules;
  asked = search rules;
  exact = search rules;
  kept = search rules;
  cut = search rules;
  other = search rules;
  text = writes_none c.from_residual.result (world_of c.args.self.now) _ _ refl;
}

-- the line was not written
pub returns-in_err-put_action-clause-came : goal.returns-in_err-put_action-clause-came
returns-in_err-put_action-clause-came g c =
    let s = c.args.self.now in
    let e = c.unwrap-event.result in
    let rest = c.pop_front.new.self.items in
    let came = first_came (world_of s) rest c.pop_front.result e c.in-Some.event.now
    c.carry_out.new.roots c.pop_front.ensures.items c.unwrap-event.ensures
    c.in-Some.ensures.lookup c.in_ok-carry_out.ensures.ok in
    record {
      spends = came_spends (world_of s) _ e.action s.devices came.done refl came.fewer refl refl;
      told = search rules;
      none = search rules;
      one = search rules;
      asked = search rules;
      exact = search rules;
      kept = search rules;
      cut = λ _. came_faulted (world_of s) e rest _ (Some Failed) came.split came.done;
      other = search rules;
      text = writes_event c.from_residual-in_err-put_action.result (world_of s) _ e _ _ _ came.split
          refl c.from_residual-in_err-put_action.ensures.1
          (rw (c.deref.ensures.value ∙ s.named) at c.put_action.ensures.front);
    }

-- the event came
pub returns-clause-came : goal.returns-clause-came
returns-clause-came g c =
    let s = c.args.self.now in
    let e = c.unwrap-event.result in
    let rest = c.pop_front.new.self.items in
    let came = first_came (world_of s) rest c.pop_front.result e c.in-Some.event.now
    c.carry_out.new.roots c.pop_front.ensures.items c.unwrap-event.ensures
    c.in-Some.ensures.lookup c.in_ok-carry_out.ensures.ok in
    record {
      spends = came_spends (world_of s) _ e.action s.devices came.done refl came.fewer refl refl;
      told = search rules;
      none = λ h. cc h;
      one = λ _. refl;
      asked = ap Some c.into_ask.ensures ∙ due_next (world_of s) e _ came.split;
      exact = came_sound (world_of s) e rest _ c.requires.sound came.split came.done;
      kept = λ h. cc h;
      cut = λ h. cc h;
      other = tt;
      text = appends_event (world_of s) _ e _ _ _ came.split refl
          (rw (c.deref.ensures.value ∙ s.named) at c.in_ok-put_action.ensures.ok);
    }

row_kept : (a : Action) (devices : List Spec) (k new : Ports) → new ≡ after_change a devices k
    → length (row_of new) ≡ length (row_of k)
row_kept a devices k new done = ap (λ r. length (row_of r)) done ∙ happened_long a devices k

pub invariant_of-self-2-clause-some_root : goal.invariant_of-self-2-clause-some_root
invariant_of-self-2-clause-some_root g c =
    let s = c.args.self.now in
    let long = row_kept _ s.devices s.roots _ c.in_ok-carry_out.ensures.ok in
    omega (arith, long, s.some_root)

pub invariant_of-self-2-clause-few_roots : goal.invariant_of-self-2-clause-few_roots
invariant_of-self-2-clause-few_roots g c =
    let s = c.args.self.now in
    let long = row_kept _ s.devices s.roots _ c.in_ok-carry_out.ensures.ok in
    omega (arith, long, s.few_roots)

pub invariant_of-self-2-clause-settled : goal.invariant_of-self-2-clause-settled
invariant_of-self-2-clause-settled g c =
    let s = c.args.self.now in
    subst IsSettled (sym c.in_ok-carry_out.ensures.ok)
    (settled_happened c.in-Some.event.now.action s.devices s.roots s.settled)

pub invariant_of-self-2-clause-sane : goal.invariant_of-self-2-clause-sane
invariant_of-self-2-clause-sane g c = λ _.
    let s = c.args.self.now in
    subst Consistent (sym c.in_ok-carry_out.ensures.ok)
    (sane_happened c.in-Some.event.now.action s.devices s.ruled s.roots (s.sane c.requires.sound))

pub invariant_of-self-in-Break-branch-2 : goal.invariant_of-self-in-Break-branch-2
invariant_of-self-in-Break-branch-2 g c =
    let s = c.args.self.now in
    let rest = c.pop_front.new.self.items in
    let came = first_came (world_of s) rest c.pop_front.result c.unwrap-event.result
    c.in-Some.event.now c.carry_out.new.roots c.pop_front.ensures.items c.unwrap-event.ensures
    c.in-Some.ensures.lookup c.in_ok-carry_out.ensures.ok in
    let long = row_kept _ s.devices s.roots _ c.in_ok-carry_out.ensures.ok in
    let can : Event → Bool = can_come (length s.devices) in
    let all : list_all can (c.unwrap-event.result ∷ rest) ≡ true =
    subst (λ l. list_all can l ≡ true) came.split s.planned in
    record {
      some_root = omega (arith, long, s.some_root);
      few_roots = omega (arith, long, s.few_roots);
      settled = subst IsSettled (sym came.done)
          (settled_happened c.unwrap-event.result.action s.devices s.roots s.settled);
      sane = λ none. absurd (cc none);
      ruled = s.ruled;
      planned = (and_parts (can c.unwrap-event.result) (list_all can rest) all).1;
      few_events = omega (arith, came.fewer, s.few_events);
      counted = omega arith;
      within = s.within;
      few_attempts = s.few_attempts;
      few_damages = s.few_damages;
      named = s.named;
      lost = s.lost;
      at_limit = λ e. absurd (cc e);
      marked = c.in_err-put_action.ensures.marked;
      indexed = c.in_ok-carry_out.ensures.index;
    }
