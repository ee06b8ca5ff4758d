use Rattle.std.proofs.Common.{rules, ◌≡◌, ℕ, ◌+◌, ◌||◌, List, Bool, Option, None, refl, sym, subst}
use Rattle.std.proofs.Common.{ap, ◌∙◌, arith, length}
use Rattle.usb_device.specs.{Ports, row_of}
use Rattle.usb_world.specs.{Attempt, Damage, Exchange, damage_of, exchange_in, lost_in, Destination}
use Rattle.usb_world.specs.{attempt_data, AreOfDamages, counted, World, Consistent, IsCut}
use Rattle.usb_world.specs.{IsAttempt, after_clearing, IsSettled}
use Rattle.usb_packet.specs.{speed_has_pre}
use Rattle.usb_world.specs.declared.losses.Losses.{Losses}
use Rattle.usb_sim.specs.{world_of}
use Rattle.usb_bus.specs.{lines_between, step_lines}
use Rattle.usb_watch.specs.{AppendsFront}
use Rattle.usb_sim.proofs.Endings.{without_fault, left_at_event, left_at_packet, left_at_line}
use Rattle.usb_world.proofs.Interface.{losses_after, sane_ports, spends_wider, until_most}
use Rattle.usb_watch.proofs.Interface.{front_after_first}
use Rattle.std.specs.Io.KnownBytes.{Appends}
use Rattle.std.proofs.KnownBytes.{Appends-trans}
use Rattle.usb_sim.proofs.Arrivals.{made_there, lines_alone, writes_alone, writes_told, writes_line}
use Rattle.usb_sim.proofs.Arrivals.{writes_memory}
use Rattle.usb_sim.proofs.sim.SimBus.make_attempt.Goals as goal

pub count-requires-clause-all : goal.count-requires-clause-all
count-requires-clause-all g c =
    let mid = c.take_due_events.new.self in
    omega (arith, mid.lost.all, until_most mid.damages.items mid.attempts, mid.few_damages)

pub count-requires-clause-run : goal.count-requires-clause-run
count-requires-clause-run g c =
    let mid = c.take_due_events.new.self in
    omega
    (arith, mid.lost.run, mid.lost.all, until_most mid.damages.items mid.attempts, mid.few_damages)

pub returns-clause-made : goal.returns-clause-made
unfolding step_lines lines_between
returns-clause-made g c =
    let w = world_of c.args.self.now in
    let mid = c.take_due_events.new.self in
    let a = attempt_data c.args.attempt.now in
    let came = c.in_ok-take_due_events.ensures.came in
    let made = c.in_ok-make_exchange_by.ensures.made in
    let there = made_there a w (world_of mid) c.damage_of-damage.result
    c.make_exchange_by.new.exchange c.make_exchange_by.new.roots c.count.new.self
    c.is_shared.result came.exact came.told (omega (arith, came.spends.later, came.spends.most))
    (c.damage_of-damage.ensures ∙ ap (λ (l : List Damage). damage_of l (mid.attempts + 1))
    c.deref.ensures.value) made.made made.ports
    (rw (c.is_change_cleared.ensures, c.is_address_lost.ensures) at c.count.ensures)
    (c.is_shared.ensures ∙ mid.indexed.1) in
    let pre : c.has_pre-pre.result ≡ a.pre = c.has_pre-pre.ensures
    ∙ ap (λ (d : Destination). speed_has_pre d.speed) c.destination.ensures in
    record {
      spends = search rules;
      one = search rules;
      exact = there.exact;
      left = tt;
      outcome = there.outcome;
      told = search rules;
      other = tt;
      text = subst (Appends _ _) there.lines (Appends-trans _ _ _ _ _ came.text
          (rw pre at c.in_ok-put_attempt.ensures.ok));
    }

-- its line was not written
pub returns-in_err-put_attempt-clause-made : goal.returns-in_err-put_attempt-clause-made
unfolding step_lines lines_between
returns-in_err-put_attempt-clause-made g c =
    let w = world_of c.args.self.now in
    let mid = c.take_due_events.new.self in
    let a = attempt_data c.args.attempt.now in
    let came = c.in_ok-take_due_events.ensures.came in
    let made = c.in_ok-make_exchange_by.ensures.made in
    let there = made_there a w (world_of mid) c.damage_of-damage.result
    c.make_exchange_by.new.exchange c.make_exchange_by.new.roots c.count.new.self
    c.is_shared.result came.exact came.told (omega (arith, came.spends.later, came.spends.most))
    (c.damage_of-damage.ensures ∙ ap (λ (l : List Damage). damage_of l (mid.attempts + 1))
    c.deref.ensures.value) made.made made.ports
    (rw (c.is_change_cleared.ensures, c.is_address_lost.ensures) at c.count.ensures)
    (c.is_shared.ensures ∙ mid.indexed.1) in
    let pre : c.has_pre-pre.result ≡ a.pre = c.has_pre-pre.ensures
    ∙ ap (λ (d : Destination). speed_has_pre d.speed) c.destination.ensures in
    record {
      spends = search rules;
      one = search rules;
      exact = search rules;
      left = left_at_line c.from_residual-in_err-put_attempt.result a w _
          c.from_residual-in_err-put_attempt.ensures.1 there.exact;
      outcome = search rules;
      told = search rules;
      other = search rules;
      text = writes_line c.from_residual-in_err-put_attempt.result _ _ _
          c.from_residual-in_err-put_attempt.ensures.1
          (subst (AppendsFront _ _) there.lines (front_after_first _ _ _ _ _ came.text
          (rw pre at c.put_attempt.ensures.front)));
    }

-- memory was refused while the host's data went
pub returns-in_err-make_exchange_by-clause-made : goal.returns-in_err-make_exchange_by-clause-made
unfolding step_lines lines_between
returns-in_err-make_exchange_by-clause-made g c =
    let w = world_of c.args.self.now in
    let mid = c.take_due_events.new.self in
    let a = attempt_data c.args.attempt.now in
    let came = c.in_ok-take_due_events.ensures.came in
    let damage = c.damage_of-damage.ensures
    ∙ ap (λ (l : List Damage). damage_of l (mid.attempts + 1)) c.deref.ensures.value in
    let cut = subst (λ (d : Option Damage). IsCut a d mid.roots c.make_exchange_by.new.roots) damage
    c.in_err-make_exchange_by.ensures.cut in
    let world : Bool → World
    = λ s. record (world_of mid) {
      roots = c.make_exchange_by.new.roots;
      shared = mid.shared || s;
    } in
    let same : mid.attempts ≡ c.args.self.now.attempts =
    omega (
      arith,
      c.take_due_events.ensures.came.spends.later,
      c.take_due_events.ensures.came.spends.most,
    ) in
    record {
      spends = search rules;
      one = search rules;
      exact = search rules;
      left = left_at_packet c.from_residual-in_err-make_exchange_by.result a w (world_of mid) _
          c.make_exchange_by.new.roots
          c.from_residual-in_err-make_exchange_by.ensures.1 came.exact cut
          (without_fault (world c.is_shared.result) _ None
          (ap world (c.is_shared.ensures ∙ mid.indexed.1)) came.told refl);
      outcome = search rules;
      told = search rules;
      other = search rules;
      text = writes_memory c.from_residual-in_err-make_exchange_by.result _ _ _
          c.from_residual-in_err-make_exchange_by.ensures.1
          (subst (Appends _ _) (lines_alone a w (world_of mid) same) came.text);
    }

-- an event that was due was refused
pub returns-in_err-take_due_events-clause-made : goal.returns-in_err-take_due_events-clause-made
returns-in_err-take_due_events-clause-made g c =
    let w = world_of c.args.self.now in
    let v = world_of c.take_due_events.new.self in
    let a = attempt_data c.args.attempt.now in
    let came = c.in_err-take_due_events.ensures.came in
    let same : v.attempts ≡ c.args.self.now.attempts =
    omega (arith, came.spends.later, came.spends.most) in
    record {
      spends = spends_wider 0 1 w v came.spends (omega arith);
      one = search rules;
      exact = search rules;
      left = left_at_event c.from_residual.result a w (record v { fault = None }) came.cut;
      outcome = search rules;
      told = search rules;
      other = search rules;
      text = writes_alone c.from_residual.result a w v _ _ same
          (writes_told _ c.from_residual.result _ _ _ c.from_residual.ensures.1 came.text);
    }

-- the losses that damage made
losses_made : (damages : List Damage) (n : ℕ) (a : Attempt) (d : Option Damage) (k : Ports)
    (x : Exchange) (l t : Losses) → IsAttempt a → IsSettled k → d ≡ damage_of damages (n + 1)
    → x ≡ exchange_in a d k → t ≡ counted x.address_lost (after_clearing x.change_cleared l)
    → AreOfDamages n damages l → AreOfDamages (n + 1) damages t
unfolding exchange_in
losses_made damages n a d k x l t is settled ed ex et h =
    let lost : x.address_lost ≡ lost_in a (damage_of damages (n + 1)) k =
    ap (λ (y : Exchange). y.address_lost) ex ∙ ap (λ (o : Option Damage). lost_in a o k) ed in
    subst (AreOfDamages (n + 1) damages) (sym et)
    (losses_after damages n a k x.change_cleared x.address_lost l is settled lost h)

pub invariant_of-self-2-clause-sane : goal.invariant_of-self-2-clause-sane
invariant_of-self-2-clause-sane g c = λ _.
    let mid = c.take_due_events.new.self in
    subst Consistent (sym c.in_ok-make_exchange_by.ensures.made.ports)
    (sane_ports (attempt_data c.args.attempt.now) c.damage_of-damage.result mid.roots
    (mid.sane c.in_ok-take_due_events.ensures.came.told))

pub invariant_of-self-2-clause-ruled : goal.invariant_of-self-2-clause-ruled
invariant_of-self-2-clause-ruled g c = c.take_due_events.new.self.ruled

pub invariant_of-self-2-clause-lost : goal.invariant_of-self-2-clause-lost
invariant_of-self-2-clause-lost g c =
    let mid = c.take_due_events.new.self in
    losses_made mid.damages.items mid.attempts (attempt_data c.args.attempt.now) _ mid.roots _
    mid.losses _
    c.requires.attempt mid.settled (c.damage_of-damage.ensures
    ∙ ap (λ (l : List Damage). damage_of l (mid.attempts + 1)) c.deref.ensures.value)
    c.in_ok-make_exchange_by.ensures.made.made
    (rw (c.is_change_cleared.ensures, c.is_address_lost.ensures) at c.count.ensures)
    mid.lost

pub invariant_of-self-in-Break-branch-3 : goal.invariant_of-self-in-Break-branch-3
invariant_of-self-in-Break-branch-3 g c =
    let mid = c.take_due_events.new.self in
    let spent = c.take_due_events.ensures.came.spends in
    let size : length (row_of c.make_exchange_by.new.roots) ≡ length (row_of mid.roots) =
    ap length c.in_ok-make_exchange_by.ensures.plugged.row in
    record {
      some_root = omega (arith, size, mid.some_root);
      few_roots = omega (arith, size, mid.few_roots);
      settled = c.in_ok-make_exchange_by.ensures.settled;
      sane = λ none. absurd (cc none);
      ruled = mid.ruled;
      planned = mid.planned;
      few_events = mid.few_events;
      counted = omega (arith, mid.counted);
      within = omega (arith, spent.most, spent.limit, c.requires.within);
      few_attempts = mid.few_attempts;
      few_damages = mid.few_damages;
      named = mid.named;
      lost = losses_made mid.damages.items mid.attempts (attempt_data c.args.attempt.now) _
          mid.roots _ mid.losses
          _ c.requires.attempt mid.settled (c.damage_of-damage.ensures
          ∙ ap (λ (l : List Damage). damage_of l (mid.attempts + 1)) c.deref.ensures.value)
          c.in_ok-make_exchange_by.ensures.made.made
          (rw (c.is_change_cleared.ensures, c.is_address_lost.ensures) at c.count.ensures)
          mid.lost;
      at_limit = λ e. absurd (cc e);
      marked = c.in_err-put_attempt.ensures.marked;
      indexed = c.in_ok-make_exchange_by.ensures.index;
    }
