use Rattle.std.proofs.Common.{arith, length, subst, sym, ap, refl, ◌∙◌, ◌+◌, ◌≡◌, ◌≤◌, true, drop}
use Rattle.std.proofs.Common.{List}
use Rattle.std.specs.List.{list_all}
use Rattle.usb_world.specs.{Damage, Event, can_come, AreOfDamages}
use Rattle.usb_sim.specs.{world_of}
use Rattle.usb_sim.proofs.Plans.{copies_come}
use Rattle.usb_sim.proofs.Followed.{all_dropped, devices_alike, few_left, of_alike}
use Rattle.usb_sim.proofs.sim.SimBus.follow.Goals as goal

pub invariant_of-self-clause-planned : goal.invariant_of-self-clause-planned
invariant_of-self-clause-planned g c =
    let w = world_of c.args.self.now in
    let p = c.args.plan.now in
    let alike = devices_alike p w (sym c.is_alike.ensures ∙ c.if-not-is_alike.false) in
    let left : c.in_ok-left.left.items ≡ drop w.taken p.events =
    c.in_ok-left.ensures ∙ ap (drop w.taken) c.events.ensures.value in
    subst (λ (l : List Event). list_all (can_come (length w.devices)) l ≡ true) (sym left)
    (all_dropped (can_come (length w.devices)) w.taken p.events
    (copies_come p (length w.devices) p.events c.events.ensures.plan (sym alike) refl))

pub invariant_of-self-clause-lost : goal.invariant_of-self-clause-lost
invariant_of-self-clause-lost g c =
    let w = world_of c.args.self.now in
    let p = c.args.plan.now in
    let copies : c.in_ok-damages.damages.items ≡ p.damages =
    c.in_ok-damages.ensures ∙ c.damages.ensures.value in
    subst (λ (l : List Damage). AreOfDamages w.attempts l w.losses) (sym copies)
    (of_alike p w (sym c.is_alike.ensures ∙ c.if-not-is_alike.false) c.args.self.now.lost)

pub invariant_of-self-clause-few_events : goal.invariant_of-self-clause-few_events
invariant_of-self-clause-few_events g c =
    let w = world_of c.args.self.now in
    let p = c.args.plan.now in
    let left : c.in_ok-left.left.items ≡ drop w.taken p.events =
    c.in_ok-left.ensures ∙ ap (drop w.taken) c.events.ensures.value in
    subst (λ (l : List Event). w.taken + length l ≤ 10000) (sym left)
    (few_left w.taken 10000 p.events c.events.ensures.bound
    (omega (arith, c.args.self.now.few_events)))
