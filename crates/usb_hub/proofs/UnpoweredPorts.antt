-- A port without power, of which nothing is asked, stays without power, whatever is plugged or
-- unplugged.
use Rattle.std.proofs.Common.{◌≡◌, ℕ, zero, suc, false, List, [], ◌∷◌, Option, None, Some, ap, sym}
use Rattle.std.proofs.Common.{subst, ◌∙◌, refl}
use Rattle.std.proofs.lemmas.Option.{same_Some}
use Rattle.usb_port.specs.{PortState, plugged, unplugged, off}
use Rattle.usb_device.specs.{fresh, Spec, Hub, Ports, vacant, taken, new_ports, first_ports}
use Rattle.usb_device.specs.{replaced, changed, changed_at, port_at, port_there}
use Rattle.usb_world.specs.{Action, leaves_step, LeavesPort, after_change, after_event, at_attempt}
use Rattle.usb_world.specs.{Course, World}
use Rattle.usb_world.proofs.Interface.{Keeps, OverSteps, happened_by, keeps_events, made_port}
use Rattle.usb_world.proofs.Interface.{over_course, over_ready, root_port}

-- the port that stands there, if any, has no power
abbrev pub NoPower : Option PortState → Type 0
NoPower o = (b : PortState) → o ≡ Some b → b.power ≡ false

no_power_none : NoPower None
no_power_none b e = absurd (cc e)

as_unpowered : (c d : PortState) → d.power ≡ c.power → NoPower (Some c) → NoPower (Some d)
as_unpowered c d same h b e = ap (λ x. x.power) (sym (same_Some d b e)) ∙ same ∙ h c refl

-- Events

new_unpowered : (n j : ℕ) (p : List ℕ) → NoPower (port_at (new_ports n) j p)
unfolding new_ports port_at
new_unpowered (suc n) zero [] = λ b e. ap (λ x. x.power) (sym (same_Some off b e))
new_unpowered (suc n) (suc j) p = new_unpowered n j p
new_unpowered n j p = no_power_none

first_unpowered : (hub : Option Hub) (j : ℕ) (p : List ℕ) → NoPower (port_at (first_ports hub) j p)
unfolding port_at
first_unpowered None j p = no_power_none
first_unpowered (Some hub) j p = new_unpowered hub.ports j p

event_unpowered : (o : Option Spec) (k : Ports) (i : ℕ) (e : List ℕ) (j : ℕ) (p : List ℕ)
    → NoPower (port_at k j p) → NoPower (port_at (changed_at (replaced o) k i e) j p)
unfolding changed_at port_at fresh
event_unpowered None (vacant c k) zero [] zero [] h = as_unpowered c (unplugged c) refl h
event_unpowered (Some s) (vacant c k) zero [] zero [] h =
    as_unpowered c (plugged s.low (unplugged c)) refl h
event_unpowered (Some s) (vacant c k) zero [] zero (suc m ∷ p) h = first_unpowered s.hub m p
event_unpowered o (vacant c k) (suc i) e (suc j) p h = event_unpowered o k i e j p h
event_unpowered None (taken c s a k) zero [] zero [] h = as_unpowered c (unplugged c) refl h
event_unpowered None (taken c s a k) zero [] zero (m ∷ p) h = no_power_none
event_unpowered (Some t) (taken c s a k) zero [] zero [] h =
    as_unpowered c (plugged t.low (unplugged c)) refl h
event_unpowered (Some t) (taken c s a k) zero [] zero (zero ∷ p) h = no_power_none
event_unpowered (Some t) (taken c s a k) zero [] zero (suc m ∷ p) h = first_unpowered t.hub m p
event_unpowered o (taken c s a k) zero (suc m ∷ e) zero (suc n ∷ p) h =
    event_unpowered o a m e n p h
event_unpowered o (taken c s a k) (suc i) e (suc j) p h = event_unpowered o k i e j p h
event_unpowered o _ _ e _ _ h = h

replaced_unpowered : (o : Option Spec) (k : Ports) (x p : List ℕ) → NoPower (port_there k p)
    → NoPower (port_there (changed (replaced o) k x) p)
replaced_unpowered o k (suc i ∷ x) (suc j ∷ p) h = event_unpowered o k i x j p h
replaced_unpowered o k x p h = h

happened_unpowered : (a : Action) (d : List Spec) (k : Ports) (p : List ℕ)
    → NoPower (port_there k p) → NoPower (port_there (after_change a d k) p)
happened_unpowered a d k p h =
    happened_by (λ v _. NoPower (port_there v p)) a d k p h (λ o x. replaced_unpowered o k x p h)

-- Steps

unpowered_steps : (p : List ℕ)
    → OverSteps (LeavesPort p) (Keeps (λ w. NoPower (port_there w.roots p)))
unfolding after_event leaves_step
unpowered_steps p = record {
  events = keeps_events (λ w. NoPower (port_there w.roots p))
      (λ e es w l. happened_unpowered e.action w.devices w.roots p);
  made = λ a w made g. subst NoPower (sym (made_port a (at_attempt w) p g));
  root = λ c m w g. subst NoPower (sym (root_port c m w.roots p g));
  refused = λ w h. h;
}

pub ready_unpowered : (w : World) (p : List ℕ) → NoPower (port_there w.roots p)
    → NoPower (port_there (at_attempt w).roots p)
ready_unpowered w p = over_ready (unpowered_steps p).events w

pub stays_unpowered : (p : List ℕ) {w v : World} → Course (LeavesPort p) w v
    → NoPower (port_there w.roots p) → NoPower (port_there v.roots p)
stays_unpowered p c = over_course (unpowered_steps p) c
