-- What steps of the world, and whole courses, do to reachable, live and pending, and what is so
-- between two of them.
use Rattle.std.proofs.Common.{arith, ◌≡◌, ℕ, zero, suc, ◌&&◌, ◌⊎◌, true, false, List, [], ◌∷◌, ◌++◌}
use Rattle.std.proofs.Common.{Option, None, Some, refl, ap, sym, ◌∙◌, append_assoc, Bool, ◌≤◌}
use Rattle.std.proofs.Common.{slice_get, All}
use Rattle.usb_port.specs.{PortCall}
use Rattle.usb_device.specs.{Whole, Spec, Ports, called, changed, reach, place, State, state_at}
use Rattle.usb_device.specs.{Hub, IsSpec, fresh, reset_state, ended, vacant, taken, empty, full}
use Rattle.usb_device.specs.{before, new_ports, first_ports, all_off, changed_at, replaced}
use Rattle.usb_device.specs.{all_forgotten, Place}
use Rattle.usb_packet.specs.{Packet}
use Rattle.usb_world.specs.{Damage, Event, Action, ExchangeAnswer, Attempt, Mark, marked}
use Rattle.usb_world.specs.{marked_some, token_of, payload_of, reply_of, goes_out, token_out}
use Rattle.usb_world.specs.{payload_out, reply_out, heard_in, mark_in, ports_in, World}
use Rattle.usb_world.specs.{after_change, names_path, after_event, at_attempt, damage_in}
use Rattle.usb_world.specs.{with_attempt, Step, attempt, root_call, after, Course, here, step}
use Rattle.usb_world.specs.{NoneNames, Undisturbed, made_resets, made_keeps_pending, root_resets}
use Rattle.usb_world.specs.{root_keeps_pending, resets, step_keeps_pending, Reached}
use Rattle.usb_world.specs.{UndisturbedOrPends, NoReset, KeepsPendingAt, Plug, Unplug, Consistent}
use Rattle.usb_world.specs.{PlanData, with_plugged, AnyStep, WorldInvariant, opening, has_power}
use Rattle.usb_world.specs.{pending, IsNew, IfOut, IsTokenFor, IsDataOut, IsAckOut, IsAttemptAt}
use Rattle.usb_world.specs.{IsSettled}
use Rattle.usb_world.proofs.Booleans.{false_true}
use Rattle.usb_world.proofs.States.{forgotten-nothing}
use Rattle.usb_world.proofs.courses.LiftedSteps.{OverSteps, with_limit_told, with_call, over_step}
use Rattle.usb_world.proofs.courses.LiftedSteps.{over_course, made_after, Keeps, keeps_events}
use Rattle.usb_world.proofs.courses.LiftedSteps.{happened_by, over_ready}
use Rattle.usb_world.proofs.events.PlugEvents.{happened_way}
use Rattle.usb_world.proofs.ports.PortCalls.{call_new, call_reach, call_kept}
use Rattle.usb_world.proofs.packets.Packets.{attempt_reach, attempt_new, attempt_kept, sent_out}
use Rattle.usb_world.proofs.packets.Packets.{after_attempt-settled, attempt_sane}
use Rattle.usb_device.specs.declared.transfer.RememberedPacket.TheVariants.{Nothing}
use Rattle.usb_world.specs.declared.event.Action.TheVariants.{Change, Ask}
use Rattle.std.proofs.lemmas.List.Elements.{All-head, All-tail}
use Rattle.std.specs.Prelude.{⊤}
use Rattle.std.specs.Option.{IfSome}
use Rattle.usb_world.proofs.ports.SanePorts.{sane_path, sane_new_ports, sane_called, sane_replaced}

-- Undisturbed

undisturbed_here : (w v : World) (p : List ℕ) → w.left ≡ v.left → v.devices ≡ w.devices
    → Undisturbed w v p
undisturbed_here w v p e d = grind arith

none_append : (d : List Spec) (a b : List Event) (p : List ℕ) → NoneNames d a p → NoneNames d b p
    → NoneNames d (a ++ b) p
none_append d [] b p h g = g
none_append d (x ∷ a) b p h g = (h.0, none_append d a b p h.1 g)

undisturbed_on : (w v u : World) (p : List ℕ) → Undisturbed w v p → Undisturbed v u p
    → Undisturbed w u p
undisturbed_on w v u p f g = grind (arith, append_assoc, none_append)

-- Events

pub happened_reach : (a : Action) (d : List Spec) (k : Ports) (p : List ℕ)
    → reach (after_change a d k) p ≡ true → (reach k p ≡ true) × (names_path d a p ≡ false)
happened_reach a d k p h = (happened_way a d k p).0 h

happened_pend : (a : Action) (d : List Spec) (k : Ports) (p : List ℕ)
    → pending k p ≡ true → pending (after_change a d k) p ≡ true
happened_pend a d k p h = (happened_way a d k p).1 h

abbrev LiveOr : Ports → Bool → List ℕ → Type 0
LiveOr v named p = ((has_power v p ≡ true) × (named ≡ false)) ⊎ (pending v p ≡ true)

happened_live : (a : Action) (d : List Spec) (k : Ports) (p : List ℕ) → has_power k p ≡ true
    → LiveOr (after_change a d k) (names_path d a p) p
happened_live a d k p h = (happened_way a d k p).2 h

took_reach : (e : Event) (es : List Event) (w : World) (p : List ℕ) → w.left ≡ e ∷ es
    → reach (after_event e es w).roots p ≡ true → (reach w.roots p ≡ true)
    × Undisturbed w (after_event e es w) p
unfolding after_event
took_reach e es w p l h =
    let at : _ = happened_reach e.action w.devices w.roots p h in
    (at.0, record { events = e ∷ []; split = l; silent = (at.1, tt); devices = refl })

-- The packets of an attempt are a token, data and an ACK

token_out-token : (a : Attempt) (d : Option Damage) → IfOut (IsTokenFor a.addr) (token_out a d)
unfolding token_of marked
token_out-token a d = grind arith

payload_goes : (a : Attempt) (d : Option Damage) → IfOut IsDataOut (payload_out a d)
unfolding payload_of marked_some marked
payload_goes a d = grind arith

IsSomeAck : Option Packet → Type 0
IsSomeAck None = Unit {0}
IsSomeAck (Some p) = IsAckOut (Whole p)

reply_acks : (h : ExchangeAnswer) (m : Mark) (max : ℕ) → IsSomeAck (reply_of h m max)
unfolding reply_of IsSomeAck
reply_acks h m max = grind arith

pub reply_goes : (a : Attempt) (d : Option Damage) (n : ℕ) (h : ExchangeAnswer) (m : Mark) (max : ℕ)
    → IfOut IsAckOut (goes_out a (marked_some d n a.pre (reply_of h m max)))
unfolding marked_some marked IsSomeAck
reply_goes a d n h m max = grind (arith, reply_acks, sent_out)

ack_goes : (a : Attempt) (d : Option Damage) (k : Ports) → IfOut IsAckOut (reply_out a d k)
ack_goes a d k = reply_goes a d _ (heard_in a d k) (mark_in a d k) a.max

pub goes : (a : Attempt) (d : Option Damage) (k : Ports)
    → IsAttemptAt a.addr (token_out a d) (payload_out a d) (reply_out a d k)
goes a d k = grind (arith, ack_goes, payload_goes, token_out-token)

-- An attempt that is made

pub made_reach : (a : Attempt) (w : World) (p : List ℕ) → made_resets a w p ≡ false
    → reach (with_attempt a w).roots p ≡ true → reach w.roots p ≡ true
unfolding with_attempt ports_in
made_reach a w (suc j ∷ p) f h = attempt_reach a.addr (token_out a (damage_in w))
    (payload_out a (damage_in w)) (reply_out a (damage_in w) w.roots) (goes a (damage_in w) w.roots)
    w.roots j p f h
made_reach a w p f h = false_true h

made_new : (a : Attempt) (w : World) (p : List ℕ) → made_resets a w p ≡ true
    → IsNew (place (with_attempt a w).roots p)
unfolding with_attempt ports_in
made_new a w (suc j ∷ p) f = attempt_new a.addr (token_out a (damage_in w))
    (payload_out a (damage_in w)) (reply_out a (damage_in w) w.roots) (goes a (damage_in w) w.roots)
    w.roots j p f
made_new a w p f = false_true f

pub made_pend : (a : Attempt) (w : World) (p : List ℕ) → made_keeps_pending a w p ≡ true
    → pending w.roots p ≡ true → pending (with_attempt a w).roots p ≡ true
unfolding with_attempt ports_in
made_pend a w (suc j ∷ p) f h =
    (attempt_kept a.addr _ _ _ (goes a (damage_in w) w.roots) w.roots j p f).1 h
made_pend a w p f h = false_true h

pub made_live : (a : Attempt) (w : World) (p : List ℕ) → made_keeps_pending a w p ≡ true
    → has_power w.roots p ≡ true → has_power (with_attempt a w).roots p ≡ true
unfolding with_attempt ports_in
made_live a w (suc j ∷ p) f h =
    (attempt_kept a.addr _ _ _ (goes a (damage_in w) w.roots) w.roots j p f).0 h
made_live a w p f h = false_true h

-- A root call

pub root_reach : (c : PortCall) (n : ℕ) (k : Ports) (p : List ℕ) → root_resets c n k p ≡ false
    → reach (changed (called c) k (n ∷ [])) p ≡ true → reach k p ≡ true
root_reach c n k p f h = grind (arith, call_reach)

root_new : (c : PortCall) (n : ℕ) (k : Ports) (p : List ℕ) → root_resets c n k p ≡ true
    → IsNew (place (changed (called c) k (n ∷ [])) p)
root_new c n k p f = grind (arith, call_new)

pub root_pend : (c : PortCall) (n : ℕ) (k : Ports) (p : List ℕ) → root_keeps_pending c n p ≡ true
    → pending k p ≡ true → pending (changed (called c) k (n ∷ [])) p ≡ true
root_pend c zero k (suc j ∷ p) g h = h
root_pend c (suc i) k (suc j ∷ p) g h = (call_kept c k i j p g).1 h
root_pend c n k p g h = false_true h

pub root_live : (c : PortCall) (n : ℕ) (k : Ports) (p : List ℕ) → root_keeps_pending c n p ≡ true
    → has_power k p ≡ true → has_power (changed (called c) k (n ∷ [])) p ≡ true
root_live c n k p g h = grind (arith, call_kept)

-- Steps

-- a device that a step resets is new after it
pub step_new : (s : Step) (w : World) (p : List ℕ) → resets s w p ≡ true
    → IsNew (place (after s w).roots p)
unfolding after resets
step_new s w p h = grind (arith, made_after, made_new, root_new)

-- a device that is reached was reached before, and was not disturbed
abbrev StaysReached : List ℕ → World → World → Type 0
StaysReached p w v = reach v.roots p ≡ true → (reach w.roots p ≡ true) × Undisturbed w v p

reach_steps : (p : List ℕ) → OverSteps (NoReset p) (StaysReached p)
unfolding resets with_attempt
reach_steps p = record {
  events = record {
    same = λ w h. (h, undisturbed_here w w p refl refl);
    joined = λ w m v x y h.
        let late : _ = y h in
        let early : _ = x late.0 in (early.0, undisturbed_on w m v p early.1 late.1);
    came = λ e es w l. took_reach e es w p l;
  };
  made = λ a w made k h. (
    made_reach a (at_attempt w) p (ap (λ x. x && made_resets a (at_attempt w) p) (sym made) ∙ k) h,
    undisturbed_here (at_attempt w) (with_attempt a (at_attempt w)) p refl refl,
  );
  root = λ c n w k h.
      (root_reach c n w.roots p k h, undisturbed_here w (with_call c n w) p refl refl);
  refused = λ w h. (h, undisturbed_here w (with_limit_told w) p refl refl);
}

pub unreset_reach : (s : Step) (w : World) (p : List ℕ) → resets s w p ≡ false
    → reach (after s w).roots p ≡ true → (reach w.roots p ≡ true) × Undisturbed w (after s w) p
unreset_reach s w p = over_step (reach_steps p) s w

-- a device becomes reachable in one way only: by PORT_RESET at its own port, which leaves it new
pub step_reach : (s : Step) (w : World) (p : List ℕ) → reach (after s w).roots p ≡ true
    → Reached w (after s w) p (resets s w p)
step_reach s w p h = grind (arith, step_new, unreset_reach)

-- a device that is reachable after a course that does not reset it was reachable before it, and is
-- the same one
pub same_device : (p : List ℕ) {w v : World} → Course (NoReset p) w v → reach v.roots p ≡ true
    → (reach w.roots p ≡ true) × Undisturbed w v p
same_device p c = over_course (reach_steps p) c

-- Powered on its whole way, or pending

-- a relation that holds over steps that spare a path, and over an event that does not name it
pub record OverUnnamed (K : Step → World → Type 0) (R : World → World → Type 0) (p : List ℕ)
    : Type 0 where
  pub same : (w : World) → R w w
  pub joined : (w m v : World) → R w m → R m v → R w v
  pub came : (e : Event) (events : List Event) (w : World) → w.left ≡ e ∷ events
      → names_path w.devices e.action p ≡ false → R w (after_event e events w)
  pub made : (a : Attempt) (w : World) → K (attempt a) w
      → R (at_attempt w) (with_attempt a (at_attempt w))
  pub root : (c : PortCall) (n : ℕ) (w : World) → K (root_call c n) w → R w (with_call c n w)
  pub refused : (w : World) → R w (with_limit_told w)
  pub spares : (s : Step) (w : World) → K s w → step_keeps_pending s w p ≡ true

abbrev pub OrPends : (World → World → Type 0) → List ℕ → World → World → Type 0
OrPends R p w v = ((has_power v.roots p ≡ true) × R w v) ⊎ (pending v.roots p ≡ true)

-- what is powered stays so and is related, or is pending; and what is pending stays so
pub record LiveOrPends (R : World → World → Type 0) (p : List ℕ) (w v : World) : Type 0 where
  pub powered : has_power w.roots p ≡ true → OrPends R p w v
  pub pending : pending w.roots p ≡ true → pending v.roots p ≡ true

module _ {K : Step → World → Type 0} {R : World → World → Type 0} {p : List ℕ}
    (l : OverUnnamed K R p) where
  live_joined : (w m v : World) → LiveOrPends R p w m → LiveOrPends R p m v → LiveOrPends R p w v
  live_joined w m v x y = grind arith

  live_came : (e : Event) (events : List Event) (w : World) → w.left ≡ e ∷ events
      → LiveOrPends R p w (after_event e events w)
  unfolding after_event
  live_came e events w left = grind (arith, happened_live, happened_pend)

  pub over_live : OverSteps K (LiveOrPends R p)
  unfolding step_keeps_pending
  over_live = grind (arith, live_came, live_joined, made_live, made_pend, root_live, root_pend)

-- no event comes on a live way but that it is pending
undisturbed_steps : (p : List ℕ) → OverSteps (KeepsPendingAt p)
    (LiveOrPends (λ w v. Undisturbed w v p) p)
unfolding after_event with_attempt
undisturbed_steps p = over_live (record {
  same = λ w. undisturbed_here w w p refl refl;
  joined = λ w m v. undisturbed_on w m v p;
  came = λ e es w l silent.
      record { events = e ∷ []; split = l; silent = (silent, tt); devices = refl };
  made = λ a w k. undisturbed_here (at_attempt w) (with_attempt a (at_attempt w)) p refl refl;
  root = λ c n w k. undisturbed_here w (with_call c n w) p refl refl;
  refused = λ w. undisturbed_here w (with_limit_told w) p refl refl;
  spares = λ s w k. k;
})

pub step_pend : (s : Step) (w : World) (p : List ℕ) → step_keeps_pending s w p ≡ true
    → pending w.roots p ≡ true → pending (after s w).roots p ≡ true
step_pend s w p k = (over_step (undisturbed_steps p) s w k).pending

pub pending_persists : (p : List ℕ) {w v : World} → Course (KeepsPendingAt p) w v
    → pending w.roots p ≡ true → pending v.roots p ≡ true
pending_persists p c = (over_course (undisturbed_steps p) c).pending

pub untouched_or_pending : (p : List ℕ) {w v : World} → Course (KeepsPendingAt p) w v
    → has_power w.roots p ≡ true → UndisturbedOrPends w v p
untouched_or_pending p c = (over_course (undisturbed_steps p) c).powered

-- Courses

-- courses join
pub course_joined : {K : Step → World → Type 0} {w v u : World} → Course K w v → Course K v u
    → Course K w u
course_joined (here w) d = d
course_joined (step s k c) d = step s k (course_joined c d)

pub course_then : {K : Step → World → Type 0} {w v : World} (s : Step) → Course K w v → K s v
    → Course K w (after s v)
course_then {v = v} s c k = course_joined c (step s k (here (after s v)))

pub course_wider : {K L : Step → World → Type 0} {w v : World}
    → ((s : Step) (w : World) → K s w → L s w) → Course K w v → Course L w v
course_wider f (here w) = here w
course_wider f (step s {w} {v} k c) = step s (f s w k) (course_wider f c)

-- What is so between two steps stays so.

-- A device that remembers nothing, and all below it

unfoldable pub Rests : Ports → Type 0
Rests ended = ⊤
Rests (vacant b k) = Rests k
Rests (taken b s a k) = (s.memory ≡ Nothing) × Rests a × Rests k

unfoldable RestsPlace : Place → Type 0
RestsPlace (empty b) = ⊤
RestsPlace (full b s a) = (s.memory ≡ Nothing) × Rests a

abbrev ports_after_first : Ports → Ports
ports_after_first ended = ended
ports_after_first (vacant b k) = k
ports_after_first (taken b s a k) = k

pub rests : (k : Ports) → IsSettled k → Rests k
unfolding all_forgotten Rests
rests ended h = tt
rests (vacant b k) h = rests k (ap ports_after_first h)
rests (taken b s a k) h = grind (arith, rests a, rests k)

pub rests_settled : (k : Ports) → Rests k → IsSettled k
unfolding all_forgotten Rests
rests_settled ended h = refl
rests_settled (vacant b k) h = ap (vacant b) (rests_settled k h)
rests_settled (taken b s a k) h = rw (
  forgotten-nothing s h.0,
  rests_settled a h.1,
  rests_settled k h.2,
) refl

pub each_rests : (k : Ports) → ((i : ℕ) (e : List ℕ) (t : State) → state_at k i e ≡ Some t
    → t.memory ≡ Nothing) → Rests k
unfolding Rests state_at
each_rests ended c = tt
each_rests (vacant b k) c = each_rests k (λ i e. c (suc i) e)
each_rests (taken b s a k) c = (
  c zero [] s refl,
  each_rests a (λ i e. c zero (suc i ∷ e)),
  each_rests k (λ i e. c (suc i) e),
)

-- the same, where no device at any path remembers anything
pub each_settled : (k : Ports) → ((i : ℕ) (e : List ℕ) (t : State) → state_at k i e ≡ Some t
    → t.memory ≡ Nothing) → IsSettled k
each_settled k c = rests_settled k (each_rests k c)

rests_off : (k : Ports) → Rests k → Rests (all_off k)
unfolding Rests all_off
rests_off ended h = tt
rests_off (vacant b k) h = rests_off k h
rests_off (taken b s a k) h = (h.0, h.1, rests_off k h.2)

rests_new : (n : ℕ) → Rests (new_ports n)
unfolding Rests new_ports
rests_new zero = tt
rests_new (suc n) = rests_new n

rests_first : (o : Option Hub) → Rests (first_ports o)
unfolding Rests
rests_first o = grind (arith, rests_new)

rests_called : (c : PortCall) (q : Place) → RestsPlace q → RestsPlace (called c q)
unfolding RestsPlace reset_state
rests_called c q h = grind (arith, rests_off)

rests_replaced : (o : Option Spec) (q : Place) → RestsPlace q → RestsPlace (replaced o q)
unfolding RestsPlace fresh
rests_replaced o q h = grind (arith, rests_first)

rests_before : (q : Place) (k : Ports) → RestsPlace q → Rests k → Rests (before q k)
unfolding RestsPlace Rests
rests_before q k h g = grind arith

rests_changed : (f : Place → Place) → ((q : Place) → RestsPlace q → RestsPlace (f q))
    → (k : Ports) (i : ℕ) (p : List ℕ) → Rests k → Rests (changed_at f k i p)
unfolding Rests RestsPlace changed_at
rests_changed f c (vacant b k) zero [] h = rests_before (f (empty b)) k (c (empty b) tt) h
rests_changed f c (vacant b k) (suc i) p h = rests_changed f c k i p h
rests_changed f c (taken b s a k) zero [] h =
    rests_before (f (full b s a)) k (c (full b s a) (h.0, h.1)) h.2
rests_changed f c (taken b s a k) zero (suc j ∷ p) h = (h.0, rests_changed f c a j p h.1, h.2)
rests_changed f c (taken b s a k) (suc i) p h = (h.0, h.1, rests_changed f c k i p h.2)
rests_changed f c k i p h = h

-- what leaves nothing remembered at a port leaves the tree settled
settled_path : (f : Place → Place) → ((q : Place) → RestsPlace q → RestsPlace (f q))
    → (k : Ports) (x : List ℕ) → IsSettled k → IsSettled (changed f k x)
settled_path f c k x h = grind (arith, rests, rests_changed, rests_settled)

-- Settled

pub settled_new : (n : ℕ) → IsSettled (new_ports n)
settled_new n = rests_settled (new_ports n) (rests_new n)

pub settled_happened : (a : Action) (ds : List Spec) (k : Ports) → IsSettled k
    → IsSettled (after_change a ds k)
settled_happened a ds k h =
    happened_by (λ v _. IsSettled v) a ds k [] h
    (λ o x. settled_path (replaced o) (rests_replaced o) k x h)

pub settled_called : (c : PortCall) (k : Ports) (p : List ℕ) → IsSettled k
    → IsSettled (changed (called c) k p)
settled_called c k p h = settled_path (called c) (rests_called c) k p h

settled_ports : (a : Attempt) (d : Option Damage) (k : Ports) → IsSettled (ports_in a d k)
unfolding ports_in
settled_ports a d k = grind (arith, after_attempt-settled)

-- Sane

sane_with : (o : Option Spec) → IfSome o IsSpec → (p : List ℕ) (k : Ports) → Consistent k
    → Consistent (with_plugged o p k)
sane_with o r p k h = grind (arith, sane_path, sane_replaced)

the_ruled : (ds : List Spec) (d : ℕ) → All IsSpec ds → IfSome (slice_get ds d) IsSpec
the_ruled [] d r = tt
the_ruled (s ∷ ds) zero r = All-head IsSpec s ds r
the_ruled (s ∷ ds) (suc d) r = the_ruled ds d (All-tail IsSpec s ds r)

pub sane_happened : (a : Action) (ds : List Spec) → All IsSpec ds → (k : Ports) → Consistent k
    → Consistent (after_change a ds k)
sane_happened (Change (Plug p d)) ds r k h = sane_with (slice_get ds d) (the_ruled ds d r) p k h
sane_happened (Change (Unplug p)) ds r k h = sane_path (replaced None) (sane_replaced None tt) k p h
sane_happened (Ask ask) ds r k h = h

pub sane_called_at : (c : PortCall) (k : Ports) (p : List ℕ) → Consistent k
    → Consistent (changed (called c) k p)
sane_called_at c k p h = sane_path (called c) (sane_called c) k p h

pub sane_ports : (a : Attempt) (d : Option Damage) (k : Ports) → Consistent k
    → Consistent (ports_in a d k)
unfolding ports_in
sane_ports a d k h = grind (arith, attempt_sane)

-- Worlds

pub between_opening : (p : PlanData) → All IsSpec p.devices → WorldInvariant (opening p)
between_opening p r = grind (arith, sane_new_ports, settled_new)

pub settled_steps : {K : Step → World → Type 0} → OverSteps K (Keeps (λ w. IsSettled w.roots))
unfolding after_event with_attempt
settled_steps = record {
  events =
      keeps_events (λ w. IsSettled w.roots)
      (λ e es w l. settled_happened e.action w.devices w.roots);
  made = λ a w made k h. settled_ports a (damage_in (at_attempt w)) (at_attempt w).roots;
  root = λ c n w k. settled_called c w.roots (n ∷ []);
  refused = λ w h. h;
}

pub settled_after : (s : Step) (w : World) → IsSettled w.roots → IsSettled (after s w).roots
settled_after s w = over_step (settled_steps {K = AnyStep}) s w tt

pub settled_course : {K : Step → World → Type 0} {w v : World} → Course K w v → IsSettled w.roots
    → IsSettled v.roots
settled_course c = over_course settled_steps c

-- a course of steps that are so where no device remembers a packet
pub settled_wider : {K L : Step → World → Type 0}
    → ((s : Step) (w : World) → K s w → IsSettled w.roots → L s w) → {w v : World} → Course K w v
    → IsSettled w.roots → Course L w v
settled_wider f (here w) h = here w
settled_wider f (step s {w} {v} k c) h =
    step s (f s w k h) (settled_wider f c (settled_after s w h))

between_by : (w : World) → IsSettled w.roots → Consistent w.roots → All IsSpec w.devices
    → WorldInvariant w
between_by w settled sane ruled = grind arith

between_steps : {K : Step → World → Type 0} → OverSteps K (Keeps WorldInvariant)
unfolding after_event with_attempt
between_steps = record {
  events = keeps_events WorldInvariant (λ e es w l h.
      between_by (after_event e es w) (settled_happened e.action w.devices w.roots h.settled)
      (sane_happened e.action w.devices h.ruled w.roots h.sane) h.ruled);
  made = λ a w made k h.
      between_by (with_attempt a (at_attempt w))
      (settled_ports a (damage_in (at_attempt w)) (at_attempt w).roots)
      (sane_ports a (damage_in (at_attempt w)) (at_attempt w).roots h.sane) h.ruled;
  root = λ c n w k h.
      between_by (with_call c n w) (settled_called c w.roots (n ∷ []) h.settled)
      (sane_called_at c w.roots (n ∷ []) h.sane) h.ruled;
  refused = λ w h. between_by (with_limit_told w) h.settled h.sane h.ruled;
}

pub between_ready : (w : World) → WorldInvariant w → WorldInvariant (at_attempt w)
between_ready = over_ready (between_steps {K = AnyStep}).events

pub between_after : (s : Step) (w : World) → WorldInvariant w → WorldInvariant (after s w)
between_after s w = over_step (between_steps {K = AnyStep}) s w tt

pub between_course : {K : Step → World → Type 0} {w v : World} → Course K w v → WorldInvariant w
    → WorldInvariant v
between_course c = over_course between_steps c

-- Events are counted

counted_steps : {K : Step → World → Type 0} → OverSteps K (λ w v. w.taken ≤ v.taken)
unfolding after_event with_attempt
counted_steps = grind arith

pub ready_taken : (w : World) → w.taken ≤ (at_attempt w).taken
ready_taken = over_ready (counted_steps {K = AnyStep}).events

pub course_taken : {K : Step → World → Type 0} {w v : World} → Course K w v → w.taken ≤ v.taken
course_taken c = over_course counted_steps c
