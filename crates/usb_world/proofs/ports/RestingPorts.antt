-- A port of which nothing is asked.
use Rattle.usb_world.proofs.ports.PortCalls.{ports_then, SamePorts, same_ports, changed_there}
use Rattle.usb_world.proofs.ports.PortCalls.{root_there}
use Rattle.std.proofs.Common.{arith, ◌≡◌, ℕ, zero, suc, Bool, true, false, List, [], ◌∷◌, ◌++◌}
use Rattle.std.proofs.Common.{Option, None, Some, refl, ap, sym, subst, ◌∙◌, inl, inr, option_map}
use Rattle.usb_port.specs.{PortState, PortCall}
use Rattle.usb_device.specs.{Sent, Effect, fresh, Spec, Ports, vacant, taken, empty, full, before}
use Rattle.usb_device.specs.{port_of, called, replaced, changed, changed_at, port_at, port_there}
use Rattle.usb_device.specs.{Place, reach, state_there}
use Rattle.usb_world.specs.{Action, Attempt, ports_in, World, after_change, way_of, names_path}
use Rattle.usb_world.specs.{after_event, at_attempt, damage_in, with_attempt, Course, made_resets}
use Rattle.usb_world.specs.{root_resets, sent_leaves, made_leaves, root_leaves, leaves_step}
use Rattle.usb_world.specs.{LeavesPort, row_reached, StillSet, spec_of, KeepsPendingAt, SameAt}
use Rattle.usb_world.specs.{LeavesPortAlone, UnchangedOrPending, SameDeviceOrPending, is_way}
use Rattle.usb_world.specs.{same_number, after_sent, after_attempt, sent_resets, IsAttemptAt}
use Rattle.usb_world.specs.{effect_resets, resets_at, leaves_port, way_leaves, has_power}
use Rattle.usb_world.proofs.Booleans.{false_true, both, decided}
use Rattle.usb_world.proofs.ways.Ways.{same_number-is}
use Rattle.usb_world.proofs.packets.Packets.{way_ports, calm_token as token_calm}
use Rattle.usb_world.proofs.packets.Packets.{calm_ack as ack_calm, forgotten_ports, calm_leaves}
use Rattle.usb_world.proofs.courses.LiftedSteps.{OverSteps, happened_by, over_course}
use Rattle.usb_world.proofs.courses.Courses.{happened_reach, made_reach, root_reach, goes}
use Rattle.usb_world.proofs.courses.Courses.{LiveOrPends, over_live, untouched_or_pending}
use Rattle.usb_world.proofs.courses.Courses.{course_wider}
use Rattle.usb_world.proofs.events.PlugEvents.{happened_there}
use Rattle.usb_world.proofs.events.PluggedDevices.{attempt_spec, root_spec, undisturbed_keeps}

-- A port of which nothing is asked keeps its change bits and its power, where the device above it
-- is still reached.

still_set-same : (b : PortState) (o : Option PortState) → o ≡ Some b → StillSet b o
still_set-same b o h = grind arith

still_then : (b : PortState) (o v : Option PortState) → StillSet b o
    → ((c : PortState) → o ≡ Some c → StillSet c v) → StillSet b v
still_then b o v x f =
    let y : _ = f x.now x.stands in
    record {
      now = y.now;
      stands = y.stands;
      power = λ e. y.power (x.power e);
      connection = λ e. y.connection (x.connection e);
      enable = λ e. y.enable (x.enable e);
      reset = λ e. y.reset (x.reset e);
    }

-- Events

-- the port at which something is plugged or unplugged
still_put : (o : Option Spec) (x : Place) (k : Ports) (b : PortState)
    → Some (port_of x) ≡ Some b → StillSet b (port_at (before (replaced o x) k) zero [])
unfolding port_at fresh
still_put o x k b h = grind arith

struck_port : (o : Option Spec) (k : Ports) (i : ℕ) (e : List ℕ) (b : PortState)
    → port_at k i e ≡ Some b → StillSet b (port_at (changed_at (replaced o) k i e) i e)
unfolding changed_at port_at
struck_port o (vacant c k) zero [] b h = still_put o (empty c) k b h
struck_port o (vacant c k) (suc i) e b h = struck_port o k i e b h
struck_port o (taken c s a k) zero [] b h = still_put o (full c s a) k b h
struck_port o (taken c s a k) zero (suc i ∷ e) b h = struck_port o a i e b h
struck_port o (taken c s a k) (suc i) e b h = struck_port o k i e b h
struck_port o _ _ _ b h = still_set-same b None h

struck_there : (o : Option Spec) (k : Ports) (p : List ℕ) (b : PortState)
    → port_there k p ≡ Some b → StillSet b (port_there (changed (replaced o) k p) p)
struck_there o k (suc i ∷ p) b h = struck_port o k i p b h
struck_there o k _ b h = still_set-same b None h

-- what leads to a port and not to the device above it is that port's own path
last_step : (x q : List ℕ) (n : ℕ) → is_way x q ≡ false → is_way x (q ++ (n ∷ [])) ≡ true
    → x ≡ q ++ (n ∷ [])
unfolding is_way
last_step [] q n w h = false_true (sym w)
last_step (m ∷ []) [] n w h = grind (arith, both, same_number-is)
last_step (m ∷ y ∷ x) [] n w h = false_true (both (same_number m n) false h).1
last_step (m ∷ x) (k ∷ q) n w h =
    grind (arith, last_step x q, same_number-is)

replaced_bits : (o : Option Spec) (k : Ports) (x q : List ℕ) (n : ℕ) (b : PortState)
    → way_of x q ≡ false → port_there k (q ++ (n ∷ [])) ≡ Some b
    → StillSet b (port_there (changed (replaced o) k x) (q ++ (n ∷ [])))
replaced_bits o k [] q n b w h = still_set-same b _ h
replaced_bits o k (m ∷ x) q n b w h = elim (decided (is_way (m ∷ x) (q ++ (n ∷ [])))) [
  | inl on ↦
      subst (λ y. StillSet b (port_there (changed (replaced o) k y) (q ++ (n ∷ []))))
      (sym (last_step (m ∷ x) q n w on)) (struck_there o k (q ++ (n ∷ [])) b h)
  | inr away ↦ still_set-same b _ ((changed_there (replaced o) k (m ∷ x) (q ++ (n ∷ [])) away).1
      ∙ h)
]

happened_bits : (a : Action) (d : List Spec) (k : Ports) (q : List ℕ) (n : ℕ) (b : PortState)
    → names_path d a q ≡ false → port_there k (q ++ (n ∷ [])) ≡ Some b
    → StillSet b (port_there (after_change a d k) (q ++ (n ∷ [])))
happened_bits a d k q n b =
    happened_by
    (λ v named.
    named ≡ false → port_there k (q ++ (n ∷ [])) ≡ Some b
    → StillSet b (port_there v (q ++ (n ∷ [])))) a d k q (λ w h. still_set-same b _ h)
    (λ o x. replaced_bits o k x q n b)

no_way : (x : List ℕ) → way_of x [] ≡ false
unfolding is_way
no_way x = grind arith

-- where a row is reached, it was before, and no event was at it or above it; none is at the host
row_happened : (a : Action) (d : List Spec) (k : Ports) (q : List ℕ)
    → row_reached (after_change a d k) q ≡ true → (row_reached k q ≡ true)
    × (names_path d a q ≡ false)
row_happened a d k [] h = (refl, happened_by (λ v named. named ≡ false) a d k [] refl (λ o. no_way))
row_happened a d k (m ∷ q) h = happened_reach a d k (m ∷ q) h

-- Attempts

sent_ports : (o : Option Sent) (k : Ports) (j : ℕ) (p : List ℕ)
    → sent_leaves o k j p ≡ true → SamePorts k (after_sent o k) j p
sent_ports None k j p h = same_ports k j p
sent_ports (Some q) k j p h = way_ports q false k j p h

attempt_ports : (n : ℕ) (t d r : Option Sent) → IsAttemptAt n t d r
    → (k : Ports) (j : ℕ) (p : List ℕ)
    → sent_leaves d (after_sent t k) j p ≡ true → SamePorts k (after_attempt t d r k) j p
attempt_ports n t d r is k j p h =
    let heard : Ports = after_sent d (after_sent t k) in
    ports_then _ _ _ j p (sent_ports t k j p (calm_leaves t (token_calm n t is.token) k j p))
    (ports_then _ _ _ j p (sent_ports d (after_sent t k) j p h)
    (ports_then _ _ _ j p (sent_ports r heard j p (calm_leaves r (ack_calm r is.reply) heard j p))
    (forgotten_ports (after_sent r heard) j p)))

pub made_port : (a : Attempt) (w : World) (p : List ℕ) → made_leaves a w p ≡ true
    → port_there (with_attempt a w).roots p ≡ port_there w.roots p
unfolding with_attempt ports_in
made_port a w (suc j ∷ p) h = (attempt_ports a.addr _ _ _
    (goes a (damage_in w) w.roots) w.roots j p h).3
made_port a w p h = refl

-- A step that leaves a port resets no device above it

pub left_effect : (e : Effect) (a : Ports) (j : ℕ) (p : List ℕ) → leaves_port e j ≡ true
    → effect_resets e a j p ≡ false
left_effect e a j p h = grind arith

left_resets : (q : Sent) (deep : Bool) (k : Ports) (j : ℕ) (p : List ℕ) (n : ℕ)
    → way_leaves q deep k j (p ++ (n ∷ [])) ≡ true → resets_at q deep k j p ≡ false
unfolding way_leaves resets_at
left_resets q deep (vacant b k) (suc j) p n h = left_resets q deep k j p n h
left_resets q deep (taken b s a k) zero (suc j ∷ p) n h =
    grind (arith, left_resets q true a j p n, left_effect)
left_resets q deep (taken b s a k) (suc j) p n h = left_resets q deep k j p n h
left_resets q deep k j p n h = refl

left_sent : (o : Option Sent) (k : Ports) (j : ℕ) (p : List ℕ) (n : ℕ)
    → sent_leaves o k j (p ++ (n ∷ [])) ≡ true → sent_resets o k j p ≡ false
left_sent o k j p n h = grind (arith, left_resets)

left_made : (a : Attempt) (w : World) (q : List ℕ) (n : ℕ) → made_leaves a w (q ++ (n ∷ [])) ≡ true
    → made_resets a w q ≡ false
left_made a w q n h = grind (arith, left_sent)

left_root : (c : PortCall) (m : ℕ) (k : Ports) (q : List ℕ) (n : ℕ) → root_leaves m (q ++ (n ∷ []))
    ≡ true → root_resets c m k q ≡ false
left_root c m k q n h = grind arith

-- Steps

pub root_port : (c : PortCall) (m : ℕ) (k : Ports) (p : List ℕ) → root_leaves m p ≡ true
    → port_there (changed (called c) k (m ∷ [])) p ≡ port_there k p
root_port c m k p h = (root_there c m k p h).1

row_reached-made : (a : Attempt) (w : World) (q : List ℕ) (n : ℕ) → made_leaves a w (q ++ (n ∷ []))
    ≡ true → row_reached (with_attempt a w).roots q ≡ true → row_reached w.roots q ≡ true
row_reached-made a w q n g h = grind (arith, left_made, made_reach)

root_row : (c : PortCall) (m : ℕ) (k : Ports) (q : List ℕ) (n : ℕ)
    → root_leaves m (q ++ (n ∷ [])) ≡ true → row_reached (changed (called c) k (m ∷ [])) q ≡ true
    → row_reached k q ≡ true
root_row c m k [] n g h = refl
root_row c m k (x ∷ q) n g h = root_reach c m k (x ∷ q) (left_root c m k (x ∷ q) n g) h

-- where a row is reached, it was before, and what was set at its port still is
abbrev BitsStay : List ℕ → ℕ → World → World → Type 0
BitsStay q n w v =
    row_reached v.roots q ≡ true → (row_reached w.roots q ≡ true) ×
    ((b : PortState) → port_there w.roots (q ++ (n ∷ [])) ≡ Some b
    → StillSet b (port_there v.roots (q ++ (n ∷ []))))

bits_steps : (q : List ℕ) (n : ℕ) → OverSteps (LeavesPort (q ++ (n ∷ []))) (BitsStay q n)
unfolding after_event leaves_step
bits_steps q n = record {
  events = record {
    same = λ w on. (on, λ b h. still_set-same b _ h);
    joined = λ w m v x y on.
        let late : _ = y on in
        let early : _ = x late.0 in (
          early.0,
          λ b h.
              still_then b (port_there m.roots (q ++ (n ∷ []))) (port_there v.roots (q ++ (n ∷ [])))
              (early.1 b h) late.1,
        );
    came = λ e es w l on.
        let row : _ = row_happened e.action w.devices w.roots q on in
        (row.0, λ b. happened_bits e.action w.devices w.roots q n b row.1);
  };
  made = λ a w made g on. (
    row_reached-made a (at_attempt w) q n g on,
    λ b h. still_set-same b _ (made_port a (at_attempt w) (q ++ (n ∷ [])) g ∙ h),
  );
  root = λ c m w g on. (
    root_row c m w.roots q n g on,
    λ b h. still_set-same b _ (root_port c m w.roots (q ++ (n ∷ [])) g ∙ h),
  );
  refused = λ w on. (on, λ b h. still_set-same b _ h);
}

pub course_bits : (q : List ℕ) (n : ℕ) {w v : World} → Course (LeavesPort (q ++ (n ∷ []))) w v
    → row_reached v.roots q ≡ true → (b : PortState)
    → port_there w.roots (q ++ (n ∷ [])) ≡ Some b → StillSet b (port_there v.roots (q ++ (n ∷ [])))
course_bits q n c on = (over_course (bits_steps q n) c on).1

-- A port of which nothing is asked stands as it stood, or a change of connection is pending on its
-- way.

same_self : (k : Ports) (p : List ℕ) → SameAt k k p
same_self k p = record { port = refl; on = refl; what = refl }

same_then : (k l m : Ports) (p : List ℕ) → SameAt k l p → SameAt l m p → SameAt k m p
same_then k l m p x y = grind arith

-- Events

happened_same : (a : Action) (d : List Spec) (k : Ports) (p : List ℕ)
    → names_path d a p ≡ false → SameAt k (after_change a d k) p
happened_same a d k p h =
    let same : _ = happened_there a d k p h in
    record { port = same.1; on = same.0; what = ap (option_map spec_of) same.2 }

-- Attempts

made_on : (a : Attempt) (w : World) (p : List ℕ) → made_leaves a w p ≡ true
    → reach (with_attempt a w).roots p ≡ reach w.roots p
unfolding with_attempt ports_in
made_on a w (suc j ∷ p) h = (attempt_ports a.addr _ _ _
    (goes a (damage_in w) w.roots) w.roots j p h).0
made_on a w p h = refl

made_what : (a : Attempt) (w : World) (p : List ℕ)
    → option_map spec_of (state_there (with_attempt a w).roots p)
    ≡ option_map spec_of (state_there w.roots p)
unfolding with_attempt
made_what a w p = attempt_spec a _ w.roots p

made_same : (a : Attempt) (w : World) (p : List ℕ) → made_leaves a w p ≡ true
    → SameAt w.roots (with_attempt a w).roots p
made_same a w p h = grind (arith, made_on, made_port, made_what)

-- Steps

root_same : (c : PortCall) (m : ℕ) (w : World) (p : List ℕ) → root_leaves m p ≡ true
    → SameAt w.roots (changed (called c) w.roots (m ∷ [])) p
root_same c m w p h =
    let same : _ = root_there c m w.roots p h in
    record {
      port = same.1;
      on = same.0;
      what = root_spec c m w.roots p;
    }

rests_steps : (p : List ℕ)
    → OverSteps (LeavesPortAlone p) (LiveOrPends (λ w v. SameAt w.roots v.roots p) p)
unfolding after_event leaves_step
rests_steps p = over_live (record {
  same = λ w. same_self w.roots p;
  joined = λ w m v. same_then w.roots m.roots v.roots p;
  came = λ e es w l. happened_same e.action w.devices w.roots p;
  made = λ a w k. made_same a (at_attempt w) p k.leaves;
  root = λ c n w k. root_same c n w p k.leaves;
  refused = λ w. same_self w.roots p;
  spares = λ s w k. k.spares;
})

-- Over a course that asks nothing of a port and its way: it stands as it stood, or a change is
-- pending
pub rests_or_pends : (p : List ℕ) {w v : World} → Course (LeavesPortAlone p) w v
    → has_power w.roots p ≡ true → UnchangedOrPending w v p
rests_or_pends p c = (over_course (rests_steps p) c).powered

-- The same of steps that may ask something of the port itself, but leave pending what is pending
-- there: the same device stands there, or none
pub stands_or_pends : (p : List ℕ) {w v : World} → Course (KeepsPendingAt p) w v
    → has_power w.roots p ≡ true → SameDeviceOrPending w v p
stands_or_pends p {w} {v} c h = grind (arith, course_wider, undisturbed_keeps, untouched_or_pending)
