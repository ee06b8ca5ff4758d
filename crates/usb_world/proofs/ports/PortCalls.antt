-- What a change at a place, and a call at a port, do to the ways to paths.
use Rattle.std.proofs.Common.{◌∙◌, arith, ◌≡◌, ℕ, zero, suc, ◌&&◌, false, List, [], ◌∷◌, not, true}
use Rattle.std.proofs.Common.{refl, ap, Some, option_map, Bool}
use Rattle.usb_port.specs.{PortState, PortCall, is_attached, powered_off, called_port, is_reset}
use Rattle.usb_device.specs.{State, Ports, ended, vacant, taken, empty, full, before, changed_at}
use Rattle.usb_device.specs.{called, reach_at, state_at, port_at, changed, reach, port_there}
use Rattle.usb_device.specs.{state_there, place_at, Place, reset_state, all_off}
use Rattle.usb_world.specs.{root_leaves, way_of, has_power_at, pending_at, is_way, on_way}
use Rattle.usb_world.specs.{same_number, IsNew, call_resets, reset_if, keeps_pending}
use Rattle.usb_world.specs.{call_keeps_pending}
use Rattle.usb_world.proofs.Booleans.{not-true, and_false, and_wider, or_wider}

-- A change at a place: the place then, and that a way that does not lead there stays. One walk
-- answers all that is asked.

-- the ports on the way to a path are what they were: it is reached, live and pending as it was, and
-- its port is the same
abbrev pub SamePorts : Ports → Ports → ℕ → List ℕ → Type 0
SamePorts k m j p =
    (reach_at m j p ≡ reach_at k j p) × (has_power_at m j p ≡ has_power_at k j p)
    × (pending_at m j p ≡ pending_at k j p) × (port_at m j p ≡ port_at k j p)

-- and the device at its end
abbrev pub SameWay : Ports → Ports → ℕ → List ℕ → Type 0
SameWay k m j p = SamePorts k m j p × (state_at m j p ≡ state_at k j p)

pub same_ports : (k : Ports) (j : ℕ) (p : List ℕ) → SamePorts k k j p
same_ports k j p = (refl, refl, refl, refl)

pub ports_then : (k m n : Ports) (j : ℕ) (p : List ℕ) → SamePorts k m j p → SamePorts m n j p
    → SamePorts k n j p
ports_then k m n j p x y = (y.0 ∙ x.0, y.1 ∙ x.1, y.2 ∙ x.2, y.3 ∙ x.3)

same_way-refl : (k : Ports) (j : ℕ) (p : List ℕ) → SameWay k k j p
same_way-refl k j p = (same_ports k j p, refl)

-- further on in the row
same_way-other_port : (x y : Place) (k : Ports) (j : ℕ) (p : List ℕ)
    → SameWay (before x k) (before y k) (suc j) p
unfolding reach_at has_power_at pending_at port_at state_at
same_way-other_port x y k j p = grind arith

-- what stands before a change in its row
pub same_way-behind : (x : Place) (k m : Ports) (p : List ℕ)
    → SameWay (before x k) (before x m) zero p
unfolding reach_at has_power_at pending_at port_at state_at
same_way-behind x k m p = grind arith

-- past a device
pub passed_ports : (b : PortState) (s t : State) (a c k m : Ports) (j : ℕ) (p : List ℕ)
    → SamePorts a c j p → SamePorts (taken b s a k) (taken b t c m) zero (suc j ∷ p)
unfolding reach_at has_power_at pending_at port_at
passed_ports b s t a c k m j p x = grind arith

pub changed_apart : (f : Place → Place) (k : Ports) (i : ℕ) (e : List ℕ) (j : ℕ) (p : List ℕ)
    → on_way i e j p ≡ false → SameWay k (changed_at f k i e) j p
unfolding changed_at reach_at has_power_at pending_at port_at state_at is_way
changed_apart f ended i e j p h = same_way-refl ended j p
changed_apart f (vacant b k) zero e j p h = grind (arith, same_way-other_port, same_way-refl)
changed_apart f (vacant b k) (suc i) e zero p h = same_way-behind (empty b) k (changed_at f k i e) p
changed_apart f (vacant b k) (suc i) e (suc j) p h = changed_apart f k i e j p h
changed_apart f (taken b s a k) zero (suc i ∷ e) zero (suc j ∷ p) h =
    grind (arith, changed_apart f a i e j p h, passed_ports)
changed_apart f (taken b s a k) zero e j p h = grind (arith, same_way-other_port, same_way-refl)
changed_apart f (taken b s a k) (suc i) e zero p h =
    same_way-behind (full b s a) k (changed_at f k i e) p
changed_apart f (taken b s a k) (suc i) e (suc j) p h = changed_apart f k i e j p h

-- the place itself

place_at-first : (q : Place) (k : Ports) → place_at (before q k) 0 [] ≡ Some q
unfolding place_at
place_at-first q k = grind arith

pub place_at-changed : (f : Place → Place) (k : Ports) (j : ℕ) (p : List ℕ)
    → place_at (changed_at f k j p) j p ≡ option_map f (place_at k j p)
unfolding place_at changed_at
place_at-changed f (vacant b k) zero [] = place_at-first (f (empty b)) k
place_at-changed f (vacant b k) (suc j) p = place_at-changed f k j p
place_at-changed f (taken b s a k) zero [] = place_at-first (f (full b s a)) k
place_at-changed f (taken b s a k) zero (suc j ∷ p) = place_at-changed f a j p
place_at-changed f (taken b s a k) (suc j) p = place_at-changed f k j p
place_at-changed f k j p = refl

-- what stands there is all that the change hangs on
pub changed_at-there : (f g : Place → Place) (k : Ports) (j : ℕ) (p : List ℕ) (x : Place)
    → place_at k j p ≡ Some x → f x ≡ g x → changed_at f k j p ≡ changed_at g k j p
unfolding place_at changed_at
changed_at-there f g (vacant b k) zero [] x at e = cc
changed_at-there f g (vacant b k) (suc j) p x at e =
    ap (vacant b) (changed_at-there f g k j p x at e)
changed_at-there f g (taken b s a k) zero [] x at e = cc
changed_at-there f g (taken b s a k) zero (suc j ∷ p) x at e =
    ap (λ y. taken b s y k) (changed_at-there f g a j p x at e)
changed_at-there f g (taken b s a k) (suc j) p x at e =
    ap (taken b s a) (changed_at-there f g k j p x at e)
changed_at-there f g k j p x at e = refl

pub called_apart : (c : PortCall) (k : Ports) (i j : ℕ) (p : List ℕ)
    → not (same_number i j) ≡ true → SameWay k (changed_at (called c) k i []) j p
unfolding is_way
called_apart c k i j p h = changed_apart (called c) k i [] j p
    (ap (λ x. x && true) (not-true (same_number i j) h))

-- The same of whole paths

abbrev pub SameThere : Ports → Ports → List ℕ → Type 0
SameThere k m p =
    (reach m p ≡ reach k p) × (port_there m p ≡ port_there k p)
    × (state_there m p ≡ state_there k p)

pub changed_there : (f : Place → Place) (k : Ports) (x p : List ℕ)
    → way_of x p ≡ false → SameThere k (changed f k x) p
unfolding is_way
changed_there f k (suc i ∷ x) (suc j ∷ p) w =
    let y : _ = changed_apart f k i x j p w in
    (y.0.0, y.0.3, y.1)
changed_there f k x _ w = (refl, refl, refl)

pub root_there : (c : PortCall) (m : ℕ) (k : Ports) (p : List ℕ)
    → root_leaves m p ≡ true → SameThere k (changed (called c) k (m ∷ [])) p
root_there c (suc i) k (suc j ∷ p) h =
    let y : _ = called_apart c k i j p h in
    (y.0.0, y.0.3, y.1)
root_there c m k _ h = (refl, refl, refl)

-- What a call at a port does to reachable, live and pending, and to the devices and ports.

all_off_twice : (k : Ports) → all_off (all_off k) ≡ all_off k
unfolding all_off
all_off_twice ended = refl
all_off_twice (vacant b k) = ap (vacant (powered_off b)) (all_off_twice k)
all_off_twice (taken b s a k) = ap (taken (powered_off b) s a) (all_off_twice k)

-- where each port of a row is off, none is reached, and the devices are as they were
pub off_way : (k : Ports) (j : ℕ) (p : List ℕ)
    → (reach_at (all_off k) j p ≡ false) × (state_at (all_off k) j p ≡ state_at k j p)
    × (IsNew (place_at k j p) → IsNew (place_at (all_off k) j p))
unfolding reach_at state_at place_at all_off
off_way (vacant b k) zero [] = (refl, refl, λ h. h)
off_way (vacant b k) (suc j) p = off_way k j p
off_way (taken b s a k) zero (zero ∷ p) = (refl, refl, λ h. h)
off_way (taken b s a k) (suc j) p = off_way k j p
off_way k j p = (refl, refl, λ h. h)

-- a port that is powered and sees what is attached
abbrev sees : PortState → Bool
sees b = b.power && is_attached b.attached

called_port-enable : (c : PortCall) (b : PortState) → (is_reset c && sees b) ≡ false
    → (called_port c b).enable ≡ true → b.enable ≡ true
called_port-enable c b = grind arith

and-false_inside : (x y : Bool) → (x && (y && false)) ≡ false
and-false_inside x y = grind arith

-- The device at a path is reset, or not: then its state is what it was, and where it is reached it
-- was so before. One that is reset is new, and so is one that was new.
abbrev pub ResetIf : Bool → Ports → Ports → ℕ → List ℕ → Type 0
ResetIf r k m j p =
    (state_at m j p ≡ option_map (reset_if r) (state_at k j p))
    × (r ≡ false → reach_at m j p ≡ true → reach_at k j p ≡ true)
    × (r ≡ true → IsNew (place_at m j p)) × (IsNew (place_at k j p) → IsNew (place_at m j p))

pub same_reset : (r : Bool) (k : Ports) (j : ℕ) (p : List ℕ) → r ≡ false → ResetIf r k k j p
same_reset r k j p e = grind arith

pub call_way : (c : PortCall) (k : Ports) (i j : ℕ) (p : List ℕ)
    → ResetIf (call_resets c k i j p) k (changed_at (called c) k i []) j p
unfolding changed_at reach_at state_at place_at reset_state
call_way c ended i j p = grind (arith, and-false_inside, same_reset)
call_way c (vacant b k) zero j p = grind (arith, and_false, same_reset)
call_way c (vacant b k) (suc i) zero p = grind (arith, and_false, same_reset)
call_way c (vacant b k) (suc i) (suc j) [] = call_way c k i j []
call_way c (vacant b k) (suc i) (suc j) (n ∷ p) = call_way c k i j (n ∷ p)
call_way c (taken b s a k) zero zero [] = grind (arith, all_off_twice, called_port-enable)
call_way c (taken b s a k) zero zero (zero ∷ p) = grind (arith, same_reset)
call_way c (taken b s a k) zero zero (suc n ∷ p) =
    grind (arith, called_port-enable, off_way a n p)
call_way c (taken b s a k) (suc i) zero p = grind (arith, and_false, same_reset)
call_way c (taken b s a k) (suc i) (suc j) [] = call_way c k i j []
call_way c (taken b s a k) (suc i) (suc j) (n ∷ p) = call_way c k i j (n ∷ p)
call_way c (taken b s a k) zero (suc j) _ = grind (arith, same_reset)

-- a device that a call resets is new
pub call_new : (c : PortCall) (k : Ports) (i j : ℕ) (p : List ℕ)
    → call_resets c k i j p ≡ true → IsNew (place_at (changed_at (called c) k i []) j p)
call_new c k i j p h = (call_way c k i j p).2 h

-- who is reachable after a call that does not reset it was so before
pub call_reach : (c : PortCall) (k : Ports) (i j : ℕ) (p : List ℕ)
    → call_resets c k i j p ≡ false → reach_at (changed_at (called c) k i []) j p ≡ true
    → reach_at k j p ≡ true
call_reach c k i j p f h = (call_way c k i j p).1 f h

-- a call resets the device that it resets, and leaves every other device's own state
pub call_state : (c : PortCall) (k : Ports) (i j : ℕ) (p : List ℕ)
    → state_at (changed_at (called c) k i []) j p
    ≡ option_map (reset_if (call_resets c k i j p)) (state_at k j p)
call_state c k i j p = (call_way c k i j p).0

called_power : (c : PortCall) (b : PortState) (p : List ℕ) → keeps_pending c p ≡ true
    → b.power ≡ true → (called_port c b).power ≡ true
called_power c b p h g = grind arith

called_change : (c : PortCall) (b : PortState) (p : List ℕ) → keeps_pending c p ≡ true
    → b.connection_changed ≡ true → (called_port c b).connection_changed ≡ true
called_change c b p h g = grind arith

called_pend : (c : PortCall) (b : PortState) (p : List ℕ) → keeps_pending c p ≡ true
    → (b.power && b.connection_changed) ≡ true
    → ((called_port c b).power && (called_port c b).connection_changed) ≡ true
called_pend c b p h g = grind arith

spares-no_reset : (c : PortCall) (n : ℕ) (p : List ℕ) (x : Bool) → keeps_pending c (n ∷ p) ≡ true
    → (is_reset c && x) ≡ false
spares-no_reset c n p x h = grind arith

-- what is live stays so, and what is pending
abbrev pub KeepsPending : Ports → Ports → ℕ → List ℕ → Type 0
KeepsPending k m j p =
    (has_power_at k j p ≡ true → has_power_at m j p ≡ true)
    × (pending_at k j p ≡ true → pending_at m j p ≡ true)

pub pending_kept : (k m : Ports) (j : ℕ) (p : List ℕ) → SamePorts k m j p → KeepsPending k m j p
pending_kept k m j p x = (λ g. x.1 ∙ g, λ g. x.2 ∙ g)

-- so at a call that spares what is pending
pub call_kept : (c : PortCall) (k : Ports) (i j : ℕ) (p : List ℕ)
    → call_keeps_pending c i j p ≡ true → KeepsPending k (changed_at (called c) k i []) j p
unfolding changed_at has_power_at pending_at
call_kept c (vacant b k) zero zero [] h =
    grind (arith, called_pend, called_power)
call_kept c (vacant b k) zero zero (n ∷ p) h = (λ g. g, called_pend c b (n ∷ p) h)
call_kept c (vacant b k) (suc i) zero p h = grind (arith, pending_kept, same_way-behind)
call_kept c (vacant b k) (suc i) (suc j) p h = call_kept c k i j p h
call_kept c (taken b s a k) zero zero p h =
    grind (arith, and_wider, called_change, called_pend, called_power, or_wider, spares-no_reset)
call_kept c (taken b s a k) zero (suc j) p h = grind (arith, pending_kept, same_way-other_port)
call_kept c (taken b s a k) (suc i) zero p h = grind (arith, pending_kept, same_way-behind)
call_kept c (taken b s a k) (suc i) (suc j) p h = call_kept c k i j p h
call_kept c k i j p h = (λ g. g, λ g. g)
