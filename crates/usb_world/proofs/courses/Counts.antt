-- How the counts of several steps join.
use Rattle.std.proofs.Common.{◌≡◌, ◌∙◌, refl, sym, ap, subst, arith, suc, zero, length-set, ℕ, ◌+◌}
use Rattle.std.proofs.Common.{◌-◌, ◌<◌, ◌≤◌, List, [], ◌∷◌, length, Bool, true, slice_set}
use Rattle.std.proofs.Common.{slice_index_or, is_some, Option, Some, None}
use Rattle.usb_port.specs.{PortState, off, PortCall, called_port, port_by, set_call, clear_call}
use Rattle.usb_port.specs.{IsSetFeature, IsClearFeature}
use Rattle.usb_request.specs.{PORT_RESET, C_PORT_CONNECTION}
use Rattle.usb_device.specs.{State, Ports, ended, vacant, taken, new_ports, first_ports, all_off}
use Rattle.usb_device.specs.{acted, empty, full, before, reset_where, called, changed, changed_at}
use Rattle.usb_device.specs.{row_of, Spec, Hub, Effect, Place}
use Rattle.usb_world.proofs.courses.LiftedSteps.{happened_by}
use Rattle.usb_world.proofs.Booleans.{false_true}
use Rattle.usb_world.specs.{World, roots_of, root_row, to_come, change_of, AttemptsWithin}
use Rattle.usb_world.specs.{IsRootPort, changes, root_port_at, hub_ports, Action, after_change}
use Rattle.usb_world.specs.{SetsRoot, ClearsRoot, root_call, after}

pub spends_none : (w : World) → AttemptsWithin 0 w w
spends_none w = grind arith

pub spends_then : (m n : ℕ) (a b c : World) → AttemptsWithin m a b → AttemptsWithin n b c
    → AttemptsWithin (m + n) a c
spends_then m n a b c p q = grind arith

pub spends_wider : (m n : ℕ) (a b : World) → AttemptsWithin m a b → m ≤ n → AttemptsWithin n a b
spends_wider m n a b p le = grind arith

-- the number of change bits, where one port is written
pub changes-set : (ps : List PortState) (i : ℕ) (p : PortState) → i < length ps
    → changes (slice_set ps i p) + change_of (slice_index_or ps i off) ≡ changes ps + change_of p
unfolding changes
changes-set [] i p lt = absurd (omega (arith, lt))
changes-set (q ∷ ps) zero p lt = omega arith
changes-set (q ∷ ps) (suc i) p lt = omega (arith, changes-set ps i p (omega (arith, lt)))

-- a call at a port of a row is a row of the port table there
row_reset : (x : Bool) (b : PortState) (s : State) (a k : Ports)
    → row_of (before (reset_where x b s a) k) ≡ b ∷ row_of k
unfolding row_of
row_reset x b s a k = grind arith

row_called : (c : PortCall) (k : Ports) (i : ℕ) → row_of (changed_at (called c) k i [])
    ≡ slice_set (row_of k) i (called_port c (slice_index_or (row_of k) i off))
unfolding row_of changed_at
row_called c (vacant b k) (suc i) = ap (λ r. b ∷ r) (row_called c k i)
row_called c (taken b s a k) zero = row_reset _ (called_port c b) s a k
row_called c (taken b s a k) (suc i) = ap (λ r. b ∷ r) (row_called c k i)
row_called c k i = refl

-- what a root call leaves as it was
pub record RootCalled (port : ℕ) (p : PortState) (old new : World) : Type 0 where
  pub row : root_row new ≡ slice_set (root_row old) (port - 1) p
  pub attempts : new.attempts ≡ old.attempts
  pub limit : new.limit ≡ old.limit
  pub taken : new.taken ≡ old.taken
  pub left : new.left ≡ old.left
  pub fault : new.fault ≡ old.fault

before_next : (i : ℕ) → i ≡ suc i - 1
before_next i = omega arith

called_root : (port : ℕ) (c : PortCall) (w : World) → IsRootPort w port
    → RootCalled port (called_port c (root_port_at w port)) w (after (root_call c port) w)
unfolding after root_port_at
called_root port c w is = grind (arith, before_next, row_called)

-- a call at a root port, and its row of the port table
pub root_called : (port : ℕ) (call : Option PortCall) (old new : World) → IsRootPort old port
    → is_some call ≡ true → ((c : PortCall) → call ≡ Some c → new ≡ after (root_call c port) old)
    → RootCalled port (port_by call (root_port_at old port)) old new
root_called port None old new is named step = false_true named
root_called port (Some c) old new is named step =
    subst (λ w. RootCalled port (called_port c (root_port_at old port)) old w) (sym (step c refl))
    (called_root port c old is)

-- a step is a root call of its feature
set_step : (port feature : ℕ) (old new : World) → IsRootPort old port → IsSetFeature feature
    → ((c : PortCall) → set_call feature ≡ Some c → new ≡ after (root_call c port) old)
    → SetsRoot port feature old new
set_step port feature old new is named step = grind (arith, root_called)

clear_step : (port feature : ℕ) (old new : World) → IsRootPort old port → IsClearFeature feature
    → ((c : PortCall) → clear_call feature ≡ Some c → new ≡ after (root_call c port) old)
    → ClearsRoot port feature old new
clear_step port feature old new is named step = grind (arith, root_called)

-- whatever is written somewhere, a row has as many ports
row_head : (q : Place) (k : Ports) → length (row_of (before q k)) ≡ suc (length (row_of k))
unfolding row_of
row_head q k = grind arith

pub row_long_at : (f : Place → Place) (k : Ports) (i : ℕ) (p : List ℕ)
    → length (row_of (changed_at f k i p)) ≡ length (row_of k)
unfolding row_of changed_at
row_long_at f (vacant b k) zero [] = row_head (f (empty b)) k
row_long_at f (vacant b k) (suc i) p = ap (λ n. suc n) (row_long_at f k i p)
row_long_at f (taken b s a k) zero [] = row_head (f (full b s a)) k
row_long_at f (taken b s a k) zero (zero ∷ p) = refl
row_long_at f (taken b s a k) (suc i) p = ap (λ n. suc n) (row_long_at f k i p)
row_long_at f k i p = refl

pub row_long : (f : Place → Place) (k : Ports) (p : List ℕ) → length (row_of (changed f k p))
    ≡ length (row_of k)
row_long f k p = grind (arith, row_long_at)

pub new_long : (n : ℕ) → length (row_of (new_ports n)) ≡ n
unfolding row_of new_ports
new_long zero = refl
new_long (suc n) = ap (λ m. suc m) (new_long n)

-- a device that was just plugged has as many ports as its description says
pub first_long : (o : Option Hub) → length (row_of (first_ports o)) ≡ hub_ports o
unfolding row_of
first_long o = grind (arith, new_long)

-- neither power nor a request takes a port away
pub off_long : (k : Ports) → length (row_of (all_off k)) ≡ length (row_of k)
unfolding row_of all_off
off_long ended = refl
off_long (vacant b k) = ap (λ n. suc n) (off_long k)
off_long (taken b s a k) = ap (λ n. suc n) (off_long k)

pub acted_long : (e : Effect) (k : Ports) → length (row_of (acted e k)) ≡ length (row_of k)
acted_long e k = grind (arith, off_long, row_long_at)

pub happened_long : (a : Action) (ds : List Spec) (k : Ports)
    → length (row_of (after_change a ds k)) ≡ length (row_of k)
happened_long a ds k = grind (arith, happened_by, row_long)

-- what is written at one place sets at most one change bit of a row
pub change_most : (p : PortState) → change_of p ≤ 1
unfolding change_of
change_most p = grind arith

head_changes : (q : Place) (p : PortState) (k : Ports) → changes (row_of (before q k))
    ≤ change_of p + changes (row_of k) + 1
unfolding row_of changes
head_changes q p k = grind (arith, change_most)

changes_at : (f : Place → Place) (k : Ports) (i : ℕ) (p : List ℕ)
    → changes (row_of (changed_at f k i p)) ≤ changes (row_of k) + 1
unfolding row_of changed_at changes
changes_at f ended i p = omega arith
changes_at f (vacant b k) zero p = grind (arith, head_changes)
changes_at f (vacant b k) (suc i) p = omega (arith, changes_at f k i p)
changes_at f (taken b s a k) zero p = grind (arith, head_changes)
changes_at f (taken b s a k) (suc i) p = omega (arith, changes_at f k i p)

changes_path : (f : Place → Place) (k : Ports) (p : List ℕ) → changes (row_of (changed f k p))
    ≤ changes (row_of k) + 1
changes_path f k p = grind (arith, changes_at)

happened_changes : (a : Action) (ds : List Spec) (k : Ports)
    → changes (row_of (after_change a ds k)) ≤ changes (row_of k) + 1
happened_changes a ds k = grind (arith, changes_path, happened_by)

-- an event that came
event_spends : (old new : World) → changes (root_row new) ≤ changes (root_row old) + 1
    → roots_of new ≡ roots_of old → new.taken ≡ old.taken + 1
    → to_come new + 1 ≡ to_come old → new.attempts ≡ old.attempts → new.limit ≡ old.limit
    → AttemptsWithin 0 old new
event_spends old new grown number came left attempts limit = grind arith

pub came_spends : (old new : World) (a : Action) (ds : List Spec)
    → new.roots ≡ after_change a ds old.roots → new.taken ≡ old.taken + 1
    → to_come new + 1 ≡ to_come old → new.attempts ≡ old.attempts → new.limit ≡ old.limit
    → AttemptsWithin 0 old new
came_spends old new a ds e came left attempts limit =
    grind (arith, event_spends, happened_changes, happened_long)

pub set_call_root : (port feature : ℕ) (old new : World) (c : PortCall) → IsRootPort old port
    → IsSetFeature feature → Some c ≡ set_call feature → new ≡ after (root_call c port) old
    → SetsRoot port feature old new
set_call_root port feature old new c is named found e = grind (arith, set_step)

pub set_none : {A : Type 0} (feature : ℕ) → IsSetFeature feature → None ≡ set_call feature → A
set_none feature named e = false_true (ap is_some e ∙ named)

pub clear_ends : (port feature : ℕ) (old new : World) (c : PortCall) → IsRootPort old port
    → IsClearFeature feature → Some c ≡ clear_call feature → new ≡ after (root_call c port) old
    → ClearsRoot port feature old new
clear_ends port feature old new c is named found e = grind (arith, clear_step)

pub clear_none : {A : Type 0} (feature : ℕ) → IsClearFeature feature → None ≡ clear_call feature → A
clear_none feature named e = false_true (ap is_some e ∙ named)

-- a root call that leaves C_PORT_CONNECTION as it was, or clears it, makes no attempt and no event
writes_spend : (port : ℕ) (p : PortState) (old new : World) → IsRootPort old port
    → change_of p ≤ change_of (root_port_at old port) → RootCalled port p old new
    → AttemptsWithin 0 old new
unfolding root_port_at
writes_spend port p old new is le c = record {
  limit = c.limit;
  roots = ap length c.row ∙ length-set (root_row old) (port - 1) p;
  later = omega (arith, c.attempts);
  most = omega (arith, c.attempts);
  within = λ h. omega (arith, c.attempts, c.limit, h);
  events = ap (λ l. new.taken + length l) c.left ∙ ap (λ n. n + to_come old) c.taken;
  onward = omega (arith, c.taken);
  served = subst (λ n. n ≤ changes (root_row old) + to_come old)
      (sym (ap (λ r. changes r + to_come new) c.row
      ∙ ap (λ l. changes (slice_set (root_row old) (port - 1) p) + length l) c.left))
      (omega (arith, le, changes-set (root_row old) (port - 1) p (omega (arith, is.0, is.1))));
}

change_of-reset : (p : PortState) → change_of (port_by (set_call PORT_RESET) p) ≤ change_of p
unfolding change_of
change_of-reset p = grind arith

-- a row of the port table leaves the bit as it was or clears it
Leaves : PortState → Option PortCall → Type 0
Leaves p call = change_of (port_by call p) ≤ change_of p

change_of-clear : (feature : ℕ) (p : PortState) → Leaves p (clear_call feature)
unfolding Leaves change_of
change_of-clear feature p = grind arith

-- setting PORT_RESET of a root port
pub resets_spend : (port : ℕ) (old new : World) → IsRootPort old port
    → SetsRoot port PORT_RESET old new → AttemptsWithin 0 old new
resets_spend port old new is s = writes_spend port _ old new is
    (change_of-reset _) (root_called port _ old new is
    refl s.step)

-- clearing a feature of a root port
pub clears_spend : (port feature : ℕ) (old new : World) → IsRootPort old port
    → IsClearFeature feature → ClearsRoot port feature old new → AttemptsWithin 0 old new
unfolding Leaves
clears_spend port feature old new is named c =
    writes_spend port _ old new is (change_of-clear feature _)
    (root_called port _ old new is named c.step)

one_change : (p : PortState) → p.connection_changed ≡ true
    → change_of p ≡ change_of (port_by (clear_call C_PORT_CONNECTION) p) + 1
unfolding change_of
one_change p set = rw set refl

-- clearing a set C_PORT_CONNECTION
pub clears_change : (port : ℕ) (old new : World) → IsRootPort old port
    → (root_port_at old port).connection_changed ≡ true → ClearsRoot port C_PORT_CONNECTION old new
    → changes (root_row new) + to_come new + 1 ≡ changes (root_row old) + to_come old
unfolding root_port_at
clears_change port old new is set c =
    let p = port_by (clear_call C_PORT_CONNECTION) (root_port_at old port) in
    let called = root_called port _ old new is refl c.step in
    let one = one_change (root_port_at old port) set in
    let all = changes-set (root_row old) (port - 1) p (omega (arith, is.0, is.1)) in
    ap (λ r. changes r + to_come new + 1) called.row
    ∙ ap (λ l. changes (slice_set (root_row old) (port - 1) p) + length l + 1) called.left
    ∙ omega (arith, one, all)
