-- What marks count for, by what stands at the port that is marked.
use Rattle.std.proofs.Common.{◌≡◌, ◌≤◌, ℕ, zero, suc, ◌+◌, ◌&&◌, ◌||◌, Bool, true, false, List, []}
use Rattle.std.proofs.Common.{◌∷◌, ◌++◌, Option, None, Some, is_some, refl, ap, sym, subst, ◌∙◌}
use Rattle.std.proofs.Common.{arith}
use Rattle.std.proofs.lemmas.Option.{same_Some}
use Rattle.usb_port.specs.{PortState, is_attached, bit}
use Rattle.usb_device.specs.{State, Ports, ended, vacant, taken, empty, full, new_ports, place_at}
use Rattle.usb_device.specs.{port_of, Place}
use Rattle.usb_world.specs.{same_number, same_path}
use Rattle.usb_world.proofs.Interface.{same_is, both, false_true, self_number, self_path}
use Rattle.usb_hub.specs.{charged, devices_in, Few, PortMark, after_first, below_first, devices_by}
use Rattle.usb_hub.specs.{is_child, is_nil, just, looks_by, ports_by, ports_of, shifted, strays_by}
use Rattle.usb_hub.specs.{unmarked}

-- Marks add, and no mark takes away

charged-marked : (x y : Bool) (n : ℕ) → charged y n ≤ charged (x || y) n
charged-marked true true n = omega arith
charged-marked x y n = omega arith

bit-marked : (x y : Bool) → bit y ≤ bit (x || y)
bit-marked true true = omega arith
bit-marked x y = omega arith

pub looks_by-less : (m : PortMark) (k : Ports) → looks_by unmarked k ≤ looks_by m k
unfolding looks_by
looks_by-less m ended = omega arith
looks_by-less m (vacant b k) = looks_by-less (after_first m) k
looks_by-less m (taken b s a k) = omega (
  arith,
  looks_by-less (below_first m) a,
  looks_by-less (after_first m) k,
  charged-marked (m zero []) b.connection_changed (1 + devices_in a),
)

pub strays_by-less : (v r : PortMark) (k : Ports) → strays_by unmarked unmarked k ≤ strays_by v r k
unfolding strays_by
strays_by-less v r ended = omega arith
strays_by-less v r (vacant b k) =
    omega (
      arith,
      strays_by-less (after_first v) (after_first r) k,
      bit-marked (v zero []) (is_attached b.attached || b.connection_changed),
      bit-marked (r zero []) b.reset_changed,
    )
strays_by-less v r (taken b s a k) =
    omega (
      arith,
      strays_by-less (below_first v) (below_first r) a,
      strays_by-less (after_first v) (after_first r) k,
      bit-marked (r zero []) b.reset_changed,
    )

-- The ports of one device

-- each port of a row
abbrev in_row : PortMark
in_row i p = is_nil p

charged-or : (x y : Bool) (n : ℕ) → charged (x || y) n ≤ charged y n + n
charged-or true y n = omega arith
charged-or false y n = omega arith

looks_by-row : (k : Ports) → looks_by in_row k ≤ looks_by unmarked k + devices_in k
unfolding looks_by devices_in
looks_by-row ended = omega arith
looks_by-row (vacant b k) = looks_by-row k
looks_by-row (taken b s a k) = omega (
  arith,
  looks_by-row k,
  charged-or true b.connection_changed (1 + devices_in a),
)

-- where a device stands whose change is cleared, its ports may be marked in place of its own, and
-- one look is paid
pub looks_by-found : (k : Ports) (i : ℕ) (e : List ℕ) (b : PortState) (s : State) (a : Ports)
    → place_at k i e ≡ Some (full b s a) → b.connection_changed ≡ false
    → looks_by (ports_of i e) k + 1 ≤ looks_by (just i e) k
unfolding looks_by place_at
looks_by-found (vacant c k) zero [] b s a at h = absurd (cc at)
looks_by-found (vacant c k) (suc i) e b s a at h = looks_by-found k i e b s a at h
looks_by-found (taken c t d k) zero [] b s a at h =
    let off : charged c.connection_changed (1 + devices_in d) ≡ 0 =
    ap (λ x. charged x (1 + devices_in d)) (ap (λ q. (port_of q).connection_changed)
    (same_Some (full c t d) (full b s a) at) ∙ h) in
    omega (arith, off, looks_by-row d)
looks_by-found (taken c t d k) zero (suc j ∷ e) b s a at h =
    omega (arith, looks_by-found d j e b s a at h)
looks_by-found (taken c t d k) (suc i) e b s a at h = omega (arith, looks_by-found k i e b s a at h)
looks_by-found k i e b s a at h = false_true (ap is_some at)

-- they count for a look at each device at most
pub looks_by-ports : (k : Ports) (i : ℕ) (e : List ℕ)
    → looks_by (ports_of i e) k ≤ looks_by unmarked k + devices_in k
unfolding looks_by devices_in
looks_by-ports (vacant c k) (suc i) e = looks_by-ports k i e
looks_by-ports (taken c t d k) zero [] = omega (arith, looks_by-row d)
looks_by-ports (taken c t d k) zero (suc j ∷ e) = omega (arith, looks_by-ports d j e)
looks_by-ports (taken c t d k) (suc i) e = omega (arith, looks_by-ports k i e)
looks_by-ports k i e = omega arith

-- where no device stands, they come to nothing
pub looks_by-nowhere : (k : Ports) (i : ℕ) (e : List ℕ) → devices_by (just i e) k ≡ 0
    → looks_by (ports_of i e) k ≡ looks_by unmarked k
unfolding looks_by devices_by
looks_by-nowhere (vacant c k) (suc i) e h = looks_by-nowhere k i e h
looks_by-nowhere (taken c t d k) zero [] h = absurd (omega (arith, h))
looks_by-nowhere (taken c t d k) zero (suc j ∷ e) h =
    omega (arith, looks_by-nowhere d j e (omega (arith, h)))
looks_by-nowhere (taken c t d k) (suc i) e h =
    omega (arith, looks_by-nowhere k i e (omega (arith, h)))
looks_by-nowhere k i e h = refl

-- One port

-- a change of connection that is set is counted, marked or not
pub looks_by-set : (k : Ports) (i : ℕ) (e : List ℕ) (q : Place) → place_at k i e ≡ Some q
    → (port_of q).connection_changed ≡ true → looks_by (just i e) k ≡ looks_by unmarked k
unfolding looks_by place_at
looks_by-set (vacant c k) zero e q at h = refl
looks_by-set (vacant c k) (suc i) e q at h = looks_by-set k i e q at h
looks_by-set (taken c t d k) zero [] q at h =
    ap (λ x. charged x (1 + devices_in d) + looks_by unmarked d + looks_by unmarked k)
    (sym (ap (λ x. (port_of x).connection_changed) (same_Some (full c t d) q at) ∙ h))
looks_by-set (taken c t d k) zero (suc j ∷ e) q at h = omega (arith, looks_by-set d j e q at h)
looks_by-set (taken c t d k) (suc i) e q at h = omega (arith, looks_by-set k i e q at h)
looks_by-set k i e q at h = false_true (ap is_some at)

bit-or_true : (x y : Bool) → y ≡ true → bit (x || y) ≡ 1
bit-or_true true y h = refl
bit-or_true false y h = ap bit h

pub strays_by-set : (k : Ports) (i : ℕ) (e : List ℕ) (q : Place) → place_at k i e ≡ Some q
    → (port_of q).connection_changed ≡ true → strays_by (just i e) unmarked k
    ≡ strays_by unmarked unmarked k
unfolding strays_by place_at
strays_by-set (vacant c k) zero [] q at h =
    omega (
      arith,
      bit-or_true (is_attached c.attached) c.connection_changed
          (ap (λ x. (port_of x).connection_changed) (same_Some (empty c) q at) ∙ h),
    )
strays_by-set (vacant c k) (suc i) e q at h = omega (arith, strays_by-set k i e q at h)
strays_by-set (taken c t d k) zero [] q at h = refl
strays_by-set (taken c t d k) zero (suc j ∷ e) q at h = omega (arith, strays_by-set d j e q at h)
strays_by-set (taken c t d k) (suc i) e q at h = omega (arith, strays_by-set k i e q at h)
strays_by-set k i e q at h = false_true (ap is_some at)

-- the change of an empty port that is cleared, and sees nothing, is paid
pub strays_by-cleared : (k : Ports) (i : ℕ) (e : List ℕ) (b : PortState)
    → place_at k i e ≡ Some (empty b) → is_attached b.attached ≡ false
    → b.connection_changed ≡ false
    → strays_by unmarked unmarked k + 1 ≡ strays_by (just i e) unmarked k
unfolding strays_by place_at
strays_by-cleared (vacant c k) zero [] b at f h =
    let same : c ≡ b = ap port_of (same_Some (empty c) (empty b) at) in
    let none : bit (is_attached c.attached || c.connection_changed) ≡ 0 = rw (same, f, h) refl in
    omega (arith, none)
strays_by-cleared (vacant c k) (suc i) e b at f h = omega (arith, strays_by-cleared k i e b at f h)
strays_by-cleared (taken c t d k) zero [] b at f h = absurd (cc at)
strays_by-cleared (taken c t d k) zero (suc j ∷ e) b at f h =
    omega (arith, strays_by-cleared d j e b at f h)
strays_by-cleared (taken c t d k) (suc i) e b at f h =
    omega (arith, strays_by-cleared k i e b at f h)
strays_by-cleared k i e b at f h = false_true (ap is_some at)

-- a mark counts for one at most
bit-or_most : (x y : Bool) → bit (x || y) ≤ bit y + 1
bit-or_most true y = omega arith
bit-or_most false y = omega arith

pub strays_by-reset : (k : Ports) (i : ℕ) (e : List ℕ) → strays_by unmarked (just i e) k
    ≤ strays_by unmarked unmarked k + 1
unfolding strays_by
strays_by-reset (vacant c k) zero [] = omega (arith, bit-or_most true c.reset_changed)
strays_by-reset (vacant c k) (suc i) e = omega (arith, strays_by-reset k i e)
strays_by-reset (taken c t d k) zero [] = omega (arith, bit-or_most true c.reset_changed)
strays_by-reset (taken c t d k) zero (suc j ∷ e) = omega (arith, strays_by-reset d j e)
strays_by-reset (taken c t d k) (suc i) e = omega (arith, strays_by-reset k i e)
strays_by-reset k i e = omega arith

strays_by-marked : (k : Ports) (i : ℕ) (e : List ℕ) (q : Place) → place_at k i e ≡ Some q
    → strays_by unmarked (just i e) k + bit (port_of q).reset_changed
    ≡ strays_by unmarked unmarked k + 1
unfolding strays_by place_at
strays_by-marked (vacant c k) zero [] q at =
    let same : bit c.reset_changed ≡ bit (port_of q).reset_changed =
    ap (λ x. bit (port_of x).reset_changed) (same_Some (empty c) q at) in
    omega (arith, same)
strays_by-marked (vacant c k) (suc i) e q at = omega (arith, strays_by-marked k i e q at)
strays_by-marked (taken c t d k) zero [] q at =
    let same : bit c.reset_changed ≡ bit (port_of q).reset_changed =
    ap (λ x. bit (port_of x).reset_changed) (same_Some (full c t d) q at) in
    omega (arith, same)
strays_by-marked (taken c t d k) zero (suc j ∷ e) q at = omega (arith, strays_by-marked d j e q at)
strays_by-marked (taken c t d k) (suc i) e q at = omega (arith, strays_by-marked k i e q at)
strays_by-marked k i e q at = false_true (ap is_some at)

pub strays_by-told : (k : Ports) (i : ℕ) (e : List ℕ) (q : Place) → place_at k i e ≡ Some q
    → (port_of q).reset_changed ≡ true → strays_by unmarked (just i e) k
    ≡ strays_by unmarked unmarked k
strays_by-told k i e q at h =
    let set : bit (port_of q).reset_changed ≡ 1 = ap bit h in
    omega (arith, set, strays_by-marked k i e q at)

pub strays_by-tidied : (k : Ports) (i : ℕ) (e : List ℕ) (q : Place) → place_at k i e ≡ Some q
    → (port_of q).reset_changed ≡ false → strays_by unmarked unmarked k + 1
    ≡ strays_by unmarked (just i e) k
strays_by-tidied k i e q at h =
    let set : bit (port_of q).reset_changed ≡ 0 = ap bit h in
    omega (arith, set, strays_by-marked k i e q at)

-- The device at a place

pub devices_by-none : (k : Ports) → devices_by unmarked k ≡ 0
unfolding devices_by
devices_by-none ended = refl
devices_by-none (vacant b k) = devices_by-none k
devices_by-none (taken b s a k) = omega (arith, devices_by-none a, devices_by-none k)

abbrev device_count : Option Place → ℕ
device_count (Some (full b s a)) = 1
device_count o = 0

devices_by-place : (k : Ports) (i : ℕ) (e : List ℕ)
    → devices_by (just i e) k ≡ device_count (place_at k i e)
unfolding devices_by place_at
devices_by-place ended i e = refl
devices_by-place (vacant c k) zero [] = devices_by-none k
devices_by-place (vacant c k) zero (n ∷ e) = devices_by-none k
devices_by-place (vacant c k) (suc i) e = devices_by-place k i e
devices_by-place (taken c t d k) zero (suc j ∷ e) =
    omega (arith, devices_by-place d j e, devices_by-none k)
devices_by-place (taken c t d k) (suc i) e =
    omega (arith, devices_by-place k i e, devices_by-none d)
devices_by-place (taken c t d k) zero e = omega (arith, devices_by-none d, devices_by-none k)

pub devices_by-there : (k : Ports) (i : ℕ) (e : List ℕ) (b : PortState) (s : State) (a : Ports)
    → place_at k i e ≡ Some (full b s a) → devices_by (just i e) k ≡ 1
devices_by-there k i e b s a at = devices_by-place k i e ∙ ap device_count at

pub devices_by-empty : (k : Ports) (i : ℕ) (e : List ℕ) (b : PortState)
    → place_at k i e ≡ Some (empty b) → devices_by (just i e) k ≡ 0
devices_by-empty k i e b at = devices_by-place k i e ∙ ap device_count at

pub devices_by-nowhere : (k : Ports) (i : ℕ) (e : List ℕ) → place_at k i e ≡ None
    → devices_by (just i e) k ≡ 0
devices_by-nowhere k i e at = devices_by-place k i e ∙ ap device_count at

-- The port at a place

pub ports_by-none : (k : Ports) → ports_by unmarked k ≡ 0
unfolding ports_by
ports_by-none ended = refl
ports_by-none (vacant b k) = omega (arith, ports_by-none k)
ports_by-none (taken b s a k) = omega (arith, ports_by-none a, ports_by-none k)

pub ports_by-there : (k : Ports) (i : ℕ) (e : List ℕ) (q : Place) → place_at k i e ≡ Some q
    → ports_by (just i e) k ≡ 1
unfolding ports_by place_at
ports_by-there (vacant c k) zero [] q at = omega (arith, ports_by-none k)
ports_by-there (vacant c k) (suc i) e q at = omega (arith, ports_by-there k i e q at)
ports_by-there (taken c t d k) zero [] q at = omega (arith, ports_by-none d, ports_by-none k)
ports_by-there (taken c t d k) zero (suc j ∷ e) q at =
    omega (arith, ports_by-there d j e q at, ports_by-none k)
ports_by-there (taken c t d k) (suc i) e q at =
    omega (arith, ports_by-there k i e q at, ports_by-none d)
ports_by-there k i e q at = false_true (ap is_some at)

pub ports_by-nowhere : (k : Ports) (i : ℕ) (e : List ℕ) → place_at k i e ≡ None
    → ports_by (just i e) k ≡ 0
unfolding ports_by place_at
ports_by-nowhere ended i e at = refl
ports_by-nowhere (vacant c k) zero (n ∷ e) at = omega (arith, ports_by-none k)
ports_by-nowhere (vacant c k) (suc i) e at = omega (arith, ports_by-nowhere k i e at)
ports_by-nowhere (taken c t d k) zero (zero ∷ e) at =
    omega (arith, ports_by-none d, ports_by-none k)
ports_by-nowhere (taken c t d k) zero (suc j ∷ e) at =
    omega (arith, ports_by-nowhere d j e at, ports_by-none k)
ports_by-nowhere (taken c t d k) (suc i) e at =
    omega (arith, ports_by-nowhere k i e at, ports_by-none d)
ports_by-nowhere k i e at = absurd (cc at)

-- At most one port of a new device is marked

-- no two ports of a row are
MarksOne : (ℕ → Bool) → Type 0
MarksOne f = (i j : ℕ) → f i ≡ true → f j ≡ true → same_number i j ≡ true

rest_none : (f : ℕ → Bool) → MarksOne f → f zero ≡ true → (i : ℕ) → f (suc i) ≡ false
unfolding MarksOne
rest_none f h x i = pick (f (suc i)) refl
  where
    pick : (b : Bool) → f (suc i) ≡ b → f (suc i) ≡ false
    pick true e = false_true (h zero (suc i) x e)
    pick false e = e

bit-off : (x : Bool) → x ≡ false → bit (x || false) ≡ 0
bit-off true h = false_true (sym h)
bit-off false h = refl

new-none : (v r : PortMark) → ((i : ℕ) → v i [] ≡ false) → ((i : ℕ) → r i [] ≡ false) → (n : ℕ)
    → strays_by v r (new_ports n) ≡ 0
unfolding strays_by new_ports
new-none v r x y zero = refl
new-none v r x y (suc n) = omega (
  arith,
  bit-off (v zero []) (x zero),
  bit-off (r zero []) (y zero),
  new-none (after_first v) (after_first r) (λ i. x (suc i)) (λ i. y (suc i)) n,
)

-- the first is, or one after it may be
one_of : (b : Bool) (m : ℕ) → m ≤ 1 → (b ≡ true → m ≡ 0) → bit (b || false) + m ≤ 1
one_of true m h g = let none : m ≡ 0 = g refl in omega (arith, none)
one_of false m h g = omega (arith, h)

new-vacant : (v r : PortMark) → MarksOne (λ i. v i []) → ((i : ℕ) → r i [] ≡ false) → (n : ℕ)
    → strays_by v r (new_ports n) ≤ 1
unfolding strays_by new_ports MarksOne
new-vacant v r x y zero = omega arith
new-vacant v r x y (suc n) =
    omega (
      arith,
      bit-off (r zero []) (y zero),
      one_of (v zero []) (strays_by (after_first v) (after_first r) (new_ports n))
          (new-vacant (after_first v) (after_first r) (λ i j. x (suc i) (suc j)) (λ i. y (suc i)) n)
          (λ e. new-none (after_first v) (after_first r) (rest_none (λ i. v i []) x e)
          (λ i. y (suc i)) n),
    )

new-reset : (v r : PortMark) → ((i : ℕ) → v i [] ≡ false) → MarksOne (λ i. r i []) → (n : ℕ)
    → strays_by v r (new_ports n) ≤ 1
unfolding strays_by new_ports MarksOne
new-reset v r x y zero = omega arith
new-reset v r x y (suc n) =
    omega (
      arith,
      bit-off (v zero []) (x zero),
      one_of (r zero []) (strays_by (after_first v) (after_first r) (new_ports n))
          (new-reset (after_first v) (after_first r) (λ i. x (suc i)) (λ i j. y (suc i) (suc j)) n)
          (λ e. new-none (after_first v) (after_first r) (λ i. x (suc i))
          (rest_none (λ i. r i []) y e) n),
    )

same_path-last : (e p : List ℕ) (i j : ℕ) → same_path e (p ++ (suc i ∷ [])) ≡ true
    → same_path e (p ++ (suc j ∷ [])) ≡ true → same_number i j ≡ true
same_path-last e p i j x y = ends p (same_is e (p ++ (suc i ∷ [])) x
    ∙ sym (same_is e (p ++ (suc j ∷ [])) y))
  where
    head : List ℕ → ℕ
    head [] = zero
    head (n ∷ p) = n

    tail : List ℕ → List ℕ
    tail [] = []
    tail (n ∷ p) = p

    ends : (p : List ℕ) → p ++ (suc i ∷ []) ≡ p ++ (suc j ∷ []) → same_number i j ≡ true
    ends [] h = subst (λ n. same_number (suc i) n ≡ true) (ap head h) (self_number i)
    ends (n ∷ p) h = ends p (ap tail h)

once_just : (j : ℕ) (e : List ℕ) (i : ℕ) (p : List ℕ) → MarksOne (λ n. shifted (just j e) i p n [])
unfolding MarksOne
once_just j e i p m n x y = same_path-last e p m n (both (same_number j i) _ x).1
    (both (same_number j i) _ y).1

pub few-none : Few unmarked unmarked
few-none i p n = let none : strays_by unmarked unmarked (new_ports n) ≡ 0 =
    new-none unmarked unmarked (λ i. refl) (λ i. refl) n in omega (arith, none)

pub few-vacant : (j : ℕ) (e : List ℕ) → Few (just j e) unmarked
few-vacant j e i p n = new-vacant (shifted (just j e) i p) unmarked (once_just j e i p) (λ i. refl)
    n

pub few-reset : (j : ℕ) (e : List ℕ) → Few unmarked (just j e)
few-reset j e i p n = new-reset unmarked (shifted (just j e) i p) (λ i. refl) (once_just j e i p) n

-- The marks of an enumeration cover its calls

child_of : (p : List ℕ) (n : ℕ) → is_child p (p ++ (n ∷ [])) ≡ true
child_of [] n = refl
child_of (m ∷ p) n = ap (λ x. x && is_child p (p ++ (n ∷ []))) (self_number m) ∙ child_of p n

-- each port of a device
pub ports_cover : (j : ℕ) (p : List ℕ) (n : ℕ) → ports_of j p j (p ++ (suc n ∷ [])) ≡ true
ports_cover j p n = ap (λ x. x && is_child p (p ++ (suc n ∷ []))) (self_number j)
    ∙ child_of p (suc n)

-- and a port itself
pub just_covers : (j : ℕ) (p : List ℕ) → just j p j p ≡ true
just_covers j p = ap (λ x. x && same_path p p) (self_number j) ∙ self_path p
