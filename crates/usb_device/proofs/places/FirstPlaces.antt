-- A row of ports that begins with a place.
use Rattle.std.proofs.Common.{◌≡◌, ℕ, zero, suc, ◌-◌, List, [], ◌∷◌, ◌++◌, Option, None, Some}
use Rattle.std.proofs.Common.{slice_get, refl, ap, ◌∙◌, arith}
use Rattle.usb_port.specs.{PortState, off, powered_off}
use Rattle.usb_device.specs.{Ports, ended, vacant, taken, Plugged, empty, full, before, new_ports}
use Rattle.usb_device.specs.{all_off, row_of, changed_at, changed_in, changed, plugged_at}
use Rattle.usb_device.specs.{plugged_in, device_there, standing, Place}
use Rattle.usb_device.proofs.packets.Rows.{row_of-before}

-- ---- a number that is not 0
pub one_less : (i : ℕ) → (i ≡ 0 → ⊥) → i ≡ suc (i - 1)
one_less i h = omega (arith, h)

-- ---- the place at the head, and those behind it
pub changed_at-head : (f : Place → Place) (q : Place) (k : Ports) (p : List ℕ)
    → changed_at f (before q k) 0 p ≡ before (changed_in f q p) k
unfolding changed_at
changed_at-head f (empty b) k [] = refl
changed_at-head f (full b s a) k (zero ∷ p) = refl
changed_at-head f q k p = refl

pub changed_at-tail : (f : Place → Place) (q : Place) (k : Ports) (i : ℕ) (p : List ℕ)
    → changed_at f (before q k) (suc i) p ≡ before q (changed_at f k i p)
unfolding changed_at
changed_at-tail f (empty b) k i p = refl
changed_at-tail f (full b s a) k i p = refl

pub changed_at-first : (f : Place → Place) (q : Place) (k : Ports) (i : ℕ) (p : List ℕ) → i ≡ 0
    → changed_at f (before q k) i p ≡ before (changed_in f q p) k
changed_at-first f q k i p h = rw h (changed_at-head f q k p)

pub changed_at-later : (f : Place → Place) (q : Place) (k : Ports) (i : ℕ) (p : List ℕ)
    → (i ≡ 0 → ⊥) → changed_at f (before q k) i p ≡ before q (changed_at f k (i - 1) p)
changed_at-later f q k i p h = ap (λ n. changed_at f (before q k) n p) (one_less i h)
    ∙ changed_at-tail f q k (i - 1) p

pub changed_at-same : (k : Ports) (j : ℕ) (p : List ℕ) → changed_at (λ x. x) k j p ≡ k
unfolding changed_at
changed_at-same (vacant b k) zero [] = refl
changed_at-same (vacant b k) (suc j) p = ap (vacant b) (changed_at-same k j p)
changed_at-same (taken b s a k) zero (suc j ∷ p) = ap (λ x. taken b s x k) (changed_at-same a j p)
changed_at-same (taken b s a k) (suc j) p = ap (taken b s a) (changed_at-same k j p)
changed_at-same k j p = refl

pub changed_at-twice : (f g : Place → Place) (k : Ports) (j : ℕ) (p : List ℕ)
    → changed_at f (changed_at g k j p) j p ≡ changed_at (λ x. f (g x)) k j p
unfolding changed_at
changed_at-twice f g (vacant b k) zero [] = changed_at-head f (g (empty b)) k []
changed_at-twice f g (vacant b k) (suc j) p = ap (vacant b) (changed_at-twice f g k j p)
changed_at-twice f g (taken b s a k) zero [] = changed_at-head f (g (full b s a)) k []
changed_at-twice f g (taken b s a k) zero (suc j ∷ p) =
    ap (λ x. taken b s x k) (changed_at-twice f g a j p)
changed_at-twice f g (taken b s a k) (suc j) p = ap (taken b s a) (changed_at-twice f g k j p)
changed_at-twice f g k j p = refl

-- the place of a port of the device at a path
pub changed_at-port : (f : Place → Place) (k : Ports) (j : ℕ) (p : List ℕ) (n : ℕ)
    → changed_at f k j (p ++ n ∷ []) ≡ changed_at (λ q. changed_in f q (n ∷ [])) k j p
unfolding changed_at
changed_at-port f (vacant b k) zero [] n = refl
changed_at-port f (vacant b k) (suc j) p n = ap (vacant b) (changed_at-port f k j p n)
changed_at-port f (taken b s a k) zero [] zero = refl
changed_at-port f (taken b s a k) zero (suc j ∷ p) n =
    ap (λ x. taken b s x k) (changed_at-port f a j p n)
changed_at-port f (taken b s a k) (suc j) p n = ap (taken b s a) (changed_at-port f k j p n)
changed_at-port f k j p n = refl

-- no port has the number 0
pub changed_at-zero : (f : Place → Place) (k : Ports) (j : ℕ) (p : List ℕ)
    → changed_at f k j (p ++ 0 ∷ []) ≡ k
unfolding changed_at
changed_at-zero f (vacant b k) zero [] = refl
changed_at-zero f (vacant b k) (suc j) p = ap (vacant b) (changed_at-zero f k j p)
changed_at-zero f (taken b s a k) zero (suc j ∷ p) =
    ap (λ x. taken b s x k) (changed_at-zero f a j p)
changed_at-zero f (taken b s a k) (suc j) p = ap (taken b s a) (changed_at-zero f k j p)
changed_at-zero f k j p = refl

pub plugged_at-head : (q : Place) (k : Ports) (p : List ℕ) → plugged_at (before q k) 0 p
    ≡ plugged_in q p
unfolding plugged_at
plugged_at-head (full b s a) k (zero ∷ p) = refl
plugged_at-head q k p = refl

pub plugged_at-tail : (q : Place) (k : Ports) (i : ℕ) (p : List ℕ)
    → plugged_at (before q k) (suc i) p ≡ plugged_at k i p
unfolding plugged_at
plugged_at-tail (empty b) k i p = refl
plugged_at-tail (full b s a) k i p = refl

pub plugged_at-first : (q : Place) (k : Ports) (i : ℕ) (p : List ℕ) → i ≡ 0
    → plugged_at (before q k) i p ≡ plugged_in q p
plugged_at-first q k i p h = rw h (plugged_at-head q k p)

pub plugged_at-later : (q : Place) (k : Ports) (i : ℕ) (p : List ℕ) → (i ≡ 0 → ⊥)
    → plugged_at (before q k) i p ≡ plugged_at k (i - 1) p
plugged_at-later q k i p h = ap (λ n. plugged_at (before q k) n p) (one_less i h)
    ∙ plugged_at-tail q k (i - 1) p

-- ---- the ports without what is on them
pub port-first : (b : PortState) (d : Option Plugged) (k : Ports) (i : ℕ) → i ≡ 0
    → slice_get (row_of (before (standing b d) k)) i ≡ Some b
port-first b d k i h = rw (row_of-before b d k, h) refl

pub port-later : (b : PortState) (d : Option Plugged) (k : Ports) (i : ℕ) → (i ≡ 0 → ⊥)
    → slice_get (row_of (before (standing b d) k)) i ≡ slice_get (row_of k) (i - 1)
port-later b d k i h = rw (row_of-before b d k)
    (ap (λ n. slice_get (b ∷ row_of k) n) (one_less i h))

-- ---- no power
pub all_off-before : (b : PortState) (d : Option Plugged) (k : Ports)
    → all_off (before (standing b d) k) ≡ before (standing (powered_off b) d) (all_off k)
unfolding all_off
all_off-before b None k = refl
all_off-before b (Some t) k = refl

-- ---- paths
pub changed-path : (f : Place → Place) (k : Ports) (n : ℕ) (p : List ℕ) → (n ≡ 0 → ⊥)
    → changed f k (n ∷ p) ≡ changed_at f k (n - 1) p
changed-path f k n p h = ap (λ m. changed f k (m ∷ p)) (one_less n h)

pub changed-none : (f : Place → Place) (k : Ports) (n : ℕ) (p : List ℕ) → n ≡ 0
    → changed f k (n ∷ p) ≡ k
changed-none f k n p h = rw h refl

pub device-path : (k : Ports) (n : ℕ) (p : List ℕ) → (n ≡ 0 → ⊥)
    → device_there k (n ∷ p) ≡ plugged_at k (n - 1) p
device-path k n p h = ap (λ m. device_there k (m ∷ p)) (one_less n h)

pub device-none : (k : Ports) (n : ℕ) (p : List ℕ) → n ≡ 0 → device_there k (n ∷ p) ≡ None
device-none k n p h = rw h refl

pub ruleset paths = (changed-path, changed-none, device-path, device-none)

-- ---- a row of empty ports
abbrev pub one_port_more : Ports → Ports
one_port_more ended = vacant off ended
one_port_more (vacant b k) = vacant b (one_port_more k)
one_port_more (taken b s a k) = taken b s a (one_port_more k)

pub most_more-before : (q : Place) (k : Ports) → one_port_more (before q k)
    ≡ before q (one_port_more k)
most_more-before (empty b) k = refl
most_more-before (full b s a) k = refl

pub most_more-new : (n : ℕ) → one_port_more (new_ports n) ≡ new_ports (suc n)
unfolding new_ports
most_more-new zero = refl
most_more-new (suc n) = ap (vacant off) (most_more-new n)

pub new_ports-none : new_ports 0 ≡ ended
unfolding new_ports
new_ports-none = refl
