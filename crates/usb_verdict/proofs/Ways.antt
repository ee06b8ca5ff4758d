-- A device and its way, by the numbers of its path.
use mathlib.Core.Bool.{and-false, and-true}
use Rattle.std.proofs.Common.{◌≡◌, ℕ, zero, suc, ◌-◌, List, [], ◌∷◌, ◌++◌, Option, None, Some}
use Rattle.std.proofs.Common.{refl, ap, sym, ◌∙◌, true, false, Bool, slice_get, is_some, arith}
use Rattle.std.proofs.Common.{option_map, ◌+◌, ◌*◌}
use Rattle.std.specs.Prelude.{◌==◌, if◌then◌else◌, nat_le, slice_index}
use Rattle.std.proofs.lemmas.Bool.{false≢true, ne_eqb}
use Rattle.std.proofs.lemmas.Option.{same_Some}
use Rattle.usb_port.specs.{PortState, bit, status_of}
use Rattle.usb_device.specs.{Ports, ended, vacant, taken, device_there, numbered}
use Rattle.usb_device.specs.{plugged_at, reach, reach_at, row_of, state_at, state_there}
use Rattle.usb_verdict.specs.{is_enabled, reach_through}

reach_at-step : (k : Ports) (i : ℕ) (p : List ℕ)
    → reach_at k i p ≡ reach_through (slice_get (row_of k) i) (plugged_at k i []) p
unfolding reach_at plugged_at row_of
reach_at-step ended i p = refl
reach_at-step (vacant b k) zero p = refl
reach_at-step (vacant b k) (suc i) p = reach_at-step k i p
reach_at-step (taken b s a k) zero [] = sym (and-true b.enable)
reach_at-step (taken b s a k) zero (zero ∷ p) = sym (and-false b.enable)
reach_at-step (taken b s a k) zero (suc j ∷ p) = refl
reach_at-step (taken b s a k) (suc i) p = reach_at-step k i p

else_of : (b : Bool) (x y : Option PortState) → b ≡ false → (if b then x else y) ≡ y
else_of true x y h = absurd (false≢true (sym h))
else_of false x y h = refl

numbered-suc : (row : List PortState) (i : ℕ) → numbered row (suc i) ≡ slice_get row i
numbered-suc row i =
    let less : suc i - 1 ≡ i = omega arith in
    let other : (suc i == 0) ≡ false = ne_eqb (suc i) 0 (λ (e : suc i ≡ 0). omega (arith, e)) in
    else_of (suc i == 0) None (slice_get row (suc i - 1)) other ∙ ap (slice_get row) less

-- a device is reached by its first port, and by the rest of its path
pub reach_step : (k : Ports) (n : ℕ) (p : List ℕ)
    → reach k (n ∷ p) ≡ reach_through (numbered (row_of k) n) (device_there k (n ∷ [])) p
reach_step k zero p = refl
reach_step k (suc i) p = reach_at-step k i p
    ∙ ap (λ (b : Option PortState). reach_through b (plugged_at k i []) p)
    (sym (numbered-suc (row_of k) i))

-- the second bit of a status tells the enable
enable_told : (connected enabled : Bool) → nat_le 2 (bit connected + 2 * bit enabled) ≡ enabled
enable_told true true = refl
enable_told true false = refl
enable_told false true = refl
enable_told false false = refl

pub enabled_some : (o : Option PortState) (bytes : List ℕ) → Some bytes ≡ option_map status_of o
    → nat_le 2 (slice_index bytes 0) ≡ is_enabled o
unfolding status_of
enabled_some None bytes h = absurd (cc)
enabled_some (Some b) bytes h = ap (λ (xs : List ℕ). nat_le 2 (slice_index xs 0))
    (same_Some bytes (status_of b) h) ∙ enable_told _ b.enable

-- The state of a device is that of the device with its ports

state_at-own : (k : Ports) (i : ℕ) (p : List ℕ)
    → state_at k i p ≡ option_map (λ t. t.own) (plugged_at k i p)
unfolding state_at plugged_at
state_at-own ended i p = refl
state_at-own (vacant b k) zero p = refl
state_at-own (vacant b k) (suc i) p = state_at-own k i p
state_at-own (taken b s a k) zero [] = refl
state_at-own (taken b s a k) zero (zero ∷ p) = refl
state_at-own (taken b s a k) zero (suc j ∷ p) = state_at-own a j p
state_at-own (taken b s a k) (suc i) p = state_at-own k i p

pub state_there-own : (k : Ports) (p : List ℕ)
    → state_there k p ≡ option_map (λ t. t.own) (device_there k p)
state_there-own k [] = refl
state_there-own k (zero ∷ p) = refl
state_there-own k (suc i ∷ p) = state_at-own k i p

-- A device below another one: that one is there, too

state_at-above : (k : Ports) (i : ℕ) (p q : List ℕ) → is_some (state_at k i (p ++ q)) ≡ true
    → is_some (state_at k i p) ≡ true
unfolding state_at
state_at-above ended i p q h = h
state_at-above (vacant b k) zero p q h = h
state_at-above (vacant b k) (suc i) p q h = state_at-above k i p q h
state_at-above (taken b s a k) zero [] q h = refl
state_at-above (taken b s a k) zero (zero ∷ p) q h = h
state_at-above (taken b s a k) zero (suc j ∷ p) q h = state_at-above a j p q h
state_at-above (taken b s a k) (suc i) p q h = state_at-above k i p q h

pub state_there-above : (k : Ports) (n : ℕ) (p q : List ℕ)
    → is_some (state_there k ((n ∷ p) ++ q)) ≡ true → is_some (state_there k (n ∷ p)) ≡ true
state_there-above k zero p q h = h
state_there-above k (suc i) p q h = state_at-above k i p q h
