-- The plan as far as it is known is a plan.
use Rattle.std.proofs.Common.{◌≡◌, ◌+◌, ◌≤◌, ℕ, zero, suc, List, [], ◌∷◌, take, refl, arith}
use Rattle.std.proofs.Common.{Bool, true, false, ◌&&◌, nat_le, nat_lt, Option, None, Some, IfSome}
use Rattle.std.proofs.Common.{All, if◌then◌else◌}
use Rattle.std.proofs.lemmas.Bool.{and_parts, leb-true, le-leb, lt-ltb}
use Rattle.usb_device.specs.{Spec}
use Rattle.usb_world.specs.{Damage, Event, PluggedMap, action_fits, after_most, damage_fits}
use Rattle.usb_world.specs.{damages_fit, event_fits, events_fit, harm_fits, plugged_after}
use Rattle.usb_places.specs.{IsGood, IsGoodFor, after_of, damage_found, damages_known, events_known}
use Rattle.usb_places.specs.{inserted, inserted_some, is_event, to_attempt}
use Rattle.usb_places.specs.declared.sought.Sought.{Sought}
use Rattle.usb_places.specs.declared.sought.Whose.{Whose}
use Rattle.usb_places.specs.declared.sought.Whose.TheVariants as whose

all_first : (P : Sought → Type 0) (s : Sought) (ss : List Sought) → All P (s ∷ ss) → P s
all_first P s ss all = all 0 s (omega arith)

all_rest : (P : Sought → Type 0) (s : Sought) (ss : List Sought) → All P (s ∷ ss) → All P ss
all_rest P s ss all = λ k d lt. all (suc k) d (omega (arith, lt))

-- an event that is found comes soon enough
event_good : (w : Whose) (before : ℕ) (found : Option ℕ) → is_event w before ≡ true
    → IsGoodFor w found → IfSome found (λ n. n ≤ after_most)
event_good (whose.Event k) before found e good = good
event_good (whose.Damage d) before found e good = absurd (cc e)

chosen : (b : Bool) (found rest : Option ℕ) → (b ≡ true → IfSome found (λ n. n ≤ after_most))
    → IfSome rest (λ n. n ≤ after_most)
    → IfSome (if b then found else rest) (λ n. n ≤ after_most)
chosen true found rest f r = f refl
chosen false found rest f r = r

after_good : (ss : List Sought) (before own : ℕ) → All IsGood ss → own ≤ after_most
    → IfSome (after_of ss before own) (λ n. n ≤ after_most)
unfolding after_of
after_good [] before own all le = le
after_good (s ∷ ss) before own all le = chosen (is_event s.whose before) s.found _
    (λ e. event_good s.whose before s.found e (all_first IsGood s ss all))
    (after_good ss before own (all_rest IsGood s ss all) le)

event_step : (roots : ℕ) (devices : List Spec) (tree : PluggedMap) (e : Event)
    (rest : List Event) (o : Option ℕ) → event_fits roots devices tree e ≡ true
    → IfSome o (λ n. n ≤ after_most)
    → events_fit roots devices (plugged_after e.action tree) rest ≡ true
    → events_fit roots devices tree
    (elim o [ None ↦ [] | Some n ↦ record e { after = n } ∷ rest ]) ≡ true
event_step roots devices tree e rest None fits le more = refl
event_step roots devices tree e rest (Some n) fits le more =
    let parts =
    and_parts (nat_le e.after after_most) (action_fits roots devices tree e.action) fits in
    rw (le-leb n after_most le, parts.1, more)

-- the events are those of a plan
pub events_fit_known : (roots : ℕ) (devices : List Spec) (tree : PluggedMap) (ss : List Sought)
    (before : ℕ) (events : List Event) → All IsGood ss
    → events_fit roots devices tree events ≡ true
    → events_fit roots devices tree (events_known ss before events) ≡ true
unfolding events_known
events_fit_known roots devices tree ss before [] all fits = refl
events_fit_known roots devices tree ss before (e ∷ events) all fits =
    let parts = and_parts (event_fits roots devices tree e)
    (events_fit roots devices (plugged_after e.action tree) events) fits in
    let own = and_parts (nat_le e.after after_most) (action_fits roots devices tree e.action)
    parts.0 in
    event_step roots devices tree e _ (after_of ss before e.after) parts.0
    (after_good ss before e.after all (leb-true e.after after_most own.0))
    (events_fit_known roots devices (plugged_after e.action tree) ss (before + 1) events
    all parts.1)

-- what a damage does fits, wherever it is
record FitsAlone (d : Damage) : Type 0 where
  least : nat_le 1 d.packet ≡ true
  most : nat_le d.packet 3 ≡ true
  harm : harm_fits d.harm ≡ true

alone : (last : ℕ) (d : Damage) → damage_fits last d ≡ true → FitsAlone d
alone last d fits =
    let harm = and_parts (nat_lt last d.attempt && nat_le 1 d.packet && nat_le d.packet 3)
    (harm_fits d.harm) fits in
    let most = and_parts (nat_lt last d.attempt && nat_le 1 d.packet) (nat_le d.packet 3) harm.0 in
    let least = and_parts (nat_lt last d.attempt) (nat_le 1 d.packet) most.0 in
    record { least = least.1; most = most.1; harm = harm.1 }

fits_of : (last : ℕ) (d : Damage) → nat_lt last d.attempt ≡ true → FitsAlone d
    → damage_fits last d ≡ true
fits_of last d lt one = rw (lt, one.least, one.most, one.harm)

insert_step : (last : ℕ) (d x : Damage) (xs more : List Damage) (b c : Bool)
    → nat_lt d.attempt x.attempt ≡ b → nat_lt x.attempt d.attempt ≡ c
    → damage_fits last d ≡ true → damages_fit last (x ∷ xs) ≡ true
    → (c ≡ true → damages_fit x.attempt more ≡ true)
    → damages_fit last (if b then d ∷ x ∷ xs else if c then x ∷ more else x ∷ xs) ≡ true
insert_step last d x xs more true c e f one fits ih =
    let parts = and_parts (damage_fits last x) (damages_fit x.attempt xs) fits in
    let second = fits_of d.attempt x e (alone last x parts.0) in
    rw (one, second, parts.1)
insert_step last d x xs more false true e f one fits ih =
    let parts = and_parts (damage_fits last x) (damages_fit x.attempt xs) fits in
    rw (parts.0, ih refl)
insert_step last d x xs more false false e f one fits ih = fits

inserted_fits : (last : ℕ) (d : Damage) (xs : List Damage) → damage_fits last d ≡ true
    → damages_fit last xs ≡ true → damages_fit last (inserted d xs) ≡ true
unfolding inserted
inserted_fits last d [] one fits = rw one
inserted_fits last d (x ∷ xs) one fits =
    let parts = and_parts (damage_fits last x) (damages_fit x.attempt xs) fits in
    insert_step last d x xs (inserted d xs) (nat_lt d.attempt x.attempt)
    (nat_lt x.attempt d.attempt) refl refl one fits
    (λ c. inserted_fits x.attempt d xs (fits_of x.attempt d c (alone last d one)) parts.1)

found_fits : (w : Whose) (found : Option ℕ) → IsGoodFor w found
    → IfSome (to_attempt w found) (λ d. damage_fits 0 d ≡ true)
found_fits (whose.Event k) found good = tt
found_fits (whose.Damage d) None good = tt
found_fits (whose.Damage d) (Some n) good =
    let one = alone 0 d good.0 in
    rw (lt-ltb 0 n (omega (arith, good.1)), one.least, one.most, one.harm)

some_fits : (o : Option Damage) (xs : List Damage) → IfSome o (λ d. damage_fits 0 d ≡ true)
    → damages_fit 0 xs ≡ true → damages_fit 0 (inserted_some o xs) ≡ true
some_fits None xs one fits = fits
some_fits (Some d) xs one fits = inserted_fits 0 d xs one fits

-- the damages are those of a plan
pub damages_fit_known : (xs : List Damage) (ss : List Sought) → All IsGood ss
    → damages_fit 0 xs ≡ true → damages_fit 0 (damages_known xs ss) ≡ true
unfolding damages_known
damages_fit_known xs [] all fits = fits
damages_fit_known xs (s ∷ ss) all fits =
    damages_fit_known (inserted_some (damage_found s) xs) ss (all_rest IsGood s ss all)
    (some_fits (damage_found s) xs (found_fits s.whose s.found (all_first IsGood s ss all)) fits)

pub damages_fit_take : (last n : ℕ) (xs : List Damage) → damages_fit last xs ≡ true
    → damages_fit last (take n xs) ≡ true
damages_fit_take last zero xs fits = refl
damages_fit_take last (suc n) [] fits = refl
damages_fit_take last (suc n) (x ∷ xs) fits =
    let parts = and_parts (damage_fits last x) (damages_fit x.attempt xs) fits in
    rw (parts.0, damages_fit_take x.attempt n xs parts.1)

-- the damages of the plan as far as it is known
pub damages_by : (p : List Damage) (ss : List Sought) (all fixed known : List Damage) → fixed ≡ p
    → known ≡ damages_known fixed ss → all ≡ take 10000 known → All IsGood ss
    → damages_fit 0 p ≡ true → damages_fit 0 all ≡ true
damages_by p ss all fixed known e f g good fits = rw (g, f, e) (damages_fit_take 0 10000
    (damages_known p ss) (damages_fit_known p ss good fits))
