-- Lists of devices and events grow at their end.
use Rattle.std.proofs.Common.{◌≡◌, ℕ, ◌+◌, ◌<◌, ◌≤◌, List, [], ◌∷◌, ◌++◌, length, get_or, drop, map}
use Rattle.std.proofs.Common.{Bool, true, Result, Ok, refl}
use Rattle.std.proofs.lemmas.Bool.{and_parts}
use Rattle.std.proofs.lemmas.List.{drop_all}
use Rattle.toml.specs.Data.{as_table}
use Rattle.toml.specs.declared.value.Value.{Value}
use Rattle.toml.specs.View.{view}
use Rattle.usb_plan.specs.declared.fault.Place.TheVariants as place
use Rattle.usb_plan.specs.{PlanFault, entry_at, device_in, devices_from, scene_after, event_in}
use Rattle.usb_plan.specs.{events_from, damage_entry, last_from, damages_from, ◌>>=◌}
use Rattle.usb_world.specs.{Event, Damage, PluggedMap, plugged_by, plugged_after, event_fits}
use Rattle.usb_world.specs.{events_fit, damage_fits, damages_fit}
use Rattle.usb_device.specs.{Spec}
use Rattle.usb_plan.proofs.Steps.{view_drop}

pub events_fit-push : (roots : ℕ) (devices : List Spec) (tree : PluggedMap) (events : List Event)
    (e : Event) → events_fit roots devices tree events ≡ true
    → event_fits roots devices (plugged_by tree events) e ≡ true
    → events_fit roots devices tree (events ++ e ∷ []) ≡ true
unfolding plugged_by
events_fit-push roots devices tree [] e h new = rw new
events_fit-push roots devices tree (x ∷ events) e h new =
    let parts = and_parts (event_fits roots devices tree x)
    (events_fit roots devices (plugged_after x.action tree) events) h in
    rw (parts.0, events_fit-push roots devices (plugged_after x.action tree) events e parts.1 new)

-- one damage more
pub last_from-push : (last : ℕ) (damages : List Damage) (d : Damage)
    → last_from last (damages ++ d ∷ []) ≡ d.attempt
unfolding last_from
last_from-push last [] d = refl
last_from-push last (x ∷ damages) d = last_from-push x.attempt damages d

pub damages_fit-push : (last : ℕ) (damages : List Damage) (d : Damage)
    → damages_fit last damages ≡ true → damage_fits (last_from last damages) d ≡ true
    → damages_fit last (damages ++ d ∷ []) ≡ true
unfolding last_from
damages_fit-push last [] d h new = rw new
damages_fit-push last (x ∷ damages) d h new =
    let parts = and_parts (damage_fits last x) (damages_fit x.attempt damages) h in
    rw (parts.0, damages_fit-push x.attempt damages d parts.1 new)

pub devices_from-next : (wide : Bool) (done : List Spec) (vs : List Value) (i : ℕ) (v : Value)
    (r : Result Spec PlanFault) → i < length vs → v ≡ get_or vs i v
    → entry_at (place.Device (i + 1)) (device_in wide done (as_table (view v))) ≡ r
    → devices_from wide (i + 1) done (map view (drop i vs))
    ≡ (r >>= λ s. devices_from wide (i + 1 + 1) (done ++ s ∷ []) (map view (drop (i + 1) vs)))
unfolding devices_from
devices_from-next wide done vs i v r lt is e = rw (view_drop vs i v lt is, e) refl

pub devices_from-end : (wide : Bool) (n : ℕ) (done : List Spec) (vs : List Value) (i : ℕ)
    → length vs ≤ i → devices_from wide n done (map view (drop i vs)) ≡ Ok done
unfolding devices_from
devices_from-end wide n done vs i le = rw (drop_all i vs le)

pub events_from-next : (roots : ℕ) (wide : Bool) (specs : List Spec) (ports : List ℕ)
    (done : List Event) (vs : List Value) (i : ℕ) (v : Value) (r : Result Event PlanFault)
    → i < length vs
    → v ≡ get_or vs i v
    → entry_at (place.Event (i + 1))
    (event_in (scene_after roots wide specs ports done) (length done)
    (as_table (view v))) ≡ r
    → events_from roots wide specs ports (i + 1) done (map view (drop i vs))
    ≡ (r >>= λ e. events_from roots wide specs ports (i + 1 + 1) (done ++ e ∷ [])
    (map view (drop (i + 1) vs)))
unfolding events_from
events_from-next roots wide specs ports done vs i v r lt is e = rw (view_drop vs i v lt is, e) refl

pub events_from-end : (roots : ℕ) (wide : Bool) (specs : List Spec) (ports : List ℕ)
    (n : ℕ) (done : List Event) (vs : List Value) (i : ℕ) → length vs ≤ i
    → events_from roots wide specs ports n done (map view (drop i vs)) ≡ Ok done
unfolding events_from
events_from-end roots wide specs ports n done vs i le = rw (drop_all i vs le)

pub damages_from-next : (done : List Damage) (vs : List Value) (i : ℕ) (v : Value)
    (r : Result Damage PlanFault) → i < length vs → v ≡ get_or vs i v
    → entry_at (place.Damage (i + 1)) (damage_entry (last_from 0 done) (length done)
    (as_table (view v))) ≡ r → damages_from (i + 1) done (map view (drop i vs))
    ≡ (r >>= λ s. damages_from (i + 1 + 1) (done ++ s ∷ []) (map view (drop (i + 1) vs)))
unfolding damages_from
damages_from-next done vs i v r lt is e = rw (view_drop vs i v lt is, e) refl

pub damages_from-end : (n : ℕ) (done : List Damage) (vs : List Value) (i : ℕ) → length vs ≤ i
    → damages_from n done (map view (drop i vs)) ≡ Ok done
unfolding damages_from
damages_from-end n done vs i le = rw (drop_all i vs le)
