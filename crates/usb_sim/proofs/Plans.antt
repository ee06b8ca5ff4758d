-- What the rules of a plan give a bus.
use Rattle.std.proofs.Common.{◌≡◌, ℕ, List, [], ◌∷◌, true, ◌&&◌, not, nat_le, nat_lt, length, refl}
use Rattle.std.proofs.Common.{sym, subst}
use Rattle.std.proofs.lemmas.Bool.{and_parts, and_from}
use Rattle.std.specs.List.{list_all}
use Rattle.usb_device.specs.{Spec}
use Rattle.usb_world.specs.{Event, Action, Plug, PluggedMap, plugged_after, has_port}
use Rattle.usb_world.specs.{after_most, PlanData, IsPlan, is_taken, action_fits, event_fits}
use Rattle.usb_world.specs.{events_fit, can_be_done, can_come}
use Rattle.usb_world.specs.declared.event.Action.TheVariants.{Change}

action_done : (roots : ℕ) (devices : List Spec) (tree : PluggedMap) (a : Action)
    → action_fits roots devices tree a ≡ true → can_be_done (length devices) a ≡ true
action_done roots devices tree (Change (Plug path device)) h =
    (and_parts (has_port roots devices tree path && not (is_taken tree path))
    (nat_lt device (length devices)) h).1
action_done roots devices tree _ h = refl

-- each event of a plan can come
events_come : (roots : ℕ) (devices : List Spec) (tree : PluggedMap) (events : List Event)
    → events_fit roots devices tree events ≡ true → list_all (can_come (length devices)) events
    ≡ true
events_come roots devices tree [] h = refl
events_come roots devices tree (e ∷ events) h =
    let parts = and_parts (event_fits roots devices tree e)
    (events_fit roots devices (plugged_after e.action tree) events) h in
    let fits = and_parts (nat_le e.after after_most) (action_fits roots devices tree e.action)
    parts.0 in
    and_from (can_come (length devices) e) (list_all (can_come (length devices)) events)
    (action_done roots devices tree e.action fits.1)
    (events_come roots devices (plugged_after e.action tree) events parts.1)

-- the same of the copies that a bus keeps
pub copies_come : (p : PlanData) (devices : ℕ) (events : List Event) → IsPlan p
    → devices ≡ length p.devices → events ≡ p.events → list_all (can_come devices) events ≡ true
copies_come p devices events rules d e =
    let Q : ℕ → Type 0 = λ n. list_all (can_come n) events ≡ true in
    let R : List Event → Type 0 = λ l. list_all (can_come (length p.devices)) l ≡ true in
    subst Q (sym d) (subst R (sym e) (events_come p.roots p.devices [] p.events rules.events))
