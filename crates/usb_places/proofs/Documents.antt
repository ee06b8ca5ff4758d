-- The places of a document, by its parts.
use Rattle.std.proofs.Common.{◌≡◌, ◌≢◌, ◌+◌, ◌-◌, length, arith, ℕ, List, [], codes, drop, map}
use Rattle.std.proofs.Common.{take, None, Result, Ok, Err, IsErrAnd, refl, sym, ap, ◌∙◌}
use Rattle.std.proofs.lemmas.List.{take_all, length-drop}
use Rattle.toml.specs.Data.{Members}
use Rattle.toml.specs.View.{view}
use Rattle.toml.specs.declared.value.Value.{Value}
use Rattle.usb_plan.specs.{EqualUnless, entries_of, plan_of_entries}
use Rattle.usb_world.specs.{PlanData}
use Rattle.usb_places.specs.declared.fault.PlacesFault.{PlacesFault}
use Rattle.usb_places.specs.declared.sought.Sought.{Sought}
use Rattle.usb_places.specs.{damages_from, events_from, fixed_damages, no_memory, places_of}
use Rattle.usb_places.specs.{plain}
use Rattle.usb_places.proofs.Copies.{view_take, view_drop}

rest_all : (n : ℕ) (ds : List Value) → take (length ds - n) (drop n ds) ≡ drop n ds
rest_all n ds = take_all (length ds - n) (drop n ds) (rw length-drop (omega arith))

-- the values of a document, the events without their `when`s, the damages before the first one with
-- it, and what was read of these
pub record ReadSoFar (ms : Members) (first : List Sought) (plan : PlanData) (es ds ps : List Value)
    (n : ℕ) (start : List Sought) : Type 0 where
  pub events : map view es ≡ entries_of (codes "event") ms
  pub damages : map view ds ≡ entries_of (codes "damage") ms
  pub plain : map view ps ≡ map plain (map view es)
  pub fixed : n ≡ fixed_damages (map view ds)
  pub none : start ≡ []
  pub first_is : events_from start 0 (map view es) ≡ Ok first
  pub plan_is : plan_of_entries ms (map view ps) (map view (take n ds)) ≡ Ok plan

pub places_with : (ms : Members) (first : List Sought) (plan : PlanData) (es ds ps : List Value)
    (n : ℕ) (start : List Sought) (all : List Sought) → ReadSoFar ms first plan es ds ps n start
    → damages_from first (n + 1) (map view (take (length ds - n) (drop n ds))) ≡ Ok all
    → places_of ms ≡ Ok (record { plan = plan; sought = all; transfer = None })
unfolding places_of
places_with ms first plan es ds ps n start all so_far all_is =
    let one : events_from [] 0 (entries_of (codes "event") ms) ≡ Ok first =
    rw (so_far.none, so_far.events) at so_far.first_is in
    let two : plan_of_entries ms (map plain (entries_of (codes "event") ms))
    (take (fixed_damages (entries_of (codes "damage") ms)) (entries_of (codes "damage") ms))
    ≡ Ok plan =
    rw (so_far.plain, view_take n ds, so_far.fixed, so_far.events, so_far.damages) at
    so_far.plan_is in
    let three : damages_from first (fixed_damages (entries_of (codes "damage") ms) + 1)
    (drop (fixed_damages (entries_of (codes "damage") ms)) (entries_of (codes "damage") ms))
    ≡ Ok all = rw (rest_all n ds, view_drop n ds, so_far.fixed, so_far.damages) at all_is in
    rw (one, two, three) refl

pub places_refused : (ms : Members) (first : List Sought) (plan : PlanData) (es ds ps : List Value)
    (n : ℕ) (start : List Sought) (why : PlacesFault) → ReadSoFar ms first plan es ds ps n start
    → damages_from first (n + 1) (map view (take (length ds - n) (drop n ds))) ≡ Err why
    → places_of ms ≡ Err why
unfolding places_of
places_refused ms first plan es ds ps n start why so_far why_is =
    let one : events_from [] 0 (entries_of (codes "event") ms) ≡ Ok first =
    rw (so_far.none, so_far.events) at so_far.first_is in
    let two : plan_of_entries ms (map plain (entries_of (codes "event") ms))
    (take (fixed_damages (entries_of (codes "damage") ms)) (entries_of (codes "damage") ms))
    ≡ Ok plan =
    rw (so_far.plain, view_take n ds, so_far.fixed, so_far.events, so_far.damages) at
    so_far.plan_is in
    let three : damages_from first (fixed_damages (entries_of (codes "damage") ms) + 1)
    (drop (fixed_damages (entries_of (codes "damage") ms)) (entries_of (codes "damage") ms))
    ≡ Err why = rw (rest_all n ds, view_drop n ds, so_far.fixed, so_far.damages) at why_is in
    rw (one, two, three) refl

-- an error that `?` hands on
pub handed_on : {A : Type 0} (r total : Result A PlacesFault) (why : PlacesFault)
    → IsErrAnd r (λ e. e ≡ why) → (why ≢ no_memory → total ≡ Err why)
    → EqualUnless no_memory r total
handed_on (Ok x) total why same is = absurd same
handed_on (Err e) total why same is = λ ne. is (λ h. ne (same ∙ h)) ∙ ap Err (sym same)
