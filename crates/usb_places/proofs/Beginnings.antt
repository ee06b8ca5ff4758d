-- Before any deed of the host nothing is seen of the places.
use Rattle.std.proofs.Common.{◌+◌, ℕ, List, [], ◌∷◌, ◌++◌, codes, All, IfOk, Option, None, Some}
use Rattle.std.proofs.Common.{Result, Ok, Err, refl}
use Rattle.std.proofs.lemmas.List.Elements.{All-nil, All-push}
use Rattle.std.proofs.lemmas.Result.{IfOk-at_ok}
use Rattle.toml.specs.Data.{Data, Members, as_table, get_member}
use Rattle.usb_plan.specs.declared.fault.Place.TheVariants as place
use Rattle.usb_plan.specs.{EqualUnless, placed_damage, ◌>>=◌}
use Rattle.usb_places.specs.declared.fault.PlacesFault.{PlacesFault}
use Rattle.usb_places.specs.declared.sought.Sought.{Sought}
use Rattle.usb_places.specs.declared.sought.Whose.{Whose}
use Rattle.usb_places.specs.declared.sought.Whose.TheVariants as whose
use Rattle.usb_places.specs.declared.when.When.{When}
use Rattle.usb_places.specs.{IsKnown, IsSoughtAfter, PlacesData, damage_sought, damages_from}
use Rattle.usb_places.specs.{event_when, events_from, in_plan, left_from, members_sought}
use Rattle.usb_places.specs.{new_sought, no_memory, place_from, place_of, places_of, table_sought}
use Rattle.usb_places.specs.{transfer_from, when_at, when_sought, with_event, when_in}

-- what holds of a value that was read, and then of what follows it
pub followed : {A B E : Type 0} (P : A → Type 0) (Q : B → Type 0) (r : Result A E)
    (f : A → Result B E) → IfOk r P → ((a : A) → P a → IfOk (f a) Q) → IfOk (r >>= f) Q
followed P Q (Ok a) f is each = each a is
followed P Q (Err e) f is each = tt

-- what holds of what follows a value, whatever that is
pub each_way : {A B E : Type 0} (Q : B → Type 0) (r : Result A E) (f : A → Result B E)
    → ((a : A) → IfOk (f a) Q) → IfOk (r >>= f) Q
each_way Q (Ok a) f each = each a
each_way Q (Err e) f each = tt

new_is : (w : Whose) (when : When) → IsSoughtAfter [] (new_sought w when)
unfolding left_from place_from place_of
new_is w when = record { left = refl; found = refl }

with_event_new : (before : ℕ) (done : List Sought) (o : Option When)
    → All (IsSoughtAfter []) done → All (IsSoughtAfter []) (with_event before done o)
with_event_new before done None all = all
with_event_new before done (Some when) all =
    All-push (IsSoughtAfter []) done (new_sought (whose.Event before) when) all
    (new_is (whose.Event before) when)

events_new : (done : List Sought) (before : ℕ) (ds : List Data) → All (IsSoughtAfter []) done
    → IfOk (events_from done before ds) (All (IsSoughtAfter []))
unfolding events_from
events_new done before [] all = all
events_new done before (d ∷ ds) all =
    each_way (All (IsSoughtAfter [])) (when_at (place.Event (before + 1)) (event_when d)) _ (λ o.
    events_new (with_event before done o) (before + 1) ds (with_event_new before done o all))

value_new : (number : ℕ) (ms : Members) (o : Option Data)
    → IfOk (when_sought number ms o) (IsSoughtAfter [])
value_new number ms None = tt
value_new number ms (Some d) =
    each_way (IsSoughtAfter []) (when_at (place.Damage number) (when_in d)) _ (λ when.
    each_way (IsSoughtAfter []) (in_plan (placed_damage number 1 ms)) _ (λ damage.
    new_is (whose.Damage damage) when))

members_new : (number : ℕ) (o : Option Members)
    → IfOk (members_sought number o) (IsSoughtAfter [])
unfolding table_sought
members_new number None = tt
members_new number (Some ms) = value_new number ms (get_member (codes "when") ms)

damage_new : (number : ℕ) (d : Data) → IfOk (damage_sought number d) (IsSoughtAfter [])
unfolding damage_sought
damage_new number d = members_new number (as_table d)

damages_new : (done : List Sought) (number : ℕ) (ds : List Data) → All (IsSoughtAfter []) done
    → IfOk (damages_from done number ds) (All (IsSoughtAfter []))
unfolding damages_from
damages_new done number [] all = all
damages_new done number (d ∷ ds) all =
    followed (IsSoughtAfter []) (All (IsSoughtAfter [])) (damage_sought number d) _
    (damage_new number d) (λ s new.
    damages_new (done ++ s ∷ []) (number + 1) ds (All-push (IsSoughtAfter []) done s all new))

-- of what a document describes nothing is seen yet
pub none_seen : (ms : Members) → IfOk (places_of ms) (IsKnown [])
unfolding places_of transfer_from
none_seen ms =
    followed (All (IsSoughtAfter [])) (IsKnown []) (events_from [] 0 _) _
    (events_new [] 0 _ (All-nil (IsSoughtAfter []))) (λ first all.
    each_way (IsKnown []) (in_plan _) _ (λ plan.
    followed (All (IsSoughtAfter [])) (IsKnown []) (damages_from first _ _) _
    (damages_new first _ _ all) (λ sought places. record { transfer = refl; places = places })))

-- so it is of what was read
pub known_at_start : (ms : Members) (r : Result PlacesData PlacesFault)
    → EqualUnless no_memory r (places_of ms) → IfOk r (IsKnown [])
known_at_start ms (Ok p) same = IfOk-at_ok (IsKnown []) same (none_seen ms)
known_at_start ms (Err e) same = tt
