-- Without any `when` the places are those of the plan alone.
use Rattle.std.proofs.Common.{◌≡◌, ◌+◌, ◌<◌, ◌≤◌, ℕ, List, [], ◌∷◌, ◌++◌, codes, IfOk, Option}
use Rattle.std.proofs.Common.{None, Some, Result, Ok, Err, Bool, true, false, nat_lt, length}
use Rattle.std.proofs.Common.{map, refl, sym, ap, arith, is_some, ok_or}
use Rattle.std.proofs.Common.{length-append, if◌then◌else◌, Ordering, Less, Equal, Greater}
use Rattle.std.proofs.lemmas.Bool.{or_parts, ltb-true}
use Rattle.std.proofs.lemmas.List.{take_all}
use Rattle.std.proofs.Math.Seq.{drop-length, take-length}
use Rattle.std.specs.List.{list_any}
use Rattle.std.specs.Result.{result_map_both}
use Rattle.std.specs.Ordering.{is_eq, match_ordering, nat_cmp}
use Rattle.std.specs.Cmp.Lexicographic.{slice_cmp}
use Rattle.toml.specs.Data.{Data, Members, array, as_table, boolean, datetime, float, get_member}
use Rattle.toml.specs.Data.{integer, member, no_members, string, table}
use Rattle.usb_plan.specs.declared.fault.Place.{Place}
use Rattle.usb_plan.specs.declared.fault.Place.TheVariants as place
use Rattle.usb_plan.specs.{BadValue, EqualUnless, PlanFault, damage_entry, damage_room, damage_with}
use Rattle.usb_plan.specs.{entries_of, entry_at, fault_in_part, last_from, least_fault, no_when}
use Rattle.usb_plan.specs.{plan_of, devices_from, plan_of_entries, plan_with, ports_said}
use Rattle.usb_plan.specs.{read_damage, sooner, ◌>>=◌}
use Rattle.usb_plan.specs.Damage as damage
use Rattle.usb_plan.specs.Event as plan
use Rattle.usb_world.specs.{Damage, Event, Harm, PlanData, plan_data}
use Rattle.usb_device.specs.{Spec}
use Rattle.usb_places.specs.declared.fault.PlacesFault.{PlacesFault}
use Rattle.usb_places.specs.declared.fault.PlacesFault.TheVariants.{Plan}
use Rattle.usb_places.specs.declared.sought.Sought.{Sought}
use Rattle.usb_places.specs.{PlacesData, after_of, damages_from, damages_known, event_when}
use Rattle.usb_places.specs.{events_from, events_known, fixed_damages, has_when, in_plan}
use Rattle.usb_places.specs.{members_when, no_memory, places_data, places_of, plain, plain_when}
use Rattle.usb_places.specs.{plan_known, table_has_when, uses_when, without}
use Rattle.usb_places.proofs.Beginnings.{each_way, followed}

none_of : {A : Type 0} (o : Option A) → is_some o ≡ false → o ≡ None
none_of None e = refl
none_of (Some x) e = absurd (cc e)

kept : (c : Ordering) (l : List ℕ) (d : Data) (ms rest : Members) (o : Option Data)
    → match_ordering c o (Some d) o ≡ None → (o ≡ None → rest ≡ ms)
    → (if is_eq c then ms else member l d rest) ≡ member l d ms
kept Less l d ms rest o none same = ap (member l d) (same none)
kept Equal l d ms rest o none same = absurd (cc none)
kept Greater l d ms rest o none same = ap (member l d) (same none)

-- a table without the key is the same without it
all_kept : (k : List ℕ) (ms : Members) → get_member k ms ≡ None → without k ms ≡ ms
unfolding without
all_kept k no_members none = refl
all_kept k (member l d ms) none =
    kept (slice_cmp nat_cmp k l) l d ms (without k ms) (get_member k ms) none (all_kept k ms)

plain_same : (d : Data) → has_when d ≡ false → plain d ≡ d
plain_same (string s) e = refl
plain_same (integer z) e = refl
plain_same (float x) e = refl
plain_same (boolean b) e = refl
plain_same (datetime t) e = refl
plain_same (array items) e = refl
plain_same (table ms) e =
    ap table (all_kept (codes "when") ms (none_of (get_member (codes "when") ms) e))

all_same : (ds : List Data) → list_any has_when ds ≡ false → map plain ds ≡ ds
all_same [] e = refl
all_same (d ∷ ds) e = let parts = or_parts (has_when d) (list_any has_when ds) e in
    rw (plain_same d parts.0, all_same ds parts.1) refl

all_fixed : (ds : List Data) → list_any has_when ds ≡ false → fixed_damages ds ≡ length ds
unfolding fixed_damages
all_fixed [] e = refl
all_fixed (d ∷ ds) e = let parts = or_parts (has_when d) (list_any has_when ds) e in
    rw (parts.0, all_fixed ds parts.1) (omega arith)

no_place : (o : Option Members) → table_has_when o ≡ false → members_when o ≡ Ok None
unfolding plain_when
no_place None e = refl
no_place (Some ms) e = rw (none_of (get_member (codes "when") ms) e) refl

no_event_place : (d : Data) → has_when d ≡ false → event_when d ≡ Ok None
unfolding event_when
no_event_place d e = no_place (as_table d) e

no_places : (done : List Sought) (before : ℕ) (ds : List Data) → list_any has_when ds ≡ false
    → events_from done before ds ≡ Ok done
unfolding events_from
no_places done before [] e = refl
no_places done before (d ∷ ds) e = let parts = or_parts (has_when d) (list_any has_when ds) e in
    rw (no_event_place d parts.0) (no_places done (before + 1) ds parts.1)

-- what is read then
plain_places : (ms : Members) → uses_when ms ≡ false
    → places_of ms ≡ (in_plan (plan_of ms) >>= λ plan. Ok (places_data plan [] None))
unfolding places_of plan_of damages_from
plain_places ms e =
    let events = entries_of (codes "event") ms in
    let damages = entries_of (codes "damage") ms in
    let parts = or_parts (list_any has_when events) (list_any has_when damages) e in
    rw (
      no_places [] 0 events parts.0,
      all_same events parts.0,
      all_fixed damages parts.1,
      take-length damages,
      drop-length damages,
    ) refl

-- nothing is sought, so all events are known
all_known : (before : ℕ) (events : List Event) → events_known [] before events ≡ events
unfolding events_known after_of
all_known before [] = refl
all_known before (e ∷ events) = ap (λ es. e ∷ es) (all_known (before + 1) events)

known_same : (p : PlanData) → length p.damages ≤ 10000 → plan_known p [] ≡ p
unfolding plan_known damages_known
known_same p le = rw (all_known 0 p.events, take_all 10000 p.damages le) refl

-- no fault of these, so none of the last one
skipped : (f : Option _) (others : Result (Unit {0}) _) (Q : Type 0)
    → IfOk others (λ u. Q) → IfOk (sooner f others) (λ u. Q)
unfolding sooner
skipped None others Q h = h
skipped (Some k) (Ok u) Q h = tt
skipped (Some k) (Err l) Q h = tt

room_if : (count : ℕ) (b : Bool) → nat_lt count 10000 ≡ b
    → IfOk (least_fault (fault_in_part {A = Unit {0}} (if b then Ok tt else Err BadValue) ∷ []))
    (λ u. count < 10000)
unfolding least_fault fault_in_part sooner
room_if count true e = ltb-true count 10000 e
room_if count false e = tt

-- what holds if there is no fault of the parts holds of a damage of these
with_parts : (u : Result (Unit {0}) _) (attempt packet : Result ℕ _) (harm : Result Harm _)
    (keys room : Result (Unit {0}) _) (Q : Type 0)
    → IfOk (least_fault (fault_in_part attempt ∷ fault_in_part packet ∷ fault_in_part harm
    ∷ fault_in_part keys ∷ fault_in_part room ∷ [])) (λ t. Q)
    → u ≡ least_fault (fault_in_part attempt ∷ fault_in_part packet ∷ fault_in_part harm
    ∷ fault_in_part keys ∷ fault_in_part room ∷ [])
    → IfOk (damage_with attempt packet harm keys room) (λ d. Q)
unfolding damage_with
with_parts (Err e) attempt packet harm keys room Q h same = rw (← same) tt
with_parts (Ok t) (Err e) packet harm keys room Q h same = rw (← same) tt
with_parts (Ok t) (Ok n) (Err e) harm keys room Q h same = rw (← same) tt
with_parts (Ok t) (Ok n) (Ok p) (Err e) keys room Q h same = rw (← same) tt
with_parts (Ok t) (Ok n) (Ok p) (Ok x) keys room Q h same = rw (← same) (rw (← same) at h)

room_left : (attempt packet : Result ℕ _) (harm : Result Harm _) (keys : Result (Unit {0}) _)
    (count : ℕ) → IfOk (damage_with attempt packet harm keys (damage.damage_room count))
    (λ d. count < 10000)
unfolding damage.damage_room least_fault
room_left attempt packet harm keys count =
    let room = if nat_lt count 10000 then Ok tt else Err BadValue in
    let last = least_fault (fault_in_part {A = Unit {0}} room ∷ []) in
    let third = sooner (fault_in_part keys) last in
    let second = sooner (fault_in_part harm) third in
    let first = sooner (fault_in_part packet) second in
    with_parts _ attempt packet harm keys room (count < 10000)
    (skipped (fault_in_part attempt) first (count < 10000)
    (skipped (fault_in_part packet) second (count < 10000)
    (skipped (fault_in_part harm) third (count < 10000)
    (skipped (fault_in_part keys) last (count < 10000)
    (room_if count (nat_lt count 10000) refl))))) refl

-- a damage that is read has room
has_room : (last count : ℕ) (ms : Members) → IfOk (read_damage last count ms) (λ d. count < 10000)
unfolding read_damage
has_room last count ms = room_left _ _ _ _ count

entry_has_room : (last count : ℕ) (o : Option Members)
    → IfOk (damage_entry last count o) (λ d. count < 10000)
unfolding damage_entry
entry_has_room last count o =
    each_way (λ d. count < 10000) (ok_or o BadValue) _ (λ ms.
    each_way (λ d. count < 10000) (no_when (get_member (codes "when") ms)) _ (λ u.
    has_room last count ms))

placed_has_room : (p : Place) (r : Result Damage _) (Q : Type 0) → IfOk r (λ d. Q)
    → IfOk (entry_at p r) (λ d. Q)
unfolding entry_at
placed_has_room p (Ok d) Q h = h
placed_has_room p (Err e) Q h = tt

few_damages : (n : ℕ) (done : List Damage) (ds : List Data) → length done ≤ 10000
    → IfOk (damage.damages_from n done ds) (λ all. length all ≤ 10000)
unfolding damage.damages_from
few_damages n done [] le = le
few_damages n done (d ∷ ds) le =
    followed (λ x. length done < 10000) (λ all. length all ≤ 10000) (entry_at (place.Damage n) _) _
    (placed_has_room (place.Damage n) _ (length done < 10000)
    (entry_has_room (last_from 0 done) (length done) (as_table d))) (λ x lt.
    few_damages (n + 1) (done ++ x ∷ []) ds (rw length-append (omega (arith, lt))))

abbrev HasFew : PlanData → Type 0
HasFew p = length p.damages ≤ 10000

none_few : length {A = Damage} [] ≤ 10000
none_few = omega arith

few_behind : (limit roots : ℕ) (wide : Bool) (specs : List Spec) (e : Result (List Event) PlanFault)
    (d : Result (List Damage) PlanFault) → IfOk d (λ all. length all ≤ 10000)
    → IfOk (e >>= λ events. d >>= λ harms.
    Ok (plan_data limit roots wide specs events harms)) HasFew
few_behind limit roots wide specs (Err k) d h = tt
few_behind limit roots wide specs (Ok events) (Err k) h = tt
few_behind limit roots wide specs (Ok events) (Ok harms) h = h

few_with : (top : _) (devices events harms : List Data)
    → IfOk (plan_with top devices events harms) HasFew
unfolding plan_with
few_with top devices events harms =
    each_way HasFew (devices_from top.wide 1 [] devices) (λ specs.
    plan.events_from top.roots top.wide specs (map ports_said devices) 1 [] events >>= λ done.
    damage.damages_from 1 [] harms >>= λ all.
    Ok (plan_data top.limit top.roots top.wide specs done all)) (λ specs.
    few_behind top.limit top.roots top.wide specs
    (plan.events_from top.roots top.wide specs (map ports_said devices) 1 [] events)
    (damage.damages_from 1 [] harms) (few_damages 1 [] harms none_few))

-- a plan has few damages
few_in_plan : (ms : Members) → IfOk (plan_of ms) HasFew
unfolding plan_of plan_of_entries
few_in_plan ms =
    each_way HasFew (entry_at place.Top _) _ (λ top.
    few_with top (entries_of (codes "device") ms) (entries_of (codes "event") ms)
    (entries_of (codes "damage") ms))

-- the plan of places, as far as it is known
abbrev known_of : Result PlacesData PlacesFault → Result PlanData PlacesFault
known_of r = result_map_both (λ p. plan_known p.plan p.sought) (λ e. e) r

known_by : (t : Result PlanData PlanFault) (r : Result PlacesData PlacesFault)
    → IfOk t HasFew
    → EqualUnless no_memory r (in_plan t >>= λ plan. Ok (places_data plan [] None))
    → EqualUnless no_memory (known_of r) (in_plan t)
known_by (Ok plan) (Ok p) few same =
    let is : places_data plan [] None ≡ p = cc same in
    rw (← is) (ap Ok (sym (known_same plan few)))
known_by (Ok plan) (Err e) few same = λ ne. absurd (cc (same ne))
known_by (Err why) (Ok p) few same = absurd (cc same)
known_by (Err why) (Err e) few same = λ ne. let is : Plan why ≡ e = cc (same ne) in ap Err is

-- what was read is known as the plan alone
pub plain_known : (ms : Members) (r : Result PlacesData PlacesFault)
    → EqualUnless no_memory r (places_of ms) → uses_when ms ≡ false
    → EqualUnless no_memory (known_of r) (in_plan (plan_of ms))
plain_known ms r same none =
    known_by (plan_of ms) r (few_in_plan ms) (rw (plain_places ms none) at same)
