-- The devices that were found are all that are plugged.
use Rattle.std.proofs.Common.{◌≡◌, ◌⊎◌, inl, inr, ◌≤◌, ◌<◌, ℕ, zero, suc, ◌+◌, List, [], ◌∷◌, ◌++◌}
use Rattle.std.proofs.Common.{Option, None, Some, refl, ap, sym, ◌∙◌, subst, true, false, Bool}
use Rattle.std.proofs.Common.{slice_get, is_some, arith, length, length-append, append_assoc}
use Rattle.std.proofs.lemmas.List.{append-nil}
use Rattle.std.proofs.Common.{option_map, cond}
use Rattle.std.specs.Prelude.{All, nat_le, find, ◌&&◌, ◌||◌, if◌then◌else◌}
use Rattle.std.specs.List.{list_all}
use Rattle.std.specs.Str.{bytes_eq}
use Rattle.std.proofs.lemmas.Bool.{and_from, and_parts, both_ways, cases_lt, false≢true, leb-true}
use Rattle.std.proofs.lemmas.Bool.{le-leb, or_left, or_cases}
use Rattle.std.proofs.lemmas.List.Elements.{All-append, All-head}
use Rattle.std.proofs.lemmas.List.Elements.{All-nil, All-tail, All-weaker}
use Rattle.std.proofs.lemmas.List.Folds.{list_all-append, list_any-append}
use Rattle.std.proofs.lemmas.Option.{same_Some, slice_get_within}
use Rattle.std.proofs.lemmas.Slice.Eq.{bytes_eq-Decides}
use Rattle.usb_port.specs.{IsPath, IsPortNumber, parent_of, supply_of}
use Rattle.usb_device.specs.{Plugged, Ports, State, device_there, reach, state_there}
use Rattle.usb_judge.specs.declared.plugged.PluggedDevice.{PluggedDevice}
use Rattle.usb_judge.specs.{Seen, device_seen, given_below, is_port_number, names_port, scene_in}
use Rattle.usb_judge.specs.{powers_itself, scene_on, state_seen}
use Rattle.usb_verdict.specs.{Adds, AddsPorts, IsOnPort, IsSeen, has_path, numbers_on}
use Rattle.usb_verdict.proofs.Ways.{state_there-above, state_there-own}
use Rattle.usb_verdict.proofs.Places.{get_kept, once_joined, once_none, ports_apart}

-- Numbers that name a port

pub record NamesPort (path : List ℕ) : Type 0 where
  pub least : 1 ≤ length path
  pub most : length path ≤ 7
  pub numbers : list_all is_port_number path ≡ true

three_parts : (x y z : Bool) → (x && y && z) ≡ true → (x ≡ true) × (y ≡ true) × (z ≡ true)
three_parts true true true h = (refl, refl, refl)
three_parts true true false h = absurd (false≢true h)
three_parts true false z h = absurd (false≢true h)
three_parts false y z h = absurd (false≢true h)

three_from : (x y z : Bool) → x ≡ true → y ≡ true → z ≡ true → (x && y && z) ≡ true
three_from true true true h i j = refl
three_from true true false h i j = j
three_from true false z h i j = i
three_from false y z h i j = h

pub names_from : (path : List ℕ) → names_port path ≡ true → NamesPort path
names_from path h =
    let parts : (_ ≡ true) × (_ ≡ true) × (_ ≡ true) = three_parts _ _ _ h in
    record {
      least = leb-true _ _ parts.0;
      most = leb-true _ _ parts.1;
      numbers = parts.2;
    }

pub names_port-from : (path : List ℕ) → NamesPort path → names_port path ≡ true
names_port-from path n =
    three_from _ _ _ (le-leb _ _ n.least) (le-leb _ _ n.most) n.numbers

-- so does a front of a path
names_above : (n : ℕ) (p q : List ℕ) → names_port ((n ∷ p) ++ q) ≡ true
    → names_port (n ∷ p) ≡ true
names_above n p q h =
    let whole : NamesPort ((n ∷ p) ++ q) = names_from ((n ∷ p) ++ q) h in
    let long : length ((n ∷ p) ++ q) ≡ length (n ∷ p) + length q = length-append (n ∷ p) q in
    let numbers : (list_all is_port_number (n ∷ p) ≡ true) × (_ ≡ true) =
    and_parts _ _ (sym (list_all-append is_port_number (n ∷ p) q) ∙ whole.numbers) in
    names_port-from (n ∷ p) (record {
      least = omega arith;
      most = omega (arith, whole.most, long);
      numbers = numbers.0;
    })

-- its last number is one of a port
pub last_small : (p : List ℕ) (n : ℕ) → names_port (p ++ n ∷ []) ≡ true → (1 ≤ n) × (n ≤ 15)
last_small p n h =
    let whole : NamesPort (p ++ n ∷ []) = names_from (p ++ n ∷ []) h in
    let numbers : (_ ≡ true) × (list_all is_port_number (n ∷ []) ≡ true) =
    and_parts _ _ (sym (list_all-append is_port_number p (n ∷ [])) ∙ whole.numbers) in
    let number : (is_port_number n ≡ true) × (true ≡ true) = and_parts _ _ numbers.1 in
    let both : (nat_le 1 n ≡ true) × (nat_le n 15 ≡ true) = and_parts _ _ number.0 in
    (leb-true _ _ both.0, leb-true _ _ both.1)

all_numbers : (path : List ℕ) → All IsPortNumber path → list_all is_port_number path ≡ true
all_numbers [] all = refl
all_numbers (n ∷ path) all =
    let here : IsPortNumber n = All-head IsPortNumber n path all in
    and_from _ _ (and_from _ _ (le-leb 1 n here.0) (le-leb n 15 here.1))
    (all_numbers path (All-tail IsPortNumber n path all))

pub path_named : (path : List ℕ) → IsPath path → names_port path ≡ true
path_named path is = names_port-from path (record {
  least = is.0;
  most = is.1;
  numbers = all_numbers path is.2;
})

pub is_named : (b : Bool) (p path : List ℕ) → p ≡ path → b ≡ true
    → Some p ≡ (if b then Some path else None)
is_named true p path e h = ap Some e
is_named false p path e h = absurd (false≢true h)

-- a path that goes on from another one
pub push_is : (above : Option (List ℕ)) (hub p : List ℕ) (n : ℕ) → above ≡ Some hub
    → p ≡ hub ++ n ∷ [] → IsPath p → Some p ≡ (if names_port (numbers_on above ++ n ∷ [])
    then Some (numbers_on above ++ n ∷ []) else None)
push_is above hub p n e is path =
    let same : p ≡ numbers_on above ++ n ∷ [] =
    is ∙ ap (λ (o : Option (List ℕ)). numbers_on o ++ n ∷ []) (sym e) in
    is_named (names_port (numbers_on above ++ n ∷ [])) p (numbers_on above ++ n ∷ []) same
    (subst (λ (r : List ℕ). names_port r ≡ true) same (path_named p path))

-- Where a device is plugged

abbrev seen_at : Ports → List ℕ → State → Seen
seen_at roots path = state_seen (reach roots path) (given_below roots (parent_of path))

some_parts : (b : Bool) (f : State → Seen) (o : Option State)
    → is_some (if b then option_map f o else None) ≡ true → (b ≡ true) × (is_some o ≡ true)
some_parts true f None h = absurd (false≢true h)
some_parts true f (Some s) h = (refl, refl)
some_parts false f o h = absurd (false≢true h)

some_from : (b : Bool) (f : State → Seen) (o : Option State) → b ≡ true → is_some o ≡ true
    → is_some (if b then option_map f o else None) ≡ true
some_from true f None h i = i
some_from true f (Some s) h i = refl
some_from false f o h i = h

-- the device at a path, as it is seen
pub device_is : (roots : Ports) (path : List ℕ) (t : Plugged) → IsPath path
    → device_there roots path ≡ Some t → scene_on roots path
    ≡ Some (state_seen (reach roots path) (given_below roots (parent_of path)) t.own)
device_is roots path t is there =
    let named : names_port path ≡ true = path_named path is in
    let state : state_there roots path ≡ Some t.own =
    state_there-own roots path ∙ ap (option_map (λ (x : Plugged). x.own)) there in
    ap (λ (b : Bool). if b then option_map (state_seen (reach roots path)
    (given_below roots (parent_of path))) (state_there roots path) else None) named
    ∙ ap (option_map (state_seen (reach roots path) (given_below roots (parent_of path)))) state

-- what the port of a path gives, where its hub is there
pub given_is : (roots : Ports) (parent : Option (List ℕ)) (hub : List ℕ) (t : Plugged)
    → parent ≡ Some hub → device_there roots hub ≡ Some t
    → given_below roots parent ≡ supply_of false t.own.spec.self_powered
given_is roots parent hub t is there = ap (given_below roots) is
    ∙ ap (λ (o : Option State). supply_of false (powers_itself o))
    (state_there-own roots hub ∙ ap (option_map (λ (x : Plugged). x.own)) there)

pub given_not : (roots : Ports) (parent : Option (List ℕ)) (hub : List ℕ) → parent ≡ Some hub
    → device_there roots hub ≡ None → given_below roots parent ≡ supply_of false false
given_not roots parent hub is there = ap (given_below roots) is
    ∙ ap (λ (o : Option State). supply_of false (powers_itself o))
    (state_there-own roots hub ∙ ap (option_map (λ (x : Plugged). x.own)) there)

-- what is seen of a device, part by part
pub same_seen : (a b : Seen) → a.low ≡ b.low → a.descriptor ≡ b.descriptor
    → a.configuration ≡ b.configuration → a.ports ≡ b.ports → a.supply ≡ b.supply
    → a.address ≡ b.address → a.reached ≡ b.reached → a ≡ b
same_seen a b low descriptor configuration ports supply address reached = λ i. record {
  low = low i;
  descriptor = descriptor i;
  configuration = configuration i;
  ports = ports i;
  supply = supply i;
  address = address i;
  reached = reached i;
}

abbrev no_seen : Option Seen
no_seen = None

same_either : (b : Bool) → (if b then no_seen else None) ≡ None
same_either true = refl
same_either false = refl

pub device_none : (roots : Ports) (path : List ℕ) → device_there roots path ≡ None
    → scene_on roots path ≡ None
device_none roots path there =
    let state : state_there roots path ≡ None =
    state_there-own roots path ∙ ap (option_map (λ (x : Plugged). x.own)) there in
    ap (λ (o : Option State). if names_port path then option_map (state_seen (reach roots path)
    (given_below roots (parent_of path))) o else None) state ∙ same_either (names_port path)

abbrev pub IsPlugged : Ports → List ℕ → Type 0
IsPlugged roots path = is_some (scene_on roots path) ≡ true

pub plugged_named : (roots : Ports) (path : List ℕ) → IsPlugged roots path
    → names_port path ≡ true
plugged_named roots path h = (some_parts (names_port path) (seen_at roots path)
    (state_there roots path) h).0

plugged_above : (roots : Ports) (n : ℕ) (p q : List ℕ) → IsPlugged roots ((n ∷ p) ++ q)
    → IsPlugged roots (n ∷ p)
plugged_above roots n p q h =
    let parts : (names_port ((n ∷ p) ++ q) ≡ true)
    × (is_some (state_there roots ((n ∷ p) ++ q)) ≡ true) =
    some_parts (names_port ((n ∷ p) ++ q)) (seen_at roots ((n ∷ p) ++ q))
    (state_there roots ((n ∷ p) ++ q)) h in
    some_from (names_port (n ∷ p)) (seen_at roots (n ∷ p)) (state_there roots (n ∷ p))
    (names_above n p q parts.0) (state_there-above roots n p q parts.1)

-- What was found stays

pub has-kept : (path : List ℕ) (xs ys : List PluggedDevice) → has_path xs path ≡ true
    → has_path (xs ++ ys) path ≡ true
has-kept path xs ys h =
    list_any-append (λ (d : PluggedDevice). bytes_eq d.path path) xs ys ∙ or_left _ _ h

has_kept_in : (path : List ℕ) (old more new : List PluggedDevice) → new ≡ old ++ more
    → has_path old path ≡ true → has_path new path ≡ true
has_kept_in path old more new e h =
    subst (λ (xs : List PluggedDevice). has_path xs path ≡ true) (sym e) (has-kept path old more h)

-- The ports of a hub, one by one

pub ports_none : (roots : Ports) (above : List ℕ) (old : List PluggedDevice)
    → AddsPorts roots above 1 old old
ports_none roots above old = record {
  more = [];
  joined = sym (append-nil old);
  seen = All-nil (IsSeen roots);
  here = All-nil (IsOnPort above 1);
  once = once_none;
  there = λ (n : ℕ) (low : n < 1) (is : IsPlugged roots (above ++ n ∷ [])).
      absurd (omega (
        arith,
        low,
        (last_small above n (plugged_named roots (above ++ n ∷ []) is)).0,
      ));
}

further : (roots : Ports) (above : List ℕ) (m : ℕ) (mid new more : List PluggedDevice)
    → new ≡ mid ++ more
    → ((n : ℕ) → n < m → IsPlugged roots (above ++ n ∷ []) → has_path mid (above ++ n ∷ []) ≡ true)
    → (IsPlugged roots (above ++ m ∷ []) → has_path new (above ++ m ∷ []) ≡ true)
    → (n : ℕ) → n < m + 1 → (n < m) ⊎ (m ≤ n) → IsPlugged roots (above ++ n ∷ [])
    → has_path new (above ++ n ∷ []) ≡ true
further roots above m mid new more e before last n low (inl less) is =
    has_kept_in (above ++ n ∷ []) mid more new e (before n less is)
further roots above m mid new more e before last n low (inr least) is =
    let same : m ≡ n = omega (arith, low, least) in
    subst (λ (j : ℕ). IsPlugged roots (above ++ j ∷ []) → has_path new (above ++ j ∷ []) ≡ true)
    same last is

more_ports : (above : List ℕ) (m : ℕ) (xs : List PluggedDevice) → All (IsOnPort above m) xs
    → All (IsOnPort above (m + 1)) xs
more_ports above m xs all = All-weaker (IsOnPort above m) (IsOnPort above (m + 1))
    (λ (d : PluggedDevice) (on : IsOnPort above m d). (on.0, omega (arith, on.1), on.2)) xs all

next_port : (above : List ℕ) (m : ℕ) (xs : List PluggedDevice)
    → All (λ d. d.path ≡ above ++ m ∷ []) xs → All (IsOnPort above (m + 1)) xs
next_port above m xs all =
    All-weaker (λ (d : PluggedDevice). d.path ≡ above ++ m ∷ []) (IsOnPort above (m + 1))
    (λ (d : PluggedDevice) (is : d.path ≡ above ++ m ∷ []). (m, omega arith, is)) xs all

pub ports_next : (roots : Ports) (above : List ℕ) (m : ℕ) (old mid new : List PluggedDevice)
    → AddsPorts roots above m old mid → Adds roots (above ++ m ∷ []) mid new
    → AddsPorts roots above (m + 1) old new
ports_next roots above m old mid new a b = record {
  more = a.more ++ b.more;
  joined = b.joined ∙ ap (λ (xs : List PluggedDevice). xs ++ b.more) a.joined
      ∙ append_assoc old a.more b.more;
  seen = All-append (IsSeen roots) a.more b.more a.seen b.seen;
  here = All-append (IsOnPort above (m + 1)) a.more b.more (more_ports above m a.more a.here)
      (next_port above m b.more b.here);
  once = once_joined a.more b.more a.once b.once (ports_apart above m a.more b.more a.here b.here);
  there = λ (n : ℕ) (low : n < m + 1).
      further roots above m mid new b.more b.joined a.there b.there n low (cases_lt n m);
}

-- no port has a greater number
all_ports : (roots : Ports) (above : List ℕ) (old new : List PluggedDevice)
    → AddsPorts roots above 16 old new → (n : ℕ) → IsPlugged roots (above ++ n ∷ [])
    → has_path new (above ++ n ∷ []) ≡ true
all_ports roots above old new a n is = a.there n (omega (
  arith,
  (last_small above n (plugged_named roots (above ++ n ∷ []) is)).1,
)) is

-- The devices, one by one

-- each device that was found is plugged, the ports of the root were looked at, and those of the
-- first devices
pub record Walked (roots : Ports) (count : ℕ) (found : List PluggedDevice) : Type 0 where
  pub seen : All (IsSeen roots) found
  pub first : (n : ℕ) → IsPlugged roots (n ∷ []) → has_path found (n ∷ []) ≡ true
  pub below : (j : ℕ) (d : PluggedDevice) → j < count → slice_get found j ≡ Some d → (n : ℕ)
      → IsPlugged roots (d.path ++ n ∷ []) → has_path found (d.path ++ n ∷ []) ≡ true

pub walk_begun : (roots : Ports) (found : List PluggedDevice)
    → AddsPorts roots [] 16 [] found → Walked roots 0 found
walk_begun roots found a = record {
  seen = subst (λ (xs : List PluggedDevice). All (IsSeen roots) xs) (sym a.joined) a.seen;
  first = all_ports roots [] [] found a;
  below = λ (j : ℕ) (d : PluggedDevice) (low : j < 0). absurd (omega (arith, low));
}

same_some : {X : Type 0} (o : Option X) (x y : X) → o ≡ Some x → o ≡ Some y → x ≡ y
same_some o x y h i = same_Some x y (sym h ∙ i)

below_next : (roots : Ports) (i : ℕ) (d : PluggedDevice) (found new : List PluggedDevice)
    → Walked roots i found → slice_get found i ≡ Some d → AddsPorts roots d.path 16 found new
    → (j : ℕ) (e : PluggedDevice) → (j < i) ⊎ (i ≤ j) → j < i + 1 → slice_get new j ≡ Some e
    → (n : ℕ) → IsPlugged roots (e.path ++ n ∷ []) → has_path new (e.path ++ n ∷ []) ≡ true
below_next roots i d found new w at a j e (inl less) low is n plugged =
    let inside : i < length found = slice_get_within found i d at in
    let kept : slice_get (found ++ a.more) j ≡ slice_get found j =
    get_kept found a.more j (omega (arith, inside, less)) in
    let old : slice_get found j ≡ Some e =
    sym kept ∙ ap (λ (xs : List PluggedDevice). slice_get xs j) (sym a.joined) ∙ is in
    has_kept_in (e.path ++ n ∷ []) found a.more new a.joined (w.below j e less old n plugged)
below_next roots i d found new w at a j e (inr least) low is n plugged =
    let same : j ≡ i = omega (arith, low, least) in
    let kept : slice_get (found ++ a.more) i ≡ slice_get found i =
    get_kept found a.more i (slice_get_within found i d at) in
    let one : d ≡ e = same_some (slice_get found i) d e at
    (sym kept ∙ ap (λ (xs : List PluggedDevice). slice_get xs i) (sym a.joined)
    ∙ ap (slice_get new) (sym same) ∙ is) in
    subst (λ (x : PluggedDevice). IsPlugged roots (x.path ++ n ∷ [])
    → has_path new (x.path ++ n ∷ []) ≡ true) one
    (all_ports roots d.path found new a n) plugged

pub walk_next : (roots : Ports) (i : ℕ) (d : PluggedDevice) (found new : List PluggedDevice)
    → Walked roots i found → slice_get found i ≡ Some d → AddsPorts roots d.path 16 found new
    → Walked roots (i + 1) new
walk_next roots i d found new w at a = record {
  seen = subst (λ (xs : List PluggedDevice). All (IsSeen roots) xs) (sym a.joined)
      (All-append (IsSeen roots) found a.more w.seen a.seen);
  first = λ (n : ℕ) (is : IsPlugged roots (n ∷ [])).
      has_kept_in (n ∷ []) found a.more new a.joined (w.first n is);
  below = λ (j : ℕ) (e : PluggedDevice) (low : j < i + 1).
      below_next roots i d found new w at a j e (cases_lt j i) low;
}

no_none : (o : Option PluggedDevice) → o ≡ None → is_some o ≡ true → ⊥
no_none o e h = false≢true (sym (ap is_some e) ∙ h)

slice_get_found : (found : List PluggedDevice) (i : ℕ) → i < length found
    → is_some (slice_get found i) ≡ true
slice_get_found [] i h = absurd (omega (arith, h))
slice_get_found (d ∷ found) zero h = refl
slice_get_found (d ∷ found) (suc i) h = slice_get_found found i (omega (arith, h))

none_left : (found : List PluggedDevice) (i : ℕ) (o : Option PluggedDevice)
    → slice_get found i ≡ o → None ≡ option_map (λ d. d.path) o
    → (i < length found) ⊎ (length found ≤ i) → length found ≤ i
none_left found i o at is (inr h) = h
none_left found i None at is (inl h) =
    absurd (no_none (slice_get found i) at (slice_get_found found i h))
none_left found i (Some d) at is (inl h) = absurd (cc)

pub all_walked : (found : List PluggedDevice) (i : ℕ)
    → None ≡ option_map (λ d. d.path) (slice_get found i) → length found ≤ i
all_walked found i is = none_left found i (slice_get found i) refl is (cases_lt i (length found))

-- All of them

-- a device that was found has a place in the list
record Placed (found : List PluggedDevice) (path : List ℕ) : Type 0 where
  device : PluggedDevice
  place : ℕ
  inside : place < length found
  at : slice_get found place ≡ Some device
  is : device.path ≡ path

later_placed : (x : PluggedDevice) (found : List PluggedDevice) (path : List ℕ)
    → Placed found path → Placed (x ∷ found) path
later_placed x found path p = record {
  device = p.device;
  place = suc p.place;
  inside = omega (arith, p.inside);
  at = p.at;
  is = p.is;
}

placed_first : (x : PluggedDevice) (found : List PluggedDevice) (path : List ℕ)
    → (has_path found path ≡ true → Placed found path)
    → (bytes_eq x.path path ≡ true) ⊎ (has_path found path ≡ true) → Placed (x ∷ found) path
placed_first x found path more (inl h) = record {
  device = x;
  place = 0;
  inside = omega arith;
  at = refl;
  is = (bytes_eq-Decides x.path path).0 h;
}
placed_first x found path more (inr h) = later_placed x found path (more h)

placed : (found : List PluggedDevice) (path : List ℕ) → has_path found path ≡ true
    → Placed found path
placed [] path h = absurd (false≢true h)
placed (x ∷ found) path h =
    placed_first x found path (placed found path) (or_cases (bytes_eq x.path path) _ h)

below_placed : (roots : Ports) (found : List PluggedDevice) (path : List ℕ)
    → Walked roots (length found) found → Placed found path → (n : ℕ)
    → IsPlugged roots (path ++ n ∷ []) → has_path found (path ++ n ∷ []) ≡ true
below_placed roots found path w p n = subst (λ (q : List ℕ). IsPlugged roots (q ++ n ∷ [])
    → has_path found (q ++ n ∷ []) ≡ true) p.is (w.below p.place p.device p.inside p.at n)

-- from a path that was found on, number by number
goes_on : (roots : Ports) (found : List PluggedDevice) → Walked roots (length found) found
    → (m : ℕ) (p q : List ℕ) → has_path found (m ∷ p) ≡ true → IsPlugged roots ((m ∷ p) ++ q)
    → has_path found ((m ∷ p) ++ q) ≡ true
goes_on roots found w m p [] h is = subst (λ (r : List ℕ). has_path found r ≡ true)
    (sym (append-nil (m ∷ p))) h
goes_on roots found w m p (n ∷ q) h is =
    let same : ((m ∷ p) ++ n ∷ []) ++ q ≡ (m ∷ p) ++ (n ∷ q) =
    append_assoc (m ∷ p) (n ∷ []) q in
    let here : IsPlugged roots (((m ∷ p) ++ n ∷ []) ++ q) =
    subst (λ (r : List ℕ). IsPlugged roots r) (sym same) is in
    subst (λ (r : List ℕ). has_path found r ≡ true) same
    (goes_on roots found w m (p ++ n ∷ []) q
    (below_placed roots found (m ∷ p) w (placed found (m ∷ p) h) n
    (plugged_above roots m (p ++ n ∷ []) q here)) here)

all_found : (roots : Ports) (found : List PluggedDevice) → Walked roots (length found) found
    → (path : List ℕ) → IsPlugged roots path → has_path found path ≡ true
all_found roots found w [] is = absurd (false≢true is)
all_found roots found w (m ∷ p) is = goes_on roots found w m [] p
    (w.first m (plugged_above roots m [] p is)) is

-- what is found of a path: the device that is plugged there, or none
abbrev Outcome : Ports → List ℕ → Bool → Option Seen → Type 0
Outcome roots path has seen =
    ((has ≡ true) × (seen ≡ scene_on roots path)) ⊎ ((has ≡ false) × (seen ≡ None))

outcome_first : (roots : Ports) (path : List ℕ) (d : PluggedDevice) (ds : List PluggedDevice)
    (b : Bool) → (b ≡ true → scene_on roots path ≡ Some (device_seen d))
    → Outcome roots path (has_path ds path) (scene_in ds path)
    → Outcome roots path (b || has_path ds path) (option_map device_seen
    (cond b (Some d) (find (λ (x : PluggedDevice). bytes_eq x.path path) ds)))
outcome_first roots path d ds true here more = inl (refl, sym (here refl))
outcome_first roots path d ds false here more = more

outcome : (roots : Ports) (path : List ℕ) (found : List PluggedDevice)
    → All (IsSeen roots) found → Outcome roots path (has_path found path) (scene_in found path)
outcome roots path [] seen = inr (refl, refl)
outcome roots path (d ∷ ds) seen = outcome_first roots path d ds (bytes_eq d.path path)
    (λ (h : bytes_eq d.path path ≡ true). subst (λ (p : List ℕ).
    scene_on roots p ≡ Some (device_seen d)) ((bytes_eq-Decides d.path path).0 h)
    (All-head (IsSeen roots) d ds seen))
    (outcome roots path ds (All-tail (IsSeen roots) d ds seen))

none_unless : (o : Option Seen) → (is_some o ≡ true → ⊥) → None ≡ o
none_unless None h = refl
none_unless (Some seen) h = absurd (h refl)

by_outcome : (roots : Ports) (path : List ℕ) (has : Bool) (seen : Option Seen)
    → (IsPlugged roots path → has ≡ true) → Outcome roots path has seen
    → seen ≡ scene_on roots path
by_outcome roots path has seen all (inl o) = o.1
by_outcome roots path has seen all (inr o) = o.1 ∙ none_unless (scene_on roots path)
    (λ (is : IsPlugged roots path). both_ways _ o.0 (all is))

pub all_plugged : (roots : Ports) (found : List PluggedDevice) (count : ℕ)
    → Walked roots count found → length found ≤ count → (path : List ℕ)
    → scene_in found path ≡ scene_on roots path
all_plugged roots found count w most path =
    let whole : Walked roots (length found) found = record {
      seen = w.seen;
      first = w.first;
      below = λ (j : ℕ) (d : PluggedDevice) (low : j < length found).
          w.below j d (omega (arith, low, most));
    } in
    by_outcome roots path _ _ (all_found roots found whole path)
    (outcome roots path found w.seen)
