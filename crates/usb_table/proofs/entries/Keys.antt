-- Entries that come and go under their keys.
use Rattle.std.proofs.Common.{◌≡◌, ◌≢◌, ◌⊎◌, ◌∙◌, sym, inl, inr, true, ℕ, List, refl, ap, false}
use Rattle.std.proofs.Common.{Bool, cond, [], ◌∷◌, Option, Some, None, All, ◌||◌, IsSome, IfSome}
use Rattle.std.proofs.Common.{option_map, arith, ◌+◌, length, not, is_some, nat_eq, ◌++◌}
use Rattle.std.proofs.Common.{append_assoc}
use Rattle.std.proofs.lemmas.Bool.{cases_Bool, eqb-true, eq-eqb, false_from_ne_true}
use Rattle.std.specs.BTreeMap.{is_at, insert_entry}
use Rattle.std.specs.Cmp.{eq_by_cmp_equiv, nat_cmp_total, unsigned_tied}
use Rattle.std.specs.Cmp.Lexicographic.{nat_list_cmp_total, same_text, texts_ties, pointwise}
use Rattle.usb_port.specs.{path_cmp, is_below}
use Rattle.std.specs.Prelude.{unwrap_or}
use Rattle.std.specs.Map.{lookup, keys_of, values_of, remove_entry}
use Rattle.std.specs.List.{list_any, filter, count_by, AllByRecursion}
use Rattle.std.specs.List.Sorted.{IsStrictlySortedBy}
use Rattle.std.specs.Ordering.{nat_cmp, is_eq, match_ordering}
use Rattle.std.specs.declared.cmp.Ordering.{Ordering}
use Rattle.std.specs.declared.cmp.Ordering.TheVariants.{Less, Greater}
use Rattle.std.proofs.lemmas.List.Elements.{All-head, All-tail, recursion_from_All}
use Rattle.std.proofs.lemmas.Map.Keys.{IsDistinct-from_sorted, sorted_head, sorted_tail}
use Rattle.std.proofs.lemmas.Map.Made.{lookup-map_values}
use Rattle.std.proofs.lemmas.Map.Views.{All-values_from_lookup}
use Rattle.usb_enum.specs.{Silent, Finding}
use Rattle.usb_enum.specs.declared.finding.Finding.TheVariants.{Refused, Device}
use Rattle.usb_table.specs.{Pipes, Table, Entries, Rises, has_at, is_at_or_below, Entry, TableSlots}
use Rattle.usb_table.specs.{Slots, PathKeys, AddressKeys, key_of_path, key_of_address, under}
use Rattle.usb_table.specs.{values_by_path, findings, finding_under, entries_of, address_in}
use Rattle.usb_table.specs.{with_address, without_address, without, TakesOut, address_found}
use Rattle.usb_table.specs.{HasDevice, HasNoDevice, AreIndexes, has_address, HasNewAddress}
use Rattle.usb_table.specs.{table_of, with_entry}
use Rattle.usb_world.proofs.Interface.{neither}
use Rattle.std.proofs.lemmas.List.Sums.{sum_by-cons}
use Rattle.std.proofs.lemmas.List.{append-nil}

-- Paths that tie are the same.

pub path_tied : (q k : List ℕ) → is_at (path_cmp q) k ≡ true → q ≡ k
path_tied q k tie = same_text q k (sym (texts_ties q k ∙ tie))

pub path_itself : (q : List ℕ) → is_at (path_cmp q) q ≡ true
path_itself q = (eq_by_cmp_equiv nat_list_cmp_total).refl q

pub cases_path : (q path : List ℕ) → (q ≡ path) ⊎ (q ≢ path)
cases_path q path = elim (cases_Bool (is_at (path_cmp path) q)) [
  | inl tie ↦ inl (sym (path_tied path q tie))
  | inr apart ↦
      inr (grind (arith, path_itself))
]

-- Entries that come and go under their keys.

-- Tests of keys

pub number_tied : (x y : ℕ) → is_at (nat_cmp x) y ≡ true → x ≡ y
number_tied x y tie = eqb-true x y (sym (unsigned_tied x y) ∙ tie)

pub number_itself : (x : ℕ) → is_at (nat_cmp x) x ≡ true
number_itself x = (eq_by_cmp_equiv nat_cmp_total).refl x

-- What the lists show of the keys

module _ {A : Type 0} (none : A) (slots : ℕ → Option A) where
  pub values_by_path-lookup : (path : List ℕ) (paths : PathKeys)
      → lookup (is_at (path_cmp path)) (values_by_path none slots paths)
      ≡ option_map (under none slots) (key_of_path paths path)
  values_by_path-lookup path paths = search lookup-map_values

  pub values_by_path-remove : (test : List ℕ → Bool) (paths : PathKeys)
      → values_by_path none slots (remove_entry test paths)
      ≡ remove_entry test (values_by_path none slots paths)
  values_by_path-remove test [] = refl
  values_by_path-remove test (e ∷ es) = grind (arith, values_by_path-remove test es)

  pub values_by_path-insert : (path : List ℕ) (key : ℕ) (paths : PathKeys)
      → values_by_path none slots (insert_entry path_cmp paths path key)
      ≡ insert_entry path_cmp (values_by_path none slots paths) path (under none slots key)
  values_by_path-insert path key [] = refl
  values_by_path-insert path key (e ∷ es) = grind (arith, values_by_path-insert path key es)

-- slots that agree on the keys show the same

if_some_slot : {P : ℕ → Type 0} (slot : Option ℕ) → ((key : ℕ) → slot ≡ Some key → P key)
    → IfSome slot P
if_some_slot slot each = grind arith

module _ {A : Type 0} (none : A) (old new : ℕ → Option A) where
  values_by_path-agree : (paths : PathKeys) → All (λ k. new k ≡ old k) (values_of paths)
      → values_by_path none new paths ≡ values_by_path none old paths
  values_by_path-agree [] all = refl
  values_by_path-agree (e ∷ es) all =
      let head : new e.1 ≡ old e.1 = All-head (λ k. new k ≡ old k) e.1 (values_of es) all in
      let tail = values_by_path-agree es (All-tail (λ k. new k ≡ old k) e.1 (values_of es) all) in
      grind arith

  pub agree : (paths : PathKeys) → IsStrictlySortedBy path_cmp (keys_of paths)
      → ((path : List ℕ) (key : ℕ) → key_of_path paths path ≡ Some key → new key ≡ old key)
      → values_by_path none new paths ≡ values_by_path none old paths
  agree paths rises each =
      values_by_path-agree paths
      (All-values_from_lookup (eq_by_cmp_equiv nat_list_cmp_total) (λ k. new k ≡ old k) paths
      (IsDistinct-from_sorted path_cmp (keys_of paths) rises) (search if_some_slot))

-- What the entries show of the keys

entries-lookup : (found : Slots) (path : List ℕ) (paths : PathKeys)
    → lookup (is_at (path_cmp path)) (entries_of found paths) ≡ option_map (finding_under found)
    (key_of_path paths path)
entries-lookup found = values_by_path-lookup (Refused Silent) found

pub entries_of-key : (found : Slots) (path : List ℕ) (paths : PathKeys) (key : ℕ)
    (finding : Finding) → key_of_path paths path ≡ Some key → found key ≡ Some finding
    → lookup (is_at (path_cmp path)) (entries_of found paths) ≡ Some finding
entries_of-key found path paths key finding is stands = grind (arith, entries-lookup, found)

pub entries_of-no_key : (found : Slots) (path : List ℕ) (paths : PathKeys)
    → key_of_path paths path ≡ None → lookup (is_at (path_cmp path)) (entries_of found paths) ≡ None
entries_of-no_key found path paths is = grind (arith, entries-lookup, found)

pub findings-standing : (standings : TableSlots) (key : ℕ) (s : Entry) → standings key ≡ Some s
    → findings standings key ≡ Some s.finding
findings-standing standings key s stands = grind arith

finding-some : (o : Option Entry) → IsSome (option_map (λ (t : Entry). t.finding) o) → IsSome o
finding-some o h = grind arith

pub some_standing : (standings : TableSlots) (key : ℕ) → IsSome (findings standings key)
    → IsSome (standings key)
some_standing standings key h = finding-some (standings key) h

pub finding_stands : (found : Slots) (key : ℕ) (finding : Finding) → found key ≡ Some finding
    → finding_under found key ≡ finding
finding_stands found key finding stands = grind arith

entries-keys : (found : Slots) (paths : PathKeys) → keys_of (entries_of found paths)
    ≡ keys_of paths
entries-keys found [] = refl
entries-keys found (e ∷ es) = ap (λ ks. e.0 ∷ ks) (entries-keys found es)

pub entries_rise : (found : Slots) (paths : PathKeys) → IsStrictlySortedBy path_cmp (keys_of paths)
    → Rises (entries_of found paths)
entries_rise found paths rises = rw (entries-keys found paths) rises

pub entries-has_at : (found : Slots) (path : List ℕ) (paths : PathKeys)
    → has_at path (entries_of found paths) ≡ list_any (λ e. is_at_or_below e.0 path) paths
entries-has_at found path [] = refl
entries-has_at found path (e ∷ es) = ap (λ b. is_at_or_below e.0 path || b)
    (entries-has_at found path es)

-- The table is its two lists

pub same_table : (entries others : Entries) (pipes more : List (List ℕ × Pipes)) → entries ≡ others
    → pipes ≡ more → ◌≡◌ {A = Table} (record { entries = entries; pipes = pipes })
    (record { entries = others; pipes = more })
same_table entries others pipes more e f = grind arith

-- What is entered can be taken back

back_step : (address key : ℕ) (e : ℕ × ℕ) (es : AddressKeys) → is_at (nat_cmp address) e.0 ≡ false
    → remove_entry (is_at (nat_cmp address)) (insert_entry nat_cmp es address key) ≡ es
    → (o : Ordering) → nat_cmp address e.0 ≡ o → remove_entry (is_at (nat_cmp address))
    (match_ordering o ((address, key) ∷ e ∷ es) ((e.0, key) ∷ es)
    (e ∷ insert_entry nat_cmp es address key)) ≡ e ∷ es
back_step address key e es apart more o is = grind (arith, number_itself)

tail_none : (b : Bool) (k : ℕ) (rest : Option ℕ) → cond b (Some k) rest ≡ None → (b ≡ false)
    × (rest ≡ None)
tail_none b k rest h = grind arith

back : (address key : ℕ) (es : AddressKeys) → key_of_address es address ≡ None
    → remove_entry (is_at (nat_cmp address)) (insert_entry nat_cmp es address key) ≡ es
back address key [] none = rw (number_itself address) refl
back address key (e ∷ es) none =
    let parts = tail_none (is_at (nat_cmp address) e.0) e.1 (key_of_address es address) none in
    back_step address key e es parts.0 (back address key es parts.1) (nat_cmp address e.0) refl

pub taken_back : (address : Option ℕ) (key : ℕ) (es : AddressKeys)
    → IfSome address (λ a. key_of_address es a ≡ None)
    → without_address address (with_address address key es) ≡ es
taken_back address key es free = grind (arith, back)

some_address : (o : Option Finding) (a : ℕ) → address_in o ≡ Some a → IsSome o
some_address o a h = grind arith

none_or : (o : Option ℕ) → (o ≡ None) ⊎ ((k : ℕ) × (o ≡ Some k))
none_or None = inl refl
none_or (Some k) = inr (k, refl)

-- Entries that are taken out.

length_without : (test : List ℕ → Bool) (es : Entries) (v : Finding) → lookup test es ≡ Some v
    → length (remove_entry test es) + 1 ≡ length es
length_without test [] v h = absurd cc
length_without test (e ∷ es) v h = grind (arith, length_without test es v)

pub takes_one : (path : List ℕ) (finding : Finding) (old new : Table)
    → TakesOut path finding old new → length new.entries + 1 ≡ length old.entries
takes_one path finding old new t = grind (arith, length_without)

-- a taken entry stood at the path or below it, so that what stands elsewhere is as before
kept_step : (keep : List ℕ → Bool) (e : List ℕ × Finding) (es rest : Entries) (b : Bool)
    → (b ≡ true → keep e.0 ≡ false) → filter (λ d. keep d.0) rest ≡ filter (λ d. keep d.0) es
    → filter (λ d. keep d.0) (cond b es (e ∷ rest)) ≡ filter (λ d. keep d.0) (e ∷ es)
kept_step keep e es rest b goes more = grind arith

kept_apart : (keep test : List ℕ → Bool) → ((q : List ℕ) → test q ≡ true → keep q ≡ false)
    → (es : Entries) → filter (λ d. keep d.0) (remove_entry test es) ≡ filter (λ d. keep d.0) es
kept_apart keep test goes [] = refl
kept_apart keep test goes (e ∷ es) = grind (arith, kept_apart keep test goes es, kept_step)

pub taken_apart : (path : List ℕ) (finding : Finding) (old new : Table)
    → TakesOut path finding old new → without path new.entries ≡ without path old.entries
taken_apart path finding old new t =
    ap (λ (left : Table). without path left.entries) t.rest
    ∙ kept_apart (λ q. not (is_at_or_below q path)) (is_at (path_cmp t.first))
    (grind (arith, path_tied)) old.entries

pub none_apart : (path : List ℕ) (es : Entries) → has_at path es ≡ false → without path es ≡ es
none_apart path [] h = refl
none_apart path (e ∷ es) h =
    let parts = neither (is_at_or_below e.0 path) (has_at path es) h in
    rw parts.0 (ap (λ l. e ∷ l) (none_apart path es parts.1))

-- What the keys of addresses tell of the entries.

pub addressed_stands : (found : Slots) (paths : PathKeys) (addresses : AddressKeys)
    (address key : ℕ) → AreIndexes found paths addresses → key_of_address addresses address
    ≡ Some key → IsSome (found key)
addressed_stands found paths addresses address key are is =
    some_address (found key) address (grind arith)

pub has_device : (found : Slots) (paths : PathKeys) (addresses : AddressKeys) (address key : ℕ)
    (finding : Finding) → AreIndexes found paths addresses → key_of_address addresses address
    ≡ Some key → found key ≡ Some finding → HasDevice address finding (entries_of found paths)
has_device found paths addresses address key finding are is stands =
    let at = are.named key (ap is_some stands) in
    record {
      path = at.0;
      found = grind (arith, entries_of-key, found);
      addressed = sym (ap address_in stands) ∙ (are.addressed address key).0 is;
    }

some_or : (o : Option Finding) → IsSome o → (f : Finding) × (o ≡ Some f)
some_or o s = grind arith

no_device_by : (found : Slots) (paths : PathKeys) (addresses : AddressKeys) (address : ℕ)
    → AreIndexes found paths addresses → key_of_address addresses address ≡ None
    → (path : List ℕ) (finding : Finding) (key : Option ℕ) → key_of_path paths path ≡ key
    → option_map (finding_under found) key ≡ Some finding → address_found finding ≢ Some address
no_device_by found paths addresses address are none path finding None at is = absurd cc
no_device_by found paths addresses address are none path finding (Some key) at is = λ has.
    let it = some_or (found key) (are.stands path key at) in
    let same : it.0 ≡ finding = cc (is, finding_stands found key it.0 it.1) in
    let here : key_of_address addresses address ≡ Some key =
    (are.addressed address key).1 (grind arith) in
    absurd (cc (here, none))

pub key_of_address-no_device : (found : Slots) (paths : PathKeys) (addresses : AddressKeys)
    (address : ℕ) → AreIndexes found paths addresses → key_of_address addresses address ≡ None
    → HasNoDevice address (entries_of found paths)
key_of_address-no_device found paths addresses address are none =
    grind (arith, entries-lookup, found, no_device_by)

-- An entry that is to come has no key yet, and so has its address.

-- What is told of the entries, as the keys have it

is_at-not_way : (path q : List ℕ) → is_at_or_below q path ≡ false → is_at (path_cmp path) q ≡ false
is_at-not_way path q apart = false_from_ne_true _ (λ tie.
    let yes : pointwise nat_eq q path ≡ true = texts_ties q path
    ∙ rw (path_tied path q tie) (path_itself q) in
    cc (yes, (neither (pointwise nat_eq q path) (is_below q path) apart).0))

pub none_at : (path : List ℕ) (es : Entries) → has_at path es ≡ false
    → lookup (is_at (path_cmp path)) es ≡ None
none_at path [] none = refl
none_at path (e ∷ es) none =
    let parts = neither (is_at_or_below e.0 path) (has_at path es) none in
    ap (λ b. cond b (Some e.1) (lookup (is_at (path_cmp path)) es))
    (is_at-not_way path e.0 parts.0) ∙ none_at path es parts.1

none_shown : (f : ℕ → Finding) (key : Option ℕ) → option_map f key ≡ None → key ≡ None
none_shown f key none = grind arith

pub away_key : (found : Slots) (path : List ℕ) (paths : PathKeys)
    → lookup (is_at (path_cmp path)) (entries_of found paths) ≡ None
    → key_of_path paths path ≡ None
away_key found path paths none = grind (arith, entries-lookup, found, none_shown)

count_by-found : (a : ℕ) (path : List ℕ) (es : Entries) (f : Finding)
    → lookup (is_at (path_cmp path)) es ≡ Some f → has_address a f ≡ true
    → count_by (λ d. has_address a d.1) es ≡ 0 → ⊥
count_by-found a path [] f is has none = absurd cc
count_by-found a path (e ∷ es) f is has none =
    let split : count_by (λ d. has_address a d.1) (e ∷ es) ≡ cond (has_address a e.1) 1 0 + count_by
    (λ d. has_address a d.1) es = sum_by-cons (λ d. cond (has_address a d.1) 1 0) e es in
    let rest : count_by (λ d. has_address a d.1) es ≡ 0 = omega (arith, split, none) in
    (elim (is_at (path_cmp path) e.0) as (λ b. cond b (Some e.1) (lookup (is_at (path_cmp path)) es)
    ≡ Some f → ⊥) [
      | true ↦ λ h.
          let same : e.1 ≡ f = cc h in
          let one : ◌≡◌ {A = ℕ} (cond (has_address a e.1) 1 0) 1 = grind arith in
          absurd (omega (arith, split, one, none))
      | false ↦ λ h. count_by-found a path es f h has rest
    ]) is

pub has_its : (f : Finding) (a : ℕ) → address_found f ≡ Some a → has_address a f ≡ true
unfolding has_address
has_its f a is = grind (arith, eq-eqb)

address_in-some : (o : Option Finding) (a : ℕ) → address_in o ≡ Some a → (f : Finding)
    × (o ≡ Some f) × (address_found f ≡ Some a)
address_in-some o a h = grind arith

key_of_address-none : (found : Slots) (paths : PathKeys) (addresses : AddressKeys)
    → AreIndexes found paths addresses → (a : ℕ)
    → count_by (λ e. has_address a e.1) (entries_of found paths) ≡ 0
    → key_of_address addresses a ≡ None
key_of_address-none found paths addresses are a none = elim (none_or (key_of_address addresses a)) [
  | inl nothing ↦ nothing
  | inr some ↦
      let k = some.0 in
      let f = address_in-some (found k) a (grind arith) in
      let at = are.named k (ap is_some f.1) in
      absurd (count_by-found a at.0 (entries_of found paths) f.0
      (entries_of-key found at.0 paths k f.0 at.1 f.1) (has_its f.0 a f.2) none)
]

pub free_key : (found : Slots) (paths : PathKeys) (addresses : AddressKeys) (finding : Finding)
    → AreIndexes found paths addresses → HasNewAddress finding (entries_of found paths)
    → IfSome (address_found finding) (λ a. key_of_address addresses a ≡ None)
free_key found paths addresses finding are fresh = grind (arith, found, key_of_address-none)

-- A table that is copied entry by entry, by rising path.

-- What comes next in a rising list goes behind what there is

greater : (path q : List ℕ) → path_cmp q path ≡ Less → path_cmp path q ≡ Greater
greater path q less = grind (arith, less, nat_list_cmp_total)

module _ {A : Type 0} (path : List ℕ) where
  -- the paths are less
  abbrev AreBefore : List (List ℕ × A) → Type 0
  AreBefore had = AllByRecursion (λ d. path_cmp d.0 path ≡ Less) had

  insert_last : (had : List (List ℕ × A)) (value : A) → AreBefore had
      → insert_entry path_cmp had path value ≡ had ++ (path, value) ∷ []
  insert_last [] value less = refl
  insert_last (d ∷ ds) value less = grind (arith, insert_last ds value less.1, d, greater, less)

  none_yet : (had : List (List ℕ × A)) → AreBefore had
      → lookup (is_at (path_cmp path)) had ≡ None
  none_yet [] less = refl
  none_yet (d ∷ ds) less = grind (arith, none_yet ds less.1, d, greater, less)

module _ {A : Type 0} where
  at_middle : (P : List ℕ → Type 0) (ds : List (List ℕ × A)) (e : List ℕ × A)
      (rest : List (List ℕ × A)) → AllByRecursion P (keys_of (ds ++ e ∷ rest)) → P e.0
  at_middle P [] e rest all = all.0
  at_middle P (d ∷ ds) e rest all = at_middle P ds e rest all.1

  before_next : (had : List (List ℕ × A)) (e : List ℕ × A) (rest : List (List ℕ × A))
      → IsStrictlySortedBy path_cmp (keys_of (had ++ e ∷ rest)) → AreBefore e.0 had
  before_next [] e rest rises = tt
  before_next (d ∷ ds) e rest rises = (
    at_middle (λ p. path_cmp d.0 p ≡ Less) ds e rest (search (d, sorted_head, d.0)),
    before_next ds e rest (grind (arith, d, sorted_tail)),
  )

prefix : {X : Type 0} (P : X → Type 0) (xs ys : List X) → AllByRecursion P (xs ++ ys)
    → AllByRecursion P xs
prefix P [] ys all = tt
prefix P (x ∷ xs) ys all = (all.0, prefix P xs ys all.1)

middle : {X : Type 0} (P : X → Type 0) (xs : List X) (x : X) (ys : List X)
    → AllByRecursion P (xs ++ x ∷ ys) → P x
middle P [] x ys all = all.0
middle P (y ∷ xs) x ys all = middle P xs x ys all.1

-- No entry before it has its address

address_of_found : (o : Option Finding) (a : ℕ)
    → has_address a (unwrap_or o (Refused Silent)) ≡ true → address_in o ≡ Some a
unfolding has_address
address_of_found o a has = grind (arith, eqb-true)

module _ (found : Slots) (paths : PathKeys) (addresses : AddressKeys)
    (are : AreIndexes found paths addresses) (path : List ℕ) (key a : ℕ)
    (at : key_of_path paths path ≡ Some key) (has : address_in (found key) ≡ Some a) where
  -- at another path, which is less
  abbrev IsOther : List ℕ × ℕ → Type 0
  IsOther d = (key_of_path paths d.0 ≡ Some d.1) × (path_cmp d.0 path ≡ Less)

  not_its : (d : List ℕ × ℕ) → IsOther d → has_address a (finding_under found d.1) ≡ false
  not_its d other = elim (cases_Bool (has_address a (finding_under found d.1))) [
    | inl is ↦
        let one = (are.addressed a d.1).1 (address_of_found (found d.1) a is) in
        let two = (are.addressed a key).1 has in
        let same : d.1 ≡ key = cc (one, two) in
        let here : path ≡ d.0 = grind (arith, d) in
        let less : path_cmp d.0 d.0 ≡ Less = rw here at other.1 in
        let apart : is_at (path_cmp d.0) d.0 ≡ false = ap is_eq less in
        let itself = path_itself d.0 in
        absurd (cc (apart, itself))
    | inr not ↦ not
  ]

  none_has : (ds : PathKeys) → AllByRecursion IsOther ds
      → count_by (λ e. has_address a e.1) (entries_of found ds) ≡ 0
  none_has [] all = refl
  none_has (d ∷ ds) all = grind (arith, none_has ds all.1, d, found, not_its, sum_by-cons)

both : {X : Type 0} (P Q : X → Type 0) (xs : List X) → AllByRecursion P xs → AllByRecursion Q xs
    → AllByRecursion (λ x. P x × Q x) xs
both P Q [] p q = tt
both P Q (x ∷ xs) p q = ((p.0, q.0), both P Q xs p.1 q.1)

new_address : (found : Slots) (paths : PathKeys) (addresses : AddressKeys)
    → AreIndexes found paths addresses → (path : List ℕ) (key : ℕ) (finding : Finding)
    → key_of_path paths path ≡ Some key → found key ≡ Some finding → (ds : PathKeys)
    → AllByRecursion (λ d. (key_of_path paths d.0 ≡ Some d.1) × (path_cmp d.0 path ≡ Less)) ds
    → HasNewAddress finding (entries_of found ds)
new_address found paths addresses are path key (Device device) at stands ds others =
    none_has found paths addresses are path key device.address at (ap address_in stands) ds others
new_address found paths addresses are path key (Refused cause) at stands ds others = tt

-- The copy as far as it has come

shown : {A : Type 0} (none : A) (slots : ℕ → Option A) (ds : PathKeys) (e : List ℕ × ℕ)
    → values_by_path none slots (ds ++ e ∷ [])
    ≡ values_by_path none slots ds ++ (e.0, under none slots e.1) ∷ []
shown none slots [] e = refl
shown none slots (d ∷ ds) e = grind (arith, shown none slots ds e, d)

before_shown : {A : Type 0} (none : A) (slots : ℕ → Option A) (path : List ℕ) (ds : PathKeys)
    → AreBefore path ds → AreBefore path (values_by_path none slots ds)
before_shown none slots path [] less = tt
before_shown none slots path (d ∷ ds) less = (less.0, before_shown none slots path ds less.1)

-- the entries before the rest are in it
pub record Copied (standings : TableSlots) (paths rest : PathKeys) (copy : Table) : Type 0 where
  before : PathKeys
  split : before ++ rest ≡ paths
  is : copy ≡ table_of standings before

pub copied_none : (standings : TableSlots) (paths rest : PathKeys) (copy : Table) → rest ≡ paths
    → copy ≡ table_of standings [] → Copied standings paths rest copy
copied_none standings paths rest copy all none = grind arith

pub copied_all : (standings : TableSlots) (paths rest : PathKeys) (copy : Table)
    → Copied standings paths rest copy → rest ≡ [] → copy ≡ table_of standings paths
copied_all standings paths rest copy d none = grind (arith, append-nil, d)

-- what comes next
module _ (standings : TableSlots) (paths left rest : PathKeys) (path : List ℕ) (key : ℕ)
    (copy : Table) (rises : IsStrictlySortedBy path_cmp (keys_of paths))
    (each : All (λ e. key_of_path paths e.0 ≡ Some e.1) paths)
    (so_far : Copied standings paths left copy) (step : left ≡ (path, key) ∷ rest) where
  pub d : Copied standings paths ((path, key) ∷ rest) copy
  d = rw step at so_far

  abbrev pub IsFound : List ℕ × ℕ → Type 0
  IsFound e = key_of_path paths e.0 ≡ Some e.1

  pub found : AllByRecursion IsFound (d.before ++ (path, key) ∷ rest)
  found = rw d.split (recursion_from_All IsFound paths each)

  pub next_at : key_of_path paths path ≡ Some key
  next_at = grind (arith, d, found, middle)

  less : AreBefore path d.before
  less = grind (arith, before_next, d)

  pub next_away : lookup (is_at (path_cmp path)) copy.entries ≡ None
  next_away = grind (arith, before_shown, d, less, none_yet)

  pub next_address : (addresses : AddressKeys) (s : Entry) → standings key ≡ Some s
      → AreIndexes (findings standings) paths addresses → HasNewAddress s.finding copy.entries
  next_address addresses s stands are =
      grind (arith, both, d, findings-standing, found, less, new_address, next_at, prefix)

  -- one list with one more value
  one_more : {A : Type 0} (none : A) (slots : ℕ → Option A) (value : A) → slots key ≡ Some value
      → insert_entry path_cmp (values_by_path none slots d.before) path value
      ≡ values_by_path none slots (d.before ++ (path, key) ∷ [])
  one_more none slots value at = grind (arith, before_shown, d, insert_last, less, shown)

  pub copied_more : (s : Entry) (new : Table) → standings key ≡ Some s
      → new ≡ with_entry path s.finding s.pipes copy → Copied standings paths rest new
  copied_more s new stands put =
      grind (arith, append_assoc, d, findings-standing, one_more, same_table)
