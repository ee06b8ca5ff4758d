-- Where the devices are that were reported, which news comes next, and how few they are.
use Rattle.usb_world.proofs.Interface.{decided, same_is}
use Rattle.std.proofs.Common.{◌≡◌, ◌≢◌, ◌∙◌, ap, arith, refl, subst, sym, ℕ, zero, suc, ◌+◌, ◌-◌}
use Rattle.std.proofs.Common.{◌<◌, List, [], ◌∷◌, Bool, true, false, ◌||◌, Option, Some, None}
use Rattle.std.proofs.Common.{length, cond, inl, inr, is_some, nat_eq, eqb, map, unwrap_or}
use Rattle.std.proofs.lemmas.Bool.{eqb-true, ne_eqb, cases_order}
use Rattle.std.specs.BTreeMap.{insert_entry, is_at}
use Rattle.std.specs.List.{list_any, slice_get, AllByRecursion, insert, remove, IsDistinct}
use Rattle.std.specs.Ordering.{match_ordering, is_eq}
use Rattle.std.specs.declared.cmp.Ordering.{Ordering}
use Rattle.std.specs.declared.cmp.Ordering.TheVariants.{Less, Equal, Greater}
use Rattle.usb_port.specs.{path_cmp, Addresses, HasAddresses}
use Rattle.usb_table.proofs.Interface.{path_tied, path_itself}
use Rattle.usb_host.specs.{HasArrived, IsFirstLeft, IsLeast, NoneLeft, ReportsArrived, ReportsLeft}
use Rattle.usb_host.specs.{news_left, number_in, HostState, Known, ReportedDevices, known_in}
use Rattle.usb_host.specs.{KeepsNumbers, KnownDevice, News, NoNews, NumbersFit, ReportsNews}
use Rattle.usb_host.specs.{device_in, path_of_news, reported_at, IsPlaceOf, ReportedRise, Agrees}
use Rattle.usb_host.specs.{DeviceNumbers, claims, HasLeft, IsNextUnreported, known_device}
use Rattle.std.specs.Map.{remove_entry, keys_of, lookup}
use Rattle.std.specs.Option.{option_map}
use Rattle.std.specs.List.Sorted.{IsStrictlySortedBy}
use Rattle.std.specs.Cmp.Lexicographic.{nat_list_cmp_total, pointwise, same_text, texts_ties}
use Rattle.std.proofs.lemmas.List.Elements.{All-from_recursion, recursion_from_All}
use Rattle.std.proofs.lemmas.Map.Entries.{lookup_at_gap, lookup_from_place, length-keys_of}
use Rattle.std.proofs.lemmas.Map.Entries.{place_from_lookup}
use Rattle.std.proofs.lemmas.Map.Keys.{IsDistinct-from_sorted, sorted_head, sorted_tail}
use Rattle.std.proofs.lemmas.Map.Views.{All-map-remove_entry}
use Rattle.std.specs.Cmp.{eq_by_cmp_equiv}
use Rattle.usb_host.proofs.entries.Agreements.{claims_distinct, claims_taken}
use Rattle.usb_host.proofs.entries.Agreements.{lookup-insert_entry_elsewhere, lookup-removed}
use Rattle.std.proofs.lemmas.Map.Steps.{length-le_from_distinct_below}
use Rattle.usb_enum.specs.{Finding}
use Rattle.usb_table.specs.{Entries, address_in, ComesAfter, IsLast, IsNext, Stands}
use Rattle.usb_table.specs.{accepted_device_of, is_accepted}
use Rattle.usb_host.specs.Accounts.{Accounts}

-- Each news leaves fewer, and a device stays as long as no news is of its path.

-- what is so of one at a place is so of some
any_at : (test : List ℕ × ℕ → Bool) (rs : ReportedDevices) (i : ℕ) (d : List ℕ × ℕ)
    → slice_get rs i ≡ Some d → test d ≡ true → list_any test rs ≡ true
any_at test [] i d at is = absurd (cc at)
any_at test (r ∷ rs) zero d at is = grind arith
any_at test (r ∷ rs) (suc i) d at is = by (test r) (any_at test rs i d at is)
  where
    by : (b : Bool) → list_any test rs ≡ true → (b || list_any test rs) ≡ true
    by true more = refl
    by false more = more

-- and if it is so of none, of not any
not_any : (test : List ℕ × ℕ → Bool) (rs : ReportedDevices)
    → ((i : ℕ) (d : List ℕ × ℕ) → slice_get rs i ≡ Some d → test d ≡ false)
    → list_any test rs ≡ false
not_any test [] none = refl
not_any test (r ∷ rs) none =
    let here : test r ≡ false = none zero r refl in
    rw here (not_any test rs (λ i d at. none (suc i) d at))

counted_step : (test : List ℕ × ℕ → Bool) (p : List ℕ) (n : ℕ) (r : List ℕ × ℕ)
    (rs : ReportedDevices) → test (p, n) ≡ false → (test r || list_any test rs) ≡ false
    → (list_any test rs ≡ false → list_any test (insert_entry path_cmp rs p n) ≡ false)
    → (o : Ordering) → path_cmp p r.0 ≡ o
    → list_any test (match_ordering o ((p, n) ∷ r ∷ rs) ((r.0, n) ∷ rs)
    (r ∷ insert_entry path_cmp rs p n)) ≡ false
counted_step test p n r rs new none more Less is = rw new none
counted_step test p n r rs new none more Equal is =
    let path : p ≡ r.0 = path_tied p r.0 (rw is refl) in
    let here : test (r.0, n) ≡ false = rw path at new in
    rw here (rest_off (test r) none)
  where
    rest_off : (b : Bool) → (b || list_any test rs) ≡ false → list_any test rs ≡ false
    rest_off true off = absurd (cc off)
    rest_off false off = off
counted_step test p n r rs new none more Greater is = by (test r) none
  where
    by : (b : Bool) → (b || list_any test rs) ≡ false
        → (b || list_any test (insert_entry path_cmp rs p n)) ≡ false
    by true off = absurd (cc off)
    by false off = more off

not_entered : (test : List ℕ × ℕ → Bool) (p : List ℕ) (n : ℕ) (rs : ReportedDevices)
    → test (p, n) ≡ false → list_any test rs ≡ false
    → list_any test (insert_entry path_cmp rs p n) ≡ false
not_entered test p n [] new none = rw new refl
not_entered test p n (r ∷ rs) new none =
    counted_step test p n r rs new none (λ off. not_entered test p n rs new off)
    (path_cmp p r.0) refl

-- one that left is taken out
pub fewer_left : {path : List ℕ} {old new : HostState} → ReportsLeft path old new → (place : ℕ)
    → IsFirstLeft (known_in old) place → length new.reported + 1 ≡ length old.reported
    → news_left new < news_left old
fewer_left left place first less = grind (arith, any_at)

-- one that arrived comes in
fewer_entered : (old : HostState) (reported : ReportedDevices) (path : List ℕ)
    (arrived : IsLeast (HasArrived (known_in old)) path) → NoneLeft (known_in old)
    → reported ≡ insert_entry path_cmp old.reported path arrived.is.number
    → length reported ≡ length old.reported + 1 → length old.reported < 128
    → news_left (record old { reported = reported }) < news_left old
fewer_entered old reported path arrived none entered more room = grind (arith, not_any, not_entered)

pub fewer_arrived : {path : List ℕ} {old new : HostState} → ReportsArrived path old new
    → NoneLeft (known_in old) → length new.reported ≡ length old.reported + 1
    → length old.reported < 128 → news_left new < news_left old
fewer_arrived x none more room = grind (arith, fewer_entered)

-- A device stays

-- News of another path

apart_at : (p q : List ℕ) → q ≢ p → is_at (path_cmp p) q ≡ false
apart_at p q other = elim (decided (is_at (path_cmp p) q)) [
  | inl tie ↦ absurd (other (sym (path_tied p q tie)))
  | inr off ↦ off
]

pub other_news : (path : List ℕ) (news : News) (old new : HostState)
    → ReportsNews old (Some news) new → path_of_news news ≢ path
    → (new ≡ record old { reported = new.reported })
    × (reported_at path new.reported ≡ reported_at path old.reported)
other_news path news old new left other =
    grind (arith, apart_at, lookup-insert_entry_elsewhere, lookup-removed)

-- A device that stays

-- a device with a number that was given before was there before
was_there : (path : List ℕ) (old new : HostState) → KeepsNumbers old new → (device : KnownDevice)
    → device_in path (known_in new) ≡ Some device → device.number < old.numbers.next
    → device_in path (known_in old) ≡ Some device
was_there path old new keeps device at lt = grind arith

pub stays_between : (path : List ℕ) (device : KnownDevice) (a m b c : HostState)
    → NumbersFit (known_in a) → NoNews a → device_in path (known_in a) ≡ Some device
    → KeepsNumbers a m → KeepsNumbers m b → c ≡ record b { reported = c.reported } → NoNews c
    → reported_at path c.reported ≡ reported_at path b.reported
    → (device_in path (known_in m) ≡ Some device) × (device_in path (known_in c) ≡ Some device)
stays_between path device a m b c fit none at before behind rest ended same =
    by (device_in path (known_in b)) refl
  where
    known : device_in path (known_in c) ≡ device_in path (known_in b)
    known = grind arith

    numbers : number_in path (known_in b) ≡ Some device.number
    numbers = grind arith

    by : (o : Option KnownDevice) → device_in path (known_in b) ≡ o
        → (device_in path (known_in m) ≡ Some device)
        × (device_in path (known_in c) ≡ Some device)
    by None is = absurd (cc (rw is at numbers))
    by (Some e) is =
        let number : e.number ≡ device.number = cc (rw is at numbers) in
        let lt = fit.given path device at in
        let there = was_there path m b behind e is (omega (arith, before.rising)) in
        let first = was_there path a m before e there (omega arith) in
        let one : e ≡ device = cc (sym first ∙ at) in
        (rw one at there, known ∙ rw one at is)

pub rise_none : ReportedRise []
unfolding IsStrictlySortedBy
rise_none = tt

-- A device is taken out

-- what is so of each path is so of the one at a place
pub path_at : (P : List ℕ → Type 0) (rs : ReportedDevices) (i : ℕ) (d : List ℕ × ℕ)
    → AllByRecursion P (keys_of rs) → slice_get rs i ≡ Some d → P d.0
path_at P [] i d h at = absurd cc
path_at P (r ∷ rs) zero d h at = grind arith
path_at P (r ∷ rs) (suc i) d h at = path_at P rs i d h.1 at

-- a path before another is not at it
apart_before : (p q : List ℕ) → path_cmp p q ≡ Less → is_at (path_cmp q) p ≡ false
apart_before p q less = grind (arith, nat_list_cmp_total)

pub removed_at : (rs : ReportedDevices) (place : ℕ) (d : List ℕ × ℕ) → ReportedRise rs
    → slice_get rs place ≡ Some d → remove rs place ≡ remove_entry (is_at (path_cmp d.0)) rs
removed_at [] place d rise at = absurd cc
removed_at (r ∷ rs) zero d rise at = grind (arith, path_itself)
removed_at (r ∷ rs) (suc i) d rise at =
    let less = path_at (λ k. path_cmp r.0 k ≡ Less) rs i d (search sorted_head) at in
    rw (apart_before r.0 d.0 less)
    (ap (λ xs. r ∷ xs) (removed_at rs i d (search sorted_tail) at))

rise_step : (test : List ℕ → Bool) (r : List ℕ × ℕ) (rs : ReportedDevices)
    → ReportedRise (r ∷ rs) → ReportedRise (remove_entry test rs) → (b : Bool)
    → ReportedRise (cond b rs (r ∷ remove_entry test rs))
unfolding IsStrictlySortedBy
rise_step test r rs rise more true = rise.1
rise_step test r rs rise more false =
    let P : List ℕ → Type 0 = λ k. path_cmp r.0 k ≡ Less in (
      recursion_from_All P (keys_of (remove_entry test rs))
          (All-map-remove_entry test (λ e. e.0) P rs (All-from_recursion P (keys_of rs) rise.0)),
      more,
    )

pub rise_removed : (test : List ℕ → Bool) (rs : ReportedDevices) → ReportedRise rs
    → ReportedRise (remove_entry test rs)
rise_removed test [] rise = rise
rise_removed test (r ∷ rs) rise =
    rise_step test r rs rise (rise_removed test rs (search sorted_tail))
    (test r.0)

-- A device is entered

insert_step : (p : List ℕ) (n : ℕ) (r : List ℕ × ℕ) (rs : ReportedDevices)
    → reported_at p (r ∷ rs) ≡ None → path_cmp r.0 p ≢ Less → (o : Ordering)
    → path_cmp p r.0 ≡ o
    → (p, n) ∷ r ∷ rs ≡ match_ordering o ((p, n) ∷ r ∷ rs) ((r.0, n) ∷ rs)
    (r ∷ insert_entry path_cmp rs p n)
insert_step p n r rs none least o is = grind (arith, nat_list_cmp_total)

-- at the place of its path
pub inserted_at : (p : List ℕ) (n place : ℕ) (rs : ReportedDevices) → reported_at p rs ≡ None
    → IsPlaceOf p place rs → insert rs place (p, n) ≡ insert_entry path_cmp rs p n
inserted_at p n zero [] none is = refl
inserted_at p n (suc i) [] none is = grind arith
inserted_at p n zero (r ∷ rs) none is = grind (arith, insert_step)
inserted_at p n (suc i) (r ∷ rs) none is =
    let less : path_cmp r.0 p ≡ Less = is.before 0 r (omega arith) refl in
    let back : path_cmp p r.0 ≡ Greater = grind (arith, nat_list_cmp_total) in
    let rest : reported_at p rs ≡ None = rw (apart_before r.0 p less) at none in
    rw back (ap (λ xs. r ∷ xs) (inserted_at p n i rs rest (record {
      inside = omega arith;
      before = λ k d lt at. is.before (suc k) d (omega arith) at;
      after = λ d at. is.after d at;
    })))

-- Whether one is reported at a path

greater_at : {p : List ℕ} {place : ℕ} {rs : ReportedDevices} → IsPlaceOf p place rs → (i : ℕ)
    (d : List ℕ × ℕ) → i < place → slice_get rs i ≡ Some d → path_cmp p d.0 ≡ Greater
greater_at is i d lt at = grind (arith, nat_list_cmp_total)

less_at : (p q : List ℕ) → path_cmp q p ≢ Less → (o : Ordering) → path_cmp q p ≡ o
    → is_eq o ≡ false → path_cmp p q ≡ Less
less_at p q least o is apart = grind (arith, nat_list_cmp_total)

pub unreported_past : (p : List ℕ) (place : ℕ) (rs : ReportedDevices) → ReportedRise rs
    → IsPlaceOf p place rs → slice_get rs place ≡ None → reported_at p rs ≡ None
unreported_past p place rs rise is past =
    lookup_at_gap nat_list_cmp_total p rs place rise (greater_at is)
    (λ d at. absurd (cc (past, at)))

unreported_at : (p : List ℕ) (place : ℕ) (d : List ℕ × ℕ) (rs : ReportedDevices)
    → ReportedRise rs → IsPlaceOf p place rs → slice_get rs place ≡ Some d
    → is_eq (path_cmp d.0 p) ≡ false → reported_at p rs ≡ None
unreported_at p place d rs rise is here apart =
    lookup_at_gap nat_list_cmp_total p rs place rise (greater_at is) (grind (arith, less_at))

pub reported_here : (p : List ℕ) (place n : ℕ) (rs : ReportedDevices) → ReportedRise rs
    → slice_get rs place ≡ Some (p, n) → reported_at p rs ≡ Some n
reported_here p place n rs rise here =
    lookup_from_place (eq_by_cmp_equiv nat_list_cmp_total) rs place p n
    (IsDistinct-from_sorted path_cmp (keys_of rs) rise) here

-- so it is if the path at the place is the same
pub has_at : (p : List ℕ) (place : ℕ) (q : List ℕ) (n : ℕ) (rs : ReportedDevices)
    → ReportedRise rs → IsPlaceOf p place rs → slice_get rs place ≡ Some (q, n) → (b : Bool)
    → b ≡ pointwise nat_eq q p → b ≡ is_some (reported_at p rs)
has_at p place q n rs rise is here true same =
    let path : q ≡ p = same_text q p same in grind (arith, reported_here)
has_at p place q n rs rise is here false other =
    sym (ap is_some (unreported_at p place (q, n) rs rise is here (sym (other ∙ texts_ties q p))))

-- The news that comes next

-- The order of paths

pub not_less : (p : List ℕ) → path_cmp p p ≡ Less → (b : Bool) → is_at (path_cmp p) p ≡ b
    → b ≡ true → {P : Type 0} → P
not_less p less b is on = absurd (cc (rw less at is, on))

not_both : (p q : List ℕ) → path_cmp p q ≡ Less → path_cmp q p ≡ Less → {P : Type 0} → P
not_both p q less back = grind (arith, nat_list_cmp_total)

less_by : (p q : List ℕ) → path_cmp q p ≢ Less → q ≢ p → (o : Ordering) → path_cmp q p ≡ o
    → path_cmp p q ≡ Less
less_by p q least other o is = grind (arith, nat_list_cmp_total, path_tied)

-- The first that left

rising_at : (rs : ReportedDevices) (i j : ℕ) (a b : List ℕ × ℕ) → ReportedRise rs → i < j
    → slice_get rs i ≡ Some a → slice_get rs j ≡ Some b → path_cmp a.0 b.0 ≡ Less
rising_at [] i j a b rise lt at_i at_j = absurd cc
rising_at (r ∷ rs) zero zero a b rise lt at_i at_j = absurd (omega arith)
rising_at (r ∷ rs) zero (suc j) a b rise lt at_i at_j =
    let same : r ≡ a = cc at_i in
    subst (λ (x : List ℕ × ℕ). path_cmp x.0 b.0 ≡ Less) same
    (path_at (λ k. path_cmp r.0 k ≡ Less) rs j b (search sorted_head) at_j)
rising_at (r ∷ rs) (suc i) zero a b rise lt at_i at_j = absurd (omega arith)
rising_at (r ∷ rs) (suc i) (suc j) a b rise lt at_i at_j =
    rising_at rs i j a b (search sorted_tail) (omega arith) at_i at_j

module _ (k : Known) (rise : ReportedRise k.reported) where
  -- the place of a device that left
  place_of_left : (q : List ℕ) → (left : HasLeft k q)
      → (i : ℕ) × (slice_get k.reported i ≡ Some (q, left.number))
  place_of_left q left =
      let place = place_from_lookup (is_at (path_cmp q)) k.reported left.number left.reported in
      let same : q ≡ place.1 = path_tied q place.1 place.3 in grind arith

  pub none_left : NoneLeft k → (q : List ℕ) → HasLeft k q → ⊥
  none_left none q left =
      let place = place_of_left q left in left.gone (none place.0 (q, left.number) place.1)

  least_by : (place : ℕ) (p : List ℕ) (n : ℕ) → slice_get k.reported place ≡ Some (p, n)
      → ((i : ℕ) (other : List ℕ × ℕ) → i < place → slice_get k.reported i ≡ Some other
      → number_in other.0 k ≡ Some other.1) → (q : List ℕ) → HasLeft k q → path_cmp q p ≢ Less
  least_by place p n at before q left less =
      let there = place_of_left q left in
      elim (cases_order there.0 place) [
        | inl same ↦
            let here : slice_get k.reported place ≡ Some (q, left.number) = grind arith in
            let both : (q, left.number) ≡ (p, n) = cc (sym here ∙ at) in
            let path : q ≡ p = ap (λ (d : List ℕ × ℕ). d.0) both in
            not_less p (rw path at less) (is_at (path_cmp p) p) refl (path_itself p)
        | inr other ↦ elim other [
          | inl lt ↦ left.gone (before there.0 (q, left.number) lt there.1)
          | inr gt ↦ not_both p q (rising_at k.reported place there.0 (p, n) (q, left.number) rise
              gt at there.1) less
        ]
      ]

  pub left_first : (place : ℕ) → (first : IsFirstLeft k place) → (p : List ℕ) (n : ℕ)
      → slice_get k.reported place ≡ Some (p, n) → IsLeast (HasLeft k) p
  left_first place first p n at =
      record {
        is = grind (arith, reported_here);
        least = least_by place p n at first.before;
      }

-- The next that arrived

abbrev pub number_of : DeviceNumbers → Option Finding → Option ℕ
number_of numbers o =
    option_map (λ (d : KnownDevice). d.number) (known_device (accepted_device_of o) numbers)

module _ (k : Known) (last : Option (List ℕ))
    (passed : (q : List ℕ) → HasArrived k q → ComesAfter last q) where
  stands : (q : List ℕ) → HasArrived k q → Stands is_accepted last k.entries q
  stands q arrived = grind arith

  pub none_arrived : IsLast is_accepted last k.entries → (q : List ℕ) → HasArrived k q → ⊥
  none_arrived none q arrived = none q (stands q arrived)

  module _ (p : List ℕ) (next : IsNext is_accepted last k.entries p) where
    unreported : (o : Option ℕ) → is_some o ≡ false → o ≡ None
    unreported o off = grind arith

    pub next_arrived : (n : ℕ) → number_in p k ≡ Some n
        → is_some (reported_at p k.reported) ≡ false → IsNextUnreported k (p, n)
    next_arrived n there off = record {
      arrived = grind arith;
      number = refl;
    }

    -- one that was reported is passed
    pub passed_next : is_some (reported_at p k.reported) ≡ true → (q : List ℕ) → HasArrived k q
        → ComesAfter (Some p) q
    passed_next on q arrived = grind (arith, less_by)

-- Each device that was reported is there, and they are those that are accepted

pub same_known : (k : Known) → ReportedRise k.reported → NoneLeft k
    → ((q : List ℕ) → HasArrived k q → ⊥) → (q : List ℕ)
    → reported_at q k.reported ≡ number_in q k
same_known k rise none all q = by (reported_at q k.reported) refl (number_in q k) refl
  where
    by : (r : Option ℕ) → reported_at q k.reported ≡ r → (n : Option ℕ) → number_in q k ≡ n → r ≡ n
    by None at None there = refl
    by None at (Some n) there =
        absurd (all q (search unreported))
    by (Some m) at n there =
        let place = place_from_lookup (is_at (path_cmp q)) k.reported m at in
        let same : q ≡ place.1 = path_tied q place.1 place.3 in
        let here : number_in q k ≡ Some m =
        rw same (none place.0 (place.1, m) place.2) in
        sym here ∙ there

-- Fewer than addresses

length_mapped : (f : List ℕ → ℕ) (ps : List (List ℕ)) → length (map f ps) ≡ length ps
length_mapped f [] = refl
length_mapped f (p ∷ ps) = ap suc (length_mapped f ps)

module _ (es : Entries) (pool : Addresses) (accounts : Accounts es pool)
    (range : HasAddresses pool) where
  address : List ℕ → ℕ
  address p = unwrap_or (claims es p) 0

  -- each of the paths has an accepted device
  abbrev Listed : List (List ℕ) → Type 0
  Listed ps = AllByRecursion (λ p. (a : ℕ) × (claims es p ≡ Some a)) ps

  same_device : (p q : List ℕ) (a b : ℕ) → claims es p ≡ Some a → claims es q ≡ Some b
      → address p ≡ address q → q ≡ p
  unfolding address
  same_device p q a b at_p at_q same = grind (arith, claims_distinct, same_is)

  apart : (p : List ℕ) (a : ℕ) → claims es p ≡ Some a → (qs : List (List ℕ)) → Listed qs
      → AllByRecursion (λ q. q ≢ p) qs
      → AllByRecursion (λ b. eqb (address p) b ≡ false) (map address qs)
  apart p a at [] listed other = tt
  apart p a at (q ∷ qs) listed other = (
    ne_eqb (address p) (address q) (grind (arith, same_device)),
    apart p a at qs listed.1 other.1,
  )

  others : (p : List ℕ) (qs : List (List ℕ)) → AllByRecursion (λ q. path_cmp p q ≡ Less) qs
      → AllByRecursion (λ q. q ≢ p) qs
  others p [] less = tt
  others p (q ∷ qs) less = (
    λ same. not_less p (rw same at less.0) (is_at (path_cmp p) p) refl (path_itself p),
    others p qs less.1,
  )

  distinct : (ps : List (List ℕ)) → Listed ps → IsStrictlySortedBy path_cmp ps
      → IsDistinct eqb (map address ps)
  unfolding IsDistinct
  distinct [] listed rise = tt
  distinct (p ∷ ps) listed rise = (
    apart p listed.0.0 listed.0.1 ps listed.1 (others p ps (sorted_head path_cmp p ps rise)),
    distinct ps listed.1 (sorted_tail path_cmp p ps rise),
  )

  below : (p : List ℕ) (a : ℕ) → claims es p ≡ Some a → address p < 128
  unfolding address
  below p a at = rw at (range a (claims_taken accounts p a at)).1

  inside : (ps : List (List ℕ)) → Listed ps → (b : ℕ)
      → list_any (eqb b) (map address ps) ≡ true → b < 128
  inside [] listed b is = absurd cc
  inside (p ∷ ps) listed b is =
      by (λ more. inside ps listed.1 b more) (eqb b (address p)) refl is
    where
      by : (list_any (eqb b) (map address ps) ≡ true → b < 128) → (here : Bool)
          → eqb b (address p) ≡ here → (here || list_any (eqb b) (map address ps)) ≡ true
          → b < 128
      by later true same is = rw (eqb-true b (address p) same) (below p listed.0.0 listed.0.1)
      by later false other is = later is

  few : (ps : List (List ℕ)) → Listed ps → IsStrictlySortedBy path_cmp ps → (p : List ℕ) (a : ℕ)
      → claims es p ≡ Some a → AllByRecursion (λ q. q ≢ p) ps → length ps < 128
  unfolding IsDistinct
  few ps listed rise p a at other =
      let most = length-le_from_distinct_below (address p ∷ map address ps) 128
      (apart p a at ps listed other, distinct ps listed rise)
      (inside (p ∷ ps) ((a, at), listed)) in
      omega (arith, most, length_mapped address ps)

claimed : (numbers : DeviceNumbers) (o : Option Finding) (n : ℕ) → number_of numbers o ≡ Some n
    → (a : ℕ) × (address_in o ≡ Some a)
claimed numbers o n is = grind arith

-- what is so of the device at each place is so of each
all_keys : (P : List ℕ → Type 0) (rs : ReportedDevices)
    → ((i : ℕ) (d : List ℕ × ℕ) → slice_get rs i ≡ Some d → P d.0) → AllByRecursion P (keys_of rs)
all_keys P [] each = tt
all_keys P (r ∷ rs) each = (each zero r refl, all_keys P rs (λ i d at. each (suc i) d at))

room_left : (k : Known) (pool : Addresses) → Accounts k.entries pool → HasAddresses pool
    → ReportedRise k.reported → NoneLeft k → (p : List ℕ) → HasArrived k p
    → length k.reported < 128
room_left k pool accounts range rise none p arrived =
    let x = claimed k.numbers (lookup (is_at (path_cmp p)) k.entries) arrived.number arrived.there
    in
    let short = few k.entries pool accounts range (keys_of k.reported)
    (all_keys (λ q. (a : ℕ) × (claims k.entries q ≡ Some a)) k.reported (λ i d at.
    claimed k.numbers (lookup (is_at (path_cmp d.0)) k.entries) d.1 (none i d at)))
    rise p x.0 x.1 (all_keys (λ q. q ≢ p) k.reported (λ i d at same.
    absurd (cc (reported_here p i d.1 k.reported rise (rw (← same) at), arrived.unreported)))) in
    omega (arith, short, length-keys_of k.reported)

pub host_room : (h : HostState) → Agrees h.options h.entries h.addresses → ReportedRise h.reported
    → NoneLeft (known_in h) → (p : List ℕ) → HasArrived (known_in h) p → length h.reported < 128
host_room h agrees = room_left (known_in h) h.addresses agrees.accounts agrees.range
