-- Where an event is asked for in vain at a wait, no more of the plan's events are found.
use Rattle.std.proofs.Common.{◌≡◌, ◌≢◌, ◌≤◌, ◌<◌, ◌+◌, ◌⊎◌, inl, inr, ℕ, zero, suc, Bool, true}
use Rattle.std.proofs.Common.{false}
use Rattle.std.proofs.Common.{◌&&◌, ◌||◌, ◌==◌, nat_le, nat_lt, List, [], ◌∷◌, map, Option, None}
use Rattle.std.proofs.Common.{Some, is_none}
use Rattle.std.proofs.Common.{if◌then◌else◌, drop, length, refl, arith, subst, ⊎_elim}
use Rattle.usb_world.proofs.Interface.{decided}
use Rattle.usb_places.specs.declared.seen.Deed.{Deed}
use Rattle.usb_places.specs.declared.seen.Seen.{Seen}
use Rattle.usb_places.specs.declared.sought.Sought.{Sought}
use Rattle.usb_places.specs.declared.sought.Whose.{Whose}
use Rattle.usb_places.specs.declared.sought.Whose.TheVariants as whose
use Rattle.usb_places.specs.declared.transfer.Transfer.{Transfer}
use Rattle.usb_places.specs.{PlacesData, after_of, after_seen, events_known, found_in, is_attempt}
use Rattle.usb_places.specs.{finds, is_event, is_wait, seen_at, seen_by, stands}
use Rattle.usb_world.specs.{Event, World, after_most}
use Rattle.usb_bench_laws.proofs.Seen.{count_as_before, found_as_before, same_events, then_known}

-- At a wait the next event is found

swapped : (m n : ℕ) → (m == n) ≡ true → (n == m) ≡ true
swapped m n e = grind (arith, e)

stands_there : (w : Whose) (reached : Bool) (x : Seen) → is_event w x.taken ≡ true
    → nat_le x.since after_most ≡ true → is_wait x.deed ≡ true → stands w reached x ≡ true
unfolding stands
stands_there (whose.Event k) reached x e soon waits = rw (swapped k x.taken e, soon, waits) refl
stands_there (whose.Damage d) reached x e soon waits = absurd (cc)

some_or : (o : Option ℕ) (b : Bool) (n : ℕ) → b ≡ true
    → (if is_none o && b then Some n else o) ≢ None
some_or (Some m) b n e = λ (h : Some m ≡ None). cc
some_or None true n e = λ (h : Some n ≡ None). cc
some_or None false n e = absurd (cc)

one_or : (b : Bool) (found rest : Option ℕ) → (b ≡ true → found ≢ None) → rest ≢ None
    → (if b then found else rest) ≢ None
one_or true found rest f r = f refl
one_or false found rest f r = r

found_there : (t : Option Transfer) (x : Seen) (ss : List Sought) (own : ℕ)
    → nat_le x.since after_most ≡ true → is_wait x.deed ≡ true
    → after_of (map (seen_by t x) ss) x.taken own ≢ None
unfolding after_of seen_by
found_there t x [] own soon waits = λ (h : Some own ≡ None). cc
found_there t x (s ∷ ss) own soon waits = one_or (is_event s.whose x.taken) _ _
    (λ e. some_or s.found _ _ (stands_there s.whose _ x e soon waits))
    (found_there t x ss own soon waits)

none_left : (k : ℕ) (events : List Event) → events ≡ [] → drop k events ≡ []
none_left zero events e = e
none_left (suc k) [] e = refl
none_left (suc k) (x ∷ events) e = absurd (cc)

-- where all events that are known came, and the next one is found if there is one, there is none

ends_first : (e : Event) (events xs : List Event) (o : Option ℕ) (k : ℕ)
    → (k ≡ 0 → o ≢ None) → ((j : ℕ) → k ≡ suc j → j ≤ length xs → drop j xs ≡ []
    → drop j events ≡ [])
    → k ≤ length (then_known e o xs) → drop k (then_known e o xs) ≡ [] → drop k (e ∷ events) ≡ []
ends_first e events xs None zero known more le none = absurd (known refl refl)
ends_first e events xs None (suc k) known more le none = absurd (omega (arith, le))
ends_first e events xs (Some n) zero known more le none = absurd (cc (none))
ends_first e events xs (Some n) (suc k) known more le none =
    more k refl (omega (arith, le)) none

pub ends_there : (ts : List Sought) (n : ℕ) → ((own : ℕ) → after_of ts n own ≢ None)
    → (before k : ℕ) (events : List Event) → before + k ≡ n
    → k ≤ length (events_known ts before events) → drop k (events_known ts before events) ≡ []
    → drop k events ≡ []
unfolding events_known
ends_there ts n known before k [] at le none = none_left k [] refl
ends_there ts n known before k (e ∷ events) at le none =
    ends_first e events (events_known ts (before + 1) events) (after_of ts before e.after) k
    (λ first. subst (λ m. after_of ts m e.after ≢ None) (omega (arith, at, first)) (known e.after))
    (λ j next. ends_there ts n known (before + 1) j events (omega (arith, at, next))) le none

pub wait_ends : (t : Option Transfer) (x : Seen) (ss : List Sought) (events : List Event)
    → is_wait x.deed ≡ true
    → x.taken ≤ length (events_known (map (seen_by t x) ss) 0 events)
    → drop x.taken (events_known (map (seen_by t x) ss) 0 events) ≡ []
    → (drop x.taken events ≡ []) ⊎ (after_most < x.since)
wait_ends t x ss events waits le none = ⊎_elim
    (λ soon. inl (ends_there (map (seen_by t x) ss) x.taken
    (λ own. found_there t x ss own soon waits) 0 x.taken events (omega arith) le none))
    (λ late. inr (grind (arith, late))) (decided (nat_le x.since after_most))

-- Then none is found later

short_first : (e : Event) (events xs : List Event) (o : Option ℕ) (k : ℕ)
    → ((j : ℕ) → drop j events ≡ [] → drop j xs ≡ []) → drop k (e ∷ events) ≡ []
    → drop k (then_known e o xs) ≡ []
short_first e events xs o zero more none = absurd (cc (none))
short_first e events xs None (suc k) more none = refl
short_first e events xs (Some n) (suc k) more none = more k none

short : (ts : List Sought) (before : ℕ) (events : List Event) (k : ℕ) → drop k events ≡ []
    → drop k (events_known ts before events) ≡ []
unfolding events_known
short ts before [] k none = none_left k [] refl
short ts before (e ∷ events) k none =
    short_first e events (events_known ts (before + 1) events) (after_of ts before e.after) k
    (λ j. short ts (before + 1) events j) none

neither : (b c : Bool) → (b && false && c) ≡ false
neither true c = refl
neither false c = refl

stands_late : (w : Whose) (before : ℕ) (reached : Bool) (x : Seen) → is_event w before ≡ true
    → nat_le x.since after_most ≡ false → stands w reached x ≡ false
unfolding stands
stands_late (whose.Event k) before reached x e late = rw late (neither (x.taken == k) _)
stands_late (whose.Damage d) before reached x e late = absurd (cc)

one_same : (b : Bool) (found rest now later : Option ℕ) → (b ≡ true → now ≡ found)
    → later ≡ rest → (if b then now else later) ≡ (if b then found else rest)
one_same true found rest now later f r = f refl
one_same false found rest now later f r = r

late_after : (t : Option Transfer) (x : Seen) (ss : List Sought) (before own : ℕ)
    → nat_le x.since after_most ≡ false
    → after_of (map (seen_by t x) ss) before own ≡ after_of ss before own
unfolding after_of seen_by
late_after t x [] before own late = refl
late_after t x (s ∷ ss) before own late = one_same (is_event s.whose before) _ _ _ _
    (λ e. found_as_before s.found _ _ (stands_late s.whose before _ x e late))
    (late_after t x ss before own late)

not_soon : (n : ℕ) → after_most < n → nat_le n after_most ≡ false
not_soon n more = grind (arith, more)

pub none_grow : (t : Option Transfer) (x : Seen) (ss : List Sought) (events : List Event)
    → (drop x.taken events ≡ []) ⊎ (after_most < x.since)
    → drop x.taken (events_known ss 0 events) ≡ []
    → drop x.taken (events_known (map (seen_by t x) ss) 0 events) ≡ []
none_grow t x ss events (inl ends) none = short (map (seen_by t x) ss) 0 events x.taken ends
none_grow t x ss events (inr more) none =
    let late = not_soon x.since more in
    rw (same_events ss (map (seen_by t x) ss) 0 events (λ before own.
    late_after t x ss before own late)) none

not_less : (n : ℕ) → nat_lt n n ≡ false
not_less n = grind arith

-- Nothing is found at any other deed

no_place : (w : Whose) (reached : Bool) (x : Seen) → is_attempt x.deed ≡ false
    → is_wait x.deed ≡ false → stands w reached x ≡ false
unfolding stands
no_place (whose.Event k) reached x a b =
    rw (a, b) (three (x.taken == k) (nat_le x.since after_most) reached)
  where
    three : (c d r : Bool) → (c && d && (false || (r && false))) ≡ false
    three true true true = refl
    three true true false = refl
    three true false r = refl
    three false d r = refl
no_place (whose.Damage d) reached x a b = rw a (last reached)
  where
    last : (r : Bool) → (r && false) ≡ false
    last true = refl
    last false = refl

pub nothing_found : (p : PlacesData) (w : World) (d : Deed) → is_attempt d ≡ false
    → is_wait d ≡ false → finds (seen_at w d) p ≡ false
unfolding after_seen
nothing_found p w d a b =
    let x = seen_at w d in
    let same = count_as_before p.transfer x p.sought (λ k reached. no_place k reached x a b) in
    rw same (not_less (found_in p.sought))
