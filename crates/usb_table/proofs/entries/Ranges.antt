-- Entries by rising path: which one is next, and which stand at a path or below it.
use Rattle.std.proofs.Common.{◌≡◌, refl, sym, ap, ◌∙◌, ℕ, Bool, true, false, not, cond, List, []}
use Rattle.std.proofs.Common.{◌∷◌, ◌++◌, ◌&&◌, append-nil, arith, inl, inr, nat_eq, IfSome, ◌≢◌}
use Rattle.std.proofs.Common.{Option, Some, None, length-append, ◌+◌, ◌<◌, length, ◌||◌, ◌≤◌}
use Rattle.std.proofs.Common.{if◌then◌else◌, nat_le}
use Rattle.std.specs.List.{AllByRecursion, list_any, slice_get}
use Rattle.std.specs.List.Sorted.{IsStrictlySortedBy}
use Rattle.std.specs.Map.{keys_of, lookup}
use Rattle.std.specs.BTreeMap.Range.{entries_between, is_from_start}
use Rattle.std.specs.declared.ops.Bound.TheVariants.{Included, Unbounded}
use Rattle.std.specs.Ordering.{nat_cmp, is_le, is_lt}
use Rattle.std.specs.Cmp.{nat_cmp_is, eq_by_cmp_equiv}
use Rattle.std.specs.Cmp.Lexicographic.{pointwise, same_text, nat_list_cmp_total}
use Rattle.std.specs.declared.cmp.Ordering.TheVariants.{Less, Equal, Greater}
use Rattle.std.proofs.lemmas.Bool.{or_cases, or_from, and_from, eq-eqb, cases_Bool, cases_order}
use Rattle.std.proofs.lemmas.Bool.{and_parts, false_from_ne_true, leb-true}
use Rattle.std.proofs.lemmas.Map.Keys.{sorted_head, sorted_tail, IsDistinct-from_sorted}
use Rattle.usb_port.specs.{path_cmp, is_below, parent_of, port_on_hub}
use Rattle.usb_port.proofs.Interface.{is_below-extension, rejoined}
use Rattle.usb_table.specs.{is_at_or_below, PathKeys, Entries, Rises, Slots, entries_of}
use Rattle.usb_table.specs.{finding_under, start_after, ComesAfter, Stands, IsNext, IsLast, without}
use Rattle.usb_table.specs.{known_port, port_below, port_found, port_of_hub, KnownPort}
use Rattle.usb_world.proofs.Interface.{or_left, or_right}
use Rattle.std.specs.BTreeMap.{is_at}
use Rattle.std.specs.declared.cmp.Ordering.{Ordering}
use Rattle.std.proofs.lemmas.Map.{lookup-none}
use Rattle.std.proofs.lemmas.Map.Entries.{none_below_head, none_past_head, lookup_head, lookup_tail}
use Rattle.std.proofs.lemmas.Map.Entries.{lookup-filter-keys}
use Rattle.usb_enum.specs.{Finding, Accepted, HubFacts, target_of}
use Rattle.usb_table.proofs.entries.Keys.{path_tied, path_itself}
use Rattle.std.proofs.lemmas.Option.{same_Some}
use Rattle.usb_hub.specs.{External}
use Rattle.usb_enum.specs.declared.finding.Finding.TheVariants.{Device}

-- What stands at a path or below it stands together behind it: the first entry from the path on
-- tells whether any does.

-- ---- paths

-- what a path that is another or goes on from it goes on with
abbrev Extends : List ℕ → List ℕ → Type 0
Extends path above = (rest : List ℕ) × (path ≡ above ++ rest)

extends_if : (path above : List ℕ) → is_at_or_below path above ≡ true → Extends path above
extends_if path above h = grind (arith, append-nil, is_below-extension, or_cases, same_text)

-- a path comes no later than what goes on from it
from_front : (path rest : List ℕ) → is_le (path_cmp path (path ++ rest)) ≡ true
from_front [] [] = refl
from_front [] (r ∷ rest) = refl
from_front (n ∷ path) rest = rw (sym (nat_cmp_is n n Equal refl)) (from_front path rest)

-- what comes between a path and one that goes on from it goes on from it too
extends_between : (path other rest : List ℕ) → is_le (path_cmp path other) ≡ true
    → path_cmp other (path ++ rest) ≡ Less → Extends other path
extends_between [] other rest from less = (other, refl)
extends_between (x ∷ path) [] rest from less = absurd cc
extends_between (x ∷ path) (y ∷ other) rest from less =
    elim (cases_order x y) [
      | inl same ↦
          let tied : nat_cmp x y ≡ Equal = sym (nat_cmp_is x y Equal same) in
          let back : nat_cmp y x ≡ Equal = search nat_cmp_is in
          let more = extends_between path other rest (rw tied at from) (rw back at less) in
          (more.0, ap (λ (n : ℕ). n ∷ other) (sym same) ∙ ap (λ (l : List ℕ). x ∷ l) more.1)
      | inr apart ↦ elim apart [
        | inl lower ↦
            let later : nat_cmp y x ≡ Greater = sym (nat_cmp_is y x Greater lower) in
            let wrong = rw later at less in
            absurd cc
        | inr higher ↦
            let later : nat_cmp x y ≡ Greater = sym (nat_cmp_is x y Greater higher) in
            let wrong = rw later at from in
            absurd cc
      ]
    ]

pointwise-refl : (path : List ℕ) → pointwise nat_eq path path ≡ true
pointwise-refl [] = refl
pointwise-refl (n ∷ path) = grind (arith, pointwise-refl path, and_from, eq-eqb)

below_is_from : (path above : List ℕ) → is_at_or_below path above ≡ true
    → is_le (path_cmp above path) ≡ true
below_is_from path above h = grind (arith, extends_if, from_front)

-- a path that comes before another is not at or below it
not_before : (path above : List ℕ) → is_le (path_cmp above path) ≡ false
    → is_at_or_below path above ≡ false
not_before path above early = grind (arith, below_is_from, cases_Bool)

extends_is : (path above : List ℕ) → Extends path above → is_at_or_below path above ≡ true
extends_is path above ([], whole) = grind (arith, append-nil, or_left, pointwise-refl)
extends_is path above (n ∷ rest, whole) = grind (arith, is_below-extension, or_right)

-- nothing behind a path that is not at or below another is there either
later_one : (above first path : List ℕ) → is_le (path_cmp above first) ≡ true
    → is_at_or_below first above ≡ false → path_cmp first path ≡ Less
    → is_at_or_below path above ≡ false
later_one above first path from away less =
    grind (arith, cases_Bool, extends_between, extends_if, extends_is)

-- ---- entries

abbrev pub has_path_below : List ℕ → PathKeys → Bool
has_path_below above paths = list_any (λ e. is_at_or_below e.0 above) paths

later_ones : (above first : List ℕ) (paths : PathKeys) → is_le (path_cmp above first) ≡ true
    → is_at_or_below first above ≡ false
    → AllByRecursion (λ k. path_cmp first k ≡ Less) (keys_of paths)
    → has_path_below above paths ≡ false
later_ones above first [] from away all = refl
later_ones above first (e ∷ paths) from away all =
    grind (arith, later_ones above first paths from away all.1, later_one, or_from)

abbrev pub from_path : List ℕ → PathKeys → PathKeys
from_path above paths = entries_between path_cmp (Included above) Unbounded paths

abbrev pub FirstIsAway : List ℕ → PathKeys → Type 0
FirstIsAway above rest = IfSome (slice_get rest 0) (λ e. is_at_or_below e.0 above ≡ false)

away_step : (above : List ℕ) (e : List ℕ × ℕ) (paths : PathKeys)
    → IsStrictlySortedBy path_cmp (keys_of (e ∷ paths))
    → (FirstIsAway above (from_path above paths) → has_path_below above paths ≡ false)
    → (b : Bool) → is_le (path_cmp above e.0) ≡ b
    → FirstIsAway above (cond (b && not false) (e ∷ from_path above paths) (from_path above paths))
    → has_path_below above (e ∷ paths) ≡ false
away_step above e paths rises more b from away =
    grind (arith, later_ones, not_before, or_from, sorted_head)

-- where the first entry from a path on is not at or below it, none is
pub away_if_first : (above : List ℕ) (paths : PathKeys)
    → IsStrictlySortedBy path_cmp (keys_of paths) → FirstIsAway above (from_path above paths)
    → has_path_below above paths ≡ false
away_if_first above [] rises away = refl
away_if_first above (e ∷ paths) rises away =
    grind (
      arith,
      away_if_first above paths (grind (arith, sorted_tail)),
      away_step,
      sorted_tail,
    )

-- The next entry of a kind is the first one after the last path.

-- the path comes after the last one, where there is one
abbrev pub is_after : Option (List ℕ) → List ℕ → Bool
is_after None path = true
is_after (Some last) path = is_lt (path_cmp last path)

-- the path of the first entry of the kind after the last path
abbrev pub first_from : (Finding → Bool) → Option (List ℕ) → Entries → Option (List ℕ)
first_from kind last [] = None
first_from kind last (e ∷ es) = cond (is_after last e.0 && kind e.1) (Some e.0)
    (first_from kind last es)

less_is : (o : Ordering) → is_lt o ≡ true → o ≡ Less
less_is o h = grind arith

after_if : (last : Option (List ℕ)) (path : List ℕ) → is_after last path ≡ true
    → ComesAfter last path
after_if last path h = grind (arith, less_is)

if_after : (last : Option (List ℕ)) (path : List ℕ) → ComesAfter last path
    → is_after last path ≡ true
if_after last path h = grind arith

path_cmp-not_less : (q : List ℕ) (e : List ℕ × Finding) (es : Entries) (f : Finding)
    → Rises (e ∷ es) → lookup (is_at (path_cmp q)) (e ∷ es) ≡ Some f → path_cmp q e.0 ≢ Less
path_cmp-not_less q e es f rises found = λ less.
    let none = lookup-none (is_at (path_cmp q)) (e ∷ es)
    (none_below_head nat_list_cmp_total q e es rises less) in
    absurd (cc (none, found))

not_head : (q : List ℕ) (e : List ℕ × Finding) (es : Entries) (f : Finding) → Rises (e ∷ es)
    → lookup (is_at (path_cmp q)) es ≡ Some f → is_at (path_cmp q) e.0 ≡ false
not_head q e es f rises found = false_from_ne_true _ (λ tie.
    let apart = IsDistinct-from_sorted path_cmp (keys_of (e ∷ es)) rises in
    let none = lookup-none (is_at (path_cmp q)) es
    (none_past_head (eq_by_cmp_equiv nat_list_cmp_total) q e es apart tie) in
    cc (none, found))

module _ (kind : Finding → Bool) (last : Option (List ℕ)) (e : List ℕ × Finding) (es : Entries)
  where
    here : (is_after last e.0 && kind e.1) ≡ true → Stands kind last (e ∷ es) e.0
    here pass = grind (arith, after_if, and_parts, lookup_head, path_itself)

    later : (q : List ℕ) → Rises (e ∷ es) → Stands kind last es q → Stands kind last (e ∷ es) q
    later q rises s = grind (arith, lookup_tail, not_head)

    in_tail_by : (q : List ℕ) → (is_after last e.0 && kind e.1) ≡ false
        → Stands kind last (e ∷ es) q
        → (b : Bool) → is_at (path_cmp q) e.0 ≡ b → Stands kind last es q
    in_tail_by q fails s true tie =
        let same = path_tied q e.0 tie in
        let found : Some e.1 ≡ Some s.finding = grind (arith, lookup_head) in
        let finding : s.finding ≡ e.1 = cc found in
        let kind_is : kind e.1 ≡ true = rw finding at s.fits in
        let after_is : is_after last e.0 ≡ true = if_after last e.0 (rw same at s.after) in
        grind (arith, and_from)
    in_tail_by q fails s false tie = grind (arith, lookup_tail)

    in_tail : (q : List ℕ) → (is_after last e.0 && kind e.1) ≡ false → Stands kind last (e ∷ es) q
        → Stands kind last es q
    in_tail q fails s = grind (arith, in_tail_by)

    next_here : Rises (e ∷ es) → (is_after last e.0 && kind e.1) ≡ true
        → IsNext kind last (e ∷ es) e.0
    next_here rises pass = grind (arith, here, path_cmp-not_less)

    next_later : (path : List ℕ) → Rises (e ∷ es) → (is_after last e.0 && kind e.1) ≡ false
        → IsNext kind last es path → IsNext kind last (e ∷ es) path
    next_later path rises fails next = grind (arith, in_tail, later)

    next_step : (path : List ℕ) → Rises (e ∷ es)
        → (first_from kind last es ≡ Some path → IsNext kind last es path) → (b : Bool)
        → (is_after last e.0 && kind e.1) ≡ b → cond b (Some e.0) (first_from kind last es)
        ≡ Some path → IsNext kind last (e ∷ es) path
    next_step path rises more true pass is = grind (arith, next_here)
    next_step path rises more false fails is = search next_later

    last_step : ((first_from kind last es) ≡ None → IsLast kind last es) → (b : Bool)
        → (is_after last e.0 && kind e.1) ≡ b → cond b (Some e.0) (first_from kind last es) ≡ None
        → IsLast kind last (e ∷ es)
    last_step more true pass is = absurd cc
    last_step more false fails is = λ other s. more is other (in_tail other fails s)

pub next_is : (kind : Finding → Bool) (last : Option (List ℕ)) (es : Entries) (path : List ℕ)
    → Rises es → first_from kind last es ≡ Some path → IsNext kind last es path
next_is kind last [] path rises is = absurd cc
next_is kind last (e ∷ es) path rises is =
    next_step kind last e es path rises
    (next_is kind last es path (grind (arith, sorted_tail)))
    (is_after last e.0 && kind e.1) refl is

pub last_is : (kind : Finding → Bool) (last : Option (List ℕ)) (es : Entries)
    → first_from kind last es ≡ None → IsLast kind last es
last_is kind last [] is = grind arith
last_is kind last (e ∷ es) is = last_step kind last e es (last_is kind last es)
    (is_after last e.0 && kind e.1) refl is

-- ---- the entries behind the last path

abbrev pub behind : Option (List ℕ) → PathKeys → PathKeys
behind last paths = entries_between path_cmp (start_after last) Unbounded paths

start_is : (last : Option (List ℕ)) (path : List ℕ)
    → is_from_start path_cmp (start_after last) path ≡ is_after last path
start_is last path = grind arith

module _ (kind : Finding → Bool) (last : Option (List ℕ)) (found : Slots) where
  first_of : PathKeys → Option (List ℕ)
  first_of paths = first_from kind None (entries_of found paths)

  behind_step : (e : List ℕ × ℕ) (rest : PathKeys) (more : Option (List ℕ)) → first_of rest ≡ more
      → (b : Bool) → first_of (cond (b && not false) (e ∷ rest) rest)
      ≡ cond (b && kind (finding_under found e.1)) (Some e.0) more
  unfolding first_of
  behind_step e rest more is b = grind arith

  -- the first of the kind behind the last path is the first of the kind after it
  pub first_behind : (paths : PathKeys)
      → first_from kind None (entries_of found (behind last paths))
      ≡ first_from kind last (entries_of found paths)
  unfolding first_of
  first_behind [] = refl
  first_behind (e ∷ paths) = grind (arith, first_behind paths, behind_step, start_is)

-- What is known of a port hangs on its hub alone.

-- a longer path is not at a shorter one or above it
is_below-short : (hub path : List ℕ) → length hub < length path → (same under : Bool)
    → pointwise nat_eq hub path ≡ same → is_below hub path ≡ under → (same || under) ≡ false
is_below-short hub path shorter true under is is_under =
    let e : length hub ≡ length path = ap length (same_text hub path (sym is)) in
    absurd (omega (arith, e, shorter))
is_below-short hub path shorter false true is is_under =
    grind (arith, is_below-extension, length-append)
is_below-short hub path shorter false false is is_under = refl

is_at_or_below-short : (hub path : List ℕ) → length hub < length path
    → is_at_or_below hub path ≡ false
is_at_or_below-short hub path shorter = grind (arith, is_below-short)

kept_hub : (path hub : List ℕ) (es : Entries) → length hub < length path
    → lookup (is_at (path_cmp hub)) (without path es) ≡ lookup (is_at (path_cmp hub)) es
kept_hub path hub es shorter =
    lookup-filter-keys (is_at (path_cmp hub)) (λ q. not (is_at_or_below q path)) true
    (λ k tie. rw (← path_tied hub k tie, is_at_or_below-short hub path shorter) refl) es

pub parent_shorter : (path hub : List ℕ) → parent_of path ≡ Some hub → length hub < length path
parent_shorter path hub is =
    let e : length path ≡ length hub + 1 = ap length (rejoined path hub is)
    ∙ length-append hub (port_on_hub path ∷ []) in
    omega (arith, e)

port_below-without : (path : List ℕ) (es : Entries) (parent : Option (List ℕ))
    → parent_of path ≡ parent → port_below parent (port_on_hub path) (without path es)
    ≡ port_below parent (port_on_hub path) es
port_below-without path es parent is = grind (arith, kept_hub, parent_shorter)

-- what stands at a port and below it says nothing of the port
pub known_port-without : (path : List ℕ) (es : Entries) → known_port path (without path es)
    ≡ known_port path es
known_port-without path es = grind (arith, port_below-without)

-- A port that is known below another is one of an accepted hub that has it

pub record FoundPort (found : Option Finding) (below_hub : Bool) (n : ℕ) (port : KnownPort) : Type 0
  where
    pub device : Accepted
    pub facts : HubFacts
    pub stands : found ≡ Some (Device device)
    pub told : device.hub ≡ Some facts
    pub most : n ≤ facts.ports
    pub is : port ≡ record { port = External (target_of device below_hub) n; supply = facts.supply }

port_of_hub-some : (device : Accepted) (below_hub : Bool) (n : ℕ) (port : KnownPort)
    (facts : Option HubFacts) → device.hub ≡ facts → port_of_hub device facts below_hub n
    ≡ Some port → FoundPort (Some (Device device)) below_hub n port
port_of_hub-some device below_hub n port None told e = absurd (cc e)
port_of_hub-some device below_hub n port (Some facts) told e = pick (nat_le n facts.ports) refl e
  where
    pick : (fits : Bool) → nat_le n facts.ports ≡ fits → (if fits then Some (record {
      port = External (target_of device below_hub) n;
      supply = facts.supply;
    }) else None) ≡ Some port → FoundPort (Some (Device device)) below_hub n port
    pick true fits e = record {
      device = device;
      facts = facts;
      stands = refl;
      told = told;
      most = leb-true n facts.ports fits;
      is = sym (same_Some _ port e);
    }
    pick false fits e = absurd (cc e)

pub port_found-some : (found : Option Finding) (below_hub : Bool) (n : ℕ) (port : KnownPort)
    → port_found found below_hub n ≡ Some port → FoundPort found below_hub n port
port_found-some found below_hub n port e = grind (arith, port_of_hub-some)
