-- Entries rise and stand at ports that are known, and agree with the addresses that are taken.
use Rattle.std.proofs.Common.{◌≡◌, ◌∙◌, refl, ap, Bool, true, false, ℕ, cond, List, [], ◌∷◌, not}
use Rattle.std.proofs.Common.{sym, subst, arith, append-nil, append_assoc, length-append, ◌+◌, ◌++◌}
use Rattle.std.proofs.Common.{length, Option, Some, None, ◌||◌, nat_eq, IsSome, if◌then◌else◌, inl}
use Rattle.std.proofs.Common.{inr, ◌≤◌, Ok}
use Rattle.std.specs.List.{filter, AllByRecursion, sum_by}
use Rattle.std.specs.List.Sorted.{IsStrictlySortedBy}
use Rattle.std.specs.Map.{keys_of, lookup, remove_entry}
use Rattle.std.specs.BTreeMap.{insert_entry, is_at}
use Rattle.std.specs.Ordering.{ordering_reverse, match_ordering, nat_cmp, is_eq}
use Rattle.std.specs.Cmp.Lexicographic.{nat_list_cmp_total, pointwise, same_text, texts_ties}
use Rattle.std.specs.declared.cmp.Ordering.{Ordering}
use Rattle.std.specs.declared.cmp.Ordering.TheVariants.{Less, Equal, Greater}
use Rattle.std.proofs.lemmas.List.Elements.{All-from_recursion, recursion_from_All}
use Rattle.std.proofs.lemmas.List.Kept.{IsStrictlySortedBy-filter}
use Rattle.std.proofs.lemmas.Map.Views.{All-keys-insert_entry}
use Rattle.usb_port.specs.{path_cmp, is_below, parent_of, port_on_hub, IsPath, Addresses, IsTaken}
use Rattle.usb_port.specs.{IsFull, HasAddresses}
use Rattle.usb_enum.specs.{Finding, Cause, Accepted, TakesFor}
use Rattle.usb_table.specs.{Entries, Rises, is_at_or_below, without, has_at, known_port, port_below}
use Rattle.usb_table.specs.{address_found, has_address, address_in, entry_address, Table, TakesOut}
use Rattle.std.proofs.lemmas.Map.Entries.{lookup-filter-keys}
use Rattle.usb_port.proofs.Interface.{is_below-extension, rejoined}
use Rattle.usb_table.proofs.Interface.{path_tied, has_its, path_itself}
use Rattle.usb_world.proofs.Interface.{neither, self_path, decided, at_or_below_way, same_is}
use Rattle.usb_world.proofs.Interface.{way_itself}
use Rattle.usb_host.specs.{Nested, claims, Frees}
use Rattle.usb_world.specs.{after_taking, Injective, is_way, same_path}
use Rattle.usb_hub.specs.{Free, map_without}
use Rattle.usb_enum.specs.declared.finding.Finding.TheVariants.{Device, Refused}
use Rattle.usb_host.specs.Accounts.{Accounts}
use Rattle.std.specs.FinSet.{empty, contains, contains-empty}
use Rattle.std.proofs.lemmas.List.Sums.{sum_by-cons}

-- Entries rise, and stand at ports that are known.

pub rises_none : Rises []
unfolding IsStrictlySortedBy
rises_none = tt

-- what is above a path is above one before it
pub above_all : (path first : List ℕ) (ks : List (List ℕ)) → path_cmp path first ≡ Less
    → AllByRecursion (λ k. path_cmp first k ≡ Less) ks
    → AllByRecursion (λ k. path_cmp path k ≡ Less) ks
above_all path first [] less h = tt
above_all path first (k ∷ ks) less h =
    (nat_list_cmp_total.trans path first k less h.0, above_all path first ks less h.1)

pub path_cmp-greater : (path first : List ℕ) → path_cmp path first ≡ Greater
    → path_cmp first path ≡ Less
path_cmp-greater path first is = grind (arith, nat_list_cmp_total)

-- the paths of a map rise
abbrev PathsRise : {X : Type 0} → List (List ℕ × X) → Type 0
PathsRise es = IsStrictlySortedBy path_cmp (keys_of es)

rises_step : {X : Type 0} (path : List ℕ) (f : X) (e : List ℕ × X) (es : List (List ℕ × X))
    → PathsRise (e ∷ es) → PathsRise (insert_entry path_cmp es path f) → (o : Ordering)
    → path_cmp path e.0 ≡ o
    → PathsRise (match_ordering o ((path, f) ∷ e ∷ es) ((e.0, f) ∷ es)
    (e ∷ insert_entry path_cmp es path f))
unfolding IsStrictlySortedBy
rises_step path f e es h more Less is = ((is, above_all path e.0 (keys_of es) is h.0), h)
rises_step path f e es h more Equal is = h
rises_step path f e es h more Greater is =
    let P : List ℕ → Type 0 = λ k. path_cmp e.0 k ≡ Less in (
      recursion_from_All P (keys_of (insert_entry path_cmp es path f))
          (All-keys-insert_entry path_cmp path f P es (All-from_recursion P (keys_of es) h.0)
          (path_cmp-greater path e.0 is)),
      more,
    )

pub rises_entered : {X : Type 0} (path : List ℕ) (f : X) (es : List (List ℕ × X)) → PathsRise es
    → PathsRise (insert_entry path_cmp es path f)
unfolding IsStrictlySortedBy
rises_entered path f [] h = (tt, tt)
rises_entered path f (e ∷ es) h = rises_step path f e es h (rises_entered path f es h.1)
    (path_cmp path e.0) refl

keys_filter : (test : List ℕ → Bool) (es : Entries) → keys_of (filter (λ e. test e.0) es)
    ≡ filter test (keys_of es)
keys_filter test [] = refl
keys_filter test (e ∷ es) = elim (decided (test e.0)) [
  | inl on ↦ rw on (ap (λ ks. e.0 ∷ ks) (keys_filter test es))
  | inr off ↦ rw off (keys_filter test es)
]

pub rises_without : (path : List ℕ) (es : Entries) → Rises es → Rises (without path es)
rises_without path es h =
    let kept : List ℕ → Bool = λ k. not (is_at_or_below k path) in
    rw (keys_filter kept es) (IsStrictlySortedBy-filter path_cmp kept (keys_of es) h)

-- Ports

-- what goes on from a path's hub goes on from the path too
under : (q hub path rest : List ℕ) → parent_of q ≡ Some hub → hub ≡ path ++ rest
    → is_below q path ≡ true
under q hub path rest is on =
    (is_below-extension q path).1 (
      rest ++ port_on_hub q ∷ [],
      rejoined q _ is ∙ ap (λ l. l ++ port_on_hub q ∷ []) on ∙ append_assoc path rest
          (port_on_hub q ∷ []),
      omega (arith, length-append rest (port_on_hub q ∷ [])),
    )

hub_away_by : (q hub path : List ℕ) → parent_of q ≡ Some hub → is_at_or_below q path ≡ false
    → (same on : Bool) → pointwise nat_eq hub path ≡ same → is_below hub path ≡ on
    → (same || on) ≡ false
hub_away_by q hub path is away true on same is_on =
    let goes_on = under q _ path [] is (same_text hub path (sym same) ∙ sym (append-nil path)) in
    grind arith
hub_away_by q hub path is away false true same is_on = grind (arith, is_below-extension, under)
hub_away_by q _ _ _ _ false false _ _ = refl

-- the hub of a path that stands elsewhere stands elsewhere
pub hub_away : (q hub path : List ℕ) → parent_of q ≡ Some hub → is_at_or_below q path ≡ false
    → is_at_or_below hub path ≡ false
hub_away q hub path is away = grind (arith, hub_away_by)

pub lookup-without : (q path : List ℕ) {b : Bool} (es : Entries) → not (is_at_or_below q path) ≡ b
    → lookup (is_at (path_cmp q)) (without path es) ≡ cond b (lookup (is_at (path_cmp q)) es) None
lookup-without q path {b = b} es is =
    lookup-filter-keys (is_at (path_cmp q)) (λ k. not (is_at_or_below k path)) b
    (grind (arith, path_tied)) es

-- a port is known as before where what is listed at its hub is
known_by : (q : List ℕ) (es fs : Entries) (hub : Option (List ℕ)) → ((h : List ℕ) → hub ≡ Some h
    → lookup (is_at (path_cmp h)) fs ≡ lookup (is_at (path_cmp h)) es)
    → port_below hub (port_on_hub q) fs ≡ port_below hub (port_on_hub q) es
known_by q es fs hub same = grind arith

pub known_away : (q path : List ℕ) (es : Entries) → is_at_or_below q path ≡ false
    → known_port q (without path es) ≡ known_port q es
known_away q path es away = known_by q es (without path es) (parent_of q)
    (grind (arith, hub_away, lookup-without))

-- what is left stands elsewhere, and stood there before
left_away : (q path : List ℕ) (es : Entries) {f : Finding}
    → lookup (is_at (path_cmp q)) (without path es) ≡ Some f
    → (is_at_or_below q path ≡ false) × (lookup (is_at (path_cmp q)) es ≡ Some f)
left_away q path es found = grind (arith, lookup-without)

pub nested_without : (path : List ℕ) (es : Entries) → Nested es → Nested (without path es)
nested_without path es n = record {
  path = λ q f found. n.path q f (left_away q path es found).1;
  each = λ q f found.
      let left = left_away q path es found in
      rw (known_away q path es left.0) (n.each q f left.1);
}

elsewhere_step : {X : Type 0} (q path : List ℕ) (f : X) (e : List ℕ × X) (es : List (List ℕ × X))
    → is_at (path_cmp q) path ≡ false
    → lookup (is_at (path_cmp q)) (insert_entry path_cmp es path f) ≡ lookup (is_at (path_cmp q)) es
    → (o : Ordering) → path_cmp path e.0 ≡ o
    → lookup (is_at (path_cmp q)) (match_ordering o ((path, f) ∷ e ∷ es) ((e.0, f) ∷ es)
    (e ∷ insert_entry path_cmp es path f)) ≡ lookup (is_at (path_cmp q)) (e ∷ es)
elsewhere_step q _ f e _ apart _ Less _ = rw apart refl
elsewhere_step q path f e _ apart _ Equal is =
    let tie : is_at (path_cmp path) e.0 ≡ true = rw is refl in
    let other : is_at (path_cmp q) e.0 ≡ false =
    rw (path_tied path e.0 tie) at apart in
    rw other refl
elsewhere_step q _ f e _ _ more Greater _ = grind arith

pub lookup-insert_entry_elsewhere : {X : Type 0} (q path : List ℕ) (f : X)
    (es : List (List ℕ × X)) → is_at (path_cmp q) path ≡ false → lookup (is_at (path_cmp q))
    (insert_entry path_cmp es path f) ≡ lookup (is_at (path_cmp q)) es
lookup-insert_entry_elsewhere q _ f [] apart = rw apart refl
lookup-insert_entry_elsewhere q path f (e ∷ es) apart =
    elsewhere_step q path f e es apart (lookup-insert_entry_elsewhere q path f es apart)
    (path_cmp path e.0) refl

pub lookup-removed : {X : Type 0} (q first : List ℕ) (es : List (List ℕ × X))
    → is_at (path_cmp q) first ≡ false → lookup (is_at (path_cmp q))
    (remove_entry (is_at (path_cmp first)) es) ≡ lookup (is_at (path_cmp q)) es
lookup-removed q _ [] _ = refl
lookup-removed q first (e ∷ es) apart = elim (decided (is_at (path_cmp first) e.0)) [
  | inl tie ↦
      let other : is_at (path_cmp q) e.0 ≡ false = rw (path_tied first e.0 tie) at apart in
      rw (tie, other) refl
  | inr off ↦ rw off (ap (λ found. cond (is_at (path_cmp q) e.0) (Some e.1) found)
      (lookup-removed q first es apart))
]

-- where no entry is at a path or below it, one that is found is not
pub found_away : (q path : List ℕ) (f : Finding) (es : Entries) → has_at path es ≡ false
    → lookup (is_at (path_cmp q)) es ≡ Some f → is_at_or_below q path ≡ false
found_away q path f [] away found = absurd cc
found_away q path f (e ∷ es) away found =
    let parts = neither (is_at_or_below e.0 path) (has_at path es) away in
    elim (decided (is_at (path_cmp q) e.0)) [
      | inl tie ↦ rw (path_tied q e.0 tie) parts.0
      | inr off ↦ found_away q path f es parts.1 (rw off at found)
    ]

pub is_at-outside : (hub path : List ℕ) → is_at_or_below hub path ≡ false
    → is_at (path_cmp hub) path ≡ false
is_at-outside hub path away = grind (arith, texts_ties)

-- a port of a hub that stands elsewhere is known as before
pub known_entered : (q path : List ℕ) (f : Finding) (es : Entries)
    → ((hub : List ℕ) → parent_of q ≡ Some hub → is_at (path_cmp hub) path ≡ false)
    → known_port q (insert_entry path_cmp es path f) ≡ known_port q es
known_entered q path f es apart = grind (arith, lookup-insert_entry_elsewhere)

pub shorter_apart : (path hub : List ℕ) → parent_of path ≡ Some hub
    → is_at (path_cmp hub) path ≡ false
shorter_apart path hub is = elim (decided (is_at (path_cmp hub) path)) [
  | inl tie ↦
      let long : length path ≡ length hub + 1 =
      ap length (rejoined path _ is) ∙ length-append hub (port_on_hub path ∷ []) in
      absurd (omega (arith, ap length (path_tied hub path tie)))
  | inr apart ↦ apart
]

pub nested_entered : (path : List ℕ) (f : Finding) {es : Entries} → IsPath path
    → has_at path es ≡ false → IsSome (known_port path es) → Nested es
    → Nested (insert_entry path_cmp es path f)
nested_entered path f {es = es} is away known n = record {
  path = λ q g found. elim (decided (is_at (path_cmp q) path)) [
    | inl tie ↦ rw (path_tied q path tie) is
    | inr off ↦ n.path q g (sym (lookup-insert_entry_elsewhere q path f es off) ∙ found)
  ];
  each = λ q g found. elim (decided (is_at (path_cmp q) path)) [
    | inl tie ↦
        rw (path_tied q path tie) (search (known_entered, shorter_apart))
    | inr off ↦
        let there = sym (lookup-insert_entry_elsewhere q path f es off) ∙ found in
        rw (known_entered q path f es (grind (arith, found_away, is_at-outside))) (n.each q g there)
  ];
}

pub nested_none : Nested []
nested_none = grind arith

-- Which path claims which address, and how the entries and the taken addresses change together.

unfoldable pub one_when : Bool → ℕ
one_when b = cond b 1 0

address_count : ℕ → Entries → ℕ
address_count a es = sum_by (λ e. cond (has_address a e.1) 1 0) es

count-cons : (a : ℕ) (e : List ℕ × Finding) (es : Entries)
    → address_count a (e ∷ es) ≡ one_when (has_address a e.1) + address_count a es
unfolding address_count one_when
count-cons a e es = search sum_by-cons

-- a path that stands nowhere is no entry's
path_cmp-not_equal : (path first : List ℕ) → is_at_or_below first path ≡ false
    → path_cmp path first ≡ Equal → ⊥
path_cmp-not_equal path first h e = grind (arith, nat_list_cmp_total, texts_ties)

address_count-insert_by : (a : ℕ) (path : List ℕ) (f : Finding) (e : List ℕ × Finding)
    (es : Entries) (o : Ordering) → path_cmp path e.0 ≡ o → is_at_or_below e.0 path ≡ false
    → address_count a (insert_entry path_cmp es path f) ≡ one_when (has_address a f) + address_count
    a es → address_count a (match_ordering o ((path, f) ∷ e ∷ es) ((e.0, f) ∷ es)
    (e ∷ insert_entry path_cmp es path f)) ≡ one_when (has_address a f) + address_count a (e ∷ es)
address_count-insert_by a path f e es o is away more = grind (arith, count-cons, path_cmp-not_equal)

count-insert : (a : ℕ) (path : List ℕ) (f : Finding) (es : Entries) → has_at path es ≡ false
    → address_count a (insert_entry path_cmp es path f) ≡ one_when (has_address a f) + address_count
    a es
count-insert a path f [] h = count-cons a (path, f) []
count-insert a path f (e ∷ es) h =
    let parts = neither (is_at_or_below e.0 path) (has_at path es) h in
    address_count-insert_by a path f e es (path_cmp path e.0) refl parts.0
    (count-insert a path f es parts.1)

count-remove : (a : ℕ) (test : List ℕ → Bool) (f : Finding) (es : Entries) → lookup test es ≡ Some f
    → address_count a es ≡ one_when (has_address a f) + address_count a (remove_entry test es)
count-remove a test f [] h = absurd cc
count-remove a test f (e ∷ es) h = elim (decided (test e.0)) [
  | inl on ↦
      rw on (grind (arith, count-cons))
  | inr off ↦
      let rest = count-remove a test f es (rw off at h) in
      rw off (grind (arith, count-cons))
]

freed : (f : Finding) (old new : Addresses) (a r : ℕ) → Frees f old new
    → one_when (has_address a f) + r ≡ one_when (contains old a) → r ≡ one_when (contains new a)
unfolding has_address one_when
freed f old new a r same h = grind arith

claimed : (f : Finding) (old new : Addresses) (a : ℕ) → TakesFor (Ok f) old new
    → one_when (contains new a) ≡ one_when (has_address a f) + one_when (contains old a)
unfolding has_address one_when
claimed f old new a h = grind arith

-- One entry alone has an address that is taken

address_count-some : (a : ℕ) (test : List ℕ → Bool) (f : Finding) (es : Entries)
    → has_address a f ≡ true → lookup test es ≡ Some f → 1 ≤ address_count a es
unfolding one_when
address_count-some a test f es has found =
    let here : one_when (has_address a f) ≡ 1 = ap one_when has in
    omega (arith, count-remove a test f es found)

address_count-twice : (a : ℕ) (test : List ℕ → Bool) (f g : Finding) (e : List ℕ × Finding)
    (es : Entries) → has_address a f ≡ true → has_address a g ≡ true → address_count a (e ∷ es) ≤ 1
    → Some e.1 ≡ Some f → lookup test es ≡ Some g → ⊥
unfolding one_when
address_count-twice a test f g e es has also most is found =
    grind (arith, address_count-some, count-cons)

address_count-once : (a : ℕ) (p q : List ℕ) (f g : Finding) (es : Entries) → has_address a f ≡ true
    → has_address a g ≡ true → address_count a es ≤ 1 → lookup (is_at (path_cmp p)) es ≡ Some f
    → lookup (is_at (path_cmp q)) es ≡ Some g → p ≡ q
address_count-once a p q f g [] has also most is_f is_g = absurd cc
address_count-once a p q f g (e ∷ es) has also most is_f is_g =
    elim (decided (is_at (path_cmp p) e.0)) [
      | inl at_p ↦ elim (decided (is_at (path_cmp q) e.0)) [
        | inl at_q ↦ path_tied p e.0 at_p ∙ sym (path_tied q e.0 at_q)
        | inr off_q ↦ absurd (grind (arith, address_count-twice))
      ]
      | inr off_p ↦ elim (decided (is_at (path_cmp q) e.0)) [
        | inl at_q ↦ absurd (grind (arith, address_count-twice))
        | inr off_q ↦ address_count-once a p q f g es has also (omega (arith, count-cons a e es))
            (rw off_p at is_f) (rw off_q at is_g)
      ]
    ]

pub one_when-most : (b : Bool) → one_when b ≤ 1
unfolding one_when
one_when-most b = grind arith

-- two entries with one address are the same
pub accounts_once : (a : ℕ) (p q : List ℕ) (f g : Finding) (es : Entries) (addresses : Addresses)
    → Accounts es addresses → has_address a f ≡ true → has_address a g ≡ true
    → lookup (is_at (path_cmp p)) es ≡ Some f → lookup (is_at (path_cmp q)) es ≡ Some g → p ≡ q
unfolding address_count one_when
accounts_once a p q f g es addresses h has also is_f is_g =
    let most : address_count a es ≤ 1 = rw (h.each a) (search one_when-most) in
    search address_count-once

some_one : (b : Bool) → 1 ≤ one_when b → b ≡ true
unfolding one_when
some_one b h = grind arith

-- the address of an entry is taken
pub accounts_taken : (a : ℕ) (p : List ℕ) (f : Finding) (es : Entries) (addresses : Addresses)
    → Accounts es addresses → has_address a f ≡ true → lookup (is_at (path_cmp p)) es ≡ Some f
    → IsTaken addresses a
unfolding address_count one_when
accounts_taken a p f es addresses h has found =
    some_one (contains addresses a) (rw (h.each a) at (address_count-some a (is_at (path_cmp p)) f
    es has found))

-- each address that is taken is listed

key_so : (P : List ℕ → Type 0) (path : List ℕ) (f : Finding) (es : Entries)
    → AllByRecursion P (keys_of es) → lookup (is_at (path_cmp path)) es ≡ Some f → P path
key_so P path f [] all found = absurd (cc found)
key_so P path f (e ∷ es) all found = elim (decided (is_at (path_cmp path) e.0)) [
  | inl tie ↦ rw (path_tied path e.0 tie) all.0
  | inr off ↦ key_so P path f es all.1 (rw off at found)
]

-- an entry with the address
record Lists (a : ℕ) (es : Entries) : Type 0 where
  path : List ℕ
  finding : Finding
  found : lookup (is_at (path_cmp path)) es ≡ Some finding
  has : has_address a finding ≡ true

lists_later : (a : ℕ) (e : List ℕ × Finding) (es : Entries)
    → AllByRecursion (λ k. path_cmp e.0 k ≡ Less) (keys_of es) → Lists a es → Lists a (e ∷ es)
lists_later a e es above x = record {
  path = x.path;
  finding = x.finding;
  found = rw (ap is_eq (nat_list_cmp_total.antisymm x.path e.0 ∙ ap ordering_reverse
      (key_so (λ k. path_cmp e.0 k ≡ Less) x.path _ es above x.found)))
      x.found;
  has = x.has;
}

lists_by : (a : ℕ) (es : Entries) → Rises es → 1 ≤ address_count a es → Lists a es
unfolding address_count IsStrictlySortedBy one_when
lists_by a [] rises some = absurd (omega arith)
lists_by a (e ∷ es) rises some = elim (decided (has_address a e.1)) [
  | inl has ↦ record { path = e.0; finding = e.1; found = rw (path_itself e.0) refl; has = has }
  | inr has ↦
      let none : one_when (has_address a e.1) ≡ 0 = ap one_when has in
      lists_later a e es rises.0 (lists_by a es rises.1 (omega (arith, count-cons a e es)))
]

address_has : (a : ℕ) (f : Finding) → has_address a f ≡ true → address_found f ≡ Some a
unfolding has_address
address_has a f h = grind arith

pub accounts_listed : {es : Entries} {addresses : Addresses} → Rises es → Accounts es addresses
    → (a : ℕ) → IsTaken addresses a → (path : List ℕ) × (entry_address path es ≡ Some a)
unfolding address_count one_when
accounts_listed {es = es} rises h a taken =
    let some : 1 ≤ address_count a es = rw (h.each a) (rw taken (omega arith)) in
    let x = lists_by a es rises some in grind (arith, address_has)

pub accounts_none : Accounts [] empty
accounts_none = record { each = λ a. rw (contains-empty nat_cmp a) refl }

-- an entry goes, and its address is free
pub accounts_freed : {path : List ℕ} (f : Finding) (before after : Table) (old new : Addresses)
    → Accounts before.entries old → TakesOut path f before after → Frees f old new
    → Accounts after.entries new
unfolding address_count one_when
accounts_freed f before after old new h t gone = record {
  each = λ a. freed f old new a (address_count a after.entries) gone
      (sym (rw t.rest (count-remove a (is_at (path_cmp t.first)) f before.entries t.found)) ∙ h.each
      a);
}

-- an entry comes, with the address that was taken for it
pub accounts_entered : (path : List ℕ) (f : Finding) {es : Entries} {old new : Addresses}
    → Accounts es old → has_at path es ≡ false → TakesFor (Ok f) old new
    → Accounts (insert_entry path_cmp es path f) new
unfolding address_count one_when
accounts_entered path f {es = es} {old = old} {new = new} h away c = record {
  each = λ a. count-insert a path f es away ∙ ap (λ n. one_when (has_address a f) + n) (h.each a)
      ∙ sym (claimed f old new a c);
}

-- no address is free that was not, where one more is
pub full_before : (f : Finding) (old new : Addresses) → Frees f old new → IsFull new → IsFull old
full_before f old new gone full = grind arith

-- Nothing but addresses is taken

pub range_none : HasAddresses empty
range_none = λ a taken. absurd (cc (contains-empty nat_cmp a, taken))

pub range_claimed : (f : Finding) (old new : Addresses) → TakesFor (Ok f) old new → HasAddresses old
    → HasAddresses new
range_claimed f old new c range = grind arith

pub range_freed : (f : Finding) (old new : Addresses) → Frees f old new → HasAddresses old
    → HasAddresses new
range_freed f old new gone range = grind arith

-- Claims

-- Each address is claimed once, and is taken

record IsClaim (o : Option Finding) (a : ℕ) : Type 0 where
  finding : Finding
  found : o ≡ Some finding
  has : has_address a finding ≡ true

claim_of : (o : Option Finding) (a : ℕ) → address_in o ≡ Some a → IsClaim o a
claim_of o a h = grind (arith, has_its)

pub claims_distinct : (es : Entries) (addresses : Addresses) → Accounts es addresses
    → Injective (claims es)
claims_distinct es _ h p q a at_p at_q =
    let x = claim_of (lookup (is_at (path_cmp p)) es) a at_p in
    let y = claim_of (lookup (is_at (path_cmp q)) es) a at_q in
    grind (arith, accounts_once, self_path)

pub claims_taken : {es : Entries} {addresses : Addresses} → Accounts es addresses
    → (p : List ℕ) (a : ℕ) → claims es p ≡ Some a → IsTaken addresses a
claims_taken {es = es} h p a at =
    let x = claim_of (lookup (is_at (path_cmp p)) es) a at in search accounts_taken

-- Entries are forgotten

claims-without_by : (path : List ℕ) (es : Entries) (x : List ℕ) (b : Bool) → is_way path x ≡ b
    → claims (without path es) x ≡ (if b then None else claims es x)
claims-without_by path es x b way = grind (arith, at_or_below_way, lookup-without)

pub claims-without : (path : List ℕ) (es : Entries) (x : List ℕ)
    → claims (without path es) x ≡ map_without (claims es) path x
claims-without path es x = claims-without_by path es x _ refl

-- Where nothing was found nothing is claimed

lookup-none_below : (path x : List ℕ) (e : List ℕ × Finding) (es : Entries)
    → (is_at_or_below e.0 path || has_at path es) ≡ false → is_at_or_below x path ≡ true
    → (has_at path es ≡ false → lookup (is_at (path_cmp x)) es ≡ None) → (b : Bool)
    → is_at (path_cmp x) e.0 ≡ b → cond b (Some e.1) (lookup (is_at (path_cmp x)) es)
    ≡ None
lookup-none_below path x e es away below more b tie = grind (arith, path_tied)

pub lookup-none_there : (path x : List ℕ) (es : Entries) → has_at path es ≡ false
    → is_at_or_below x path ≡ true → lookup (is_at (path_cmp x)) es ≡ None
lookup-none_there _ x [] _ _ = refl
lookup-none_there path x (e ∷ es) away below =
    lookup-none_below path x e es away below (λ rest. lookup-none_there path x es rest below)
    _ refl

pub claims_free : (path : List ℕ) (es : Entries) → has_at path es ≡ false → Free (claims es) path
claims_free path es away = grind (arith, at_or_below_way, lookup-none_there)

-- An entry comes

here_step : (path : List ℕ) {f : Finding} (e : List ℕ × Finding) (es : Entries)
    → lookup (is_at (path_cmp path)) (insert_entry path_cmp es path f) ≡ Some f → (o : Ordering)
    → path_cmp path e.0 ≡ o
    → lookup (is_at (path_cmp path)) (match_ordering o ((path, f) ∷ e ∷ es) ((e.0, f) ∷ es)
    (e ∷ insert_entry path_cmp es path f)) ≡ Some f
here_step path e es more o is = grind (arith, path_itself)

pub lookup-insert_entry_here : (path : List ℕ) (f : Finding) (es : Entries)
    → lookup (is_at (path_cmp path)) (insert_entry path_cmp es path f) ≡ Some f
lookup-insert_entry_here path f [] = rw (path_itself path) refl
lookup-insert_entry_here path f (e ∷ es) =
    here_step path e es (lookup-insert_entry_here path f es) (path_cmp path e.0) refl

is_at-same_path : (path x : List ℕ) → same_path path x ≡ false → is_at (path_cmp x) path ≡ false
is_at-same_path path x other = elim (decided (is_at (path_cmp x) path)) [
  | inl tie ↦
      let same : same_path path x ≡ true = subst (λ (r : List ℕ). same_path r x ≡ true)
      (path_tied x path tie) (self_path x) in
      absurd (cc (same, other))
  | inr apart ↦ apart
]

entered_by : (path : List ℕ) (f : Finding) (es : Entries) (x : List ℕ) (b : Bool)
    → same_path path x ≡ b → claims (insert_entry path_cmp es path f) x
    ≡ (if b then address_found f else claims es x)
entered_by path f es x true same = rw (same_is path x same) (search lookup-insert_entry_here)
entered_by path f es x false other = search (is_at-same_path, lookup-insert_entry_elsewhere)

pub claims-device : (path : List ℕ) (device : Accepted) (es : Entries) (x : List ℕ)
    → claims (insert_entry path_cmp es path (Device device)) x ≡ after_taking (claims es) path
    device.address x
claims-device path device es x = entered_by path (Device device) es x _ refl

pub claims-refused : (path : List ℕ) (cause : Cause) (es : Entries) → has_at path es ≡ false
    → (x : List ℕ) → claims (insert_entry path_cmp es path (Refused cause)) x ≡ claims es x
claims-refused path cause es away x = elim (decided (same_path path x)) [
  | inl same ↦
      let none : claims es path ≡ None = claims_free path es away path (way_itself path) in
      entered_by path (Refused cause) es x true same
      ∙ sym (ap (claims es) (same_is path x same) ∙ none)
  | inr other ↦ entered_by path (Refused cause) es x false other
]
