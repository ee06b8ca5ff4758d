-- A table with one entry more: what was just found is entered.
use Rattle.std.proofs.Common.{arith, ◌≡◌, ◌≢◌, ◌∙◌, sym, ap, subst, inl, inr, false, ℕ, cond, List}
use Rattle.std.proofs.Common.{Option, Some, None, ◌⊎◌, IsSome, IfSome, option_map, refl, true, []}
use Rattle.std.proofs.Common.{◌∷◌}
use Rattle.std.specs.Map.{keys_of, remove_entry, lookup}
use Rattle.std.specs.BTreeMap.{is_at, insert_entry}
use Rattle.std.specs.List.Sorted.{IsStrictlySortedBy}
use Rattle.std.proofs.lemmas.Bool.{cases_eq, false_from_ne_true}
use Rattle.std.proofs.lemmas.Option.{same_Some}
use Rattle.usb_port.specs.{path_cmp}
use Rattle.usb_enum.specs.{Silent, Accepted, Cause, Finding, HostOptions, IsOwn}
use Rattle.usb_enum.specs.declared.finding.Finding.TheVariants.{Refused, Device}
use Rattle.usb_table.specs.{Indexes, no_pipes, address_found, Entry, IsPiped, TableSlots, PathKeys}
use Rattle.usb_table.specs.{AddressKeys, key_of_path, key_of_address, findings, values_by_path}
use Rattle.usb_table.specs.{table_of, address_in, AreIndexes, ArePiped, UpdatesAddress, Enters}
use Rattle.usb_table.specs.{removed, accepted_device_at, is_below_hub, PipesInSync, InSyncAt}
use Rattle.usb_table.specs.{new_pipes, Table, pipes_at, entered, said_at}
use Rattle.usb_table.proofs.entries.Keys.{number_tied, number_itself, values_by_path-insert}
use Rattle.usb_table.proofs.entries.Keys.{values_by_path-remove, agree, findings-standing}
use Rattle.usb_table.proofs.entries.Keys.{same_table, path_tied, path_itself, cases_path}
use Rattle.std.specs.Ordering.{match_ordering}
use Rattle.std.specs.declared.cmp.Ordering.{Ordering}
use Rattle.std.specs.declared.cmp.Ordering.TheVariants.{Less, Equal, Greater}
use Rattle.arrayvec.specs.ArrayVec.{ArrayVec}
use Rattle.usb_device.specs.{State, IsSpec, reach, state_there}
use Rattle.usb_world.specs.{World}
use Rattle.usb_table.proofs.levels.NewPipes.{new_level}

-- Tables of which one has one entry more than the other.

-- the one entry stands under a key, a path and, where it has one, an address
pub record OneMore (less more : TableSlots) (fewer most : PathKeys) (lower upper : AddressKeys)
    (path : List ℕ) (key : ℕ) (s : Entry) : Type 0 where
  vacant : less key ≡ None
  stands : more key ≡ Some s
  others : (k : ℕ) → k ≢ key → more k ≡ less k
  away : key_of_path fewer path ≡ None
  at : key_of_path most path ≡ Some key
  apart : (q : List ℕ) → q ≢ path → key_of_path most q ≡ key_of_path fewer q
  free : (a : ℕ) → address_found s.finding ≡ Some a → key_of_address lower a ≡ None
  addressed : (a : ℕ) → address_found s.finding ≡ Some a → key_of_address upper a ≡ Some key
  elsewhere : (a : ℕ) → address_found s.finding ≢ Some a
      → key_of_address upper a ≡ key_of_address lower a

cases_found : (o : Option ℕ) (a : ℕ) → (o ≡ Some a) ⊎ (o ≢ Some a)
cases_found o a = grind (arith, cases_eq)

module _ {less more : TableSlots} {fewer most : PathKeys} {lower upper : AddressKeys}
    {path : List ℕ} {key : ℕ} {s : Entry}
    (d : OneMore less more fewer most lower upper path key s) where
  none_found : findings less key ≡ None
  none_found = grind arith

  pub found : findings more key ≡ Some s.finding
  found = findings-standing more key s d.stands

  same : (k : ℕ) → k ≢ key → findings more k ≡ findings less k
  same k ne = grind arith

  some_apart : (k : ℕ) → IsSome (findings less k) → k ≢ key
  some_apart k some = grind (arith, none_found)

  -- It comes

  module _ (are : AreIndexes (findings less) fewer lower) where
    -- the key that came with the path, or another one
    abbrev Came : List ℕ → ℕ → Type 0
    Came q k = ((q ≡ path) × (k ≡ key)) ⊎ ((key_of_path fewer q ≡ Some k) × (k ≢ key))

    come_at : (q : List ℕ) (k : ℕ) → key_of_path most q ≡ Some k → Came q k
    come_at q k h = elim (cases_path q path) [
      | inl e ↦ let is = ap (key_of_path most) e ∙ d.at in inl (e, cc (h, is))
      | inr ne ↦
          let was = sym (d.apart q ne) ∙ h in
          inr (was, some_apart k (are.stands q k was))
    ]

    come_once : (p q : List ℕ) (k : ℕ) → Came p k → Came q k → q ≡ p
    come_once p q k h h1 = grind arith

    come_named : (k : ℕ) → IsSome (findings more k) → (p : List ℕ) × (key_of_path most p ≡ Some k)
    come_named k some = grind (arith, cases_eq, same)

    come_to : (a k : ℕ) → key_of_address upper a ≡ Some k → address_in (findings more k) ≡ Some a
    come_to a k h = elim (cases_found (address_found s.finding) a) [
      | inl is ↦
          let e : k ≡ key = grind arith in
          ap address_in (ap (findings more) e ∙ found) ∙ is
      | inr other ↦
          let was = (are.addressed a k).0 (grind arith) in
          ap address_in (grind (arith, none_found, same)) ∙ was
    ]

    come_from : (a k : ℕ) → address_in (findings more k) ≡ Some a → key_of_address upper a ≡ Some k
    come_from a k h = grind (arith, cases_eq, found, same)

    pub come : AreIndexes (findings more) most upper
    come = record {
      stands = grind (arith, come_at, found, same);
      once = grind (arith, come_at, come_once);
      named = come_named;
      addressed = λ a k. (come_to a k, come_from a k);
    }

    pub come_piped : ArePiped less fewer → IsPiped path s → ArePiped more most
    come_piped piped fits q k t h stands = elim (come_at q k h) [
      | inl here ↦
          let is : s ≡ t = grind (arith, same_Some) in
          subst (IsPiped q) is (rw here.0 fits)
      | inr there ↦ piped q k t there.0 (grind arith)
    ]

    -- what is shown of the others stays
    listed_same : {A : Type 0} (none : A) (shown : Entry → A)
        → IsStrictlySortedBy path_cmp (keys_of fewer)
        → values_by_path none (λ k. option_map shown (more k)) fewer
        ≡ values_by_path none (λ k. option_map shown (less k)) fewer
    listed_same none shown rises = grind (arith, agree, some_apart)

    come_listed : {A : Type 0} (none : A) (shown : Entry → A)
        → most ≡ insert_entry path_cmp fewer path key → IsStrictlySortedBy path_cmp (keys_of fewer)
        → values_by_path none (λ k. option_map shown (more k)) most
        ≡ insert_entry path_cmp (values_by_path none (λ k. option_map shown (less k)) fewer) path
        (shown s)
    come_listed none shown is rises = grind (arith, listed_same, values_by_path-insert)

    pub come_table : most ≡ insert_entry path_cmp fewer path key
        → IsStrictlySortedBy path_cmp (keys_of fewer) → table_of more most ≡ record {
          entries = insert_entry path_cmp (table_of less fewer).entries path s.finding;
          pipes = insert_entry path_cmp (table_of less fewer).pipes path s.pipes;
        }
    come_table is rises =
        same_table _ _ _ _ (come_listed (Refused Silent) (λ t. t.finding) is rises)
        (come_listed no_pipes (λ t. t.pipes) is rises)

  -- It goes

  module _ (are : AreIndexes (findings more) most upper) where
    go_at : (q : List ℕ) (k : ℕ) → key_of_path fewer q ≡ Some k → (key_of_path most q ≡ Some k)
        × (k ≢ key)
    go_at q k h = grind arith

    go_named : (k : ℕ) → IsSome (findings less k) → (p : List ℕ) × (key_of_path fewer p ≡ Some k)
    go_named k some = grind (arith, same, some_apart)

    go_to : (a k : ℕ) → key_of_address lower a ≡ Some k → address_in (findings less k) ≡ Some a
    go_to a k h =
        let other : address_found s.finding ≢ Some a = λ is. let n = d.free a is in cc (h, n) in
        let was = (are.addressed a k).0 (d.elsewhere a other ∙ h) in
        let ne : k ≢ key = λ e. grind (arith, found) in
        grind (arith, same)

    go_from : (a k : ℕ) → address_in (findings less k) ≡ Some a → key_of_address lower a ≡ Some k
    go_from a k h = grind (arith, none_found, same)

    pub go : AreIndexes (findings less) fewer lower
    go = record {
      stands = grind (arith, go_at, same);
      once = grind (arith, go_at);
      named = go_named;
      addressed = λ a k. (go_to a k, go_from a k);
    }

    pub go_piped : ArePiped more most → ArePiped less fewer
    go_piped piped q k t h stands = let was = go_at q k h in
        piped q k t was.0 (d.others k was.1 ∙ stands)

    go_listed : {A : Type 0} (none : A) (shown : Entry → A)
        → fewer ≡ remove_entry (is_at (path_cmp path)) most
        → IsStrictlySortedBy path_cmp (keys_of fewer)
        → values_by_path none (λ k. option_map shown (less k)) fewer
        ≡ remove_entry (is_at (path_cmp path))
        (values_by_path none (λ k. option_map shown (more k)) most)
    go_listed none shown is rises =
        sym (listed_same go none shown rises)
        ∙ ap (values_by_path none (λ k. option_map shown (more k))) is
        ∙ values_by_path-remove none (λ k. option_map shown (more k)) (is_at (path_cmp path)) most

    pub go_table : fewer ≡ remove_entry (is_at (path_cmp path)) most
        → IsStrictlySortedBy path_cmp (keys_of fewer)
        → table_of less fewer ≡ removed path (table_of more most)
    go_table is rises = search (go_listed, same_table)

-- What the keys tell of it

at_path : (path : List ℕ) (slot was : Option ℕ) → cond (is_at (path_cmp path) path) slot was ≡ slot
at_path path slot was = grind (arith, path_itself)

off_path : (path q : List ℕ) (slot was : Option ℕ) → q ≢ path
    → cond (is_at (path_cmp path) q) slot was ≡ was
off_path path q slot was ne =
    ap (λ b. cond b slot was) (false_from_ne_true _ (λ tie. ne (sym (path_tied path q tie))))

module _ (found slot : Option ℕ) (old new : AddressKeys) (a : ℕ) where
  at_address : found ≡ Some a → UpdatesAddress found slot old new → key_of_address new a ≡ slot
  at_address is updates = grind (arith, number_itself)

  off_address : found ≢ Some a → UpdatesAddress found slot old new
      → key_of_address new a ≡ key_of_address old a
  off_address h h1 = grind (arith, false_from_ne_true, found, number_tied)

module _ (less more : TableSlots) (path : List ℕ) (key : ℕ) (s : Entry) (vacant : less key ≡ None)
    (stands : more key ≡ Some s) (others : (k : ℕ) → k ≢ key → more k ≡ less k) where
  -- one entered
  pub entered_one : (before after : Indexes) → key_of_path before.by_path.entries path ≡ None
      → IfSome (address_found s.finding) (λ a. key_of_address before.by_address.entries a ≡ None)
      → Enters path (address_found s.finding) key before after
      → OneMore less more before.by_path.entries after.by_path.entries before.by_address.entries
      after.by_address.entries path key s
  entered_one before after away free enters =
      grind (arith, at_address, at_path, off_address, off_path)

  -- one taken out
  pub left_one : (most fewer : PathKeys) (upper lower : AddressKeys)
      → AreIndexes (findings more) most upper → key_of_path most path ≡ Some key
      → ((q : List ℕ) → key_of_path fewer q ≡ cond (is_at (path_cmp path) q) None
      (key_of_path most q)) → UpdatesAddress (address_found s.finding) None upper lower
      → OneMore less more fewer most lower upper path key s
  left_one most fewer upper lower are at path_keys address_keys = record {
    vacant = vacant;
    stands = stands;
    others = others;
    away = path_keys path ∙ at_path path _ _;
    at = at;
    apart = grind (arith, off_path);
    free = search at_address;
    addressed = λ a is. (are.addressed a key).1 (grind (arith, findings-standing));
    elsewhere = grind (arith, off_address);
  }

-- A table is level after what was just found is entered.

-- What is entered at a path is there, and what is at another path stays

module _ {X : Type 0} (path : List ℕ) (value : X) where
  itself_step : (e : List ℕ × X) (es : List (List ℕ × X))
      → lookup (is_at (path_cmp path)) (insert_entry path_cmp es path value) ≡ Some value
      → (o : Ordering) → path_cmp path e.0 ≡ o
      → lookup (is_at (path_cmp path)) (match_ordering o ((path, value) ∷ e ∷ es)
      ((e.0, value) ∷ es) (e ∷ insert_entry path_cmp es path value)) ≡ Some value
  itself_step e es more o is = grind (arith, path_itself)

  lookup-inserted : (es : List (List ℕ × X))
      → lookup (is_at (path_cmp path)) (insert_entry path_cmp es path value) ≡ Some value
  lookup-inserted [] = rw (path_itself path) refl
  lookup-inserted (e ∷ es) = itself_step e es (lookup-inserted es) (path_cmp path e.0) refl

  other_step : (q : List ℕ) (e : List ℕ × X) (es : List (List ℕ × X))
      → is_at (path_cmp q) path ≡ false
      → lookup (is_at (path_cmp q)) (insert_entry path_cmp es path value)
      ≡ lookup (is_at (path_cmp q)) es → (o : Ordering) → path_cmp path e.0 ≡ o
      → lookup (is_at (path_cmp q)) (match_ordering o ((path, value) ∷ e ∷ es) ((e.0, value) ∷ es)
      (e ∷ insert_entry path_cmp es path value)) ≡ lookup (is_at (path_cmp q)) (e ∷ es)
  other_step q e es apart more Less is = rw apart refl
  other_step q e es apart more Equal is =
      let tie : is_at (path_cmp path) e.0 ≡ true = rw is refl in
      let other : is_at (path_cmp q) e.0 ≡ false =
      subst (λ (r : List ℕ). is_at (path_cmp q) r ≡ false) (path_tied path e.0 tie) apart in
      rw other refl
  other_step q e es apart more Greater is = grind (arith, found)

  lookup-inserted_elsewhere : (q : List ℕ) (es : List (List ℕ × X))
      → is_at (path_cmp q) path ≡ false → lookup (is_at (path_cmp q))
      (insert_entry path_cmp es path value) ≡ lookup (is_at (path_cmp q)) es
  lookup-inserted_elsewhere q [] apart = rw apart refl
  lookup-inserted_elsewhere q (e ∷ es) apart =
      grind (arith, lookup-inserted_elsewhere q es apart, other_step)

-- The pipes of the table

-- what was just found has new pipes
pub pipes_at-entered : (path : List ℕ) (finding : Finding) (said : ArrayVec ℕ) (table : Table)
    → pipes_at path (entered path finding said table) ≡ new_pipes finding (is_below_hub path) said
pipes_at-entered path finding said table = grind (arith, lookup-inserted)

-- whatever stands at another path has those that it had
pub pipes_at-entered_elsewhere : (path : List ℕ) (finding : Finding) (said : ArrayVec ℕ)
    (table : Table) (x : List ℕ) → is_at (path_cmp x) path ≡ false
    → pipes_at x (entered path finding said table) ≡ pipes_at x table
pipes_at-entered_elsewhere path finding said table x apart = search lookup-inserted_elsewhere

-- What a refused device said

-- what was just entered is kept
pub said_at-entered : (path : List ℕ) (cause : Cause) (said : ArrayVec ℕ) (table : Table)
    → said_at path (entered path (Refused cause) said table) ≡ Some said.items
said_at-entered path cause said table = grind (arith, lookup-inserted, pipes_at-entered)

-- The pipes of the table are level

module _ (path : List ℕ) (finding : Finding) (said : ArrayVec ℕ) (table : Table) (w : World) where
  -- to a device whose finding is its own, where it is reachable
  pub level_entered : (options : HostOptions) (tier supply : ℕ) → ((device : Accepted) (s : State)
      → finding ≡ Device device → reach w.roots path ≡ true → state_there w.roots path ≡ Some s
      → IsSpec s.spec × IsOwn options tier supply device s)
      → InSyncAt path (entered path finding said table) w
  level_entered options tier supply own = record { level = by_finding finding refl }
    where
      by_finding : (f : Finding) → finding ≡ f → (device : Accepted) (s : State)
          → accepted_device_at path (entered path finding said table).entries ≡ Some device
          → reach w.roots path ≡ true → state_there w.roots path ≡ Some s
          → PipesInSync device (pipes_at path (entered path finding said table)) s
      by_finding (Device d) is device s e on there =
          let so = own d s is on there in
          let same : d ≡ device = grind (arith, lookup-inserted) in
          rw (← same, pipes_at-entered path finding said table, is) (search new_level)
      by_finding (Refused cause) is device s e on there = grind (arith, lookup-inserted)

  -- to others
  pub level_beside : (x : List ℕ) → is_at (path_cmp x) path ≡ false → InSyncAt x table w
      → InSyncAt x (entered path finding said table) w
  level_beside x apart l = grind (arith, lookup-inserted_elsewhere, pipes_at-entered_elsewhere)
