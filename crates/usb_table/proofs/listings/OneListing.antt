-- What is plugged has one right listing, but for addresses.
use Rattle.std.proofs.Common.{◌≡◌, ◌<◌, ◌+◌, ℕ, zero, suc, List, length, Option, None, Some, refl}
use Rattle.std.proofs.Common.{sym, ◌∙◌, arith, IsSome, IsSomeAnd, subst, true, false, [], ◌∷◌, take}
use Rattle.usb_port.specs.{parent_of, port_on_hub, path_cmp, IsAddress, supply_of}
use Rattle.usb_device.specs.{Spec}
use Rattle.usb_enum.specs.{Finding, HostOptions, HubFacts, IsFindingOf, IsRight, Silent, Accepted}
use Rattle.usb_enum.specs.{texts_of, strings_of, facts_of, usual_options}
use Rattle.usb_enum.specs.declared.finding.Finding.TheVariants.{Device, Refused}
use Rattle.usb_table.specs.{Entries, SpecTree, finding_at, hub_facts_in, hub_facts_at, IsPortBelow}
use Rattle.usb_table.specs.{IsListedPort, tier_of, supply_at, ListsEach, Lists, NoneWaits}
use Rattle.usb_table.specs.{IsFoundLike, ListsLike, tree_after, Matches, Rises, entry_address}
use Rattle.usb_table.proofs.entries.Ranges.{parent_shorter}
use Rattle.usb_world.specs.{PlanData, IsPlan, AtPorts, AnyStep, Course, opening, World, roots_of}
use Rattle.usb_world.proofs.Interface.{devices_left, new_long}
use Rattle.usb_enum.proofs.Interface.{course_later, examples, row_silent, small, two_ports}
use Rattle.std.specs.Map.{lookup}
use Rattle.std.specs.BTreeMap.{is_at}
use Rattle.std.specs.List.Sorted.{IsStrictlySortedBy}
use Rattle.usb_table.proofs.entries.Keys.{path_tied}

found_like : (spec : Spec) (options : HostOptions) (tier supply : ℕ) (f g : Finding)
    → IsFindingOf spec options tier supply f → IsFindingOf spec options tier supply g
    → IsFoundLike f g
found_like spec options tier supply f g x y = grind arith

-- none waits: it is found by its description
by_description : (entries : Entries) → NoneWaits entries
    → (path : List ℕ) (spec : Spec) (f : Finding) (options : HostOptions) (tier supply : ℕ)
    → finding_at path entries ≡ Some f
    → IsRight (ListsEach entries) spec options tier supply f
    → IsFindingOf spec options tier supply f
by_description entries none path spec f options tier supply at h = grind arith

-- the finding at a listed port where a device is plugged
listed_finding : (options : HostOptions) (roots : ℕ) (tree : SpecTree) (entries : Entries)
    → Lists options roots tree entries → NoneWaits entries → (path : List ℕ) (spec : Spec)
    → IsListedPort roots entries path → tree path ≡ Some spec
    → IsSomeAnd (finding_at path entries)
    (IsFindingOf spec options (tier_of path) (supply_at tree path))
listed_finding options roots tree entries l none path spec port t =
    pick (finding_at path entries) refl (l.there path spec port t)
  where
    pick : (o : Option Finding) → finding_at path entries ≡ o
        → IsSomeAnd o
        (IsRight (ListsEach entries) spec options (tier_of path) (supply_at tree path))
        → IsSomeAnd o (IsFindingOf spec options (tier_of path) (supply_at tree path))
    pick None at h = h
    pick (Some f) at h = grind (arith, by_description)

-- Ports

same_facts : (f : Finding) (o : Option Finding) (hub : HubFacts) → IsSomeAnd o (IsFoundLike f)
    → hub_facts_in (Some f) ≡ Some hub → hub_facts_in o ≡ Some hub
same_facts f o hub like at = grind arith

-- a listed hub is listed by the other too
same_hub : (a b : Entries) (path : List ℕ) (hub : HubFacts)
    → ((f : Finding) → finding_at path a ≡ Some f → IsSomeAnd (finding_at path b) (IsFoundLike f))
    → hub_facts_at path a ≡ Some hub → hub_facts_at path b ≡ Some hub
same_hub a b path hub like at = grind (arith, same_facts)

is_some_and-moved : (o u : Option HubFacts) (P : HubFacts → Type 0)
    → ((hub : HubFacts) → o ≡ Some hub → u ≡ Some hub) → IsSomeAnd o P → IsSomeAnd u P
is_some_and-moved o u P on h = grind arith

-- what is listed alike at shorter paths has the same ports
port_moved : (roots : ℕ) (a b : Entries) (path : List ℕ)
    → ((p : List ℕ) → length p < length path → (f : Finding) → finding_at p a ≡ Some f
    → IsSomeAnd (finding_at p b) (IsFoundLike f))
    → IsListedPort roots a path → IsListedPort roots b path
port_moved roots a b path like h = record {
  some = h.some;
  port = pick (parent_of path) refl h.port;
}
  where
    pick : (o : Option (List ℕ)) → parent_of path ≡ o → IsPortBelow roots a o (port_on_hub path)
        → IsPortBelow roots b o (port_on_hub path)
    pick None e h = h
    pick (Some p) e h = grind (arith, is_some_and-moved, parent_shorter, same_hub)

-- of two right listings

module _ (options : HostOptions) (roots : ℕ) (tree : SpecTree) (a b : Entries)
    (x : Lists options roots tree a) (y : Lists options roots tree b) (m : NoneWaits a)
    (n : NoneWaits b) where
  same_here : (path : List ℕ) (f : Finding) → finding_at path a ≡ Some f
      → (IsListedPort roots a path → IsListedPort roots b path)
      → IsSomeAnd (finding_at path b) (IsFoundLike f)
  same_here path f found move = pick (tree path) refl (x.nothing_else path f found).1
    where
      port : IsListedPort roots a path
      port = grind arith

      both : (spec : Spec) (u : Option Finding)
          → IsSomeAnd (Some f) (IsFindingOf spec options (tier_of path) (supply_at tree path))
          → IsSomeAnd u (IsFindingOf spec options (tier_of path) (supply_at tree path))
          → IsSomeAnd u (IsFoundLike f)
      both spec None g h = h
      both spec (Some e) g h = grind (arith, found_like)

      pick : (o : Option Spec) → tree path ≡ o → IsSome o
          → IsSomeAnd (finding_at path b) (IsFoundLike f)
      pick None t some = absurd cc
      pick (Some spec) t some =
          both spec (finding_at path b)
          (rw found at (listed_finding options roots tree a x m path spec port t))
          (listed_finding options roots tree b y n path spec (move port) t)

  listed_alike : (k : ℕ) (path : List ℕ) → length path < k → (f : Finding)
      → finding_at path a ≡ Some f → IsSomeAnd (finding_at path b) (IsFoundLike f)
  listed_alike zero path l f at = absurd (omega (arith, l))
  listed_alike (suc k) path l f at = grind (arith, listed_alike k, port_moved, same_here)

pub one_listing : (options : HostOptions) (roots : ℕ) (tree : SpecTree) (a b : Entries)
    → Lists options roots tree a → Lists options roots tree b → NoneWaits a → NoneWaits b
    → ListsLike a b
one_listing options roots tree a b x y m n path f at =
    listed_alike options roots tree a b x y m n (length path + 1) path (omega arith) f at

-- A listing of a world in a plan's course is one of what the plan's events have left.

-- trees that are the same path by path have the same listings
lists_moved : (options : HostOptions) (m n : ℕ) (a b : SpecTree) (entries : Entries) → m ≡ n
    → ((path : List ℕ) → a path ≡ b path) → Lists options m a entries
    → Lists options n b entries
lists_moved options m n a b entries e same x =
    rw (← e) (subst (λ (t : SpecTree). Lists options m t entries) (λ i path. same path i) x)

pub lists_of_plan : (plan : PlanData) → IsPlan plan → AtPorts plan.events → (w : World)
    → Course AnyStep (opening plan) w → (options : HostOptions) (entries : Entries)
    → Matches options w entries → Lists options plan.roots (tree_after plan w.taken) entries
lists_of_plan plan is paths w c options entries m =
    let number : roots_of w ≡ plan.roots = (course_later c).roots ∙ new_long plan.roots in
    search (devices_left, lists_moved, plan.roots, w.taken, m.lists)

-- A listing: a hub at a root port, and a device that is silent at the hub's second port.

abbrev pub silent_function : Spec
silent_function = record small { silent = true }

abbrev listed_hub : Accepted
listed_hub = record {
  address = 1;
  low = false;
  bytes = take 18 two_ports.descriptor;
  configs = texts_of two_ports;
  chosen = 0;
  strings = strings_of two_ports;
  hub = facts_of two_ports;
  chosen_in = omega arith;
}

abbrev pub tree : SpecTree
tree path = lookup (is_at (path_cmp path)) ((1 ∷ [], two_ports) ∷ (1 ∷ 2 ∷ [], silent_function) ∷
    [])

abbrev example_entries : Entries
example_entries = (1 ∷ [], Device listed_hub) ∷ (1 ∷ 2 ∷ [], Refused Silent) ∷ []

-- what is so at both paths, and where nothing is, is so
by_path : (P : List ℕ → Type 0) → P (1 ∷ []) → P (1 ∷ 2 ∷ [])
    → ((path : List ℕ) → is_at (path_cmp path) (1 ∷ []) ≡ false → is_at (path_cmp path) (1 ∷ 2 ∷ [])
    ≡ false → P path) → (path : List ℕ) → P path
by_path P first second none path = grind (arith, path_tied)

abbrev IsFoundAt : List ℕ → Type 0
IsFoundAt path = (spec : Spec) → tree path ≡ Some spec → IsSomeAnd (finding_at path example_entries)
    (IsRight (ListsEach example_entries) spec (usual_options false) (tier_of path)
    (supply_at tree path))

found_first : IsFoundAt (1 ∷ [])
unfolding parent_of supply_of
found_first = grind (arith, examples, two_ports)

found_second : IsFoundAt (1 ∷ 2 ∷ [])
unfolding parent_of supply_of
found_second = grind (arith, row_silent)

example_elsewhere : (path : List ℕ) → is_at (path_cmp path) (1 ∷ []) ≡ false
    → is_at (path_cmp path) (1 ∷ 2 ∷ []) ≡ false → IsFoundAt path
example_elsewhere path x y = grind arith

abbrev IsAlone : List ℕ → Type 0
IsAlone path = (finding : Finding) → finding_at path example_entries ≡ Some finding
    → IsListedPort 1 example_entries path × IsSome (tree path)

alone_first : IsAlone (1 ∷ [])
unfolding parent_of port_on_hub
alone_first = grind arith

alone_second : IsAlone (1 ∷ 2 ∷ [])
unfolding parent_of port_on_hub
alone_second = grind arith

alone_none : (path : List ℕ) → is_at (path_cmp path) (1 ∷ []) ≡ false
    → is_at (path_cmp path) (1 ∷ 2 ∷ []) ≡ false → IsAlone path
alone_none path x y = grind arith

abbrev HasExamplePath : List ℕ → Type 0
HasExamplePath path = (address : ℕ) → entry_address path example_entries ≡ Some address
    → (path ≡ 1 ∷ []) × IsAddress address

address_first : HasExamplePath (1 ∷ [])
address_first = grind arith

address_second : HasExamplePath (1 ∷ 2 ∷ [])
address_second address at = absurd (cc at)

address_none : (path : List ℕ) → is_at (path_cmp path) (1 ∷ []) ≡ false
    → is_at (path_cmp path) (1 ∷ 2 ∷ []) ≡ false → HasExamplePath path
address_none path x y = grind arith

rising : Rises example_entries
unfolding IsStrictlySortedBy
rising = ((refl, tt), (tt, tt))

listed : Lists (usual_options false) 1 tree example_entries
listed =
    record {
      rises = rising;
      there = λ path spec port. by_path IsFoundAt found_first found_second example_elsewhere path
          spec;
      nothing_else = by_path IsAlone alone_first alone_second alone_none;
      addresses = grind (arith, address_first, address_none, address_second, by_path);
      differ = λ path other address at same.
          (by_path HasExamplePath address_first address_second address_none path address at).0
          ∙ sym (by_path HasExamplePath address_first address_second address_none other address
          same).0;
    }
