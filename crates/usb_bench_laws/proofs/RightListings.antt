-- The listing that a host's entries make is right, where they match the world.
use Rattle.std.proofs.Common.{◌≡◌, ◌≤◌, ◌∙◌, refl, sym, ap, subst, arith, ℕ}
use Rattle.std.proofs.Common.{true, false, inl, inr, List, [], ◌∷◌, length, Option, None, Some}
use Rattle.std.proofs.Common.{is_some, nat_lt, option_map, IsSome, IsSomeAnd, IfSome}
use Rattle.std.specs.Prelude.{◌&&◌, All, Bool, Contains, count_by, if◌then◌else◌, nat_le}
use Rattle.std.specs.List.{list_all, list_any}
use Rattle.std.specs.Str.{bytes_eq}
use Rattle.std.proofs.lemmas.Bool.{and_from, and_parts, eqb-true, le-leb, lt-ltb}
use Rattle.std.proofs.lemmas.List.Elements.{All-head, All-tail}
use Rattle.std.proofs.lemmas.Option.{same_Some}
use Rattle.std.proofs.lemmas.Slice.Eq.{bytes_eq-Decides}
use Rattle.usb_port.specs.{IsPath, IsPortNumber, PortState, parent_of, port_on_hub}
use Rattle.usb_port.proofs.Interface.{rejoined}
use Rattle.usb_device.specs.{State, port_there, reach, state_there}
use Rattle.usb_world.specs.{Consistent, World, roots_of, spec_of}
use Rattle.usb_enum.specs.{Accepted, Cause, Finding, HostOptions, HubFacts, IsFindingOf, IsRight}
use Rattle.usb_enum.specs.{IsSet}
use Rattle.usb_enum.specs.declared.finding.Finding.TheVariants.{Device, Refused}
use Rattle.usb_enum.proofs.Interface.{ruled_there}
use Rattle.usb_table.specs.{Entries, IsListedPort, IsPortBelow, ListsEach, Matches}
use Rattle.usb_table.specs.{accepted_device_of, address_in, entry_address, finding_at}
use Rattle.usb_table.specs.{hub_facts_in, supply_at, tier_of, tree_in}
use Rattle.usb_judge.specs.declared.listed.Claim.{Claim}
use Rattle.usb_judge.specs.declared.listed.Claim.TheVariants as claim
use Rattle.usb_judge.specs.declared.listed.ListedPort.{ListedPort}
use Rattle.usb_judge.specs as judge
use Rattle.usb_judge.specs.{IsRightIn, IsRightOf, claims_address, given_below, gives_address}
use Rattle.usb_judge.specs.{is_port_number, names_port}
use Rattle.usb_judge.specs.{has_hub, is_accepted_at, is_listed_at, is_open, scene_of, state_seen}
use Rattle.usb_bench_laws.specs.{HavePaths, ListsEntries, SaidDevice, SaidPort, claim_of_entry}
use Rattle.usb_bench_laws.specs.{claim_said, device_of_entry, device_said, port_of_entry, port_said}
use Rattle.usb_bench_laws.proofs.Devices.{facts_told, is_hub, is_powered, is_so}
use Rattle.usb_bench_laws.proofs.Entries.{entry_found, finding_of}
use Rattle.usb_bench_laws.proofs.ListedEntries.{IsListedAs, IsPortOf, Passes, any_passes, any_there}
use Rattle.usb_bench_laws.proofs.ListedEntries.{listed_as, one_passes, port_is}
use Rattle.usb_bench_laws.proofs.Worlds.{IsHubOf, enabled_there, hub_of, root_has, same_supply}

path_same : (path other : List ℕ) → path ≡ other → bytes_eq path other ≡ true
path_same path other h = (bytes_eq-Decides path other).1 h

-- a path at which a device stands, and which has no parent, is a number
root_alone : (w : World) (path : List ℕ) (s : State) → state_there w.roots path ≡ Some s
    → parent_of path ≡ None → (1 ≤ port_on_hub path) × (port_on_hub path ≤ roots_of w)
unfolding parent_of port_on_hub
root_alone w [] s stands none = absurd (cc stands)
root_alone w (n ∷ []) s stands none = root_has w.roots n s stands
root_alone w (n ∷ m ∷ path) s stands none =
    let long : nat_lt 1 (length (n ∷ m ∷ path)) ≡ true =
    lt-ltb 1 (length (n ∷ m ∷ path)) (omega arith) in
    absurd (cc (rw long at none))

not_empty : (w : World) (path : List ℕ) (s : State) → state_there w.roots path ≡ Some s
    → 1 ≤ length path
not_empty w [] s stands = absurd (cc stands)
not_empty w (n ∷ path) s stands = omega arith

never : (o : Option PortState) → IsSomeAnd o (λ b. b.enable ≡ true)
    → IfSome o (λ b. b.enable ≡ false) → ⊥
never None on off = absurd on
never (Some b) on off = cc (on, off)

-- Paths

all_numbers : (path : List ℕ) → All IsPortNumber path → list_all is_port_number path ≡ true
all_numbers [] all = refl
all_numbers (n ∷ path) all =
    let here : IsPortNumber n = All-head IsPortNumber n path all in
    and_from (is_port_number n) (list_all is_port_number path)
    (and_from (nat_le 1 n) (nat_le n 15) (le-leb 1 n here.0) (le-leb n 15 here.1))
    (all_numbers path (All-tail IsPortNumber n path all))

-- the path of a port names it
path_named : (path : List ℕ) → IsPath path → names_port path ≡ true
path_named path is =
    and_from (nat_le 1 (length path) && nat_le (length path) 7) (list_all is_port_number path)
    (and_from (nat_le 1 (length path)) (nat_le (length path) 7) (le-leb 1 (length path) is.0)
    (le-leb (length path) 7 is.1)) (all_numbers path is.2)

-- What a claim says

accepted_as : (c : Claim) → judge.is_accepted c ≡ is_some (claim_said c)
accepted_as (claim.Device listed) = refl
accepted_as claim.Refused = refl

address_claimed : (c : Claim) (device : Accepted) (address : ℕ) → claim_said c
    ≡ Some (device_of_entry device) → gives_address address c ≡ true → device.address ≡ address
address_claimed (claim.Device listed) device address said gives =
    sym (ap (λ (d : SaidDevice). d.address)
    (same_Some (device_said listed) (device_of_entry device) said))
    ∙ eqb-true listed.address address gives
address_claimed claim.Refused device address said gives = absurd (cc gives)

refused_claims : (c : Claim) (address : ℕ) → claim_said c ≡ None → gives_address address c ≡ true
    → ⊥
refused_claims (claim.Device listed) address said gives = absurd (cc said)
refused_claims claim.Refused address said gives = absurd (cc gives)

module _ (options : HostOptions) (w : World) (entries : Entries) (sane : Consistent w.roots)
    (paths : HavePaths entries) (m : Matches options w entries) (listing : List ListedPort)
    (same : ListsEntries entries listing) where
  -- Each field of what is found

  accepted_at : (path : List ℕ) (device : Accepted) → finding_at path entries
      ≡ Some (Device device) → accepted_device_of (finding_at path entries) ≡ Some device
  accepted_at path device at = ap accepted_device_of at

  set_at : (path : List ℕ) (device : Accepted) (s : State) → finding_at path entries
      ≡ Some (Device device) → state_there w.roots path ≡ Some s → IsSet device s
  set_at path device s at stands = subst (λ o. IfSome o (IsSet device)) stands
      (m.set path device (accepted_at path device at))

  given_at : (path : List ℕ) (device : Accepted) → finding_at path entries ≡ Some (Device device)
      → 1 ≤ device.address
  given_at path device at = (m.lists.addresses path device.address (ap address_in at)).0

  not_reached : (path : List ℕ) (cause : Cause) → finding_at path entries ≡ Some (Refused cause)
      → reach w.roots path ≡ true → ⊥
  not_reached path cause at on = never (port_there w.roots path) (enabled_there w.roots path on)
      (m.disabled path cause at)

  -- The devices that are plugged

  right_at : (path : List ℕ) (f : Finding) (s : State) → finding_at path entries ≡ Some f
      → state_there w.roots path ≡ Some s
      → IsRight (ListsEach entries) s.spec options (tier_of path) (supply_at (tree_in w) path) f
  right_at path f s at stands =
      subst (λ o. IsSomeAnd o (IsRight (ListsEach entries) s.spec options (tier_of path)
      (supply_at (tree_in w) path))) at
      (m.lists.there path s.spec (m.lists.nothing_else path f at).0
      (ap (option_map spec_of) stands))

  found_at : (path : List ℕ) (device : Accepted) (s : State) → finding_at path entries
      ≡ Some (Device device) → state_there w.roots path ≡ Some s
      → IsFindingOf s.spec options (tier_of path) (supply_at (tree_in w) path) (Device device)
  found_at path device s at stands = by_right (right_at path (Device device) s at stands)
    where
      by_right : IsRight (ListsEach entries) s.spec options (tier_of path)
          (supply_at (tree_in w) path) (Device device)
          → IsFindingOf s.spec options (tier_of path) (supply_at (tree_in w) path) (Device device)
      by_right (inl found) = found
      by_right (inr x) = absurd (cc x.refused)

  claim_right : (path : List ℕ) (f : Finding) (s : State) → finding_at path entries ≡ Some f
      → state_there w.roots path ≡ Some s
      → (c : Claim) → claim_said c ≡ claim_of_entry f
      → IsRightOf c (state_seen (reach w.roots path) (given_below w.roots (parent_of path)) s)
  claim_right path (Device device) s at stands (claim.Device listed) said =
      let supply : ℕ = supply_at (tree_in w) path in
      let found = found_at path device s at stands in
      let set = set_at path device s at stands in
      let on = m.reached path device (accepted_at path device at) in
      subst (λ n. IsRightOf (claim.Device listed) (state_seen (reach w.roots path) n s))
      (same_supply w (parent_of path)) (
        is_so options (tier_of path) supply device s found set listed
            (same_Some (device_said listed) (device_of_entry device) said) (reach w.roots path) on
            (given_at path device at),
        is_powered options (tier_of path) supply device s found set (reach w.roots path),
      )
  claim_right path (Refused cause) s at stands claim.Refused said = (
    λ on. absurd (not_reached path cause at on),
    λ on. absurd (not_reached path cause at on),
  )
  claim_right path (Device device) s at stands claim.Refused said = absurd (cc said)
  claim_right path (Refused cause) s at stands (claim.Device listed) said = absurd (cc said)

  there_at : (path : List ℕ) (f : Finding) → finding_at path entries ≡ Some f
      → (c : Claim) → claim_said c ≡ claim_of_entry f → IsSomeAnd (scene_of w path) (IsRightOf c)
  there_at path f at c said =
      subst (λ b. IsSomeAnd (if b then option_map (state_seen (reach w.roots path)
      (given_below w.roots (parent_of path))) (state_there w.roots path) else None) (IsRightOf c))
      (sym (path_named path (paths path f at)))
      (by_state (state_there w.roots path) refl (m.lists.nothing_else path f at).1)
    where
      by_state : (o : Option State) → state_there w.roots path ≡ o → IsSome (option_map spec_of o)
          → IsSomeAnd (option_map (state_seen (reach w.roots path)
          (given_below w.roots (parent_of path))) o) (IsRightOf c)
      by_state None stands some = absurd (cc some)
      by_state (Some s) stands some = claim_right path f s at stands c said

  there : (port : ListedPort) → Contains listing port
      → IsSomeAnd (scene_of w port.path) (IsRightOf port.claim)
  there port has =
      let e : IsPortOf port entries = port_is entries listing same port has in
      subst (λ p. IsSomeAnd (scene_of w p) (IsRightOf port.claim))
      (sym (ap (λ (said : SaidPort). said.0) e.is))
      (there_at e.path e.finding (finding_of e.path e.finding entries m.lists.rises e.has)
      port.claim (ap (λ (said : SaidPort). said.1) e.is))

  -- Hubs

  hub_used : (hub : List ℕ) (f : Finding) (n : ℕ) → finding_at hub entries ≡ Some f
      → IsSomeAnd (hub_facts_in (Some f)) (λ facts. (1 ≤ n) × (n ≤ facts.ports))
      → list_any (is_accepted_at hub) listing ≡ true
  hub_used hub (Device device) n at some =
      let it : IsListedAs (hub, Device device) listing = listed_as entries listing same
      (hub, Device device) (entry_found hub (Device device) entries at) in
      any_there (is_accepted_at hub) it.port listing it.has
      (and_from (bytes_eq it.port.path hub) (judge.is_accepted it.port.claim)
      (path_same it.port.path hub (ap (λ (said : SaidPort). said.0) it.is))
      (accepted_as it.port.claim ∙ ap (λ (said : SaidPort). is_some said.1) it.is))
  hub_used hub (Refused cause) n at some = absurd some

  hub_open : (o : Option (List ℕ)) (n : ℕ) → IsPortBelow (roots_of w) entries o n
      → has_hub listing o ≡ true
  hub_open None n below = refl
  hub_open (Some hub) n below = by_found (finding_at hub entries) refl below
    where
      by_found : (o : Option Finding) → finding_at hub entries ≡ o
          → IsSomeAnd (hub_facts_in o) (λ facts. (1 ≤ n) × (n ≤ facts.ports))
          → list_any (is_accepted_at hub) listing ≡ true
      by_found None at some = absurd some
      by_found (Some f) at some = hub_used hub f n at some

  hubs : (port : ListedPort) → Contains listing port → is_open listing port.path ≡ true
  hubs port has =
      let e : IsPortOf port entries = port_is entries listing same port has in
      let at = finding_of e.path e.finding entries m.lists.rises e.has in
      subst (λ p. is_open listing p ≡ true) (sym (ap (λ (said : SaidPort). said.0) e.is))
      (hub_open (parent_of e.path) (port_on_hub e.path)
      (m.lists.nothing_else e.path e.finding at).0.port)

  -- Each device that is plugged at such a port is listed

  facts_at : (hub : List ℕ) (f : Finding) (n : ℕ) → finding_at hub entries ≡ Some f
      → is_some (claim_of_entry f) ≡ true → IsHubOf w.roots hub n
      → IsSomeAnd (hub_facts_in (Some f)) (λ facts. (1 ≤ n) × (n ≤ facts.ports))
  facts_at hub (Device device) n at accepted h =
      let found = found_at hub device h.state at h.stands in
      let ruled = ruled_there w.roots hub h.state sane h.stands in
      let least = h.least in
      let most = h.most in
      let class = is_hub h.state.spec ruled (omega (arith, least, most)) in
      subst (λ (o : Option HubFacts). IsSomeAnd o (λ facts. (1 ≤ n) × (n ≤ facts.ports)))
      (sym (found.1.hub ∙ facts_told h.state.spec class)) (least, most)
  facts_at hub (Refused cause) n at accepted h = absurd (cc accepted)

  below_hub : (hub path : List ℕ) (s : State) → parent_of path ≡ Some hub
      → state_there w.roots path ≡ Some s
      → list_any (is_accepted_at hub) listing ≡ true
      → IsPortBelow (roots_of w) entries (Some hub) (port_on_hub path)
  below_hub hub path s is stands used =
      let it : Passes (is_accepted_at hub) listing =
      any_passes (is_accepted_at hub) listing used in
      let parts = and_parts (bytes_eq it.element.path hub) (judge.is_accepted it.element.claim)
      it.is in
      let e : IsPortOf it.element entries = port_is entries listing same it.element it.has in
      let there : e.path ≡ hub = sym (ap (λ (said : SaidPort). said.0) e.is)
      ∙ (bytes_eq-Decides it.element.path hub).0 parts.0 in
      let accepted : is_some (claim_of_entry e.finding) ≡ true =
      sym (ap (λ (said : SaidPort). is_some said.1) e.is)
      ∙ sym (accepted_as it.element.claim) ∙ parts.1 in
      let at : finding_at hub entries ≡ Some e.finding =
      subst (λ p. finding_at p entries ≡ Some e.finding) there
      (finding_of e.path e.finding entries m.lists.rises e.has) in
      let some = (m.lists.nothing_else hub e.finding at).0.some in
      let above = hub_of w.roots hub (port_on_hub path) s sane some
      (subst (λ p. state_there w.roots p ≡ Some s) (rejoined path hub is) stands) in
      subst (λ o. IsSomeAnd (hub_facts_in o) (λ facts. (1 ≤ port_on_hub path)
      × (port_on_hub path ≤ facts.ports))) (sym at)
      (facts_at hub e.finding (port_on_hub path) at accepted above)

  port_below : (o : Option (List ℕ)) (path : List ℕ) (s : State) → parent_of path ≡ o
      → state_there w.roots path ≡ Some s → has_hub listing o ≡ true
      → IsPortBelow (roots_of w) entries o (port_on_hub path)
  port_below None path s is stands used = root_alone w path s stands is
  port_below (Some hub) path s is stands used = below_hub hub path s is stands used

  each_at : (path : List ℕ) (s : State) → state_there w.roots path ≡ Some s
      → is_open listing path ≡ true
      → list_any (is_listed_at path) listing ≡ true
  each_at path s stands opens =
      let port : IsListedPort (roots_of w) entries path = record {
        some = not_empty w path s stands;
        port = port_below (parent_of path) path s refl stands opens;
      } in
      by_found (finding_at path entries) refl
      (m.lists.there path s.spec port (ap (option_map spec_of) stands))
    where
      by_found : (o : Option Finding) → finding_at path entries ≡ o
          → IsSomeAnd o (IsRight (ListsEach entries) s.spec options (tier_of path)
          (supply_at (tree_in w) path))
          → list_any (is_listed_at path) listing ≡ true
      by_found None at right = absurd right
      by_found (Some f) at right =
          let it : IsListedAs (path, f) listing = listed_as entries listing same (path, f)
          (entry_found path f entries at) in
          any_there (is_listed_at path) it.port listing it.has
          (path_same it.port.path path (ap (λ (said : SaidPort). said.0) it.is))

  each : (path : List ℕ) → is_some (scene_of w path) ≡ true
      → is_open listing path ≡ true
      → list_any (is_listed_at path) listing ≡ true
  each path some opens = by_state (names_port path) (state_there w.roots path) refl some
    where
      by_state : (b : Bool) (o : Option State) → state_there w.roots path ≡ o
          → is_some (if b then option_map (state_seen (reach w.roots path)
          (given_below w.roots (parent_of path))) o else None) ≡ true
          → list_any (is_listed_at path) listing ≡ true
      by_state true (Some s) stands h = each_at path s stands opens
      by_state true None stands h = absurd (cc h)
      by_state false o stands h = absurd (cc h)

  -- Nothing is listed twice

  addressed : (e : List ℕ × Finding) (port : ListedPort) (address : ℕ) → Contains entries e
      → port_said port ≡ port_of_entry e → claims_address address port ≡ true
      → entry_address e.0 entries ≡ Some address
  addressed (path, Device device) port address has is claims =
      ap address_in (finding_of path (Device device) entries m.lists.rises has)
      ∙ ap (λ a. Some a) (address_claimed port.claim device address
      (ap (λ (said : SaidPort). said.1) is) claims)
  addressed (path, Refused cause) port address has is claims = absurd
      (refused_claims port.claim address (ap (λ (said : SaidPort). said.1) is) claims)

  once : (path : List ℕ) → count_by (is_listed_at path) listing ≤ 1
  once path = one_passes (is_listed_at path) entries listing m.lists.rises same
      (λ d e x y has also of also_of one other.
      sym (ap (λ (said : SaidPort). said.0) of) ∙ (bytes_eq-Decides x.path path).0 one
      ∙ sym ((bytes_eq-Decides y.path path).0 other) ∙ ap (λ (said : SaidPort). said.0) also_of)

  alone : (address : ℕ) → count_by (claims_address address) listing ≤ 1
  alone address = one_passes (claims_address address) entries listing m.lists.rises same
      (λ d e x y has also of also_of one other. m.lists.differ d.0 e.0 address
      (addressed d x address has of one) (addressed e y address also also_of other))

  pub right_in : IsRightIn w listing
  right_in = record { there = there; hubs = hubs; each = each; once = once; alone = alone }
