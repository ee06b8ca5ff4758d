-- Where nothing is left to do, a host that knows its ports lists what is plugged.
use Rattle.std.proofs.Common.{◌≡◌, ◌⊎◌, inl, inr, ◌≤◌, ◌-◌, ℕ, zero, suc, Bool, true, false, List}
use Rattle.std.proofs.Common.{[], ◌∷◌, Option, None, Some, option_map, refl, ap, subst, ◌∙◌, arith}
use Rattle.std.proofs.Common.{IsSome, IsSomeAnd}
use Rattle.std.specs.Prelude.{⊤, unwrap_or}
use Rattle.usb_port.specs.{port_on_hub, IsPath, IsPortNumber, Addresses, IsAddress, supply_of}
use Rattle.usb_device.specs.{State, Spec, Ports, vacant, taken, reach, reach_at, state_at}
use Rattle.usb_device.specs.{state_there}
use Rattle.usb_world.specs.{pending, spec_of, hub_ports, World, roots_of}
use Rattle.usb_world.proofs.Interface.{same_is, both, false_true}
use Rattle.usb_enum.specs.{Cause, Accepted, Finding, HubFacts, facts_of, IsRight, IsThere}
use Rattle.usb_enum.specs.{IsKnownAs, HostOptions}
use Rattle.usb_enum.specs.declared.finding.Finding.TheVariants.{Device, Refused}
use Rattle.usb_table.specs.{KnownPort, Entries, accepted_device_of, port_below, port_found}
use Rattle.usb_table.specs.{port_of_hub, is_below_hub, tree_in, finding_at, entry_address}
use Rattle.usb_table.specs.{hub_facts_in, IsPortBelow, IsListedPort, tier_of, supply_below}
use Rattle.usb_table.specs.{supply_at, ListsEach, Matches}
use Rattle.usb_host.specs.{PortsListed, known_supply, IsTruthOf, DevicesAccurate, RefusalsJustified}
use Rattle.usb_host.specs.{Accounted, IsAtRest}
use Rattle.usb_host.proofs.entries.Agreements.{claims_distinct}

-- A reachable device stands

reached_at : (k : Ports) (j : ℕ) (p : List ℕ) → reach_at k j p ≡ true → (s : State)
    × (state_at k j p ≡ Some s)
unfolding reach_at state_at
reached_at (vacant b k) (suc j) p h = reached_at k j p h
reached_at (taken b s a k) zero [] h = (s, refl)
reached_at (taken b s a k) zero (suc j ∷ p) h =
    reached_at a j p (both b.enable (reach_at a j p) h).1
reached_at (taken b s a k) (suc j) p h = reached_at k j p h
reached_at _ _ _ h = false_true h

pub reached_there : (k : Ports) (p : List ℕ) → reach k p ≡ true → (s : State)
    × (state_there k p ≡ Some s)
reached_there k p h = grind (arith, reached_at)

-- Entries stand at listed ports

pub port_number : (path : List ℕ) → IsPath path → IsPortNumber (port_on_hub path)
unfolding port_on_hub
port_number path is = grind arith

module _ {options : HostOptions} (w : World) {entries : Entries} {addresses : Addresses}
    (accounted : Accounted options (roots_of w) entries addresses) where
  pub listed_port : (path : List ℕ) (f : Finding) → finding_at path entries ≡ Some f
      → IsListedPort (roots_of w) entries path
  listed_port path f at = grind (arith, port_number)

  pub listed_address : (path : List ℕ) (address : ℕ) → entry_address path entries ≡ Some address
      → IsAddress address
  listed_address path address at = grind arith

  listed_once : (path other : List ℕ) (address : ℕ) → entry_address path entries ≡ Some address
      → entry_address other entries ≡ Some address → path ≡ other
  listed_once path other address at same = grind (arith, claims_distinct, same_is)

-- What is known where nothing is pending

there : (w : World) (path : List ℕ) (o : Option Finding) → pending w.roots path ≡ false
    → IsKnownAs w path o → IsThere w path o
there w path o none h = grind arith

tree_in-spec : (w : World) (path : List ℕ) {s : State} → state_there w.roots path ≡ Some s
    → tree_in w path ≡ Some s.spec
tree_in-spec w path h = ap (option_map spec_of) h

-- What a hub's ports give

supply_of_hub : (device : Accepted) (below : Bool) (n : ℕ) (o : Option HubFacts)
    → IsSomeAnd o (λ facts. (1 ≤ n) × (n ≤ facts.ports)) → (facts : HubFacts) × (o ≡ Some facts)
    × (unwrap_or (option_map (λ (known : KnownPort). known.supply) (port_of_hub device o below n)) 0
    ≡ facts.supply)
supply_of_hub device below n o h = grind arith

-- the accepted hub of a finding that has the port
record IsHubAt (o : Option Finding) (below : Bool) (n : ℕ) : Type 0 where
  device : Accepted
  facts : HubFacts
  found : o ≡ Some (Device device)
  told : device.hub ≡ Some facts
  gives : unwrap_or (option_map (λ (known : KnownPort). known.supply) (port_found o below n)) 0
      ≡ facts.supply

facts_are_hub : (o : Option Finding) (below : Bool) (n : ℕ)
    → IsSomeAnd (hub_facts_in o) (λ facts. (1 ≤ n) × (n ≤ facts.ports)) → IsHubAt o below n
facts_are_hub (Some (Device d)) below n h = let x : _ = supply_of_hub d below n d.hub h in
    record { device = d; facts = x.0; found = refl; told = x.1; gives = x.2 }
facts_are_hub _ below n h = absurd h

-- what is known of a hub is as its description says
abbrev pub facts_in : Spec → HubFacts
facts_in spec =
    record { ports = hub_ports spec.hub; supply = supply_of false spec.self_powered }

pub facts_given : (spec : Spec) (facts : HubFacts) → facts_of spec ≡ Some facts
    → facts ≡ facts_in spec
facts_given spec facts h = grind arith

-- The listing

right_moved : (full : Type 0) (options : HostOptions) {a : Spec} (b : Spec) (tier : ℕ) {m n : ℕ}
    (f : Finding) → a ≡ b → m ≡ n → IsRight full a options tier m f
    → IsRight full b options tier n f
right_moved full options b tier {n = n} f e g x = rw (← g) (rw e at x)

module _ (options : HostOptions) (w : World) (entries : Entries) (addresses : Addresses)
    (accounted : Accounted options (roots_of w) entries addresses) (known : PortsListed w entries)
    (truthful : DevicesAccurate options w entries) (causes : RefusalsJustified options w entries)
    (rest : IsAtRest w entries) where
  there_at : {path : List ℕ} → IsListedPort (roots_of w) entries path
      → IsThere w path (finding_at path entries)
  there_at port = grind arith

  reached : (path : List ℕ) (device : Accepted) → finding_at path entries ≡ Some (Device device)
      → reach w.roots path ≡ true
  reached path device at = grind (arith, listed_port)

  -- an accepted device stands, and what is known of it is so
  told : (path : List ℕ) (device : Accepted) → finding_at path entries ≡ Some (Device device)
      → (s : State) × (state_there w.roots path ≡ Some s) × IsTruthOf options entries path device s
  told path device at =
      let on = reached path device at in
      let s : _ = reached_there w.roots path on in
      (s.0, s.1, truthful path device s.0 (ap accepted_device_of at) on s.1)

  supply_known : (o : Option (List ℕ)) (n : ℕ) → IsPortBelow (roots_of w) entries o n
      → unwrap_or (option_map (λ (known : KnownPort). known.supply) (port_below o n entries)) 0
      ≡ supply_below (tree_in w) o
  supply_known None n h = refl
  supply_known (Some hub) n h =
      let x = facts_are_hub (finding_at hub entries) (is_below_hub hub) n h in
      let t : _ = told hub x.device x.found in grind arith

  -- a refused device's cause, where it does not wait for an address that is free
  right_cause : (path : List ℕ) (cause : Cause) (s : State)
      → finding_at path entries ≡ Some (Refused cause) → state_there w.roots path ≡ Some s
      → IsRight (ListsEach entries) s.spec options (tier_of path) (known_supply path entries)
      (Refused cause)
  right_cause path cause s at stands = pick (causes path cause s at stands)
    where
      pick : (pending w.roots path ≡ true)
          ⊎ IsRight ⊤ s.spec options (tier_of path) (known_supply path entries) (Refused cause)
          → IsRight (ListsEach entries) s.spec options (tier_of path) (known_supply path entries)
          (Refused cause)
      pick (inl pends) = false_true (grind (arith, listed_port))
      pick (inr (inl x)) = inl x
      pick (inr (inr x)) = inr (record {
        none = rest.none_waiting path (at ∙ ap (λ f. Some f) x.refused);
        head = x.head;
        refused = x.refused;
      })

  right_there : (path : List ℕ) (spec : Spec) → IsListedPort (roots_of w) entries path
      → tree_in w path ≡ Some spec
      → IsSomeAnd (finding_at path entries) (IsRight (ListsEach entries) spec options (tier_of path)
      (supply_at (tree_in w) path))
  right_there path spec port is = pick (finding_at path entries) refl
    where
      moved : (s : State) (f : Finding) → state_there w.roots path ≡ Some s
          → IsRight (ListsEach entries) s.spec options (tier_of path) (known_supply path entries) f
          → IsRight (ListsEach entries) spec options (tier_of path) (supply_at (tree_in w) path) f
      moved s f stands right =
          let same : s.spec ≡ spec = cc (tree_in-spec w path stands, is) in
          search (right_moved, supply_known)

      pick : (o : Option Finding) → finding_at path entries ≡ o
          → IsSomeAnd o (IsRight (ListsEach entries) spec options (tier_of path)
          (supply_at (tree_in w) path))
      pick None at = grind arith
      pick (Some (Device device)) at = let t : _ = told path device at in
          moved _ (Device device) t.1 (inl t.2.found)
      pick (Some (Refused cause)) at = stood (state_there w.roots path) refl
          (subst (IsThere w path) at (there_at port)).0
        where
          stood : (o : Option State) → state_there w.roots path ≡ o → IsSome o
              → IsRight (ListsEach entries) spec options (tier_of path) (supply_at (tree_in w) path)
              (Refused cause)
          stood None e h = absurd cc
          stood (Some s) e h = moved s (Refused cause) e (right_cause path cause s at e)

  plugged_there : (path : List ℕ) (f : Finding) → finding_at path entries ≡ Some f
      → IsSome (tree_in w path)
  plugged_there path f at = grind (arith, listed_port, told)

  pub settled_matches : Matches options w entries
  settled_matches =
      record {
        lists = search (listed_address, listed_once, listed_port, plugged_there, right_there);
        reached = grind (arith, reached);
        set = λ path device at. grind (arith, told);
        disabled = grind (arith, listed_port);
      }
