-- The hub of a port that is known serves the port, or a change of connection is pending at the hub.
use Rattle.std.proofs.Common.{◌≡◌, refl, arith, Bool, true, false, ℕ, ◌≤◌, List, [], ◌∷◌, ◌++◌}
use Rattle.std.proofs.Common.{length, Some, ◌⊎◌, inl, inr, suc, Option, None, ap, sym, subst, ◌∙◌}
use Rattle.std.proofs.Common.{length-append}
use Rattle.usb_world.specs.{World, IsRootPort, WorldInvariant, is_way, pending}
use Rattle.usb_port.specs.{parent_of, port_on_hub, IsPortNumber, supply_of, IsAddress}
use Rattle.usb_port.proofs.Interface.{parent, rejoined}
use Rattle.usb_hub.specs.{Root, External}
use Rattle.usb_table.specs.{KnownPort, Entries, known_port, is_below_hub, accepted_device_of}
use Rattle.usb_table.specs.{address_in, port_below, finding_at}
use Rattle.usb_table.proofs.Interface.{port_found-some, FoundPort}
use Rattle.usb_host.specs.{Agrees, HostState, IsDue, IsPortAt, StandsAt, IsAccurateAt, known_supply}
use Rattle.usb_host.specs.{IsSoundBut}
use Rattle.usb_descriptor.specs.{configuration_value}
use Rattle.usb_device.specs.{Spec, Hub, reach}
use Rattle.usb_world.proofs.Interface.{sane_spec, way_shorter, false_true}
use Rattle.usb_enum.specs.{Accepted, HubFacts, facts_of, target_of, configuration_of, HasServer}
use Rattle.usb_enum.specs.{ServesAt, IsKnownAs, HostOptions}
use Rattle.usb_enum.specs.declared.finding.Finding.TheVariants.{Device}
use Rattle.usb_enum.proofs.Interface.{AcceptsChosen, accepts, chosen_some, has_chosen}
use Rattle.usb_host.proofs.entries.Roots.{accounted}
use Rattle.usb_host.proofs.knowledge.SettledListings.{listed_port, listed_address, port_number}
use Rattle.usb_host.proofs.knowledge.SettledListings.{reached_there}

-- A port below a hub is the hub's.

pub below_due : (hub : List ℕ) (n : ℕ) (es : Entries) (port : KnownPort) (w : World)
    → 1 ≤ length hub → known_port (hub ++ n ∷ []) es ≡ Some port → IsDue w port.port
below_due hub n es port w least e = grind (arith, parent)

-- a port of the root
pub root_stands : {modelled : Bool} (number : ℕ) (h : HostState)
    → (modelled ≡ true → IsRootPort h.world number) → IsPortNumber number
    → Agrees h.options h.entries h.addresses
    → IsPortAt modelled (number ∷ []) (record { port = Root number; supply = supply_of true false })
    h
unfolding parent_of port_on_hub
root_stands number h asked is agrees = grind arith

-- A hub that is accepted hears its target

facts_port : (spec : Spec) (facts : HubFacts) (n : ℕ) → facts_of spec ≡ Some facts → 1 ≤ n
    → n ≤ facts.ports → (hub : Hub) × (spec.hub ≡ Some hub) × (n ≤ hub.ports)
facts_port spec facts n e least most = grind arith

module _ {w : World} (entries : Entries) (device : Accepted) {facts : HubFacts} (n : ℕ)
    (told : device.hub ≡ Some facts) (least : 1 ≤ n) (most : n ≤ facts.ports)
    (address : IsAddress device.address) (between : WorldInvariant w) where
  hub_serves : (hub : List ℕ) → finding_at hub entries ≡ Some (Device device)
      → reach w.roots hub ≡ true → {takes : HostOptions} → IsAccurateAt takes w entries hub
      → 8 ≤ (target_of device (is_below_hub hub)).max
      → ServesAt (target_of device (is_below_hub hub)) n hub w
  hub_serves (suc j ∷ p) at on {takes = takes} knows wide =
      let s : _ = reached_there w.roots (suc j ∷ p) on in
      let t = knows device s.0 (ap accepted_device_of at) on s.1 in
      let port : _ = facts_port s.0.spec facts n (sym t.found.1.hub ∙ told) least most in
      let supply = known_supply (suc j ∷ p) entries in
      let is : AcceptsChosen s.0.spec takes supply device.chosen = search accepts in
      let value : 1 ≤ configuration_value (configuration_of device) =
      grind (arith, chosen_some, has_chosen) in
      record {
        serves = record {
          spot = record { row = j; rest = p };
          state = s.0;
          on = on;
          stands = s.1;
          listens = grind arith;
          addressed = grind arith;
          configured = grind arith;
          has = search sane_spec;
        };
        there = refl;
        wide = wide;
      }
  hub_serves _ at on knows wide = false_true on

-- The port's hub

module _ {path : List ℕ} {port : KnownPort} (h : HostState) (s : StandsAt path port h)
    (i : IsSoundBut path h) (still : h.world.fault ≡ None) where
  server_of : (hub : List ℕ) (device : Accepted) {facts : HubFacts} → parent_of path ≡ Some hub
      → finding_at hub h.entries ≡ Some (Device device) → device.hub ≡ Some facts
      → port_on_hub path ≤ facts.ports → 8 ≤ (target_of device (is_below_hub hub)).max
      → HasServer (External (target_of device (is_below_hub hub)) (port_on_hub path)) path h.world
  server_of hub device above at told most wide =
      rw above (pick known)
    where
      away : is_way path hub ≡ false
      away = way_shorter path hub (omega (
        arith,
        ap length (rejoined path hub above) ∙ length-append hub (port_on_hub path ∷ []),
      ))

      known : IsKnownAs h.world hub (Some (Device device))
      known = subst (IsKnownAs h.world hub) at (i.known still hub away (listed_port h.world
          (accounted h s.agrees i.rooted) hub (Device device) at))

      address : IsAddress device.address
      address = listed_address h.world (accounted h s.agrees i.rooted) hub device.address
          (ap address_in at)

      pick : IsKnownAs h.world hub (Some (Device device)) → (pending h.world.roots hub ≡ true)
          ⊎ ServesAt (target_of device (is_below_hub hub)) (port_on_hub path) hub h.world
      pick (inl x) = inl x
      pick (inr x) = inr (hub_serves h.entries device (port_on_hub path) told
          (port_number path s.is).0 most address (i.order still) hub at x.1
          (i.truthful still hub away) wide)

  by_parent : (o : Option (List ℕ)) → parent_of path ≡ o → port_below o (port_on_hub path) h.entries
      ≡ Some port → HasServer port.port path h.world
  by_parent None above e = grind arith
  by_parent (Some hub) above e =
      let x : FoundPort (finding_at hub h.entries) (is_below_hub hub) (port_on_hub path) port =
      grind (arith, port_found-some) in
      rw x.is (server_of hub x.device above x.stands x.told x.most (rw x.is at s.askable).wide)

  pub hub_server : HasServer port.port path h.world
  hub_server = search by_parent
