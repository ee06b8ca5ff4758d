-- The ports of which a hub told are known, and show their changes.
use Rattle.std.proofs.Common.{◌≡◌, ◌≢◌, ◌≤◌, ◌<◌, ◌⊎◌, ◌∙◌, inl, inr, refl, sym, ap, arith, ℕ, zero}
use Rattle.std.proofs.Common.{suc, ◌+◌, true, false, List, [], ◌∷◌, ◌++◌, length, length-append}
use Rattle.std.proofs.Common.{Option, None, Some, is_some, Ok, slice_get, IsSome}
use Rattle.std.proofs.lemmas.Bool.{cases_lt}
use Rattle.std.proofs.lemmas.List.Elements.{All-append}
use Rattle.std.proofs.lemmas.Option.{slice_get_within}
use Rattle.usb_port.specs.{parent_of, port_on_hub, IsPath, IsPortNumber, PortState, has_bit}
use Rattle.usb_port.proofs.Interface.{parent, rejoined}
use Rattle.usb_device.specs.{hub_ports, State, Spec, Ports, full, place, reach, row_of, port_there}
use Rattle.usb_device.specs.{state_there}
use Rattle.usb_world.specs.{is_way, row_reached, Consistent, at_attempt}
use Rattle.usb_world.proofs.Interface.{course_taken, ports_counted, ready_taken, stands, way_parent}
use Rattle.usb_world.proofs.Interface.{reach_on_way}
use Rattle.usb_hub.proofs.Interface.{port_of_place, sane_there, state_of_place}
use Rattle.usb_enum.specs.{facts_of, verdict, HubFacts, HostOptions}
use Rattle.usb_enum.specs.declared.cause.Request.TheVariants as request
use Rattle.usb_enum.specs.declared.finding.Finding.TheVariants.{Device}
use Rattle.usb_enum.proofs.Interface.{orderly_on}
use Rattle.usb_table.specs.{accepted_device_of, KnownPort, is_below_hub, known_port, port_below}
use Rattle.usb_table.specs.{BitsOf, finding_at, tier_of}
use Rattle.usb_table.proofs.Interface.{FoundPort, port_found-some}
use Rattle.usb_host.specs.{Agrees, ShowsChange, ShowsTold, HostState, HostInvariant, IsTruthOf}
use Rattle.usb_host.specs.{known_supply}
use Rattle.usb_host.proofs.payments.Backlogs.{full_of, steady_place}
use Rattle.usb_host.proofs.rests.ClearedPorts.{ready_none}
use Rattle.usb_host.proofs.PortLocations.{parent_length, root_alone}
use Rattle.usb_host.proofs.rests.Polls.{HubThere, facts_ports, port_of_row}
use Rattle.usb_host.proofs.knowledge.ChangeWords.{HasChange, bit_changed, bit_some}
use Rattle.usb_host.proofs.knowledge.SettledListings.{reached_there}
use Rattle.usb_host.proofs.Services.{same_last}
use Rattle.usb_host.proofs.payments.HubPayments.{shows_on}

-- A port of a hub that told

verdict-not_deep : (spec : Spec) (options : HostOptions) (tier supply : ℕ) {chosen : ℕ}
    (facts : HubFacts)
    → verdict spec options tier supply ≡ Ok chosen → facts_of spec ≡ Some facts → tier ≡ 7 → ⊥
unfolding verdict
verdict-not_deep spec options tier supply facts e hub last = grind arith

-- the port of a number

row_port_of : (hub : List ℕ) (k : Ports) (b : PortState) (s : State) (below : Ports) (i : ℕ)
    → place k hub ≡ Some (full b s below)
    → port_there k (hub ++ (suc i ∷ [])) ≡ slice_get (row_of below) i
row_port_of (suc j ∷ q) k b s below i e = port_of_row k j q b s below i e
row_port_of _ k b s below i e = absurd (cc e)

row_of-hub_ports : (hub : List ℕ) (k : Ports) (b : PortState) (s : State) (below : Ports)
    → Consistent k → place k hub ≡ Some (full b s below)
    → length (row_of below) ≡ hub_ports s.spec.hub
row_of-hub_ports hub k b s below sane e = grind (arith, ports_counted)

row_on : (k : Ports) (hub : List ℕ) → reach k hub ≡ true → row_reached k hub ≡ true
row_on k hub on = grind arith

up_on : (k : Ports) (up hub : List ℕ) → 1 ≤ length up → is_way up hub ≡ true → reach k hub ≡ true
    → reach k up ≡ true
up_on k up hub some way on = grind (arith, reach_on_way)

-- each port of which it told

module _ (hub : List ℕ) (a b : HostState) (agrees : Agrees b.options b.entries b.addresses)
    (s : HostInvariant a) (t : HostInvariant b) (before : a.world.fault ≡ None)
    (still : b.world.fault ≡ None) (facts : HubFacts) (there : HubThere hub b.entries facts)
    (reached : reach b.world.roots hub ≡ true) (bits : ℕ)
    (x : BitsOf hub a.world b.world bits) where
  abbrev device_at : State
  device_at = (reached_there b.world.roots hub reached).0

  stood_at : state_there b.world.roots hub ≡ Some device_at
  stood_at = (reached_there b.world.roots hub reached).1

  truth : IsTruthOf b.options b.entries hub there.device device_at
  truth = t.truthful still hub there.device device_at (ap accepted_device_of there.found) reached
      stood_at

  so_many : facts.ports ≡ hub_ports device_at.spec.hub
  so_many = facts_ports device_at.spec facts (search truth)

  sane : Consistent b.world.roots
  sane = (t.order still).sane

  sane_then : Consistent x.mid.roots
  sane_then = (orderly_on (s.order before) (x.rests [])).sane

  path : IsPath hub
  path = agrees.nested.path hub (Device there.device) there.found

  deep_by : (above : Option (List ℕ)) → parent_of hub ≡ above → (o : Option KnownPort)
      → port_below above (port_on_hub hub) b.entries ≡ o → IsSome o → length hub ≡ 7 → ⊥
  deep_by None is o e some long = grind (arith, root_alone)
  deep_by (Some up) is None e some long = cc some
  deep_by (Some up) is (Some port) e some long =
      let f : FoundPort (finding_at up b.entries) (is_below_hub up) (port_on_hub hub) port =
      grind (arith, port_found-some) in
      let shorter : _ = parent_length hub is in
      let on : reach b.world.roots up ≡ true = search (up_on, way_parent) in
      let st : _ = reached_there b.world.roots up on in
      let told : IsTruthOf b.options b.entries up f.device st.0 =
      t.truthful still up f.device st.0 (ap accepted_device_of f.stands) on st.1 in
      verdict-not_deep st.0.spec b.options (tier_of up) (known_supply up b.entries) f.facts
      told.found.0 (sym told.found.1.hub ∙ f.told) (omega (arith, shorter.0))

  -- no hub stands in the last tier
  above_last : length hub ≤ 6
  above_last = elim (cases_lt (length hub) 7) [
    | inl less ↦ omega arith
    | inr most ↦ absurd (deep_by (parent_of hub) refl (known_port hub b.entries) refl
        (agrees.nested.each hub (Device there.device) there.found) (omega (arith, path.1)))
  ]

  path_of_port : (i : ℕ) → i < 15 → IsPath (hub ++ (suc i ∷ []))
  path_of_port i less =
      let long : length (hub ++ (suc i ∷ [])) ≡ length hub + 1 = length-append hub (suc i ∷ [])
      in (
        omega arith,
        omega (arith, above_last),
        All-append IsPortNumber hub (suc i ∷ []) path.2 (grind arith),
      )

  module _ (same : (at_attempt x.mid).roots ≡ x.mid.roots) (i : ℕ) (less : i < 15)
      (set : has_bit bits (suc i) ≡ true) where
    changed : HasChange (row_of x.ports) i
    changed = grind (arith, bit_changed)

    port_then : port_there x.mid.roots (hub ++ (suc i ∷ [])) ≡ Some changed.0
    port_then =
        rw same at (row_port_of hub (at_attempt x.mid).roots x.port x.state x.ports i x.stood
        ∙ changed.1)

    steady : changed.0.enable_changed ≡ false
    steady = grind (arith, port_of_place, port_then, sane_then, sane_there, steady_place)

    -- it shows its change
    shows_port : ShowsChange b.world (hub ++ (suc i ∷ []))
    shows_port =
        shows_on x.mid hub (suc i) x.since (search row_on)
        (grind (arith, port_then, steady))

    -- and the hub has it
    within : suc i ≤ facts.ports
    within =
        let f : _ = full_of (place b.world.roots hub)
        (ap is_some (sym (state_of_place b.world.roots hub) ∙ stood_at)) in
        let is : f.1 ≡ device_at = grind (arith, state_of_place) in
        let counted : length (row_of f.2) ≡ hub_ports f.1.spec.hub =
        search (row_of-hub_ports, sane) in
        let stood : slice_get (row_of f.2) i ≡ Some shows_port.port =
        sym (search row_port_of) ∙ shows_port.there in
        let most : i < length (row_of f.2) = grind (arith, slice_get_within) in
        omega (arith, so_many, ap (λ (d : State). hub_ports d.spec.hub) is)

    known_there : IsPath (hub ++ (suc i ∷ [])) × IsSome (known_port (hub ++ (suc i ∷ [])) b.entries)
    known_there =
        let above : parent_of (hub ++ (suc i ∷ [])) ≡ Some hub = parent hub (suc i) path.0 in
        let number : suc i ≡ port_on_hub (hub ++ (suc i ∷ [])) = search (rejoined, same_last) in
        let some : IsSome (port_below (Some hub) (suc i) b.entries) = grind (arith, within) in
        grind (arith, path_of_port)

  module _ (same : (at_attempt x.mid).roots ≡ x.mid.roots) where
    shows_each : (n : ℕ) → 1 ≤ n → n ≤ 15 → has_bit bits n ≡ true
        → ShowsChange b.world (hub ++ (n ∷ []))
    shows_each zero least most set = absurd (omega arith)
    shows_each (suc i) least most set = search shows_port

    known_each : (n : ℕ) → 1 ≤ n → n ≤ 15 → has_bit bits n ≡ true → IsPath (hub ++ (n ∷ []))
        × IsSome (known_port (hub ++ (n ∷ [])) b.entries)
    known_each zero least most set = absurd (omega arith)
    known_each (suc i) least most set = known_there same i (omega arith) set

    shows_told : bits ≢ 0 → ShowsTold hub bits b
    shows_told some = grind (arith, bit_some, known_each, shows_each)

  -- so it is, where no event came since the poll began
  pub poll_shows : (at_attempt x.mid).taken ≤ b.world.taken → bits ≢ 0 → ShowsTold hub bits b
      ⊎ (a.world.taken + 1 ≤ b.world.taken)
  poll_shows came some = elim (cases_lt a.world.taken b.world.taken) [
    | inl less ↦ inr (omega arith)
    | inr none ↦ inl (shows_told (ready_none x.mid
        (omega (arith, course_taken (x.rests []), ready_taken x.mid))) some)
  ]
