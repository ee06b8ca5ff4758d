-- Which ports a world has.
use Rattle.std.proofs.Common.{◌≡◌, ◌≤◌, ◌<◌, refl, arith, ℕ, zero, suc}
use Rattle.std.proofs.Common.{true, false, List, [], ◌∷◌, ◌++◌, length, Option, None, Some}
use Rattle.std.proofs.Common.{IsSomeAnd, option_map}
use Rattle.std.specs.Prelude.{unwrap_or}
use Rattle.usb_port.specs.{supply_of}
use Rattle.usb_device.specs.{Ports, Spec, State, vacant, taken, hub_ports, port_at}
use Rattle.usb_device.specs.{port_there, reach, reach_at, row_of, state_at, state_there}
use Rattle.usb_world.proofs.Interface.{both, false_true}
use Rattle.usb_world.specs.{Consistent, World, spec_of}
use Rattle.usb_table.specs.{supply_below, tree_in}
use Rattle.usb_judge.specs.{given_below, powers_itself}

-- a device on a row stands at one of its ports
row_has : (k : Ports) (i : ℕ) (s : State) → state_at k i [] ≡ Some s → i < length (row_of k)
unfolding state_at row_of
row_has (vacant b k) (suc i) s at = let less = row_has k i s at in omega (arith, less)
row_has (taken b t a k) zero s at = omega arith
row_has (taken b t a k) (suc i) s at = let less = row_has k i s at in omega (arith, less)
row_has k i s at = absurd (cc at)

-- at a port of the root
pub root_has : (k : Ports) (n : ℕ) (s : State) → state_there k (n ∷ []) ≡ Some s
    → (1 ≤ n) × (n ≤ length (row_of k))
root_has k zero s at = absurd (cc at)
root_has k (suc i) s at = let less = row_has k i s at in (omega arith, omega (arith, less))

-- the device that a port is of
pub record IsHubOf (k : Ports) (hub : List ℕ) (n : ℕ) : Type 0 where
  pub state : State
  pub stands : state_there k hub ≡ Some state
  pub least : 1 ≤ n
  pub most : n ≤ hub_ports state.spec.hub

record IsHubAt (k : Ports) (i : ℕ) (hub : List ℕ) (n : ℕ) : Type 0 where
  state : State
  stands : state_at k i hub ≡ Some state
  least : 1 ≤ n
  most : n ≤ hub_ports state.spec.hub

hub_at : (k : Ports) (i : ℕ) (p : List ℕ) (n : ℕ) (s : State) → Consistent k
    → state_at k i (p ++ n ∷ []) ≡ Some s → IsHubAt k i p n
unfolding Consistent state_at
hub_at (vacant b k) (suc i) p n s sane at =
    let h = hub_at k i p n s sane.2 at in
    record { state = h.state; stands = h.stands; least = h.least; most = h.most }
hub_at (taken b t a k) zero [] (suc j) s sane at =
    let less = row_has a j s at in
    let its = sane.5 in
    record { state = t; stands = refl; least = omega arith; most = omega (arith, less, its) }
hub_at (taken b t a k) zero (suc j ∷ p) n s sane at =
    let h = hub_at a j p n s sane.2 at in
    record { state = h.state; stands = h.stands; least = h.least; most = h.most }
hub_at (taken b t a k) (suc i) p n s sane at =
    let h = hub_at k i p n s sane.3 at in
    record { state = h.state; stands = h.stands; least = h.least; most = h.most }
hub_at k i p n s sane at = absurd (cc at)

pub hub_of : (k : Ports) (hub : List ℕ) (n : ℕ) (s : State) → Consistent k → 1 ≤ length hub
    → state_there k (hub ++ n ∷ []) ≡ Some s → IsHubOf k hub n
hub_of k (suc i ∷ p) n s sane some at =
    let h = hub_at k i p n s sane at in
    record { state = h.state; stands = h.stands; least = h.least; most = h.most }
hub_of k [] n s sane some at = absurd (omega (arith, some))
hub_of k (zero ∷ p) n s sane some at = absurd (cc at)

-- where a device is reached, its port is enabled
enabled_at : (k : Ports) (i : ℕ) (p : List ℕ) → reach_at k i p ≡ true
    → IsSomeAnd (port_at k i p) (λ b. b.enable ≡ true)
unfolding reach_at port_at
enabled_at (vacant b k) (suc i) p h = enabled_at k i p h
enabled_at (taken b s a k) zero [] h = h
enabled_at (taken b s a k) zero (suc j ∷ p) h =
    enabled_at a j p (both b.enable (reach_at a j p) h).1
enabled_at (taken b s a k) (suc i) p h = enabled_at k i p h
enabled_at k i p h = false_true h

pub enabled_there : (k : Ports) (p : List ℕ) → reach k p ≡ true
    → IsSomeAnd (port_there k p) (λ b. b.enable ≡ true)
enabled_there k (suc i ∷ p) h = enabled_at k i p h
enabled_there k _ h = false_true h

-- what a port gives is what the listing's own table says
pub same_supply : (w : World) (o : Option (List ℕ)) → supply_below (tree_in w) o
    ≡ given_below w.roots o
same_supply w None = refl
same_supply w (Some hub) = by_state (state_there w.roots hub)
  where
    by_state : (o : Option State) → supply_of false
        (unwrap_or (option_map (λ (spec : Spec). spec.self_powered) (option_map spec_of o)) false)
        ≡ supply_of false (powers_itself o)
    by_state None = refl
    by_state (Some s) = refl
