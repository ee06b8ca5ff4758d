-- Ports stay sane.
use Rattle.std.proofs.Common.{◌≡◌, ℕ, zero, suc, Bool, true, List, [], ◌∷◌, ◌++◌, ◌<◌, length}
use Rattle.std.proofs.Common.{Option, Some, is_some, option_map, refl, ap, subst, ◌∙◌, arith}
use Rattle.std.specs.Option.{IfSome}
use Rattle.std.specs.Prelude.{⊤}
use Rattle.usb_port.specs.{PortState, plugged, unplugged, powered_off, PortCall, called_port}
use Rattle.usb_device.specs.{Effect, Sent, Spec, Hub, IsSpec, State, fresh, reset_state, Ports}
use Rattle.usb_device.specs.{ended, vacant, taken, empty, full, before, all_off, new_ports}
use Rattle.usb_device.specs.{first_ports, called, replaced, changed, changed_at, acted, reach_at}
use Rattle.usb_device.specs.{state_at, port_at, place_at, row_of, after_packet, all_forgotten}
use Rattle.usb_device.specs.{Place}
use Rattle.usb_device.proofs.Interface.{answer-spec, row_of-after, row_of-forgotten}
use Rattle.usb_world.specs.{has_power_at, hub_ports, spec_of, IsSanePort, Consistent}
use Rattle.usb_world.specs.{ConsistentPlace, HasItsPorts}
use Rattle.usb_world.proofs.Booleans.{both, false_true}
use Rattle.usb_world.proofs.courses.Counts.{acted_long, first_long, off_long, row_long_at}

-- Ports

sane_off : (b : PortState) → IsSanePort (powered_off b)
sane_off b = grind (arith, false_true)

sane_row : (c : PortCall) (b : PortState) → IsSanePort b → IsSanePort (called_port c b)
sane_row c b h = grind arith

row_attached : (c : PortCall) (b : PortState) → (called_port c b).attached ≡ b.attached
row_attached c b = grind arith

-- what is plugged or unplugged is a change where there is power
sane_unplugged : (b : PortState) → IsSanePort b → IsSanePort (unplugged b)
sane_unplugged b h = grind arith

sane_plugged : (low : Bool) (b : PortState) → IsSanePort (unplugged b)
    → IsSanePort (plugged low (unplugged b))
sane_plugged low b h = grind arith

-- Trees

sane_all_off : (k : Ports) → Consistent k → Consistent (all_off k)
unfolding Consistent all_off
sane_all_off ended h = h
sane_all_off (vacant b k) h = (sane_off b, h.1, sane_all_off k h.2)
sane_all_off (taken b s a k) h = (sane_off b, h.1, h.2, sane_all_off k h.3, h.4, h.5)

pub sane_new_ports : (n : ℕ) → Consistent (new_ports n)
unfolding Consistent new_ports
sane_new_ports zero = tt
sane_new_ports (suc n) = grind (arith, sane_new_ports n, false_true)

sane_first : (o : Option Hub) → Consistent (first_ports o)
unfolding Consistent
sane_first o = grind (arith, sane_new_ports)

pub sane_called : (c : PortCall) (q : Place) → ConsistentPlace q → ConsistentPlace (called c q)
unfolding ConsistentPlace reset_state
sane_called c q h = grind (arith, off_long, row_attached, sane_all_off, sane_row)

pub sane_replaced : (o : Option Spec) → IfSome o IsSpec → (q : Place) → ConsistentPlace q
    → ConsistentPlace (replaced o q)
unfolding ConsistentPlace fresh
sane_replaced o r q h = grind (arith, first_long, sane_first, sane_plugged, sane_unplugged)

sane_before : (q : Place) (k : Ports) → ConsistentPlace q → Consistent k → Consistent (before q k)
unfolding ConsistentPlace Consistent
sane_before q k h g = grind arith

-- what keeps a port sane keeps the tree so
sane_changed : (f : Place → Place) → ((q : Place) → ConsistentPlace q → ConsistentPlace (f q))
    → (k : Ports) (i : ℕ) (p : List ℕ) → Consistent k → Consistent (changed_at f k i p)
unfolding Consistent ConsistentPlace changed_at
sane_changed f c (vacant b k) zero [] h = sane_before (f (empty b)) k (c (empty b) (h.0, h.1)) h.2
sane_changed f c (vacant b k) (suc i) p h = (h.0, h.1, sane_changed f c k i p h.2)
sane_changed f c (taken b s a k) zero [] h = grind (arith, sane_before)
sane_changed f c (taken b s a k) zero (suc j ∷ p) h =
    grind (arith, sane_changed f c a j p h.2, row_long_at f a j p)
sane_changed f c (taken b s a k) (suc i) p h = (h.0, h.1, h.2, sane_changed f c k i p h.3, h.4, h.5)
sane_changed f c k i p h = h

pub sane_path : (f : Place → Place) → ((q : Place) → ConsistentPlace q → ConsistentPlace (f q))
    → (k : Ports) (x : List ℕ) → Consistent k → Consistent (changed f k x)
sane_path f c k x h = grind (arith, sane_changed)

sane_acted : (e : Effect) (a : Ports) → Consistent a → Consistent (acted e a)
sane_acted e a h = grind (arith, sane_all_off, sane_called, sane_changed)

pub sane_packet : (q : Sent) (deep : Bool) (k : Ports) → Consistent k
    → Consistent (after_packet q deep k)
unfolding Consistent after_packet
sane_packet q deep ended h = h
sane_packet q deep (vacant b k) h = (h.0, h.1, sane_packet q deep k h.2)
sane_packet q deep (taken b s a k) h =
    grind (
      arith,
      sane_packet q true a h.2,
      sane_packet q deep k h.3,
      acted_long,
      answer-spec,
      row_of-after,
      sane_acted,
    )

pub sane_forgotten : (k : Ports) → Consistent k → Consistent (all_forgotten k)
unfolding Consistent all_forgotten
sane_forgotten ended h = h
sane_forgotten (vacant b k) h = (h.0, h.1, sane_forgotten k h.2)
sane_forgotten (taken b s a k) h = (
  h.0,
  h.1,
  sane_forgotten a h.2,
  sane_forgotten k h.3,
  h.4,
  ap length (row_of-forgotten a) ∙ h.5,
)

pub reach_live : (k : Ports) (i : ℕ) (p : List ℕ) → Consistent k → reach_at k i p ≡ true
    → has_power_at k i p ≡ true
unfolding Consistent reach_at has_power_at
reach_live (vacant b k) (suc i) p h g = reach_live k i p h.2 g
reach_live (taken b s a k) zero [] h g = (both b.power _ (h.0.enabled g)).0
reach_live (taken b s a k) zero (suc j ∷ p) h g =
    grind (arith, reach_live a j p h.2)
reach_live (taken b s a k) (suc i) p h g = reach_live k i p h.3 g
reach_live k i p h g = false_true g

-- each device is as the rules say
pub sane_spec : (k : Ports) (i : ℕ) (p : List ℕ) (s : State) → Consistent k
    → state_at k i p ≡ Some s → IsSpec s.spec
unfolding Consistent state_at
sane_spec (vacant b k) (suc i) p z h e = sane_spec k i p z h.2 e
sane_spec (taken b s a k) zero [] z h e = subst (λ o. IfSome o (λ x. IsSpec x.spec)) e h.4
sane_spec (taken b s a k) zero (suc j ∷ p) z h e = sane_spec a j p z h.2 e
sane_spec (taken b s a k) (suc i) p z h e = sane_spec k i p z h.3 e
sane_spec k i p z h e = cc

-- Each device has the ports that its description says

-- what stands at a place has them
abbrev HasItsPortsAt : Place → Type 0
HasItsPortsAt (empty b) = ⊤
HasItsPortsAt (full b s a) = HasItsPorts s.spec a

-- what stands at a path has as many
pub ports_counted : (k : Ports) (i : ℕ) (p : List ℕ) (b : PortState) (s : State) (below : Ports)
    → Consistent k → place_at k i p ≡ Some (full b s below) → HasItsPorts s.spec below
unfolding Consistent place_at
ports_counted (vacant b k) zero [] c z m h e = absurd (cc e)
ports_counted (vacant b k) (suc i) p c z m h e = ports_counted k i p c z m h.2 e
ports_counted (taken b s a k) zero [] c z m h e = subst (λ o. IfSome o HasItsPortsAt) e h.5
ports_counted (taken b s a k) zero (suc j ∷ p) c z m h e = ports_counted a j p c z m h.2 e
ports_counted (taken b s a k) (suc i) p c z m h e = ports_counted k i p c z m h.3 e
ports_counted k i p c z m h e = cc

-- a row has a port of each number below its length
pub row_stands : (k : Ports) (m : ℕ) → m < length (row_of k) → is_some (port_at k m []) ≡ true
unfolding row_of port_at
row_stands ended m l = absurd (omega (arith, l))
row_stands (vacant b k) (suc m) l = row_stands k m (omega (arith, l))
row_stands (taken b s a k) (suc m) l = row_stands k m (omega (arith, l))
row_stands k m l = refl

-- below a device there is a port of each number that its description has
pub ports_stand : (k : Ports) (i : ℕ) (p : List ℕ) (t : Spec) (m : ℕ) → Consistent k
    → option_map spec_of (state_at k i p) ≡ Some t → m < hub_ports t.hub
    → is_some (port_at k i (p ++ (suc m ∷ []))) ≡ true
unfolding Consistent state_at port_at
ports_stand (vacant b k) (suc i) p t m h e l = ports_stand k i p t m h.2 e l
ports_stand (taken b s a k) zero [] t m h e l = grind (arith, row_stands)
ports_stand (taken b s a k) zero (suc j ∷ p) t m h e l = ports_stand a j p t m h.2 e l
ports_stand (taken b s a k) (suc i) p t m h e l = ports_stand k i p t m h.3 e l
ports_stand k i p t m h e l = cc
