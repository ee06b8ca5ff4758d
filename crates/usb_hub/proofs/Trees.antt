-- What a tree of ports says of a path, by the place above it.
use Rattle.std.proofs.Common.{◌≡◌, ◌⊎◌, inl, inr, ℕ, zero, suc, Bool, true, false, ◌&&◌, ◌||◌, List}
use Rattle.std.proofs.Common.{[], ◌∷◌, ◌++◌, None, Some, is_some, refl, ap, sym, ◌∙◌, append-nil}
use Rattle.std.proofs.lemmas.Option.{same_Some}
use Rattle.usb_port.specs.{PortState, is_attached, speed_of}
use Rattle.usb_device.specs.{Ports, ended, vacant, taken, place, place_at, reach, reach_at}
use Rattle.usb_device.specs.{state_at, port_at, state_there, port_there}
use Rattle.usb_world.specs.{has_power, has_power_at, pending, pending_at, Consistent}
use Rattle.usb_world.proofs.Interface.{and_false, and_of, both, either_of, false_true, or_nothing}
use Rattle.usb_world.proofs.Interface.{or_right}
use Rattle.usb_hub.proofs.HubPorts.{place_ports}
use Rattle.usb_device.proofs.Interface.{or-joined}

-- Tests that are joined

and_joined : (a b c : Bool) → (a && (b && c)) ≡ ((a && b) && c)
and_joined true b c = refl
and_joined false b c = refl

-- either pends; or the way is powered, and what is behind it pends
pend_joined : (power change above live behind : Bool)
    → (power && (change || (above || (live && behind))))
    ≡ ((power && (change || above)) || ((power && live) && behind))
pend_joined true change above live behind = or-joined change above (live && behind)
pend_joined false change above live behind = refl

pend_first : (power change behind : Bool) → (power && (change || behind))
    ≡ ((power && change) || (power && behind))
pend_first true change behind = refl
pend_first false change behind = refl

pend_alone : (a power : Bool) → a ≡ (a || (power && false))
pend_alone a power = sym (ap (λ x. a || x) (and_false power) ∙ or_nothing a)

-- The ports below a place

none_way : (n : ℕ) (r : List ℕ)
    → (None ≡ state_there ended (n ∷ r)) × (None ≡ port_there ended (n ∷ r))
    × (has_power ended (n ∷ r) ≡ false) × (pending ended (n ∷ r) ≡ false)
unfolding state_at port_at has_power_at pending_at
none_way zero r = (refl, refl, refl, refl)
none_way (suc i) r = (refl, refl, refl, refl)

-- what is asked of a path that goes on below another, by what stands there
abbrev AskedBelow : Ports → ℕ → List ℕ → List ℕ → Type 0
AskedBelow k j p q =
    (state_at k j (p ++ q) ≡ state_there (place_ports (place_at k j p)) q)
    × (port_at k j (p ++ q) ≡ port_there (place_ports (place_at k j p)) q)
    × (reach_at k j (p ++ q) ≡ (reach_at k j p && reach (place_ports (place_at k j p)) q))
    × (has_power_at k j (p ++ q) ≡ (has_power_at k j p && has_power (place_ports (place_at k j p))
    q))
    × (pending_at k j (p ++ q)
    ≡ (pending_at k j p || (has_power_at k j p && pending (place_ports (place_at k j p)) q)))

below_at : (k : Ports) (j : ℕ) (p : List ℕ) (n : ℕ) (r : List ℕ) → AskedBelow k j p (n ∷ r)
unfolding state_at port_at reach_at has_power_at pending_at place_at
below_at ended j p n r =
    let none : _ = none_way n r in
    (none.0, none.1, refl, refl, refl)
below_at (vacant b k) zero [] n r =
    let none : _ = none_way n r in
    let change : Bool = b.power && b.connection_changed in (
      none.0,
      none.1,
      refl,
      sym (ap (λ x. b.power && x) none.2 ∙ and_false b.power),
      pend_alone change b.power ∙ sym (ap (λ x. change || (b.power && x)) none.3),
    )
below_at (vacant b k) zero (m ∷ p) n r =
    let none : _ = none_way n r in
    (none.0, none.1, refl, refl, sym (or_nothing (b.power && b.connection_changed)))
below_at (vacant b k) (suc j) p n r = below_at k j p n r
below_at (taken b s a k) zero [] zero r = (
  refl,
  refl,
  sym (and_false b.enable),
  sym (and_false b.power),
  pend_alone (b.power && b.connection_changed) b.power,
)
below_at (taken b s a k) zero [] (suc i) r =
    (refl, refl, refl, refl, pend_first b.power b.connection_changed (pending_at a i r))
below_at (taken b s a k) zero (zero ∷ p) n r =
    let none : _ = none_way n r in
    (none.0, none.1, refl, refl, sym (or_nothing (b.power && b.connection_changed)))
below_at (taken b s a k) zero (suc i ∷ p) n r =
    let x : _ = below_at a i p n r in
    let under : Ports = place_ports (place_at a i p) in (
      x.0,
      x.1,
      ap (λ y. b.enable && y) x.2 ∙ and_joined b.enable (reach_at a i p) (reach under (n ∷ r)),
      ap (λ y. b.power && y) x.3 ∙ and_joined b.power (has_power_at a i p)
          (has_power under (n ∷ r)),
      ap (λ y. b.power && (b.connection_changed || y)) x.4
          ∙ pend_joined b.power b.connection_changed (pending_at a i p) (has_power_at a i p)
          (pending under (n ∷ r)),
    )
below_at (taken b s a k) (suc j) p n r = below_at k j p n r

pub port_below_at : (k : Ports) (j : ℕ) (p : List ℕ) (n : ℕ) (r : List ℕ)
    → port_at k j (p ++ n ∷ r) ≡ port_there (place_ports (place_at k j p)) (n ∷ r)
port_below_at k j p n r = (below_at k j p n r).1

-- The same of paths

pub state_below : (k : Ports) (m : ℕ) (p : List ℕ) (n : ℕ) (r : List ℕ)
    → state_there k ((m ∷ p) ++ n ∷ r) ≡ state_there (place_ports (place k (m ∷ p))) (n ∷ r)
state_below k zero p n r = (none_way n r).0
state_below k (suc j) p n r = (below_at k j p n r).0

pub port_there-below : (k : Ports) (m : ℕ) (p : List ℕ) (n : ℕ) (r : List ℕ)
    → port_there k ((m ∷ p) ++ n ∷ r) ≡ port_there (place_ports (place k (m ∷ p))) (n ∷ r)
port_there-below k zero p n r = (none_way n r).1
port_there-below k (suc j) p n r = (below_at k j p n r).1

pub reach_below : (k : Ports) (m : ℕ) (p : List ℕ) (n : ℕ) (r : List ℕ)
    → reach k ((m ∷ p) ++ n ∷ r) ≡ (reach k (m ∷ p) && reach (place_ports (place k (m ∷ p)))
    (n ∷ r))
reach_below k zero p n r = refl
reach_below k (suc j) p n r = (below_at k j p n r).2

pub live_below : (k : Ports) (m : ℕ) (p : List ℕ) (n : ℕ) (r : List ℕ)
    → has_power k ((m ∷ p) ++ n ∷ r) ≡ (has_power k (m ∷ p) &&
    has_power (place_ports (place k (m ∷ p))) (n ∷ r))
live_below k zero p n r = refl
live_below k (suc j) p n r = (below_at k j p n r).3

pub pend-below : (k : Ports) (m : ℕ) (p : List ℕ) (n : ℕ) (r : List ℕ)
    → pending k ((m ∷ p) ++ n ∷ r) ≡ (pending k (m ∷ p) ||
    (has_power k (m ∷ p) && pending (place_ports (place k (m ∷ p))) (n ∷ r)))
pend-below k zero p n r = refl
pend-below k (suc j) p n r = (below_at k j p n r).4

-- what pends at a port pends below it
pub pend_down : (k : Ports) (p r : List ℕ) → pending k p ≡ true → pending k (p ++ r) ≡ true
pend_down k [] r h = false_true h
pend_down k (m ∷ p) [] h = ap (pending k) (append-nil (m ∷ p)) ∙ h
pend_down k (m ∷ p) (n ∷ r) h = pend-below k m p n r
    ∙ ap (λ x. x || (has_power k (m ∷ p) && pending (place_ports (place k (m ∷ p))) (n ∷ r))) h

-- A port and its hub's

live_port_at : (k : Ports) (j : ℕ) (p : List ℕ) → has_power_at k j p ≡ true → (b : PortState)
    × (port_at k j p ≡ Some b) × (b.power ≡ true)
unfolding has_power_at port_at
live_port_at (vacant b k) zero [] h = (b, refl, h)
live_port_at (vacant b k) (suc j) p h = live_port_at k j p h
live_port_at (taken b s a k) zero [] h = (b, refl, h)
live_port_at (taken b s a k) zero (suc i ∷ p) h =
    live_port_at a i p (both b.power (has_power_at a i p) h).1
live_port_at (taken b s a k) (suc j) p h = live_port_at k j p h
live_port_at k j p h = false_true h

-- a port that is powered on its whole way stands, and has power
pub live_port : (k : Ports) (p : List ℕ) → has_power k p ≡ true → (b : PortState)
    × (port_there k p ≡ Some b) × (b.power ≡ true)
live_port k (suc j ∷ p) h = live_port_at k j p h
live_port k p h = false_true h

row_live_at : (k : Ports) (j : ℕ) (b : PortState) → port_at k j [] ≡ Some b
    → (has_power_at k j [] ≡ b.power) × (pending_at k j [] ≡ (b.power && b.connection_changed))
unfolding has_power_at pending_at port_at
row_live_at ended j b e = absurd (cc e)
row_live_at (vacant c k) zero b e = let same : c ≡ b = same_Some c b e in
    (ap (λ x. x.power) same, ap (λ x. x.power && x.connection_changed) same)
row_live_at (vacant c k) (suc j) b e = row_live_at k j b e
row_live_at (taken c s a k) zero b e = let same : c ≡ b = same_Some c b e in
    (ap (λ x. x.power) same, ap (λ x. x.power && x.connection_changed) same)
row_live_at (taken c s a k) (suc j) b e = row_live_at k j b e

row_live : (k : Ports) (n : ℕ) (b : PortState) → port_there k (n ∷ []) ≡ Some b
    → (has_power k (n ∷ []) ≡ b.power) × (pending k (n ∷ []) ≡ (b.power && b.connection_changed))
row_live k zero b e = absurd (cc e)
row_live k (suc j) b e = row_live_at k j b e

row_pend_at : (k : Ports) (j : ℕ) → pending_at k j [] ≡ true → has_power_at k j [] ≡ true
unfolding has_power_at pending_at
row_pend_at ended j h = false_true h
row_pend_at (vacant b k) zero h = (both b.power b.connection_changed h).0
row_pend_at (vacant b k) (suc j) h = row_pend_at k j h
row_pend_at (taken b s a k) zero h = (both b.power b.connection_changed h).0
row_pend_at (taken b s a k) (suc j) h = row_pend_at k j h

row_pend : (k : Ports) (n : ℕ) → pending k (n ∷ []) ≡ true → has_power k (n ∷ []) ≡ true
row_pend k zero h = false_true h
row_pend k (suc j) h = row_pend_at k j h

-- where a port is the root's, or its hub's port is powered on its whole way
abbrev pub IsUp : Ports → List ℕ → Type 0
IsUp k [] = Unit {0}
IsUp k (m ∷ q) = has_power k (m ∷ q) ≡ true

pub up_of_live : (k : Ports) (q : List ℕ) (n : ℕ) → has_power k (q ++ n ∷ []) ≡ true → IsUp k q
up_of_live k [] n h = tt
up_of_live k (m ∷ q) n h = (both (has_power k (m ∷ q))
    (has_power (place_ports (place k (m ∷ q))) (n ∷ [])) (sym (live_below k m q n []) ∙ h)).0

pub live_of_up : (k : Ports) (q : List ℕ) (n : ℕ) (b : PortState) → IsUp k q
    → port_there k (q ++ n ∷ []) ≡ Some b → b.power ≡ true → has_power k (q ++ n ∷ []) ≡ true
live_of_up k [] n b up there power = (row_live k n b there).0 ∙ power
live_of_up k (m ∷ q) n b up there power =
    let row = row_live (place_ports (place k (m ∷ q))) n b (sym (port_there-below k m q n [])
    ∙ there) in
    live_below k m q n [] ∙ and_of (has_power k (m ∷ q))
    (has_power (place_ports (place k (m ∷ q))) (n ∷ [])) up (row.0 ∙ power)

-- a change of connection that is set there pends
pub pend_of_up : (k : Ports) (q : List ℕ) (n : ℕ) (b : PortState) → IsUp k q
    → port_there k (q ++ n ∷ []) ≡ Some b → b.power ≡ true → b.connection_changed ≡ true
    → pending k (q ++ n ∷ []) ≡ true
pend_of_up k [] n b up there power changed = (row_live k n b there).1
    ∙ and_of b.power b.connection_changed power changed
pend_of_up k (m ∷ q) n b up there power changed =
    let row = row_live (place_ports (place k (m ∷ q))) n b (sym (port_there-below k m q n [])
    ∙ there) in
    pend-below k m q n []
    ∙ or_right (pending k (m ∷ q)) (has_power k (m ∷ q) && pending (place_ports (place k (m ∷ q)))
    (n ∷ []))
    (and_of (has_power k (m ∷ q)) (pending (place_ports (place k (m ∷ q))) (n ∷ [])) up (row.1
    ∙ and_of b.power b.connection_changed power changed))

-- what pends at a port pends above it, or the port is powered on its whole way
pub pend_or_live : (k : Ports) (q : List ℕ) (n : ℕ) → pending k (q ++ n ∷ []) ≡ true
    → (has_power k (q ++ n ∷ []) ≡ true) ⊎ (pending k q ≡ true)
pend_or_live k [] n h = inl (row_pend k n h)
pend_or_live k (m ∷ q) n h = pick (either_of (pending k (m ∷ q))
    (has_power k (m ∷ q) && pending (place_ports (place k (m ∷ q))) (n ∷ []))
    (sym (pend-below k m q n []) ∙ h))
  where
    pick : (pending k (m ∷ q) ≡ true)
        ⊎ ((has_power k (m ∷ q) && pending (place_ports (place k (m ∷ q))) (n ∷ [])) ≡ true)
        → (has_power k ((m ∷ q) ++ n ∷ []) ≡ true) ⊎ (pending k (m ∷ q) ≡ true)
    pick (inl x) = inr x
    pick (inr x) =
        let parts = both (has_power k (m ∷ q)) (pending (place_ports (place k (m ∷ q))) (n ∷ []))
        x in
        inl (live_below k m q n [] ∙ and_of (has_power k (m ∷ q))
        (has_power (place_ports (place k (m ∷ q))) (n ∷ [])) parts.0
        (row_pend (place_ports (place k (m ∷ q))) n parts.1))

-- What is attached

pub speed_attached : (low : Bool) → is_attached (speed_of low) ≡ true
speed_attached true = refl
speed_attached false = refl

attached_at : (k : Ports) (j : ℕ) (p : List ℕ) (b : PortState) → Consistent k
    → port_at k j p ≡ Some b → is_attached b.attached ≡ is_some (state_at k j p)
unfolding Consistent port_at state_at
attached_at (vacant c k) zero [] b h e = ap (λ x. is_attached x.attached) (sym (same_Some c b e))
    ∙ ap is_attached h.1
attached_at (vacant c k) (suc j) p b h e = attached_at k j p b h.2 e
attached_at (taken c s a k) zero [] b h e = ap (λ x. is_attached x.attached) (sym (same_Some c b e))
    ∙ ap is_attached h.1 ∙ speed_attached s.spec.low
attached_at (taken c s a k) zero (suc i ∷ p) b h e = attached_at a i p b h.2 e
attached_at (taken c s a k) (suc j) p b h e = attached_at k j p b h.3 e
attached_at k j p b h e = absurd (cc e)

-- a port sees something attached just where a device stands
pub attached_there : (k : Ports) (p : List ℕ) (b : PortState) → Consistent k
    → port_there k p ≡ Some b → is_attached b.attached ≡ is_some (state_there k p)
attached_there k (suc j ∷ p) b h e = attached_at k j p b h e
attached_there k p b h e = absurd (cc e)
