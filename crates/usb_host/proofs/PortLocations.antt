-- Where the ports stand that the table knows, and which the root has not.
use Rattle.std.proofs.Common.{◌≡◌, ◌∙◌, refl, ap, arith, suc, zero, Bool, true, false, ℕ, ◌<◌, ◌≤◌}
use Rattle.std.proofs.Common.{List, [], ◌∷◌, length, Option, Some, None, Result, nat_lt, IfErr}
use Rattle.std.proofs.Common.{length-append, ◌+◌}
use Rattle.std.proofs.lemmas.Bool.{lt-ltb}
use Rattle.usb_port.specs.{parent_of, port_on_hub, IsPath}
use Rattle.usb_port.proofs.Interface.{is_path, rejoined}
use Rattle.usb_device.specs.{Ports, vacant, taken, row_of, reach, reach_at}
use Rattle.usb_world.specs.{is_way, World}
use Rattle.usb_world.proofs.Interface.{way_rest}
use Rattle.usb_hub.specs.{IsAt}
use Rattle.usb_enum.specs.{EnumFault, FaultAllowedAt}
use Rattle.usb_table.specs.{KnownPort, Entries, port_below, IsAskable}
use Rattle.usb_host.specs.{HostState, claims, IsPortAt, StandsAt, StandsNowhere, Broke, HostSteps}
use Rattle.usb_host.specs.{OnlyBusSteps}

pub root_alone : (path : List ℕ) → 1 ≤ length path → parent_of path ≡ None
    → path ≡ port_on_hub path ∷ []
unfolding parent_of port_on_hub
root_alone [] some none = absurd (omega arith)
root_alone (n ∷ []) _ _ = refl
root_alone (n ∷ m ∷ rest) some none =
    let long : nat_lt 1 (length (n ∷ m ∷ rest)) ≡ true =
    lt-ltb 1 (length (n ∷ m ∷ rest)) (omega arith) in
    let wrong = rw long at none in
    absurd (cc wrong)

-- The table's ports

at_known : (path : List ℕ) (es : Entries) (port : KnownPort) → IsPath path → IsAskable port.port
    → (above : Option (List ℕ)) → parent_of path ≡ above → port_below above (port_on_hub path) es
    ≡ Some port → IsAt (claims es) port.port path
at_known path es port is askable above above1 e = grind (arith, is_path, rejoined, root_alone)

pub stands_at-claim : {path : List ℕ} {port : KnownPort} {h : HostState} → StandsAt path port h
    → IsAt (claims h.entries) port.port path
stands_at-claim s = grind (arith, at_known)

-- a port that is known stands where the bus does what its world does
pub placed : {modelled : Bool} {path : List ℕ} {port : KnownPort} {h : HostState} → modelled ≡ true
    → IsPortAt modelled path port h → StandsAt path port h
placed known s = grind arith

-- and it stands where it stood while the host keeps what it knows
pub placed_on : (modelled : Bool) (n : ℕ) {path : List ℕ} {port : KnownPort} {a b : HostState}
    → OnlyBusSteps a b → (modelled ≡ true → HostSteps n a b) → IsPortAt modelled path port a
    → IsPortAt modelled path port b
placed_on modelled n r went s = grind arith

pub broke : {path : List ℕ} {port : KnownPort} (h : HostState) (fault : EnumFault) (w : World)
    → StandsAt path port h → FaultAllowedAt port.port fault w → Broke path fault w
broke h fault w s told = grind arith

pub breaks : {path : List ℕ} {port : KnownPort} {h : HostState}
    (served : Result (Unit {0}) EnumFault) (w : World) → StandsAt path port h
    → IfErr served (λ fault. FaultAllowedAt port.port fault w)
    → IfErr served (λ fault. Broke path fault w)
breaks served w s told = grind arith

-- No device is at a port that the root has not

beyond_reach : (k : Ports) (i : ℕ) (r : List ℕ) → length (row_of k) ≤ i → reach_at k i r ≡ false
unfolding row_of reach_at
beyond_reach (vacant b k) (suc i) r le = beyond_reach k i r (omega arith)
beyond_reach (taken b s a k) zero r le = absurd (omega arith)
beyond_reach (taken b s a k) (suc i) r le = beyond_reach k i r (omega arith)
beyond_reach _ _ r le = refl

beyond_path : (k : Ports) (n : ℕ) (r : List ℕ) → length (row_of k) < n → reach k (n ∷ r) ≡ false
beyond_path k n r lt = grind (arith, beyond_reach)

pub nowhere_reached : (path : List ℕ) (h : HostState) → StandsNowhere path h → parent_of path ≡ None
    → (x : List ℕ) → is_way path x ≡ true → reach h.world.roots x ≡ false
nowhere_reached path h s none x way = grind (arith, beyond_path, root_alone, way_rest)

-- The way up from a port.

long : (path : List ℕ) {hub : List ℕ} → parent_of path ≡ Some hub → 2 ≤ length path
unfolding parent_of
long path is = grind arith

-- a parent is one number shorter
pub parent_length : (path : List ℕ) {hub : List ℕ} → parent_of path ≡ Some hub
    → (length path ≡ length hub + 1)
    × (1 ≤ length hub)
parent_length path {hub = hub} is =
    let e : length path ≡ length hub + 1 = ap length (rejoined path hub is) ∙ length-append hub
    (port_on_hub path ∷ []) in
    (e, omega (arith, long path is))
