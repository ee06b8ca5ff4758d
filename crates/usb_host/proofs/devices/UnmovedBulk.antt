-- Requests to a port move nothing through an endpoint of a function.
use Rattle.std.proofs.Common.{arith, ◌≡◌, inl, inr, refl, subst, Bool, ℕ, Some, Result, Ok}
use Rattle.usb_request.specs.{PORT_ENABLE}
use Rattle.usb_port.specs.{ClearConnectionChange, ClearEnable, PortCall, PortStatus, clear_call}
use Rattle.usb_world.proofs.Interface.{decided}
use Rattle.usb_hub.specs.{AddressMap, MapHolds, WhileBusWorks, HubPort}
use Rattle.usb_enum.specs.{EnumFault}
use Rattle.usb_host.specs.{ClearsAndAsks, ClearsFeature, ClearsInTurn, ClearsPort, ClearsWhere}
use Rattle.usb_host.specs.{DisablesAfter, HostState, InOrder, LetsGoOn, MovesNoBulk, ShowsPort}
use Rattle.usb_host.specs.{TidiesPort, by_both, by_control, first_failed, is_stuck, next_done}
use Rattle.usb_host.proofs.PortRequests.{shows_watches, clears_enable_change, clears_reset_change}
use Rattle.usb_host.proofs.devices.Pipes.{unmoved_none, unmoved_rests}

module _ {port : HubPort} {feature : ℕ} {call : PortCall} (is : clear_call feature ≡ Some call)
    {a b : HostState} {result : Result (Unit {0}) EnumFault} where
  feature_unmoved : ClearsFeature port feature a result b → LetsGoOn result
      → MovesNoBulk a.world b.world
  feature_unmoved x goes =
      by_control (grind arith)

  where_unmoved : {asked : Bool} → ClearsWhere asked port feature a result b → LetsGoOn result
      → MovesNoBulk a.world b.world
  where_unmoved x goes = grind (arith, feature_unmoved, unmoved_none)

-- changes of enable and of reset are cleared
module _ {port : HubPort} {a b : HostState} {result : Result (Unit {0}) EnumFault} where
  in_turn : (status : PortStatus) → ClearsInTurn port status a result b → LetsGoOn result
      → MovesNoBulk a.world b.world
  in_turn status (first_failed fault y e) goes =
      where_unmoved clears_enable_change y (subst LetsGoOn e goes)
  in_turn status (next_done done mid y z) goes =
      by_both (where_unmoved clears_enable_change y tt) (where_unmoved clears_reset_change z goes)

  pub tidied_unmoved : {status : PortStatus} → TidiesPort port status a result b → LetsGoOn result
      → MovesNoBulk a.world b.world
  tidied_unmoved x goes = search in_turn

-- a status is asked for
pub shown_unmoved : {port : HubPort} {f : AddressMap} {a b : HostState}
    {result : Result PortStatus EnumFault} → ShowsPort port a result b
    → WhileBusWorks (MapHolds f) a.world → LetsGoOn result → MovesNoBulk a.world b.world
shown_unmoved {f = f} {a = a} {b = b} x owned goes =
    let w = shows_watches x in
    unmoved_rests a.world b.world w.devices (w.addresses.kept f owned).single (w.rests goes)

module _ {port : HubPort} {b : HostState} {result : Result PortStatus EnumFault}
    (goes : LetsGoOn result) where
  -- the port is disabled where it is enabled
  disabled_after : {status : PortStatus} {a : HostState}
      → InOrder (ClearsWhere status.enabled port PORT_ENABLE)
      (λ done h answer k. (answer ≡ Ok status) × (k ≡ h)) a result b → MovesNoBulk a.world b.world
  disabled_after (first_failed fault y e) =
      where_unmoved {call = ClearEnable} refl y (grind arith)
  disabled_after (next_done done h y w) =
      by_both (where_unmoved {call = ClearEnable} refl y tt) (grind (arith, unmoved_none))

  behind_status : {status : PortStatus} {a : HostState} → DisablesAfter port status a result b
      → MovesNoBulk a.world b.world
  behind_status {status = status} {a = a} z = elim (decided (is_stuck port status)) [
    | inl stuck ↦ unmoved_none a.world (grind arith)
    | inr calm ↦ disabled_after (z.steady calm)
  ]

  asked_behind : {f : AddressMap} {a : HostState} → WhileBusWorks (MapHolds f) a.world
      → InOrder (ShowsPort port) (DisablesAfter port) a result b → MovesNoBulk a.world b.world
  asked_behind owned (first_failed fault z e) = shown_unmoved z owned (subst LetsGoOn e goes)
  asked_behind owned (next_done status c z w) =
      by_both (shown_unmoved z owned tt) (behind_status w)

  in_order : {f : AddressMap} {a : HostState} → WhileBusWorks (MapHolds f) a.world
      → ClearsAndAsks port a result b → MovesNoBulk a.world b.world
  in_order owned (first_failed fault y e) =
      feature_unmoved {call = ClearConnectionChange} refl y (grind arith)
  in_order {f = f} owned (next_done done mid y rest) =
      by_both (feature_unmoved {call = ClearConnectionChange} refl y tt)
      (asked_behind {f = f} (y.keeps.keeps.kept f owned) rest)

-- a change of connection is cleared
pub cleared_unmoved : {port : HubPort} {f : AddressMap} {a b : HostState}
    {result : Result PortStatus EnumFault} → ClearsPort port a result b
    → WhileBusWorks (MapHolds f) a.world → LetsGoOn result → MovesNoBulk a.world b.world
cleared_unmoved {f = f} x owned goes = in_order goes {f = f} owned x.order
