-- That an occupied port stays occupied, and how the device there comes to be reached, from one call
-- to the next.
use Rattle.std.proofs.Common.{arith, ◌≡◌, inl, inr, ℕ, zero, suc, true, false, List, [], ◌∷◌}
use Rattle.std.proofs.Common.{Option, None, Some, option_map, Result, Ok, Err, refl, sym, subst}
use Rattle.std.proofs.Common.{IfSome, IsSome}
use Rattle.usb_request.specs.{PORT_ENABLE, C_PORT_RESET, set_address}
use Rattle.usb_port.specs.{PortState, PortStatus, ClearEnable, ClearResetChange, clear_call}
use Rattle.usb_port.specs.{called_port, PortCall}
use Rattle.usb_device.specs.{State, Ports, vacant, taken, reach_at, state_at, state_there}
use Rattle.usb_device.specs.{port_there}
use Rattle.usb_world.specs.{after_taking, KeepsPendingAt, spec_of, LeavesPortAlone, Course, World}
use Rattle.usb_world.specs.{has_power, pending, keeps_pending}
use Rattle.usb_world.proofs.Interface.{course_wider, pending_persists, rests_or_pends}
use Rattle.usb_world.proofs.Interface.{stands_or_pends, step_pend, both, decided, false_true}
use Rattle.usb_hub.specs.{AddressMap, Enumerating, WhileBusWorks, HubPort, OnReachedRow}
use Rattle.usb_hub.specs.{PortStatusAt, CommandsPort, PortCallDone, TouchesNoPort, Commanded}
use Rattle.usb_transfer.specs.{Target, PipeFault}
use Rattle.usb_hub.proofs.Interface.{disabled_port, done_stands, enabled_reach, told_stands}
use Rattle.usb_enum.specs.{Cause, EnumFault, IsSpare, TakesAddress, AtPort, CalledAt, StatusAt}
use Rattle.usb_enum.specs.{SettlesReset, Disables, OnlyAsks, OnlySets, IsKnownAs, IsOccupied}
use Rattle.usb_enum.specs.{IsReachedAt, ReachesDevice, at_port, Went}
use Rattle.usb_enum.specs.declared.finding.Finding.TheVariants.{Refused}
use Rattle.usb_enum.proofs.devices.Enumerations.{having, at_taking}
use Rattle.usb_enum.proofs.devices.Frames.{called_is, held_there, is_above-self}

-- What a call at a port gave

pub done_at : {A : Type 0} {outcome : Result A PipeFault} {answer : A} → Ok answer ≡ at_port outcome
    → outcome ≡ Ok answer
done_at is = grind arith

-- What stands at a port

pub some_of : (a b : Option State) → option_map spec_of b ≡ option_map spec_of a → IsSome a
    → IsSome b
some_of a b same some = grind arith

pub is_some-value : {A : Type 0} (o : Option A) → IsSome o → (x : A) × (o ≡ Some x)
is_some-value o some = grind arith

-- a reachable device stands
pub reach-state : (k : Ports) (j : ℕ) (p : List ℕ) → reach_at k j p ≡ true → IsSome (state_at k j p)
unfolding reach_at state_at
reach-state (vacant b k) (suc j) p on = reach-state k j p on
reach-state (taken b s a k) zero [] on = refl
reach-state (taken b s a k) zero (suc j ∷ p) on =
    reach-state a j p (both b.enable (reach_at a j p) on).1
reach-state (taken b s a k) (suc j) p on = reach-state k j p on
reach-state _ _ _ on = false_true on

-- where nothing pending is cleared, an occupied port stays so
pub occupied_on : (p : List ℕ) {old new : World} → Course (KeepsPendingAt p) old new
    → IsOccupied old p → IsOccupied new p
occupied_on p c h = grind (arith, pending_persists, stands_or_pends)

-- where nothing is asked of a port, the device there stays reached
pub reached_on : (p : List ℕ) {old new : World} → Course (LeavesPortAlone p) old new
    → IsReachedAt old p → IsReachedAt new p
reached_on p c (inl pending) = inl (pending_persists p (course_wider (λ s w k. k.spares) c) pending)
reached_on p c (inr is) = grind (arith, rests_or_pends)

-- PORT_RESET, its status and the clearing of C_PORT_RESET

-- an enabled port of a reached row, with a device on it
enabled_at : {p : List ℕ} {w : World} (b : PortState) → has_power w.roots p ≡ true
    → OnReachedRow w p → port_there w.roots p ≡ Some b → b.enable ≡ true
    → IsSome (state_there w.roots p) → IsReachedAt w p
enabled_at b on row there enabled some = grind (arith, enabled_reach)

pub reset_reaches : {port : HubPort} {address : ℕ} {status : PortStatus} {old set told new : World}
    → Went old set → Went set told → Went told new → AtPort port address old set → OnlyAsks set told
    → AtPort port address old told → AtPort port address told new
    → StatusAt port set (Ok status) told → status.enabled ≡ true
    → SettlesReset port status.reset_changed told (Ok tt) new → ReachesDevice port address old new
reset_reaches {port} {address} {status} {set} {told} {new} first second third at_set asks
    at_told at_settle shown enabled settles = record {
      reached = λ f p spare t order occupied none.
          let none_told = third.led.sound none in
          let none_set = second.led.sound none_told in
          let later = at_told.within.stays f p spare t in
          let h = having f p address (at_set.within.stays f p spare t) in
          let seen : PortStatusAt p status set told =
          search (at_taking, done_at, shown.tells.tells) in
          let is_enabled : seen.port.enable ≡ true = grind arith in
          let pends : pending told.roots p ≡ true → IsReachedAt new p = λ x.
          inl (grind (arith, pending_persists)) in
          elim (occupied_on p (at_set.only.at f p spare t none_set).spares occupied) [
            | inl x ↦ pends (pending_persists p
                (course_wider (λ s w k. k.spares) (asks.ports none_told p)) x)
            | inr is ↦ elim (told_stands p status set told seen is.0) [
              | inr y ↦ pends y
              | inl y ↦ (let some =
                  some_of (state_there set.roots p) (state_there told.roots p) y.2 is.1 in
                  elim (decided status.reset_changed) [
                    | inl e ↦ by_clear f p spare later seen.port is_enabled (settles.set e) y.0 y.1
                        some
                    | inr e ↦ subst (λ w. IsReachedAt w p) (sym (settles.unset e).1)
                        (search enabled_at)
                  ])
            ]
          ];
    }
  where
    by_clear : (f : AddressMap) (p : List ℕ) → IsSpare f port p address
        → WhileBusWorks (Enumerating f p address) told → (b : PortState) → b.enable ≡ true
        → CalledAt port (clear_call C_PORT_RESET) told (Ok tt) new
        → has_power told.roots p ≡ true → port_there told.roots p ≡ Some b
        → IsSome (state_there told.roots p) → IsReachedAt new p
    by_clear f p spare later b is_enabled cleared on there some =
        let h = having f p address later in
        let done : PortCallDone p ClearResetChange told new =
        cleared.calls.done (after_taking f p h.has) p ClearResetChange
        (search called_is) (done_at cleared.told) in
        elim (done_stands p ClearResetChange refl told new done on) [
          | inl y ↦ enabled_at (called_port ClearResetChange b) y.0 done.row
              (grind arith) is_enabled
              (search some_of)
          | inr y ↦ inl y
        ]

-- Over calls that come later

-- where nothing is asked of any port
pub reaches_rest : {port : HubPort} {address : ℕ} {old mid new : World} → Went mid new
    → (new.fault ≡ None → TouchesNoPort mid new) → ReachesDevice port address old mid
    → ReachesDevice port address old new
reaches_rest went rest reaches = record {
  reached = λ f p spare t order occupied none. reached_on p (rest none p) (grind arith);
}

-- SET_ADDRESS
pub reaches_addressed : {port : HubPort} {address : ℕ} (given : ℕ) {target : Target}
    {result : Result (Unit {0}) PipeFault} {old mid new : World} → Went mid new
    → Commanded target (set_address given) mid result new → ReachesDevice port address old mid
    → ReachesDevice port address old new
unfolding set_address
reaches_addressed given went ordered reaches = grind (arith, reaches_rest)

-- where the device that took the address is configured
pub reaches_set : {port : HubPort} {address : ℕ} {old mid new : World} → Went mid new
    → TakesAddress port address old mid → OnlySets address mid new
    → ReachesDevice port address old mid → ReachesDevice port address old new
reaches_set {address} went takes sets reaches = record {
  reached = λ f p spare t order occupied none.
      let sound = went.led.sound none in
      let own = (takes.took f p spare t).so sound in
      reached_on p (sets.ports none (after_taking f p address) p (held_there f p address) own p
      (is_above-self p)) (search reaches.reached);
}

-- The clearing of PORT_ENABLE

-- what is pending at the port pends after a call that clears nothing that is
pub pends_there : (p : List ℕ) (c : PortCall) (old new : World) → keeps_pending c [] ≡ true
    → PortCallDone p c old new → pending old.roots p ≡ true → pending new.roots p ≡ true
pends_there p c old new keeps d h =
    let before = pending_persists p (course_wider (grind arith) d.repeats) h in
    let called = step_pend d.last d.before p (grind arith) before in
    pending_persists p (course_wider (λ s w k. k.spares) (d.since p)) called

-- an occupied port passes nothing on then
pub disabled_known : (p : List ℕ) (cause : Cause) (old new : World)
    → PortCallDone p ClearEnable old new → IsOccupied old p → IsKnownAs new p (Some (Refused cause))
disabled_known p cause old new d (inl x) = inl (search pends_there)
disabled_known p cause old new d (inr x) = elim (done_stands p ClearEnable refl old new d x.0) [
  | inl y ↦ inr (
    y.0,
    (
      some_of (state_there old.roots p) (state_there new.roots p) y.2 x.1,
      subst (λ o. IfSome o (λ b. b.enable ≡ false)) (sym y.1)
          (disabled_port (port_there old.roots p)),
    ),
  )
  | inr y ↦ inl y
]

pub clear_enable_disables : {port : HubPort} (address : ℕ) (cause : Cause)
    {result : Result (Unit {0}) PipeFault} {old new : World}
    → CommandsPort port (clear_call PORT_ENABLE) old result new → result ≡ Ok tt
    → Disables port address old (Ok (Refused cause)) new
clear_enable_disables address cause {old} {new} calls ok = record {
  there = λ f p spare t occupied finding e.
      let h = having f p address t in
      subst (λ x. IsKnownAs new p (Some x)) (let same : Refused cause ≡ finding = cc in same)
      (disabled_known p cause old new (calls.done (after_taking f p h.has) p ClearEnable
      (search called_is) ok) occupied);
}

-- where there is no finding
pub disables_none : (port : HubPort) (address : ℕ) (old : World) (why : EnumFault) (new : World)
    → Disables port address old (Err why) new
disables_none port address old why new = grind arith
