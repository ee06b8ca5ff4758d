-- What the clearing of a port's changes pays of what is left to do.
use Rattle.std.proofs.Common.{◌≡◌, inl, inr, ℕ, suc, true, false, List, ◌∷◌, Option, Some, is_some}
use Rattle.std.proofs.Common.{option_map, ap, sym, ◌∙◌, arith}
use Rattle.usb_port.specs.{PortState, is_attached, PortStatus, PortCall, ClearConnectionChange}
use Rattle.usb_port.specs.{ClearResetChange, is_reset}
use Rattle.usb_device.specs.{State, Ports, full, port_of, place, port_there, Place}
use Rattle.usb_world.specs.{AtPorts, Consistent, ConsistentPlace, after, World}
use Rattle.usb_world.proofs.Interface.{course_then, stands}
use Rattle.usb_hub.proofs.Interface.{attached_there, ClearedAt, all_then, bare_pays, cleared_at}
use Rattle.usb_hub.proofs.Interface.{few-changed, few-none, few-only, found_all, found_pays}
use Rattle.usb_hub.proofs.Interface.{found_then, tidied_pays, port_of_place, sane_there}
use Rattle.usb_hub.proofs.Interface.{state_of_place}
use Rattle.usb_hub.specs.{KeepsAll, KeepsBy, KeepsCall, KeepsFound, only, unmarked, gives_power}
use Rattle.usb_hub.specs.{KeepsPlain, PaysBare, PaysLook, PaysStray, PortCallDone, PortStatusAt}
use Rattle.usb_enum.specs.{IsOrderly}
use Rattle.usb_enum.proofs.Interface.{orderly_on}
use Rattle.usb_host.specs.{ResetCleared, ChangeCleared}

-- a call that gives no power and resets nothing adds nothing, whatever is marked
pub call_all : {p : List ℕ} {c : PortCall} {a b : World} → (gives_power c ≡ true → ⊥)
    → (is_reset c ≡ true → ⊥) → KeepsCall p c a b → KeepsAll a b
call_all quiet plain x = record {
  all =
      λ ports m v r few. x.covered ports m v r few (grind arith);
}

-- What a port shows once a change was cleared

pub reset_done : (p : List ℕ) {old : World} (mid : World) {new : World} → KeepsAll old mid
    → PortCallDone p ClearResetChange mid new → ResetCleared p old new
reset_done p mid first d = record {
  mid = after d.last d.before;
  acted = grind (arith, all_then, call_all);
  cleared = grind (arith, port_of_place);
  rested = d.rested;
}

pub connection_done : (p : List ℕ) (status : PortStatus) (old : World) {w v new : World}
    → PortCallDone p ClearConnectionChange old w → PortStatusAt p status w v → KeepsAll v new
    → ChangeCleared p status old new
connection_done p status old d t rest = record {
  mid = mid;
  acted = grind (arith, call_all);
  cleared = grind (arith, port_of_place);
  now = t.now;
  between = all_then d.rested t.untold;
  rested = all_then t.rested rest;
  bare = λ was b e. attached_there mid.roots p b (sane_mid was) (grind (arith, port_of_place))
      ∙ ap is_some (state_of_place mid.roots p ∙ ap stands e);
  stood = λ was on. sym (attached_there t.now.roots p t.port (sane_now was) t.stood) ∙ attached on;
}
  where
    mid : World
    mid = after d.last d.before

    orderly_mid : IsOrderly old → IsOrderly mid
    orderly_mid was = orderly_on was (course_then d.last d.repeats d.acts)

    sane_mid : IsOrderly old → Consistent mid.roots
    sane_mid was = (orderly_mid was).sane

    sane_now : IsOrderly old → Consistent t.now.roots
    sane_now was = (orderly_on (orderly_on (orderly_mid was) (d.since p)) (t.before p)).sane

    attached : status.connected ≡ true → is_attached t.port.attached ≡ true
    attached on = grind arith

-- What that pays

pub full_of : (o : Option Place) → is_some (stands o) ≡ true → (b : PortState) × (s : State)
    × (a : Ports) × (o ≡ Some (full b s a))
full_of o e = grind arith

-- the place at which a status was told
told_place : (p : List ℕ) {status : PortStatus} {old new : World}
    (t : PortStatusAt p status old new) → (q : Place) × (place t.now.roots p ≡ Some q)
    × (port_of q ≡ t.port)
told_place p t = grind (arith, port_of_place)

-- no port tells of a change of its enable
pub steady_place : (q : Place) → ConsistentPlace q → (port_of q).enable_changed ≡ false
unfolding ConsistentPlace
steady_place q h = grind arith

pub told_steady : (p : List ℕ) {status : PortStatus} {old new : World}
    → PortStatusAt p status old new → IsOrderly old → status.enable_changed ≡ false
told_steady p t was =
    let q : _ = told_place p t in
    ap (λ (s : PortStatus). s.enable_changed) t.is ∙ ap (λ (b : PortState). b.enable_changed)
    (sym q.2) ∙ steady_place q.0
    (sane_there t.now.roots p q.0 (orderly_on was (t.before p)).sane q.1)

module _ (j : ℕ) (e : List ℕ) (status : PortStatus) (old mid : World) (ports : AtPorts old.left)
    (t : PortStatusAt (suc j ∷ e) status old mid) where
  abbrev p : List ℕ
  p = suc j ∷ e

  before : KeepsBy unmarked unmarked unmarked old t.now
  before = t.untold.all ports unmarked unmarked unmarked few-none

  -- a change of reset was told, and is cleared
  pub reset_pays : status.reset_changed ≡ true → (new : World) → ResetCleared p mid new
      → PaysStray old new
  reset_pays told new x =
      let q : _ = told_place p t in
      let set : (port_of q.0).reset_changed ≡ true = grind arith in
      let onward : KeepsBy unmarked unmarked (only p) t.now x.mid =
      (all_then t.rested x.acted).all before.left unmarked unmarked (only p) (few-only p) in
      let pays : PaysStray t.now new =
      tidied_pays j e _ _ _ q.0 q.1 set onward
      (λ o at. x.cleared (port_of o) (port_of_place x.mid.roots p ∙ ap (option_map port_of) at))
      (search (few-none, x.rested.all)) in
      record {
        looks = omega (arith, before.looks, pays.looks);
        strays = omega (arith, before.strays, pays.strays);
        paid = elim pays.paid [
          | inl y ↦ inl (omega (arith, before.strays))
          | inr y ↦ inr (omega (arith, before.onward))
        ];
      }

  -- a change of connection was told, and is cleared
  module _ (told : status.connection_changed ≡ true) (second : PortStatus) (left : World)
      (x : ChangeCleared p second mid left) (order : IsOrderly mid) where
    onward : KeepsBy (only p) (only p) unmarked t.now x.mid
    onward = (all_then t.rested x.acted).all before.left (only p) (only p) unmarked (few-changed p)

    at_clearing : ClearedAt j e t.now x.mid
    at_clearing =
        let q : _ = told_place p t in
        cleared_at j e _ _ q.0 q.1 (grind arith) onward
        (λ o at. x.cleared (port_of o) (port_of_place x.mid.roots p ∙ ap (option_map port_of) at))
        (x.bare order)

    -- a device was seen there: a look is paid, whatever becomes of it
    pub look_pays : second.connected ≡ true → (new : World) → KeepsFound p left new
        → PaysLook old new
    look_pays on new found =
        let there : _ = full_of (place x.now.roots p)
        (ap is_some (sym (state_of_place x.now.roots p)) ∙ x.stood order on) in
        let pays : PaysLook t.now new =
        found_pays j e t.now _ _ _ at_clearing (found_all p x.between)
        (found_then p (found_all p x.rested) found) onward.left there.0 there.1 there.2
        there.3 in grind (arith, before)

    -- none was
    pub none_pays : PaysBare old left
    none_pays =
        let pays : PaysBare t.now left = bare_pays j e t.now _ _ at_clearing
        (all_then x.between x.rested) onward.left in grind (arith, before)

-- the same of a port by its path, which one that told has

port_there-not_empty : (p : List ℕ) (w : World) {b : PortState} {A : Type 0}
    → ((j : ℕ) (e : List ℕ) → p ≡ suc j ∷ e → A) → port_there w.roots p ≡ Some b → A
port_there-not_empty p w f there = grind arith

pub told_resets : (p : List ℕ) (status : PortStatus) (old mid new : World) → AtPorts old.left
    → PortStatusAt p status old mid → status.reset_changed ≡ true → ResetCleared p mid new
    → PaysStray old new
told_resets p _ _ _ _ ports t told x =
    port_there-not_empty p t.now
    (λ j e is. reset_pays j e _ _ _ ports (rw is at t) told _ (rw is at x)) t.stood

pub told_looks : (p : List ℕ) (status : PortStatus) (old mid : World) → AtPorts old.left
    → PortStatusAt p status old mid → status.connection_changed ≡ true
    → (second : PortStatus) (left : World) → ChangeCleared p second mid left → IsOrderly mid
    → second.connected ≡ true → (new : World) → KeepsFound p left new → PaysLook old new
told_looks p _ _ _ ports t told _ _ x order on _ found =
    port_there-not_empty p t.now
    (λ j e is. look_pays j e _ _ _ ports (rw is at t) told _ _ (rw is at x) order
    on _ (rw is at found)) t.stood

pub told_pays_bare : (p : List ℕ) (status : PortStatus) (old mid : World) → AtPorts old.left
    → PortStatusAt p status old mid → status.connection_changed ≡ true
    → (second : PortStatus) (left : World) → ChangeCleared p second mid left → IsOrderly mid
    → PaysBare old left
told_pays_bare p _ _ _ ports t told _ _ x order =
    port_there-not_empty p t.now
    (λ j e is. none_pays j e _ _ _ ports (rw is at t) told _ _ (rw is at x) order)
    t.stood

-- a status was told, and no more is left to do since
pub told_keeps : {p : List ℕ} {status : PortStatus} {old mid new : World} → AtPorts old.left
    → PortStatusAt p status old mid → KeepsAll mid new → KeepsPlain old new
told_keeps {old = old} {new = new} ports t x =
    let all : KeepsBy unmarked unmarked unmarked old new =
    (all_then (all_then t.untold t.rested) x).all ports unmarked unmarked unmarked few-none in
    grind arith

pub plain_of : {a b : World} → AtPorts a.left → KeepsAll a b → KeepsPlain a b
plain_of {a} {b} ports x = let all : KeepsBy unmarked unmarked unmarked a b =
    search (few-none, x.all) in grind arith
