-- Nothing is reached at a port that is not enabled, nor below it.
use Rattle.std.proofs.Common.{arith, ◌≡◌, ◌&&◌, ℕ, zero, suc, Bool, true, false, List, [], ◌∷◌}
use Rattle.std.proofs.Common.{◌++◌, Option, option_map, Ok, refl, ap, sym, ◌∙◌, IfSome}
use Rattle.usb_request.specs.{PORT_ENABLE}
use Rattle.usb_port.specs.{PortState, PortStatus, ClearEnable, clear_call, called_port}
use Rattle.usb_device.specs.{Ports, vacant, taken, port_at, reach, reach_at, port_there}
use Rattle.usb_world.specs.{is_way, after, World}
use Rattle.usb_world.proofs.Interface.{course_wider, same_device, way_rest, and_false, false_true}
use Rattle.usb_hub.specs.{AddressMap, map_without, MapHolds, WhileBusWorks, KeepsAddresses, HubPort}
use Rattle.usb_hub.specs.{Isolates, OnReachedRow, PortStatusAt, ReadsPort, PortCallDone}
use Rattle.usb_hub.specs.{CommandsPort, TouchesNoPort}
use Rattle.usb_hub.proofs.CalledPorts.{port_of_place}

-- the port at a path, if there is one, is not enabled
abbrev pub Shut : Ports → List ℕ → Type 0
Shut k p = IfSome (port_there k p) (λ b. b.enable ≡ false)

reach_at-disabled : (k : Ports) (i : ℕ) (e r : List ℕ)
    → IfSome (port_at k i e) (λ b. b.enable ≡ false) → reach_at k i (e ++ r) ≡ false
unfolding port_at reach_at
reach_at-disabled (vacant b k) (suc i) e r off = reach_at-disabled k i e r off
reach_at-disabled (taken b s a k) zero [] [] off = off
reach_at-disabled (taken b s a k) zero [] (suc m ∷ r) off = grind arith
reach_at-disabled (taken b s a k) zero (suc m ∷ e) r off =
    ap (λ x. b.enable && x) (reach_at-disabled a m e r off) ∙ and_false b.enable
reach_at-disabled (taken b s a k) (suc i) e r off = reach_at-disabled k i e r off
reach_at-disabled _ _ _ _ off = refl

shut_rest : (w : World) (q : List ℕ) (n : ℕ) (r : List ℕ) → Shut w.roots (q ++ (n ∷ []))
    → reach w.roots ((q ++ (n ∷ [])) ++ r) ≡ false
shut_rest w [] (suc i) r off = reach_at-disabled w.roots i [] r off
shut_rest w (suc j ∷ e) n r off = reach_at-disabled w.roots j (e ++ (n ∷ [])) r off
shut_rest w _ _ r off = refl

-- it passes nothing on
pub shut_reach : (w : World) (q : List ℕ) (n : ℕ) → Shut w.roots (q ++ (n ∷ [])) → (x : List ℕ)
    → is_way (q ++ (n ∷ [])) x ≡ true → reach w.roots x ≡ false
shut_reach w q n off x way = grind (arith, shut_rest, way_rest)

-- nor does it where nothing was asked of any port since
shut_since : (mid new : World) (p : List ℕ) → OnReachedRow new p → Shut mid.roots p
    → TouchesNoPort mid new → (x : List ℕ) → is_way p x ≡ true → reach new.roots x ≡ false
shut_since mid new p row off since x way = pick (reach new.roots x) refl
  where
    before : reach mid.roots x ≡ false
    before = grind (arith, shut_reach)

    pick : (on : Bool) → reach new.roots x ≡ on → reach new.roots x ≡ false
    pick true e = false_true (sym before
        ∙ (same_device x (course_wider (λ s w k. k.rests) (since x)) e).0)
    pick false e = e

pub till_bared : (f : AddressMap) (p : List ℕ) (new : World) → WhileBusWorks (MapHolds f) new
    → ((x : List ℕ) → is_way p x ≡ true → reach new.roots x ≡ false)
    → WhileBusWorks (MapHolds (map_without f p)) new
till_bared f p new kept bare = grind arith

-- its status was told, and it is not enabled
pub port_told_bares : (port : HubPort) (status : PortStatus) (old new : World)
    → KeepsAddresses old new → ReadsPort port old (Ok status) new → status.enabled ≡ false
    → Isolates port old new
port_told_bares port status old new keeps tells off = record {
  bares = λ f p at o.
      let told : PortStatusAt p status old new = grind arith in
      till_bared f p new (keeps.kept f o)
      (shut_since told.now new p told.row (grind arith) told.since);
}

-- PORT_ENABLE was cleared
pub disabled_port : (o : Option PortState)
    → IfSome (option_map (called_port ClearEnable) o) (λ b. b.enable ≡ false)
disabled_port o = grind arith

done_shut : (p : List ℕ) (old new : World) (x : PortCallDone p ClearEnable old new)
    → Shut (after x.last x.before).roots p
done_shut p old new x = grind (arith, port_of_place)

pub done_bares : (port : HubPort) (old new : World) → KeepsAddresses old new
    → CommandsPort port (clear_call PORT_ENABLE) old (Ok tt) new → Isolates port old new
done_bares port old new keeps calls = record {
  bares = λ f p at o.
      let done : PortCallDone p ClearEnable old new = grind arith in
      till_bared f p new (keeps.kept f o) (search (done_shut, shut_since));
}
