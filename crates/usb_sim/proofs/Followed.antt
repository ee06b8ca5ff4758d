-- A bus that follows another plan.
use Rattle.std.proofs.Common.{◌≡◌, ◌==◌, ◌≤◌, ◌+◌, ℕ, List, Bool, true, arith, drop, length}
use Rattle.std.specs.List.{list_all}
use Rattle.std.proofs.lemmas.List.{length-drop}
use Rattle.std.proofs.lemmas.List.Elements.{All-drop}
use Rattle.std.proofs.lemmas.List.Sums.{AllPass-from_list_all, list_all-from_AllPass}
use Rattle.std.proofs.lemmas.Bool.{and_parts, eqb-true}
use Rattle.usb_world.specs.{AreOfDamages, PlanData, World, damages_until}
use Rattle.usb_sim.specs.{is_alike}

pub all_dropped : {X : Type 0} (p : X → Bool) (n : ℕ) (xs : List X) → list_all p xs ≡ true
    → list_all p (drop n xs) ≡ true
all_dropped p n xs h =
    list_all-from_AllPass p (drop n xs)
    (All-drop (λ x. p x ≡ true) n xs (AllPass-from_list_all p xs h))

pub devices_alike : (p : PlanData) (w : World) → is_alike p w ≡ true
    → length p.devices ≡ length w.devices
devices_alike p w h =
    let parts = and_parts (length p.devices == length w.devices)
    (damages_until w.attempts p.damages == damages_until w.attempts w.damages) h in
    eqb-true _ _ parts.0

damages_alike : (p : PlanData) (w : World) → is_alike p w ≡ true
    → damages_until w.attempts p.damages ≡ damages_until w.attempts w.damages
damages_alike p w h =
    let parts = and_parts (length p.devices == length w.devices)
    (damages_until w.attempts p.damages == damages_until w.attempts w.damages) h in
    eqb-true _ _ parts.1

pub of_alike : (p : PlanData) (w : World) → is_alike p w ≡ true
    → AreOfDamages w.attempts w.damages w.losses → AreOfDamages w.attempts p.damages w.losses
of_alike p w h lost = record {
  all = rw (damages_alike p w h) lost.all;
  run = lost.run;
  worst = lost.worst;
}

pub few_left : {X : Type 0} (taken most : ℕ) (xs : List X) → length xs ≤ most → taken ≤ most
    → taken + length (drop taken xs) ≤ most
few_left taken most xs all came = omega (arith, length-drop taken xs, all, came)
