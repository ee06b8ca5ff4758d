-- An attempt that goes straight to the one device that it is for.
use Rattle.std.proofs.Common.{◌≡◌, ℕ, zero, suc, false, List, [], ◌∷◌, ◌++◌}
use Rattle.std.proofs.Common.{Option, None, ap}
use Rattle.std.proofs.Common.{sym, subst, ◌∙◌, ◌+◌}
use Rattle.usb_device.specs.{Ports, put}
use Rattle.usb_device.specs.{all_reached}
use Rattle.usb_function.specs.{IsIndexOf, IsIndexWithout}
use Rattle.usb_function.specs.declared.holders.Holders.{Holders}
use Rattle.usb_device.proofs.Interface.{changed_at-zero}
use Rattle.usb_function.proofs.Interface.{index_around, same_index}
use Rattle.usb_world.specs.{Attempt, Damage, ports_in, IsSettled, is_whole_tree, IsWayTo, KeptAt}
use Rattle.usb_world.proofs.Interface.{false_true}
use Rattle.usb_world.proofs.ways.Routes.{alone_token}
use Rattle.usb_world.proofs.ways.RoutedAttempts.{left_is, n, w, x}

-- the index of the tree then
pub index_kept : (n : ℕ) (h : Holders) (k m : Ports) (p : List ℕ) → IsSettled k → IsWayTo n k p
    → KeptAt n 0 k m p → IsIndexOf h k → IsIndexOf h m
index_kept n h k m (suc j ∷ p) s w kept is =
    same_index h k m
    (ap all_reached (sym (changed_at-zero (put None) m j p)) ∙ kept s w
    ∙ ap all_reached (changed_at-zero (put None) k j p)) is
index_kept n h k m p s w kept is = absurd kept

-- the index without what is on a port of the device
pub index_port : (n port : ℕ) (h : Holders) (k m : Ports) (p l : List ℕ) → l ≡ p ++ port ∷ []
    → IsSettled k → IsWayTo n k p → KeptAt n port k m p → IsIndexWithout h k l
    → IsIndexWithout h m l
index_port n port h k m (suc j ∷ p) l e s w kept is =
    subst (λ x. IsIndexWithout h m x) (sym e)
    (same_index h _ _ (kept s w)
    (subst (λ x. IsIndexWithout h k x) e is))
index_port n port h k m p l e s w kept is = absurd kept

-- an attempt changes nothing but the device at its way, with what is below
pub index_beside : (a : Attempt) (d : Option Damage) (h : Holders) (k m : Ports) (p : List ℕ)
    → is_whole_tree p ≡ false → IsSettled k → IsWayTo a.addr k p → m ≡ ports_in a d k
    → IsIndexWithout h k p → IsIndexWithout h m p
index_beside a d h k m [] f s w e is = false_true (sym f)
index_beside a d h k m (zero ∷ p) f s w e is = absurd w
index_beside a d h k m (suc j ∷ p) f s w e is =
    index_around h _ k m (suc j ∷ p) (e ∙ left_is a d k j p (alone_token a d k (suc j ∷ p) s w)) is
