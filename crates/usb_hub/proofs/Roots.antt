-- What the calls at a root port do to the addresses that devices hold (11.24.2).
use Rattle.std.proofs.Common.{◌≡◌, ℕ, zero, suc, ◌⊎◌, inl, inr, true, false, List, [], ◌∷◌, Some}
use Rattle.std.proofs.Common.{slice_index_or, refl, sym, subst, ◌∙◌}
use Rattle.usb_port.specs.{PortCall, SetReset, is_reset, off}
use Rattle.usb_device.specs.{Ports, vacant, taken, reach, reach_at, row_of}
use Rattle.usb_world.specs.{after_reset, resets, root_call, after, World, root_port_at, is_way}
use Rattle.usb_world.specs.{same_number}
use Rattle.usb_world.proofs.Interface.{same_number-is, reset_distinct, reset_own, rest_own}
use Rattle.usb_world.proofs.Interface.{settled_called, step_own, both, decided, false_true}
use Rattle.usb_hub.specs.{AddressMap, map_without, MapHolds, WhileBusWorks, KeepsAddresses}
use Rattle.usb_hub.proofs.HubPorts.{less_one}
use Rattle.usb_hub.proofs.States.{bared}

module _ (c : PortCall) (n : ℕ) (w : World) where
  abbrev v : World
  v = after (root_call c n) w

  same_fault : v.fault ≡ w.fault
  unfolding after
  same_fault = refl

  same_mark : v.shared ≡ w.shared
  unfolding after
  same_mark = refl

  quiet_owned : (f : AddressMap) → is_reset c ≡ false → MapHolds f w → MapHolds f v
  unfolding after
  quiet_owned f quiet o = record {
    distinct = o.distinct;
    own = step_own f (root_call c n) w (rw quiet refl) o.own;
    single = o.single;
    settled = settled_called c w.roots (n ∷ []) o.settled;
  }

  pub root_keeps : is_reset c ≡ false → KeepsAddresses w v
  root_keeps quiet = record {
    kept = λ f o. record {
      so = λ e. quiet_owned f quiet (o.so (sym same_fault ∙ e));
      single = same_mark ∙ o.single;
    };
  }

-- PORT_RESET
module _ (n : ℕ) (w : World) where
  abbrev u : World
  u = after (root_call SetReset n) w

  reset_owned : (f : AddressMap) → ((x : List ℕ) → f x ≡ Some 0 → is_way (n ∷ []) x ≡ true)
      → MapHolds f w → MapHolds f u ⊎ MapHolds (after_reset f (n ∷ [])) u
  unfolding after
  reset_owned f only o = split (decided (resets (root_call SetReset n) w (n ∷ [])))
    where
      split : (resets (root_call SetReset n) w (n ∷ []) ≡ true)
          ⊎ (resets (root_call SetReset n) w (n ∷ []) ≡ false) → MapHolds f u
          ⊎ MapHolds (after_reset f (n ∷ [])) u
      split (inl e) = inr (record {
        distinct = reset_distinct f (n ∷ []) o.distinct only;
        own = reset_own f n w e o.own;
        single = o.single;
        settled = settled_called SetReset w.roots (n ∷ []) o.settled;
      })
      split (inr e) = inl (record {
        distinct = o.distinct;
        own = rest_own f n w e o.own;
        single = o.single;
        settled = settled_called SetReset w.roots (n ∷ []) o.settled;
      })

  pub root_resets : (f : AddressMap) → ((x : List ℕ) → f x ≡ Some 0 → is_way (n ∷ []) x ≡ true)
      → WhileBusWorks (MapHolds f) w → WhileBusWorks (λ w. MapHolds f w
      ⊎ MapHolds (after_reset f (n ∷ [])) w) u
  unfolding after
  root_resets f only o = record { so = λ e. reset_owned f only (o.so e); single = o.single }

-- a port that is not enabled passes nothing on
shut_index : (k : Ports) (i : ℕ) (r : List ℕ) → (slice_index_or (row_of k) i off).enable ≡ false
    → reach_at k i r ≡ false
unfolding row_of reach_at
shut_index (vacant b k) (suc i) r h = shut_index k i r h
shut_index (taken b s a k) zero [] h = h
shut_index (taken b s a k) zero (suc m ∷ r) h = rw h refl
shut_index (taken b s a k) (suc i) r h = shut_index k i r h
shut_index k i r h = refl

reach-root_disabled : (n : ℕ) (w : World) → (root_port_at w n).enable ≡ false → (x : List ℕ)
    → is_way (n ∷ []) x ≡ true → reach w.roots x ≡ false
unfolding root_port_at is_way
reach-root_disabled zero w h (suc i ∷ r) way = false_true way
reach-root_disabled (suc j) w h (suc i ∷ r) way =
    rw (same_number-is j i (both (same_number j i) true way).0)
    (shut_index w.roots j r (subst (λ k. (slice_index_or (row_of w.roots) k off).enable ≡ false)
    (less_one j) h))
reach-root_disabled n w h x way = refl

pub root_shut : (f : AddressMap) (n : ℕ) (w : World) → (root_port_at w n).enable ≡ false
    → WhileBusWorks (MapHolds f) w → WhileBusWorks (MapHolds (map_without f (n ∷ []))) w
root_shut f n w off o = record {
  so = λ e. bared f (n ∷ []) w (reach-root_disabled n w off) (o.so e);
  single = o.single;
}
