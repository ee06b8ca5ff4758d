-- What is so in the middle of an enumeration at a port: the device there, if one is reached, has
-- address 0 or the one that is set aside for it.
use Rattle.std.proofs.Common.{◌≡◌, ℕ, suc, ◌⊎◌, inl, inr, Bool, true, false, List, ◌∷◌, Option}
use Rattle.std.proofs.Common.{None, Some, option_map, if◌then◌else◌, refl, ap, sym, ◌∙◌}
use Rattle.std.proofs.lemmas.Option.{same_Some}
use Rattle.usb_device.specs.{State as Device, reach, state_at}
use Rattle.usb_world.specs.{same_path, is_way, address_of, World, Injective, address_at}
use Rattle.usb_world.specs.{after_reset, after_taking}
use Rattle.usb_world.proofs.Interface.{same_is, taken_distinct, way_itself, false_true}
use Rattle.usb_hub.specs.{Free, map_without, Unused, MapHolds, Enumerating}
use Rattle.usb_hub.proofs.Polls.{reach_stands}
use Rattle.usb_hub.proofs.PortResets.{owned_as}

-- where a device is reached there is an address
reach-has_address : (w : World) (q : List ℕ) → reach w.roots q ≡ true → address_at w.roots q ≡ None
    → ⊥
reach-has_address w (suc i ∷ q) on h = go (state_at w.roots i q) refl h
  where
    go : (o : Option Device) → state_at w.roots i q ≡ o → option_map address_of o ≡ None → ⊥
    go None e h = reach_stands w.roots i q on e
    go (Some v) e h = cc h
reach-has_address w q on h = cc on

-- a claim may be made where none is, and no device is reached
pub weaken : (f : List ℕ → Option ℕ) (p : List ℕ) (n : ℕ) (w : World) → f p ≡ None → Unused f n
    → MapHolds f w → MapHolds (after_taking f p n) w
weaken f p n w free unused o = record {
  distinct = taken_distinct f p n o.distinct (λ q h. elim (unused q h) [ ]);
  own = own;
  single = o.single;
  settled = o.settled;
}
  where
    own : (q : List ℕ) → reach w.roots q ≡ true → address_at w.roots q ≡ after_taking f p n q
    own q on = split (same_path p q) refl
      where
        nowhere : same_path p q ≡ true → address_at w.roots q ≡ None
        nowhere e = o.own q on ∙ ap f (same_is p q e) ∙ free

        split : (x : Bool) → same_path p q ≡ x → address_at w.roots q ≡ (if x then Some n else f q)
        split true e = elim (reach-has_address w q on (nowhere e)) [ ]
        split false e = o.own q on

-- where nothing is reached at a path or below it, its claims may go
pub bared : (f : List ℕ → Option ℕ) (p : List ℕ) (w : World)
    → ((x : List ℕ) → is_way p x ≡ true → reach w.roots x ≡ false) → MapHolds f w
    → MapHolds (map_without f p) w
bared f p w bare o = record {
  distinct = distinct;
  own = own;
  single = o.single;
  settled = o.settled;
}
  where
    of_cleared : (x : List ℕ) (a : ℕ) → map_without f p x ≡ Some a → f x ≡ Some a
    of_cleared x a h = split (is_way p x) h
      where
        split : (b : Bool) → (if b then None else f x) ≡ Some a → f x ≡ Some a
        split true h = cc h
        split false h = h

    distinct : Injective (map_without f p)
    distinct x y a h k = o.distinct x y a (of_cleared x a h) (of_cleared y a k)

    own : (q : List ℕ) → reach w.roots q ≡ true → address_at w.roots q ≡ map_without f p q
    own q on = split (is_way p q) refl
      where
        split : (b : Bool) → is_way p q ≡ b → address_at w.roots q ≡ (if b then None else f q)
        split true e = false_true (sym (bare q e) ∙ on)
        split false e = o.own q on

-- The state

pub enumerating_begins : (f : List ℕ → Option ℕ) (p : List ℕ) (a : ℕ) (w : World) → Free f p
    → Unused f 0 → MapHolds f w → Enumerating f p a w
enumerating_begins f p a w free unused o =
    record { has = 0; is = inl refl; owned = weaken f p 0 w (free p (way_itself p)) unused o }

-- PORT_RESET leaves it so
pub after_a_reset : (f : List ℕ → Option ℕ) (p : List ℕ) (a c : ℕ) (w : World) → Free f p → (c ≡ 0)
    ⊎ (c ≡ a) → MapHolds (after_taking f p c) w ⊎ MapHolds (after_reset (after_taking f p c) p) w
    → Enumerating f p a w
after_a_reset f p a c w free is (inl o) = record { has = c; is = is; owned = o }
after_a_reset f p a c w free is (inr o) =
    record {
      has = 0;
      is = inl refl;
      owned = owned_as (after_reset (after_taking f p c) p) (after_taking f p 0) w same o;
    }
  where
    same : (x : List ℕ) → after_reset (after_taking f p c) p x ≡ after_taking f p 0 x
    same x = split (same_path p x) (is_way p x) refl
      where
        split : (y z : Bool) → is_way p x ≡ z
            → (if y then Some 0 else if z then None else (if y then Some c else f x))
            ≡ (if y then Some 0 else f x)
        split false true e = sym (free x e)
        split y z e = refl

-- SET_ADDRESS leaves it so
pub after_an_address : (f : List ℕ → Option ℕ) (p : List ℕ) (a c : ℕ) (w : World) → (c ≡ 0)
    ⊎ (c ≡ a) → MapHolds (after_taking f p c) w ⊎ MapHolds (after_taking (after_taking f p c) p a) w
    → Enumerating f p a w
after_an_address f p a c w is (inl o) = record { has = c; is = is; owned = o }
after_an_address f p a c w is (inr o) =
    record {
      has = a;
      is = inr refl;
      owned = owned_as (after_taking (after_taking f p c) p a) (after_taking f p a) w same o;
    }
  where
    same : (x : List ℕ) → after_taking (after_taking f p c) p a x ≡ after_taking f p a x
    same x = split (same_path p x)
      where
        split : (y : Bool) → (if y then Some a else (if y then Some c else f x))
            ≡ (if y then Some a else f x)
        split true = refl
        split false = refl

-- what SET_ADDRESS at address 0 asks of it
pub after_taking-zero : (f : List ℕ → Option ℕ) (p : List ℕ) (c : ℕ) (q : List ℕ) → Unused f 0
    → after_taking f p c q ≡ Some 0 → q ≡ p
after_taking-zero f p c q unused h = split (same_path p q) refl h
  where
    split : (y : Bool) → same_path p q ≡ y → (if y then Some c else f q) ≡ Some 0 → q ≡ p
    split true e h = same_is p q e
    split false e h = elim (unused q h) [ ]

pub after_taking-not_both : (f : List ℕ → Option ℕ) (p : List ℕ) (a c : ℕ) (q r : List ℕ)
    → Unused f 0 → Unused f a → (a ≡ 0 → ⊥) → (c ≡ 0) ⊎ (c ≡ a)
    → after_taking f p c q ≡ Some a → after_taking f p c r ≡ Some 0 → ⊥
after_taking-not_both f p a c q r no_zero no_a some is h g =
    split (same_path p q) h (same_path p r) g
  where
    split : (y : Bool) → (if y then Some c else f q) ≡ Some a → (z : Bool)
        → (if z then Some c else f r) ≡ Some 0 → ⊥
    split false h z g = no_a q h
    split true h false g = no_zero r g
    split true h true g = some (sym (same_Some c a h) ∙ same_Some c 0 g)
