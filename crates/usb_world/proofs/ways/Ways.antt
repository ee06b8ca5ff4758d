-- Which paths lead to which, and what is so on the way to a path.
use Rattle.std.proofs.Common.{◌||◌, ◌≡◌, ◌∙◌, refl, sym, ap, ap₂, arith, append-nil, append_assoc}
use Rattle.std.proofs.Common.{length-append, ℕ, zero, suc, ◌+◌, ◌<◌, inl, inr, Bool, true, false}
use Rattle.std.proofs.Common.{◌&&◌, List, [], ◌∷◌, ◌++◌, length, Some, nat_eq}
use Rattle.std.specs.Cmp.Lexicographic.{pointwise, same_text, bytes_decides}
use Rattle.std.specs.List.{starts_with}
use Rattle.std.proofs.lemmas.Bool.{eqb-true, eq-eqb}
use Rattle.usb_port.specs.{is_below as is_port_below, parent_of}
use Rattle.usb_port.proofs.Interface.{is_below-extension, rejoined}
use Rattle.usb_device.specs.{Spec, Ports, vacant, taken, reach, reach_at}
use Rattle.usb_world.specs.{Action, Event, NoneNames, Undisturbed, names_path, way_of, World}
use Rattle.usb_world.specs.{is_way, same_number, same_path}
use Rattle.usb_world.proofs.Booleans.{false_true, both, or_left, or_right, either_of, same_bools}
use Rattle.usb_world.proofs.Booleans.{and_kept}
use Rattle.usb_world.proofs.Equality.{self_number}

-- Paths that are the same

pub same_number-is : (i j : ℕ) → same_number i j ≡ true → j ≡ i
same_number-is zero zero h = refl
same_number-is (suc i) (suc j) h = ap suc (same_number-is i j h)
same_number-is n x h = false_true h

pub same_is : (p q : List ℕ) → same_path p q ≡ true → q ≡ p
same_is [] [] h = refl
same_is (m ∷ p) (n ∷ q) h = grind (arith, same_is p q, both, same_number-is)
same_is p x h = false_true h

-- a way goes on to the path
pub way_rest : (p x : List ℕ) → is_way p x ≡ true → (rest : List ℕ) × (x ≡ p ++ rest)
unfolding is_way
way_rest [] x h = (x, refl)
way_rest (m ∷ p) [] h = false_true h
way_rest (m ∷ p) (n ∷ x) h =
    let parts = both (same_number m n) (is_way p x) h in
    let more = way_rest p x parts.1 in
    (more.0, ap (λ (k : ℕ). k ∷ x) (same_number-is m n parts.0) ∙ ap (λ (l : List ℕ). m ∷ l) more.1)

pub way_on : (p rest : List ℕ) → is_way p (p ++ rest) ≡ true
unfolding is_way
way_on [] rest = refl
way_on (m ∷ p) rest = rw (self_number m, way_on p rest) refl

way_of_rest : (p x rest : List ℕ) → x ≡ p ++ rest → is_way p x ≡ true
way_of_rest p x rest e = grind (arith, way_on)

pub way_itself : (p : List ℕ) → is_way p p ≡ true
way_itself p = way_of_rest p p [] (sym (append-nil p))

pub way_trans : (p q x : List ℕ) → is_way p q ≡ true → is_way q x ≡ true → is_way p x ≡ true
way_trans p q x pq qx = grind (arith, append_assoc, way_of_rest, way_rest)

-- Other words for it

number_tests : (m n : ℕ) → same_number m n ≡ nat_eq m n
number_tests m n = grind (arith, eq-eqb, eqb-true, same_bools, same_number-is, self_number)

-- a path leads to those that start with it
pub way_starts : (e p : List ℕ) → is_way e p ≡ starts_with nat_eq p e
unfolding is_way
way_starts (m ∷ e) (n ∷ p) = ap₂ (λ a b. a && b) (number_tests m n) (way_starts e p)
way_starts p x = refl

rest_below : (x p rest : List ℕ) → x ≡ p ++ rest → (pointwise nat_eq x p || is_port_below x p)
    ≡ true
rest_below x p [] e = or_left (pointwise nat_eq x p) _ ((bytes_decides x p).1 (e ∙ append-nil p))
rest_below x p (n ∷ rest) e = grind (arith, is_below-extension, or_right)

below_rest : (x p : List ℕ) → (pointwise nat_eq x p || is_port_below x p) ≡ true → is_way p x ≡ true
below_rest x p h = elim (either_of (pointwise nat_eq x p) (is_port_below x p) h) [
  | inl same ↦ way_of_rest p x [] (same_text x p (sym same) ∙ sym (append-nil p))
  | inr on ↦ let rest = (is_below-extension x p).0 on in way_of_rest p x rest.0 rest.1
]

-- a path is another or stands below it
pub at_or_below_way : (x p : List ℕ) → (pointwise nat_eq x p || is_port_below x p) ≡ is_way p x
at_or_below_way x p = grind (arith, below_rest, rest_below, same_bools, way_rest)

-- Above

shorter_by : (p x : List ℕ) → length x < length p → (b : Bool) → is_way p x ≡ b → b ≡ false
shorter_by p x shorter b h = grind (arith, length-append, way_rest)

-- a path does not lead to a shorter one
pub way_shorter : (p x : List ℕ) → length x < length p → is_way p x ≡ false
way_shorter p x shorter = shorter_by p x shorter (is_way p x) refl

pub way_parent : (path hub : List ℕ) → parent_of path ≡ Some hub → is_way hub path ≡ true
way_parent path hub is = way_of_rest hub path _ (rejoined path hub is)

not_so : (a b : Bool) → (a ≡ true → b ≡ true) → b ≡ false → a ≡ false
not_so a b f h = grind arith

-- what is not below a port is not below one that is
pub way_apart : (p q x : List ℕ) → is_way p q ≡ true → is_way p x ≡ false → is_way q x ≡ false
way_apart p q x on away = not_so (is_way q x) (is_way p x) (way_trans p q x on) away

-- What is so on the way to a path

reached_above : (k : Ports) (j : ℕ) (x rest : List ℕ)
    → reach_at k j (x ++ rest) ≡ true → reach_at k j x ≡ true
unfolding reach_at
reached_above (vacant b k) (suc j) x rest h = reached_above k j x rest h
reached_above (taken b s a k) zero [] [] h = h
reached_above (taken b s a k) zero [] (suc n ∷ rest) h = (both b.enable _ h).0
reached_above (taken b s a k) zero (suc i ∷ x) rest h =
    and_kept b.enable _ _ (reached_above a i x rest) h
reached_above (taken b s a k) (suc j) x rest h = reached_above k j x rest h
reached_above k j x rest h = false_true h

reach_above : (k : Ports) (n : ℕ) (x rest : List ℕ)
    → reach k (n ∷ (x ++ rest)) ≡ true → reach k (n ∷ x) ≡ true
reach_above k n x rest h = grind (arith, reached_above)

-- each device on the way to a reachable one is reachable
pub reach_on_way : (k : Ports) (n : ℕ) (x p : List ℕ)
    → is_way (n ∷ x) p ≡ true → reach k p ≡ true → reach k (n ∷ x) ≡ true
reach_on_way k n x p w h = grind (arith, reach_above, way_rest)

way_of_above : (e x p : List ℕ) → is_way x p ≡ true → way_of e p ≡ false → way_of e x ≡ false
way_of_above e x p on h = grind (arith, not_so, way_trans)

plugs_above : (b c d : Bool) → (d ≡ false → c ≡ false) → (b && d) ≡ false → (b && c) ≡ false
plugs_above b c d f h = grind arith

names_above : (d : List Spec) (a : Action) (x p : List ℕ) → is_way x p ≡ true
    → names_path d a p ≡ false → names_path d a x ≡ false
names_above d a x p on h = grind (arith, plugs_above, way_of_above)

none_above : (d : List Spec) (events : List Event) (x p : List ℕ) → is_way x p ≡ true
    → NoneNames d events p → NoneNames d events x
none_above d [] x p on h = tt
none_above d (e ∷ events) x p on h =
    (names_above d e.action x p on h.0, none_above d events x p on h.1)

-- what is disturbed neither at a path nor on its way
pub undisturbed_on_way : (x p : List ℕ) (w v : World) → is_way x p ≡ true → Undisturbed w v p
    → Undisturbed w v x
undisturbed_on_way x p w v on u = grind (arith, none_above)
