-- An index of the holders of addresses, made device by device.
use Rattle.std.proofs.Common.{◌≡◌, ◌+◌, ◌<◌, ℕ, zero, suc, ◌==◌, ◌||◌, if◌then◌else◌, Bool, true}
use Rattle.std.proofs.Common.{false, List, [], ◌∷◌, ◌++◌, Option, None, Some, length, map}
use Rattle.std.proofs.Common.{slice_set, slice_index_or, refl, ap, sym, subst, ◌∙◌, arith}
use Rattle.std.proofs.lemmas.Bool.{eqb-true}
use Rattle.std.proofs.lemmas.Bool.Decides.{nat_tests}
use Rattle.arrayvec.specs.ArrayVec.{ArrayVec}
use Rattle.usb_port.specs.{PortState}
use Rattle.usb_device.specs.{Holder, Ports, ended, vacant, taken, Plugged, before, standing}
use Rattle.usb_device.specs.{held_addresses, held_in, repeats, AreBytes, path_below}
use Rattle.usb_device.specs.{reached, reached_in, all_reached, paths_at, holder_among, IsIndex}
use Rattle.usb_device.specs.{AreNobody, is_known, joined_holder, noted, meets_again, released}
use Rattle.usb_device.specs.declared.holders.Holder.TheVariants.{Nobody, Several}
use Rattle.usb_device.proofs.MarkedAddresses.{or_assoc, held-before, meets, met_none_of}

abbrev pub IndexWay : Type 0
IndexWay = Option (ArrayVec ℕ)

abbrev NumberedWays : Type 0
NumberedWays = List (ℕ × IndexWay)

-- ---- along a list
-- the places with one device more
abbrev with_one : ℕ × IndexWay → List Holder → List Holder
with_one x h = slice_set h x.0 (joined_holder (slice_index_or h x.0 Nobody) x.1)

noted-append : (xs ys : NumberedWays) (h : List Holder) → noted (xs ++ ys) h ≡ noted ys (noted xs h)
noted-append [] ys h = refl
noted-append (x ∷ xs) ys h = noted-append xs ys (with_one x h)

met-append : (xs ys : NumberedWays) (h : List Holder)
    → meets_again (xs ++ ys) h ≡ (meets_again xs h || meets_again ys (noted xs h))
met-append [] ys h = refl
met-append (x ∷ xs) ys h =
    ap (λ b. is_known (slice_index_or h x.0 Nobody) || b) (met-append xs ys (with_one x h))
    ∙ sym (or_assoc (is_known (slice_index_or h x.0 Nobody)) (meets_again xs (with_one x h))
    (meets_again ys (noted xs (with_one x h))))

pub length-put : (h : List Holder) (i : ℕ) (x : Holder) → length (slice_set h i x) ≡ length h
length-put (y ∷ h) (suc i) x = ap suc (length-put h i x)
length-put h i x = refl

pub length-noted : (xs : NumberedWays) (h : List Holder) → length (noted xs h) ≡ length h
length-noted [] h = refl
length-noted (x ∷ xs) h = length-noted xs (with_one x h)
    ∙ length-put h x.0 (joined_holder (slice_index_or h x.0 Nobody) x.1)

-- ---- a row of ports that begins with a place
way_if_enabled : (x : ℕ × IndexWay) (a k : NumberedWays) (e : Bool)
    → (if e then x ∷ (a ++ k) else k) ≡ (if e then x ∷ a else []) ++ k
way_if_enabled x a k true = refl
way_if_enabled x a k false = refl

reached-before : (w : IndexWay) (n : ℕ) (b : PortState) (d : Option Plugged) (k : Ports)
    → reached w n (before (standing b d) k) ≡ reached_in w n b d ++ reached w (n + 1) k
unfolding reached
reached-before w n b None k = refl
reached-before w n b (Some t) k = way_if_enabled (t.own.registers.address, path_below w n)
    (reached (path_below w n) 1 t.ports) (reached w (n + 1) k) b.enable

pub noted-before : (w : IndexWay) (n : ℕ) (b : PortState) (d : Option Plugged) (k : Ports)
    (h : List Holder) → noted (reached w n (before (standing b d) k)) h
    ≡ noted (reached w (n + 1) k) (noted (reached_in w n b d) h)
noted-before w n b d k h = ap (λ xs. noted xs h) (reached-before w n b d k)
    ∙ noted-append (reached_in w n b d) (reached w (n + 1) k) h

pub met-before : (w : IndexWay) (n : ℕ) (b : PortState) (d : Option Plugged) (k : Ports)
    (h : List Holder) → meets_again (reached w n (before (standing b d) k)) h
    ≡ (meets_again (reached_in w n b d) h || meets_again (reached w (n + 1) k)
    (noted (reached_in w n b d) h))
met-before w n b d k h = ap (λ xs. meets_again xs h) (reached-before w n b d k)
    ∙ met-append (reached_in w n b d) (reached w (n + 1) k) h

-- ---- the same, taken out
pub length-released : (ns : List ℕ) (h : List Holder) → length (released ns h) ≡ length h
length-released [] h = refl
length-released (n ∷ ns) h = length-released ns (slice_set h n Nobody) ∙ length-put h n Nobody

released-append : (ms ns : List ℕ) (h : List Holder)
    → released (ms ++ ns) h ≡ released ns (released ms h)
released-append [] ns h = refl
released-append (m ∷ ms) ns h = released-append ms ns (slice_set h m Nobody)

pub released-before : (b : PortState) (d : Option Plugged) (k : Ports) (h : List Holder)
    → released (held_addresses (before (standing b d) k)) h ≡ released (held_addresses k)
    (released (held_in b d) h)
released-before b d k h =
    ap (λ ns. released ns h) (held-before b d k)
    ∙ released-append (held_in b d) (held_addresses k) h

-- ---- what stands at one address
abbrev pub all_joined : Holder → List IndexWay → Holder
all_joined x [] = x
all_joined x (w ∷ ws) = all_joined (joined_holder x w) ws

pub slice_set-at : (h : List Holder) (i n : ℕ) (x : Holder) → n < length h
    → slice_index_or (slice_set h i x) n Nobody ≡ (if i == n then x else slice_index_or h n Nobody)
slice_set-at [] i n x e = absurd (omega (arith, e))
slice_set-at (y ∷ h) zero zero x e = refl
slice_set-at (y ∷ h) zero (suc n) x e = let f : (0 == suc n) ≡ false = grind (arith, nat_tests) in
    rw f refl
slice_set-at (y ∷ h) (suc i) zero x e = let f : (suc i == 0) ≡ false = grind (arith, nat_tests) in
    rw f refl
slice_set-at (y ∷ h) (suc i) (suc n) x e = let f : (suc i == suc n) ≡ (i == n) =
    grind (arith, nat_tests) in rw f (slice_set-at h i n x (omega (arith, e)))

pub noted_at : (xs : NumberedWays) (h : List Holder) (n : ℕ) → n < length h
    → slice_index_or (noted xs h) n Nobody ≡ all_joined (slice_index_or h n Nobody) (paths_at n xs)
noted_at [] h n small = refl
noted_at (x ∷ xs) h n small =
    noted_at xs (with_one x h) n
    (subst (λ m. n < m) (sym (length-put h x.0 (joined_holder (slice_index_or h x.0 Nobody) x.1)))
    small)
    ∙ ap (λ y. all_joined y (paths_at n xs))
    (slice_set-at h x.0 n (joined_holder (slice_index_or h x.0 Nobody) x.1) small)
    ∙ split (x.0 == n) refl
  where
    split : (b : Bool) → (x.0 == n) ≡ b
        → all_joined (if b then joined_holder (slice_index_or h x.0 Nobody) x.1 else slice_index_or
        h n Nobody) (paths_at n xs)
        ≡ all_joined (slice_index_or h n Nobody) (if b then x.1 ∷ paths_at n xs else paths_at n xs)
    split true e = ap (λ m. all_joined (joined_holder (slice_index_or h m Nobody) x.1)
        (paths_at n xs)) (eqb-true x.0 n e)
    split false e = refl

several_stay : (ws : List IndexWay) → all_joined Several ws ≡ Several
several_stay [] = refl
several_stay (w ∷ ws) = several_stay ws

pub all_among : (ws : List IndexWay) → all_joined Nobody ws ≡ holder_among ws
all_among (None ∷ v ∷ ws) = several_stay ws
all_among (Some p ∷ v ∷ ws) = several_stay ws
all_among ws = refl

-- ---- the addresses
abbrev pub way_addresses : NumberedWays → List ℕ
way_addresses [] = []
way_addresses (x ∷ xs) = x.0 ∷ way_addresses xs

pub addresses-append : (xs ys : NumberedWays)
    → way_addresses (xs ++ ys) ≡ way_addresses xs ++ way_addresses ys
addresses-append [] ys = refl
addresses-append (x ∷ xs) ys = ap (λ l. x.0 ∷ l) (addresses-append xs ys)

pub held-reached : (w : IndexWay) (n : ℕ) (k : Ports) → way_addresses (reached w n k)
    ≡ held_addresses k
unfolding reached held_addresses
held-reached w n ended = refl
held-reached w n (vacant b k) = held-reached w (n + 1) k
held-reached w n (taken b s a k) = split b.enable (held-reached (path_below w n) 1 a)
    (held-reached w (n + 1) k)
  where
    split : (e : Bool) → way_addresses (reached (path_below w n) 1 a) ≡ held_addresses a
        → way_addresses (reached w (n + 1) k) ≡ held_addresses k
        → way_addresses (if e then (s.registers.address, path_below w n) ∷
        (reached (path_below w n) 1 a ++ reached w (n + 1) k) else reached w (n + 1) k)
        ≡ (if e then s.registers.address ∷ (held_addresses a ++ held_addresses k)
        else held_addresses k)
    split true below behind =
        ap (λ l. s.registers.address ∷ l)
        (addresses-append (reached (path_below w n) 1 a) (reached w (n + 1) k)
        ∙ ap (λ l. l ++ way_addresses (reached w (n + 1) k)) below
        ∙ ap (λ l. held_addresses a ++ l) behind)
    split false below behind = behind

-- ---- which address is met again
abbrev pub marks_of : List Holder → List Bool
marks_of h = map is_known h

pub known_at : (h : List Holder) (n : ℕ)
    → slice_index_or (marks_of h) n false ≡ is_known (slice_index_or h n Nobody)
known_at (x ∷ h) (suc n) = known_at h n
known_at h n = refl

known_put : (h : List Holder) (n : ℕ) (x : Holder) → is_known x ≡ true
    → marks_of (slice_set h n x) ≡ slice_set (marks_of h) n true
known_put [] n x e = refl
known_put (y ∷ h) zero x e = ap (λ b. b ∷ marks_of h) e
known_put (y ∷ h) (suc n) x e = ap (λ l. is_known y ∷ l) (known_put h n x e)

joined_known : (x : Holder) (w : IndexWay) → is_known (joined_holder x w) ≡ true
joined_known Nobody None = refl
joined_known x w = refl

pub met_marks : (xs : NumberedWays) (h : List Holder)
    → meets_again xs h ≡ meets (way_addresses xs) (marks_of h)
met_marks [] h = refl
met_marks (x ∷ xs) h =
    ap (λ b. b || meets_again xs (with_one x h)) (sym (known_at h x.0))
    ∙ ap (λ b. slice_index_or (marks_of h) x.0 false || b)
    (met_marks xs (with_one x h) ∙ ap (λ m. meets (way_addresses xs) m)
    (known_put h x.0 (joined_holder (slice_index_or h x.0 Nobody) x.1)
    (joined_known (slice_index_or h x.0 Nobody) x.1)))

pub length-marks : (h : List Holder) → length (marks_of h) ≡ length h
length-marks [] = refl
length-marks (x ∷ h) = ap suc (length-marks h)

-- ---- the whole index
module _ (k : Ports) (h : List Holder) (all : length h ≡ 256) (none : AreNobody h)
    (bytes : AreBytes (held_addresses k)) where
  pub index_is : (m : List Holder) → m ≡ noted (all_reached k) h → IsIndex m k
  index_is m e n small =
      ap (λ l. slice_index_or l n Nobody) e
      ∙ noted_at (all_reached k) h n (subst (λ m. n < m) (sym all) small)
      ∙ ap (λ x. all_joined x (paths_at n (all_reached k))) (none n)
      ∙ all_among (paths_at n (all_reached k))

  pub shared_is : meets_again (all_reached k) h ≡ repeats (held_addresses k)
  shared_is =
      met_marks (all_reached k) h
      ∙ ap (λ l. meets l (marks_of h)) (held-reached _ 1 k)
      ∙ met_none_of (held_addresses k) (marks_of h) (length-marks h ∙ all) bytes (λ n. known_at h n
      ∙ ap is_known (none n))

pub ruleset indexing = (length-noted, index_is, shared_is)

-- ---- places that are cleared, one after the other
pub ruleset clearing = (slice_set-at)
