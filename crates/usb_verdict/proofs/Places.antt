-- The places of a list's elements, and lists that have each device once.
use Rattle.std.proofs.Common.{◌≡◌, ◌⊎◌, inl, inr, ◌<◌, ℕ, zero, suc, ◌+◌, List, [], ◌∷◌, ◌++◌}
use Rattle.std.proofs.Common.{Some, refl, sym, ◌∙◌, subst, slice_get, arith}
use Rattle.std.proofs.Common.{length}
use Rattle.std.proofs.lemmas.List.{append_cancel_left}
use Rattle.std.specs.Prelude.{All}
use Rattle.std.proofs.lemmas.List.Elements.{All-get_or}
use Rattle.std.proofs.lemmas.Option.{get_or_from_slice_get, none-some, slice_get_within}
use Rattle.usb_judge.specs.declared.plugged.PluggedDevice.{PluggedDevice}
use Rattle.usb_verdict.specs.{IsOnPort, ListsOnce}

pub all_at : (P : PluggedDevice → Type 0) (xs : List PluggedDevice) (i : ℕ) (x : PluggedDevice)
    → All P xs → slice_get xs i ≡ Some x → P x
all_at P xs i x all at = subst P (get_or_from_slice_get xs i x x at)
    (All-get_or P xs i x (slice_get_within xs i x at) all)

-- Two joined lists

pub get_kept : {X : Type 0} (xs ys : List X) (i : ℕ) → i < length xs
    → slice_get (xs ++ ys) i ≡ slice_get xs i
get_kept [] ys i h = absurd (omega (arith, h))
get_kept (x ∷ xs) ys zero h = refl
get_kept (x ∷ xs) ys (suc i) h = get_kept xs ys i (omega (arith, h))

-- a device has a place in the second list, behind so many of the first
record Behind (count : ℕ) (ys : List PluggedDevice) (i : ℕ) (d : PluggedDevice) : Type 0 where
  place : ℕ
  is : i ≡ count + place
  at : slice_get ys place ≡ Some d

one_more : (xs ys : List PluggedDevice) (x : PluggedDevice) (i : ℕ) (d : PluggedDevice)
    → (slice_get xs i ≡ Some d) ⊎ Behind (length xs) ys i d
    → (slice_get xs i ≡ Some d) ⊎ Behind (length (x ∷ xs)) ys (suc i) d
one_more xs ys x i d (inl at) = inl at
one_more xs ys x i d (inr b) = inr (record {
  place = b.place;
  is = omega (arith, b.is);
  at = b.at;
})

in_either : (xs ys : List PluggedDevice) (i : ℕ) (d : PluggedDevice)
    → slice_get (xs ++ ys) i ≡ Some d → (slice_get xs i ≡ Some d) ⊎ Behind (length xs) ys i d
in_either [] ys i d at = inr (record { place = i; is = omega arith; at = at })
in_either (x ∷ xs) ys zero d at = inl at
in_either (x ∷ xs) ys (suc i) d at = one_more xs ys x i d (in_either xs ys i d at)

-- Each device once

pub once_none : ListsOnce []
once_none i j a b at other same = absurd (none-some a at)

-- no device of the first list has the path of one of the second
abbrev pub Apart : List PluggedDevice → List PluggedDevice → Type 0
Apart xs ys = (i j : ℕ) (a b : PluggedDevice) → slice_get xs i ≡ Some a
    → slice_get ys j ≡ Some b → a.path ≡ b.path → ⊥

same_place : (xs ys : List PluggedDevice) → ListsOnce xs → ListsOnce ys → Apart xs ys
    → (i j : ℕ) (a b : PluggedDevice) → (slice_get xs i ≡ Some a) ⊎ Behind (length xs) ys i a
    → (slice_get xs j ≡ Some b) ⊎ Behind (length xs) ys j b → a.path ≡ b.path → i ≡ j
same_place xs ys once more apart i j a b (inl at) (inl other) same =
    once i j a b at other same
same_place xs ys once more apart i j a b (inl at) (inr other) same =
    absurd (apart i other.place a b at other.at same)
same_place xs ys once more apart i j a b (inr at) (inl other) same =
    absurd (apart j at.place b a other at.at (sym same))
same_place xs ys once more apart i j a b (inr at) (inr other) same = omega (
  arith,
  at.is,
  other.is,
  more at.place other.place a b at.at other.at same,
)

pub once_joined : (xs ys : List PluggedDevice) → ListsOnce xs → ListsOnce ys → Apart xs ys
    → ListsOnce (xs ++ ys)
once_joined xs ys once more apart i j a b at other =
    same_place xs ys once more apart i j a b (in_either xs ys i a at) (in_either xs ys j b other)

-- Two paths that end with a number

same_number : (p : List ℕ) (m n : ℕ) → p ++ m ∷ [] ≡ p ++ n ∷ [] → m ≡ n
same_number p m n e =
    let last : m ∷ [] ≡ n ∷ [] = append_cancel_left p (m ∷ []) (n ∷ []) e in
    cc

-- a port's number is none of those below it
pub ports_apart : (above : List ℕ) (m : ℕ) (xs ys : List PluggedDevice)
    → All (IsOnPort above m) xs → All (λ d. d.path ≡ above ++ m ∷ []) ys → Apart xs ys
ports_apart above m xs ys on here i j a b at other same =
    let port : IsOnPort above m a = all_at (IsOnPort above m) xs i a on at in
    let is : b.path ≡ above ++ m ∷ [] =
    all_at (λ (d : PluggedDevice). d.path ≡ above ++ m ∷ []) ys j b here other in
    let number : port.0 ≡ m = same_number above port.0 m (sym port.2 ∙ same ∙ is) in
    omega (arith, port.1, number)
