-- The devices that hold an address, by their number and the first of them.
use Rattle.std.proofs.Common.{◌≡◌, ◌<◌, ◌≤◌, ℕ, List, [], ◌∷◌, length, refl, sym, ap, ◌∙◌, arith}
use Rattle.std.proofs.Common.{Bool, true, false, cond, Option, None, Some}
use Rattle.std.specs.Prelude.{count_by, filter, nat_lt}
use Rattle.std.specs.List.{find}
use Rattle.std.proofs.lemmas.Bool.{le-ltb, lt-ltb}
use Rattle.std.proofs.lemmas.List.Sums.{length-filter}
use Rattle.usb_world.specs.{destination_of}
use Rattle.usb_world.specs.declared.types.Attempt.{Attempt}
use Rattle.usb_judge.specs.declared.plugged.PluggedDevice.{PluggedDevice}
use Rattle.usb_judge.specs.declared.remark.Remark.{Remark}
use Rattle.usb_judge.specs.declared.remark.Remark.TheVariants as remark
use Rattle.usb_judge.specs.{holds, judged_at, judged_by}
use Rattle.usb_judge.specs.Holders.{judged}

abbrev pub first_of : {X : Type 0} → List X → Option X
first_of [] = None
first_of (x ∷ xs) = Some x

first_by : {X : Type 0} (p : X → Bool) (x : X) (xs : List X) (b : Bool)
    → find p xs ≡ first_of (filter p xs)
    → cond b (Some x) (find p xs) ≡ first_of (cond b (x ∷ filter p xs) (filter p xs))
first_by p x xs true more = refl
first_by p x xs false more = more

find-filter : {X : Type 0} (p : X → Bool) (xs : List X) → find p xs ≡ first_of (filter p xs)
find-filter p [] = refl
find-filter p (x ∷ xs) = first_by p x xs (p x) (find-filter p xs)

-- by the first device that holds the address
abbrev pub judged_first : Attempt → Option PluggedDevice → Option Remark
judged_first a None = Some remark.Nobody
judged_first a (Some d) = judged_at a d

-- by the number of them too
abbrev pub judged_found : Attempt → ℕ → Option PluggedDevice → Option Remark
judged_found a n o = cond (nat_lt 1 n) (Some remark.TwoDevices) (judged_first a o)

several : (a : Attempt) (o : Option PluggedDevice) (n : ℕ) → 1 < n
    → Some remark.TwoDevices ≡ judged_found a n o
several a o n h =
    ap (λ (b : Bool). cond b (Some remark.TwoDevices) (judged_first a o)) (sym (lt-ltb 1 n h))

by_list : (a : Attempt) (ds : List PluggedDevice)
    → judged_by a ds ≡ judged_found a (length ds) (first_of ds)
by_list a [] = refl
by_list a (d ∷ []) = refl
by_list a (d ∷ e ∷ more) = several a (Some d) (length (d ∷ e ∷ more)) (omega arith)

pub judged_by-filter : (a : Attempt) (p : PluggedDevice → Bool) (ds : List PluggedDevice)
    → judged_by a (filter p ds) ≡ judged_found a (count_by p ds) (find p ds)
judged_by-filter a p ds = by_list a (filter p ds)
    ∙ ap (λ (n : ℕ). judged_found a n (first_of (filter p ds))) (length-filter p ds)
    ∙ ap (λ (o : Option PluggedDevice). judged_found a (count_by p ds) o) (sym (find-filter p ds))

pub judged_several : (a : Attempt) (plugged : List PluggedDevice) (address n : ℕ)
    → address ≡ (destination_of a).address → n ≡ count_by (holds address) plugged
    → 1 < n → Some remark.TwoDevices ≡ judged plugged a
judged_several a plugged address n at number many =
    ap (λ (b : Bool). cond b (Some remark.TwoDevices)
    (judged_first a (find (holds address) plugged)))
    (sym (lt-ltb 1 n many))
    ∙ ap (λ (m : ℕ). judged_found a m (find (holds address) plugged)) number
    ∙ sym (judged_by-filter a (holds address) plugged)
    ∙ ap (λ (b : ℕ). judged_by a (filter (holds b) plugged)) at

judged_few : (a : Attempt) (plugged : List PluggedDevice) (address n : ℕ)
    (o : Option PluggedDevice) → address ≡ (destination_of a).address
    → n ≡ count_by (holds address) plugged → n ≤ 1
    → find (holds address) plugged ≡ o → judged_first a o ≡ judged plugged a
judged_few a plugged address n o at number few first =
    ap (λ (b : Bool). cond b (Some remark.TwoDevices) (judged_first a o)) (sym (le-ltb 1 n few))
    ∙ ap (λ (m : ℕ). judged_found a m o) number
    ∙ ap (λ (f : Option PluggedDevice). judged_found a (count_by (holds address) plugged) f)
    (sym first)
    ∙ sym (judged_by-filter a (holds address) plugged)
    ∙ ap (λ (b : ℕ). judged_by a (filter (holds b) plugged)) at

pub judged_one : (a : Attempt) (plugged : List PluggedDevice) (address n : ℕ) (d : PluggedDevice)
    → address ≡ (destination_of a).address → n ≡ count_by (holds address) plugged
    → n ≤ 1 → find (holds address) plugged ≡ Some d
    → judged_at a d ≡ judged plugged a
judged_one a plugged address n d at number few first =
    judged_few a plugged address n (Some d) at number few first

pub judged_none : (a : Attempt) (plugged : List PluggedDevice) (address n : ℕ)
    → address ≡ (destination_of a).address → n ≡ count_by (holds address) plugged
    → n ≤ 1 → find (holds address) plugged ≡ None
    → Some remark.Nobody ≡ judged plugged a
judged_none a plugged address n at number few first =
    judged_few a plugged address n None at number few first
