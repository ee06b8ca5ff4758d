-- What is told, in any order, is the verdict.
use Rattle.std.proofs.Common.{◌≡◌, ℕ, List, [], ◌∷◌, refl, sym, subst}
use Rattle.std.specs.Prelude.{Contains, IsPermutation}
use Rattle.std.proofs.lemmas.List.Sorted.{Contains-permutation, IsPermutation-sym}
use Rattle.usb_judge.specs.declared.listed.ListedPort.{ListedPort}
use Rattle.usb_judge.specs.declared.judgement.Cause.{Cause}
use Rattle.usb_judge.specs.declared.judgement.Judgement.{Judgement}
use Rattle.usb_judge.specs.declared.plugged.PluggedDevice.{PluggedDevice}
use Rattle.usb_judge.specs.{Scene, scene_in, IsRight, Judges, Stands, told}
use Rattle.usb_judge.specs.Verdicts.{judged}
use Rattle.usb_judge.proofs.Membership.{none_in, front_of}
use Rattle.usb_judge.proofs.Told.{told_stands, stands_told}
use Rattle.usb_judge.proofs.Right.{right_from, none_from}

none_told : (scene : Scene) (listing : List ListedPort) (js : List Judgement)
    → ((j : Judgement) → Contains js j → Stands scene listing j.path j.cause)
    → IsRight scene listing → js ≡ []
none_told scene listing [] stands r = refl
none_told scene listing (j ∷ js) stands r =
    absurd (none_from scene listing r j.path j.cause (stands j (front_of j js)))

empty_right : (scene : Scene) (listing : List ListedPort) (js : List Judgement)
    → ((j : Judgement) → Stands scene listing j.path j.cause → Contains js j)
    → js ≡ [] → IsRight scene listing
empty_right scene listing js told none = right_from scene listing
    (λ (path : List ℕ) (c : Cause) (s : Stands scene listing path c). none_in (judged path c)
    (subst (λ (xs : List Judgement). Contains xs (judged path c)) none (told (judged path c) s)))

pub judges : (plugged : List PluggedDevice) (listing : List ListedPort)
    (before js : List Judgement) → before ≡ told plugged listing → IsPermutation before js
    → Judges (scene_in plugged) listing js
judges plugged listing before js all moved =
    let stands : (j : Judgement) → Contains js j
    → Stands (scene_in plugged) listing j.path j.cause =
    λ (j : Judgement) (c : Contains js j). told_stands plugged listing j
    (subst (λ (xs : List Judgement). Contains xs j) all
    (Contains-permutation js before j (IsPermutation-sym before js moved) c)) in
    let each : (j : Judgement) → Stands (scene_in plugged) listing j.path j.cause
    → Contains js j =
    λ (j : Judgement) (s : Stands (scene_in plugged) listing j.path j.cause).
    Contains-permutation before js j moved
    (subst (λ (xs : List Judgement). Contains xs j) (sym all) (stands_told plugged listing j s)) in
    record {
      stands = stands;
      told = each;
      right = (
        empty_right (scene_in plugged) listing js each,
        none_told (scene_in plugged) listing js stands,
      );
    }
