-- Each device is found once.
use Rattle.std.proofs.Common.{◌≡◌, ◌⊎◌, inl, inr, ◌<◌, ℕ, ◌+◌, List, [], ◌∷◌, ◌++◌}
use Rattle.std.proofs.Common.{Option, None, Some, refl, ap, sym, ◌∙◌, subst, slice_get}
use Rattle.std.proofs.Common.{is_some, arith, length, option_map}
use Rattle.std.specs.Prelude.{All}
use Rattle.std.proofs.lemmas.List.{same_from_push}
use Rattle.std.proofs.lemmas.List.Elements.{All-append, All-weaker}
use Rattle.std.proofs.lemmas.Option.{same_Some, slice_get_within}
use Rattle.usb_device.specs.{Ports}
use Rattle.usb_judge.specs.declared.plugged.PluggedDevice.{PluggedDevice}
use Rattle.usb_verdict.specs.{AddsPorts, IsOnPort, IsSeen, ListsOnce}
use Rattle.usb_verdict.proofs.Places.{Apart, all_at, get_kept, once_joined}
use Rattle.usb_verdict.proofs.Found.{NamesPort, Walked, names_from, plugged_named, walk_begun}
use Rattle.usb_verdict.proofs.Found.{walk_next}

-- one of the first devices has the path
record Among (count : ℕ) (found : List PluggedDevice) (path : List ℕ) : Type 0 where
  place : ℕ
  device : PluggedDevice
  low : place < count
  at : slice_get found place ≡ Some device
  is : device.path ≡ path

-- the device is on a port of the root, or of one of the first devices
pub record IsBelow (count : ℕ) (found : List PluggedDevice) (d : PluggedDevice) : Type 0 where
  above : List ℕ
  number : ℕ
  is : d.path ≡ above ++ number ∷ []
  hub : (above ≡ []) ⊎ Among count found above

-- the ports of the first devices were looked at, and each device was found there once
pub record WalkedOnce (roots : Ports) (count : ℕ) (found : List PluggedDevice) : Type 0 where
  pub walked : Walked roots count found
  pub once : ListsOnce found
  pub below : All (IsBelow count found) found

pub once_begun : (roots : Ports) (found : List PluggedDevice)
    → AddsPorts roots [] 16 [] found → WalkedOnce roots 0 found
once_begun roots found a = record {
  walked = walk_begun roots found a;
  once = subst ListsOnce (sym a.joined) a.once;
  below = subst (λ (xs : List PluggedDevice). All (IsBelow 0 found) xs) (sym a.joined)
      (All-weaker (IsOnPort [] 16) (IsBelow 0 found)
      (λ (d : PluggedDevice) (on : IsOnPort [] 16 d). record {
        above = [];
        number = on.0;
        is = on.2;
        hub = inl refl;
      }) a.more a.here);
}

-- what was found stays below what it is below
hub_kept : (i : ℕ) (found more new : List PluggedDevice) (above : List ℕ) → new ≡ found ++ more
    → i < length found → (above ≡ []) ⊎ Among i found above
    → (above ≡ []) ⊎ Among (i + 1) new above
hub_kept i found more new above joined inside (inl root) = inl root
hub_kept i found more new above joined inside (inr hub) = inr (record {
  place = hub.place;
  device = hub.device;
  low = omega (arith, hub.low);
  at = ap (λ (xs : List PluggedDevice). slice_get xs hub.place) joined
      ∙ get_kept found more hub.place (omega (arith, hub.low, inside)) ∙ hub.at;
  is = hub.is;
})

below_kept : (i : ℕ) (found more new : List PluggedDevice) → new ≡ found ++ more
    → i < length found → All (IsBelow i found) found → All (IsBelow (i + 1) new) found
below_kept i found more new joined inside all =
    All-weaker (IsBelow i found) (IsBelow (i + 1) new)
    (λ (d : PluggedDevice) (b : IsBelow i found d). record {
      above = b.above;
      number = b.number;
      is = b.is;
      hub = hub_kept i found more new b.above joined inside b.hub;
    }) found all

below_hub : (i : ℕ) (hub : PluggedDevice) (found more new : List PluggedDevice)
    → new ≡ found ++ more → slice_get found i ≡ Some hub → All (IsOnPort hub.path 16) more
    → All (IsBelow (i + 1) new) more
below_hub i hub found more new joined at all =
    All-weaker (IsOnPort hub.path 16) (IsBelow (i + 1) new)
    (λ (d : PluggedDevice) (on : IsOnPort hub.path 16 d). record {
      above = hub.path;
      number = on.0;
      is = on.2;
      hub = inr (record {
        place = i;
        device = hub;
        low = omega arith;
        at = ap (λ (xs : List PluggedDevice). slice_get xs i) joined
            ∙ get_kept found more i (slice_get_within found i hub at) ∙ at;
        is = refl;
      });
    }) more all

-- a hub is not the root, and none of the devices before it
not_before : (roots : Ports) (i : ℕ) (hub : PluggedDevice) (found : List PluggedDevice)
    (above : List ℕ) → WalkedOnce roots i found → slice_get found i ≡ Some hub
    → above ≡ hub.path → (above ≡ []) ⊎ Among i found above → ⊥
not_before roots i hub found above w at same (inl root) =
    let seen : IsSeen roots hub = all_at (IsSeen roots) found i hub w.walked.seen at in
    let named : NamesPort hub.path =
    names_from hub.path (plugged_named roots hub.path (ap is_some seen)) in
    omega (arith, named.least, ap length (sym same ∙ root))
not_before roots i hub found above w at same (inr other) = omega (
  arith,
  other.low,
  w.once other.place i other.device hub other.at at (other.is ∙ same),
)

-- so what is on its ports was not found yet
hub_apart : (roots : Ports) (i : ℕ) (hub : PluggedDevice) (found more : List PluggedDevice)
    → WalkedOnce roots i found → slice_get found i ≡ Some hub
    → All (IsOnPort hub.path 16) more → Apart found more
hub_apart roots i hub found more w at all j k a b old new same =
    let below : IsBelow i found a = all_at (IsBelow i found) found j a w.below old in
    let on : IsOnPort hub.path 16 b = all_at (IsOnPort hub.path 16) more k b all new in
    not_before roots i hub found below.above w at
    (same_from_push below.above hub.path below.number on.0 (sym below.is ∙ same ∙ on.2)).0 below.hub

once_next : (roots : Ports) (i : ℕ) (hub : PluggedDevice) (found new : List PluggedDevice)
    → WalkedOnce roots i found → slice_get found i ≡ Some hub
    → AddsPorts roots hub.path 16 found new → WalkedOnce roots (i + 1) new
once_next roots i hub found new w at a = record {
  walked = walk_next roots i hub found new w.walked at a;
  once = subst ListsOnce (sym a.joined) (once_joined found a.more w.once a.once
      (hub_apart roots i hub found a.more w at a.here));
  below = subst (λ (xs : List PluggedDevice). All (IsBelow (i + 1) new) xs) (sym a.joined)
      (All-append (IsBelow (i + 1) new) found a.more
      (below_kept i found a.more new a.joined (slice_get_within found i hub at) w.below)
      (below_hub i hub found a.more new a.joined at a.here));
}

once_by : (roots : Ports) (i : ℕ) (o : Option PluggedDevice) (above : List ℕ)
    (found new : List PluggedDevice) → WalkedOnce roots i found → slice_get found i ≡ o
    → Some above ≡ option_map (λ d. d.path) o → AddsPorts roots above 16 found new
    → WalkedOnce roots (i + 1) new
once_by roots i None above found new w at is a = absurd (cc)
once_by roots i (Some d) above found new w at is a = once_next roots i d found new w at
    (subst (λ (p : List ℕ). AddsPorts roots p 16 found new) (same_Some above d.path is) a)

pub once_on : (roots : Ports) (i : ℕ) (above : List ℕ) (found new : List PluggedDevice)
    → WalkedOnce roots i found → Some above ≡ option_map (λ d. d.path) (slice_get found i)
    → AddsPorts roots above 16 found new → WalkedOnce roots (i + 1) new
once_on roots i above found new w is a =
    once_by roots i (slice_get found i) above found new w refl is a
