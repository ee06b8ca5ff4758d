-- That ports are sane, or a device as the rules say, is one fact: it has one proof at most.
use mathlib.Core.Path.{◌≡◌, refl, sym, ap, ◌∙◌}
use mathlib.Core.HLevel.{collapsible→set}
use mathlib.Core.Bool.{Bool-set}
use native.Mathlib.Nat.{ℕ_set}
use denote.Struct.Props.{props}
use Rattle.std.specs.Prelude.{ℕ, zero, suc, ◌≤◌, List, length, Option, None, Some, All}
use Rattle.std.specs.Option.{IfSome}
use Rattle.usb_device.specs.{Hub, IsHub, Spec, IsSpec, Ports, ended, vacant, taken, row_of}
use Rattle.usb_port.specs.{PortState, Attached, nothing, full, low}
use Rattle.usb_world.specs.PluggedDevices.{hub_ports}
use Rattle.usb_world.specs.SanePorts.{IsSanePort, Consistent}

-- what is attached, as a number and back
attached_number : Attached → ℕ
attached_number nothing = 0
attached_number full = 1
attached_number low = 2

attached_numbered : ℕ → Attached
attached_numbered zero = nothing
attached_numbered (suc zero) = full
attached_numbered (suc (suc n)) = low

back : (x : Attached) → attached_numbered (attached_number x) ≡ x
unfolding attached_number attached_numbered
back nothing = refl
back full = refl
back low = refl

Attached-set : IsSet Attached
Attached-set = collapsible→set (λ x y p. sym (back x) ∙ ap attached_numbered (ap attached_number p)
    ∙ back y)
    (λ x y p q. ap (λ z. sym (back x) ∙ ap attached_numbered z ∙ back y)
    (ℕ_set (attached_number x) (attached_number y) (ap attached_number p)
    (ap attached_number q)))

IsSanePort-prop : (b : PortState) → IsProp (IsSanePort b)
IsSanePort-prop b x y = λ i. record {
  enabled = λ g. Bool-set _ _ (x.enabled g) (y.enabled g) i;
  changed = λ g. Bool-set _ _ (x.changed g) (y.changed g) i;
  steady =
      Bool-set _ _ x.steady y.steady i;
}

IsHub-prop : (h : Hub) → IsProp (IsHub h)
IsHub-prop h x y =
    let least : IsProp (1 ≤ h.ports) = hlevel props in
    let most : IsProp (h.ports ≤ 15) = hlevel props in
    λ i. record {
      least = least x.least y.least i;
      most = most x.most y.most i;
      agree =
          Bool-set _ _ x.agree y.agree i;
    }

each_prop : {X : Type 0} {P : X → Type 0} → ((x : X) → IsProp (P x)) → (o : Option X)
    → IsProp (IfSome o P)
each_prop is None x y = λ i. tt
each_prop is (Some z) x y = is z x y

pub all_prop : {X : Type 0} {P : X → Type 0} → ((x : X) → IsProp (P x)) → (xs : List X)
    → IsProp (All P xs)
all_prop is xs x y = λ i k d lt. is _ (x k d lt) (y k d lt) i

pub IsSpec-prop : (s : Spec) → IsProp (IsSpec s)
IsSpec-prop s x y =
    let most : (m n : ℕ) → IsProp (m ≤ n) = λ m n. hlevel props in
    λ i. record {
      naks = most _ _ x.naks y.naks i;
      fits = Bool-set _ _ x.fits y.fits i;
      hub = each_prop IsHub-prop s.hub x.hub y.hub i;
      configs = most _ _ x.configs y.configs i;
      texts = all_prop (λ text. most (length text) 65535) s.configs x.texts y.texts i;
      strings = most _ _ x.strings y.strings i;
      halt = each_prop (λ packets. most 1 packets) s.halt_after x.halt y.halt i;
      endpoints = most _ _ x.endpoints y.endpoints i;
      requests = most _ _ x.requests y.requests i;
    }

pub Consistent-prop : (k : Ports) → IsProp (Consistent k)
unfolding Consistent
Consistent-prop ended x y = λ i. tt
Consistent-prop (vacant b k) x y = λ i. (
  IsSanePort-prop b x.0 y.0 i,
  Attached-set _ _ x.1 y.1 i,
  Consistent-prop k x.2 y.2 i,
)
Consistent-prop (taken b s a k) x y = λ i. (
  IsSanePort-prop b x.0 y.0 i,
  Attached-set _ _ x.1 y.1 i,
  Consistent-prop a x.2 y.2 i,
  Consistent-prop k x.3 y.3 i,
  IsSpec-prop s.spec x.4 y.4 i,
  ℕ_set (length (row_of a)) (hub_ports s.spec.hub) x.5 y.5 i,
)
