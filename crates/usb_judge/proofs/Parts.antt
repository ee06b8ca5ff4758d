-- The tests of what is said of a device decide what is right of it.
use mathlib.Core.Bool.{beq}
use Rattle.std.proofs.Common.{◌≡◌, ◌⊎◌, inl, inr, ◌≤◌, ◌==◌, ℕ, zero, suc, List}
use Rattle.std.proofs.Common.{length, drop, refl, arith, Bool, true, false}
use Rattle.std.proofs.Common.{not, Option, None, Some, is_some, IfSome, IsSomeAnd}
use Rattle.std.specs.Global.{Vec}
use Rattle.std.specs.Prelude.{nat_lt}
use Rattle.std.proofs.lemmas.Bool.{false≢true, true≢false, both_ways, not-true, not-false}
use Rattle.std.proofs.lemmas.Bool.{ltb-false, leb-true, eqb-true, eq-eqb, le-ltb, le-leb}
use Rattle.std.proofs.lemmas.Bool.{and_parts, and_cases, and_from, or_parts, or_cases}
use Rattle.std.proofs.lemmas.Bool.Decides.{Decides-eqb}
use Rattle.std.proofs.lemmas.Slice.Eq.{bytes_eq-Decides, starts_is}
use Rattle.usb_judge.specs.declared.listed.Claim.{Claim}
use Rattle.usb_judge.specs.declared.listed.Claim.TheVariants.{Device, Refused}
use Rattle.usb_judge.specs.declared.listed.ListedDevice.{ListedDevice}
use Rattle.usb_judge.specs.declared.judgement.Cause.{Cause}
use Rattle.usb_judge.specs.declared.judgement.Cause.TheVariants as cause
use Rattle.usb_judge.specs.{Seen, breaks_device, breaks_refusal, breaks_seen, exceeds, is_front}
use Rattle.usb_judge.specs.{is_other_number, is_own_front, need_in, IsFrontOf, IsSo, IsPowered}
use Rattle.usb_judge.specs.{IsAside, IsRightOf}

same_beq : (a b : Bool) → a ≡ b → beq a b ≡ true
same_beq true true e = refl
same_beq true false e = absurd (true≢false e)
same_beq false true e = absurd (false≢true e)
same_beq false false e = refl

beq_same : (a b : Bool) → beq a b ≡ true → a ≡ b
beq_same true true e = refl
beq_same true false e = absurd (false≢true e)
beq_same false true e = absurd (false≢true e)
beq_same false false e = refl

positive : (n : ℕ) → (n == 0) ≡ false → 1 ≤ n
positive zero h = absurd (true≢false h)
positive (suc n) h = omega arith

-- The front of a configuration

front_from : (said own : List ℕ) → is_front said own ≡ true → IsFrontOf said own
front_from said own h =
    let both : (_ ≡ true) × (_ ≡ true) = and_parts _ _ h in
    record {
      least = leb-true _ _ both.0;
      rest = drop (length said) own;
      goes_on = (starts_is Decides-eqb own said _ refl).0 both.1;
    }

front_into : (said own : List ℕ) → IsFrontOf said own → is_front said own ≡ true
front_into said own f = and_from _ _ (le-leb _ _ f.least)
    ((starts_is Decides-eqb own said _ refl).1 f.rest f.goes_on)

own_from : (said : Option (Vec ℕ)) (own : Option (List ℕ)) → is_own_front said own ≡ true
    → IfSome said (λ s. IsSomeAnd own (IsFrontOf s.items))
own_from None own h = tt
own_from (Some said) None h = absurd (false≢true h)
own_from (Some said) (Some own) h = front_from said.items own h

own_into : (said : Option (Vec ℕ)) (own : Option (List ℕ))
    → IfSome said (λ s. IsSomeAnd own (IsFrontOf s.items)) → is_own_front said own ≡ true
own_into None own f = refl
own_into (Some said) None f = absurd f
own_into (Some said) (Some own) f = front_into said.items own f

-- The number of ports, and the power

number_from : (said : Option ℕ) (ports : ℕ) → is_other_number said ports ≡ false
    → IfSome said (λ n. n ≡ ports)
number_from None ports h = tt
number_from (Some said) ports h = eqb-true _ _ (not-false _ h)

number_into : (said : Option ℕ) (ports : ℕ) → IfSome said (λ n. n ≡ ports)
    → is_other_number said ports ≡ true → ⊥
number_into None ports f h = false≢true h
number_into (Some said) ports f h = both_ways _ (not-true _ h) (eq-eqb _ _ f)

below_by : (reached : Bool) (supply need : ℕ)
    → (reached ≡ false) ⊎ (nat_lt supply need ≡ false) → reached ≡ true → need ≤ supply
below_by reached supply need (inl off) on = absurd (both_ways reached off on)
below_by reached supply need (inr h) on = ltb-false _ _ h

power_from : (reached : Bool) (text : Option (List ℕ)) (supply : ℕ)
    → exceeds reached text supply ≡ false → reached ≡ true
    → IfSome text (λ t. need_in t ≤ supply)
power_from reached None supply h on = tt
power_from reached (Some text) supply h on =
    below_by reached supply (need_in text) (and_cases _ _ h) on

power_into : (reached : Bool) (text : Option (List ℕ)) (supply : ℕ)
    → (reached ≡ true → IfSome text (λ t. need_in t ≤ supply))
    → exceeds reached text supply ≡ true → ⊥
power_into reached None supply f h = false≢true h
power_into reached (Some text) supply f h =
    let both : (reached ≡ true) × (_ ≡ true) = and_parts _ _ h in
    both_ways _ (le-ltb _ _ (f both.0)) both.1

aside_by : (reached : Bool) (address : ℕ) → (reached ≡ false) ⊎ ((address == 0) ≡ false)
    → reached ≡ true → 1 ≤ address
aside_by reached address (inl off) on = absurd (both_ways reached off on)
aside_by reached address (inr h) on = positive address h

-- A claim

-- no cause breaks it
pub record BreaksNone (o : Option Seen) (claim : Claim) : Type 0 where
  pub disabled : breaks_seen o claim cause.Disabled ≡ false
  pub descriptor : breaks_seen o claim cause.OtherDescriptor ≡ false
  pub speed : breaks_seen o claim cause.OtherSpeed ≡ false
  pub address : breaks_seen o claim cause.OtherAddress ≡ false
  pub configuration : breaks_seen o claim cause.OtherConfiguration ≡ false
  pub ports : breaks_seen o claim cause.OtherPorts ≡ false
  pub power : breaks_seen o claim cause.TooMuchPower ≡ false
  pub left : breaks_seen o claim cause.LeftEnabled ≡ false

so_from : (seen : Seen) (listed : ListedDevice) → BreaksNone (Some seen) (Device listed)
    → IsSo listed seen
so_from seen listed b =
    let either : ((listed.address == 0) ≡ false) × (not (listed.address == seen.address) ≡ false) =
    or_parts _ _ b.address in
    record {
      enabled = not-false _ b.disabled;
      descriptor = (bytes_eq-Decides _ _).0 (not-false _ b.descriptor);
      speed = beq_same _ _ (not-false _ b.speed);
      address = eqb-true _ _ (not-false _ either.1);
      given = positive _ either.0;
      configuration = own_from _ _ (not-false _ b.configuration);
      ports = number_from _ _ b.ports;
    }

pub right_from_tests : (o : Option Seen) (claim : Claim) → is_some o ≡ true → BreaksNone o claim
    → IsSomeAnd o (IsRightOf claim)
right_from_tests None claim some b = absurd (false≢true some)
right_from_tests (Some seen) (Device listed) some b = (
  so_from seen listed b,
  power_from seen.reached seen.configuration seen.supply b.power,
)
right_from_tests (Some seen) Refused some b = (
  aside_by seen.reached seen.address (and_cases _ _ b.left),
  power_from seen.reached seen.configuration seen.supply b.power,
)

address_broken : (said own : ℕ) → said ≡ own → 1 ≤ said
    → ((said == 0) ≡ true) ⊎ (not (said == own) ≡ true) → ⊥
address_broken said own same given (inl h) = omega (arith, given, eqb-true said 0 h)
address_broken said own same given (inr h) = both_ways _ (not-true _ h) (eq-eqb _ _ same)

device_unbroken : (seen : Seen) (listed : ListedDevice) (c : Cause) → IsSo listed seen
    → IsPowered seen → breaks_device seen listed c ≡ true → ⊥
device_unbroken seen listed cause.Disabled s p h = both_ways _ (not-true _ h) s.enabled
device_unbroken seen listed cause.OtherDescriptor s p h =
    both_ways _ (not-true _ h) ((bytes_eq-Decides _ _).1 s.descriptor)
device_unbroken seen listed cause.OtherSpeed s p h =
    both_ways _ (not-true _ h) (same_beq _ _ s.speed)
device_unbroken seen listed cause.OtherAddress s p h =
    address_broken _ _ s.address s.given (or_cases _ _ h)
device_unbroken seen listed cause.OtherConfiguration s p h =
    both_ways _ (not-true _ h) (own_into _ _ s.configuration)
device_unbroken seen listed cause.OtherPorts s p h = number_into _ _ s.ports h
device_unbroken seen listed cause.TooMuchPower s p h =
    power_into seen.reached seen.configuration seen.supply p h
device_unbroken seen listed other s p h = false≢true h

refusal_unbroken : (seen : Seen) (c : Cause) → IsAside seen → IsPowered seen
    → breaks_refusal seen c ≡ true → ⊥
refusal_unbroken seen cause.TooMuchPower a p h =
    power_into seen.reached seen.configuration seen.supply p h
refusal_unbroken seen cause.LeftEnabled a p h =
    let both : (seen.reached ≡ true) × ((seen.address == 0) ≡ true) = and_parts _ _ h in
    omega (arith, a both.0, eqb-true seen.address 0 both.1)
refusal_unbroken seen other a p h = false≢true h

pub unbroken : (o : Option Seen) (claim : Claim) (c : Cause) → IsSomeAnd o (IsRightOf claim)
    → breaks_seen o claim c ≡ true → ⊥
unbroken None claim c r h = r
unbroken (Some seen) (Device listed) c r h = device_unbroken seen listed c r.0 r.1 h
unbroken (Some seen) Refused c r h = refusal_unbroken seen c r.0 r.1 h
