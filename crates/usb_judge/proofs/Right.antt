-- A listing is right exactly where no judgement stands.
use Rattle.std.proofs.Common.{◌≡◌, ◌⊎◌, inl, inr, ◌≤◌, ◌<◌, ℕ, List, refl, subst, arith}
use Rattle.std.proofs.Common.{true, false, Option, None, Some, is_some, IsSomeAnd}
use Rattle.std.specs.Prelude.{Contains, count_by, nat_lt}
use Rattle.std.specs.List.{list_any}
use Rattle.std.proofs.lemmas.Bool.{false≢true, both_ways, not-true, not-false, ltb-false, le-ltb}
use Rattle.std.proofs.lemmas.Bool.{eqb-true, cases_lt, and_parts, and_from, not_from_false}
use Rattle.std.proofs.lemmas.Bool.{false_from_ne_true, true_from_ne_false}
use Rattle.std.proofs.lemmas.Slice.Eq.{bytes_eq-Decides}
use Rattle.usb_judge.specs.declared.listed.Claim.{Claim}
use Rattle.usb_judge.specs.declared.listed.Claim.TheVariants.{Device, Refused}
use Rattle.usb_judge.specs.declared.listed.ListedPort.{ListedPort}
use Rattle.usb_judge.specs.declared.judgement.Cause.{Cause}
use Rattle.usb_judge.specs.declared.judgement.Cause.TheVariants as cause
use Rattle.usb_judge.specs.{Scene, Seen, breaks, claims_address, gives_address, is_listed_at}
use Rattle.usb_judge.specs.{is_open, shares_address, IsRight, IsRightOf, IsWrongFor}
use Rattle.usb_judge.specs.{LacksDevice, Stands}
use Rattle.usb_judge.proofs.Membership.{Passes, contains_from, counted}
use Rattle.usb_judge.proofs.Told.{stands_wrong}
use Rattle.usb_judge.proofs.Parts.{BreaksNone, right_from_tests, unbroken}

abbrev pub NoneStands : Scene → List ListedPort → Type 0
NoneStands scene listing = (path : List ℕ) (c : Cause) → Stands scene listing path c → ⊥

unbroken_by : (scene : Scene) (listing : List ListedPort) → NoneStands scene listing
    → (port : ListedPort) → Contains listing port → (c : Cause)
    → breaks scene listing port c ≡ false
unbroken_by scene listing none port has c = false_from_ne_true _ (λ (b : _ ≡ true).
    none port.path c (stands_wrong scene listing port.path c (record {
      port = port;
      listed = has;
      at = refl;
      broken = b;
    })))

once_by : (scene : Scene) (listing : List ListedPort) (path : List ℕ) → NoneStands scene listing
    → (1 < count_by (is_listed_at path) listing) ⊎ (count_by (is_listed_at path) listing ≤ 1)
    → count_by (is_listed_at path) listing ≤ 1
once_by scene listing path none (inr few) = few
once_by scene listing path none (inl many) =
    let p : Passes (is_listed_at path) listing =
    counted (is_listed_at path) listing (omega (arith, many)) in
    ltb-false _ _ (subst (λ (q : List ℕ). nat_lt 1 (count_by (is_listed_at q) listing) ≡ false)
    ((bytes_eq-Decides p.element.path path).0 p.yes)
    (unbroken_by scene listing none p.element (contains_from listing p.element p.has) cause.Twice))

shared_by : (listing : List ListedPort) (claim : Claim) (address : ℕ)
    → gives_address address claim ≡ true → shares_address listing claim ≡ false
    → count_by (claims_address address) listing ≤ 1
shared_by listing (Device listed) address gives single = ltb-false _ _
    (subst (λ (a : ℕ). nat_lt 1 (count_by (claims_address a) listing) ≡ false)
    (eqb-true listed.address address gives) single)
shared_by listing Refused address gives single = absurd (false≢true gives)

alone_by : (scene : Scene) (listing : List ListedPort) (address : ℕ) → NoneStands scene listing
    → (1 < count_by (claims_address address) listing)
    ⊎ (count_by (claims_address address) listing ≤ 1)
    → count_by (claims_address address) listing ≤ 1
alone_by scene listing address none (inr few) = few
alone_by scene listing address none (inl many) =
    let p : Passes (claims_address address) listing =
    counted (claims_address address) listing (omega (arith, many)) in
    shared_by listing p.element.claim address p.yes (unbroken_by scene listing none p.element
    (contains_from listing p.element p.has) cause.SameAddress)

tests_pass : (scene : Scene) (listing : List ListedPort) → NoneStands scene listing
    → (port : ListedPort) → Contains listing port → BreaksNone (scene port.path) port.claim
tests_pass scene listing none port has =
    let ok : (c : Cause) → breaks scene listing port c ≡ false =
    unbroken_by scene listing none port has in
    record {
      disabled = ok cause.Disabled;
      descriptor = ok cause.OtherDescriptor;
      speed = ok cause.OtherSpeed;
      address = ok cause.OtherAddress;
      configuration = ok cause.OtherConfiguration;
      ports = ok cause.OtherPorts;
      power = ok cause.TooMuchPower;
      left = ok cause.LeftEnabled;
    }

pub right_from : (scene : Scene) (listing : List ListedPort) → NoneStands scene listing
    → IsRight scene listing
right_from scene listing none = record {
  there = λ (port : ListedPort) (has : Contains listing port).
      right_from_tests (scene port.path) port.claim
      (not-false _ (unbroken_by scene listing none port has cause.NotPlugged))
      (tests_pass scene listing none port has);
  hubs = λ (port : ListedPort) (has : Contains listing port).
      not-false _ (unbroken_by scene listing none port has cause.NoHub);
  each = λ (path : List ℕ) (some : is_some (scene path) ≡ true)
      (shown : is_open listing path ≡ true). true_from_ne_false _
      (λ (left : list_any (is_listed_at path) listing ≡ false). none path cause.Missing
      (record { plugged = some; missing = and_from _ _ shown (not_from_false _ left) }));
  once = λ (path : List ℕ). once_by scene listing path none (cases_lt _ _);
  alone = λ (address : ℕ). alone_by scene listing address none (cases_lt _ _);
}

-- Where it is right

some_of : (o : Option Seen) (claim : Claim) → IsSomeAnd o (IsRightOf claim) → is_some o ≡ true
some_of None claim r = absurd r
some_of (Some seen) claim r = refl

shares_none : (listing : List ListedPort) (claim : Claim)
    → ((address : ℕ) → count_by (claims_address address) listing ≤ 1)
    → shares_address listing claim ≡ true → ⊥
shares_none listing (Device listed) alone h =
    both_ways _ (le-ltb _ _ (alone listed.address)) h
shares_none listing Refused alone h = false≢true h

lacks_none : (scene : Scene) (listing : List ListedPort) (path : List ℕ) → IsRight scene listing
    → LacksDevice scene listing path → ⊥
lacks_none scene listing path r l =
    let both : (is_open listing path ≡ true) × (_ ≡ true) = and_parts _ _ l.missing in
    both_ways _ (not-true _ both.1) (r.each path l.plugged both.0)

port_unbroken : (scene : Scene) (listing : List ListedPort) (port : ListedPort) (c : Cause)
    → IsRight scene listing → Contains listing port → breaks scene listing port c ≡ true → ⊥
port_unbroken scene listing port cause.Twice r has h =
    both_ways _ (le-ltb _ _ (r.once port.path)) h
port_unbroken scene listing port cause.NotPlugged r has h = both_ways _ (not-true _ h)
    (some_of (scene port.path) port.claim (r.there port has))
port_unbroken scene listing port cause.NoHub r has h = both_ways _ (not-true _ h) (r.hubs port has)
port_unbroken scene listing port cause.SameAddress r has h =
    shares_none listing port.claim r.alone h
port_unbroken scene listing port cause.Missing r has h = false≢true h
port_unbroken scene listing port other r has h =
    unbroken (scene port.path) port.claim other (r.there port has) h

wrong_none : (scene : Scene) (listing : List ListedPort) (path : List ℕ) (c : Cause)
    → IsRight scene listing → IsWrongFor scene listing path c → ⊥
wrong_none scene listing path c r w =
    port_unbroken scene listing w.port c r w.listed w.broken

pub none_from : (scene : Scene) (listing : List ListedPort) → IsRight scene listing
    → NoneStands scene listing
none_from scene listing r path cause.Missing s = lacks_none scene listing path r s
none_from scene listing r path other s = wrong_none scene listing path other r s
