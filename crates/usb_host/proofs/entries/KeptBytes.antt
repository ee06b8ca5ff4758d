-- Each entry is what an enumeration at its port gives, and a host keeps few bytes of each device.
use Rattle.std.proofs.Common.{◌≡◌, ◌∙◌, refl, sym, ap, subst, true, false, Bool, List, ℕ, [], not}
use Rattle.std.proofs.Common.{Some, ◌≤◌, ◌<◌, ◌*◌, ◌||◌, ◌∷◌, eqb, if◌then◌else◌, length, arith}
use Rattle.std.proofs.Common.{slice_index_or}
use Rattle.std.specs.Map.{lookup, keys_of}
use Rattle.std.specs.BTreeMap.{is_at, insert_entry}
use Rattle.usb_port.specs.{path_cmp, Addresses, HasAddresses, IsAddress}
use Rattle.usb_enum.specs.{Finding, HostOptions}
use Rattle.usb_table.specs.{Entries, KnownPort, has_at, is_at_or_below, known_port, without}
use Rattle.usb_table.specs.{finding_at, has_address}
use Rattle.usb_table.proofs.Interface.{path_tied}
use Rattle.usb_host.specs.{AreFound, IsFoundAt, Agrees, KeepsFew, kept_bytes, kept_in}
use Rattle.usb_host.proofs.entries.Agreements.{found_away, hub_away, is_at-outside, known_away}
use Rattle.usb_host.proofs.entries.Agreements.{known_entered, lookup-insert_entry_elsewhere}
use Rattle.usb_host.proofs.entries.Agreements.{lookup-without, shorter_apart}
use Rattle.usb_host.proofs.entries.Agreements.{lookup-insert_entry_here, one_when}
use Rattle.std.proofs.Math.Nat.{mul-le-mul_right, suc-mul}
use Rattle.std.proofs.lemmas.Bool.{eq-eqb, eqb-true, ne_eqb}
use Rattle.std.proofs.lemmas.List.Elements.{Contains-get_or, recursion_from_All}
use Rattle.std.proofs.lemmas.List.Sums.{sum_by-cons}
use Rattle.std.proofs.lemmas.Map.Keys.{IsDistinct-from_sorted}
use Rattle.std.proofs.lemmas.Map.Steps.{length-le_from_distinct_below}
use Rattle.std.proofs.lemmas.Map.Views.{lookup-from_Contains}
use Rattle.std.specs.Cmp.{eq_by_cmp_equiv}
use Rattle.std.specs.Cmp.Lexicographic.{nat_list_cmp_total}
use Rattle.std.specs.List.{All, AllByRecursion, IsDistinct, list_any}
use Rattle.std.specs.FinSet.{contains}
use Rattle.usb_enum.specs.declared.finding.Finding.TheVariants.{Device, Refused}
use Rattle.usb_host.specs.Accounts.{Accounts}
use Rattle.usb_host.proofs.entries.KindCounts.{of_kind, of_kind-cons}

-- Each entry is what an enumeration at its port gives.

pub found_none : {options : HostOptions} → AreFound options []
found_none = grind arith

kept : {options : HostOptions} (path : List ℕ) (es : Entries) (q : List ℕ) (g : Finding)
    (port : KnownPort) → AreFound options es
    → (b : Bool) → is_at_or_below q path ≡ b
    → lookup (is_at (path_cmp q)) (without path es) ≡ Some g
    → known_port q (without path es) ≡ Some port → IsFoundAt options q port g
kept path es q g port w true is found at =
    absurd (cc (lookup-without q path es (ap not is), found))
kept path es q g port w false is found at =
    w.each q g port (sym (lookup-without q path es (ap not is)) ∙ found)
    (sym (known_away q path es is) ∙ at)

pub found_without : {options : HostOptions} (path : List ℕ) (es : Entries) → AreFound options es
    → AreFound options (without path es)
found_without path es w = record {
  each = λ q g port found at. kept path es q g port w (is_at_or_below q path) refl found at;
}

module _ {options : HostOptions} (path : List ℕ) (f : Finding) {es : Entries}
    (away : has_at path es ≡ false)
    (own : (port : KnownPort) → known_port path es ≡ Some port → IsFoundAt options path port f)
    (w : AreFound options es) where
  entered : (q : List ℕ) (g : Finding) (port : KnownPort) (b : Bool) → is_at (path_cmp q) path ≡ b
      → lookup (is_at (path_cmp q)) (insert_entry path_cmp es path f) ≡ Some g
      → known_port q (insert_entry path_cmp es path f) ≡ Some port → IsFoundAt options q port g
  entered q g port true tie found at =
      let same : q ≡ path = path_tied q path tie in
      let is : f ≡ g = grind (arith, lookup-insert_entry_here) in
      let there : known_port path es ≡ Some port = grind (arith, known_entered, shorter_apart) in
      subst (λ r. IsFoundAt options r port g) (sym same)
      (subst (λ h. IsFoundAt options path port h) is (own port there))
  entered q g port false tie found at =
      let there = sym (lookup-insert_entry_elsewhere q path f es tie) ∙ found in
      w.each q g port there (sym (search (found_away, hub_away, is_at-outside, known_entered)) ∙ at)

  pub found_entered : AreFound options (insert_entry path_cmp es path f)
  found_entered = record {
    each = λ q g port found at. entered q g port (is_at (path_cmp q) path) refl found at;
  }

-- A host keeps few bytes of each device, and few of all.

-- Of each device

module _ (options : HostOptions) (es : Entries) (pool : Addresses) (agrees : Agrees options es pool)
    (most : ℕ) (is : options.device_bytes ≡ Some most) where
  pub kept_each : (path : List ℕ) (finding : Finding) → finding_at path es ≡ Some finding
      → kept_bytes finding ≤ most
  kept_each path finding at = grind arith

  -- each entry is found at its path
  kept_entries : AllByRecursion (λ e. kept_bytes e.1 ≤ most) es
  kept_entries = recursion_from_All (λ e. kept_bytes e.1 ≤ most) es here
    where
      here : All (λ (e : List ℕ × Finding). kept_bytes e.1 ≤ most) es
      here k d less =
          let e = slice_index_or es k d in
          kept_each e.0 e.1 (lookup-from_Contains (eq_by_cmp_equiv nat_list_cmp_total) e.0 e.1 es
          (IsDistinct-from_sorted path_cmp (keys_of es) agrees.rises)
          (Contains-get_or es k d less))

-- How many they are

-- the addresses of the accepted devices
addresses_in : Entries → List ℕ
addresses_in [] = []
addresses_in ((path, Device device) ∷ es) = device.address ∷ addresses_in es
addresses_in ((path, Refused cause) ∷ es) = addresses_in es

sum_most : (es : Entries) (most : ℕ) → AllByRecursion (λ e. kept_bytes e.1 ≤ most) es
    → kept_in es ≤ length (addresses_in es) * most
unfolding addresses_in
sum_most [] most each = omega arith
sum_most ((path, Device device) ∷ es) most each =
    omega (
      arith,
      each.0,
      sum_most es most each.1,
      suc-mul (length (addresses_in es)) most,
      sum_by-cons (λ (e : List ℕ × Finding). kept_bytes e.1) (path, Device device) es,
    )
sum_most ((path, Refused cause) ∷ es) most each =
    omega (
      arith,
      sum_most es most each.1,
      sum_by-cons (λ (e : List ℕ × Finding). kept_bytes e.1) (path, Refused cause) es,
    )

-- one of them is counted
counted : (es : Entries) (a : ℕ) → list_any (eqb a) (addresses_in es) ≡ true
    → 1 ≤ of_kind (has_address a) es
unfolding addresses_in has_address one_when
counted [] a is = absurd cc
counted ((path, Refused cause) ∷ es) a is =
    omega (arith, of_kind-cons (has_address a) (path, Refused cause) es, counted es a is)
counted ((path, Device device) ∷ es) a is = by (counted es a) (eqb a device.address) refl is
  where
    one_of : (b a : ℕ) → a ≡ b → one_when (eqb b a) ≡ 1
    one_of b a same = rw (eq-eqb b a (sym same)) refl

    by : (list_any (eqb a) (addresses_in es) ≡ true → 1 ≤ of_kind (has_address a) es)
        → (here : Bool) → eqb a device.address ≡ here
        → (here || list_any (eqb a) (addresses_in es)) ≡ true
        → 1 ≤ of_kind (has_address a) ((path, Device device) ∷ es)
    by rest true same found =
        let equal = eqb-true a device.address same in
        omega (
          arith,
          of_kind-cons (has_address a) (path, Device device) es,
          one_of device.address a equal,
        )
    by rest false other found = grind arith

-- where each address is one entry's at most, they differ
apart : (es : Entries) (a : ℕ) → of_kind (has_address a) es ≡ 0
    → AllByRecursion (λ b. eqb a b ≡ false) (addresses_in es)
unfolding addresses_in has_address one_when
apart [] a none = tt
apart ((path, Refused cause) ∷ es) a none =
    apart es a (grind arith)
apart ((path, Device device) ∷ es) a none = (
  ne_eqb a device.address (λ same. absurd (omega (
    arith,
    none,
    of_kind-cons (has_address a) (path, Device device) es,
    ap one_when (eq-eqb device.address a (sym same)),
  ))),
  apart es a (omega (arith, none, of_kind-cons (has_address a) (path, Device device) es)),
)

distinct : (es : Entries) → ((a : ℕ) → of_kind (has_address a) es ≤ 1)
    → IsDistinct eqb (addresses_in es)
unfolding addresses_in has_address one_when IsDistinct
distinct [] once = tt
distinct ((path, Refused cause) ∷ es) once =
    distinct es (grind arith)
distinct ((path, Device device) ∷ es) once =
    let a = device.address in (
      apart es a (omega (
        arith,
        once a,
        of_kind-cons (has_address a) (path, Device device) es,
        ap one_when (eq-eqb a a refl),
      )),
      distinct es
          (λ b. omega (arith, once b, of_kind-cons (has_address b) (path, Device device) es)),
    )

-- none of them is 0
not_zero : (xs : List ℕ) → ((b : ℕ) → list_any (eqb b) xs ≡ true → 1 ≤ b)
    → AllByRecursion (λ b. eqb 0 b ≡ false) xs
not_zero [] least = tt
not_zero (x ∷ xs) least = (
  ne_eqb 0 x (λ same. absurd (omega (
    arith,
    same,
    least x (search eq-eqb),
  ))),
  not_zero xs (grind arith),
)

module _ (es : Entries) (pool : Addresses) (accounts : Accounts es pool)
    (range : HasAddresses pool) where
  once : (a : ℕ) → of_kind (has_address a) es ≤ 1
  once a = pick (contains pool a) (accounts.each a)
    where
      pick : (b : Bool) → of_kind (has_address a) es ≡ (if b then 1 else 0)
          → of_kind (has_address a) es ≤ 1
      pick true is = omega (arith, is)
      pick false is = omega (arith, is)

  address : (a : ℕ) → list_any (eqb a) (addresses_in es) ≡ true → IsAddress a
  address a is = range a (pick (contains pool a) refl (accounts.each a))
    where
      pick : (b : Bool) → contains pool a ≡ b → of_kind (has_address a) es ≡ (if b then 1 else 0)
          → contains pool a ≡ true
      pick true same count = same
      pick false same count = absurd (omega (arith, count, counted es a is))

  low : (q : ℕ) (zero : Bool) → eqb q 0 ≡ zero
      → (zero || list_any (eqb q) (addresses_in es)) ≡ true → q < 128
  low q zero same found = grind (arith, address)

  few_addresses : length (addresses_in es) ≤ 127
  unfolding IsDistinct
  few_addresses =
      let most = length-le_from_distinct_below (0 ∷ addresses_in es) 128
      (not_zero (addresses_in es) (λ b is. (address b is).0), distinct es once) (search low) in
      omega (arith, most)

-- Of all

pub keeps_few : (options : HostOptions) (es : Entries) (pool : Addresses) → Agrees options es pool
    → KeepsFew options es
keeps_few options es pool agrees = record {
  each = search kept_each;
  all = λ most is.
      let sum = sum_most es most (kept_entries options es pool agrees most is) in
      let few = mul-le-mul_right most (few_addresses es pool agrees.accounts agrees.range) in
      omega (arith, sum, few);
}
