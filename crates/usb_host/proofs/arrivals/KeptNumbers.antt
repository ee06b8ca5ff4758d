-- Numbers are given once: devices keep theirs, and no two that are listed have the same.
use Rattle.usb_world.proofs.Interface.{decided, same_is}
use Rattle.std.proofs.Common.{◌≡◌, ◌∙◌, ap, arith, refl, ℕ, ◌+◌, ◌<◌, List, [], ◌∷◌, length, map}
use Rattle.std.proofs.Common.{get_or, set, ◌≢◌, ◌⊎◌, inl, inr, subst, sym, ◌≤◌, Ok, Bool, true}
use Rattle.std.proofs.Common.{false, Option, Some, None, get_or-set_other, get_or-set_same}
use Rattle.std.proofs.Common.{slice_index}
use Rattle.std.specs.List.{range_with_len}
use Rattle.std.proofs.lemmas.List.Edits.{fill_by_more}
use Rattle.std.proofs.lemmas.List.FromFn.{fill_by_all}
use Rattle.usb_host.specs.{AreNumbers, DeviceNumbers, first_numbers, Forgets, HostState, KeepsKnown}
use Rattle.usb_host.specs.{KeepsNumbers, Known, KnownDevice, OnlyBusSteps, device_in, known_device}
use Rattle.usb_host.specs.{known_in, claims, with_number, NumbersFit}
use Rattle.std.specs.BTreeMap.{insert_entry, is_at}
use Rattle.std.specs.Map.{lookup}
use Rattle.usb_port.specs.{path_cmp, Addresses, HasAddresses}
use Rattle.usb_enum.specs.{Accepted, Cause, Finding, TakesFor, HostOptions}
use Rattle.usb_enum.specs.declared.finding.Finding.TheVariants.{Device, Refused}
use Rattle.usb_table.specs.{Entries, accepted_device_at, accepted_device_of, address_in, without}
use Rattle.usb_table.proofs.Interface.{path_tied}
use Rattle.usb_host.specs.Accounts.{Accounts}
use Rattle.usb_host.proofs.entries.Agreements.{lookup-insert_entry_elsewhere, lookup-without}
use Rattle.usb_host.proofs.entries.Agreements.{claims_taken, lookup-insert_entry_here}
use Rattle.usb_host.proofs.entries.Agreements.{claims_distinct}

map_same : (xs : List ℕ) → map (λ k. k) xs ≡ xs
map_same [] = refl
map_same (x ∷ xs) = ap (λ ys. x ∷ ys) (map_same xs)

-- an array with its indexes
pub indexes_are : (of : List ℕ) → length of ≡ 128 → ((k : ℕ) → k < 128 → get_or of k 0 ≡ k)
    → record { of = of; next = 128 } ≡ first_numbers
unfolding first_numbers
indexes_are of long each =
    ap (λ (xs : List ℕ). let n : DeviceNumbers = record { of = xs; next = 128 } in n)
    (fill_by_all (λ k. k) of 128 0 long each ∙ map_same (range_with_len 0 128))

pub are_indexes : (of : List ℕ) → length of ≡ 128 → ((k : ℕ) → k < 128 → get_or of k 0 ≡ k)
    → AreNumbers (record { of = of; next = 128 })
are_indexes of long each = grind arith

-- one more index is written
pub index_written : (of : List ℕ) (a i v : ℕ) → a < length of
    → ((k : ℕ) → k < a → get_or of k 0 ≡ k) → i ≡ a → v ≡ a
    → (k : ℕ) → k < a + 1 → get_or (set of i v) k 0 ≡ k
index_written of a i v lt each x y = rw (x, y) (fill_by_more (λ k. k) of a 0 lt each)

-- Kept

pub keeps_none : (a : Known) → KeepsKnown a a
keeps_none a = grind arith

pub keeps_same : {a b : Known} → b ≡ a → KeepsKnown a b
keeps_same {a} e = subst (KeepsKnown a) (sym e) (keeps_none a)

pub keeps_then : {a b c : Known} → KeepsKnown a b → KeepsKnown b c → KeepsKnown a c
keeps_then {a} {b} {c} x y = record {
  rising = omega (arith, x.rising, y.rising);
  each = grind arith;
  reported = y.reported ∙ x.reported;
  options = y.options ∙ x.options;
}

-- what a driver may know does not change at first
pub keeps_from : {a b c : Known} → KeepsKnown b c → b.entries ≡ a.entries
    → b.numbers ≡ a.numbers → b.reported ≡ a.reported → b.options ≡ a.options → KeepsKnown a c
keeps_from x e n r v = grind arith

pub keeps_by : {a b : Known} → b.entries ≡ a.entries → b.numbers ≡ a.numbers
    → b.reported ≡ a.reported → b.options ≡ a.options → KeepsKnown a b
keeps_by {a} {b} e n r v = keeps_from (keeps_none b) e n r v

pub keeps_rests : (a : HostState) {b : HostState} → OnlyBusSteps a b → KeepsNumbers a b
keeps_rests a r = keeps_same (ap known_in r)

-- Entries are forgotten

left_device : (p path : List ℕ) (es : Entries) (numbers : DeviceNumbers) (d : KnownDevice)
    → known_device (accepted_device_at p (without path es)) numbers ≡ Some d
    → known_device (accepted_device_at p es) numbers ≡ Some d
left_device p path es numbers d left = grind (arith, lookup-without)

pub keeps_forgets : {path : List ℕ} {a b : HostState} → Forgets path a b → KeepsNumbers a b
keeps_forgets {path} {a} {b} f =
    record {
      rising = grind arith;
      each = grind (arith, left_device);
      reported = grind arith;
      options = grind arith;
    }

-- A finding is entered

module _ (path : List ℕ) (es : Entries) where
  refused_device : (cause : Cause) (numbers : DeviceNumbers) (p : List ℕ) (d : KnownDevice)
      → known_device (accepted_device_at p (insert_entry path_cmp es path (Refused cause))) numbers
      ≡ Some d → known_device (accepted_device_at p es) numbers ≡ Some d
  refused_device cause numbers p d listed = elim (decided (is_at (path_cmp p) path)) [
    | inl tie ↦
        let same : p ≡ path = path_tied p path tie in
        absurd (grind (arith, lookup-insert_entry_here))
    | inr apart ↦ rw (lookup-insert_entry_elsewhere p path (Refused cause) es apart) at listed
  ]

  pub keeps_refused : (cause : Cause) {a b : Known} → a.entries ≡ es
      → b.entries ≡ insert_entry path_cmp es path (Refused cause) → b.numbers ≡ a.numbers
      → b.reported ≡ a.reported → b.options ≡ a.options → KeepsKnown a b
  keeps_refused cause before entered numbers reported options = grind (arith, refused_device)

  -- a device that is listed elsewhere has another address
  other_device : (device : Accepted) (numbers : DeviceNumbers) (free : (p : List ℕ) (e : Accepted)
      → accepted_device_at p es ≡ Some e → e.address ≢ device.address) (p : List ℕ)
      (o : Option Accepted) → accepted_device_at p es ≡ o → (d : KnownDevice)
      → known_device o (with_number (Device device) numbers) ≡ Some d
      → known_device o numbers ≡ Some d
  other_device device numbers free p None at d is = is
  other_device device numbers free p (Some e) at d is =
      rw (get_or-set_other numbers.of device.address e.address numbers.next 0 (free p e at)) at is

  accepted_device : (device : Accepted) (numbers : DeviceNumbers)
      → device.address < length numbers.of → (free : (p : List ℕ) (e : Accepted)
      → accepted_device_at p es ≡ Some e → e.address ≢ device.address) (p : List ℕ)
      (d : KnownDevice) → (b : Bool) → is_at (path_cmp p) path ≡ b
      → known_device (accepted_device_at p (insert_entry path_cmp es path (Device device)))
      (with_number (Device device) numbers) ≡ Some d
      → (known_device (accepted_device_at p es) numbers ≡ Some d) ⊎ (numbers.next ≤ d.number)
  accepted_device device numbers lt free p d true tie at =
      let same : p ≡ path = path_tied p path tie in
      let is = rw (same, lookup-insert_entry_here path (Device device) es) at at in
      let given = get_or-set_same numbers.of device.address numbers.next 0 lt in grind arith
    where
      number_of : Option KnownDevice → ℕ
      number_of None = 0
      number_of (Some k) = k.number
  accepted_device device numbers lt free p d false apart at =
      grind (arith, lookup-insert_entry_elsewhere, other_device)

  pub keeps_entered : (finding : Finding) {pool : Addresses} (after : Addresses)
      (numbers : DeviceNumbers) {reported : List (List ℕ × ℕ)} {options : HostOptions}
      → length numbers.of ≡ 128 → Accounts
      es pool
      → TakesFor (Ok finding) pool after
      → KeepsKnown (record {
        entries = es;
        numbers = numbers;
        reported = reported;
        options = options;
      })
      (record {
        entries = insert_entry path_cmp es path finding;
        numbers = with_number finding numbers;
        reported = reported;
        options = options;
      })
  keeps_entered (Refused cause) _ _ _ _ _ =
      keeps_refused cause refl refl refl refl refl
  keeps_entered (Device device) {pool} after numbers long accounts takes = record {
    rising = omega arith;
    each = λ p d at. accepted_device device numbers (omega (arith, long, takes.free.0.1)) free p d
        _ refl at;
    reported = refl;
    options = refl;
  }
    where
      taken : (p : List ℕ) (e : Accepted) (o : Option Finding)
          → lookup (is_at (path_cmp p)) es ≡ o → accepted_device_of o ≡ Some e
          → claims es p ≡ Some e.address
      taken p e None at is = absurd (cc is)
      taken p e (Some (Refused cause)) at is = absurd (cc is)
      taken p e (Some (Device other)) at is = grind arith

      free : (p : List ℕ) (e : Accepted) → accepted_device_at p es ≡ Some e
          → e.address ≢ device.address
      free p e at same =
          let is = claims_taken accounts p _
          (taken p e _ refl at) in grind arith

-- No two are the same

-- a device has an address, and the number of that
record IsAt (numbers : DeviceNumbers) (o : Option Finding) (d : KnownDevice) : Type 0 where
  address : ℕ
  has : address_in o ≡ Some address
  number : d.number ≡ slice_index numbers.of address

address_of : (numbers : DeviceNumbers) (o : Option Finding) (d : KnownDevice)
    → known_device (accepted_device_of o) numbers ≡ Some d → IsAt numbers o d
address_of numbers o d is = grind arith

module _ (k : Known) (pool : Addresses) (are : AreNumbers k.numbers)
    (accounts : Accounts k.entries pool) (range : HasAddresses pool) where
  at_path : (path : List ℕ) (d : KnownDevice) → device_in path k ≡ Some d
      → IsAt k.numbers (lookup (is_at (path_cmp path)) k.entries) d
  at_path path d at = grind arith

  within : (path : List ℕ) (a : ℕ) → claims k.entries path ≡ Some a → a < 128
  within path a has = (range a (claims_taken accounts path a has)).1

  pub numbers_fit : NumbersFit k
  numbers_fit = record {
    given = λ path d at.
        let x = at_path path d at in
        rw x.number (grind (arith, within));
    differ = λ path other d e at there same.
        let x = at_path path d at in
        let y = at_path other e there in
        let one : x.address ≡ y.address = grind (arith, within) in
        sym (same_is path other (grind (arith, claims_distinct)));
  }
