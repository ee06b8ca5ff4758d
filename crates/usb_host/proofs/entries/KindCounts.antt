-- How many entries are of a kind, hubs and devices that wait, as entries go and come.
use Rattle.usb_world.proofs.Interface.{decided, at_or_below_way}
use Rattle.std.proofs.Common.{◌≡◌, refl, ap, arith, true, false, Bool, ℕ, ◌+◌, ◌≤◌, cond, List, []}
use Rattle.std.proofs.Common.{◌∷◌, not, Some, Option, IsSome, inl, inr}
use Rattle.std.specs.Map.{lookup}
use Rattle.std.specs.List.{count_by}
use Rattle.std.specs.BTreeMap.{is_at, insert_entry}
use Rattle.std.specs.Ordering.{match_ordering}
use Rattle.std.specs.declared.cmp.Ordering.{Ordering}
use Rattle.std.specs.declared.cmp.Ordering.TheVariants.{Less, Equal, Greater}
use Rattle.std.proofs.lemmas.List.Sums.{sum_by-cons}
use Rattle.usb_port.specs.{path_cmp}
use Rattle.usb_world.specs.{is_way}
use Rattle.usb_enum.specs.{Finding, Lost}
use Rattle.usb_table.specs.{Entries, is_at_or_below, without, is_hub, finding_at, hub_facts_at}
use Rattle.usb_table.specs.{hub_facts_in, is_waiting}
use Rattle.usb_host.proofs.entries.Agreements.{one_when-most, one_when}
use Rattle.usb_table.proofs.Interface.{path_tied}
use Rattle.usb_enum.specs.declared.finding.Finding.TheVariants.{Refused}
use Rattle.usb_host.specs.{FindsNone, hubs, HostState, EntersOne, HostSteps, OnlyBusSteps, waiting}

abbrev pub of_kind : (Finding → Bool) → Entries → ℕ
of_kind kind entries = count_by (λ e. kind e.1) entries

module _ (kind : Finding → Bool) where
  pub of_kind-cons : (e : List ℕ × Finding) (es : Entries)
      → of_kind kind (e ∷ es) ≡ one_when (kind e.1)
      + of_kind kind es
  unfolding one_when
  of_kind-cons e es = search sum_by-cons

  of_kind-without_less : (e : List ℕ × Finding) (es rest : Entries) (b : Bool)
      → of_kind kind rest ≤ of_kind kind es
      → of_kind kind (cond b (e ∷ rest) rest) ≤ of_kind kind (e ∷ es)
  of_kind-without_less e es rest true le = omega (arith, of_kind-cons e rest, of_kind-cons e es)
  of_kind-without_less e es rest false le = omega (arith, of_kind-cons e es)

  pub of_kind-without : (path : List ℕ) (es : Entries) → of_kind kind (without path es) ≤ of_kind
      kind es
  of_kind-without path [] = omega arith
  of_kind-without path (e ∷ es) = of_kind-without_less e es (without path es)
      (not (is_at_or_below e.0 path)) (of_kind-without path es)

  of_kind-without_fewer : (path : List ℕ) (e : List ℕ × Finding) (es : Entries) (b : Bool)
      → of_kind kind (without path es) + 1 ≤ of_kind kind es
      → of_kind kind (cond b (e ∷ without path es) (without path es)) + 1 ≤ of_kind kind (e ∷ es)
  of_kind-without_fewer path e es true le =
      omega (arith, of_kind-cons e es, of_kind-cons e (without path es))
  of_kind-without_fewer path e es false le = omega (arith, of_kind-cons e es)

  -- one that stands at the path or below it goes
  pub of_kind-without_one : (path hub : List ℕ) (f : Finding) (es : Entries)
      → is_way path hub ≡ true → kind f ≡ true → lookup (is_at (path_cmp hub)) es ≡ Some f
      → of_kind kind (without path es) + 1 ≤ of_kind kind es
  unfolding one_when
  of_kind-without_one path hub f [] way is_kind found = absurd cc
  of_kind-without_one path hub f (e ∷ es) way is_kind found =
      elim (decided (is_at (path_cmp hub) e.0)) [
        | inl tie ↦
            let here : one_when (kind e.1) ≡ 1 = grind arith in
            let gone : is_at_or_below e.0 path ≡ true = grind (arith, at_or_below_way, path_tied) in
            rw gone (omega (arith, of_kind-cons e es, of_kind-without path es))
        | inr off ↦ of_kind-without_fewer path e es (not (is_at_or_below e.0 path))
            (of_kind-without_one path hub f es way is_kind (rw off at found))
      ]

  of_kind-insert_by : (path : List ℕ) (f : Finding) (e : List ℕ × Finding) (es : Entries)
      → of_kind kind (insert_entry path_cmp es path f) ≤ of_kind kind es + one_when (kind f)
      → (o : Ordering) → of_kind kind (match_ordering o ((path, f) ∷ e ∷ es) ((e.0, f) ∷ es)
      (e ∷ insert_entry path_cmp es path f)) ≤ of_kind kind (e ∷ es) + one_when (kind f)
  of_kind-insert_by path f e es more Less = omega (arith, of_kind-cons (path, f) (e ∷ es))
  of_kind-insert_by path f e es more Equal = omega (
    arith,
    of_kind-cons (e.0, f) es,
    of_kind-cons e es,
  )
  of_kind-insert_by path f e es more Greater =
      omega (arith, of_kind-cons e es, of_kind-cons e (insert_entry path_cmp es path f))

  pub of_kind-insert_entry : (path : List ℕ) (f : Finding) (es : Entries)
      → of_kind kind (insert_entry path_cmp es path f) ≤ of_kind kind es + one_when (kind f)
  of_kind-insert_entry path f [] = omega (arith, of_kind-cons (path, f) [])
  of_kind-insert_entry path f (e ∷ es) = of_kind-insert_by path f e es
      (of_kind-insert_entry path f es) (path_cmp path e.0)

  -- a finding comes
  pub of_kind-entered : (path : List ℕ) (f : Finding) (es : Entries)
      → of_kind kind (insert_entry path_cmp es path f) ≤ of_kind kind es + 1
  of_kind-entered path f es = omega (arith, of_kind-insert_entry path f es, one_when-most (kind f))

-- Hubs

-- A hub is dropped

hub_at : (o : Option Finding) → IsSome (hub_facts_in o) → (f : Finding) × (o ≡ Some f)
    × (is_hub f ≡ true)
hub_at o some = grind arith

pub hubs-dropped : (lost hub : List ℕ) (old left : Entries) {new : Entries} → is_way lost hub ≡ true
    → left ≡ without lost old → new ≡ insert_entry path_cmp left lost (Refused Lost)
    → IsSome (hub_facts_at hub old) → hubs new + 1 ≤ hubs old
unfolding one_when
hubs-dropped lost hub old left way rest entered some =
    let at : _ = hub_at (finding_at hub old) some in
    let none : one_when (is_hub (Refused Lost)) ≡ 0 = refl in
    let fewer : hubs left + 1 ≤ hubs old =
    rw rest (of_kind-without_one is_hub lost hub at.0 old way at.2 at.1) in
    rw entered (omega (arith, of_kind-insert_entry is_hub lost (Refused Lost) left))

-- A port is looked at

pub hubs-rest : (a : HostState) {b : HostState} → OnlyBusSteps a b → hubs b.entries ≡ hubs a.entries
hubs-rest a r = ap (λ (h : HostState). hubs h.entries) r

-- nothing but a request was made
pub none_rests : {n : ℕ} (a : HostState) {b : HostState} → HostSteps n a b → OnlyBusSteps a b
    → FindsNone n a b
none_rests a went r = record { went = went; hubs = omega (arith, hubs-rest a r) }

pub hubs-gone : (path : List ℕ) (a b c : HostState) → OnlyBusSteps a b
    → c.entries ≡ without path b.entries → hubs c.entries ≤ hubs a.entries
hubs-gone path a b c r rest =
    let left : hubs c.entries ≡ hubs (without path b.entries) = ap hubs rest in
    omega (arith, hubs-rest a r, of_kind-without is_hub path b.entries)

pub hubs-forgot : (path : List ℕ) (a b : HostState) → b.entries ≡ without path a.entries
    → hubs b.entries ≤ hubs a.entries
hubs-forgot path a b rest =
    let left : hubs b.entries ≡ hubs (without path a.entries) = ap hubs rest in
    omega (arith, of_kind-without is_hub path a.entries)

pub hubs-found : (path : List ℕ) (c d : HostState) → EntersOne path c d
    → hubs d.entries ≤ hubs c.entries + 1
hubs-found path c d e =
    let is : hubs d.entries ≡ hubs (insert_entry path_cmp c.entries path e.finding) =
    ap hubs e.entries in
    omega (arith, of_kind-entered is_hub path e.finding c.entries)

-- Devices that wait

-- one that does not wait
pub waiting-entered_other : (path : List ℕ) (f : Finding) (es : Entries) → is_waiting f ≡ false
    → waiting (insert_entry path_cmp es path f) ≤ waiting es
unfolding one_when
waiting-entered_other path f es other =
    let none : one_when (is_waiting f) ≡ 0 = ap one_when other in
    omega (arith, of_kind-insert_entry is_waiting path f es)
