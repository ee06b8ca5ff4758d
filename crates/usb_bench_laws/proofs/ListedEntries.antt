-- Ports and entries, where a listing says what the entries say.
use Rattle.std.proofs.Common.{◌≡◌, ◌≤◌, ◌<◌, ◌∙◌, refl, sym, ap, subst, arith, ℕ, Bool, true}
use Rattle.std.proofs.Common.{false, List, [], ◌∷◌, length, get_or}
use Rattle.std.specs.Prelude.{Contains, count_by, filter}
use Rattle.std.specs.List.{list_any}
use Rattle.std.specs.Map.{keys_of}
use Rattle.std.proofs.lemmas.List.{get_or-map, get_or_default, length-map}
use Rattle.std.proofs.lemmas.List.Elements.{Contains-append_left, Contains-append_right}
use Rattle.std.proofs.lemmas.List.Elements.{Contains-get_or, Contains-push}
use Rattle.std.proofs.lemmas.List.Folds.{list_any_at}
use Rattle.std.proofs.lemmas.List.Sums.{length-filter}
use Rattle.std.proofs.lemmas.Map.Keys.{sorted_tail}
use Rattle.usb_port.specs.{path_cmp}
use Rattle.usb_enum.specs.{Silent, Finding}
use Rattle.usb_enum.specs.declared.finding.Finding.TheVariants as finding
use Rattle.usb_table.specs.{Entries, Rises}
use Rattle.usb_judge.specs.declared.listed.Claim.TheVariants.{Refused}
use Rattle.usb_judge.specs.declared.listed.ListedPort.{ListedPort}
use Rattle.usb_bench_laws.specs.{ListsEntries, SaidPort, port_of_entry, port_said}
use Rattle.usb_bench_laws.proofs.Entries.{later_differs}

-- Lists

pub at_front : {X : Type 0} (x : X) (xs : List X) → Contains (x ∷ xs) x
at_front x xs = Contains-append_left (x ∷ []) xs x (Contains-push [] x)

pub further_on : {X : Type 0} (x y : X) (xs : List X) → Contains xs y → Contains (x ∷ xs) y
further_on x y xs has = Contains-append_right (x ∷ []) xs y has

pub any_there : {X : Type 0} (p : X → Bool) (x : X) (xs : List X) → Contains xs x → p x ≡ true
    → list_any p xs ≡ true
any_there p x xs (k, less, at) is = list_any_at p xs k x less (ap p at ∙ is)

pub record Passes {X : Type 0} (p : X → Bool) (xs : List X) : Type 0 where
  pub element : X
  pub has : Contains xs element
  pub is : p element ≡ true

passes_by : {X : Type 0} (p : X → Bool) (x : X) (xs : List X) → (list_any p xs ≡ true → Passes p xs)
    → (b : Bool) → p x ≡ b → list_any p (x ∷ xs) ≡ true → Passes p (x ∷ xs)
passes_by p x xs more true is any = record { element = x; has = at_front x xs; is = is }
passes_by p x xs more false is any =
    let rest = more (rw is at any) in
    record { element = rest.element; has = further_on x rest.element xs rest.has; is = rest.is }

pub any_passes : {X : Type 0} (p : X → Bool) (xs : List X) → list_any p xs ≡ true → Passes p xs
any_passes p [] any = absurd (cc any)
any_passes p (x ∷ xs) any = passes_by p x xs (any_passes p xs) (p x) refl any

none_by : {X : Type 0} (p : X → Bool) (x : X) (xs : List X) → (p x ≡ true → ⊥)
    → length (filter p xs) ≡ 0 → (b : Bool) → p x ≡ b → length (filter p (x ∷ xs)) ≡ 0
none_by p x xs fails none true is = absurd (fails is)
none_by p x xs fails none false is = rw is none

none_passes : {X : Type 0} (p : X → Bool) (xs : List X)
    → ((x : X) → Contains xs x → p x ≡ true → ⊥) → length (filter p xs) ≡ 0
none_passes p [] fails = refl
none_passes p (x ∷ xs) fails = none_by p x xs (fails x (at_front x xs))
    (none_passes p xs (λ y has. fails y (further_on x y xs has))) (p x) refl

-- Ports of entries

-- an entry, of which a port says what it says
pub record IsPortOf (port : ListedPort) (es : Entries) : Type 0 where
  pub path : List ℕ
  pub finding : Finding
  pub has : Contains es (path, finding)
  pub is : port_said port ≡ port_of_entry (path, finding)

-- and a port of an entry
pub record IsListedAs (e : List ℕ × Finding) (listing : List ListedPort) : Type 0 where
  pub port : ListedPort
  pub has : Contains listing port
  pub is : port_said port ≡ port_of_entry e

abbrev no_entry : List ℕ × Finding
no_entry = ([], finding.Refused Silent)

abbrev no_port : ListedPort
no_port = record { path = []; claim = Refused }

abbrev no_words : SaidPort
no_words = port_said no_port

as_long : (es : Entries) (listing : List ListedPort) → ListsEntries es listing
    → length listing ≡ length es
as_long es listing same = sym (length-map listing port_said) ∙ ap length same
    ∙ length-map es port_of_entry

-- port by port, they say the same
said_alike : (es : Entries) (listing : List ListedPort) (k : ℕ) → ListsEntries es listing
    → k < length es → port_said (get_or listing k no_port) ≡ port_of_entry (get_or es k no_entry)
said_alike es listing k same less =
    sym (get_or-map port_said listing k no_port no_words
    (subst (λ n. k < n) (sym (as_long es listing same)) less))
    ∙ ap (λ (said : List SaidPort). get_or said k no_words) same
    ∙ get_or-map port_of_entry es k no_entry no_words less

module _ (es : Entries) (listing : List ListedPort) (same : ListsEntries es listing) where
  pub port_is : (port : ListedPort) → Contains listing port → IsPortOf port es
  port_is port (k, less, at) =
      let inside : k < length es = subst (λ n. k < n) (as_long es listing same) less in
      let e = get_or es k no_entry in
      let stands : get_or listing k no_port ≡ port =
      get_or_default listing k no_port port less ∙ at in
      record {
        path = e.0;
        finding = e.1;
        has = Contains-get_or es k no_entry inside;
        is = ap port_said (sym stands) ∙ said_alike es listing k same inside;
      }

  pub listed_as : (e : List ℕ × Finding) → Contains es e → IsListedAs e listing
  listed_as e (k, less, at) =
      let inside : k < length listing = subst (λ n. k < n) (sym (as_long es listing same)) less in
      let stands : get_or es k no_entry ≡ e = get_or_default es k no_entry e less ∙ at in
      record {
        port = get_or listing k no_port;
        has = Contains-get_or listing k no_port inside;
        is = said_alike es listing k same less ∙ ap port_of_entry stands;
      }

-- Counts

-- ports that pass are of entries at one path
abbrev pub PassesAtOne : (ListedPort → Bool) → Entries → Type 0
PassesAtOne p es = (d e : List ℕ × Finding) (x y : ListedPort) → Contains es d → Contains es e
    → port_said x ≡ port_of_entry d → port_said y ≡ port_of_entry e → p x ≡ true → p y ≡ true
    → d.0 ≡ e.0

one_by : (p : ListedPort → Bool) (e : List ℕ × Finding) (es : Entries) (x : ListedPort)
    (listing : List ListedPort) → Rises (e ∷ es) → port_said x ≡ port_of_entry e
    → ListsEntries es listing → PassesAtOne p (e ∷ es) → length (filter p listing) ≤ 1
    → (b : Bool) → p x ≡ b → length (filter p (x ∷ listing)) ≤ 1
one_by p e es x listing rises first same alike rest true is =
    let none : length (filter p listing) ≡ 0 = none_passes p listing (λ y has passes.
    let its : IsPortOf y es = port_is es listing same y has in
    let d : List ℕ × Finding = (its.path, its.finding) in
    later_differs e d es rises its.has (alike e d x y (at_front e es) (further_on e d es its.has)
    first its.is is passes)) in
    rw is (omega (arith, none))
one_by p e es x listing rises first same alike rest false is = rw is rest

one_kept : (p : ListedPort → Bool) (es : Entries) (listing : List ListedPort) → Rises es
    → ListsEntries es listing → PassesAtOne p es → length (filter p listing) ≤ 1
one_kept p es [] rises same alike = omega arith
one_kept p [] (x ∷ listing) rises same alike = absurd (cc same)
one_kept p (e ∷ es) (x ∷ listing) rises same alike =
    let first : port_said x ≡ port_of_entry e = cc same in
    let rest : ListsEntries es listing = cc same in
    one_by p e es x listing rises first rest alike
    (one_kept p es listing (sorted_tail path_cmp e.0 (keys_of es) rises) rest
    (λ d f y z has also. alike d f y z (further_on e d es has) (further_on e f es also)))
    (p x) refl

-- so one passes at most
pub one_passes : (p : ListedPort → Bool) (es : Entries) (listing : List ListedPort) → Rises es
    → ListsEntries es listing → PassesAtOne p es → count_by p listing ≤ 1
one_passes p es listing rises same alike = subst (λ n. n ≤ 1) (length-filter p listing)
    (one_kept p es listing rises same alike)
