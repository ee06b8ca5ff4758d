-- Where a round was quiet and no event came, nothing is left to do.
use Rattle.std.proofs.Common.{◌≡◌, refl, arith, suc, zero, false, ℕ, ◌+◌, ◌-◌, ◌<◌, ◌≤◌, List, []}
use Rattle.std.proofs.Common.{◌∷◌, length, slice_index_or, ◌⊎◌, ◌∙◌, inl, inr, sym, ap, subst}
use Rattle.std.proofs.Common.{length-append, Bool, true, ◌++◌, Option, None, Some, Result, Ok}
use Rattle.std.proofs.Common.{slice_get, if◌then◌else◌, IfSome, IfNone, IsSome, IsSomeAnd, is_err}
use Rattle.usb_port.specs.{PortState, off, path_cmp, parent_of, port_on_hub, Addresses, IsFull}
use Rattle.usb_world.specs.{World, root_row, roots_of, root_port_at, change_of, changes, pending}
use Rattle.std.specs.Ordering.{is_eq}
use Rattle.std.specs.declared.cmp.Ordering.{Ordering}
use Rattle.std.specs.declared.cmp.Ordering.TheVariants.{Less, Equal, Greater}
use Rattle.usb_port.proofs.Interface.{rejoined}
use Rattle.usb_device.specs.{port_there}
use Rattle.usb_world.proofs.Interface.{course_joined, course_wider, pending_persists, false_true}
use Rattle.usb_world.proofs.Interface.{decided}
use Rattle.usb_hub.specs.{TouchesNoPort}
use Rattle.usb_hub.proofs.Interface.{row_port}
use Rattle.usb_enum.specs.{Finding, HubFacts, HostOptions}
use Rattle.usb_table.specs.{Entries, is_hub, is_waiting, hub_facts_at, IsListedPort, IsPortBelow}
use Rattle.usb_table.specs.{ListsEach, ComesAfter, Stands, IsNext, IsLast}
use Rattle.usb_table.proofs.Interface.{path_tied}
use Rattle.usb_host.specs.{Agrees, HostState, IsRooted, HostRuns, Did, either, HostFault}
use Rattle.usb_host.specs.{HostInvariant, IsSilent, IsAtRest, NoneWaiting, KeepsInvariant}
use Rattle.usb_host.specs.{RootsRest, HubKeeps, HubsKeep, LooksKeep, Round, Quiet}
use Rattle.usb_host.proofs.StepSums.{went_before}
use Rattle.usb_host.proofs.entries.Agreements.{accounts_listed, path_cmp-greater}
use Rattle.usb_host.proofs.rests.ClearedPorts.{calm_port, pend-no_change}
use Rattle.usb_host.proofs.entries.Roots.{accounted}
use Rattle.usb_host.proofs.knowledge.SettledListings.{listed_port}
use Rattle.usb_host.proofs.PortLocations.{root_alone}

-- Ports none of which has its change bit set.

no_change : (p : PortState) → p.connection_changed ≡ false → change_of p ≡ 0
unfolding change_of
no_change p h = rw h refl

no_changes : (ps : List PortState) → ((i : ℕ) → i < length ps
    → (slice_index_or ps i off).connection_changed ≡ false) → changes ps ≡ 0
unfolding changes
no_changes [] h = refl
no_changes (p ∷ ps) h = omega (
  arith,
  no_change p (h zero (omega arith)),
  no_changes ps (λ i lt. h (suc i) (omega arith)),
)

pub none_changed : (w : World) (n : ℕ) → roots_of w < n
    → ((k : ℕ) → 1 ≤ k → k < n → (root_port_at w k).connection_changed ≡ false)
    → changes (root_row w) ≡ 0
unfolding root_port_at
none_changed w n lt h =
    no_changes (root_row w) (λ i inside.
    let back : (i + 1) - 1 ≡ i = omega arith in
    let P : ℕ → Type 0 = λ k. (slice_index_or (root_row w) k off).connection_changed ≡ false in
    rw back at (h (i + 1) (omega arith) (omega arith)))

-- Rounds that are quiet

abbrev pub done : Round → Result Round HostFault
done round = Ok round

pub ok_is : (r s : Round) → done r ≡ done s → r ≡ s
ok_is r s e = cc e

pub quiet_first : (r s : Round) → either r s ≡ Quiet → r ≡ Quiet
quiet_first r s h = grind arith

pub quiet_second : (r s : Round) → either r s ≡ Quiet → s ≡ Quiet
quiet_second r s h = grind arith

pub all_rest_then : (u w v : World) → TouchesNoPort u w → TouchesNoPort w v → TouchesNoPort u v
all_rest_then u w v x y p = course_joined (x p) (y p)

-- A port that told of no change tells of none after a course that asks nothing of it, and in which
-- no event came

none_told : {o u : Option PortState} → u ≡ o → IfSome o (λ b. b.connection_changed ≡ false)
    → IfSome u (λ b. b.connection_changed ≡ false)
none_told e h = rw e h

pub silent_stays : (hub : List ℕ) (b c : HostState) → c.entries ≡ b.entries
    → TouchesNoPort b.world c.world → c.world.taken ≡ b.world.taken → IsSilent hub b
    → IsSilent hub c
silent_stays hub b c same rests taken silent facts number at least most =
    none_told (calm_port (rests (hub ++ (number ∷ []))) taken)
    (silent facts number (ap (λ (es : Entries). hub_facts_at hub es) (sym same) ∙ at) least most)

-- what does not pend now did not before
pub pended : (path : List ℕ) (w v : World) → TouchesNoPort w v → pending v.roots path ≡ false
    → pending w.roots path ≡ false
pended path w v rests none = elim (decided (pending w.roots path)) [
  | inl is ↦ false_true (sym none ∙ pending_persists path
      (course_wider (λ s u x. x.spares) (rests path)) is)
  | inr is ↦ is
]

-- One hub after another

-- a hub that does not come after the last one was polled
abbrev pub Polled : Option (List ℕ) → HostState → Type 0
Polled last h = (hub : List ℕ) → (ComesAfter last hub → ⊥) → pending h.world.roots hub ≡ false
    → IsSilent hub h

stands_hub : (last : Option (List ℕ)) (hub : List ℕ) (es : Entries) (facts : HubFacts)
    → hub_facts_at hub es ≡ Some facts → ComesAfter last hub → Stands is_hub last es hub
stands_hub last hub es facts at after = grind arith

-- the next hub is listed
pub next_listed : {last : Option (List ℕ)} {hub : List ℕ} {es : Entries} → IsNext is_hub last es hub
    → IsSome (hub_facts_at hub es)
next_listed is = grind arith

after_or_not : (last : Option (List ℕ)) (hub : List ℕ) → ComesAfter last hub
    ⊎ (ComesAfter last hub → ⊥)
after_or_not last hub = grind arith

module _ {last : Option (List ℕ)} {next : List ℕ} (b c : HostState)
    (is : IsNext is_hub last b.entries next) (same : c.entries ≡ b.entries)
    (rests : TouchesNoPort b.world c.world) (taken : c.world.taken ≡ b.world.taken)
    (before : Polled last b) (here : pending c.world.roots next ≡ false → IsSilent next c) where
  pub polled_next : Polled (Some next) c
  polled_next hub not none facts number at least most = pick (path_cmp next hub) refl
    where
      was : hub_facts_at hub b.entries ≡ Some facts
      was = grind arith

      earlier : (ComesAfter last hub → ⊥) → IfSome (port_there c.world.roots (hub ++ (number ∷ [])))
          (λ b. b.connection_changed ≡ false)
      earlier before_last = search (pended, silent_stays)

      pick : (o : Ordering) → path_cmp next hub ≡ o
          → IfSome (port_there c.world.roots (hub ++ (number ∷ [])))
          (λ b. b.connection_changed ≡ false)
      pick Less less = absurd (not less)
      pick Equal tie =
          subst (λ (p : List ℕ). (pending c.world.roots p ≡ false → IsSilent p c)
          → IfSome (port_there c.world.roots (hub ++ (number ∷ [])))
          (λ b. b.connection_changed ≡ false)) (sym (path_tied next hub (ap is_eq tie)))
          (λ h. h none facts number at least most)
          here
      pick Greater greater = elim (after_or_not last hub) [
        | inl after ↦ absurd (is.least hub (stands_hub last hub b.entries facts was after)
            (path_cmp-greater next hub greater))
        | inr before_last ↦ earlier before_last
      ]

-- two parts, of which the second polled the next hub
module _ {m n : ℕ} (r s : Round) (a b c : HostState) (p : HostRuns m a b) (q : HostRuns n b c)
    (quiet : either r s ≡ Quiet) (still : c.world.fault ≡ None) where
  pub calm_then : (r ≡ Quiet → b.world.fault ≡ None → TouchesNoPort a.world b.world)
      → (done s ≡ done Quiet → c.world.fault ≡ None → TouchesNoPort b.world c.world)
      → TouchesNoPort a.world c.world
  calm_then x y = all_rest_then a.world b.world c.world
      (search (quiet_first, went_before)) (search quiet_second)

  pub polled_then : {last : Option (List ℕ)} {next : List ℕ} → IsNext is_hub last b.entries next
      → c.world.taken ≡ a.world.taken → HostInvariant a → KeepsInvariant a b → Did s b c
      → (HostInvariant a → r ≡ Quiet → b.world.fault ≡ None → b.world.taken ≡ a.world.taken
      → Polled last b) → HubKeeps next b (Ok s) c → Polled (Some next) c
  polled_then is taken sound stays did before hub =
      let second = quiet_second r s quiet in
      let told = ap done second in
      let taken_first : b.world.taken ≡ a.world.taken = omega arith in
      let taken_second : c.world.taken ≡ b.world.taken = omega arith in
      polled_next b c is (grind arith) (hub.calm told still)
      taken_second (search (quiet_first, went_before)) (hub.silent (stays.sound sound) told still)

-- after the last of them all were polled
pub polled_all : (last : Option (List ℕ)) (h : HostState) → IsLast is_hub last h.entries
    → Polled last h → (hub : List ℕ) → pending h.world.roots hub ≡ false → IsSilent hub h
polled_all last h none polled hub calm facts number at least most = elim (after_or_not last hub) [
  | inl after ↦ absurd (none hub (stands_hub last hub h.entries facts at after))
  | inr before ↦ polled hub before calm facts number at least most
]

-- Each port that is known

change_clear : (p : PortState) → change_of p ≡ 0 → p.connection_changed ≡ false
unfolding change_of
change_clear p h = grind arith

changes_clear : (row : List PortState) (i : ℕ) → changes row ≡ 0
    → IfSome (slice_get row i) (λ b. b.connection_changed ≡ false)
unfolding changes
changes_clear [] i h = tt
changes_clear (p ∷ row) zero h = change_clear p (omega arith)
changes_clear (p ∷ row) (suc i) h = changes_clear row i (omega arith)

root_clear : (w : World) (n : ℕ) → 1 ≤ n → changes (root_row w) ≡ 0
    → IfSome (port_there w.roots (n ∷ [])) (λ b. b.connection_changed ≡ false)
root_clear w n least none = grind (arith, changes_clear, row_port)

module _ (a c : HostState) (agrees : Agrees c.options c.entries c.addresses) (rooted : IsRooted c)
    (rests : TouchesNoPort a.world c.world) (taken : c.world.taken ≡ a.world.taken)
    (none : changes (root_row a.world) ≡ 0) (silent : (hub : List ℕ)
    → pending c.world.roots hub ≡ false → IsSilent hub c) where
  below_rests : (hub : List ℕ) (n : ℕ) → (IsListedPort (roots_of c.world) c.entries hub
      → pending c.world.roots hub ≡ false)
      → IsSomeAnd (hub_facts_at hub c.entries) (λ facts. (1 ≤ n) × (n ≤ facts.ports))
      → pending c.world.roots (hub ++ (n ∷ [])) ≡ false
  below_rests hub n above port = grind (arith, accounted, listed_port, pend-no_change)

  pends_step : (fuel : ℕ) (path : List ℕ) → length path ≤ suc fuel
      → ((hub : List ℕ) → length hub ≤ fuel → IsListedPort (roots_of c.world) c.entries hub
      → pending c.world.roots hub ≡ false) → 1 ≤ length path → (o : Option (List ℕ))
      → parent_of path ≡ o → IsPortBelow (roots_of c.world) c.entries o (port_on_hub path)
      → pending c.world.roots path ≡ false
  pends_step fuel path short above some None is h =
      rw (root_alone path some is) (pend-no_change c.world.roots [] (port_on_hub path) h.0 refl
      (none_told (calm_port (rests ((port_on_hub path) ∷ [])) taken)
      (root_clear a.world (port_on_hub path) h.0 none)))
  pends_step fuel path short above some (Some hub) is h =
      let joined : path ≡ hub ++ (port_on_hub path ∷ []) = rejoined path hub is in
      let long : length path ≡ length hub + 1 = ap length joined ∙ length-append hub
      (port_on_hub path ∷ []) in
      rw joined (below_rests hub (port_on_hub path) (above hub (omega arith)) h)

  pends_by : (fuel : ℕ) (path : List ℕ) → length path ≤ fuel
      → IsListedPort (roots_of c.world) c.entries path → pending c.world.roots path ≡ false
  pends_by zero path short port = absurd (omega (arith, port.some))
  pends_by (suc fuel) path short port = pends_step fuel path short (pends_by fuel) port.some
      (parent_of path) refl port.port

  pub none_pends : (path : List ℕ) → IsListedPort (roots_of c.world) c.entries path
      → pending c.world.roots path ≡ false
  none_pends path port = pends_by (length path) path (omega arith) port

-- Devices that wait

pub none_right : {A : Type 0} (P Q : Type 0) (o : Option A) → IfNone o Q → IfNone o (P ⊎ Q)
none_right P Q o q = grind arith

pub full_lists : {options : HostOptions} {es : Entries} {addresses : Addresses}
    → Agrees options es addresses → IsFull addresses → ListsEach es
full_lists agrees full = search (accounts_listed, agrees.rises, agrees.accounts)

pub none_waits : {options : HostOptions} {es : Entries} {addresses : Addresses}
    → Agrees options es addresses → (IsFull addresses ⊎ IsLast is_waiting None es) → NoneWaiting es
none_waits agrees (inl full) path at = full_lists agrees full
none_waits agrees (inr none) path at =
    absurd (none path (grind arith))

-- The whole round

pub at_rest : (a b c d : HostState) → RootsRest a b → KeepsInvariant b c → HubsKeep b (Ok Quiet) c
    → LooksKeep c (Ok Quiet) d → HostInvariant a → d.world.taken ≡ a.world.taken
    → d.world.fault ≡ None → IsAtRest d.world d.entries
at_rest a b c d roots sound hubs looks s taken sane =
    let known : HostInvariant b = rw roots.same s in
    let rooted : IsRooted c = (sound.sound known).rooted in
    let looked = looks.rest rooted refl in
    let working : c.world.fault ≡ None = grind arith
    in
    let still : c.world.taken ≡ b.world.taken = grind arith in
    let none : changes (root_row b.world) ≡ 0 = grind arith in
    let ports = none_pends b c hubs.agrees rooted (hubs.calm refl working) still none
    (search hubs.silent) in grind arith

-- Where nothing is listed, and no root port has changed, nothing is done.

changes-zero : (ps : List PortState) (i : ℕ) → changes ps ≡ 0
    → (slice_index_or ps i off).connection_changed ≡ false
unfolding changes change_of
changes-zero (p ∷ ps) zero h = split p.connection_changed refl
  where
    split : (x : Bool) → p.connection_changed ≡ x → p.connection_changed ≡ false
    split true e = absurd (omega (arith, ap {B = ℕ} (λ (x : Bool). if x then 1 else 0) e))
    split false e = e
changes-zero (p ∷ ps) (suc i) h = changes-zero ps i (omega arith)
changes-zero [] _ h = refl

changes-root_port : (w : World) (n : ℕ) → changes (root_row w) ≡ 0
    → (root_port_at w n).connection_changed ≡ false
unfolding root_port_at
changes-root_port w n h = changes-zero (root_row w) (n - 1) h

-- no root port shows a change
pub none_shows : (a b : HostState) (n : ℕ) → b ≡ a → changes (root_row a.world) ≡ 0
    → (root_port_at b.world n).connection_changed ≡ true → ⊥
none_shows a b n same none shows = grind (arith, changes-root_port)

-- no hub comes next
pub none_next : {kind : Finding → Bool} {last : Option (List ℕ)} {a b : HostState} {path : List ℕ}
    → b ≡ a → a.entries ≡ [] → IsNext kind last b.entries path → ⊥
none_next same none next = grind arith

-- The parts of a round

abbrev Idle : HostState → Result Round HostFault → HostState → Type 0
Idle a result b = (result ≡ Ok Quiet) × (b ≡ a)

-- only the host's own stop could be new
pub round_rests : (result : Result Round HostFault) (a b : HostState) (stopped : Bool)
    → a.stopped ≡ false → stopped ≡ is_err result → Idle a result b → record b { stopped = stopped }
    ≡ a
round_rests result a b stopped going is idle = grind arith
