-- A hub that is known, and answers a poll that it has nothing to tell, has no port that tells of a
-- change of connection.
use Rattle.std.proofs.Common.{◌≡◌, ◌≤◌, ◌<◌, ◌==◌, ◌∙◌, if◌then◌else◌, ℕ, zero, suc, Bool, true}
use Rattle.std.proofs.Common.{false, List, [], ◌∷◌, ◌++◌, Option, None, Some, refl, ap, sym, arith}
use Rattle.std.proofs.Common.{slice_get, IfSome, Ok}
use Rattle.std.proofs.lemmas.Bool.{ne_eqb, eq-eqb}
use Rattle.usb_port.specs.{PortState, has_change}
use Rattle.usb_device.specs.{Way, heard, held_law, in_law, tells_changes, change_bits, hub_ports}
use Rattle.usb_device.specs.{status_number, Spec, State, Ports, ended, vacant, taken, full, row_of}
use Rattle.usb_device.specs.{place_at, port_at, Location, path_to, reach_on, state_on, place_on}
use Rattle.usb_device.specs.{port_there, Hub, IsSpec, IsHub, reach}
use Rattle.usb_device.specs.declared.answer.Answer.TheVariants as answer
use Rattle.usb_device.specs.declared.transfer.InEndpoint.TheVariants as by
use Rattle.usb_world.specs.{Outcome, Was, DidIn, IsMade, leaves_step, attempt, after, at_attempt}
use Rattle.usb_world.specs.{outcome_in, World, roots_of}
use Rattle.usb_world.specs.declared.types.Outcome.TheVariants as outcome
use Rattle.usb_world.specs.{IsSettled, pending}
use Rattle.usb_world.proofs.Interface.{data_asks_nothing, each_in, got_nak, made_is, made_of}
use Rattle.usb_world.proofs.Interface.{made_port, sane_spec, false_true}
use Rattle.usb_transfer.specs.{Target, is_at, AttemptLog, next, in_attempt, is_at as has_address}
use Rattle.usb_transfer.specs.{Waiting, Interrupt}
use Rattle.usb_transfer.proofs.Interface.{trail_settled}
use Rattle.usb_hub.proofs.Interface.{row_port, in_kept}
use Rattle.usb_device.proofs.Interface.{law_is}
use Rattle.usb_host.proofs.knowledge.ChangeWords.{none_counts, weight_of}
use Rattle.usb_port.specs.{Addresses}
use Rattle.usb_enum.specs.{Accepted, Finding, HubFacts, facts_of, HostOptions}
use Rattle.usb_enum.specs.declared.finding.Finding.TheVariants.{Device}
use Rattle.usb_table.specs.{Pipes, Hub as HubPipe, Entries, accepted_device_of, accepted_device_at}
use Rattle.usb_table.specs.{is_below_hub, IsListening, finding_at, hub_facts_in, hub_facts_at}
use Rattle.usb_table.specs.{tier_of, IsStatusPipe, ArePipesTo, ArePipesIf, PipesInSync, PipesPolled}
use Rattle.usb_table.specs.{PolledThrough, StatusPipeInSync, pipes_at}
use Rattle.usb_host.specs.{Agrees, HostState, Accounted, HostInvariant, IsSilent, PortsListed}
use Rattle.usb_host.specs.{IsTruthOf, DevicesAccurate, known_supply, table_in}
use Rattle.usb_host.proofs.entries.Roots.{accounted}
use Rattle.usb_enum.proofs.Interface.{accepts}
use Rattle.usb_host.proofs.knowledge.SettledListings.{listed_port, reached_there, facts_given}

-- A hub that answers a poll with NAK has no port whose change bits are set.

-- What NAK tells

module _ (s : State) (row : List PortState) (max : ℕ) (t2 t3 : Way) where
  abbrev told : ℕ
  told = change_bits (hub_ports s.spec.hub) row

  nak_halt : (halted : Bool) → (if halted then (heard t2 (Some answer.Stall), s) else held_law s row
      s.held max t2 t3).0 ≡ Some answer.Nak → told ≡ 0
  nak_halt halted e = grind arith

nak_bits : (s : State) (row : List PortState) (ep max : ℕ) (t1 t2 t3 : Way)
    → ep ≡ status_number s.spec s.registers → tells_changes s.spec s.registers ≡ true
    → (in_law s row ep max t1 t2 t3).0 ≡ Some answer.Nak
    → change_bits (hub_ports s.spec.hub) row ≡ 0
nak_bits s row ep max t1 t2 t3 number tells e = grind (arith, law_is, nak_halt)

-- no bit is set, so no port has a change

bit_by : (o : Option PortState) → weight_of o 1 ≡ 0 → IfSome o (λ b. has_change b ≡ false)
bit_by o h = grind arith

bits_clear : (ports : ℕ) (row : List PortState) → ports ≤ 15 → change_bits ports row ≡ 0
    → (i : ℕ) → i < ports → IfSome (slice_get row i) (λ b. has_change b ≡ false)
bits_clear ports row few h i less = grind (arith, bit_by, none_counts)

-- The ports of the device

-- the port of a number below a device
pub port_of_row : (k : Ports) (j : ℕ) (p : List ℕ) (b : PortState) (s : State) (below : Ports)
    (i : ℕ) → place_at k j p ≡ Some (full b s below) → port_at k j (p ++ (suc i ∷ []))
    ≡ slice_get (row_of below) i
unfolding place_at port_at
port_of_row ended j p b s below i h = absurd (cc h)
port_of_row (vacant c k) zero [] b s below i h = absurd (cc h)
port_of_row (vacant c k) zero (n ∷ p) b s below i h = absurd (cc h)
port_of_row (vacant c k) (suc j) p b s below i h = port_of_row k j p b s below i h
port_of_row (taken c t a k) zero [] b s below i h = grind (arith, row_port)
port_of_row (taken c t a k) zero (zero ∷ p) b s below i h = absurd (cc h)
port_of_row (taken c t a k) zero (suc m ∷ p) b s below i h = port_of_row a m p b s below i h
port_of_row (taken c t a k) (suc j) p b s below i h = port_of_row k j p b s below i h

-- none of so many ports of the device there has a change bit set
abbrev pub AreClear : ℕ → World → Location → Type 0
AreClear ports w j = (n : ℕ) → 1 ≤ n → n ≤ ports
    → IfSome (port_there w.roots (path_to j ++ (n ∷ []))) (λ b. has_change b ≡ false)

-- the status endpoint of a configured hub of 15 ports at most is this one
pub record TellsBy (ep : ℕ) (v : State) : Type 0 where
  pub tells : tells_changes v.spec v.registers ≡ true
  pub number : ep ≡ status_number v.spec v.registers
  pub few : hub_ports v.spec.hub ≤ 15

module _ (t : Target) (ep : ℕ) (other : 1 ≤ ep) (w : World) (made : IsMade (in_attempt t ep) w)
    (j : Location) where
  abbrev now : World
  now = after (attempt (in_attempt t ep)) w

  -- the attempt leaves each port as it found it
  left_as : (n : ℕ) → port_there now.roots (path_to j ++ (n ∷ [])) ≡ port_there (at_attempt w).roots
      (path_to j ++ (n ∷ []))
  unfolding leaves_step
  left_as n = ap (λ (x : World). port_there x.roots (path_to j ++ (n ∷ [])))
      (made_is (in_attempt t ep) w made) ∙ made_port (in_attempt t ep) (at_attempt w)
      (path_to j ++ (n ∷ [])) (data_asks_nothing (in_attempt t ep) w (path_to j ++ (n ∷ [])) refl
      made.settled).leaves

  clear : (ports : ℕ) (b : PortState) (s : State) (below : Ports) → ports ≤ 15
      → place_on (at_attempt w).roots j ≡ Some (full b s below)
      → change_bits ports (row_of below) ≡ 0 → AreClear ports now j
  clear ports b s below few stood none zero least most = absurd (omega arith)
  clear ports b s below few stood none (suc i) least most =
      grind (arith, bits_clear, left_as, port_of_row)

  did_clear : {s : State} (v : State) → DidIn (in_attempt t ep) w j s v
      → outcome_in (in_attempt t ep) w ≡ outcome.Nak → is_at v t ≡ true → TellsBy ep v
      → AreClear (hub_ports v.spec.hub) now j
  did_clear v (DidIn.other d e) nak at by = false_true (grind arith)
  did_clear v (DidIn.silent d q o e) nak at by = absurd (cc (o, nak))
  did_clear {s = s} v (DidIn.asked d q b below stood x o e) nak at by =
      let far : (ep == 0) ≡ false = ne_eqb ep 0 (λ none. absurd (omega arith)) in
      let ran = in_kept s (row_of below) ep t.max x.first x.second x.third far in
      let heard = got_nak t.max (in_law s (row_of below) ep t.max x.first x.second x.third).0
      (sym o ∙ nak) in
      let none = nak_bits s (row_of below) ep t.max x.first x.second x.third
      (search by.number) (search by.tells) heard in
      clear (hub_ports v.spec.hub) b s below by.few stood (grind arith)

-- the last attempt of a poll was answered NAK by the hub that has the address
pub nak_clears : (t : Target) (ep : ℕ) → 1 ≤ ep → {old new : World} {last : Outcome}
    {outcomes : List Outcome} → AttemptLog (in_attempt t ep) old (last ∷ outcomes) new
    → last ≡ outcome.Nak → IsSettled old.roots → new.shared ≡ false → (j : Location) (v : State)
    → reach_on new.roots j ≡ true → state_on new.roots j ≡ Some v → is_at v t ≡ true → TellsBy ep v
    → AreClear (hub_ports v.spec.hub) new j
nak_clears t ep other (next w trail step) nak settled single j v on stands at by =
    let made : IsMade (in_attempt t ep) w = search (made_of, trail_settled) in
    let was : Was (DidIn (in_attempt t ep) w) w j v = grind (arith, each_in) in search did_clear

-- What is known of a hub

-- the accepted hub at a path
pub record HubThere (path : List ℕ) (entries : Entries) (facts : HubFacts) : Type 0 where
  pub device : Accepted
  pub found : finding_at path entries ≡ Some (Device device)
  pub told : device.hub ≡ Some facts

hub_facts_in-device : (o : Option Finding) {facts : HubFacts} → hub_facts_in o ≡ Some facts
    → (device : Accepted) × (o ≡ Some (Device device)) × (device.hub ≡ Some facts)
hub_facts_in-device (Some (Device device)) h = (device, refl, h)
hub_facts_in-device _ h = absurd (cc h)

pub hub_there : (path : List ℕ) (entries : Entries) (facts : HubFacts)
    → hub_facts_at path entries ≡ Some facts → HubThere path entries facts
hub_there path entries facts h = let x = hub_facts_in-device (finding_at path entries) h in
    record { device = x.0; found = x.1; told = x.2 }

-- its description has as many ports
pub facts_ports : (spec : Spec) (facts : HubFacts) → facts_of spec ≡ Some facts
    → facts.ports ≡ hub_ports spec.hub
facts_ports spec facts h = ap (λ (f : HubFacts). f.ports) (facts_given spec facts h)

few_by : (o : Option Hub) → IfSome o IsHub → hub_ports o ≤ 15
few_by o h = grind arith

-- A quiet poll

status_pipe : (device : Accepted) {facts : HubFacts} (below : Bool) (pipes : Pipes)
    → device.hub ≡ Some facts → ArePipesTo device below pipes → (pipe : Interrupt)
    × (pipes ≡ HubPipe pipe) × IsStatusPipe device below pipe
status_pipe device below pipes hub are = grind arith

-- the device that is reached at a path
record ReachedAt (options : HostOptions) (w : World) (entries : Entries) (j : Location)
    (device : Accepted)
    : Type 0 where
  state : State
  on : reach_on w.roots j ≡ true
  stands : state_on w.roots j ≡ Some state
  tells : IsTruthOf options entries (path_to j) device state

module _ {options : HostOptions} (w : World) {entries : Entries} {addresses : Addresses}
    (fits : Accounted options (roots_of w) entries addresses) (known : PortsListed w entries)
    (truthful : DevicesAccurate options w entries) where
  pub reached_at : (path : List ℕ) {device : Accepted}
      → finding_at path entries ≡ Some (Device device) → pending w.roots path ≡ false
      → reach w.roots path ≡ true
  reached_at path found none = grind (arith, listed_port)

  stands_at : (j : Location) {device : Accepted} → finding_at (path_to j) entries
      ≡ Some (Device device) → reach w.roots (path_to j) ≡ true
      → ReachedAt options w entries j device
  stands_at j {device = device} found on =
      let there : _ = reached_there w.roots (path_to j) on in
      record {
        state = there.0;
        on = on;
        stands = there.1;
        tells = truthful (path_to j) device there.0 (ap accepted_device_of found) on there.1;
      }

  heard_by : {j : Location} (device : Accepted) → ReachedAt options w entries j device
      → IsListening (path_to j) device w
  heard_by {j = j} device r = record {
    spot = j;
    state = r.state;
    is = refl;
    on = r.on;
    stands = r.stands;
    listens = record {
      at = grind arith;
      loud = (accepts r.state.spec options (tier_of (path_to j)) (known_supply (path_to j) entries)
          device.chosen r.tells.found.0).loud;
      hears = grind arith;
    };
  }

  pub heard_at : (path : List ℕ) {device : Accepted}
      → finding_at path entries ≡ Some (Device device) → reach w.roots path ≡ true
      → IsListening path device w
  heard_at [] found on = false_true on
  heard_at (zero ∷ p) found on = false_true on
  heard_at (suc j ∷ p) {device = device} found on = heard_by device (search stands_at)

module _ (h : HostState) (agrees : Agrees h.options h.entries h.addresses) (s : HostInvariant h)
    (still : h.world.fault ≡ None) where
  module _ {facts : HubFacts} (number : ℕ) (least : 1 ≤ number) (most : number ≤ facts.ports) where
    clear_by : (pipe : Interrupt) (old : World) {j : Location} (device : Accepted) {below : Bool}
        → device.hub ≡ Some facts → IsStatusPipe device below pipe → IsSettled old.roots
        → Waiting pipe.toggle (in_attempt pipe.target pipe.ep) old h.world
        → (r : ReachedAt h.options h.world h.entries j device) → {rest : Interrupt}
        → rest.ep ≡ pipe.ep → StatusPipeInSync rest r.state
        → IfSome (port_there h.world.roots (path_to j ++ (number ∷ [])))
        (λ b. b.connection_changed ≡ false)
    clear_by pipe old {j = j} device told is settled waiting r same level =
        let spec : IsSpec r.state.spec = sane_spec h.world.roots j.row j.rest r.state
        (s.order still).sane r.stands in
        let at : has_address r.state pipe.target ≡ true = grind (arith, eq-eqb) in
        let clear : AreClear (hub_ports r.state.spec.hub) h.world j =
        grind (arith, nak_clears) in grind arith

    silent_by : (path : List ℕ) {pipe rest : Interrupt} (old : World)
        → (there : HubThere path h.entries facts)
        → IsStatusPipe there.device (is_below_hub path) pipe
        → pipes_at path (table_in h) ≡ HubPipe rest
        → PolledThrough pipe old (Ok None) rest h.world → reach h.world.roots path ≡ true
        → IfSome (port_there h.world.roots (path ++ (number ∷ [])))
        (λ b. b.connection_changed ≡ false)
    silent_by [] old there is left through on = false_true on
    silent_by (zero ∷ p) old there is left through on = false_true on
    silent_by (suc j ∷ p) {pipe = pipe} {rest = rest} old there is left through on =
        let r = stands_at h.world (accounted h agrees s.rooted) (s.known still) (s.truthful still)
        (record { row = j; rest = p }) there.found on in
        let level : PipesInSync there.device (HubPipe rest) r.state =
        rw left at ((s.level still (suc j ∷ p)).level there.device r.state
        (search there.found) on r.stands) in
        clear_by pipe old there.device there.told is through.settled through.polls.asked r
        (grind arith) level

  -- the poll answered that there is nothing to tell
  pub poll_silent : (path : List ℕ) (pipes : Pipes) (old : World)
      → ArePipesIf (accepted_device_at path h.entries) (is_below_hub path) pipes
      → PipesPolled pipes old (Ok None) (pipes_at path (table_in h)) h.world
      → pending h.world.roots path ≡ false → IsSilent path h
  poll_silent path pipes old are polled none facts number at least most =
      let there = hub_there path h.entries facts at in
      let pipe : _ = status_pipe there.device (is_below_hub path) pipes there.told
      (rw there.found at are) in
      let through : (rest : Interrupt) × (pipes_at path (table_in h) ≡ HubPipe rest)
      × PolledThrough pipe.0 old (Ok None) rest h.world =
      rw pipe.1 at polled in
      let on = reached_at h.world (accounted h agrees s.rooted) (s.known still) (s.truthful still)
      path there.found none in search silent_by
