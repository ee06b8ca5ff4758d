-- What is done at the ports, and what is left where the host stopped.
use Rattle.std.proofs.Common.{◌≡◌, ◌∙◌, refl, sym, arith, true, false, ℕ, ◌+◌, ◌≤◌, ◌/◌, ◌%◌, ◌^◌}
use Rattle.std.proofs.Common.{◌≢◌, bit_and, List, Ok, Err, OnOk, Result, inl, inr, ap, length}
use Rattle.std.proofs.Common.{length-append, ◌<◌, not, Bool, [], ◌∷◌, ◌++◌, Some, OnErr}
use Rattle.std.proofs.Common.{MatchResult, None}
use Rattle.std.proofs.lemmas.Bool.{eq-eqb, ne_eqb}
use Rattle.std.proofs.lemmas.Nat.{and_mask}
use Rattle.usb_port.specs.{has_bit, parent_of, port_on_hub, IsPath, IsPortNumber, is_reset}
use Rattle.usb_port.specs.{PortCall, PortStatus}
use Rattle.usb_world.specs.{World}
use Rattle.usb_transfer.specs.{FaultAfter, PipeFault}
use Rattle.usb_transfer.specs.declared.fault.PipeFault.TheVariants as pipe
use Rattle.usb_host.specs.{BitsHandledSo, HostFault, OwnServed, ReportHandled, own_reported}
use Rattle.usb_host.specs.{HostState, HandledSo, claims, HasLost, IsOwned, Watches, EndsAs}
use Rattle.usb_host.specs.{StandsAt, HostProgress, HostSteps, OnlyBusSteps, HostInvariant}
use Rattle.usb_host.specs.{DoneWhere, EndsAt, ForgetsOnWay, HandlesAt, LookedOnce, LookedOrLost}
use Rattle.usb_host.specs.{LosesParent, Renews, ServedAt, ServedOrLost, StaysOrForgets, TidiesTold}
use Rattle.usb_host.specs.{was_tidied, was_looked_at, was_lost, looked_once, lost_once, CutAt}
use Rattle.usb_host.specs.{StaysWhere}
use Rattle.usb_port.proofs.Interface.{parent, rejoined}
use Rattle.usb_world.specs.{is_way}
use Rattle.usb_world.proofs.Interface.{at_or_below_way, way_parent, way_trans, way_itself}
use Rattle.usb_hub.specs.{AddressMap, MapHolds, WhileBusWorks, HubPort, IsAt, CommandsPort}
use Rattle.usb_hub.specs.{PortCallDone, PortStatusAt}
use Rattle.usb_enum.specs.{EnumFault, ParentLost, Bus, Memory}
use Rattle.usb_table.specs.{KnownPort, Entries, without}
use Rattle.usb_host.proofs.devices.Owners.{owned_rests}
use Rattle.usb_host.proofs.StepSums.{host_rests_then, went_before}
use Rattle.usb_host.proofs.knowledge.HandledPorts.{rests_stands}
use Rattle.usb_host.proofs.knowledge.SettledListings.{port_number}
use Rattle.usb_host.proofs.PortLocations.{stands_at-claim}
use Rattle.usb_host.proofs.devices.Pipes.{AllStay, stays_where, where_joined}

-- How what a hub reported is handled.

-- A bit of a byte

pub bit_so : (bits n : ℕ) → bit_and (bits / 2 ^ n) 1 ≡ 1 → has_bit bits n ≡ true
unfolding has_bit
bit_so bits n is = eq-eqb (bits / 2 ^ n % 2) 1 (sym (and_mask (bits / 2 ^ n) 1) ∙ is)

pub bit_not : (bits n : ℕ) → bit_and (bits / 2 ^ n) 1 ≢ 1 → has_bit bits n ≡ false
unfolding has_bit
bit_not bits n not = ne_eqb (bits / 2 ^ n % 2) 1 (λ is. not (and_mask (bits / 2 ^ n) 1 ∙ is))

-- a poll that failed took an attempt, where it was not the bus that failed
pub failed_more : (old new : World) (fault : PipeFault) → ((told : _) → fault ≡ pipe.Bus told → ⊥)
    → FaultAfter 0 old fault new → old.attempts + 1 ≤ new.attempts
failed_more old new fault other x = grind arith

-- What a hub reported is handled

pub own_reports : (hub : List ℕ) (bits : ℕ) (result : Result (Unit {0}) HostFault)
    (old new : HostState) → bits ≡ 1 → OnOk result (OwnServed hub old new)
    → OnOk result (ReportHandled hub bits old new)
own_reports hub bits (Ok done) old new is own = own_reported is own
own_reports hub bits (Err fault) old new is own = tt

pub ports_report : (hub : List ℕ) (bits : ℕ) (result : Result (Unit {0}) HostFault)
    (old new : HostState) → bits ≢ 1 → OnOk result (BitsHandledSo hub bits 16 old new)
    → OnOk result (ReportHandled hub bits old new)
ports_report hub bits result old new other ports = grind arith

-- How the parts of a port's handling make up what was done at the port.

-- Requests

-- a call that succeeded was done at its port
pub call_done : {port : HubPort} {c : PortCall} {old new : World} → (is_reset c ≡ true → ⊥)
    → CommandsPort port (Some c) old (Ok tt) new → (f : AddressMap) (p : List ℕ) → IsAt f port p
    → WhileBusWorks (MapHolds f) old → PortCallDone p c old new
call_done other calls f p at owned = grind arith

pub done_not : {b : Bool} (p : List ℕ) (c : PortCall) (old new : World) → b ≡ false → new ≡ old
    → DoneWhere b p c old new
done_not p c _ _ is same = rw is same

-- Entries

-- what is taken out below a path goes with the path
pub without-way : (lost path : List ℕ) → is_way lost path ≡ true → (es : Entries)
    → without lost (without path es) ≡ without lost es
without-way _ _ _ [] = refl
without-way lost path way (e ∷ es) =
    let rest = without-way lost path way es in grind (arith, at_or_below_way, way_trans)

-- a hub above the port is lost, whatever was forgotten at the port before
pub loses_then : (path : List ℕ) (old : Entries) {mid new : Entries} → StaysOrForgets path old mid
    → LosesParent path mid new → LosesParent path old new
loses_then path old h x = grind (arith, way_parent, way_trans, without-way)

pub renews_by : {b : Bool} (path : List ℕ) (old new : Entries) {c : Bool} → b ≡ c
    → Renews c path old new → Renews b path old new
renews_by _ _ _ is x = rw is x

-- A port

module _ {path : List ℕ} {port : KnownPort} {a b : HostState} (s : StandsAt path port a)
    (r : OnlyBusSteps a b) {n : ℕ} (went : HostSteps n a b) (o : IsOwned a) where
  stays : b.entries ≡ a.entries
  stays = ap (λ (h : HostState). h.entries) r

  -- the hub was lost as it was asked for the status
  pub status_failed : (fault : EnumFault) → ServedOrLost path a (Err fault) b
  status_failed fault = inl stays

  pub cleared_failed : (fault : EnumFault) → LookedOrLost path a (Err fault) b
  cleared_failed _ = inl stays

  module _ {status : PortStatus} (x : Watches port.port a.world (Ok status) b.world) where
    told_now : PortStatusAt path status a.world b.world
    told_now = x.told (claims a.entries) path (stands_at-claim s) o status refl

    owned_now : IsOwned b
    owned_now = owned_rests a r x.addresses o

    -- no change of connection was told
    pub serves_tidied : status.connection_changed ≡ false
        → (result : Result (Unit {0}) EnumFault) (c : HostState) → OnlyBusSteps b c
        → TidiesTold port.port status b result c → ServedOrLost path a result c
    serves_tidied off (Ok done) c q t = was_tidied
        (search (host_rests_then, owned_now, rests_stands, stands_at-claim, told_now, t.clears))
    serves_tidied off (Err fault) c q t = grind arith

    -- one was
    pub serves_looked : status.connection_changed ≡ true
        → (result : Result (Unit {0}) EnumFault) (c : HostState)
        → (IsOwned b → LookedOrLost path b result c) → ServedOrLost path a result c
    serves_looked on (Ok done) c x = was_looked_at _ b told_now on r (x owned_now)
    serves_looked on (Err fault) c x = rw stays at (x owned_now)

-- what stood there was forgotten, and no more was done
pub found_failed : (path : List ℕ) (a c d : HostState) (fault : EnumFault)
    → c.entries ≡ without path a.entries → d.entries ≡ c.entries → LookedOrLost path a (Err fault) d
found_failed path a c d fault gone same = inr (same ∙ gone)

-- A port was handled

pub handled_at : (path : List ℕ) (served : Result (Unit {0}) EnumFault)
    (result : Result (Unit {0}) HostFault) (a b c : HostState) → EndsAs served result
    → EndsAt path served b result c → ServedOrLost path a served b → OnOk result (ServedAt path a c)
handled_at path (Ok done) (Ok x) a b c ends left s = rw left s
handled_at path (Err ParentLost) (Ok x) a b c ends left s =
    was_lost (loses_then _ a.entries s left)
handled_at path (Err (Bus fault)) (Ok x) a b c ends left s = absurd (cc ends)
handled_at path (Err Memory) (Ok x) a b c ends left s = absurd (cc ends)
handled_at path _ _ a b c ends left s = tt

pub handled_once : (path : List ℕ) (looked : Result (Unit {0}) EnumFault) (a b c : HostState)
    → EndsAs looked (Ok tt) → EndsAt path looked b (Ok tt) c → LookedOrLost path a looked b
    → LookedOnce path a c
handled_once _ (Ok _) a b c _ left s = looked_once (rw left s)
handled_once _ (Err ParentLost) a b c _ left s = lost_once (loses_then _ a.entries s left)
handled_once path _ a b c ends left s = absurd (cc ends)

pub handles_at : (path : List ℕ) (due : Type 0) (result : Result (Unit {0}) HostFault)
    (a c : HostState) → OnOk result (due → HostProgress a c)
    → (HostInvariant a → OnOk result (ServedAt path a c)) → OnOk result (HandledSo path a c)
    → OnOk result (HandlesAt path due a c)
handles_at _ _ (Ok _) a c x y z = record { advances = x; served = y; order = z }
handles_at _ _ (Err _) a c x y z = tt

-- a hub that was dropped is the port's own, or stands above it; so does one that could not be
pub loses_parent : (path hub : List ℕ) (old new : Entries) (result : Result (Unit {0}) HostFault)
    → parent_of path ≡ Some hub → OnOk result (HasLost hub old new)
    → OnErr result (ForgetsOnWay hub old new)
    → MatchResult result (λ _. LosesParent path old new) (λ _. ForgetsOnWay path old new)
loses_parent path hub old new result above x y = grind (arith, way_parent, way_trans)

pub same_last : (q : List ℕ) {m n : ℕ} → q ++ m ∷ [] ≡ q ++ n ∷ [] → m ≡ n
same_last [] e = cc e
same_last (i ∷ q) e = same_last q (cc e)

-- a path that ends in a port's number goes on to it from a shorter one
pub pushed_part : (hub : List ℕ) (number : ℕ) → 1 ≤ length hub → IsPath (hub ++ (number ∷ []))
    → IsPortNumber number × (length hub < 7)
pushed_part hub number least is =
    let long : length (hub ++ (number ∷ [])) ≡ length hub + 1 = length-append hub (number ∷ []) in
    let last = same_last hub {m = number} {n = port_on_hub (hub ++ (number ∷ []))}
    (search (parent, rejoined)) in grind (arith, port_number)

-- What is left at a port where the host stopped.

pub on_errors : {A E : Type 0} (result : Result A E) (P : Type 0) → P → OnErr result P
on_errors result P p = grind arith

-- the host stopped after a part
pub cut_after : (So : Type 0) {a b : HostState} (c : HostState)
    (result : Result (Unit {0}) EnumFault) → AllStay a b → OnErr result (StaysWhere So b c)
    → OnErr result (StaysWhere So a c)
cut_after So c (Ok done) first last = tt
cut_after So {a = a} {b = b} c (Err fault) first last =
    where_joined a b c (λ so. so) (stays_where a b first) last

-- Entries

-- nothing is forgotten, or what stood at the path
pub forgets_there : (path : List ℕ) {old new : Entries} → StaysOrForgets path old new
    → ForgetsOnWay path old new
forgets_there path x = search way_itself

-- what stood at a path, and then on its way
forgets_then : (path : List ℕ) (old : Entries) {mid new : Entries} → StaysOrForgets path old mid
    → ForgetsOnWay path mid new → ForgetsOnWay path old new
forgets_then path old h x = grind (arith, forgets_there, without-way)

pub served_left : (path : List ℕ) (served : Result (Unit {0}) EnumFault) (a b : HostState)
    → ServedOrLost path a served b → OnErr served (StaysOrForgets path a.entries b.entries)
served_left path served a b x = grind arith

pub looked_left : (path : List ℕ) (looked : Result (Unit {0}) EnumFault) (a b : HostState)
    → LookedOrLost path a looked b → OnErr looked (StaysOrForgets path a.entries b.entries)
looked_left path looked a b x = grind arith

cut_entries : (path : List ℕ) (served : Result (Unit {0}) EnumFault) (fault : HostFault)
    (a b d : HostState) → EndsAs served (Err fault) → EndsAt path served b (Err fault) d
    → OnErr served (StaysOrForgets path a.entries b.entries)
    → ForgetsOnWay path a.entries d.entries
cut_entries path served fault a b d ends left x = grind (arith, forgets_then, forgets_there)

-- Bulk pipes

cut_bulk : (n : ℕ) (served : Result (Unit {0}) EnumFault) (fault : HostFault) (a b d : HostState)
    → HostSteps n b d → EndsAs served (Err fault)
    → OnErr served (StaysWhere (b.world.fault ≡ None) a b)
    → StaysWhere (d.world.fault ≡ None) b d → StaysWhere (d.world.fault ≡ None) a d
cut_bulk n (Ok done) fault a b d went ends x y = absurd (cc ends)
cut_bulk n (Err why) fault a b d went ends x y = search (went_before, where_joined)

-- A port was served, and its hub dropped where that was lost; one of them failed

pub port_cut : {n : ℕ} (path : List ℕ) (served : Result (Unit {0}) EnumFault)
    (result : Result (Unit {0}) HostFault) (a b d : HostState) → HostSteps n b d
    → EndsAs served result → EndsAt path served b result d
    → (HostInvariant a → OnErr served (StaysOrForgets path a.entries b.entries))
    → (HostInvariant a → OnErr served (StaysWhere (b.world.fault ≡ None) a b))
    → (HostInvariant a → OnErr result (StaysWhere (d.world.fault ≡ None) b d))
    → OnErr result (HostInvariant a → CutAt path a d)
port_cut path served (Ok done) a b d went ends left entries first last = tt
port_cut {n = n} path served (Err fault) a b d went ends left entries first last = λ i. record {
  entries = grind (arith, cut_entries);
  bulk = cut_bulk n served fault a b d went ends (first i) (last i);
}
