-- Devices hold the addresses that the table has for them, as the world goes on, the table changes,
-- and a port is handled.
use Rattle.std.proofs.Common.{◌≡◌, refl, sym, ap, subst, arith, length-append, Bool, true, false, ℕ}
use Rattle.std.proofs.Common.{List, Option, None, Some, Result, Ok, Err, is_err, if◌then◌else◌, ◌≤◌}
use Rattle.std.proofs.Common.{IsSome, OnOk}
use Rattle.usb_world.specs.{BusFault, World, roots_of, is_way}
use Rattle.usb_world.proofs.Interface.{way_apart, way_shorter, way_itself}
use Rattle.usb_hub.specs.{AddressMap, map_without, MapHolds, MapHoldsExcept, WhileBusWorks}
use Rattle.usb_hub.specs.{KeepsAddresses, HubPort, IsAt, Isolates, KeepsCleared, PortCleared}
use Rattle.usb_enum.specs.{Cause, EndsOwned, Lost, EnumFault, Memory, Finding}
use Rattle.usb_enum.specs.declared.finding.Finding.TheVariants.{Refused, Device}
use Rattle.std.specs.BTreeMap.{insert_entry}
use Rattle.usb_port.specs.{path_cmp, IsPath}
use Rattle.usb_table.specs.{Entries, has_at, Table, entered, KnownPort, without, finding_at}
use Rattle.usb_host.specs.{Forgets, HostState, claims, IsOwned, IsIsolated, HostMapHolds}
use Rattle.usb_host.specs.{StaysOwned, StaysSingle, KeepsOwned, HostFault, Round, table_in}
use Rattle.usb_host.specs.{IsRooted, root_of, PortOwned, KeepsPort, LeavesOwned, FinishesPort}
use Rattle.usb_host.specs.{DropsHub, BaresAbove, KeepsDisabled, StandsAt, StandsNowhere}
use Rattle.usb_host.specs.{OnlyBusSteps}
use Rattle.usb_host.proofs.entries.Agreements.{claims-without, claims-refused, claims_free}
use Rattle.usb_host.proofs.entries.Agreements.{claims_taken, claims-device}
use Rattle.usb_host.proofs.entries.Roots.{rooted_kept, rooted_dropped, rooted_came, rooted_stands}
use Rattle.usb_host.proofs.entries.Roots.{root_way}
use Rattle.usb_request.specs.{PORT_ENABLE}
use Rattle.usb_transfer.specs.{PipeFault}
use Rattle.arrayvec.specs.ArrayVec.{ArrayVec}
use Rattle.usb_host.proofs.PortLocations.{stands_at-claim, nowhere_reached}
use Rattle.usb_host.proofs.StepSums.{EnumerationAt}

-- Devices hold the addresses that the table has for them, as the world goes on and the table
-- changes.

pub till_as : {f g : AddressMap} {w : World} → ((x : List ℕ) → f x ≡ g x)
    → WhileBusWorks (MapHolds f) w → WhileBusWorks (MapHolds g) w
till_as same t = grind arith

-- Of what is at a path and below it nothing is known

pub record Opened (p : List ℕ) (f : AddressMap) (w : World) : Type 0 where
  pub claims : AddressMap
  pub owned : WhileBusWorks (MapHolds claims) w
  pub others : (x : List ℕ) → is_way p x ≡ false → claims x ≡ f x

opened_by : {p : List ℕ} (f : AddressMap) {w : World} → WhileBusWorks (MapHoldsExcept p f) w
    → (fault : Option BusFault) → w.fault ≡ fault → Opened p f w
opened_by f t None is = grind arith
opened_by f t (Some fault) is = record {
  claims = f;
  owned = grind arith;
  others = λ x _. refl;
}

pub opened_if_owned : {p : List ℕ} {f : AddressMap} {w : World}
    → WhileBusWorks (MapHoldsExcept p f) w → Opened p f w
opened_if_owned {f = f} t = opened_by f t _ refl

opened_closed : {p : List ℕ} {f : AddressMap} {w : World} → Opened p f w
    → WhileBusWorks (MapHoldsExcept p f) w
opened_closed o = grind arith

pub but_all : {p : List ℕ} {f : AddressMap} {w : World} → WhileBusWorks (MapHolds f) w
    → WhileBusWorks (MapHoldsExcept p f) w
but_all t = grind arith

pub but_kept : {p : List ℕ} {f : AddressMap} {old new : World} → KeepsAddresses old new
    → WhileBusWorks (MapHoldsExcept p f) old → WhileBusWorks (MapHoldsExcept p f) new
but_kept k t =
    let o = opened_if_owned t in
    opened_closed (search k.kept)

-- nor of what is further above
pub but_above : (p : List ℕ) {q : List ℕ} {f : AddressMap} {w : World} → is_way p q ≡ true
    → WhileBusWorks (MapHoldsExcept q f) w → WhileBusWorks (MapHoldsExcept p f) w
but_above p on t = grind (arith, way_apart)

-- Nothing is reachable at a path or below it

cleared_as : (p : List ℕ) (f g : AddressMap) → ((x : List ℕ) → is_way p x ≡ false → g x ≡ f x)
    → (x : List ℕ) (b : Bool) → is_way p x ≡ b
    → (if b then None else g x) ≡ (if b then None else f x)
cleared_as p f g others x b way = grind arith

bare_as : (p : List ℕ) (f : AddressMap) {old new : World} → (o : Opened p f old)
    → WhileBusWorks (MapHolds (map_without o.claims p)) new
    → WhileBusWorks (MapHolds (map_without f p)) new
bare_as p f o t = till_as (λ x. cleared_as p f o.claims o.others x _ refl) t

-- a port stands where its hub is, whatever is on it
pub at_others : (f g : AddressMap) (port : HubPort) (p : List ℕ)
    → ((x : List ℕ) → is_way p x ≡ false → g x ≡ f x) → IsAt f port p → IsAt g port p
at_others f g port p others at = grind (arith, length-append, way_shorter)

pub bare_port : (port : HubPort) (p : List ℕ) {f : AddressMap} {old new : World}
    → Isolates port old new → IsAt f port p → WhileBusWorks (MapHoldsExcept p f) old
    → WhileBusWorks (MapHolds (map_without f p)) new
bare_port _ p {f = f} b at t =
    let o = opened_if_owned t in
    bare_as p f o (search (at_others, b.bares))

-- The table follows

pub forgotten : {path : List ℕ} {a b : HostState} → Forgets path a b → IsIsolated path a
    → IsOwned b
forgotten f bare = grind (arith, claims-without)

pub refused : (path : List ℕ) (cause : Cause) (es : Entries) {new : Entries} {w : World}
    → has_at path es ≡ false → new ≡ insert_entry path_cmp es path (Refused cause)
    → WhileBusWorks (MapHolds (claims es)) w → WhileBusWorks (MapHolds (claims new)) w
refused path cause es away is t =
    till_as (grind (arith, claims-refused)) t

-- A call of the host that changes no entry

pub owning_kept : (a b : HostState) → a.stopped ≡ false → b.entries ≡ a.entries
    → KeepsAddresses a.world b.world → HostMapHolds a → HostMapHolds b
owning_kept a b going same k o =
    let t : IsOwned b = rw same (k.kept (claims a.entries) (o.owned going)) in grind arith

pub stays_kept : (a b : HostState) → b.entries ≡ a.entries → roots_of b.world ≡ roots_of a.world
    → KeepsAddresses a.world b.world → StaysOwned a b
stays_kept a b same roots k = record {
  stays = λ o. subst (λ (es : Entries). WhileBusWorks (MapHolds (claims es)) b.world) (sym same)
      (k.kept (claims a.entries) o);
  rooted = rooted_kept a b same roots;
}

-- One part of a round after another

pub stays_owned_none : {h : HostState} → StaysOwned h h
stays_owned_none = record { stays = λ o. o; rooted = λ r. r }

pub stays_owned_then : {a b c : HostState} → StaysOwned a b → StaysOwned b c → StaysOwned a c
stays_owned_then p q = search (q.stays, p.stays, q.rooted, p.rooted)

pub single_then : {a b c : HostState} → StaysOwned a b → StaysSingle b c → StaysSingle a c
single_then p q = record { single = λ o. q.single (p.stays o) }

-- A whole round

pub round_owning : (result : Result Round HostFault) (a b c : HostState) → a.stopped ≡ false
    → c.world ≡ b.world → c.entries ≡ b.entries → c.stopped ≡ is_err result → KeepsOwned a result b
    → HostMapHolds a → HostMapHolds c
round_owning result a b c going world entries stops k o = grind arith

-- Devices keep the addresses that the table has for them while a port is handled.

-- A call that failed

-- Only the world goes on

pub owned_rests : (a : HostState) {b : HostState} → OnlyBusSteps a b
    → KeepsAddresses a.world b.world → IsOwned a → IsOwned b
owned_rests a {b = b} r k o = rw (ap (λ (h : HostState). h.entries) r) (k.kept (claims a.entries) o)

pub but_rests : (path : List ℕ) (a b : HostState) → OnlyBusSteps a b
    → KeepsAddresses a.world b.world → WhileBusWorks (MapHoldsExcept path (claims a.entries))
    a.world → WhileBusWorks (MapHoldsExcept path (claims b.entries)) b.world
but_rests path a b r k o = rw (ap (λ (h : HostState). h.entries) r) (but_kept k o)

pub rests_keeps_port : (path : List ℕ) (a : HostState) {result : Result (Unit {0}) EnumFault}
    (b : HostState) → OnlyBusSteps a b → roots_of b.world ≡ roots_of a.world
    → KeepsAddresses a.world b.world → KeepsPort path a result b
rests_keeps_port path a b r roots k = grind (arith, owned_rests)

pub stays_keeps_port : (path : List ℕ) (a : HostState) {b : HostState} → StaysOwned a b
    → KeepsPort path a (Ok tt) b
stays_keeps_port path a s = grind arith

-- another part comes first
pub port_then : {path : List ℕ} {a b : HostState} {result : Result (Unit {0}) EnumFault}
    {c : HostState} → StaysOwned a b → KeepsPort path b result c → KeepsPort path a result c
port_then s k = search (k.ends, s.stays, k.rooted, s.rooted)

pub stays_rests : (a b : HostState) → OnlyBusSteps a b → roots_of b.world ≡ roots_of a.world
    → KeepsAddresses a.world b.world → StaysOwned a b
stays_rests a b r roots k = grind (arith, owned_rests)

-- A port is cleared, and what was there is forgotten

pub bares_after : {port : HubPort} {a b c : World} → KeepsAddresses a b → Isolates port b c
    → Isolates port a c
bares_after k x = search (x.bares, k.kept)

pub stays_bare : {path : List ℕ} {port : KnownPort} {a b c : HostState} → StandsAt path port a
    → OnlyBusSteps a b → roots_of b.world ≡ roots_of a.world → Isolates port.port a.world b.world
    → Forgets path b c → StaysOwned a c
stays_bare {path = path} {a = a} {b = b} {c = c} s r roots bares f = record {
  stays = λ o.
      let bare : WhileBusWorks (MapHolds (map_without (claims a.entries) path)) b.world =
      bares.bares (claims a.entries) path (stands_at-claim s) o in
      forgotten f (grind arith);
  rooted = grind (arith, rooted_dropped);
}

-- What an enumeration leaves, and what is entered

enumerated_owned : {n : ℕ} {path : List ℕ} {port : KnownPort} {result : Result Finding EnumFault}
    {a b : HostState} → EnumerationAt n path port result a b → IsOwned a
    → EndsOwned (claims a.entries) path result b.world
enumerated_owned e o = grind (arith, claims_free, claims_taken, stands_at-claim)

found_single : (f : AddressMap) (p : List ℕ) (finding : Finding) (w : World)
    → EndsOwned f p (Ok finding) w → w.shared ≡ false
found_single f p finding w ends = grind arith

found_entered : (path : List ℕ) (finding : Finding) (es : Entries) {new : Entries} (w : World)
    → has_at path es ≡ false → new ≡ insert_entry path_cmp es path finding
    → EndsOwned (claims es) path (Ok finding) w → WhileBusWorks (MapHolds (claims new)) w
found_entered path (Device device) es w away is ends =
    till_as (grind (arith, claims-device)) ends
found_entered path (Refused cause) es w away is ends = search refused

port_owned_none : (path : List ℕ) (fault : EnumFault) (h : HostState)
    → EndsOwned (claims h.entries) path (Err fault) h.world → PortOwned path (Err fault) h
port_owned_none path fault h ends = grind arith

module _ {n : ℕ} {path : List ℕ} {port : KnownPort} {a b : HostState} where
  pub found_ends : {finding : Finding} → EnumerationAt n path port (Ok finding) a b
      → b.entries ≡ insert_entry path_cmp a.entries path finding → KeepsPort path a (Ok tt) b
  found_ends e is = search (enumerated_owned, found_entered, rooted_came, rooted_stands)

  -- for what is found there is no memory
  pub found_lost : {finding : Finding} → EnumerationAt n path port (Ok finding) a b
      → b.entries ≡ a.entries → KeepsPort path a (Err Memory) b
  found_lost {finding = finding} e same = record {
    ends = λ o. found_single (claims a.entries) path finding b.world (enumerated_owned e o);
    rooted = rooted_kept a b same e.went.spends.roots;
  }

  pub found_fails : {fault : EnumFault} → EnumerationAt n path port (Err fault) a b
      → b.entries ≡ a.entries → KeepsPort path a (Err fault) b
  found_fails {fault = fault} e same = record {
    ends = λ o. port_owned_none path fault b
        (subst (λ (es : Entries). EndsOwned (claims es) path (Err fault) b.world) (sym same)
        (enumerated_owned e o));
    rooted = rooted_kept a b same e.went.spends.roots;
  }

-- A port was served; where its hub is lost, that is dropped

pub keeps_owned : (result : Result (Unit {0}) HostFault) (a c : HostState)
    → (IsOwned a → LeavesOwned result c) → (IsRooted a → OnOk result (IsRooted c))
    → KeepsOwned a result c
keeps_owned result a c f g = grind arith

pub port_finished : (path : List ℕ) (port : KnownPort) {served : Result (Unit {0}) EnumFault}
    (a : HostState) {b : HostState} (result : Result (Unit {0}) HostFault) (c : HostState)
    → StandsAt path port a → roots_of b.world ≡ roots_of a.world → KeepsPort path a served b
    → FinishesPort path served b result c → KeepsOwned a result c
port_finished path port a result c s roots k f =
    keeps_owned result a c (λ o. f.ends (k.ends o))
    (λ r. f.rooted (k.rooted r) (λ lost. subst (λ n. root_of path ≤ n) (sym roots)
    (rooted_stands path port a s r)))

-- The way up from a hub

pub none_disabled : {path : List ℕ} {h : HostState} → StandsNowhere path h
    → KeepsDisabled path h (Ok false) h
none_disabled s = grind (arith, nowhere_reached, way_itself)

bare_rests : (path : List ℕ) (a b : HostState) → OnlyBusSteps a b
    → WhileBusWorks (MapHolds (map_without (claims a.entries) path)) b.world → IsIsolated path b
bare_rests path a b r t = rw (ap (λ (h : HostState). h.entries) r) t

port_bared : (path : List ℕ) (port : KnownPort) (a b : HostState) → StandsAt path port a
    → OnlyBusSteps a b → Isolates port.port a.world b.world → BaresAbove path path a b
port_bared path port a b s r bares = search (bare_port, bare_rests, stands_at-claim, way_itself)

pub cleared_enable_disabled : {path : List ℕ} {port : KnownPort} (a b : HostState)
    → StandsAt path port a → OnlyBusSteps a b
    → KeepsCleared port.port PORT_ENABLE a.world (Ok tt) b.world → KeepsDisabled path a (Ok true) b
cleared_enable_disabled a b s r k = search (port_bared, k.bare)

pub port_failed : {path : List ℕ} {port : KnownPort} (a b : HostState) (feature : ℕ)
    (fault : PipeFault) → StandsAt path port a
    → PortCleared port.port feature a.world (Err fault) b.world → KeepsAddresses a.world b.world
    → KeepsDisabled path a (Ok false) b
port_failed a b feature fault s clears k = grind arith

-- what was disabled stands above where the way up began
pub bares_above : (first path : List ℕ) (a b : HostState) {c : HostState} → is_way path first ≡ true
    → OnlyBusSteps a b → KeepsAddresses a.world b.world → BaresAbove path path b c
    → BaresAbove first path a c
bares_above first path a b on r k x = search (but_above, but_rests, x.bares)

-- A hub is dropped

pub drop_not_done : (hub : List ℕ) (a b : HostState) {fault : HostFault}
    → KeepsAddresses a.world b.world → DropsHub hub a (Err fault) b
drop_not_done hub a b k =
    record { lost = tt; ends = λ o. (but_kept k o).single; rooted = λ r at. tt }

-- what was at a path and below it is forgotten, and a lost hub is listed there
pub record LostListed (lost : List ℕ) (b d : HostState) : Type 0 where
  pub path : IsPath lost
  pub left : HostState
  pub forgot : Forgets lost b left
  pub others : d ≡ record left {
    entries = d.entries;
    pipes = d.pipes;
    addresses = d.addresses;
  }
  pub said : ArrayVec ℕ
  pub table : table_in d ≡ entered lost (Refused Lost) said (table_in left)

module _ {lost : List ℕ} {b d : HostState} (x : LostListed lost b d) where
  pub lost_world : d.world ≡ b.world
  lost_world = grind arith

  pub lost_options : d.options ≡ b.options
  lost_options = grind arith

  pub lost_entries : d.entries ≡ insert_entry path_cmp x.left.entries lost (Refused Lost)
  lost_entries = ap (λ (t : Table). t.entries) x.table

-- what is entered for it has no address
pub drop_ends : {hub lost : List ℕ} {a b d : HostState} → LostListed lost b d → OnlyBusSteps a b
    → roots_of b.world ≡ roots_of a.world → BaresAbove hub lost a b → DropsHub hub a (Ok tt) d
drop_ends {hub = hub} {lost = lost} {a = a} {b = b} {d = d} l r roots x = record {
  lost = grind arith;
  ends = λ o. rw (ap (λ (h : HostState). h.world) l.others) (refused lost Lost l.left.entries
      l.forgot.gone (lost_entries l) (forgotten l.forgot (x.bares o)));
  rooted = rooted;
}
  where
    left : l.left.entries ≡ without lost a.entries
    left = grind arith

    still : roots_of l.left.world ≡ roots_of a.world
    still = grind arith

    rooted : IsRooted a → root_of hub ≤ roots_of a.world → IsRooted d
    rooted q at =
        let here : root_of lost ≤ roots_of a.world = grind (arith, root_way) in
        rooted_came lost (Refused Lost) l.left d (lost_entries l) (grind arith) (rw still here)
        (rooted_dropped lost a l.left left still q)

-- a hub that is known does not answer

pub dropped_hub_owned : (hub : List ℕ) (a : HostState) {b : HostState}
    {result : Result (Unit {0}) HostFault} (c : HostState)
    → IsSome (finding_at hub b.entries) → StaysOwned a b → DropsHub hub b result c
    → KeepsOwned a result c
dropped_hub_owned hub a c listed s d = grind (arith, keeps_owned)
