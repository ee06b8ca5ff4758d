-- What requests at a port leave, one after the other.
use Rattle.usb_device.specs.{path_to}
use Rattle.std.proofs.Common.{◌≡◌, inl, inr, refl, sym, ap, subst, ◌∙◌, ℕ, true, false, List}
use Rattle.std.proofs.Common.{Option, None, Some, Result, Ok, Err, IfOk, OnOk, ◌⊎◌, ◌+◌, ◌*◌, ◌≤◌}
use Rattle.std.proofs.Common.{arith, Bool, IfErr, IsOk}
use Rattle.std.proofs.lemmas.List.{same_from_push}
use Rattle.usb_request.specs.{PORT_ENABLE, C_PORT_CONNECTION, C_PORT_ENABLE, C_PORT_RESET}
use Rattle.usb_port.specs.{PortStatus, PortCall, ClearEnable, ClearConnectionChange}
use Rattle.usb_port.specs.{ClearResetChange, clear_call, is_reset}
use Rattle.usb_hub.specs.{gives_power, KeepsAll, AddressMap, MapHolds, WhileBusWorks}
use Rattle.usb_hub.specs.{KeepsAddresses}
use Rattle.usb_world.specs.{pending, here, World, HasFault, BusFault}
use Rattle.usb_world.proofs.Interface.{course_joined, course_wider, pending_persists}
use Rattle.usb_bus.specs.{StepRun}
use Rattle.usb_hub.proofs.Interface.{keeps_none, keeps_then, live_port}
use Rattle.usb_transfer.specs.{NoThreeDamaged, Target, PipeFault, IsNoBusFault, FaultAfter}
use Rattle.usb_transfer.specs.{write_bound}
use Rattle.usb_transfer.specs.declared.fault.PipeFault.TheVariants as pipe
use Rattle.usb_hub.specs.{HubPort, Root, External, IsAt, KeepsDevices, KeepsAsked, KeepsCleared}
use Rattle.usb_hub.specs.{ReadsPort, CommandsPort, IsCall, PortRead, TouchesNoPort, NoHubFailed}
use Rattle.usb_hub.specs.{ClearsOfPort, PortCleared, order_bound, status_bound, ClearsOfHub}
use Rattle.usb_hub.specs.{StillWorks, WorksAfter}
use Rattle.usb_hub.proofs.Interface.{keeps_devices_none, hub_change_works, read_works, all_none}
use Rattle.usb_hub.proofs.Interface.{all_then}
use Rattle.usb_enum.specs.{EnumFault, ParentLost, CanFail, fault_at_port, at_port, IsInOrder}
use Rattle.usb_enum.specs.{read_bound, Bus, EnumWorks}
use Rattle.usb_enum.proofs.Interface.{devices_then, went_in_order, went_three}
use Rattle.usb_host.specs.{LetsGoOn, RestElsewhere, HasWay, IsLost, Watches, Tidies, ClearsChange}
use Rattle.usb_host.specs.{Decides, BaresPort, ClearsReset, ClearsConnection, clearing_bound}
use Rattle.usb_host.specs.{HasOnlyWorldChanges, HostState, ProgressOnOk, IsDue, Requested, Shown}
use Rattle.usb_host.specs.{HostRuns, HostSteps, ClearsError, ClearsFeature, ClearsOthers, ClearsOwn}
use Rattle.usb_host.specs.{ClearsPort, ClearsWhere, SettlesPort, ShowsPort, TidiesPort}
use Rattle.usb_host.specs.{ClearsAndReads, ClearsTold, ClearsBoth, ClearsReported, DisablesAfter}
use Rattle.usb_host.specs.{DoneWhere, first_failed, is_stuck, next_done}
use Rattle.usb_host.proofs.StepSums.{went_before, status_read_goes, goes_by, host_goes_none}
use Rattle.usb_host.proofs.StepSums.{host_goes_then}
use Rattle.usb_host.proofs.payments.Backlogs.{call_all, connection_done, reset_done}
use Rattle.usb_host.proofs.rests.ClearedPorts.{cleared_way, told_decides, decided_stays, bares_kept}
use Rattle.usb_host.proofs.rests.ClearedPorts.{keeps_each_then, cleared_steady}
use Rattle.usb_host.proofs.devices.Owners.{bares_after}
use Rattle.usb_host.proofs.knowledge.TidiedPorts.{Tidy, enable, reset, tidy_call, holds_at_then}
use Rattle.usb_host.proofs.knowledge.TidiedPorts.{holds_same, tidied_holds}
use Rattle.usb_request.specs.declared.hub_feature.TheConstants.{C_PORT_OVER_CURRENT, C_PORT_SUSPEND}
use Rattle.usb_world.proofs.Interface.{decided}
use Rattle.usb_bus.proofs.Interface.{went_then}
use Rattle.usb_table.specs.{IsAskable}
use Rattle.usb_host.proofs.Services.{call_done, done_not}

-- What requests to a port keep, as the host tells of them.

-- How a fault is told

pub goes_sound : (A B : Type 0) (fault : PipeFault) → LetsGoOn {A = A} (Err (fault_at_port fault))
    → IsNoBusFault {A = B} (Err fault)
goes_sound A B fault h = grind arith

pub sound_by : {A : Type 0} (result : Result A PipeFault) → LetsGoOn (at_port result)
    → IsNoBusFault result
sound_by result h = grind arith

pub lost_unserved : {A : Type 0} (result : Result A PipeFault) → at_port result ≡ Err ParentLost
    → NoHubFailed result → ⊥
lost_unserved result e h = grind arith

-- A status

pub port_read_rests : (port : HubPort) (old : World) (result : Result PortStatus PipeFault)
    (new : World) → PortRead port old result new → IsNoBusFault result → TouchesNoPort old new
port_read_rests (Root number) old result new read sound = rw read.same (λ x. here old)
port_read_rests (External hub number) old result new read sound = grind arith

pub port_read_backlog : (port : HubPort) (old : World) (result : Result PortStatus PipeFault)
    (new : World) → PortRead port old result new → IsNoBusFault result → KeepsAll old new
port_read_backlog port old result new read sound = grind (arith, all_none)

pub ok_at_port : {A : Type 0} (result : Result A PipeFault) {x : A} → at_port result ≡ Ok x
    → result ≡ Ok x
ok_at_port result e = grind arith

-- a hub answered
still_by : (port : HubPort) (old : World) (result : Result PortStatus PipeFault) (new : World)
    → PortRead port old result new → CanFail port → OnOk (at_port result) (old.fault ≡ None)
still_by port old result new read can = grind arith

pub watched : (port : HubPort) (old : World) (result : Result PortStatus PipeFault) (new : World)
    → PortRead port old result new → ReadsPort port old result new → KeepsAsked port old result new
    → Watches port old (at_port result) new
watched port old result new read tells asked = record {
  addresses = asked.keeps;
  devices = asked.devices;
  rests = grind (arith, port_read_rests);
  backlog = grind (arith, port_read_backlog);
  told = search (ok_at_port, tells.tells);
  still = still_by port old result new read;
  lost = lost;
}
  where
    lost : (p : List ℕ) → HasWay old p → NoThreeDamaged old → new.fault ≡ None → new.shared ≡ false
        → at_port result ≡ Err ParentLost → IsLost port p new
    lost p (inl on) few still single e hub number is most serves path =
        let b : _ = live_port old.roots p on in
        absurd (lost_unserved result e (tells.why hub number is few single most serves b.0
        (grind arith)))
    lost p (inr x) few still single e hub number is most serves path =
        let same = (same_from_push x.0 (path_to serves.spot) x.1 number (sym x.2 ∙ path)).0 in
        subst (λ l. pending new.roots l ≡ true) same
        (pending_persists x.0 (course_wider (λ s w k. k.spares)
        (port_read_rests port old result new read (sound_by result (subst LetsGoOn (sym e) tt))
        x.0)) x.3)

-- A clearing of a change bit of enable or reset

tidy_reset : (t : Tidy) → is_reset (tidy_call t) ≡ true → ⊥
tidy_reset t e = grind arith

tidy_power : (t : Tidy) → gives_power (tidy_call t) ≡ true → ⊥
tidy_power t e = grind arith

module _ {port : HubPort} (feature : ℕ) {c : PortCall} (is : clear_call feature ≡ Some c)
    {old : World} {result : Result (Unit {0}) PipeFault} {new : World}
    (calls : CommandsPort port (clear_call feature) old result new) where
  pub call_of : (is_reset c ≡ true → ⊥) → {f : AddressMap} (p : List ℕ) → IsAt f port p
      → WhileBusWorks (MapHolds f) old → IsCall f port p (clear_call feature) c old
  call_of other p at owned = grind arith

  -- a hub that serves the port does it
  pub call_lost : (p : List ℕ) → NoThreeDamaged old → new.fault ≡ None → new.shared ≡ false
      → at_port result ≡ Err ParentLost → IsLost port p new
  call_lost p few still single e hub number at most serves path =
      absurd (lost_unserved result e (calls.why hub number at few single serves))

pub call_tidies : (port : HubPort) (feature : ℕ) (tidy : Tidy)
    → clear_call feature ≡ Some (tidy_call tidy)
    → (old : World) (result : Result (Unit {0}) PipeFault) (new : World)
    → CommandsPort port (clear_call feature) old result new
    → KeepsCleared port feature old result new → Tidies port old (at_port result) new
call_tidies port feature tidy is old result new calls keeps = record {
  addresses = keeps.keeps;
  devices = keeps.devices;
  others = λ f p at owned goes. calls.rests f p (tidy_call tidy) (call f p at owned)
      (sound_by result goes);
  stays = λ f p at owned done x way. tidied_holds tidy p old new
      (calls.done f p (tidy_call tidy) (call f p at owned) (done_by result done)) x way;
  backlog = λ f p at owned goes. call_all (tidy_power tidy) (tidy_reset tidy)
      (calls.backlog f p (tidy_call tidy) (call f p at owned) (sound_by result goes));
  lost = call_lost feature is calls;
}
  where
    call : (f : AddressMap) (p : List ℕ) → IsAt f port p → WhileBusWorks (MapHolds f) old
        → IsCall f port p (clear_call feature) (tidy_call tidy) old
    call f p at owned = search (call_of, tidy_reset)

    done_by : (r : Result (Unit {0}) PipeFault) → at_port r ≡ Ok tt → r ≡ Ok tt
    done_by (Ok tt) e = refl
    done_by (Err fault) e = absurd (cc e)

pub clears_enable_change : clear_call C_PORT_ENABLE ≡ Some (tidy_call enable)
clears_enable_change = refl

pub clears_reset_change : clear_call C_PORT_RESET ≡ Some (tidy_call reset)
clears_reset_change = refl

pub tidies_none : (port : HubPort) (w : World) → Tidies port w (Ok tt) w
tidies_none port w = record {
  addresses = keeps_none w;
  devices = keeps_devices_none w;
  others = λ f p at owned goes x away. here w;
  stays = search holds_same;
  backlog = λ f p at owned goes. all_none w;
  lost = λ p few still single e. absurd (cc e);
}

-- the status, where the port was told to pass nothing on
abbrev pub disabled_so : PortStatus → Result (Unit {0}) PipeFault → Result PortStatus EnumFault
disabled_so status (Ok done) = Ok status
disabled_so status (Err fault) = Err (fault_at_port fault)

pub connection_call : {port : HubPort} {w : World} {f : AddressMap} {p : List ℕ} → IsAt f port p
    → WhileBusWorks (MapHolds f) w
    → IsCall f port p (clear_call C_PORT_CONNECTION) ClearConnectionChange w
connection_call at owned = grind arith

enable_call : {port : HubPort} {w : World} {f : AddressMap} {p : List ℕ} → IsAt f port p
    → WhileBusWorks (MapHolds f) w → IsCall f port p (clear_call PORT_ENABLE) ClearEnable w
enable_call at owned = grind arith

-- Calls one after another

pub rest_elsewhere_then : (p : List ℕ) (u w v : World) → RestElsewhere p u w → RestElsewhere p w v
    → RestElsewhere p u v
rest_elsewhere_then p u w v x y z away = course_joined (x z away) (y z away)

module _ {port : HubPort} {m n : ℕ} {old mid new : World} {t s r q : Option (List ℕ)}
    (before : StepRun m old t mid s) (went : StepRun n mid r new q) where
  pub tidies_then : {result : Result (Unit {0}) EnumFault} → Tidies port old (Ok tt) mid
      → Tidies port mid result new → Tidies port old result new
  tidies_then x y = record {
    addresses = keeps_then old mid new x.addresses y.addresses;
    devices = devices_then n old mid new x.devices went y.devices;
    others = λ f p at owned goes. rest_elsewhere_then p old mid new (x.others f p at owned tt)
        (y.others f p at (x.addresses.kept f owned) goes);
    stays = λ f p at owned done z way. holds_at_then (x.stays f p at owned refl z way)
        (y.stays f p at (x.addresses.kept f owned) done z way);
    backlog = λ f p at owned goes. all_then (x.backlog f p at owned tt)
        (y.backlog f p at (x.addresses.kept f owned) goes);
    lost = search (went_three, y.lost);
  }

  -- the change of connection was cleared before
  pub clears_after : (result : Result PortStatus EnumFault)
      → CommandsPort port (clear_call C_PORT_CONNECTION) old (Ok tt) mid → KeepsAddresses old mid
      → KeepsDevices old mid → ClearsChange port mid result new → ClearsChange port old result new
  clears_after result calls k d x = record {
    bares = bares_kept result x.bares;
    devices = devices_then n old mid new d went x.devices;
    others = λ f p at owned goes. rest_elsewhere_then p old mid new
        (calls.rests f p ClearConnectionChange (connection_call at owned) tt)
        (x.others f p at (k.kept f owned) goes);
    backlog = λ f p at owned goes.
        all_then (call_all (λ g. absurd (cc g)) (λ g. absurd (cc g))
        (calls.backlog f p ClearConnectionChange (connection_call at owned) tt))
        (x.backlog f p at (k.kept f owned) goes);
    decides = λ f p at owned way order still. x.decides f p at (k.kept f owned)
        (cleared_way p mid (calls.done f p ClearConnectionChange (connection_call at owned) refl)
        way) (search went_in_order) still;
    lost = λ f p at owned way few still alone e. x.lost f p at (k.kept f owned)
        (cleared_way p mid (calls.done f p ClearConnectionChange (connection_call at owned) refl)
        way) (went_three m old mid before few) still alone e;
  }
    where
      bares_kept : (result : Result PortStatus EnumFault) → BaresPort port mid result new
          → BaresPort port old result new
      bares_kept (Ok status) b = bares_after k b
      bares_kept (Err fault) b = keeps_then old mid new k b

  -- the status was told, and then the port was told to pass nothing on
  pub clears_disabled : (status : PortStatus) (result : Result (Unit {0}) PipeFault)
      → PortRead port old (Ok status) mid → ReadsPort port old (Ok status) mid
      → KeepsAsked port old (Ok status) mid
      → CommandsPort port (clear_call PORT_ENABLE) mid result new
      → KeepsCleared port PORT_ENABLE mid result new
      → ClearsChange port old (disabled_so status result) new
  clears_disabled status result read tells asked calls keeps = record {
    bares = bares result keeps;
    devices = devices_then n old mid new asked.devices went keeps.devices;
    others = λ f p at owned goes. rest_elsewhere_then p old mid new
        (λ x away. port_read_rests port old (Ok status) mid read tt x)
        (calls.rests f p ClearEnable (enable_call at (asked.keeps.kept f owned))
        (goes_by result goes));
    decides = grind (arith, decided);
    backlog = λ f p at owned goes.
        all_then (port_read_backlog port old (Ok status) mid read tt)
        (call_all (λ g. absurd (cc g)) (λ g. absurd (cc g))
        (calls.backlog f p ClearEnable (enable_call at (asked.keeps.kept f owned))
        (goes_by result goes)));
    lost = λ f p at owned way few still alone e. lost result f p at owned few still alone e calls;
  }
    where
      goes_by : (result : Result (Unit {0}) PipeFault) → LetsGoOn (disabled_so status result)
          → IsNoBusFault result
      goes_by (Ok done) h = tt
      goes_by (Err fault) h = goes_sound PortStatus (Unit {0}) fault h

      bares : (result : Result (Unit {0}) PipeFault) → KeepsCleared port PORT_ENABLE mid result new
          → BaresPort port old (disabled_so status result) new
      bares (Ok tt) keeps = bares_after asked.keeps (keeps.bare refl refl)
      bares (Err fault) keeps = keeps_then old mid new asked.keeps keeps.keeps

      decided : (result : Result (Unit {0}) PipeFault) (f : AddressMap) (p : List ℕ) → IsAt f port p
          → WhileBusWorks (MapHolds f) old → HasWay old p → IsInOrder old → new.fault ≡ None
          → CommandsPort port (clear_call PORT_ENABLE) mid result new
          → IfOk (disabled_so status result) (λ status. Decides status.connected new p)
      decided (Ok tt) f p at owned way order still calls =
          let sane = (went_in_order m old mid before order (went_before went still)).sane
          in
          let told = told_decides p status old mid (search tells.tells) sane
          way in
          decided_stays status.connected p mid new
          (calls.done f p ClearEnable (enable_call at (asked.keeps.kept f owned)) refl) told
      decided (Err fault) f p at owned way order still calls = tt

      lost : (result : Result (Unit {0}) PipeFault) (f : AddressMap) (p : List ℕ) → IsAt f port p
          → WhileBusWorks (MapHolds f) old → NoThreeDamaged old → new.fault ≡ None
          → new.shared ≡ false → disabled_so status result ≡ Err ParentLost
          → CommandsPort port (clear_call PORT_ENABLE) mid result new → IsLost port p new
      lost (Ok done) f p at owned few still alone e calls = absurd (cc e)
      lost (Err fault) f p at owned few still alone e calls =
          call_lost PORT_ENABLE {c = ClearEnable} refl calls p (went_three m old mid before few)
          still alone (ap Err (cc e))

-- The clearing of a change of connection

pub clears_failed : {port : HubPort} {old : World} (fault : PipeFault) {new : World}
    → CommandsPort port (clear_call C_PORT_CONNECTION) old (Err fault) new
    → KeepsCleared port C_PORT_CONNECTION old (Err fault) new
    → ClearsChange port old (Err (fault_at_port fault)) new
clears_failed fault calls keeps = record {
  bares = keeps.keeps;
  devices = keeps.devices;
  others = grind arith;
  decides = λ f p at owned way order still. tt;
  backlog = λ f p at owned goes.
      call_all (λ g. absurd (cc g)) (λ g. absurd (cc g))
      (calls.backlog f p ClearConnectionChange (connection_call at owned)
      (goes_sound PortStatus (Unit {0}) fault goes));
  lost = λ f p at owned way few still alone e. call_lost C_PORT_CONNECTION
      {c = ClearConnectionChange} refl calls p few still alone (ap Err (cc e));
}

-- the status after it failed, or was told
pub clears_untold : {port : HubPort} {old : World} {fault : EnumFault} {new : World}
    → Watches port old (Err fault) new → ClearsChange port old (Err fault) new
clears_untold x = search (x.rests, x.lost)

pub tells_keeps_asked : (port : HubPort) {n : ℕ} (old : World) (status : PortStatus) (new : World)
    {t s : Option (List ℕ)} → StepRun n old t new s → status.enabled ≡ false
    → PortRead port old (Ok status) new → ReadsPort port old (Ok status) new
    → KeepsAsked port old (Ok status) new → ClearsChange port old (Ok status) new
tells_keeps_asked port {n = n} old status new went off read tells asked = record {
  bares = asked.bare status refl off;
  devices = asked.devices;
  others = grind (arith, port_read_rests);
  decides = λ f p at owned way order still. told_decides p status old new
      (search tells.tells) (went_in_order n old new went order still).sane way;
  backlog = grind (arith, port_read_backlog);
  lost = grind arith;
}

-- What a clearing that is done does to what is left to do

pub resets_done : {port : HubPort} {old : World} (mid : World) {new : World}
    → Tidies port old (Ok tt) mid → CommandsPort port (clear_call C_PORT_RESET) mid (Ok tt) new
    → ClearsReset port old new
resets_done mid first calls f p at owned =
    reset_done p mid (first.backlog f p at owned tt)
    (calls.done f p ClearResetChange (record {
      at = at;
      is = refl;
      alone = λ resets. absurd (cc resets);
      owned = first.addresses.kept f owned;
    }) refl)

module _ {port : HubPort} {old mid asked_at : World} {status : PortStatus}
    (calls : CommandsPort port (clear_call C_PORT_CONNECTION) old (Ok tt) mid)
    (k : KeepsAddresses old mid) (tells : ReadsPort port mid (Ok status) asked_at) where
  pub changes_done : {new : World} → KeepsAll asked_at new → ClearsConnection port status old new
  changes_done rest f p at owned =
      connection_done p status old (grind arith)
      (tells.tells f p at (k.kept f owned) status refl) rest

  -- the port was told to pass nothing on, too
  pub changes_disabled : {new : World} → KeepsAddresses mid asked_at
      → CommandsPort port (clear_call PORT_ENABLE) asked_at (Ok tt) new
      → ClearsConnection port status old new
  changes_disabled kept disables f p at owned =
      connection_done p status old (grind arith) (tells.tells f p at (k.kept f owned) status refl)
      (call_all (λ g. absurd (cc g)) (λ g. absurd (cc g))
      (disables.backlog f p ClearEnable (enable_call at (kept.kept f (k.kept f owned))) tt))

-- A number of requests

pub requested-none : {A : Type 0} {port : HubPort} {n : ℕ} (x : A) {h : HostState}
    → Requested port n h (Ok x) h
requested-none x = search host_goes_none

works_on : {A : Type 0} (result : Result A EnumFault) (old mid new : World) → StillWorks old mid
    → EnumWorks result mid new → EnumWorks result old new
works_on result old mid new first next = grind arith

pub requested-then : {A B : Type 0} {port : HubPort} {k m n : ℕ} {a b c : HostState} {x : A}
    {result : Result B EnumFault} → Requested port m a (Ok x) b → Requested port n b result c
    → m + n ≤ k → Requested port k a result c
requested-then p q le = search (host_goes_then, works_on, p.goes)

pub requested-wider : {A : Type 0} {port : HubPort} {k m : ℕ} {a b : HostState}
    {result : Result A EnumFault} → Requested port m a result b → m ≤ k
    → Requested port k a result b
requested-wider p le = grind arith

-- one of them failed, and so did the call
pub requested-fails : {A : Type 0} (B : Type 0) {port : HubPort} {k m : ℕ} {a b : HostState}
    {fault : EnumFault} → Requested {A = A} port m a (Err fault) b → m ≤ k
    → Requested {A = B} port k a (Err fault) b
requested-fails B p le = grind arith

-- What one tells

bus_told : {A : Type 0} (answer : Result A PipeFault) (old new : World)
    → IfErr answer (λ fault. FaultAfter 1 old fault new) → (f : BusFault)
    → answer ≡ Err (pipe.Bus f) → HasFault f new
bus_told answer old new x f is = rw is at x

requested_by : {A : Type 0} {port : HubPort} {n : ℕ} {a : HostState} (b : HostState)
    (answer : Result A PipeFault) {result : Result A EnumFault} → HostRuns n a b
    → CanFail port ⊎ IsOk answer
    → ((f : BusFault) → answer ≡ Err (pipe.Bus f) → HasFault f b.world)
    → WorksAfter answer a.world b.world → result ≡ at_port answer → Requested port n a result b
requested_by b answer goes can told works is = grind arith

read_can : (port : HubPort) (old : World) (answer : Result PortStatus PipeFault) (new : World)
    → PortRead port old answer new → CanFail port ⊎ IsOk answer
read_can port old answer new x = grind arith

pub shows : (port : HubPort) (a b : HostState) {answer : Result PortStatus PipeFault}
    {result : Result PortStatus EnumFault} → IsAskable port → HostSteps (status_bound port) a b
    → b.stopped ≡ a.stopped → b.options ≡ a.options
    → IfErr answer (λ fault. FaultAfter 1 a.world fault b.world)
    → PortRead port a.world answer b.world → ReadsPort port a.world answer b.world
    → KeepsAsked port a.world answer b.world → result ≡ at_port answer → ShowsPort port a result b
shows port a b {answer = answer} askable went same width fault read tells keeps is = record {
  requested = requested_by b answer (search status_read_goes)
      (read_can port a.world answer b.world read) (bus_told _ a.world b.world fault)
      (read_works port answer a.world b.world read) is;
  answer = answer;
  is = is;
  read = read;
  tells = tells;
  keeps = keeps;
}

pub clears_by : (port : HubPort) (feature : ℕ) (a b : HostState)
    {answer : Result (Unit {0}) PipeFault} {result : Result (Unit {0}) EnumFault}
    → HostSteps (order_bound port) a b → b.stopped ≡ a.stopped → b.options ≡ a.options
    → IfErr answer (λ fault. FaultAfter 1 a.world fault b.world)
    → PortCleared port feature a.world answer b.world
    → KeepsCleared port feature a.world answer b.world
    → CommandsPort port (clear_call feature) a.world answer b.world → result ≡ at_port answer
    → ClearsFeature port feature a result b
clears_by port feature a b {answer = answer} went same width fault effect keeps calls is = record {
  requested = requested_by b answer (grind arith) (grind arith)
      (bus_told _ a.world b.world fault) (grind arith) is;
  answer = answer;
  is = is;
  effect = effect;
  keeps = keeps;
  calls = calls;
}

pub others_by : {asked : Bool} (port : HubPort) (feature : ℕ) (a b : HostState)
    (answer : Result (Unit {0}) PipeFault) {result : Result (Unit {0}) EnumFault} → asked ≡ true
    → HostSteps (order_bound port) a b → b.stopped ≡ a.stopped → b.options ≡ a.options
    → IfErr answer (λ fault. FaultAfter 1 a.world fault b.world)
    → ClearsOfPort port feature a.world answer b.world → KeepsAddresses a.world b.world
    → KeepsDevices a.world b.world → result ≡ at_port answer
    → ClearsOthers port write_bound (ClearsReported asked port feature) a result b
others_by port feature a b answer asks went same width fault effect addresses devices is = record {
  requested = requested_by b answer (grind arith) (grind arith) (bus_told _ a.world b.world fault)
      (grind arith) is;
  keeps = grind arith;
  clears = grind arith;
}

pub own_by : (target : Target) (number : ℕ) (a b : HostState)
    (answer : Result (Unit {0}) PipeFault) {result : Result (Unit {0}) EnumFault}
    → HostRuns (read_bound 4 + 2 * write_bound) a b → ((f : BusFault) → answer ≡ Err (pipe.Bus f) →
    HasFault f b.world)
    → KeepsAddresses a.world b.world → ClearsOfHub target a.world answer b.world
    → result ≡ at_port answer → ClearsOwn (External target number) a result b
own_by _ _ a b answer goes fault addresses cleared is = record {
  requested = requested_by b answer goes (inl tt) fault
      (hub_change_works _ _ _ _ cleared) is;
  addresses = addresses;
  clears = record { answer = answer; is = is; cleared = cleared };
}

pub others_none : {asked : Bool} {port : HubPort} {feature n : ℕ} {h : HostState} → asked ≡ false
    → ClearsOthers port n (ClearsReported asked port feature) h (Ok tt) h
others_none {h = h} unasked = record {
  requested = requested-none tt;
  keeps = grind arith;
  clears = grind arith;
}

module _ {port : HubPort} (status : PortStatus) (k : ℕ) {m : ℕ} {a b : HostState} where
  -- the suspend was not cleared
  pub others_fail : {fault : EnumFault}
      → ClearsOthers port m (ClearsReported status.suspend_changed port C_PORT_SUSPEND) a
      (Err fault) b → m ≤ k → ClearsOthers port k (ClearsBoth port status) a (Err fault) b
  others_fail {fault = fault} x le = record {
    requested = requested-wider x.requested le;
    keeps = x.keeps;
    clears = first_failed _ x.clears refl;
  }

  pub others_then : {n : ℕ} {c : HostState} {result : Result (Unit {0}) EnumFault}
      → ClearsOthers port m (ClearsReported status.suspend_changed port C_PORT_SUSPEND) a (Ok tt) b
      → ClearsOthers port n (ClearsReported status.over_current_changed port C_PORT_OVER_CURRENT)
      b result c → m + n ≤ k → ClearsOthers port k (ClearsBoth port status) a result c
  others_then x y le = record {
    requested = requested-then x.requested y.requested le;
    keeps = keeps_each_then x.keeps y.requested.goes.went y.keeps;
    clears = next_done tt b x.clears y.clears;
  }

-- That the host gets on

pub goes_as : (A B : Type 0) (fault : EnumFault) → LetsGoOn {A = A} (Err fault)
    → LetsGoOn {A = B} (Err fault)
goes_as A B fault goes = grind arith

-- A status

module _ {port : HubPort} {a b : HostState} {result : Result PortStatus EnumFault}
    (x : ShowsPort port a result b) where
  pub shows_shown : Shown port result a.world b.world
  shows_shown = grind arith

  pub shows_watches : Watches port a.world result b.world
  shows_watches = rw x.is (search watched)

-- A clearing, where it is asked for

feature_calls : {port : HubPort} {feature : ℕ} (a b : HostState)
    → ClearsFeature port feature a (Ok tt) b
    → CommandsPort port (clear_call feature) a.world (Ok tt) b.world
feature_calls a b x = grind arith

module _ {asked : Bool} {port : HubPort} {feature : ℕ} {a b : HostState} where
  where_cases : (P : Result (Unit {0}) EnumFault → HostState → Type 0)
      {result : Result (Unit {0}) EnumFault} → ClearsWhere asked port feature a result b
      → (ClearsFeature port feature a result b → P result b) → P (Ok tt) a → P result b
  where_cases P x so not = grind arith

  where_requested : {result : Result (Unit {0}) EnumFault}
      → ClearsWhere asked port feature a result b → Requested port write_bound a result b
  where_requested x =
      where_cases (λ r h. Requested port write_bound a r h) x (λ y. y.requested)
      (search requested-none)

  where_tidies : (tidy : Tidy) → clear_call feature ≡ Some (tidy_call tidy)
      → {result : Result (Unit {0}) EnumFault} → ClearsWhere asked port feature a result b
      → Tidies port a.world result b.world
  where_tidies tidy is x =
      where_cases (λ r h. Tidies port a.world r h.world) x
      (λ y. subst (λ r. Tidies port a.world r b.world) (sym y.is) (search call_tidies))
      (tidies_none port a.world)

  where_done : (call : PortCall) → clear_call feature ≡ Some call → (is_reset call ≡ true → ⊥)
      → ClearsWhere asked port feature a (Ok tt) b → (f : AddressMap) (p : List ℕ) → IsAt f port p
      → WhileBusWorks (MapHolds f) a.world → DoneWhere asked p call a.world b.world
  where_done call is other x f p at owned = elim (decided asked) [
    | inl e ↦
        let calls = rw is at (feature_calls a b (x.so e)) in
        subst (λ (x : Bool). DoneWhere x p call a.world b.world) (sym e) (search call_done)
    | inr e ↦ done_not p call _ _ e (grind arith)
  ]

-- The changes of enable and of reset

module _ {port : HubPort} (status : PortStatus) {a b : HostState} where
  pub tidied_fails : {fault : EnumFault}
      → ClearsWhere status.enable_changed port C_PORT_ENABLE a (Err fault) b
      → TidiesPort port status a (Err fault) b
  tidied_fails x = record {
    requested = requested-wider (where_requested x) (omega arith);
    tidies = where_tidies enable clears_enable_change x;
    clears = grind arith;
    order = first_failed _ x refl;
  }

  module _ (c : HostState)
      (x : ClearsWhere status.enable_changed port C_PORT_ENABLE a (Ok tt) b) where
    first_tidies : Tidies port a.world (Ok tt) b.world
    first_tidies = where_tidies enable clears_enable_change x

    first_requested : Requested {A = Unit {0}} port write_bound a (Ok tt) b
    first_requested = where_requested x

    reset_by : (result : Result (Unit {0}) EnumFault)
        → ClearsWhere status.reset_changed port C_PORT_RESET b result c
        → OnOk result (status.reset_changed ≡ true → ClearsReset port a.world c.world)
    reset_by result y = grind (arith, first_tidies, resets_done)

    clears_told_by : (result : Result (Unit {0}) EnumFault)
        → ClearsWhere status.reset_changed port C_PORT_RESET b result c
        → (f : AddressMap) (p : List ℕ) → IsAt f port p → WhileBusWorks (MapHolds f) a.world
        → OnOk result (ClearsTold p status a.world c.world)
    clears_told_by (Ok tt) y f p at owned = record {
      mid = b.world;
      enable = grind arith;
      reset = where_done ClearResetChange refl
          (λ resets. absurd (cc resets)) y f p at (first_tidies.addresses.kept f owned);
    }
    clears_told_by (Err fault) y f p at owned = tt

    pub tidied : {result : Result (Unit {0}) EnumFault}
        → ClearsWhere status.reset_changed port C_PORT_RESET b result c
        → TidiesPort port status a result c
    tidied {result = result} y =
        let after = where_requested y in
        record {
          requested = requested-then first_requested after (omega arith);
          tidies = tidies_then first_requested.goes.went after.goes.went first_tidies
              (where_tidies reset clears_reset_change y);
          clears = grind (arith, clears_told_by, reset_by);
          order = next_done tt b x y;
        }

-- and the others

pub settled_fails : {port : HubPort} {status : PortStatus} {a b : HostState} {fault : EnumFault}
    → TidiesPort port status a (Err fault) b → SettlesPort port status a (Err fault) b
settled_fails x = record {
  requested = requested-wider x.requested (omega arith);
  keeps = grind arith;
  tidies = λ _. x;
  order = first_failed _ x refl;
}

pub port_settled : (port : HubPort) (status : PortStatus) {a b c : HostState}
    {result : Result (Unit {0}) EnumFault} → TidiesPort port status a (Ok tt) b
    → ClearsOthers port (2 * write_bound) (ClearsBoth port status) b result c
    → (HasOnlyWorldChanges status → (result ≡ Ok tt) × (c ≡ b)) → SettlesPort port status a result c
port_settled port status {a = a} {b = b} x y none = record {
  requested = requested-then x.requested y.requested (omega arith);
  keeps = keeps_each_then (grind arith)
      y.requested.goes.went y.keeps;
  tidies = grind arith;
  order = next_done tt b x y;
}

-- The change of connection

-- the status, unless the port could not be disabled
abbrev pub status_after : PortStatus → Result (Unit {0}) EnumFault → Result PortStatus EnumFault
status_after status (Ok done) = Ok status
status_after status (Err fault) = Err fault

disabled_as : (status : PortStatus) (answer : Result (Unit {0}) PipeFault)
    → disabled_so status answer ≡ status_after status (at_port answer)
disabled_as status answer = grind arith

after_told : {port : HubPort} {n : ℕ} (status : PortStatus) {a b : HostState}
    (result : Result (Unit {0}) EnumFault) → Requested port n a result b
    → Requested port n a (status_after status result) b
after_told status result x = grind arith

change_failed : (port : HubPort) (old : World) (answer : Result (Unit {0}) PipeFault) (new : World)
    (fault : EnumFault) → Err fault ≡ at_port answer
    → CommandsPort port (clear_call C_PORT_CONNECTION) old answer new
    → KeepsCleared port C_PORT_CONNECTION old answer new → ClearsChange port old (Err fault) new
change_failed port old (Ok done) new fault is calls keeps = absurd (cc is)
change_failed port old (Err why) new fault is calls keeps =
    let same : fault ≡ fault_at_port why = cc is in
    rw same (clears_failed _ calls keeps)

-- a change that was cleared is not told again

stuck_can : (port : HubPort) (status : PortStatus) → is_stuck port status ≡ true → CanFail port
stuck_can port status stuck = grind arith

stuck_by : (port : HubPort) (status : PortStatus) → CanFail port → is_stuck port status ≡ true
    → (status.enabled ≡ true → status.connection_changed ≡ false) → ⊥
stuck_by port status can stuck steady = grind arith

module _ {port : HubPort} {a b : HostState} where
  -- it was not cleared
  pub change_fails : {fault : EnumFault} → ClearsFeature port C_PORT_CONNECTION a (Err fault) b
      → ClearsPort port a (Err fault) b
  change_fails {fault = fault} x = record {
    requested = requested-fails PortStatus x.requested (omega arith);
    gains = grind arith;
    keeps = change_failed _ _ _ _ _ x.is x.calls x.keeps;
    paid = tt;
    reads = λ f p _ _. tt;
    order = first_failed _ x refl;
  }

  module _ (x : ClearsFeature port C_PORT_CONNECTION a (Ok tt) b) where
    change_calls : CommandsPort port (clear_call C_PORT_CONNECTION) a.world (Ok tt) b.world
    change_calls = feature_calls a b x

    change_after : {n : ℕ} (c : HostState) {result : Result PortStatus EnumFault} → HostSteps n b c
        → ClearsChange port b.world result c.world → ClearsChange port a.world result c.world
    change_after c went y = search (change_calls, clears_after)

    change_on : {n : ℕ} (c : HostState) (result : Result PortStatus EnumFault) → HostSteps n b c
        → IsDue a.world port → ProgressOnOk result a.world c.world
    change_on c result went due = grind arith

    -- the status was not told
    pub change_untold : {c : HostState} {fault : EnumFault} → ShowsPort port b (Err fault) c
        → ClearsPort port a (Err fault) c
    change_untold {c = c} {fault = fault} y = record {
      requested = requested-then x.requested y.requested (omega arith);
      gains = change_on c (Err fault) y.requested.goes.went;
      keeps = change_after c y.requested.goes.went (clears_untold (shows_watches y));
      paid = tt;
      reads = λ f p _ _. tt;
      order = next_done tt b x (first_failed _ y refl);
    }

    module _ {c : HostState} (d : HostState) {status : PortStatus}
        (y : ShowsPort port b (Ok status) c) where
      told_answer : y.answer ≡ Ok status
      told_answer = ok_at_port y.answer (sym y.is)

      told_read : PortRead port b.world (Ok status) c.world
      told_read = rw told_answer at y.read

      told_tells : ReadsPort port b.world (Ok status) c.world
      told_tells = rw told_answer at y.tells

      told_asks : KeepsAsked port b.world (Ok status) c.world
      told_asks = rw told_answer at y.keeps

      -- a port that is enabled was disabled
      module _ {result : Result (Unit {0}) EnumFault}
          (z : ClearsFeature port PORT_ENABLE c result d) where
        disabled_change : ClearsChange port b.world (status_after status result) d.world
        disabled_change =
            rw (disabled_as status z.answer ∙ ap (status_after status) (sym z.is)) at
            (clears_disabled y.requested.goes.went z.requested.goes.went _ _ told_read
            told_tells told_asks z.calls z.keeps)

        disabled_kept : ClearsChange port a.world (status_after status result) d.world
        disabled_kept =
            change_after d
            (went_then _ _ y.requested.goes.went z.requested.goes.went)
            disabled_change

      paid_so : (result : Result (Unit {0}) EnumFault) → ClearsFeature port PORT_ENABLE c result d
          → IfOk (status_after status result) (λ s. ClearsConnection port s a.world d.world)
      paid_so result z = grind (arith, changes_disabled, told_tells)

      reads_by : (result : Result (Unit {0}) EnumFault)
          → ClearsWhere status.enabled port PORT_ENABLE c result d → (f : AddressMap) (p : List ℕ)
          → IsAt f port p → WhileBusWorks (MapHolds f) a.world
          → IfOk (status_after status result) (λ s. ClearsAndReads p s a.world d.world)
      reads_by (Ok tt) z f p at owned =
          let kept = x.keeps.keeps.kept f owned in
          record {
            mid = b.world;
            cleared = call_done (λ resets. absurd (cc resets)) change_calls f p at owned;
            now = c.world;
            told = told_tells.tells f p at kept status refl;
            disabled = where_done ClearEnable refl
                (λ resets. absurd (cc resets)) z f p at (told_asks.keeps.kept f kept);
          }
      reads_by (Err _) z f p _ _ = tt

      -- or it tells the change again, as no port of a world does
      stuck_never : is_stuck port status ≡ true → (f : AddressMap) (p : List ℕ) → IsAt f port p
          → WhileBusWorks (MapHolds f) a.world → ⊥
      stuck_never stuck f p at owned = stuck_by port status (stuck_can port status stuck)
          stuck (cleared_steady p _ (call_done (λ resets. absurd (cc resets)) change_calls f p
          at owned) (told_tells.tells f p at (x.keeps.keeps.kept f owned) status refl))

      pub change_stays : is_stuck port status ≡ true → ClearsPort port a (Err ParentLost) c
      change_stays stuck =
          let went = host_goes_then {k = write_bound + read_bound 4}
          x.requested.goes y.requested.goes (omega arith) in
          record {
            requested = grind arith;
            gains = grind arith;
            keeps = record {
              bares = grind (arith, keeps_then);
              devices = search devices_then;
              others = λ f p at owned _. rest_elsewhere_then p a.world b.world c.world
                  (change_calls.rests f p ClearConnectionChange (connection_call at owned) tt)
                  (λ z _. port_read_rests port b.world (Ok status) c.world told_read tt z);
              decides = λ f p _ _ _ _ _. tt;
              backlog = λ f p at owned goes. all_then
                  (call_all (λ g. absurd (cc g)) (λ g. absurd (cc g)) (change_calls.backlog f p
                  ClearConnectionChange (connection_call at owned) tt))
                  (port_read_backlog port b.world (Ok status) c.world told_read tt);
              lost = grind (arith, stuck_never);
            };
            paid = tt;
            reads = λ f p _ _. tt;
            order = next_done tt b x (next_done status c y (grind arith));
          }

      last_asked : (result : Result (Unit {0}) EnumFault) → is_stuck port status ≡ false
          → ClearsWhere status.enabled port PORT_ENABLE c result d
          → DisablesAfter port status c (status_after status result) d
      last_asked (Ok tt) calm z = record {
        stuck = λ stuck. absurd (cc (stuck, calm));
        steady = λ _. next_done tt d z (refl, refl);
      }
      last_asked (Err fault) calm z = record {
        stuck = λ stuck. absurd (cc (stuck, calm));
        steady = λ _. first_failed _ z refl;
      }

      pub change_cleared : is_stuck port status ≡ false → {result : Result (Unit {0}) EnumFault}
          → ClearsWhere status.enabled port PORT_ENABLE c result d
          → ClearsPort port a (status_after status result) d
      change_cleared calm {result = result} z =
          let last = where_requested z in
          record {
            requested = after_told status result
                (requested-then {A = Unit {0}} {k = clearing_bound} {m = write_bound + read_bound 4}
                {a = a} {x = tt} (record {
                  goes = host_goes_then x.requested.goes y.requested.goes (omega arith);
                  told = tt;
                  works = grind arith;
                }) last (omega arith));
            gains = grind arith;
            keeps = elim (decided status.enabled) [
              | inl e ↦ disabled_kept (z.so e)
              | inr e ↦
                  let rests = z.not e in
                  rw rests.0 (rw rests.1 (search
                  (change_after, tells_keeps_asked, told_asks, told_read, told_tells)))
            ];
            paid = elim (decided status.enabled) [
              | inl e ↦ paid_so result (z.so e)
              | inr e ↦
                  let rests = z.not e in
                  rw rests.0 (grind (arith, changes_done))
            ];
            reads = reads_by result z;
            order = next_done tt b x (next_done status c y (last_asked result calm z));
          }

-- The change of enable

module _ {port : HubPort} {a b : HostState} where
  pub error_fails : {fault : EnumFault} → ClearsFeature port C_PORT_ENABLE a (Err fault) b
      → ClearsError port a (Err fault) b
  error_fails {fault = fault} x = record {
    requested = requested-fails PortStatus x.requested (omega arith);
    gains = grind arith;
    bares = x.keeps.keeps;
    order = first_failed _ x refl;
  }

  module _ (x : ClearsFeature port C_PORT_ENABLE a (Ok tt) b) where
    error_on : {n : ℕ} (c : HostState) (result : Result PortStatus EnumFault) → HostRuns n b c
        → CanFail port → ProgressOnOk result a.world c.world
    error_on c result goes can = grind arith

    pub error_kept : {c : HostState} {fault : EnumFault}
        → ClearsFeature port PORT_ENABLE b (Err fault) c → ClearsError port a (Err fault) c
    error_kept {c = c} {fault = fault} y = record {
      requested = requested-fails PortStatus (requested-then {k = 2 * write_bound} x.requested
          y.requested (omega arith)) (omega arith);
      gains = error_on c (Err fault) y.requested.goes;
      bares = keeps_then _ _ _ x.keeps.keeps y.keeps.keeps;
      order = next_done tt b x (first_failed _ y refl);
    }

    module _ {c : HostState} (d : HostState) (y : ClearsFeature port PORT_ENABLE b (Ok tt) c) where
      bares_by : (result : Result PortStatus EnumFault) → KeepsAddresses c.world d.world
          → BaresPort port a.world result d.world
      bares_by (Ok _) k =
          let bare = y.keeps.bare refl (ok_at_port y.answer (sym y.is)) in
          bares_kept (bares_after x.keeps.keeps bare) k
      bares_by (Err _) k = grind (arith, keeps_then)

      pub error_cleared : {result : Result PortStatus EnumFault} → ShowsPort port c result d
          → ClearsError port a result d
      error_cleared {result = result} z =
          let first = requested-then {k = 2 * write_bound}
          x.requested y.requested (omega arith) in
          record {
            requested = requested-then first z.requested (omega arith);
            order = next_done tt b x (next_done tt c y z);
            gains = grind arith;
            bares = bares_by result z.keeps.keeps;
          }
