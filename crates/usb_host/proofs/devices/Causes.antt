-- Why devices are refused, as a port is handled where damage is fair.
use Rattle.std.proofs.Common.{arith, ◌≡◌, ◌⊎◌, inl, inr, ◌≤◌, refl, sym, ap, subst, ◌∙◌, ℕ, true}
use Rattle.std.proofs.Common.{false, List, [], ◌∷◌, ◌++◌, Option, None, Some, Result, Ok, Err}
use Rattle.std.proofs.Common.{IsSomeAnd, IfErr}
use Rattle.std.proofs.lemmas.List.{same_from_push}
use Rattle.std.specs.BTreeMap.{insert_entry}
use Rattle.arrayvec.specs.ArrayVec.{ArrayVec}
use Rattle.usb_port.specs.{path_cmp, parent_of, port_on_hub, PortStatus, ClearEnable, clear_call}
use Rattle.usb_request.specs.{PORT_ENABLE}
use Rattle.usb_port.proofs.Interface.{rejoined}
use Rattle.usb_world.specs.{is_way, pending, World}
use Rattle.usb_world.proofs.Interface.{course_wider, way_apart, way_parent, decided}
use Rattle.usb_hub.specs.{KeepsAddresses}
use Rattle.usb_transfer.specs.{PipeFault, FaultAfter, IsNoBusFault}
use Rattle.usb_transfer.specs.declared.fault.PipeFault.TheVariants as pipe
use Rattle.usb_hub.specs.{NoHubFailed, HubPort, Root, External, IsAt, KeepsDevices, CommandsPort}
use Rattle.usb_hub.specs.{PortCleared, TouchesNoPort}
use Rattle.usb_transfer.specs.{Target}
use Rattle.usb_enum.specs.{Lost, EnumFault, ParentLost, Memory, Finding, HasServer, ServesAt}
use Rattle.usb_enum.specs.{IsFair, IsKnownAs, FaultAllowedAt, HostOptions}
use Rattle.usb_enum.specs.declared.finding.Finding.TheVariants.{Refused}
use Rattle.usb_enum.proofs.Interface.{pends_there}
use Rattle.usb_table.specs.{KnownPort, Entries, has_at, Table, entered, IsAskable, finding_at}
use Rattle.usb_host.specs.{Forgets, Agrees, RestElsewhere, IsLost, HoldsAt, Watches, Tidies}
use Rattle.usb_host.specs.{ClearsChange, MovesNoBulk, by_control, IsOpen, PortCaused, FindsSound}
use Rattle.usb_host.specs.{Disabled, Climbs, HostState, claims, KeepsPort, DropsHub, StandsAt}
use Rattle.usb_host.specs.{HostSteps, OnlyBusSteps, table_in, RefusalsJustified, CausesBut}
use Rattle.usb_host.specs.{IsJustifiedAt, IsFairTo, HostInvariant, IsSoundBut, IsDroppable}
use Rattle.usb_host.specs.{DropsSound}
use Rattle.usb_host.proofs.StepSums.{went_before, EnumerationAt}
use Rattle.usb_host.proofs.devices.Pipes.{AllStay, bulk_stays, stay_forgotten, stay_joined}
use Rattle.usb_host.proofs.devices.Pipes.{stay_refused, stay_rests}
use Rattle.usb_host.proofs.entries.Agreements.{lookup-insert_entry_here}
use Rattle.usb_host.proofs.knowledge.HandledPorts.{fault_after-no_bus, claimed, is_call}
use Rattle.usb_host.proofs.knowledge.HandledPorts.{lost_sound_there, begins, found_few, found_only}
use Rattle.usb_host.proofs.knowledge.HandledPorts.{supply_found, entered_bulk, entered_sound}
use Rattle.usb_host.proofs.knowledge.HandledPorts.{unfound_bulk, unfound_sound, unfound_where}
use Rattle.usb_host.proofs.knowledge.HandledPorts.{but_of_sound, sound_rests, sound_rests_but}
use Rattle.usb_host.proofs.knowledge.HandledPorts.{rests_stands, stands_way}
use Rattle.usb_host.proofs.devices.Plugs.{plugs_lost}
use Rattle.usb_host.proofs.devices.Owners.{LostListed, lost_entries, lost_options, lost_world}
use Rattle.usb_host.proofs.knowledge.Places.{finding-none, causes_dropped, causes_found}
use Rattle.usb_host.proofs.knowledge.Places.{causes_stay, causes_but_stay, cause_stays}
use Rattle.usb_host.proofs.knowledge.Places.{cause_stands}
use Rattle.usb_host.proofs.entries.Roots.{accounted}
use Rattle.usb_host.proofs.knowledge.Servers.{hub_server}
use Rattle.usb_host.proofs.knowledge.SettledListings.{listed_port}
use Rattle.usb_host.proofs.PortLocations.{stands_at-claim}

-- Causes elsewhere

causes_above : (options : HostOptions) (path below : List ℕ) (w : World) (es : Entries)
    → is_way path below ≡ true → CausesBut options below w es → CausesBut options path w es
causes_above options path below w es on caused = search way_apart

causes_gone : (options : HostOptions) (path : List ℕ) (w : World) (es : Entries)
    → has_at path es ≡ false → CausesBut options path w es → RefusalsJustified options w es
causes_gone options path w es gone caused x = elim (decided (is_way path x)) [
  | inl way ↦ λ cause s at there. absurd (cc (finding-none path x es gone way, at))
  | inr away ↦ caused x away
]

-- A hub that fails

joined_as : (path hub : List ℕ) {port : KnownPort} (h : HostState) (s : StandsAt path port h)
    {p : HubPort} → IsAt (claims h.entries) p path → parent_of path ≡ Some hub
    → (target : Target) (n : ℕ) → p ≡ External target n → path ≡ hub ++ n ∷ []
joined_as path hub h s at above target n is =
    by_port (grind arith)
  where
    by_port : IsAt (claims h.entries) (External target n) path → path ≡ hub ++ n ∷ []
    by_port x = x.path ∙ ap (λ l. l ++ n ∷ [])
        (same_from_push x.hub hub n (port_on_hub path) (sym x.path ∙ rejoined path hub above)).0

module _ {path : List ℕ} {port : KnownPort} {h : HostState} (s : StandsAt path port h)
    (i : IsSoundBut path h) (still : h.world.fault ≡ None) where
  -- a hub that is lost pends
  pub hub_pends : (hub : List ℕ) → parent_of path ≡ Some hub
      → FaultAllowedAt port.port ParentLost h.world → IsLost port.port path h.world
      → pending h.world.roots hub ≡ true
  hub_pends hub above told lost = by_port port.port refl told (hub_server h s i still) lost
      s.askable
    where
      by_port : (p : HubPort) → port.port ≡ p → FaultAllowedAt p ParentLost h.world
          → HasServer p path h.world → IsLost p path h.world → IsAskable p
          → pending h.world.roots hub ≡ true
      by_port (Root number) is told server lost askable = absurd told
      by_port (External target n) is told server lost askable =
          pick (rw above at server)
        where
          pick : (pending h.world.roots hub ≡ true) ⊎ ServesAt target n hub h.world
              → pending h.world.roots hub ≡ true
          pick (inl x) = x
          pick (inr x) =
              let joined = joined_as path hub h s (stands_at-claim s)
              above target n is in
              rw x.there (lost target n refl x.wide x.serves
              (joined ∙ ap (λ l. l ++ n ∷ []) x.there))

  pub lost_caused : (fault : EnumFault) → FaultAllowedAt port.port fault h.world
      → (fault ≡ ParentLost → IsLost port.port path h.world)
      → (fault ≡ ParentLost → CausesBut h.options path h.world h.entries)
      → PortCaused path (Err fault) h
  lost_caused ParentLost told lost caused = by_parent (parent_of path) refl
    where
      by_parent : (o : Option (List ℕ)) → parent_of path ≡ o
          → IsSomeAnd o (λ hub. (pending h.world.roots hub ≡ true)
          × CausesBut h.options hub h.world h.entries)
      by_parent None above = grind arith
      by_parent (Some hub) above = search (causes_above, hub_pends, way_parent)
  lost_caused _ told lost caused = tt

-- The world alone goes on

module _ {n : ℕ} (a : HostState) {b : HostState} (r : OnlyBusSteps a b) (went : HostSteps n a b)
    (agrees : Agrees a.options a.entries a.addresses) (still : b.world.fault ≡ None) where
  before : a.world.fault ≡ None
  before = went_before went still

  pub causes_rests : TouchesNoPort a.world b.world → HostInvariant a
      → RefusalsJustified a.options a.world a.entries
      → RefusalsJustified b.options b.world b.entries
  causes_rests rests i caused =
      rw (ap (λ (h : HostState). h.options) r, ap (λ (h : HostState). h.entries) r)
      (causes_stay a.world b.world
      (accounted a agrees i.rooted) (i.known before)
      (λ path port. course_wider (λ s u x. x.spares) (rests path)) caused)

  pub causes_rests_but : {path : List ℕ} → RestElsewhere path a.world b.world → IsSoundBut path a
      → CausesBut a.options path a.world a.entries → CausesBut b.options path b.world b.entries
  causes_rests_but {path = path} rests i caused =
      rw (ap (λ (h : HostState). h.options) r, ap (λ (h : HostState). h.entries) r)
      (causes_but_stay path a.world b.world
      (accounted a agrees i.rooted) (i.known before)
      (λ x away. course_wider (λ s u y. y.spares) (rests x away)) caused)

  -- a port is tidied
  pub causes_tidied : (path : List ℕ) → RestElsewhere path a.world b.world
      → ((x : List ℕ) → is_way path x ≡ true → HoldsAt x a.world b.world) → HostInvariant a
      → RefusalsJustified a.options a.world a.entries
      → RefusalsJustified b.options b.world b.entries
  causes_tidied path rests holds i caused =
      rw (ap (λ (h : HostState). h.options) r, ap (λ (h : HostState). h.entries) r) each
    where
      each : RefusalsJustified a.options b.world a.entries
      each x cause s at there = pick (decided (is_way path x)) cause s at there
        where
          known : IsKnownAs a.world x (finding_at x a.entries)
          known = i.known before x (grind (arith, accounted, listed_port))

          pick : (is_way path x ≡ true) ⊎ (is_way path x ≡ false)
              → IsJustifiedAt a.options b.world a.entries x
          pick (inl way) = let k = holds x way in
              cause_stands a.options x a.entries a.world b.world k.pends k.stands known (caused x)
          pick (inr away) = cause_stays a.options x a.entries
              (course_wider (λ s u y. y.spares) (rests x away)) known (caused x)

-- At a port

module _ {n : ℕ} {path : List ℕ} {port : KnownPort} {a b : HostState} (s : StandsAt path port a)
    (r : OnlyBusSteps a b) (went : HostSteps n a b) where
  stands_then : StandsAt path port b
  stands_then = rests_stands s r went

  -- its status was not told
  pub watched_caused : (fault : EnumFault) → Watches port.port a.world (Err fault) b.world
      → FaultAllowedAt port.port fault b.world → HostInvariant a → IsFairTo a.world b.world
      → RefusalsJustified a.options a.world a.entries → PortCaused path (Err fault) b
  watched_caused ParentLost w told i fair caused =
      let known = i.known (went_before went fair.still) in
      let sound = sound_rests a r went w.addresses w.devices (w.rests tt) i in
      search (but_of_sound, causes_rests, lost_caused, stands_then, stands_way, w.lost, w.rests)
  watched_caused _ w told i fair caused = tt

  -- it was tidied, or was not
  pub tidied_caused : (result : Result (Unit {0}) EnumFault)
      → Tidies port.port a.world result b.world
      → IfErr result (λ fault. FaultAllowedAt port.port fault b.world) → HostInvariant a
      → IsFairTo a.world b.world → RefusalsJustified a.options a.world a.entries
      → PortCaused path result b
  tidied_caused (Ok tt) t told i fair caused =
      causes_tidied a r went s.agrees fair.still path (search (stands_at-claim, t.others))
      (search (stands_at-claim, t.stays)) i caused
  tidied_caused (Err ParentLost) t told i fair caused =
      let rests = t.others (claims a.entries) path (stands_at-claim s) i.owned tt in
      let but = sound_rests_but a r went t.addresses t.devices (λ still. rests)
      (but_of_sound path i) in
      search (but_of_sound, causes_rests_but, lost_caused, stands_then, t.lost)
  tidied_caused _ t told i fair caused = tt

  -- its change was not cleared
  pub cleared_caused : (fault : EnumFault) → ClearsChange port.port a.world (Err fault) b.world
      → FaultAllowedAt port.port fault b.world → HostInvariant a → IsFairTo a.world b.world
      → RefusalsJustified a.options a.world a.entries → PortCaused path (Err fault) b
  cleared_caused ParentLost x told i fair caused =
      let rests = x.others (claims a.entries) path (stands_at-claim s) i.owned tt in
      let known = i.known (went_before went fair.still) in
      let but = sound_rests_but a r went x.bares x.devices (λ still. rests) (but_of_sound path i) in
      lost_caused stands_then but fair.still ParentLost told
      (λ e. x.lost (claims a.entries) path (stands_at-claim s) i.owned (stands_way a s known)
      fair.few fair.still but.owned.single refl)
      (λ e. causes_rests_but a r went s.agrees fair.still rests (but_of_sound path i)
      (λ x away. caused x))
  cleared_caused _ x told i fair caused = tt

  -- it was cleared, and what was there is forgotten
  pub forgot_caused : {c : HostState} {status : PortStatus}
      → ClearsChange port.port a.world (Ok status) b.world → Forgets path b c → HostInvariant a
      → c.world.fault ≡ None → RefusalsJustified a.options a.world a.entries
      → RefusalsJustified c.options c.world c.entries
  forgot_caused x f i still caused =
      let rests = x.others (claims a.entries) path (stands_at-claim s) i.owned tt in
      let before = ap (λ (h : HostState). h.world.fault) (sym f.others) ∙ still in
      let there = causes_rests_but a r went s.agrees before rests (but_of_sound path i)
      (λ x away. caused x) in
      rw (ap (λ (h : HostState). h.options) f.others, ap (λ (h : HostState). h.world) f.others)
      (rw f.rest (search causes_dropped))

-- What is found there

module _ {n : ℕ} {path : List ℕ} {port : KnownPort} {result : Result Finding EnumFault}
    {a b : HostState} (e : EnumerationAt n path port result a b) (o : IsOpen path a)
    (fair : IsFairTo a.world b.world) where
  found_before : a.world.fault ≡ None
  found_before = went_before e.went fair.still

  found_fair : IsFair (claims a.entries) port.port path a.addresses a.world b.world
  found_fair = record {
    begins = begins e o;
    occupied = o.there found_before;
    server = hub_server a e.stands o.but found_before;
    few = fair.few;
    kept = fair.kept;
    working = fair.still;
  }

  found_causes : CausesBut a.options path a.world a.entries
      → CausesBut b.options path b.world a.entries
  found_causes caused =
      let only = found_only e o fair.still in
      rw e.options (causes_but_stay path a.world b.world
      (accounted a e.stands.agrees o.but.rooted) (o.but.known found_before)
      (λ x away. course_wider (λ s u y. y.spares) (only.others x away)) caused)

entered_caused : {n : ℕ} {path : List ℕ} {port : KnownPort} {f : Finding} {a b : HostState}
    → EnumerationAt n path port (Ok f) a b → IsOpen path a → IsFairTo a.world b.world
    → b.entries ≡ insert_entry path_cmp a.entries path f
    → CausesBut a.options path a.world a.entries → PortCaused path (Ok tt) b
entered_caused {path = path} {port = port} {f = f} {a = a} {b = b} e o fair is caused =
    rw is (causes_found path f a.entries e.stands.is.0 e.away b.options b.world
    (causes_gone b.options path b.world a.entries e.away (found_causes e o fair caused)) here)
  where
    here : IsJustifiedAt b.options b.world (insert_entry path_cmp a.entries path f) path
    here cause t at there =
        let found : f ≡ Refused cause =
        cc (sym (lookup-insert_entry_here path f a.entries) ∙ at) in
        elim (e.gives.warrants.cause (claims a.entries) path (found_fair e o fair) cause t
        (ap Ok found) there) [
          | inl x ↦ inl x
          | inr x ↦ inr (rw (supply_found path f a.entries e.stands.known)
              (grind arith))
        ]

unfound_caused : {n : ℕ} {path : List ℕ} {port : KnownPort} {fault : EnumFault} {a b : HostState}
    → EnumerationAt n path port (Err fault) a b → IsOpen path a → IsFairTo a.world b.world
    → b.entries ≡ a.entries → FaultAllowedAt port.port fault b.world
    → CausesBut a.options path a.world a.entries → PortCaused path (Err fault) b
unfound_caused {path = path} {fault = ParentLost} {a = a} {b = b} e o fair same told caused =
    by_parent (parent_of path) refl
  where
    by_parent : (p : Option (List ℕ)) → parent_of path ≡ p
        → IsSomeAnd p (λ hub. (pending b.world.roots hub ≡ true)
        × CausesBut b.options hub b.world b.entries)
    by_parent None above = grind arith
    by_parent (Some hub) above = (
      rw above at (e.gives.warrants.parent (claims a.entries) path (found_fair e o fair) refl),
      subst (CausesBut b.options hub b.world) (sym same)
          (search (causes_above, found_causes, way_parent)),
    )
unfound_caused {fault = _} e o fair same told caused = tt

-- what was found at a port is entered, or its hub is lost
module _ {n : ℕ} {path : List ℕ} {port : KnownPort} {a b : HostState} where
  pub entered_finds : {f : Finding} → EnumerationAt n path port (Ok f) a b → (said : ArrayVec ℕ)
      → table_in b ≡ entered path f said (table_in a) → KeepsPort path a (Ok tt) b
      → FindsSound path a (Ok tt) b
  entered_finds e said table keeps = record {
    sound = search entered_sound;
    bulk = search entered_bulk;
    cut = λ o. tt;
    backlog = λ o still. (found_only e o still).backlog;
    few = λ o. found_few e o;
    caused = λ o fair. entered_caused e o fair (ap (λ (t : Table). t.entries) table);
  }

  -- there was no memory to enter it
  pub unentered_finds : {f : Finding} → EnumerationAt n path port (Ok f) a b
      → b.entries ≡ a.entries → b.pipes ≡ a.pipes → FindsSound path a (Err Memory) b
  unentered_finds e same pipes_same = record {
    sound = λ o. tt;
    bulk = λ o on. absurd on;
    cut = search unfound_where;
    backlog = λ o still. (found_only e o still).backlog;
    few = λ o. found_few e o;
    caused = λ o fair caused. tt;
  }

  pub unfound_finds : {fault : EnumFault} → EnumerationAt n path port (Err fault) a b
      → b.entries ≡ a.entries → b.pipes ≡ a.pipes → b.addresses ≡ a.addresses
      → FaultAllowedAt port.port fault b.world → KeepsPort path a (Err fault) b
      → FindsSound path a (Err fault) b
  unfound_finds e same pipes_same pool_same told keeps = record {
    sound = search unfound_sound;
    bulk = search unfound_bulk;
    cut = search unfound_where;
    backlog = λ o still. (found_only e o still).backlog;
    few = λ o. found_few e o;
    caused = search unfound_caused;
  }

-- A hub is dropped

module _ (n : ℕ) {path : List ℕ} {port : KnownPort} (a b : HostState) (s : StandsAt path port a)
    (r : OnlyBusSteps a b) (went : HostSteps n a b) (addresses : KeepsAddresses a.world b.world)
    (devices : KeepsDevices a.world b.world) (d : IsDroppable path a)
    (fair : IsFairTo a.world b.world) where
  told_rests : {result : Result (Unit {0}) PipeFault}
      → CommandsPort port.port (clear_call PORT_ENABLE) a.world result b.world → IsNoBusFault result
      → RestElsewhere path a.world b.world
  told_rests calls sound =
      calls.rests (claimed s r went addresses devices d).claims path ClearEnable (search is_call)
      sound

  pub told_caused : CommandsPort port.port (clear_call PORT_ENABLE) a.world (Ok tt) b.world
      → pending a.world.roots path ≡ true → CausesBut a.options path a.world a.entries
      → Disabled true path b
  told_caused calls pends caused = (
    pends_there path ClearEnable a.world b.world refl
        (calls.done (claimed s r went addresses devices d).claims path ClearEnable
        (search is_call) refl) pends,
    causes_rests_but a r went s.agrees fair.still (told_rests calls tt) d.but caused,
  )

  -- it could not be told
  pub untold_caused : {fault : PipeFault} → CommandsPort port.port (clear_call PORT_ENABLE) a.world
      (Err fault) b.world → FaultAfter 1 a.world fault b.world
      → PortCleared port.port PORT_ENABLE a.world (Err fault) b.world
      → CausesBut a.options path a.world a.entries → Disabled false path b
  untold_caused {fault = fault} calls told cleared caused = by_parent (parent_of path) refl
    where
      rests : RestElsewhere path a.world b.world
      rests = search (fault_after-no_bus, told_rests)

      but : IsSoundBut path b
      but = sound_rests_but a r went addresses devices (λ still. rests) d.but

      unserved : (hub : Target) (number : ℕ) → port.port ≡ External hub number → (f : PipeFault)
          → f ≡ fault → NoHubFailed {A = Unit {0}} (Err f) → ⊥
      unserved hub number is (pipe.Bus g) e h = grind arith
      unserved hub number is pipe.Memory e h = grind arith
      unserved hub number is _ e h = h

      lost : IsLost port.port path b.world
      lost hub number is most serves joined =
          absurd (unserved hub number is fault refl
          (calls.why hub number is fair.few but.owned.single serves))

      by_port : (p : HubPort) → PortCleared p PORT_ENABLE a.world (Err fault) b.world
          → FaultAllowedAt p ParentLost b.world
      by_port (External hub number) x = tt
      by_port (Root number) x = absurd (cc x.done)

      by_parent : (o : Option (List ℕ)) → parent_of path ≡ o
          → IsSomeAnd o (λ hub. (pending b.world.roots hub ≡ true)
          × CausesBut b.options hub b.world b.entries)
      by_parent None above = grind arith
      by_parent (Some hub) above = (
        hub_pends (rests_stands s r went) but fair.still hub above (by_port port.port cleared) lost,
        causes_above b.options hub path b.world b.entries (way_parent path hub above)
            (causes_rests_but a r went s.agrees fair.still rests d.but caused),
      )

module _ {lost : List ℕ} {b d : HostState} (l : LostListed lost b d) where
  lost_causes : pending b.world.roots lost ≡ true → CausesBut b.options lost b.world b.entries
      → RefusalsJustified d.options d.world d.entries
  lost_causes pends caused =
      rw (lost_options l, lost_world l) (rw (lost_entries l) (causes_found lost (Refused Lost)
      l.left.entries l.path.0 l.forgot.gone b.options b.world
      (subst (RefusalsJustified b.options b.world) (sym l.forgot.rest) (search causes_dropped))
      (λ cause s at there. inl pends)))

  -- no pipe to a function but those of what is dropped has changed
  lost_stay : (a : HostState) → OnlyBusSteps a b → KeepsDevices a.world b.world
      → d.world.shared ≡ false → AllStay a d
  lost_stay a r devices single =
      stay_joined a l.left d
      (stay_joined a b l.left (grind (arith, stay_rests)) (stay_forgotten l.forgot))
      (stay_refused lost Lost l.said l.left d l.table (grind arith))

  -- it is listed as lost
  pub lost_drops : {hub : List ℕ} {a : HostState} → OnlyBusSteps a b
      → a.world.taken ≤ b.world.taken → Climbs hub a (Ok lost) b → DropsHub hub a (Ok tt) d
      → DropsSound hub a (Ok tt) d
  lost_drops {a = a} r onward climbs drops =
      let back : d.world.fault ≡ None → b.world.fault ≡ None = λ still. grind arith in
      record {
        sound = λ p. lost_sound_there l (climbs.sound p) p drops;
        bulk = λ p still.
            bulk_stays a d (grind (arith, lost_stay))
            (subst (MovesNoBulk a.world) (sym (lost_world l))
            (by_control (climbs.control (back still))));
        plugs = plugs_lost a d (rw (lost_world l) onward) drops.lost;
        backlog = grind arith;
        caused = λ p fair pends caused.
            let x = climbs.caused p (rw (lost_world l) at fair) pends caused in
            lost_causes x.0 x.1;
      }
