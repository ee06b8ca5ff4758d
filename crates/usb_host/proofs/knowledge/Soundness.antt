-- What a host knows stays so over the parts of a round, transfers and events.
use Rattle.std.proofs.Common.{arith, ◌≡◌, ◌∙◌, refl, sym, ap, subst, ℕ, List, Bool, true, false}
use Rattle.std.proofs.Common.{Option, None, Result, Ok, Err, IsSome, inl, inr}
use Rattle.std.specs.BTreeMap.{is_at}
use Rattle.usb_port.specs.{path_cmp}
use Rattle.usb_world.specs.{BusFault, event_taken, event, after, step, here as no_more, AnyStep}
use Rattle.usb_world.specs.{World, roots_of, pending, is_way}
use Rattle.usb_device.specs.{Location, State}
use Rattle.usb_world.proofs.Interface.{course_wider, each_wider, first_fault, way_itself}
use Rattle.usb_world.proofs.Interface.{false_true, decided}
use Rattle.usb_transfer.specs.{NoThreeDamaged}
use Rattle.usb_hub.specs.{KeepsAddresses, MapHolds, WhileBusWorks}
use Rattle.usb_enum.specs.{Finding, IsOccupied, IsInOrder}
use Rattle.usb_enum.proofs.Interface.{orderly_on, step_later, went_in_order}
use Rattle.usb_table.specs.{finding_at, AllInSync, IsHeld, KeepsInSync, KeepsLevels, OnlySets}
use Rattle.usb_table.specs.{OnlyTransfers, SameDevice, SameSettings, Table}
use Rattle.usb_table.proofs.Interface.{all_kept, path_tied}
use Rattle.usb_host.specs.{HostFault, Round, Agrees, KeepsBulk, HostState, KeepsPlugs, StaysOwned}
use Rattle.usb_host.specs.{table_in, HostSteps, HostRuns, PortsListed, DevicesAccurate, Accounted}
use Rattle.usb_host.specs.{RefusalsJustified, HostInvariant, IsSoundBut, IsFairTo, KeepsInvariant}
use Rattle.usb_host.specs.{PartStays, PartKeepsInvariant, IsDroppable, DropsSound, RoundsSound}
use Rattle.usb_host.specs.{TransferKeeps, HostMapHolds, claims, OnlyBusSteps}
use Rattle.usb_host.proofs.StepSums.{went_before}
use Rattle.usb_host.proofs.devices.Pipes.{bulk_none, bulk_stopped, bulk_then}
use Rattle.usb_host.proofs.parts.Events.{known_event, truthful_event, causes_event, level_event}
use Rattle.usb_host.proofs.devices.Fairness.{fair_before, fair_after}
use Rattle.usb_host.proofs.devices.Owners.{but_all, owning_kept, stays_kept}
use Rattle.usb_host.proofs.devices.Plugs.{plugs_stopped, plugs_then}
use Rattle.usb_host.proofs.entries.Roots.{accounted}
use Rattle.usb_host.proofs.knowledge.SettledListings.{listed_port}
use Rattle.usb_host.proofs.knowledge.Places.{known_each, truthful_stays, causes_stay}
use Rattle.usb_host.proofs.knowledge.HandledPorts.{occupied_by}
use Rattle.usb_world.specs.declared.event.Ask.{Ask}
use Rattle.usb_bus.specs.{TakesEvent}
use Rattle.usb_hub.proofs.Interface.{event_keeps}

-- One part after another

pub sound_none : (h : HostState) → KeepsInvariant h h
sound_none h = grind arith

-- a transfer that did nothing
pub transfer_none : (h : HostState) → TransferKeeps h h
transfer_none h = grind arith

pub part_none : (h : HostState) → PartStays h h
part_none h = grind (arith, bulk_none)

pub part_then : (m : ℕ) {n : ℕ} (a b c : HostState) → HostSteps m a b → HostSteps n b c
    → PartStays a b → PartStays b c → PartStays a c
part_then m {n = n} a b c first second x y = record {
  sound = record {
    options = y.sound.options ∙ x.sound.options;
    sound = λ s. y.sound.sound (x.sound.sound s);
    caused = λ s fair caused.
        y.sound.caused (x.sound.sound s) (fair_after first fair)
        (x.sound.caused s (fair_before second fair) caused);
  };
  bulk = λ s still. bulk_then m n a b c first second still
      (x.bulk s (went_before second still)) (y.bulk (x.sound.sound s) still);
  plugs = λ s still. plugs_then m n a b c first second still
      (x.plugs s (went_before second still)) (y.plugs (x.sound.sound s) still);
}

-- A device that was found stands at its port, or a change is pending there

occupied_at : (path : List ℕ) (h : HostState) → Accounted h.options (roots_of h.world) h.entries
    h.addresses
    → PortsListed h.world h.entries → (o : Option Finding) → finding_at path h.entries ≡ o
    → IsSome o → IsOccupied h.world path
occupied_at path h fits known o at some = grind (arith, listed_port, occupied_by)

is_way-apart : (path other : List ℕ) → is_way path other ≡ false
    → is_at (path_cmp path) other ≡ false
is_way-apart path other away = elim (decided (is_at (path_cmp path) other)) [
  | inl tie ↦ false_true (sym away ∙ ap (is_way path) (sym (path_tied path other tie))
      ∙ way_itself path)
  | inr apart ↦ apart
]

-- A call through the pipes at a path: it changes no entry and asks nothing of any port, and keeps
-- each device but for the settings of its interfaces

pub record PipeCall (n : ℕ) (path : List ℕ) (ends : Type 0) (a b : HostState) : Type 0 where
  pub agrees : Agrees a.options a.entries a.addresses
  pub same : b.entries ≡ a.entries
  pub width : b.options ≡ a.options
  pub went : HostSteps n a b
  pub levels : KeepsLevels OnlySets path ends (table_in a) a.world (table_in b) b.world

module _ {n : ℕ} {path : List ℕ} {ends : Type 0} {a b : HostState} (call : PipeCall n path ends a b)
  where
    before : b.world.fault ≡ None → a.world.fault ≡ None
    before still = went_before call.went still

    pub stays_under : StaysOwned a b
    stays_under = grind (arith, stays_kept)

    held : HostInvariant a → b.world.fault ≡ None → IsHeld (table_in a) a.world
    held s still = s.owned.so (before still)

    pub known_under : HostInvariant a → b.world.fault ≡ None → PortsListed b.world b.entries
    known_under s still =
        rw call.same (known_each a.world b.world a.entries call.went.spends.roots
        (grind arith) (s.known (before still)))

    pub truthful_under : HostInvariant a → b.world.fault ≡ None
        → DevicesAccurate b.options b.world b.entries
    truthful_under s still =
        rw (call.width, call.same) (truthful_stays a.world b.world a.entries
        (grind (arith, stays_under)) (s.truthful (before still)))

    -- each cause stays so, wherever it ends
    pub caused_under : HostInvariant a → IsFairTo a.world b.world
        → RefusalsJustified a.options a.world a.entries
        → RefusalsJustified b.options b.world b.entries
    caused_under s fair causes =
        rw (call.width, call.same) (causes_stay a.world b.world (accounted a call.agrees s.rooted)
        (s.known (before fair.still))
        (λ path port. course_wider (λ s u x. x.spares) (call.levels.worlds.rests fair.still path))
        causes)

    -- where it ends well
    pub sound_under : (b.world.fault ≡ None → ends) → KeepsInvariant a b
    sound_under well = record {
      options = call.width;
      sound = λ s. record {
        owned = stays_under.stays s.owned;
        rooted = stays_under.rooted s.rooted;
        order = search went_in_order;
        known = known_under s;
        truthful = truthful_under s;
        level = λ still. all_kept path ends (table_in a) (table_in b) a.world b.world call.levels
            (held s still) (well still) (s.level (before still));
      };
      caused = caused_under;
    }

    -- where it does not, the device at the path may be dropped
    pub but_under : HostInvariant a → IsSoundBut path b
    but_under s = record {
      owned = but_all (stays_under.stays s.owned);
      rooted = stays_under.rooted s.rooted;
      order = search went_in_order;
      known = search known_under;
      truthful = search truthful_under;
      level = grind (arith, before, is_way-apart);
    }

    pub occupied_under : HostInvariant a → IsSome (finding_at path b.entries) → b.world.fault ≡ None
        → Agrees b.options b.entries b.addresses → IsOccupied b.world path
    occupied_under s listed still agrees_on = grind (arith, accounted, known_under, occupied_at)

-- a call that sets no interface does so, too
same_device : (x : Location) (s v : State) → SameSettings x s v → SameDevice x s v
same_device x s v same = grind arith

only_sets : {old new : World} → OnlyTransfers old new → OnlySets old new
only_sets {old} {new} only = record {
  addresses = only.addresses;
  devices = λ single. each_wider SameSettings SameDevice same_device old new
      (only.devices.same single);
  rests = only.rests;
  backlog = only.backlog;
}

pub in_sync-sets : {path : List ℕ} {ends : Type 0} {old new : Table} {before after : World}
    → KeepsInSync path ends old before new after
    → KeepsLevels OnlySets path ends old before new after
in_sync-sets k = grind (arith, only_sets)

-- A transfer, as long as the bus is at work

pub transfer_under : {n : ℕ} {path : List ℕ} {a b : HostState}
    → PipeCall n path (b.world.fault ≡ None) a b → a.stopped ≡ false → TransferKeeps a b
transfer_under call going = search (owning_kept, sound_under)

pub transfer_kept : {n : ℕ} {path : List ℕ} {a b : HostState}
    → Agrees a.options a.entries a.addresses → b.entries ≡ a.entries → b.options ≡ a.options
    → HostSteps n a b
    → KeepsInSync path (b.world.fault ≡ None) (table_in a) a.world (table_in b) b.world
    → a.stopped ≡ false → TransferKeeps a b
transfer_kept agrees same width went keeps = transfer_under (record {
  agrees = agrees;
  same = same;
  width = width;
  went = went;
  levels = in_sync-sets keeps;
})

-- A hub is dropped

-- where a change was pending at it, as it did not answer
pub sound_dropped : (result : Result (Unit {0}) HostFault) {hub : List ℕ} (m : ℕ) {n : ℕ}
    (a b c : HostState) → HostRuns m a b → HostRuns n b c → (HostInvariant a → IsDroppable hub b)
    → (HostInvariant a → IsFairTo a.world b.world → RefusalsJustified a.options a.world a.entries
    → RefusalsJustified b.options b.world b.entries)
    → (HostInvariant a → b.world.fault ≡ None → KeepsBulk a b) → KeepsPlugs a b
    → DropsSound hub b result c → (HostInvariant a → b.world.fault ≡ None → NoThreeDamaged a.world
    → pending b.world.roots hub ≡ true) → PartKeepsInvariant a result c
sound_dropped (Ok done) m {n = n} a b c p q drops causes bulk plugs d pends = record {
  sound = record {
    options = q.options ∙ p.options;
    sound = λ s. d.sound (drops s);
    caused = λ s fair caused.
        let before : IsFairTo a.world b.world = fair_before q.went fair in
        d.caused (drops s) (fair_after p.went fair) (search before) (search before);
  };
  bulk = search (bulk_then, went_before, p.went, q.went, d.bulk);
  plugs = search (plugs_then, p.went);
}
sound_dropped (Err fault) m a b c p q drops causes bulk plugs d pends = tt

-- An event comes

taken_sound : (f : Option BusFault) (w : World) → w.fault ≡ f → (event_taken f w).fault ≡ w.fault
taken_sound f w is = grind (arith, first_fault)

event_sound : (w : World) → (after event w).fault ≡ None → w.fault ≡ None
unfolding after
event_sound w sound = sym (taken_sound w.fault w refl) ∙ sound

pub sound_event : (a b : HostState) → Agrees a.options a.entries a.addresses → b.entries ≡ a.entries
    → b.options ≡ a.options → b.pipes ≡ a.pipes → b.world ≡ after event a.world
    → KeepsAddresses a.world b.world
    → KeepsInvariant a b
sound_event a b agrees same width pipes is k = record {
  options = width;
  sound = sound;
  caused = caused;
}
  where
    roots : roots_of b.world ≡ roots_of a.world
    roots = grind (arith, step_later)

    owned : StaysOwned a b
    owned = stays_kept a b same roots k

    table : table_in b ≡ table_in a
    table = grind arith

    before : b.world.fault ≡ None → a.world.fault ≡ None
    before still = grind (arith, event_sound)

    ordered : IsInOrder a.world → IsInOrder (after event a.world)
    ordered order sound = orderly_on {K = AnyStep} (order (event_sound a.world sound))
        (step event tt (no_more (after event a.world)))

    sound : HostInvariant a → HostInvariant b
    sound s = record {
      owned = owned.stays s.owned;
      rooted = owned.rooted s.rooted;
      order = rw is (ordered s.order);
      known = grind (arith, before, known_event);
      truthful = λ still. rw width (subst (DevicesAccurate a.options b.world) (sym same)
          (rw is (truthful_event a.world a.entries (s.truthful (before still)))));
      level = λ still.
          subst (λ (t : Table). AllInSync t b.world) (sym table)
          (rw is (level_event (table_in a) a.world (s.level (before still))));
    }

    caused : HostInvariant a → IsFairTo a.world b.world
        → RefusalsJustified a.options a.world a.entries
        → RefusalsJustified b.options b.world b.entries
    caused s fair causes =
        rw (width, same) (rw is (causes_event a.world (accounted a agrees s.rooted)
        (s.known (before fair.still)) causes))

-- A whole round: only the host's own stop is new after its parts

sound_stopped : (b : HostState) (stopped : Bool) → HostInvariant b
    → HostInvariant (record b { stopped = stopped })
sound_stopped b stopped s = grind arith

pub rounds_stopped : (result : Result Round HostFault) (a b : HostState) (stopped : Bool)
    → RoundsSound a result b → RoundsSound a result (record b { stopped = stopped })
rounds_stopped (Ok round) a b stopped x =
    search (
      bulk_stopped,
      plugs_stopped,
      sound_stopped,
      x.keeps.sound.sound,
      x.keeps.bulk,
      x.keeps.plugs,
    )
rounds_stopped (Err fault) a b stopped x = grind arith

-- What an event leaves of a host that keeps what it has.

-- what it knew is so as before, where the event came or none was left
pub sound_came : (old new : HostState) (due : Option (Option Ask))
    → Agrees old.options old.entries old.addresses
    → TakesEvent old.world old.trace (Ok due) new.world
    new.trace
    → OnlyBusSteps old new → KeepsInvariant old new
sound_came old new due agrees takes rests =
    sound_event old new agrees (grind arith)
    (grind arith) (ap (λ (h : HostState). h.pipes) rests) takes.exact
    (event_keeps old.world (Ok due) new.world takes.took takes.exact takes.kept takes.cut
    (grind arith))

-- and devices hold the addresses that it has for them, also where the bus told a fault
pub owning_came : (old new : HostState) (result : Result (Option (Option Ask)) BusFault)
    → old.stopped ≡ false → TakesEvent old.world old.trace result new.world new.trace
    → OnlyBusSteps old new → HostMapHolds old → HostMapHolds new
owning_came old new result running takes rests o =
    let kept : WhileBusWorks (MapHolds (claims old.entries)) new.world =
    (event_keeps old.world result new.world takes.took takes.exact takes.kept takes.cut
    (grind arith)).kept (claims old.entries)
    (o.owned running) in grind arith
