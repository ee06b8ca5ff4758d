-- Why an enumeration stops, where all is fair.
use Rattle.std.proofs.Common.{◌≡◌, ◌⊎◌, inl, inr, ◌+◌, ◌≤◌, ◌&&◌, max, ℕ, zero, suc, Bool, true}
use Rattle.std.proofs.Common.{false, List, [], ◌∷◌, Option, None, Some, Result, Ok, Err, is_some}
use Rattle.std.proofs.Common.{refl, ap, sym, subst, ◌∙◌, arith}
use Rattle.std.specs.Option.{option_or}
use Rattle.std.specs.Prelude.{unwrap_or}
use Rattle.usb_request.specs.{PORT_RESET, C_PORT_RESET, set_address}
use Rattle.usb_port.specs.{PortState, reset, PortStatus, SetReset, set_call, clear_call}
use Rattle.usb_device.specs.{State, Spec, IsSpec, Ports, reach, state_at, Location, path_to}
use Rattle.usb_device.specs.{reach_on, state_on, state_there, port_there}
use Rattle.usb_world.specs.{after_taking, Relation, Was, EachWas, one_more, Consistent, World}
use Rattle.usb_world.specs.{address_of, pending}
use Rattle.usb_world.proofs.Interface.{course_wider, pending_persists, rests_or_pends, sane_spec}
use Rattle.usb_world.proofs.Interface.{false_true}
use Rattle.usb_transfer.specs.{Target, Listens, NoThreeDamaged, PipeFault, WriteFailure}
use Rattle.usb_transfer.specs.{TookItOrLost, took, lost}
use Rattle.usb_hub.specs.{AddressMap, Enumerating, WhileBusWorks}
use Rattle.usb_hub.proofs.Interface.{attached_there, live_port}
use Rattle.usb_transfer.specs.declared.fault.PipeFault.TheVariants as pipe
use Rattle.usb_hub.specs.{HubPort, IsAt, PortCallDone, PortStatusAt, Commanded, AddressAsked}
use Rattle.usb_hub.proofs.Interface.{done_stands}
use Rattle.usb_enum.specs.{Cause, Lost, Stalled, EnumFault, Stop, IsSpare, AtPort, CalledAt}
use Rattle.usb_enum.specs.{SettlesReset, StatusAt, IsUnaddressed, needs_pre, IsFairAt, PendingOr}
use Rattle.usb_enum.specs.{StopsFor, StopsFairly, Missed, Misses, OnlyAsks, Hears, Explained}
use Rattle.usb_enum.specs.{FailureReason, NoNewStretch, IsReachedAt, AtPath, HasHead, AwaitsAddress}
use Rattle.usb_enum.specs.{Awaits, WasReset, IsResponsive, IsRefusedFor, Refuses, no_fault}
use Rattle.usb_enum.specs.{head_fault, early_fault, address_fault, device_fault, addressed_fault}
use Rattle.usb_enum.specs.{NoDescriptor, RefusesDescriptor, stop_of, answered_or, StopFaults, Went}
use Rattle.usb_enum.specs.declared.cause.Request.TheVariants as request
use Rattle.usb_enum.specs.declared.stop.Stop.TheVariants.{Refused, Fault}
use Rattle.usb_enum.proofs.courses.Courses.{went_on}
use Rattle.usb_enum.proofs.devices.Enumerations.{answered_has, having, at_taking, within_kept}
use Rattle.usb_enum.proofs.courses.Fairness.{fair_before, fair_then, fair_single, faults_for_told}
use Rattle.usb_enum.proofs.courses.Fairness.{pends_reached, held_spare}
use Rattle.usb_enum.proofs.devices.Frames.{called_is}
use Rattle.usb_enum.proofs.courses.Losses.{course_later, no_stretch_then}
use Rattle.usb_enum.proofs.devices.Presence.{responsive, Granted, StoodAt, granted, held_at}
use Rattle.usb_enum.proofs.devices.Presence.{path_on, was_at, at_place}
use Rattle.usb_enum.proofs.devices.ReachedDevices.{done_at, reached_on, reach-state, is_some-value}
use Rattle.usb_enum.proofs.refusals.Refusals.{answered_err, each_joint}

-- A reset enables the port of a device

reset_enables : (k : Ports) (p : List ℕ) (b : PortState) (s : State) → Consistent k
    → b.power ≡ true → port_there k p ≡ Some b → state_there k p ≡ Some s → (reset b).enable ≡ true
reset_enables k p b s sane power at there =
    rw (power, attached_there k p b sane at ∙ ap is_some there) refl

pub reset_lost : {port : HubPort} {address : ℕ} {status : PortStatus} {old set told : World}
    → Went old set → Went set told → AtPort port address old set → OnlyAsks set told
    → CalledAt port (set_call PORT_RESET) old (Ok tt) set → StatusAt port set (Ok status) told
    → status.enabled ≡ false → StopsFairly no_fault port address (Refused Lost) old told
reset_lost {port} {address} {status} {old} {set} {told} first second at_set asks called shown off =
    record {
      why = λ f p fair held.
          let later : pending set.roots p ≡ true → pending told.roots p ≡ true = λ x.
          pending_persists p (course_wider (λ s w k. k.spares) (asks.ports fair.working p)) x in
          let h = having f p address fair.held in
          let done : PortCallDone p SetReset old set = called.calls.done (after_taking f p h.has) p
          SetReset (search called_is)
          (done_at called.told) in
          let k = having f p address (at_set.within.stays f p fair.spare fair.held) in
          let seen : PortStatusAt p status set told =
          search (at_taking, done_at, shown.tells.tells) in
          inl (elim fair.occupied [
            | inl x ↦ later (grind (arith, pending_persists))
            | inr is ↦ elim (done_stands p SetReset refl old set done is.0) [
              | inr x ↦ later x
              | inl y ↦ (let s = is_some-value (state_there old.roots p) is.1 in
                  let b = live_port old.roots p is.0 in
                  elim (rests_or_pends p (seen.before p) y.0) [
                    | inr x ↦ pending_persists p (course_wider (λ s w k. k.spares) (seen.since p)) x
                    | inl z ↦ (grind (arith, reset_enables))
                  ])
            ]
          ]);
    }

pub settle_failed : {port : HubPort} {changed : Bool} {why : EnumFault} {old new : World}
    → SettlesReset port changed old (Err why) new
    → CalledAt port (clear_call C_PORT_RESET) old (Err why) new
settle_failed settles = grind arith

pub reset_goes : {port : HubPort} {status : PortStatus} {old set : World} {told new : World}
    → Went old set → Went set told → Went told new
    → CalledAt port (set_call PORT_RESET) old (Ok tt) set → StatusAt port set (Ok status) told
    → SettlesReset port status.reset_changed told (Ok tt) new → new.fault ≡ None
    → NoNewStretch old new
reset_goes {status} {told} first second third called shown settles none =
    let none_told = third.led.sound none in
    no_stretch_then (grind arith)
    (no_stretch_then (shown.goes none_told) (grind arith))

-- The device at the port hears its target

-- it has the target's speed and address, and this is so of its description
pub record IsTargeted (A : Spec → Type 0) (t : Target) (s : State) : Type 0 where
  pub low : s.spec.low ≡ t.low
  pub address : address_of s ≡ t.addr
  pub so : A s.spec

pub explained_at : (So A : Spec → Type 0) (t : Target) (f : AddressMap) (port : HubPort)
    (p : List ℕ) (mid new : World) → IsAt f port p → t.pre ≡ (t.low && needs_pre port)
    → NoThreeDamaged mid → new.shared ≡ false → Consistent mid.roots → FailureReason So t mid new
    → AtPath (IsTargeted A t) p mid → AtPath (λ s. So s.spec × A s.spec) p new
explained_at So A t f port p mid new at pre three single sane explains is v on there =
    let s : StoodAt p mid (λ j s. Explained Hears So t j s v) =
    was_at (Explained Hears So t) p mid new (explains three single) v on there in
    let has = at_place (IsTargeted A t) is s in grind (arith, sane_spec)

-- Its head

pub head_stops : {port : HubPort} {address : ℕ} {low : Bool} (pre : Bool) (stop : Stop)
    {old mid new : World} → Went old mid
    → Went mid new → AtPort port address old mid → AtPort port 0 old mid → OnlyAsks mid new
    → WasReset low port 0 old mid → pre ≡ (low && needs_pre port) → StopFaults stop new
    → (let t : Target = record { addr = 0; max = 8; low = low; pre = pre } in
    FailureReason (IsRefusedFor (head_fault low) stop) t mid new)
    → StopsFairly early_fault port address stop old new
head_stops pre (Fault why) first second at at_zero asks was is told explains =
    search faults_for_told
head_stops {port} {address} {low} pre (Refused cause) {mid} {new} first second at at_zero asks
    was is told explains = record {
      why = λ f p fair held.
          let spare = held_spare fair.spare in
          let sound = second.led.sound fair.working in
          let here = fair_then first second fair at in
          let single = ((within_kept asks.addresses).stays f p fair.spare here.held).single in
          pends_reached (λ spec. early_fault spec ≡ Some cause) p new
          (reached_on p (asks.ports fair.working p) (search was.reaches.reached)) (λ s on there.
          let so = explained_at (λ spec. head_fault low spec ≡ Some cause) (λ spec. spec.low ≡ low)
          (record { addr = 0; max = 8; low = low; pre = pre }) f port p mid new fair.spare.at is
          here.few single (here.order sound).sane explains (grind arith) s on there in
          subst (λ x. head_fault x s.spec ≡ Some cause) (sym so.1) so.0);
    }

-- What is wrong up to the whole device descriptor

pub early_none : {low : Bool} {max : ℕ} {spec : Spec} → spec.low ≡ low → HasHead low max spec
    → early_fault spec ≡ None
unfolding head_fault
early_none same head = grind arith

pub addressed_early : (spec : Spec) (cause : Cause) → early_fault spec ≡ Some cause
    → addressed_fault spec ≡ Some cause
unfolding addressed_fault
addressed_early spec cause e = grind arith

addressed_rest : (spec : Spec) → early_fault spec ≡ None
    → addressed_fault spec ≡ option_or (address_fault spec) (device_fault spec.low spec)
unfolding addressed_fault
addressed_rest spec e = grind arith

addressed_stalled : (spec : Spec) → early_fault spec ≡ None → spec.stalls.address ≡ true
    → addressed_fault spec ≡ Some (Stalled request.Address)
addressed_stalled spec e stalls = grind (arith, addressed_rest)

addressed_device : (spec : Spec) (cause : Cause) → early_fault spec ≡ None
    → spec.stalls.address ≡ false → device_fault spec.low spec ≡ Some cause
    → addressed_fault spec ≡ Some cause
addressed_device spec cause e stalls fault = grind (arith, addressed_rest)

-- SET_ADDRESS

-- of a device that awaits its address, at the end of the call
module _ (port : HubPort) (address : ℕ) (target : Target) (outcome : Result (Unit {0}) PipeFault)
    {old mid new : World} (first : Went old mid) (second : Went mid new)
    (at : AtPort port address old mid) (at_new : AtPort port address old new)
    (is : IsUnaddressed port target) (awaits : Awaits target port 0 old mid)
    (ordered : Commanded target (set_address address) mid outcome new) where
  pub address_reached : (f : AddressMap) (p : List ℕ) → IsFairAt f port p address old new
      → WhileBusWorks (Enumerating f p 0) old → IsReachedAt new p
  unfolding set_address
  address_reached f p fair held =
      reached_on p (ordered.rests refl (grind arith) p)
      (grind arith)

  module _ (what : new.shared ≡ false → EachWas (AddressAsked target address outcome mid new) mid
      new) (why : NoThreeDamaged mid → new.shared ≡ false
      → EachWas (WriteFailure target outcome) mid new) where
    abbrev Both : Relation
    Both j s v = AddressAsked target address outcome mid new j s v
        × WriteFailure target outcome j s v

    address_refused : {f : AddressMap} {p : List ℕ} → IsFairAt f port p address old new
        → (cause : Cause) → ((j : Location) (s v : State) → Both j s v → Listens target j s
        → IsSpec s.spec → AwaitsAddress target s → addressed_fault s.spec ≡ Some cause)
        → WhileBusWorks (Enumerating f p 0) old
        → PendingOr (λ spec. addressed_fault spec ≡ Some cause) p new
    address_refused {f} {p} fair cause so held =
        let here = fair_then first second fair at in
        let single = fair_single fair at_new in
        let each : EachWas Both mid new = each_joint (AddressAsked target address outcome mid new)
        (WriteFailure target outcome) Both (λ j s v x y. (x, y)) mid new (what single)
        (why here.few single) in
        pends_reached (λ spec. addressed_fault spec ≡ Some cause) p new
        (address_reached f p fair held) (λ v on there.
        let s : StoodAt p mid (λ j s. Both j s v) = was_at Both p mid new each v on there in
        let waits = at_place (AwaitsAddress target)
        (awaits.found.found f p (held_spare fair.spare) held fair.order) s in
        subst (λ x. addressed_fault x ≡ Some cause) (sym (ap (λ y. y.spec) s.so.0.frame))
        (grind (arith, sane_spec)))

    pub address_stops : (stop : Stop) → Err stop ≡ answered_or (Stalled request.Address) outcome
        → StopsFairly addressed_fault port address stop old new
    address_stops stop told = record {
      why = λ f p fair. let failed =
          answered_err (Stalled request.Address) told in
          subst (λ x. StopsFor addressed_fault f p old x new) failed.2
          (by_fault f p fair failed.0 failed.1);
    }
      where
        by_fault : (f : AddressMap) (p : List ℕ) → IsFairAt f port p address old new
            → (fault : PipeFault) → outcome ≡ Err fault → StopsFor addressed_fault f p old
            (unwrap_or (stop_of fault) (Refused (Stalled request.Address))) new
        by_fault f p fair pipe.Stalled e =
            address_refused fair (Stalled request.Address)
            (λ j s v x heard ruled waits. addressed_stalled s.spec (search early_none)
            (x.0.stalled heard.at e))
        by_fault f p fair pipe.Busy e = address_refused fair _ (grind arith)
        by_fault f p fair pipe.NoAnswer e =
            address_refused fair _ (grind arith)
        by_fault f p fair pipe.Broken e = grind arith
        by_fault f p fair _ e = tt

-- The descriptor of a device that was told its address

module _ {port : HubPort} {address : ℕ} {target : Target} {old mid given new : World}
    (first : Went old mid) (second : Went mid given) (third : Went given new)
    (at : AtPort port address old mid)
    (at_given : AtPort port address old given) (asks : OnlyAsks given new)
    (is : IsUnaddressed port target) (awaits : Awaits target port 0 old mid)
    (ordered : Commanded target (set_address address) mid (Ok tt) given) (what : given.shared
    ≡ false → EachWas (AddressAsked target address (Ok tt) mid given) mid given) where
  abbrev named : Target
  named = record target { addr = address }

  module _ {f : AddressMap} {p : List ℕ} (fair : IsFairAt f port p address old new)
      (held : WhileBusWorks (Enumerating f p 0) old) where
    sound_given : given.fault ≡ None
    sound_given = grind arith

    spare_zero : IsSpare f port p 0
    spare_zero = held_spare fair.spare

    fair_given : IsFairAt f port p address given new
    fair_given = search (fair_then, went_on)

    single_given : given.shared ≡ false
    single_given = grind arith

    single_new : new.shared ≡ false
    single_new = ((within_kept asks.addresses).stays f p fair.spare fair_given.held).single

    waiting : AtPath (AwaitsAddress target) p mid
    waiting = awaits.found.found f p spare_zero held fair.order

    granted_there : AtPath (λ s. Granted target.low target.max s.spec) p given
    granted_there = path_on (AddressAsked target address (Ok tt) mid given) (AwaitsAddress target)
        (λ s. Granted target.low target.max s.spec) (search granted) p mid
        given (what single_given) waiting

    named_reached : IsReachedAt new p
    named_reached =
        reached_on p (asks.ports fair.working p) (search (address_reached, fair_before, went_on))

  pub descriptor_stops : (stop : Stop) → StopFaults stop new
      → RefusesDescriptor named stop given new
      → StopsFairly addressed_fault port address stop old new
  descriptor_stops (Fault why) told refuses = search faults_for_told
  descriptor_stops (Refused cause) told refuses = record {
    why = λ f p fair held.
        let have = having f p address (grind arith) in
        let who = (refuses.who cause refl).held (after_taking f p have.has) have.owned in
        pends_reached (λ spec. addressed_fault spec ≡ Some cause) p new
        (grind (arith, named_reached)) (λ s on there.
        let so = explained_at (Refuses named (device_fault target.low) (Refused cause))
        (Granted target.low target.max) named f port p given new fair.spare.at is.pre
        (fair_given fair held).few (single_new fair held)
        ((fair_given fair held).order (sound_given fair held)).sane refuses.why (λ z up at_z.
        let g = granted_there fair held z up at_z in
        record {
          low = g.speed;
          address = held_at f p have.has (have.owned.so (sound_given fair held)) z up at_z
              ∙ answered_has have.has address fair.spare (inr refl) who;
          so = g;
        }) s on there in
        addressed_device s.spec cause (search early_none) so.1.allowed
        (grind (arith, responsive)));
  }

  -- where it gives none, it missed its address

  module _ (none : NoDescriptor named given new) where
    still_held : {f : AddressMap} {p : List ℕ} → IsFairAt f port p address old new
        → WhileBusWorks (Enumerating f p 0) old → (j : Location) → p ≡ path_to j → (v : State)
        → reach_on new.roots j ≡ true → state_on new.roots j ≡ Some v
        → WhileBusWorks (Enumerating f p 0) new × (given.losses ≡ one_more mid.losses)
    still_held {f} {p} fair held j path v on there =
        let w : Was (Explained Hears (λ spec. IsResponsive named spec → ⊥) named) given j v =
        none.why (fair_given fair held).few (single_new fair held) j v on there in
        let u : Was (AddressAsked target address (Ok tt) mid given) mid j w.before =
        search single_given in
        let waits = subst (λ x. AtPath (AwaitsAddress target) x mid) path (waiting fair held)
        u.before u.on u.stands in
        let g = subst (λ x. AtPath (λ s. Granted target.low target.max s.spec) x given) path
        (granted_there fair held) w.before w.on w.stands in
        by_end w g u.before waits.zero (u.so.done (grind arith) refl).1
      where
        by_end : (w : Was (Explained Hears (λ spec. IsResponsive named spec → ⊥) named) given j v)
            → Granted target.low target.max w.before.spec → (s : State) → address_of s ≡ 0
            → TookItOrLost address mid given s w.before
            → WhileBusWorks (Enumerating f p 0) new × (given.losses ≡ one_more mid.losses)
        by_end w g s none_yet (took registers losses) =
            absurd (grind (arith, responsive, sane_spec))
        by_end w g s none_yet (lost registers losses) =
            let t = at_given.within.stays f p fair.spare fair.held in
            let own = t.so (sound_given fair held) in
            let at_zero : WhileBusWorks (Enumerating f p 0) given =
            grind arith in (
              (within_kept asks.addresses).stays f p
                  (held_spare fair.spare) at_zero,
              losses,
            )

    counted_more : given.losses ≡ one_more mid.losses → NoNewStretch old mid
        → NoNewStretch given new → given.losses.worst ≤ new.losses.worst → Missed 1 old new
    unfolding one_more
    counted_more losses before after worst = grind arith

    pub pass_misses : Misses port address 1 old new
    pass_misses = record { missed = missed }
      where
        missed : (f : AddressMap) (p : List ℕ) → IsFairAt f port p address old new
            → WhileBusWorks (Enumerating f p 0) old → (pending new.roots p ≡ true)
            ⊎ (WhileBusWorks (Enumerating f p 0) new × Missed 1 old new)
        missed f p fair held = elim (named_reached fair held) [
          | inl pending ↦ inl pending
          | inr on ↦ inr (by_path p refl on.1)
        ]
          where
            by_path : (x : List ℕ) → p ≡ x → reach new.roots x ≡ true
                → WhileBusWorks (Enumerating f p 0) new × Missed 1 old new
            by_path [] path on = false_true on
            by_path (zero ∷ q) path on = false_true on
            by_path (suc j ∷ q) path on =
                let v = is_some-value (state_at new.roots j q) (reach-state new.roots j q on) in
                let x = still_held fair held (record { row = j; rest = q }) path v.0 on v.1 in (
                  x.0,
                  counted_more x.1 (grind arith) (none.goes fair.working)
                      (course_later (third.led.course fair.working)).worst,
                )

-- Pass after pass

pub misses_none : (port : HubPort) (address : ℕ) (w : World) → Misses port address 0 w w
misses_none port address w = grind arith

module _ {port : HubPort} {address k : ℕ} {old mid new : World} (first : Went old mid)
    (second : Went mid new) (at : AtPort port address old mid) (later : AtPort port address mid new)
    (before : Misses port address k old mid) where
  pends_later : {f : AddressMap} {p : List ℕ} → IsFairAt f port p address old new
      → pending mid.roots p ≡ true → pending new.roots p ≡ true
  pends_later fair h = grind (arith, pending_persists)

  pub misses_then : Misses port address 1 mid new → Misses port address (k + 1) old new
  misses_then next = grind (arith, fair_before, fair_then, pends_later)

  pub stops_then : {wrong : Spec → Option Cause} (stop : Stop)
      → StopsFairly wrong port address stop mid new → StopsFairly wrong port address stop old new
  stops_then stop stops = grind (arith, fair_before, fair_then, pends_later)

pub thrice_missed : (wrong : Spec → Option Cause) {port : HubPort} {address : ℕ} (cause : Cause)
    {old new : World} → Misses port address 3 old new
    → StopsFairly wrong port address (Refused cause) old new
thrice_missed wrong cause misses = grind arith
