-- The ports of a hub that was configured, while they are given power one by one: those that have
-- none, and those that have it.
use Rattle.std.proofs.Common.{◌≢◌, ◌≡◌, ◌≤◌, ◌<◌, ◌-◌, ◌&&◌, inl, inr, ℕ, zero, suc, true, false}
use Rattle.std.proofs.Common.{List, [], ◌∷◌, ◌++◌, Option, None, Some, option_map, Result, Ok, refl}
use Rattle.std.proofs.Common.{ap, sym, subst, ◌∙◌, arith}
use Rattle.std.specs.Global.{Vec}
use Rattle.usb_request.specs.{PORT_POWER, SET_ADDRESS, DEVICE_OUT, set_port_feature}
use Rattle.usb_request.specs.{set_configuration, get_hub_descriptor, get_status, Setup}
use Rattle.usb_request.proofs.Interface.{same_setup}
use Rattle.usb_port.specs.{PortState, SetPower}
use Rattle.usb_device.specs.{Registers, Is, port_named, State, Hub, Ports, ended, vacant, taken}
use Rattle.usb_device.specs.{port_of, all_off, place_at, Location, path_to, state_on, port_there}
use Rattle.usb_world.specs.{is_harmless, Was, EachWas, hub_ports, LeavesPortAlone, AnyStep, Course}
use Rattle.usb_world.specs.{World, is_way, same_number}
use Rattle.usb_world.proofs.Interface.{course_wider, pending_persists, ports_stand, rests_or_pends}
use Rattle.usb_world.proofs.Interface.{same_number-is, and_false, false_true}
use Rattle.std.proofs.lemmas.Bool.{cases_order}
use Rattle.usb_transfer.specs.{Target, Answerer, PipeFault}
use Rattle.usb_transfer.proofs.Interface.{who_writes}
use Rattle.usb_hub.specs.{AddressMap, MapHolds, WhileBusWorks, KeepsAddresses, PortCallDone}
use Rattle.usb_hub.specs.{TouchesNoPort, Queried, Commanded, ConfigurationAsked, WentOff}
use Rattle.usb_hub.proofs.Interface.{KeepsClaim, NoPower, claimed_path, quiet_follows, read_keeps}
use Rattle.usb_hub.proofs.Interface.{stays_unpowered, AsksFor, hub_done, hub_named, hub_rests}
use Rattle.usb_hub.proofs.Interface.{place_below, port_of_place, powered_stands, set_asks}
use Rattle.usb_hub.proofs.Interface.{set_keeps}
use Rattle.usb_enum.specs.{HubFacts, OnlyAsks, IsPowered, Powered, Started, IsKnownAs}
use Rattle.usb_enum.specs.{HasEmptyPorts, IsInOrder, IsOrderly, Went}
use Rattle.usb_enum.proofs.courses.Courses.{orderly_on}
use Rattle.usb_enum.proofs.devices.ReachedDevices.{is_some-value}

-- Numbers

apart_of : (n i : ℕ) → i ≢ n → same_number n i ≡ false
apart_of n i differs = grind (arith, same_number-is)

-- two ports of one device
siblings : (e : List ℕ) (n i : ℕ) → same_number n i ≡ false
    → is_way (e ++ (suc n ∷ [])) (e ++ (suc i ∷ [])) ≡ false
unfolding is_way
siblings [] n i h = ap (λ b. b && true) h
siblings (m ∷ e) n i h = ap (λ b. same_number m m && b) (siblings e n i h)
    ∙ and_false (same_number m m)

-- A port that went off

all_off_power : (a : Ports) (i : ℕ) → NoPower (option_map port_of (place_at (all_off a) i []))
unfolding all_off place_at
all_off_power ended i b h = absurd (cc h)
all_off_power (vacant c k) zero b h = grind arith
all_off_power (vacant c k) (suc i) b h = all_off_power k i b h
all_off_power (taken c s a k) zero b h = grind arith
all_off_power (taken c s a k) (suc i) b h = all_off_power k i b h

pub off_unpowered : {new : World} {j : Location} → WentOff new j → (i : ℕ)
    → NoPower (port_there new.roots (path_to j ++ (suc i ∷ [])))
off_unpowered {j} off i = let port = path_to j ++ (suc i ∷ []) in
    stays_unpowered port (course_wider (λ s w k. k.leaves) (off.since port))
    (subst NoPower (sym (port_of_place off.now.roots port
    ∙ ap (option_map port_of) (grind (arith, place_below)))) (all_off_power off.ports i))

-- A port that the hub has stands there

port_within : (h : Option Hub) (g : Registers) (i : ℕ) → port_named h g (suc i) ≡ Some i
    → i < hub_ports h
port_within h g i h1 = grind arith

-- Ports of a hub at a path

-- a port that is known as empty, and of which nothing is asked
pub vacant_on : (p : List ℕ) {old new : World} → Course (LeavesPortAlone p) old new
    → IsKnownAs old p None → IsKnownAs new p None
vacant_on p c (inl x) = inl (pending_persists p (course_wider (λ s w k. k.spares) c) x)
vacant_on p {old} {new} c (inr x) = grind (arith, rests_or_pends)

power_course : {p : List ℕ} {old new : World} → PortCallDone p SetPower old new
    → Course AnyStep old new
power_course x = grind (arith, course_wider)

module _ (t : Target) (f : AddressMap) (j : Location) (held : f (path_to j) ≡ Some t.addr) where
  abbrev port : ℕ → List ℕ
  port i = path_to j ++ (suc i ∷ [])

  -- the first so many ports were given power, and the others have none
  pub record Given (n : ℕ) (w : World) : Type 0 where
    pub sound : w.fault ≡ None
    pub owned : MapHolds f w
    pub order : IsOrderly w
    pub powered : (i : ℕ) → i < n → IsKnownAs w (port i) None
    pub off : (i : ℕ) → n ≤ i → NoPower (port_there w.roots (port i))

  module _ (n : ℕ) (old new : World) (ordered : IsPowered t (suc n) old new)
      (was : Given n old) where
    asked : AsksFor (set_port_feature PORT_POWER (suc n)) SetPower (suc n)
    asked = search set_asks

    follows : KeepsClaim t (set_port_feature PORT_POWER (suc n)) (path_to j) (MapHolds f)
    follows = grind (arith, asked, quiet_follows)

    owned : MapHolds f new
    owned = ((set_keeps t PORT_POWER (suc n) old (Ok tt) new (λ h. absurd cc) ordered).kept f
        (grind arith)).so ordered.ends.still

    done : PortCallDone (port n) SetPower old new
    done = grind (arith, asked, follows, hub_done, owned)

    has : (s : State) × ((state_on old.roots j ≡ Some s)
        × (port_named s.spec.hub s.registers (suc n) ≡ Some n))
    has = hub_named t j n (set_port_feature PORT_POWER (suc n)) SetPower asked (MapHolds f)
        follows old new ordered was.owned owned (λ h. false_true (sym h ∙ asked.harmless refl))

    stood : (b : PortState) × (port_there old.roots (port n) ≡ Some b)
    stood =
        is_some-value (port_there old.roots (port n))
        (grind (arith, has, port_within, ports_stand))

    now_powered : IsKnownAs new (port n) None
    now_powered = powered_stands (port n) old new done was.order stood.0 stood.1
        (grind arith)

    rests : (i : ℕ) → same_number n i ≡ false → Course (LeavesPortAlone (port i)) old new
    rests i apart =
        hub_rests t j n (set_port_feature PORT_POWER (suc n)) SetPower asked (MapHolds f) follows
        old (Ok tt) new tt ordered.stages was.owned (port i) (siblings (path_to j) n i apart)

    one_more : Given (suc n) new
    one_more = record {
      sound = ordered.ends.still;
      owned = owned;
      order = orderly_on was.order (power_course done);
      powered = λ i below. elim (cases_order i n) [
        | inl same ↦ subst (λ i. IsKnownAs new (port i) None) (sym same) now_powered
        | inr (inl less) ↦ vacant_on (port i)
            (rests i (grind (arith, apart_of))) (was.powered i less)
        | inr (inr more) ↦ absurd (omega (arith, below, more))
      ];
      off = λ i above. stays_unpowered (port i) (course_wider (λ s w k. k.leaves)
          (rests i (grind (arith, apart_of)))) (grind arith);
    }

  pub all_given : (n : ℕ) {old : World} (new : World) → Powered t n old new → Given 0 old
      → Given n new
  all_given zero new same was = subst (Given 0) (sym same) was
  all_given (suc n) new x was = one_more n x.0 new x.1.1 (all_given n x.0 x.1.0 was)

-- The reads of a hub's descriptor and status

module _ (t : Target) (f : AddressMap) (j : Location) (held : f (path_to j) ≡ Some t.addr) where
  asked_on : {request : Setup} {answer : Result (Vec ℕ) PipeFault} {old new : World}
      → is_harmless request ≡ true → Is request DEVICE_OUT SET_ADDRESS ≡ false → new.fault ≡ None
      → Queried t request old answer new → Given t f j held 0 old → Given t f j held 0 new
  asked_on {request} {answer} {old} {new} harmless other none asked was = record {
    sound = none;
    owned = ((read_keeps t request (same_setup request) harmless other 3 1 old new answer asked.ends
        asked.stages).kept f (grind arith)).so none;
    order = orderly_on was.order (rests []);
    powered = grind arith;
    off = λ i above. stays_unpowered (path_to j ++ (suc i ∷ []))
        (course_wider (λ s w k. k.leaves) (rests (path_to j ++ (suc i ∷ [])))) (was.off i above);
  }
    where
      rests : TouchesNoPort old new
      rests = grind arith

  started_given : {old new : World} {facts : HubFacts} → Started t old new facts
      → Given t f j held 0 old → Given t f j held facts.ports new
  unfolding get_hub_descriptor get_status
  started_given {new} {facts} s was =
      let counted = asked_on refl refl s.count.asked.ends.still s.count.asked was in
      let told = asked_on refl refl s.supply.told.ends.still s.supply.told.asked counted in
      all_given t f j held facts.ports new s.powered told

  -- what is known in the end, also after the reading of strings
  given_below : {started new : World} (facts : HubFacts) → Given t f j held facts.ports started
      → new.fault ≡ None → OnlyAsks started new → (number : ℕ) → 1 ≤ number → number ≤ facts.ports
      → IsKnownAs new ((path_to j) ++ (number ∷ [])) None
  given_below facts given working asks zero least most = absurd (omega (arith, least))
  given_below facts given working asks (suc i) least most =
      search (vacant_on, asks.ports, given.powered)

-- The configuring of a hub

module _ {t : Target} (value : ℕ) (told : Option HubFacts) {before given set started new : World}
    (went_given : Went before given) (keeps_given : KeepsAddresses before given)
    (went_set : Went given set) (ordered : Commanded t (set_configuration value) given (Ok tt) set)
    (what : set.shared ≡ false → EachWas (ConfigurationAsked t value (Ok tt) set) given set)
    (keeps_set : KeepsAddresses given set)
    (starts : (facts : HubFacts) → told ≡ Some facts → Started t set started facts)
    (asks : OnlyAsks started new) (f : AddressMap) (p : List ℕ) (held : f p ≡ Some t.addr)
    (till : WhileBusWorks (MapHolds f) before) (order : IsInOrder before)
    (working : new.fault ≡ None) where
  own_given : WhileBusWorks (MapHolds f) given
  own_given = keeps_given.kept f till

  own_set : WhileBusWorks (MapHolds f) set
  own_set = keeps_set.kept f own_given

  who : Answerer t given set
  unfolding set_configuration
  who = who_writes t (set_configuration value) tt given set (search same_setup)
      (λ h. false_true (sym h)) ordered.settled ordered.stages own_set.single

  path : path_to who.spot ≡ p
  path =
      claimed_path p t.addr given (grind (arith, own_given)) who.spot who.before who.was_on
      who.stood (grind arith)

  was : Was (ConfigurationAsked t value (Ok tt) set) given who.spot who.now
  was = grind (arith, own_set)

  went_off : WentOff set who.spot
  went_off = grind (arith, was)

  held_there : f (path_to who.spot) ≡ Some t.addr
  held_there = ap f path ∙ held

  all_off_set : Given t f who.spot held_there 0 set
  all_off_set = grind (arith, off_unpowered, own_set, went_off)

  pub configured_below : HasEmptyPorts p told new
  configured_below facts number is least most =
      subst (λ q. IsKnownAs new (q ++ (number ∷ [])) None) path
      (given_below t f who.spot held_there facts
      (started_given t f who.spot held_there (starts facts is) all_off_set)
      working asks number least most)
