-- How what is learned of a device joins where it is configured, and why it is refused then.
use Rattle.usb_device.specs.{Location, Spec, State, is_value, IsSpec}
use Rattle.std.proofs.Common.{arith, ◌≡◌, ℕ, ◌==◌, List, Result, Ok, false, refl, ap, subst, ◌∙◌}
use Rattle.std.proofs.Common.{◌≢◌, ◌<◌, ◌&&◌, true, [], Bool, length, slice_index_or, Option, None}
use Rattle.std.proofs.Common.{Some, Err}
use Rattle.usb_descriptor.specs.{configuration_value, configuration_count}
use Rattle.usb_world.specs.{EachWas, World, address_of}
use Rattle.usb_world.proofs.Interface.{each_joined, each_wider}
use Rattle.usb_transfer.specs.{Target, NoThreeDamaged, PipeFault, WriteFailure}
use Rattle.usb_hub.specs.{ConfigurationAsked}
use Rattle.usb_enum.specs.{Learned, DeviceFact, LearnedSet, LearnsSet, AtMaximum, HasConfigurations}
use Rattle.usb_enum.specs.{HostOptions, Went, Cause, Stalled, NoPower, Stop, first_fault}
use Rattle.usb_enum.specs.{is_hub_device, fits_tier, Hears, Explained, FailureReason, ExplainsSet}
use Rattle.usb_enum.specs.{IsResponsive, IsRefusedFor, Refuses, no_fault, setting_fault}
use Rattle.usb_enum.specs.{start_fault, chosen_fault, configured_fault, stop_of, answered_or}
use Rattle.usb_enum.specs.{choice_of}
use Rattle.std.specs.Prelude.{unwrap_or, ⊤}
use Rattle.usb_transfer.specs.declared.fault.PipeFault.TheVariants as pipe
use Rattle.usb_enum.specs.declared.cause.Request.TheVariants as request
use Rattle.usb_enum.specs.declared.stop.Stop.TheVariants.{Refused}
use Rattle.usb_enum.proofs.refusals.Refusals.{answered_err, each_joint, explained_wider}
use Rattle.usb_enum.proofs.refusals.Refusals.{explains_on, learned_explains, refused_as}
use Rattle.usb_enum.proofs.readings.SettingValues.{chosen_value}
use Rattle.usb_enum.proofs.stops.PlainStops.{fits_tier-hub}

-- it does not refuse to be configured
abbrev pub Allowed : (Spec → Type 0) → Spec → Type 0
Allowed So x = So x × (x.stalls.set_config ≡ false)

set_after : (So : Spec → Type 0) (t : Target) (value : ℕ) (last : World) (j : Location)
    (s u v : State) → Learned So t j s u → ConfigurationAsked t value (Ok tt) last j u v
    → LearnedSet (Allowed So) t value j s v
set_after So t value last j s u v a x = grind arith

learned_after : (A B : Spec → Type 0) (t : Target) (value : ℕ) (j : Location) (s u v : State)
    → LearnedSet A t value j s u → Learned B t j u v → LearnedSet (λ x. A x × B x) t value j s v
learned_after A B t value j s u v a b = grind arith

-- it was read, and then it was configured
pub set_learned : {A : Spec → Type 0} {t : Target} {value : ℕ} {before given set : World}
    → DeviceFact A t before given → Went given set
    → (set.shared ≡ false → EachWas (ConfigurationAsked t value (Ok tt) set) given set)
    → LearnsSet (Allowed A) t value before set
set_learned {A} {t} {value} {before} {given} {set} read went asked single =
    each_joined (Learned A t) (ConfigurationAsked t value (Ok tt) set)
    (LearnedSet (Allowed A) t value) (set_after A t value set) before given set
    (grind arith) (asked single)

-- and then more was learned
pub set_then : {A B : Spec → Type 0} {t : Target} {value : ℕ} {before set told : World}
    → LearnsSet A t value before set → Went set told
    → DeviceFact B t set told → LearnsSet (λ x. A x × B x) t value before told
set_then {A} {B} {t} {value} {before} {set} {told} a went b single =
    each_joined (LearnedSet A t value) (Learned B t) (LearnedSet (λ x. A x × B x) t value)
    (learned_after A B t value) before set told (grind arith) (b single)

-- of what is so then, this is so
pub set_wider : {A B : Spec → Type 0} {t : Target} {m n : ℕ} {old : World} (new : World)
    → LearnsSet A t m old new → m ≡ n → ((spec : Spec) → A spec → B spec) → LearnsSet B t n old new
set_wider {A} {B} {t} {m} {n} {old} new a same f single =
    each_wider (LearnedSet A t m) (LearnedSet B t n) (grind arith) old new (a single)

-- What is wrong with a description, row by row

module _ (options : HostOptions) (tier supply : ℕ) (bytes : List ℕ) (spec : Spec) where
  abbrev takes : Bool
  takes = options.wide_hubs

  abbrev budget : Option ℕ
  budget = options.device_bytes

  -- where it is not too deep
  module _ (shallow : (is_hub_device bytes && tier == 7) ≡ false) where
    pub fault_read : (cause : Cause)
        → first_fault budget spec (configuration_count bytes) ≡ Some cause
        → configured_fault options tier supply bytes spec ≡ Some cause
    unfolding configured_fault
    fault_read cause first = rw (shallow, first) refl

    pub fault_chosen : {texts : List (List ℕ)}
        → HasConfigurations budget (configuration_count bytes) texts spec
        → configured_fault options tier supply bytes spec
        ≡ chosen_fault takes (is_hub_device bytes) texts (choice_of supply texts) spec
    unfolding configured_fault
    fault_chosen has = grind arith

-- SET_CONFIGURATION

module _ (t : Target) (value : ℕ) (last : World) (some : t.addr ≢ 0) where
  -- what it is refused for
  setting_stop : (fault : PipeFault) {j : Location} {s v : State}
      → ConfigurationAsked t value (Err fault) last j s v → WriteFailure t (Err fault) j s v
      → Hears t j s → IsSpec s.spec → is_value s.spec.configs value ≡ true → IsResponsive t s.spec
      → IsRefusedFor setting_fault (unwrap_or (stop_of fault)
      (Refused (Stalled request.SetConfig))) s.spec
  setting_stop fault x y h ruled taken r = grind arith

abbrev pub RefusesValue : Target → ℕ → Stop → Spec → Type 0
RefusesValue t value stop spec = is_value spec.configs value ≡ true
    → Refuses t setting_fault stop spec

setting_refused : (t : Target) (value : ℕ) (outcome : Result (Unit {0}) PipeFault) (stop : Stop)
    (old new : World) → t.addr ≢ 0 → Err stop ≡ answered_or (Stalled request.SetConfig) outcome
    → (new.shared ≡ false → EachWas (ConfigurationAsked t value outcome new) old new)
    → (NoThreeDamaged old → new.shared ≡ false → EachWas (WriteFailure t outcome) old new)
    → FailureReason (RefusesValue t value stop) t old new
setting_refused t value outcome stop old new some is what why three single =
    let failed = answered_err (Stalled request.SetConfig) is in
    each_joint (ConfigurationAsked t value (Err failed.0) new) (WriteFailure t (Err failed.0))
    (Explained Hears (RefusesValue t value stop) t) (λ j s v x y. record {
      spec = grind arith;
      address = grind arith;
      so = λ h ruled taken r. subst (λ z. IsRefusedFor setting_fault z s.spec) failed.2
          (search setting_stop);
    })
    old new (grind arith)
    (grind arith)

-- After it

-- where a call behind it fails
explains_later : {A B C : Spec → Type 0} {Heard : Target → Location → State → Type 0} {P : Type 0}
    {t : Target} {value : ℕ} {old mid new : World} → ((j : Location) (s u : State) → u.spec ≡ s.spec
    → address_of u ≡ address_of s → u.registers.configuration ≡ value → P → Hears t j s → Heard t j
    u) → LearnsSet A t value old mid → Went old mid → Went mid new
    → (NoThreeDamaged mid → new.shared ≡ false → EachWas (Explained Heard B t) mid new)
    → ((spec : Spec) → A spec → (P → B spec) → C spec) → FailureReason C t old new
explains_later {A} {B} {C} {Heard} {t} {value} {old} {mid} {new} hears a first next b f three
    single =
    each_joined (LearnedSet A t value) (Explained Heard B t) (Explained Hears C t)
    (grind arith) old mid new (grind arith) (grind arith)

-- A device that is read and configured

module _ (t : Target) (options : HostOptions) (tier supply : ℕ) (bytes : List ℕ) where
  abbrev wide : Bool
  wide = options.wide_hubs

  abbrev most : Option ℕ
  most = options.device_bytes

  abbrev wrong : Spec → Option Cause
  wrong = configured_fault options tier supply bytes

  -- it is too deep
  pub deep_refused : (stop : Stop) (w : World) → fits_tier tier bytes ≡ Err stop
      → FailureReason (Refuses t wrong stop) t w w
  unfolding configured_fault
  deep_refused stop w is = grind arith

  module _ (fits : fits_tier tier bytes ≡ Ok tt) where
    shallow : (is_hub_device bytes && tier == 7) ≡ false
    shallow = fits_tier-hub tier bytes fits

    -- a configuration is bad
    pub read_refused : (count : ℕ) (stop : Stop) (old new : World)
        → count ≡ configuration_count bytes
        → FailureReason (Refuses t (λ spec. first_fault most spec count) stop) t old new
        → FailureReason (Refuses t wrong stop) t old new
    read_refused count stop old new same explains =
        explained_wider {B = Refuses t wrong stop} new (λ j s h. h) explains (λ spec refused r.
        refused_as (λ spec. first_fault most spec count) wrong stop spec
        (λ cause bad. fault_read options tier supply bytes spec shallow cause
        (grind arith)) (refused r))

    module _ (texts : List (List ℕ)) where
      abbrev Read : Spec → Type 0
      Read = AtMaximum t (HasConfigurations most (configuration_count bytes) texts)

      -- none is within the supply
      pub power_refused : (old new : World) → choice_of supply texts ≡ None
          → DeviceFact Read t old new → FailureReason (Refuses t wrong (Refused NoPower)) t old new
      power_refused old new none read =
          learned_explains new read (λ spec has r. fault_chosen options tier supply bytes spec
          shallow (has r.max)
          ∙ ap (λ o. chosen_fault wide (is_hub_device bytes) texts o spec) none)

      module _ (chosen : ℕ) (within : choice_of supply texts ≡ Some chosen) where
        fault_set : {spec : Spec} → HasConfigurations most (configuration_count bytes) texts spec
            → wrong spec ≡ chosen_fault wide (is_hub_device bytes) texts (Some chosen) spec
        fault_set {spec} has = fault_chosen options tier supply bytes spec shallow has
            ∙ ap (λ o. chosen_fault wide (is_hub_device bytes) texts o spec) within

        module _ (value : ℕ) (inside : chosen < length texts)
            (is : value ≡ configuration_value (slice_index_or texts chosen []))
            (byte : value < 256) (some : t.addr ≢ 0) where
          -- it is not set to the one that was chosen
          pub set_refused : (outcome : Result (Unit {0}) PipeFault) (stop : Stop)
              {old mid new : World} → DeviceFact Read t old mid → Went old mid → Went mid new
              → Err stop ≡ answered_or (Stalled request.SetConfig) outcome
              → (new.shared ≡ false → EachWas (ConfigurationAsked t value outcome new) mid new)
              → (NoThreeDamaged mid → new.shared ≡ false → EachWas (WriteFailure t outcome) mid new)
              → FailureReason (Refuses t wrong stop) t old new
          set_refused outcome stop {mid = mid} {new = new} read first next failed what why =
              explains_on {C = Refuses t wrong stop} read first next
              (setting_refused t value outcome stop mid new some failed what why)
              (grind (arith, chosen_value, fault_set))

          -- it is a hub that cannot be used
          pub hub_refused : (text : List ℕ) (stop : Stop) {old mid new : World}
              → is_hub_device bytes ≡ true → LearnsSet (Allowed Read) t value old mid
              → Went old mid → Went mid new → text ≡ slice_index_or texts chosen []
              → ExplainsSet (Refuses t (start_fault wide text) stop) t mid new
              → FailureReason (Refuses t wrong stop) t old new
          hub_refused text stop {mid = mid} {new = new} hub set first next same explains =
              explains_later {C = Refuses t wrong stop} {P = value ≢ 0}
              (grind arith) set first next
              (subst (λ x. ExplainsSet (Refuses t (start_fault wide x) stop) t mid new) same
              explains) (λ spec has refused r.
              let bad_start = start_fault wide (slice_index_or texts chosen []) in
              refused_as bad_start wrong stop spec (grind (arith, fault_set))
              (refused (chosen_value chosen value (has.0 r.max) inside is byte).some r))

  -- never for a string
  pub strings_refused : {A : Spec → Type 0} {value : ℕ} (stop : Stop) {old mid new : World}
      → LearnsSet A t value old mid → Went old mid → Went mid new
      → FailureReason (Refuses t no_fault stop) t mid new
      → FailureReason (Refuses t wrong stop) t old new
  strings_refused stop set first next explains =
      explains_later {C = Refuses t wrong stop} {P = ⊤}
      (grind arith) set first next explains
      (grind arith)
