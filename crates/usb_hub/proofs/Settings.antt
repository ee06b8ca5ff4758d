-- What a device makes of a new address, of a configuration and of an interface's setting.
use Rattle.std.proofs.Common.{if◌then◌else◌, ◌≡◌, ℕ, ◌≤◌, ◌⊎◌, inl, inr, Bool, true, false, List}
use Rattle.std.proofs.Common.{Option, Some, Result, Ok, Err, refl, ap, sym, subst, ◌∙◌, arith, ◌&&◌}
use Rattle.std.proofs.Common.{not, None, map}
use Rattle.usb_port.specs.{PortState}
use Rattle.usb_request.specs.{Setup, set_address, set_configuration, set_interface, setup_of}
use Rattle.usb_request.specs.{bytes_of}
use Rattle.usb_request.proofs.Interface.{same_setup}
use Rattle.usb_descriptor.specs.{default_settings}
use Rattle.usb_device.specs.{Registers, Spec, State, begun, accepted, takes_address, unless}
use Rattle.usb_device.specs.{outcome, Outcome, stalled, takes_configuration, ending, first_stage}
use Rattle.usb_device.specs.{StatusGiven, OnlyControl, PortsOff, EndpointState, rested}
use Rattle.usb_device.specs.{asked_by_setup, full, acted, Location, place_on, OutEnd, InEnd, in_end}
use Rattle.usb_device.specs.{out_end, rested_in, rested_out, OnlyStage, takes_setting}
use Rattle.usb_device.proofs.Interface.{at_mapped}
use Rattle.usb_world.specs.{World, is_harmless, Relation, EachWas}
use Rattle.usb_world.proofs.Interface.{each_both, each_wider}
use Rattle.usb_transfer.specs.{Target, AcceptedAt, begins_no_stretch, EachSpared, NoThreeDamaged}
use Rattle.usb_transfer.specs.{PipeFault, IsNoBusFault, EffectDone, EffectOrNone, none, some, whole}
use Rattle.usb_transfer.specs.{WriteLeaves, LossesOf, WriteFailure}
use Rattle.usb_transfer.specs.declared.fault.PipeFault.TheVariants.{Bus}
use Rattle.usb_transfer.proofs.Interface.{write_leaves, write_losses, write_why, only_stage}
use Rattle.usb_hub.proofs.Steps.{settled_attempt}
use Rattle.usb_hub.specs.{Commanded, AddressAsked, takes_value, OnlySet, IsConfigured, WentOff}
use Rattle.usb_hub.specs.{ConfigurationAsked, InterfaceAsked, TookSetting, offers_setting}
use Rattle.usb_hub.proofs.RestingRequests.{behind_asks_nothing}

-- A request that resets no port, of every device

all_spared : (t : Target) (request : Setup) (R : Relation) (old new : World)
    → is_harmless request ≡ true → EachSpared t request R old new → EachWas R old new
all_spared t request R old new harmless x = grind arith

module _ (t : Target) (request : Setup) (harmless : is_harmless request ≡ true)
    (nothing : request.length ≡ 0) (result : Result (Unit {0}) PipeFault) (old new : World)
    (ordered : Commanded t request old result new)
    (single : new.shared ≡ false) where
  pub each_leaves : EachWas (WriteLeaves t request result old new) old new
  each_leaves = grind (arith, same_setup, write_leaves)

-- what is so of a device after it: where it accepted the request, where it was given the status
-- stage, and where it saw nothing of it
module _ (t : Target) (request : Setup) (old new : World) (j : Location) (s v : State) (Q : Type 0)
    (accepts : (row : List PortState) → OnlyControl (accepted s row request) v
    → v.registers ≡ (accepted s row request).registers → Q)
    (ends : (row : List PortState) (address : Option ℕ)
    → first_stage row s request.length (outcome s.spec s.registers request) ≡ ending address
    → OnlyControl (accepted s row request) v → StatusGiven address (accepted s row request) v → Q)
    (rests : OnlyControl s v → v.registers ≡ s.registers → Q) where
  failed_so : (fault : PipeFault) → EffectOrNone t request fault old j s v → Q
  failed_so fault (none frame same) = rests frame same
  failed_so fault (some row now at frame same) = accepts row frame same
  failed_so fault (whole why e row now at frame address is given) = grind arith

  pub write_so : (result : Result (Unit {0}) PipeFault) → WriteLeaves t request result old new j s v
      → Q
  write_so (Ok u) x = grind arith
  write_so (Err fault) x = failed_so fault (x.failed fault refl)

-- what is said where the bus did not give up, and holds of a device where it did
module _ (t : Target) (request : Setup) (R : Result (Unit {0}) PipeFault → Relation)
    (old new : World) (single : new.shared ≡ false) where
  pub or_of_bus : ((result : Result (Unit {0}) PipeFault) → IsNoBusFault result
      → Commanded t request old result new → EachWas (R result) old new)
      → ((fault : _) → Commanded t request old (Err (Bus fault)) new
      → EachWas (R (Err (Bus fault))) old new)
      → (result : Result (Unit {0}) PipeFault) → Commanded t request old result new
      → EachWas (R result) old new
  or_of_bus sound cut result x = grind arith

abbrev Loses : Target → Setup → World → World → Result (Unit {0}) PipeFault → Relation
Loses t request old new result j s v = IsNoBusFault result → LossesOf t request result old new j s v

module _ (t : Target) (request : Setup) (harmless : is_harmless request ≡ true)
    (nothing : request.length ≡ 0) (old new : World) (single : new.shared ≡ false) where
  -- why it failed
  pub each_why : (result : Result (Unit {0}) PipeFault) → Commanded t request old result new
      → NoThreeDamaged old → EachWas (WriteFailure t result) old new
  each_why result ordered three =
      or_of_bus t request (WriteFailure t) old new single
      (λ result n x. all_spared t request (WriteFailure t result) old new harmless
      (search (same_setup, write_why)))
      (λ fault x. each_wider (WriteLeaves t request (Err (Bus fault)) old new)
      (WriteFailure t (Err (Bus fault))) (grind arith) old new
      (grind (arith, each_leaves))) result ordered

  -- what it lost, where the bus did not give up
  each_loses : begins_no_stretch request ≡ true → (result : Result (Unit {0}) PipeFault)
      → Commanded t request old result new → EachWas (Loses t request old new result) old new
  each_loses plain result ordered =
      or_of_bus t request (Loses t request old new) old new single
      (λ result n x. each_wider (LossesOf t request result old new)
      (Loses t request old new result) (λ j s v y n. y) old new
      (grind (arith, same_setup, write_losses)))
      (λ fault x. each_wider (WriteLeaves t request (Err (Bus fault)) old new)
      (Loses t request old new (Err (Bus fault))) (λ j s v w n. absurd n) old new
      (grind (arith, each_leaves))) result ordered

-- SET_ADDRESS

address_outcome : (spec : Spec) (g : Registers) (a : ℕ) → a ≤ 127 → outcome spec g (set_address a)
    ≡ unless spec.stalls.address (takes_address a)
unfolding outcome set_address
address_outcome spec g a most = grind arith

-- what a device is once it has accepted the request, which it may refuse
abbrev asked_for : State → List PortState → Bool → ℕ → State
asked_for s row refuses a = begun s row 0 (unless refuses (takes_address a))

asked_frame : (b : Bool) (a : ℕ) (row : List PortState) (s v : State)
    → OnlyControl (asked_for s row b a) v → OnlyControl s v
asked_frame b a row s v x = grind arith

asked_registers : (b : Bool) (a : ℕ) (row : List PortState) (s : State)
    → (asked_for s row b a).registers ≡ s.registers
asked_registers b a row s = grind arith

abbrev Either : ℕ → State → State → Type 0
Either a s v = (v.registers ≡ s.registers) ⊎ (v.registers ≡ record s.registers { address = a })

module _ (t : Target) (a : ℕ) (most : a ≤ 127) (old new : World) where
  abbrev request : Setup
  request = set_address a

  begun_is : (s : State) (row : List PortState)
      → accepted s row request ≡ asked_for s row s.spec.stalls.address a
  unfolding set_address
  begun_is s row = grind (arith, address_outcome)

  stage_is : (s : State) (row : List PortState)
      → first_stage row s request.length (outcome s.spec s.registers request)
      ≡ first_stage row s 0 (unless s.spec.stalls.address (takes_address a))
  unfolding set_address
  stage_is s row = grind (arith, address_outcome)

  frame_of : (s v : State) (row : List PortState) → OnlyControl (accepted s row request) v
      → OnlyControl s v
  frame_of s v row x = asked_frame s.spec.stalls.address a row s v
      (subst (λ y. OnlyControl y v) (begun_is s row) x)

  registers_of : (s v : State) (row : List PortState)
      → v.registers ≡ (accepted s row request).registers → v.registers ≡ s.registers
  registers_of s v row x = x ∙ ap (λ y. y.registers) (begun_is s row)
      ∙ asked_registers s.spec.stalls.address a row s

  ended_of : (s v : State) (row : List PortState) (address : Option ℕ)
      → first_stage row s request.length (outcome s.spec s.registers request) ≡ ending address
      → StatusGiven address (accepted s row request) v → (s.spec.stalls.address ≡ false)
      × Either a s v
  ended_of s v row address e x = grind (arith, stage_is)

  module _ (j : Location) (s v : State) where
    address_frame : (result : Result (Unit {0}) PipeFault)
        → WriteLeaves t request result old new j s v → OnlyControl s v
    address_frame = write_so t request old new j s v (OnlyControl s v)
        (search frame_of) (search frame_of) (λ frame same. frame)

    address_either : (result : Result (Unit {0}) PipeFault)
        → WriteLeaves t request result old new j s v → Either a s v
    address_either =
        write_so t request old new j s v (Either a s v)
        (λ row frame same. inl (registers_of s v row same))
        (λ row address is frame given. (ended_of s v row address is given).1)
        (λ frame same. inl same)

    address_leaves : (result : Result (Unit {0}) PipeFault)
        → WriteLeaves t request result old new j s v × Loses t request old new result j s v
        → AddressAsked t a result old new j s v
    address_leaves result x = grind (arith, address_either, address_frame, stage_is)

pub address_asked : (t : Target) (a : ℕ) (result : Result (Unit {0}) PipeFault) (old new : World)
    → a ≤ 127 → Commanded t (set_address a) old result new → new.shared ≡ false
    → EachWas (AddressAsked t a result old new) old new
unfolding set_address
address_asked t a result old new most ordered single =
    each_wider (λ j s v. WriteLeaves t (set_address a) result old new j s v
    × Loses t (set_address a) old new result j s v) (AddressAsked t a result old new)
    (grind (arith, address_leaves)) old new
    (each_both (WriteLeaves t (set_address a) result old new)
    (Loses t (set_address a) old new result) old new (grind (arith, each_leaves))
    (grind (arith, each_loses)))

pub address_why : (t : Target) (a : ℕ) (result : Result (Unit {0}) PipeFault) (old new : World)
    → Commanded t (set_address a) old result new → NoThreeDamaged old → new.shared ≡ false
    → EachWas (WriteFailure t result) old new
unfolding set_address
address_why t a result old new ordered three single = search each_why

-- SET_CONFIGURATION

-- what the request makes of a device that takes the value, or does not
abbrev set_if : Bool → ℕ → Outcome
set_if takes value = if takes then takes_configuration value else stalled

abbrev takes_it : State → ℕ → Bool
takes_it s value = not s.spec.stalls.set_config && takes_value s value

configuration_outcome : (s : State) (value : ℕ)
    → outcome s.spec s.registers (set_configuration value) ≡ set_if (takes_it s value) value
unfolding outcome set_configuration
configuration_outcome s value = grind arith

accepts_value : (s : State) (value : ℕ) → takes_it s value ≡ true
    → (s.spec.stalls.set_config ≡ false) × (takes_value s value ≡ true)
accepts_value s value e = grind arith

first_stage-set : (b : Bool) (value : ℕ) (row : List PortState) (d : State)
    (address : Option ℕ) → first_stage row d 0 (set_if b value) ≡ ending address → (b ≡ true)
    × (address ≡ None)
first_stage-set b value row d address e = grind arith

abbrev with_settings : State → State → Registers → List OutEnd → List InEnd → EndpointState
    → Option ℕ → State
with_settings s v g outs ins changes held =
    record s {
      memory = v.memory;
      naks = v.naks;
      stage = v.stage;
      registers = g;
      outs = outs;
      ins = ins;
      changes = changes;
      held = held;
    }

-- its endpoints are as they were
settings_kept : (s v : State) → v ≡ with_settings s v v.registers s.outs s.ins s.changes s.held
    → v.registers ≡ s.registers → OnlySet s v
settings_kept s v h r = grind arith

-- its endpoints have begun again
module _ (s v : State) (h : v ≡ with_settings s v v.registers (map rested_out s.outs)
    (map rested_in s.ins) rested None) where
  out_rests : (e : ℕ) → out_end v e ≡ rested_out (out_end s e)
  out_rests e = grind (arith, at_mapped)

  in_rests : (e : ℕ) → in_end v e ≡ rested_in (in_end s e)
  in_rests e = grind (arith, at_mapped)

  settings_rest : (value : ℕ)
      → v.registers ≡ record s.registers { configuration = value; settings = default_settings }
      → OnlySet s v × IsConfigured value s v
  settings_rest value r = grind (arith, in_rests, out_rests)

-- what a device is once it has accepted the request
abbrev set_from : State → List PortState → Bool → ℕ → State
set_from s row b value = begun s row 0 (set_if b value)

-- as it was, or set
abbrev Set : Bool → ℕ → State → State → Type 0
Set true value s v = IsConfigured value s v
Set false value s v = v.registers ≡ s.registers

set_frame : (b : Bool) (value : ℕ) (row : List PortState) (s v : State)
    → OnlyControl (set_from s row b value) v → v.registers ≡ (set_from s row b value).registers
    → OnlySet s v × Set b value s v
set_frame true value row s v h r = settings_rest s v h value r
set_frame false value row s v h r = (settings_kept s v h r, r)

set_either : (b : Bool) (value : ℕ) (s v : State) → Set b value s v → (v.registers ≡ s.registers)
    ⊎ IsConfigured value s v
set_either b value s v x = grind arith

module _ (t : Target) (value : ℕ) (old new : World) where
  abbrev order : Setup
  order = set_configuration value

  set_is : (s : State) (row : List PortState)
      → accepted s row order ≡ set_from s row (takes_it s value) value
  unfolding set_configuration
  set_is s row = search configuration_outcome

  set_stage : (s : State) (row : List PortState)
      → first_stage row s order.length (outcome s.spec s.registers order)
      ≡ first_stage row s 0 (set_if (takes_it s value) value)
  unfolding set_configuration
  set_stage s row = grind (arith, configuration_outcome)

  set_of : (s v : State) (row : List PortState) → OnlyControl (accepted s row order) v
      → v.registers ≡ (accepted s row order).registers → OnlySet s v
      × Set (takes_it s value) value s v
  set_of s v row h r = set_frame (takes_it s value) value row s v
      (subst (λ y. OnlyControl y v) (set_is s row) h) (r ∙ ap (λ y. y.registers) (set_is s row))

  module _ (j : Location) (s v : State) where
    none_set : OnlyControl s v → v.registers ≡ s.registers → OnlySet s v
    none_set h r = settings_kept s v h r

    whole_set : (row : List PortState) (address : Option ℕ)
        → first_stage row s order.length (outcome s.spec s.registers order) ≡ ending address
        → OnlyControl (accepted s row order) v → StatusGiven address (accepted s row order) v
        → (takes_it s value ≡ true) × OnlySet s v × IsConfigured value s v
    whole_set row address e h given =
        let ends : _ = first_stage-set (takes_it s value) value row s address
        (sym (set_stage s row) ∙ e) in
        let parts : _ = set_of s v row h (grind arith) in grind arith

    done_set : EffectDone t order old new j s v → (takes_it s value ≡ true) × OnlySet s v
        × IsConfigured value s v
    done_set d = whole_set d.row d.address d.is d.rest d.given

    -- the moment at which it was last accepted
    went_off : EffectDone t order old new j s v → WentOff new j
    went_off d = record {
      now = d.moment.now;
      b = at.holder.port;
      state = d.moment.accepts.state;
      ports = at.holder.below;
      off = subst (λ x. place_on d.moment.now.roots j
          ≡ Some (full at.holder.port d.moment.accepts.state (acted x at.holder.below))) effect
          at.left;
      since = λ x. behind_asks_nothing t x d.moment.since (grind (arith, settled_attempt));
    }
      where
        at : AcceptedAt t (bytes_of order) old d.moment.now j s d.moment.accepts.state
        at = d.moment.accepts.at

        effect : asked_by_setup s (setup_of (bytes_of order)) ≡ PortsOff
        effect = grind (arith, configuration_outcome, same_setup)

    set_parts : (result : Result (Unit {0}) PipeFault) → WriteLeaves t order result old new j s v
        → OnlySet s v × ((v.registers ≡ s.registers) ⊎ IsConfigured value s v)
    set_parts =
        write_so t order old new j s v (OnlySet s v
        × ((v.registers ≡ s.registers) ⊎ IsConfigured value s v))
        (λ row h r. let parts : _ = set_of s v row h r in
        (parts.0, set_either (takes_it s value) value s v parts.1))
        (λ row address is h given. let parts : _ = whole_set row address is h given in
        (parts.1, inr parts.2)) (λ h r. (none_set h r, inl r))

    configuration_leaves : (result : Result (Unit {0}) PipeFault)
        → WriteLeaves t order result old new j s v → ConfigurationAsked t value result new j s v
    configuration_leaves result x = record {
      others = x.others;
      frame = (set_parts result x).0;
      either = (set_parts result x).1;
      done = λ at e.
          let d : EffectDone t order old new j s v = x.done at tt e in
          let parts : _ = done_set d in
          let yes : _ = accepts_value s value parts.0 in
          (yes.0, yes.1, parts.2, went_off d);
      stalled = grind (arith, set_stage);
      could = x.could;
    }

pub configuration_asked : (t : Target) (value : ℕ) (result : Result (Unit {0}) PipeFault)
    (old new : World) → Commanded t (set_configuration value) old result new → new.shared ≡ false
    → EachWas (ConfigurationAsked t value result new) old new
unfolding set_configuration
configuration_asked t value result old new ordered single =
    each_wider (WriteLeaves t (set_configuration value) result old new)
    (ConfigurationAsked t value result new) (grind (arith, configuration_leaves)) old new
    (grind (arith, each_leaves))

pub configuration_why : (t : Target) (value : ℕ) (result : Result (Unit {0}) PipeFault)
    (old new : World) → Commanded t (set_configuration value) old result new → NoThreeDamaged old
    → new.shared ≡ false → EachWas (WriteFailure t result) old new
unfolding set_configuration
configuration_why t value result old new ordered three single = search each_why

-- SET_INTERFACE

-- what the request makes of a device that takes the setting, or does not
abbrev given_if : Bool → ℕ → ℕ → Outcome
given_if takes interface setting = if takes then takes_setting interface setting else stalled

abbrev takes_interface : State → ℕ → ℕ → Bool
takes_interface s interface setting =
    not s.spec.stalls.interface && offers_setting s interface setting

interface_outcome : (s : State) (interface setting : ℕ)
    → outcome s.spec s.registers (set_interface interface setting)
    ≡ given_if (takes_interface s interface setting) interface setting
unfolding outcome set_interface
interface_outcome s interface setting = grind arith

accepts_setting : (s : State) (interface setting : ℕ) → takes_interface s interface setting ≡ true
    → (s.spec.stalls.interface ≡ false) × (offers_setting s interface setting ≡ true)
accepts_setting s interface setting e = grind arith

first_stage-given : (b : Bool) (interface setting : ℕ) (row : List PortState) (d : State)
    (address : Option ℕ) → first_stage row d 0 (given_if b interface setting) ≡ ending address
    → (b ≡ true) × (address ≡ None)
first_stage-given b interface setting row d address e = grind arith

-- what a device is once it has accepted the request
abbrev given_from : State → List PortState → Bool → ℕ → ℕ → State
given_from s row b interface setting = begun s row 0 (given_if b interface setting)

-- as it was, or set
abbrev Given : Bool → ℕ → ℕ → State → State → Type 0
Given true interface setting s v = TookSetting interface setting s v
Given false interface setting s v = OnlyStage s v

given_frame : (b : Bool) (interface setting : ℕ) (row : List PortState) (s v : State)
    → OnlyControl (given_from s row b interface setting) v
    → v.registers ≡ (given_from s row b interface setting).registers
    → Given b interface setting s v
given_frame b interface setting row s v h r = grind arith

module _ (t : Target) (interface setting : ℕ) (old new : World) where
  abbrev chosen : Setup
  chosen = set_interface interface setting

  given_is : (s : State) (row : List PortState) → accepted s row chosen
      ≡ given_from s row (takes_interface s interface setting) interface setting
  unfolding set_interface
  given_is s row = grind (arith, interface_outcome)

  given_stage : (s : State) (row : List PortState)
      → first_stage row s chosen.length (outcome s.spec s.registers chosen)
      ≡ first_stage row s 0 (given_if (takes_interface s interface setting) interface setting)
  unfolding set_interface
  given_stage s row = grind (arith, interface_outcome)

  module _ (j : Location) (s v : State) where
    -- it stays, or it takes the setting, which it has
    abbrev StaysOrTakes : Type 0
    StaysOrTakes = OnlyStage s v
        ⊎ ((takes_interface s interface setting ≡ true) × TookSetting interface setting s v)

    stays_or_takes : (b : Bool) → takes_interface s interface setting ≡ b
        → Given b interface setting s v → StaysOrTakes
    stays_or_takes b e x = grind arith

    given_of : (row : List PortState) → OnlyControl (accepted s row chosen) v
        → v.registers ≡ (accepted s row chosen).registers
        → Given (takes_interface s interface setting) interface setting s v
    given_of row h r = given_frame (takes_interface s interface setting) interface setting row s v
        (subst (λ y. OnlyControl y v) (given_is s row) h)
        (r ∙ ap (λ y. y.registers) (given_is s row))

    whole_given : (row : List PortState) (address : Option ℕ)
        → first_stage row s chosen.length (outcome s.spec s.registers chosen) ≡ ending address
        → OnlyControl (accepted s row chosen) v → StatusGiven address (accepted s row chosen) v
        → (takes_interface s interface setting ≡ true) × TookSetting interface setting s v
    whole_given row address e h given =
        let ends : _ = first_stage-given (takes_interface s interface setting) interface setting row
        s address (sym (given_stage s row) ∙ e) in (
          ends.0,
          subst (λ b. Given b interface setting s v) ends.0
              (given_of row h (grind arith)),
        )

    given_parts : (result : Result (Unit {0}) PipeFault)
        → WriteLeaves t chosen result old new j s v → StaysOrTakes
    given_parts =
        write_so t chosen old new j s v StaysOrTakes
        (λ row h r. stays_or_takes (takes_interface s interface setting) refl (given_of row h r))
        (grind (arith, whole_given))
        (λ h r. inl (only_stage s v h r))

    either_given : StaysOrTakes → OnlyStage s v ⊎ TookSetting interface setting s v
    either_given h = grind arith

    interface_leaves : (result : Result (Unit {0}) PipeFault)
        → WriteLeaves t chosen result old new j s v
        → InterfaceAsked t interface setting result j s v
    interface_leaves result x = record {
      others = x.others;
      either = either_given (given_parts result x);
      done = λ at e.
          let d : EffectDone t chosen old new j s v = x.done at tt e in
          let parts : _ = whole_given d.row d.address d.is d.rest d.given in
          let yes : _ = accepts_setting s interface setting parts.0 in
          (yes.0, yes.1, parts.1);
      stalled = grind (arith, given_stage);
      could = x.could;
    }

pub interface_asked : (t : Target) (interface setting : ℕ) (result : Result (Unit {0}) PipeFault)
    (old new : World) → Commanded t (set_interface interface setting) old result new
    → new.shared ≡ false → EachWas (InterfaceAsked t interface setting result) old new
unfolding set_interface
interface_asked t interface setting result old new ordered single =
    each_wider (WriteLeaves t (set_interface interface setting) result old new)
    (InterfaceAsked t interface setting result) (grind (arith, interface_leaves)) old new
    (grind (arith, each_leaves))

pub interface_why : (t : Target) (interface setting : ℕ) (result : Result (Unit {0}) PipeFault)
    (old new : World) → Commanded t (set_interface interface setting) old result new
    → NoThreeDamaged old → new.shared ≡ false → EachWas (WriteFailure t result) old new
unfolding set_interface
interface_why t interface setting result old new ordered three single = search each_why
