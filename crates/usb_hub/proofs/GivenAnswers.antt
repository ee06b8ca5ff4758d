-- What a device of a description answers to requests for data.
use Rattle.usb_device.specs.{Location, Registers, Spec, State, Outcome, stalled, outcome, refused}
use Rattle.std.proofs.Common.{◌≡◌, ℕ, ◌/◌, ◌%◌, ◌==◌, ◌≤◌, ◌<◌, false, List, Option, None, Some}
use Rattle.std.proofs.Common.{Result, Err, arith}
use Rattle.std.specs.Global.{Vec}
use Rattle.usb_request.specs.{DEVICE, CONFIGURATION, STRING, IsToHost, Setup, descriptor_value}
use Rattle.usb_request.specs.{get_device_descriptor, get_configuration_descriptor}
use Rattle.usb_request.specs.{get_string_descriptor, get_hub_descriptor}
use Rattle.usb_request.proofs.Interface.{same_setup}
use Rattle.usb_device.specs.Request.{answers}
use Rattle.usb_world.specs.{World, EachWas}
use Rattle.usb_world.proofs.Interface.{each_wider}
use Rattle.usb_transfer.specs.{Target, NoThreeDamaged, PipeFault, ReadLeaves, AnswerRead}
use Rattle.usb_transfer.specs.{WasRefused, IsNoBusFault, ControlReadFailure}
use Rattle.usb_transfer.specs.declared.fault.PipeFault.TheVariants.{Bus}
use Rattle.usb_transfer.proofs.Interface.{read_leaves, read_why}
use Rattle.usb_hub.specs.{device_given, config_given, string_given, hub_given, HasText, TextAsked}
use Rattle.usb_hub.specs.{DeviceAsked, ConfigAsked, StringAsked, HubAsked, ReadFailure, Queried}

-- The outcome of each request

-- a text is given, or refused
abbrev pub answer_of : Option (List ℕ) → Outcome
answer_of None = stalled
answer_of (Some text) = answers text

-- requests that are answered with a text of the description
abbrev pub AnswersRequest : (Spec → Option (List ℕ)) → Setup → Type 0
AnswersRequest given request = (spec : Spec) (g : Registers)
    → outcome spec g request ≡ answer_of (given spec)

device_outcome : (n : ℕ) → AnswersRequest device_given (get_device_descriptor n)
unfolding outcome get_device_descriptor
device_outcome n = grind arith

-- the value of a request for a descriptor: its type, and its index
descriptor_value-high : (type i : ℕ) → i < 256 → descriptor_value type i / 256 ≡ type
descriptor_value-high type i h = omega (arith, h)

descriptor_value-low : (type i : ℕ) → i < 256 → descriptor_value type i % 256 ≡ i
descriptor_value-low type i h = omega (arith, h)

config_outcome : (i n : ℕ) → i < 256 → AnswersRequest (config_given i)
    (get_configuration_descriptor i n)
unfolding outcome get_configuration_descriptor
config_outcome i n h spec g =
    rw (far i, descriptor_value-high CONFIGURATION i h, descriptor_value-low CONFIGURATION i h)
    (grind arith)
  where
    far : (i : ℕ) → (descriptor_value CONFIGURATION i == descriptor_value DEVICE 0) ≡ false
    far i = grind arith

string_outcome : (i l : ℕ) → i < 256 → AnswersRequest (string_given i) (get_string_descriptor i l)
unfolding outcome get_string_descriptor
string_outcome i l h spec g =
    rw (far i, descriptor_value-high STRING i h, descriptor_value-low STRING i h)
    (grind arith)
  where
    far : (i : ℕ) → (descriptor_value STRING i == descriptor_value DEVICE 0) ≡ false
    far i = grind arith

hub_outcome : AnswersRequest hub_given get_hub_descriptor
unfolding outcome get_hub_descriptor
hub_outcome = grind arith

-- What was read

module _ (given : Spec → Option (List ℕ)) (t : Target) (request : Setup)
    (gives : AnswersRequest given request) (some : 1 ≤ request.length)
    (result : Result (Vec ℕ) PipeFault) (old new : World) where
  text_done : (j : Location) (s v : State) (bytes : List ℕ)
      → AnswerRead t request bytes old new j s v → HasText (given s.spec) t request.length s bytes
  text_done j s v bytes x = grind arith

  pub text_refused : (j : Location) (s : State) → WasRefused t request old new j s
      → given s.spec ≡ None
  text_refused j s x = grind arith

  text_leaves : (j : Location) (s v : State) → ReadLeaves t request result old new j s v
      → TextAsked given t request.length result j s v
  text_leaves j s v x = record {
    others = x.others;
    frame = x.frame;
    done = λ at bytes e. text_done j s v bytes.items (x.done at bytes e);
    stalled = λ at e. text_refused j s (x.refused at e);
    could = x.could;
  }

  -- what was read by a request whose answer is a text of the description
  pub text_asked_of : IsToHost request → Queried t request old result new → new.shared ≡ false
      → EachWas (TextAsked given t request.length result) old new
  text_asked_of host asked single =
      each_wider (ReadLeaves t request result old new) (TextAsked given t request.length result)
      text_leaves old new (grind (arith, read_leaves, same_setup))

  -- why nothing was: where the bus gave up, nothing is claimed of it
  pub why_asked_of : IsToHost request → Queried t request old result new → NoThreeDamaged old
      → 8 ≤ t.max → new.shared ≡ false → EachWas (ReadFailure t request.length result) old new
  why_asked_of host asked three least single = split result asked
    where
      why_leaves : (result : Result (Vec ℕ) PipeFault) (j : Location) (s v : State)
          → ControlReadFailure t request result j s v → ReadFailure t request.length result j s v
      why_leaves result j s v x = grind arith

      sound : (result : Result (Vec ℕ) PipeFault) → IsNoBusFault result
          → Queried t request old result new → EachWas (ReadFailure t request.length result) old new
      sound result n asked =
          each_wider (ControlReadFailure t request result) (ReadFailure t request.length result)
          (why_leaves result) old new (grind (arith, read_why, same_setup))

      split : (result : Result (Vec ℕ) PipeFault) → Queried t request old result new
          → EachWas (ReadFailure t request.length result) old new
      split (Err (Bus fault)) asked =
          each_wider (ReadLeaves t request (Err (Bus fault)) old new)
          (ReadFailure t request.length (Err (Bus fault))) (grind arith)
          old new (search (read_leaves, same_setup))
      split result asked = sound result tt asked

-- The requests

pub device_asked : (t : Target) (n : ℕ) (result : Result (Vec ℕ) PipeFault) (old new : World)
    → 1 ≤ n → Queried t (get_device_descriptor n) old result new → new.shared ≡ false
    → EachWas (DeviceAsked t n result) old new
unfolding get_device_descriptor
device_asked t n result old new some asked = text_asked_of device_given t (get_device_descriptor n)
    (device_outcome n) some result old new (omega arith) asked

pub config_asked : (t : Target) (i n : ℕ) (result : Result (Vec ℕ) PipeFault) (old new : World)
    → i < 256 → 1 ≤ n → Queried t (get_configuration_descriptor i n) old result new
    → new.shared ≡ false → EachWas (ConfigAsked t i n result) old new
unfolding get_configuration_descriptor
config_asked t i n result old new byte some asked =
    text_asked_of (config_given i) t (get_configuration_descriptor i n) (config_outcome i n byte)
    some result old new (omega arith) asked

pub string_asked : (t : Target) (i l : ℕ) (result : Result (Vec ℕ) PipeFault) (old new : World)
    → i < 256 → Queried t (get_string_descriptor i l) old result new → new.shared ≡ false
    → EachWas (StringAsked t i result) old new
unfolding get_string_descriptor
string_asked t i l result old new byte asked =
    text_asked_of (string_given i) t (get_string_descriptor i l) (string_outcome i l byte)
    (omega arith) result old new (omega arith) asked

pub hub_asked : (t : Target) (result : Result (Vec ℕ) PipeFault) (old new : World)
    → Queried t get_hub_descriptor old result new → new.shared ≡ false
    → EachWas (HubAsked t result) old new
unfolding get_hub_descriptor
hub_asked t result old new asked = text_asked_of hub_given t get_hub_descriptor hub_outcome
    (omega arith) result old new (omega arith) asked

pub device_why : (t : Target) (n : ℕ) (result : Result (Vec ℕ) PipeFault) (old new : World) → 1 ≤ n
    → Queried t (get_device_descriptor n) old result new → NoThreeDamaged old → 8 ≤ t.max
    → new.shared ≡ false → EachWas (ReadFailure t n result) old new
unfolding get_device_descriptor
device_why t n result old new some asked = why_asked_of device_given t (get_device_descriptor n)
    (device_outcome n) some result old new (omega arith) asked

pub config_why : (t : Target) (i n : ℕ) (result : Result (Vec ℕ) PipeFault) (old new : World)
    → i < 256 → 1 ≤ n → Queried t (get_configuration_descriptor i n) old result new
    → NoThreeDamaged old → 8 ≤ t.max → new.shared ≡ false → EachWas (ReadFailure t n result) old new
unfolding get_configuration_descriptor
config_why t i n result old new byte some asked =
    why_asked_of (config_given i) t (get_configuration_descriptor i n) (config_outcome i n byte)
    some result old new (omega arith) asked

pub string_why : (t : Target) (i l : ℕ) (result : Result (Vec ℕ) PipeFault) (old new : World)
    → i < 256 → Queried t (get_string_descriptor i l) old result new → NoThreeDamaged old
    → 8 ≤ t.max → new.shared ≡ false → EachWas (ReadFailure t 255 result) old new
unfolding get_string_descriptor
string_why t i l result old new byte asked =
    why_asked_of (string_given i) t (get_string_descriptor i l) (string_outcome i l byte)
    (omega arith) result old new (omega arith) asked

pub hub_why : (t : Target) (result : Result (Vec ℕ) PipeFault) (old new : World)
    → Queried t get_hub_descriptor old result new → NoThreeDamaged old → 8 ≤ t.max
    → new.shared ≡ false → EachWas (ReadFailure t 9 result) old new
unfolding get_hub_descriptor
hub_why t result old new asked = why_asked_of hub_given t get_hub_descriptor hub_outcome
    (omega arith) result old new (omega arith) asked
