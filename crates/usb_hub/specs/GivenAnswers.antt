-- What a device of a description answers to requests for data (9.4, 11.24.2), seen from where it is
-- reachable after them.
use Rattle.usb_device.specs.{Location, Spec, Hub, State, OnlyStage}
use Rattle.std.specs.Prelude.{◌≡◌, ◌≢◌, ℕ, ◌≤◌, Bool, true, false, if◌then◌else◌, List, take}
use Rattle.std.specs.Prelude.{slice_get, Option, None, Some, option_map, Result, Ok, Err}
use Rattle.std.specs.Global.{Vec}
use Rattle.usb_request.specs.{HUB_LENGTH}
use Rattle.usb_transfer.specs.{Target, is_at, Listens, PipeFault, CanEnd, IsMaximum}
use Rattle.usb_transfer.specs.declared.fault.PipeFault.TheVariants.{Stalled, Busy, NoAnswer}
use Rattle.usb_hub.specs.declared.status.DeviceStatus.{DeviceStatus}

-- What a description has for each request: None where the device refuses it

abbrev pub unless_refused : {X : Type 0} → Bool → Option X → Option X
unless_refused refused given = if refused then None else given

abbrev pub device_given : Spec → Option (List ℕ)
device_given spec = unless_refused spec.stalls.device (Some spec.descriptor)

abbrev pub config_given : ℕ → Spec → Option (List ℕ)
config_given index spec = unless_refused spec.stalls.config (slice_get spec.configs index)

abbrev pub string_given : ℕ → Spec → Option (List ℕ)
string_given index spec = unless_refused spec.stalls.string (slice_get spec.strings index)

abbrev pub hub_given : Spec → Option (List ℕ)
hub_given spec = unless_refused spec.stalls.hub
    (option_map (λ (hub : Hub). hub.descriptor) spec.hub)

abbrev pub status_given : Spec → Option DeviceStatus
status_given spec = unless_refused spec.stalls.status
    (Some (record { self_powered = spec.self_powered; remote_wakeup = false }))

-- What was read

-- the bytes are the first of a text of the device, as many as were wanted or all, where the
-- target's maximum is the device's
pub record HasText (given : Option (List ℕ)) (t : Target) (wanted : ℕ) (s : State)
    (bytes : List ℕ) : Type 0 where
  pub text : List ℕ
  pub is : given ≡ Some text
  pub first : IsMaximum t wanted s → bytes ≡ take wanted text

-- A device was asked for something: nothing of it changed but where its transfer stands; what was
-- read is so of it, and it refused
-- only what it does not give.
pub record ReadAsked {A X : Type 0} (given : Spec → Option X) (Has : State → A → Type 0)
    (t : Target) (result : Result A PipeFault) (x : Location) (s v : State) : Type 0 where
  pub others : is_at s t ≡ false → v ≡ s
  pub frame : OnlyStage s v
  pub done : is_at s t ≡ true → (read : A) → result ≡ Ok read → Has s read
  pub stalled : is_at s t ≡ true → result ≡ Err Stalled → given s.spec ≡ None
  pub could : is_at s t ≡ true → CanEnd s.spec result

abbrev pub TextAsked : (Spec → Option (List ℕ)) → Target → ℕ → Result (Vec ℕ) PipeFault → Location
    → State → State → Type 0
TextAsked given t wanted result = ReadAsked given
    (λ s bytes. HasText (given s.spec) t wanted s bytes.items) t result

-- the first bytes of the device descriptor (9.4.3)
abbrev pub DeviceAsked : Target → ℕ → Result (Vec ℕ) PipeFault → Location → State → State → Type 0
DeviceAsked = TextAsked device_given

-- the first bytes of a configuration's text (9.4.3)
abbrev pub ConfigAsked : Target → ℕ → ℕ → Result (Vec ℕ) PipeFault → Location → State → State
    → Type 0
ConfigAsked t index = TextAsked (config_given index) t

-- a string descriptor (9.4.3)
abbrev pub StringAsked : Target → ℕ → Result (Vec ℕ) PipeFault → Location → State → State → Type 0
StringAsked t index = TextAsked (string_given index) t 255

-- the first bytes of a hub's descriptor (11.24.2.5)
abbrev pub HubAsked : Target → Result (Vec ℕ) PipeFault → Location → State → State → Type 0
HubAsked t = TextAsked hub_given t HUB_LENGTH

-- the status of a device (9.4.5)
abbrev pub StatusAsked : Target → Result DeviceStatus PipeFault → Location → State → State → Type 0
StatusAsked t = ReadAsked status_given (λ s status. status_given s.spec ≡ Some status) t

-- Why nothing was read, where no three attempts running are damaged: a device that hears its target
-- answers, and only one that is always
-- busy keeps the host waiting.
pub record ReadFailure {A : Type 0} (t : Target) (wanted : ℕ) (result : Result A PipeFault)
    (x : Location) (s v : State) : Type 0 where
  pub answered : Listens t x s → IsMaximum t wanted s → result ≢ Err NoAnswer
  pub waited : Listens t x s → IsMaximum t wanted s → s.spec.busy ≡ false → s.spec.naks ≤ 200
      → result ≢ Err Busy
