-- Why a device is refused, said of its description (9.4, 9.6, 11.24.2).
use Rattle.std.specs.Prelude.{◌≡◌, ℕ, ◌==◌, ◌&&◌, Bool, false, if◌then◌else◌, List, [], take}
use Rattle.std.specs.Prelude.{slice_index_or, Option, None, Some, Result, Ok, Err, is_ok, ⊤}
use Rattle.std.specs.Option.{option_or}
use Rattle.usb_request.specs.{DEVICE_HEAD_LENGTH, DEVICE_LENGTH}
use Rattle.usb_descriptor.specs.{device_head_of, configuration_count}
use Rattle.usb_device.specs.{Spec, max_packet}
use Rattle.usb_world.specs.{World}
use Rattle.usb_transfer.specs.{Target}
use Rattle.usb_hub.specs.{IsClaimed, HasPort}
use Rattle.usb_enum.specs.declared.cause.Cause.{Cause}
use Rattle.usb_enum.specs.declared.cause.Cause.TheVariants.{Silent, Busy, Stalled, BadDevice}
use Rattle.usb_enum.specs.declared.cause.Cause.TheVariants.{TooDeep, NoPower, BadHub, NoAddress}
use Rattle.usb_enum.specs.declared.cause.Request.TheVariants as request
use Rattle.usb_enum.specs.declared.options.HostOptions.{HostOptions}
use Rattle.usb_enum.specs.declared.stop.Stop.{Stop}
use Rattle.usb_enum.specs.declared.stop.Stop.TheVariants.{Refused, Fault}
use Rattle.usb_enum.specs.Verdicts.{gives_hub, is_good_hub, texts_below, first_fault, verdict}
use Rattle.usb_enum.specs.Device.{is_device, is_hub_device, LAST_TIER}
use Rattle.usb_enum.specs.LearnedFacts.{FailureReason}
use Rattle.usb_enum.specs.Losses.{NoNewStretch}
use Rattle.usb_enum.specs.PresentDevices.{AnswersSo, HasDescriptor, HasHead}
use Rattle.usb_enum.specs.Readings.{AtMaximum}
use Rattle.usb_enum.specs.Text.{choice_of}

-- a device of this description answers, and has the target's maximum packet
pub record IsResponsive (t : Target) (spec : Spec) : Type 0 where
  pub loud : spec.silent ≡ false
  pub free : spec.busy ≡ false
  pub max : max_packet spec ≡ t.max

-- a refusal is for what is wrong with the description
abbrev pub IsRefusedFor : (Spec → Option Cause) → Stop → Spec → Type 0
IsRefusedFor wrong (Refused cause) spec = wrong spec ≡ Some cause
IsRefusedFor wrong (Fault fault) spec = ⊤

-- the same of a responsive device
abbrev pub Refuses : Target → (Spec → Option Cause) → Stop → Spec → Type 0
Refuses t wrong stop spec = IsResponsive t spec → IsRefusedFor wrong stop spec

-- What is wrong with a description

-- nothing
abbrev pub no_fault : Spec → Option Cause
no_fault spec = None

-- up to the head of its device descriptor, at this speed
unfoldable pub head_fault : Bool → Spec → Option Cause
head_fault low spec =
    if spec.silent then Some Silent
    else if spec.busy then Some Busy
    else if spec.stalls.device then Some (Stalled request.Device)
    else if is_ok (device_head_of low (take DEVICE_HEAD_LENGTH spec.descriptor)) then None
    else Some BadDevice

-- with its device descriptor
unfoldable pub device_fault : Bool → Spec → Option Cause
device_fault low spec =
    if spec.stalls.device then Some (Stalled request.Device)
    else if is_device low (take DEVICE_LENGTH spec.descriptor) then None
    else Some BadDevice

-- up to the head of its device descriptor, at its own speed
abbrev pub early_fault : Spec → Option Cause
early_fault spec = head_fault spec.low spec

-- with the request that gives it an address
abbrev pub address_fault : Spec → Option Cause
address_fault spec = if spec.stalls.address then Some (Stalled request.Address) else None

-- up to its whole device descriptor
unfoldable pub addressed_fault : Spec → Option Cause
addressed_fault spec = option_or (early_fault spec)
    (option_or (address_fault spec) (device_fault spec.low spec))

-- where it is to be given an address, and none is free
abbrev pub unaddressed_fault : Spec → Option Cause
unaddressed_fault spec = option_or (early_fault spec) (Some NoAddress)

-- why it is refused, where it is
abbrev pub cause_in : Result ℕ Cause → Option Cause
cause_in (Ok chosen) = None
cause_in (Err cause) = Some cause

-- by the whole table, in a tier and at a port that gives so many mA
abbrev pub whole_fault : HostOptions → ℕ → ℕ → Spec → Option Cause
whole_fault options tier supply spec = cause_in (verdict spec options tier supply)

-- with what a hub gives
abbrev pub hub_fault : Bool → Spec → Option Cause
hub_fault wide spec = if gives_hub wide spec spec.hub then None else Some BadHub

-- with a hub that has this configuration text
abbrev pub start_fault : Bool → List ℕ → Spec → Option Cause
start_fault wide text spec = if is_good_hub wide spec text then None else Some BadHub

-- with the request that configures it
abbrev pub setting_fault : Spec → Option Cause
setting_fault spec = if spec.stalls.set_config then Some (Stalled request.SetConfig) else None

-- with a device, a hub or none, that is to be set to one of these configurations
abbrev pub chosen_fault : Bool → Bool → List (List ℕ) → Option ℕ → Spec → Option Cause
chosen_fault wide hub texts None spec = Some NoPower
chosen_fault wide hub texts (Some chosen) spec = option_or (setting_fault spec)
    (if hub then start_fault wide (slice_index_or texts chosen []) spec else None)

-- behind its device descriptor, which is this, in a tier and at a port that gives so many mA
unfoldable pub configured_fault : HostOptions → ℕ → ℕ → List ℕ → Spec → Option Cause
configured_fault options tier supply bytes spec =
    let count = configuration_count bytes in
    let texts = texts_below spec count in
    if is_hub_device bytes && tier == LAST_TIER then Some TooDeep
    else option_or (first_fault options.device_bytes spec count)
    (chosen_fault options.wide_hubs (is_hub_device bytes) texts (choice_of supply texts) spec)

-- Of the head of the device descriptor

-- it gives one with this maximum packet
pub record FindsHead (t : Target) (old new : World) (max : ℕ) : Type 0 where
  pub answers : AnswersSo (HasHead t.low max) t old new
  pub goes : NoNewStretch old new

-- Of the device descriptor that is read at an address

-- none was answered, as it is by each responsive device
pub record NoDescriptor (t : Target) (old new : World) : Type 0 where
  pub why : FailureReason (λ spec. IsResponsive t spec → ⊥) t old new
  pub goes : new.fault ≡ None → NoNewStretch old new

-- its bytes, or none
abbrev pub FindsDescriptor : Target → World → World → Option (List ℕ) → Type 0
FindsDescriptor t old new (Some bytes) = AnswersSo (AtMaximum t (HasDescriptor bytes)) t old new
FindsDescriptor t old new None = NoDescriptor t old new

-- whoever is refused for it answered, and it is bad or not given
pub record RefusesDescriptor (t : Target) (stop : Stop) (old new : World) : Type 0 where
  pub why : FailureReason (Refuses t (device_fault t.low) stop) t old new
  pub who : (cause : Cause) → stop ≡ Refused cause → IsClaimed t.addr old

-- Of the ports of a hub

-- a responsive hub that has the port is not refused for it
abbrev pub RefusesNoPort : Target → ℕ → Stop → Spec → Type 0
RefusesNoPort t port stop spec = IsResponsive t spec → HasPort spec port
    → IsRefusedFor no_fault stop spec
