-- What a stop is, whatever the bus does.
use Rattle.std.proofs.Common.{arith, ◌≡◌, ◌&&◌, ℕ, ◌==◌, Bool, true, List, Some, Result, Ok, Err}
use Rattle.std.proofs.Common.{IfOk, IfSome, MatchResult, Option, IfErr, false}
use Rattle.usb_port.specs.{Addresses, IsFull}
use Rattle.usb_transfer.specs.{PipeFault, BusToldIt}
use Rattle.usb_transfer.specs.declared.fault.PipeFault.TheVariants as pipe
use Rattle.usb_enum.specs.{Accepted, Cause, EnumFault, Finding, Stop, device_bytes, fits_tier}
use Rattle.usb_enum.specs.{HostOptions, is_device, is_hub_device, HandsOn, IsFound, FitsStop}
use Rattle.usb_enum.specs.{IsHubStop, IsPlain, IsEarly, IsEarlyStop, IsPlainStop, IsSaidAt}
use Rattle.usb_enum.specs.{IsSaidWhole, IsStopWithout, answered_or, stop_of, FitsTier}
use Rattle.usb_enum.specs.{FaultAllowedAt, FaultAllowed, IsReported, IsReportedStop, at_port}
use Rattle.usb_enum.specs.{stop_in, EnumWorks, StopNotOfBus}
use Rattle.usb_enum.specs.declared.cause.Cause.TheVariants as cause
use Rattle.usb_enum.specs.declared.finding.Finding.TheVariants as finding
use Rattle.usb_enum.specs.declared.stop.Stop.TheVariants.{Refused}
use Rattle.usb_world.specs.{World, BusFault}
use Rattle.usb_hub.specs.{HubPort, StillWorks, WorksAfter}
use Rattle.usb_enum.specs.declared.fault.EnumFault.TheVariants as fault

-- In a tier

pub plain_fits : (tier : ℕ) (why : Cause) → IsPlain why → FitsTier tier why
plain_fits tier why plain = grind arith

-- a device that fits its tier is no hub in the last
pub fits_tier-hub : (tier : ℕ) (bytes : List ℕ) → fits_tier tier bytes ≡ Ok tt
    → (is_hub_device bytes && tier == 7) ≡ false
fits_tier-hub tier bytes e = grind arith

-- one that does not fit is one
pub deep_is : (tier : ℕ) (bytes : List ℕ) (stop : Stop) → fits_tier tier bytes ≡ Err stop
    → (stop ≡ Refused cause.TooDeep) × ((is_hub_device bytes && tier == 7) ≡ true)
deep_is tier bytes stop e = grind arith

-- by an answer

pub answered_plain : {A : Type 0} (stalled : Cause) (outcome : Result A PipeFault) (stop : Stop)
    → IsPlain stalled → Err stop ≡ answered_or stalled outcome → IsPlainStop stop
answered_plain stalled outcome stop plain is = grind arith

-- by one to an early request

pub answered_early : {A : Type 0} (stalled : Cause) (outcome : Result A PipeFault) (stop : Stop)
    → IsEarly stalled → Err stop ≡ answered_or stalled outcome → IsEarlyStop stop
answered_early stalled outcome stop early is = grind arith

early_plain : (why : Cause) → IsEarly why → IsPlain why
early_plain why early = grind arith

pub early_stop_fits : (tier : ℕ) (stop : Stop) → IsEarlyStop stop → FitsStop tier stop
early_stop_fits tier stop early = grind arith

-- of a hub

pub answered_hub : {A : Type 0} (outcome : Result A PipeFault) (stop : Stop)
    → Err stop ≡ answered_or cause.BadHub outcome → IsHubStop stop
answered_hub outcome stop is = grind arith

pub stop_plain : (why : PipeFault) (stop : Stop) → stop_of why ≡ Some stop → IsPlainStop stop
stop_plain why stop is = grind arith

-- a plain one fits each tier, and an early one comes also where no address is free

pub plain_stop_fits : (tier : ℕ) (stop : Stop) → IsPlainStop stop → FitsStop tier stop
plain_stop_fits tier stop plain = grind arith

pub early_without : (stop : Stop) → IsEarlyStop stop → IsStopWithout stop
early_without stop early = grind arith

-- a hub that fits its tier

pub hub_stop_fits : (tier : ℕ) (bytes : List ℕ) (stop : Stop) → fits_tier tier bytes ≡ Ok tt
    → is_hub_device bytes ≡ true → IsHubStop stop → FitsStop tier stop
hub_stop_fits tier bytes stop fits is told = grind arith

-- one that does not

pub deep_stop_fits : (tier : ℕ) (bytes : List ℕ) (stop : Stop) → fits_tier tier bytes ≡ Err stop
    → FitsStop tier stop
deep_stop_fits tier bytes stop is = grind arith

-- what the bytes of a device descriptor tell

pub device_good : (low : Bool) (bytes said : List ℕ) → said ≡ bytes
    → MatchResult (device_bytes low bytes)
    (λ found. IfSome found (λ good. (is_device low good ≡ true) × (said ≡ good))) IsEarlyStop
device_good low bytes said same = grind arith

-- Of an enumeration that is given up

module _ (addresses : Addresses) (options : HostOptions) (tier supply : ℕ) where
  pub fits_found : (stop : Stop) (result : Result Finding EnumFault) → HandsOn stop result
      → FitsStop tier stop → IfOk result (IsFound addresses options tier supply)
  fits_found stop result hands fits = grind arith

  pub without_found : (stop : Stop) (result : Result Finding EnumFault) → IsFull addresses
      → HandsOn stop result → IsStopWithout stop
      → IfOk result (IsFound addresses options tier supply)
  without_found stop result full hands stops = grind arith

-- What was said

pub said_early : (stop : Stop) (said : List ℕ) → IsEarlyStop stop → IsSaidAt stop said
said_early stop said early = grind arith

pub said_without : (stop : Stop) (said : List ℕ) → IsStopWithout stop → IsSaidAt stop said
said_without stop said early = grind arith

pub said_given : (stop : Stop) (result : Result Finding EnumFault) (said : List ℕ)
    → HandsOn stop result → IsSaidAt stop said → IfOk result (λ finding. IsSaidWhole finding said)
said_given stop result said hands at = grind arith

-- what a device gave that was read and configured
pub examined_whole : (result : Result Accepted Stop) (Is So : Accepted → Type 0) (tier : ℕ)
    (bytes : List ℕ) (low : Bool) (said : List ℕ)
    → MatchResult result (λ x. Is x × So x × (x.bytes ≡ bytes)) (FitsStop tier) → said ≡ bytes
    → is_device low bytes ≡ true → MatchResult result (λ x. Is x × So x × (said ≡ x.bytes))
    (λ stop. FitsStop tier stop × IsSaidAt stop said)
examined_whole result Is So tier bytes low said whole same good = grind arith

pub fault_at : (port : HubPort) (why : EnumFault) (w : World) → FaultAllowed why w
    → FaultAllowedAt port why w
fault_at port why w told = grind arith

module _ {A : Type 0} (last : Option BusFault) where
  pub answers_reported : (stalled : Cause) (outcome : Result A PipeFault) → BusToldIt outcome last
      → IfSome (stop_in (answered_or stalled outcome)) (λ stop. IsReportedStop stop last)
  answers_reported stalled outcome told = grind arith

  pub ports_reported : (outcome : Result A PipeFault) → BusToldIt outcome last
      → IfErr (at_port outcome) (λ fault. IsReported fault last)
  ports_reported outcome told = grind arith

  pub port_reported : (outcome : Result A PipeFault) (fault : EnumFault) → BusToldIt outcome last
      → Err fault ≡ at_port outcome → IsReported fault last
  port_reported outcome fault told is = grind arith

pub device_reported : (last : Option BusFault) (low : Bool) (bytes : List ℕ)
    → IfErr (device_bytes low bytes) (λ stop. IsReportedStop stop last)
device_reported last low bytes = grind arith

at_port_case : {X : Type 0} (outcome : Result X PipeFault) (old new : World)
    → WorksAfter outcome old new → EnumWorks (at_port outcome) old new
at_port_case outcome old new works = grind arith

-- a request to a port, and what it is told as
pub at_port_works : {X : Type 0} (result : Result X EnumFault) (outcome : Result X PipeFault)
    (old new : World) → result ≡ at_port outcome → WorksAfter outcome old new
    → EnumWorks result old new
at_port_works result outcome old new is works = rw is (search at_port_case)

-- a device that is given up
pub stopped_works : (stop : Stop) (result : Result Finding EnumFault) (old mid new : World)
    → HandsOn stop result → (StopNotOfBus stop → StillWorks old mid) → EnumWorks result mid new
    → EnumWorks result old new
stopped_works stop result old mid new hands first next = grind arith
