-- That a finding is the device's own.
use Rattle.std.proofs.Common.{◌≡◌, ℕ, suc, ◌&&◌, not, Bool, false, List, ◌∷◌, take, Option, Some}
use Rattle.std.proofs.Common.{Result, Ok, Err, ap, ◌∙◌, arith, IfOk}
use Rattle.usb_descriptor.specs.{configuration_value, configuration_count}
use Rattle.usb_device.specs.{State, Ports, Location, state_there, Spec, IsSpec}
use Rattle.usb_world.specs.{after_taking, Consistent, World}
use Rattle.usb_world.proofs.Interface.{sane_spec, self_path}
use Rattle.usb_hub.specs.{KeepsAddresses, HubPort}
use Rattle.usb_enum.specs.{Addressed, Accepted, HubFacts, Stop, Within, verdict, is_good_hub}
use Rattle.usb_enum.specs.{facts_of, IsAs, is_hub_device, string_indexes, configuration_of}
use Rattle.usb_enum.specs.{HasFacts, OnlySets, IsAccepted, IsListed, IsOwn, IsWhole, Finds}
use Rattle.usb_enum.specs.{HasTaken, IsAddressed, HasReadings, LearnedSet, TellsPorts, AtMaximum}
use Rattle.usb_enum.specs.{HostOptions, Went}
use Rattle.usb_enum.proofs.devices.Enumerations.{within-keeps_addresses, takes_then}
use Rattle.usb_enum.proofs.readings.Heads.{head_packet}
use Rattle.usb_enum.proofs.courses.Courses.{leads_then}
use Rattle.usb_enum.proofs.devices.Presence.{finds_on}
use Rattle.usb_enum.proofs.devices.ReachedDevices.{reaches_set}
use Rattle.usb_enum.proofs.verdicts.VerdictRows.{front_count, front_hub, GaveDevice, row_accepted}

-- What is read of the first 18 bytes of a descriptor

front_indexes : (d : List ℕ) → string_indexes (take 18 d) ≡ string_indexes d
front_indexes d = grind arith

-- Hubs

-- what is so of one that told of its ports, and of a device that did not
record HubTold (wide : Bool) (spec : Spec) (text : List ℕ) (told : Option HubFacts) : Type 0 where
  good : (is_hub_device spec.descriptor && not (is_good_hub wide spec text)) ≡ false
  facts : told ≡ facts_of spec

facts_told : (wide : Bool) {spec : Spec} (bytes text : List ℕ) (told : Option HubFacts)
    → IsSpec spec → is_hub_device bytes ≡ is_hub_device spec.descriptor → HasFacts bytes text told
    → TellsPorts wide text told spec → HubTold wide spec text told
facts_told wide bytes text told ruled same has tells = grind arith

-- The finding

own_finding : {options : HostOptions} {tier supply : ℕ} {addressed : Addressed} {device : Accepted}
    {s : State} {old new : World} → IsSpec s.spec → IsAddressed addressed s
    → IsListed addressed options tier old new device → IsWhole options supply device
    → HasReadings options addressed.bytes device s.spec
    → (verdict s.spec options tier supply ≡ Ok device.chosen) × IsAs s.spec device
own_finding {options} {tier} {supply} {addressed} {device} {s} ruled found is whole read =
    let spec = s.spec in
    let hub_same = ap is_hub_device found.bytes ∙ front_hub spec.descriptor in
    let count_same = ap configuration_count found.bytes ∙ front_count spec.descriptor in
    let wide = options.wide_hubs in
    let gave : GaveDevice spec tier = grind arith in
    let hub = facts_told wide device.bytes (configuration_of device) device.hub ruled
    (search is.bytes) whole.hub read.ports in
    grind (arith, front_indexes, row_accepted)

-- it is set as it says, where its address is the target's and its configuration the chosen one's
accepted_own_device : {options : HostOptions} {tier supply : ℕ} {addressed : Addressed}
    {device : Accepted} {j : Location} {s v : State} {old new : World}
    → IsWhole options supply device → IsListed addressed options tier old new device → LearnedSet
    (AtMaximum addressed.target (HasReadings options addressed.bytes device)) addressed.target
    (configuration_value (configuration_of device)) j s v → IsAddressed addressed s → IsSpec s.spec
    → IsOwn options tier supply device v
accepted_own_device {options} {tier} {supply} {addressed} {device} {s} whole is learned found ruled
    =
    let learned_of = learned.so (grind arith) in
    let read : HasReadings options addressed.bytes device s.spec =
    learned_of.0 (head_packet found.low found.head) in grind (arith, own_finding)

pub ruled_there : (k : Ports) (p : List ℕ) (s : State) → Consistent k → state_there k p ≡ Some s
    → IsSpec s.spec
ruled_there k (suc i ∷ p) s sane there = sane_spec k i p s sane there
ruled_there k _ s sane there = absurd cc

-- the device at the port, where it was read and configured after it took the address
own_found : {port : HubPort} {address : ℕ} {options : HostOptions} {tier supply : ℕ}
    {addressed : Addressed} {device : Accepted} {old mid new : World} → Went old mid
    → Within port address old mid → HasTaken port address old mid addressed → KeepsAddresses mid new
    → IsWhole options supply device → IsListed addressed options tier mid new device
    → Finds (IsOwn options tier supply device) port address old new
own_found {options} {tier} {supply} {addressed} {device} {mid} went within taken keeps
    whole is =
    finds_on (LearnedSet (AtMaximum addressed.target (HasReadings options addressed.bytes device))
    addressed.target (configuration_value (configuration_of device)))
    {A = λ s. IsAddressed addressed s × IsSpec s.spec} (IsOwn options tier supply device)
    (λ j s v learned found. accepted_own_device whole is learned found.0 found.1) is.learned
    (within-keeps_addresses within keeps) (record {
      found = λ f p spare t order s on there. (
        taken.found.found f p spare t order s on there,
        ruled_there mid.roots p s (went.order order taken.still).sane there,
      );
    })

-- how it is spoken to
pub accepted : {port : HubPort} {address : ℕ} (options : HostOptions) (tier supply : ℕ)
    {addressed : Addressed} (result : Result Accepted Stop) {old mid new : World}
    → Went old mid → Within port address old mid → HasTaken port address old mid addressed
    → OnlySets address mid new → Went mid new
    → IfOk result (λ device. IsWhole options supply device)
    → IfOk result (IsListed addressed options tier mid new)
    → IfOk result (IsAccepted port address options tier supply old new)
accepted {port} {address} options tier supply {addressed} (Ok device) went within taken
    sets later whole is = record {
      served = is.served;
      takes = grind (arith, takes_then);
      own = grind (arith, own_found);
      reaches = grind (arith, reaches_set);
      below = λ f p spare t order.
          is.below.empty (after_taking f p address) p
          (grind (arith, self_path)) (grind arith) (went.order order);
      strings = record {
        target = addressed.target;
        is = grind arith;
        ends = search (leads_then, is.bytes);
      };
    }
accepted options tier supply (Err why) went within taken sets later whole
    is = tt
