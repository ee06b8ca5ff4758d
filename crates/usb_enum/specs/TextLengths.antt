-- How few attempts an enumeration makes, by the lengths that the devices' configuration texts say.
use Rattle.std.specs.Prelude.{◌≡◌, ◌⊎◌, ◌≤◌, ℕ, ◌+◌, ◌*◌, List, length, slice_get, true, false}
use Rattle.std.specs.Prelude.{None, Some, Result, OnOk, IfSome, All, ⊤}
use Rattle.usb_device.specs.{Spec, State, said_lengths, max_packet, Location, reach_on, state_on}
use Rattle.usb_world.specs.{Action, Plug, Unplug, PlanData, IsPlan, AtPorts, AnyStep, Course}
use Rattle.usb_world.specs.{opening, World}
use Rattle.usb_world.specs.declared.event.Action.TheVariants.{Change, Ask}
use Rattle.usb_transfer.specs.{Target, HadOne, is_at}
use Rattle.usb_hub.specs.{AddressMap, Enumerating, WhileBusWorks, HubPort}
use Rattle.usb_enum.specs.declared.stop.Stop.{Stop}
use Rattle.usb_enum.specs.Addresses.{IsSpare}
use Rattle.usb_enum.specs.Bounds.{text_bound, examined_by}
use Rattle.usb_enum.specs.LearnedFacts.{DeviceFact}
use Rattle.usb_enum.specs.PresentDevices.{IsRegular}
use Rattle.usb_enum.specs.Readings.{AtMaximum, HasTotal}

-- Of a description

-- it has the target's maximum packet, and at most 8 texts, which say no more than so many bytes
pub record SaysWithin (t : Target) (most : ℕ) (spec : Spec) : Type 0 where
  pub max : max_packet spec ≡ t.max
  pub few : length spec.configs ≤ 8
  pub within : said_lengths spec ≤ most

-- Of a plan

-- no device is plugged whose texts say more
abbrev pub PlugsWithin : ℕ → List Spec → Action → Type 0
PlugsWithin most devices (Change (Plug path device)) =
    IfSome (slice_get devices device) (λ spec. said_lengths spec ≤ most)
PlugsWithin most devices (Change (Unplug path)) = ⊤
PlugsWithin most devices (Ask ask) = ⊤

-- the steps of a plan, whose events are at ports, led to the world
pub record IsPlanned (w : World) : Type 0 where
  pub plan : PlanData
  pub is : IsPlan plan
  pub paths : AtPorts plan.events
  pub course : Course AnyStep (opening plan) w

-- so they did, and none of its events plugs such a device
pub record HasPlanWithin (most : ℕ) (w : World) : Type 0 where
  pub planned : IsPlanned w
  pub plugs : All (λ e. PlugsWithin most planned.plan.devices e.action) planned.plan.events

-- Of whoever has a target's address

-- each reachable device that has it is so
abbrev pub EachAt : (Spec → Type 0) → Target → World → Type 0
EachAt So t w = (x : Location) (s : State) → reach_on w.roots x ≡ true → state_on w.roots x ≡ Some s
    → is_at s t ≡ true → So s.spec

-- some reachable device has it, and is so
pub record SomeAt (So : Spec → Type 0) (t : Target) (w : World) : Type 0 where
  pub spot : Location
  pub state : State
  pub on : reach_on w.roots spot ≡ true
  pub stands : state_on w.roots spot ≡ Some state
  pub at : is_at state t ≡ true
  pub so : So state.spec

-- where no address was ever held twice, some reachable device has it
abbrev pub IsAnswered : Target → World → Type 0
IsAnswered t w = w.shared ≡ false → HadOne t w

-- Of calls

-- a text was read, or not: so few attempts were made, by the length that its head said; and where
-- one was said, a device said it
pub record ReadsText (t : Target) (index : ℕ) (old : World) (result : Result (List ℕ) Stop)
    (new : World) : Type 0 where
  pub total : ℕ
  pub count : new.attempts ≤ old.attempts + (text_bound + 100 * total)
  pub said : (total ≡ 0) ⊎ (new.shared ≡ false → SomeAt (AtMaximum t (HasTotal index total)) t old)
  pub read : OnOk result (DeviceFact (AtMaximum t (HasTotal index total)) t old new
      × IsAnswered t new)

-- where no address was ever held twice, and the texts of whoever has the target's address say so
-- little, so few attempts were made
pub record FewFor (bound : ℕ → ℕ) (t : Target) (old new : World) : Type 0 where
  pub few : (most : ℕ) → new.shared ≡ false → EachAt (SaysWithin t most) t old
      → new.attempts ≤ old.attempts + bound most

-- where nothing is claimed at the port, and the address is spare, so few attempts were made, by
-- what the plan's devices say
pub record FewFrom (port : HubPort) (address : ℕ) (old new : World) : Type 0 where
  pub few : (f : AddressMap) (p : List ℕ) → IsSpare f port p address
      → WhileBusWorks (Enumerating f p address) old → IsRegular old
      → (most : ℕ) → (old.fault ≡ None → HasPlanWithin most old)
      → new.attempts ≤ old.attempts + examined_by port most
