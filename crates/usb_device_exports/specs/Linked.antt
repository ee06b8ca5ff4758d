-- The devices of a plan, what they have said and nobody has fetched, and what each call does.
use Rattle.std.specs.Prelude.{◌≡◌, ◌≢◌, ℕ, min, false, List, [], ◌++◌, length, take, drop}
use Rattle.std.specs.Prelude.{IsUtf8, Option, None, Some, Result, Ok, Err}
use Rattle.usb_world.specs.{PlanData, opening}
use Rattle.usb_plan.specs.{spelled_plan}
use Rattle.usb_plan.specs.declared.fault.PlanFault.TheVariants as plan
use Rattle.usb_far.specs.{FarFault, Played, Scene, ServesHost, far_begun, played_of}
use Rattle.usb_device_exports.specs.declared.devices.Devices.{Devices}
use Rattle.usb_device_exports.specs.declared.fault.OpenFault.{OpenFault}
use Rattle.usb_device_exports.specs.declared.fault.OpenFault.TheVariants.{Memory, NoText, Plan}

-- the controller side with its trace, which nobody keeps; the bytes that wait; and the fault after
-- which nothing more is said
pub record DevicesState : Type 0 where
  pub played : Played
  pub waits : List ℕ
  pub fault : Option FarFault

abbrev pub devices_state : Devices → DevicesState
devices_state d = record {
  played = played_of d.far;
  waits = drop d.fetched d.said.items;
  fault = d.fault;
}

-- ---- open

-- the text spells this plan
pub record IsPlanOf (text : List ℕ) (p : PlanData) : Type 0 where
  pub utf8 : IsUtf8 text
  pub spelled : spelled_plan text ≡ Ok p

-- nothing was asked of that plan's devices, and nothing is said
pub record Opens (text : List ℕ) (new : DevicesState) : Type 0 where
  pub its : PlanData
  pub is : IsPlanOf text its
  pub far : new.played.far ≡ far_begun (opening its)
  pub waits : new.waits ≡ []
  pub fault : new.fault ≡ None

-- why there are no devices
abbrev pub IsUnopened : List ℕ → OpenFault → Type 0
IsUnopened text Memory = IsUtf8 text
IsUnopened text NoText = IsUtf8 text → ⊥
IsUnopened text (Plan f) = IsUtf8 text × (f ≢ plan.Memory) × (spelled_plan text ≡ Err f)

-- ---- ask

-- the lines are to be read, and the answers go behind the bytes that wait
abbrev pub scene_of : DevicesState → List ℕ → Scene
scene_of d lines = record {
  played = d.played;
  reader = record { bytes = Some lines; failed = false };
  writer = record { bytes = Some d.waits; failed = false; pending = false };
}

-- the fault without the number of its line
abbrev pub fault_of : Result (Unit {0}) (ℕ × FarFault) → Result (Unit {0}) FarFault
fault_of (Ok done) = Ok done
fault_of (Err e) = Err e.1

abbrev pub fault_in : Result (Unit {0}) FarFault → Option FarFault
fault_in (Ok done) = None
fault_in (Err f) = Some f

-- the controller side served the lines: what it said waits too, and its fault stays
pub record AsksOn (old : DevicesState) (lines : List ℕ) (result : Result (Unit {0}) FarFault)
    (new : DevicesState) : Type 0 where
  pub served : Result (Unit {0}) (ℕ × FarFault)
  pub behind : Scene
  pub serves : ServesHost (scene_of old lines) served behind
  pub played : new.played ≡ behind.played
  pub waits : behind.writer.bytes ≡ Some new.waits
  pub returned : result ≡ fault_of served
  pub fault : new.fault ≡ fault_in result

-- after a fault nothing is done, and the fault is reported again
abbrev pub AsksIn : Option FarFault → DevicesState → List ℕ → Result (Unit {0}) FarFault
    → DevicesState → Type 0
AsksIn (Some f) old lines result new = (result ≡ Err f) × (new ≡ old)
AsksIn None old lines result new = AsksOn old lines result new

abbrev pub Asks : DevicesState → List ℕ → Result (Unit {0}) FarFault → DevicesState → Type 0
Asks old lines result new = AsksIn old.fault old lines result new

-- ---- fetch

-- the first bytes that wait go into the room, until it is full, and wait no more
pub record Fetches (old : DevicesState) (room : List ℕ) (count : ℕ) (new : DevicesState)
    (now : List ℕ) : Type 0 where
  pub counted : count ≡ min (length old.waits) (length room)
  pub moved : now ≡ take count old.waits ++ drop count room
  pub rest : new ≡ record old { waits = drop count old.waits }
