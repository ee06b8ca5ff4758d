-- What was learned of a device from its answers, seen from where it is reachable after them.
use Rattle.usb_device.specs.{Location, Spec, IsSpec, OnlyStage, State}
use Rattle.std.specs.Prelude.{◌≡◌, ◌≢◌, true, false}
use Rattle.usb_world.specs.{EachWas, hears_attempt, World, address_of, deep_at}
use Rattle.usb_transfer.specs.{Target, is_at, in_attempt, NoThreeDamaged}

-- nothing of a device changed but where its transfer stands; of the target's device this is so
pub record Learned (So : Spec → Type 0) (t : Target) (x : Location) (s v : State) : Type 0 where
  pub frame : OnlyStage s v
  pub so : is_at s t ≡ true → So s.spec

abbrev pub DeviceFact : (Spec → Type 0) → Target → World → World → Type 0
DeviceFact So t old new = new.shared ≡ false → EachWas (Learned So t) old new

-- the device has the target's address, and what is sent to the target comes to it
pub record Hears (t : Target) (x : Location) (s : State) : Type 0 where
  pub at : is_at s t ≡ true
  pub hears : hears_attempt (in_attempt t 0) (deep_at false x.rest) s ≡ true

-- besides, it is configured, and its address is not 0
pub record HearsSet (t : Target) (x : Location) (s : State) : Type 0 where
  pub hears : Hears t x s
  pub addressed : t.addr ≢ 0
  pub configured : s.registers.configuration ≢ 0

-- a device has the description and the address that it had; where the target's device hears the
-- host so, and keeps the rules of devices, this is so of it
pub record Explained (Heard : Target → Location → State → Type 0) (So : Spec → Type 0) (t : Target)
    (x : Location) (s v : State) : Type 0 where
  pub spec : v.spec ≡ s.spec
  pub address : address_of v ≡ address_of s
  pub so : Heard t x s → IsSpec s.spec → So s.spec

-- where no three attempts running are damaged
abbrev pub FailureReason : (Spec → Type 0) → Target → World → World → Type 0
FailureReason So t old new = NoThreeDamaged old → new.shared ≡ false
    → EachWas (Explained Hears So t) old new

-- the same of a device that is configured
abbrev pub ExplainsSet : (Spec → Type 0) → Target → World → World → Type 0
ExplainsSet So t old new = NoThreeDamaged old → new.shared ≡ false
    → EachWas (Explained HearsSet So t) old new
