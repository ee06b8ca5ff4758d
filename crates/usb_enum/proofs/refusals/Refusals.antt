-- How what a refusal tells of a device joins, and why a request for data fails.
use Rattle.usb_device.specs.{Location, Spec, IsSpec, State, max_packet}
use Rattle.std.proofs.Common.{arith, ◌≡◌, ◌⊎◌, ◌≤◌, ℕ, true, false, Option, None, Some, Result, Ok}
use Rattle.std.proofs.Common.{Err, IfErr, IsErrAnd}
use Rattle.std.specs.Prelude.{unwrap_or, ⊤}
use Rattle.usb_world.specs.{Relation, EachWas, World}
use Rattle.usb_world.proofs.Interface.{each_both, each_joined, each_wider}
use Rattle.usb_transfer.specs.{Target, is_at, NoThreeDamaged, PipeFault}
use Rattle.usb_transfer.specs.declared.fault.PipeFault.TheVariants as pipe
use Rattle.usb_hub.specs.{ReadAsked, ReadFailure}
use Rattle.usb_enum.specs.{Cause, EnumFault, Stop, Learned, DeviceFact, Hears, HearsSet, Explained}
use Rattle.usb_enum.specs.{FailureReason, ExplainsSet, IsRefusedFor, Refuses, stop_of, AtMaximum}
use Rattle.usb_enum.specs.{answered_or, Went}
use Rattle.usb_enum.specs.declared.stop.Stop.TheVariants.{Refused, Fault}

-- two things of each device in one call
pub each_joint : (R S T : Relation) → ((j : Location) (s v : State) → R j s v → S j s v → T j s v)
    → (old new : World) → EachWas R old new → EachWas S old new → EachWas T old new
each_joint R S T f old new x y = each_wider (λ j s v. R j s v × S j s v) T
    (λ j s v k. f j s v k.0 k.1) old new (each_both R S old new x y)

-- from one call to the next

hears_still : {t : Target} {place : Location} {s : State} (u : State) → u.spec ≡ s.spec
    → u.registers ≡ s.registers → Hears t place s → Hears t place u
hears_still u spec registers h = grind arith

set_still : {t : Target} {place : Location} {s : State} (u : State) → u.spec ≡ s.spec
    → u.registers ≡ s.registers → HearsSet t place s → HearsSet t place u
set_still u spec registers h = grind arith

-- what was learned explains as well
pub learned_explains : {A B : Spec → Type 0} {t : Target} {old : World} (new : World)
    → DeviceFact A t old new → ((spec : Spec) → A spec → B spec) → FailureReason B t old new
learned_explains {A} {B} {t} {old} new x f three single =
    each_wider (Learned A t) (Explained Hears B t) (grind arith) old new (x single)

-- what is wrong in one way is wrong in the other
pub refused_as : (A B : Spec → Option Cause) (stop : Stop) (spec : Spec)
    → ((cause : Cause) → A spec ≡ Some cause → B spec ≡ Some cause) → IsRefusedFor A stop spec
    → IsRefusedFor B stop spec
refused_as A B stop spec f is = grind arith

-- at the device's maximum packet, what is wrong refuses it
pub wrong_refuses : {t : Target} (wrong : Spec → Option Cause) {cause : Cause} {old : World}
    (new : World) → DeviceFact (AtMaximum t (λ spec. wrong spec ≡ Some cause)) t old new
    → FailureReason (Refuses t wrong (Refused cause)) t old new
wrong_refuses {t} wrong {cause} new learned =
    learned_explains {B = Refuses t wrong (Refused cause)} new learned (λ spec bad r. bad r.max)

-- a fault is no refusal
pub fault_explains : {A : Spec → Type 0} {t : Target} (wrong : Spec → Option Cause)
    (fault : EnumFault) {old : World} (new : World) → DeviceFact A t old new
    → FailureReason (Refuses t wrong (Fault fault)) t old new
fault_explains wrong fault new learned = search learned_explains

-- where nothing went, what is so of every description
pub explained_none : {Heard : Target → Location → State → Type 0} {So : Spec → Type 0} {t : Target}
    {w : World} → ((spec : Spec) → So spec) → NoThreeDamaged w → w.shared ≡ false
    → EachWas (Explained Heard So t) w w
explained_none all three single = grind arith

-- of one that hears in the one way as of one that hears in the other
pub explained_wider : {Heard Hearing : Target → Location → State → Type 0} {A B : Spec → Type 0}
    {t : Target} {old : World} (new : World)
    → ((j : Location) (s : State) → Hearing t j s → Heard t j s)
    → (NoThreeDamaged old → new.shared ≡ false → EachWas (Explained Heard A t) old new)
    → ((spec : Spec) → A spec → B spec)
    → NoThreeDamaged old → new.shared ≡ false → EachWas (Explained Hearing B t) old new
explained_wider {Heard} {Hearing} {A} {B} {t} {old} new at x f three single =
    each_wider (Explained Heard A t) (Explained Hearing B t) (grind arith) old new (x three single)

-- after what was learned
module _ (Heard : Target → Location → State → Type 0) (at : (t : Target) (j : Location) (s : State)
    → Heard t j s → is_at s t ≡ true)
    (on : (t : Target) (j : Location) (s u : State) → u.spec ≡ s.spec → u.registers ≡ s.registers
    → Heard t j s → Heard t j u) where
  explained_on : {A B C : Spec → Type 0} {t : Target} {old mid new : World} → DeviceFact A t old mid
      → Went old mid → Went mid new
      → (NoThreeDamaged mid → new.shared ≡ false → EachWas (Explained Heard B t) mid new)
      → ((spec : Spec) → IsSpec spec → A spec → B spec → C spec) → NoThreeDamaged old
      → new.shared ≡ false → EachWas (Explained Heard C t) old new
  explained_on {A} {B} {C} {t} {old} {mid} {new} a first next b f three single =
      each_joined (Learned A t) (Explained Heard B t) (Explained Heard C t) (grind arith)
      old mid new (grind arith) (grind arith)

pub explains_on : {A B C : Spec → Type 0} {t : Target} {old mid new : World}
    → DeviceFact A t old mid → Went old mid → Went mid new → FailureReason B t mid new
    → ((spec : Spec) → A spec → B spec → C spec) → FailureReason C t old new
explains_on a first next b f =
    explained_on Hears (λ t p s h. h.at) (λ t p s. hears_still) a first next b
    (λ spec ruled. f spec)

pub explains_set_on : {A B C : Spec → Type 0} {t : Target} {old mid new : World}
    → DeviceFact A t old mid → Went old mid → Went mid new → ExplainsSet B t mid new
    → ((spec : Spec) → IsSpec spec → A spec → B spec → C spec) → ExplainsSet C t old new
explains_set_on a first next b f =
    explained_on HearsSet (λ t p s h. h.hears.at) (λ t p s. set_still) a first next b f

-- an error that is handed on
pub failed : {A E : Type 0} {why : E} (r : Result A E) → IsErrAnd r (λ e. e ≡ why) → r ≡ Err why
failed r same = grind arith

-- what is so of each error
pub by_error : {A E : Type 0} (r : Result A E) (P : E → Type 0) → ((why : E) → r ≡ Err why → P why)
    → IfErr r P
by_error r P f = grind arith

-- Why a request for data fails

-- of this description
abbrev pub FailsForSpec : {X : Type 0} → (Spec → Option X) → PipeFault → Spec → Type 0
FailsForSpec given pipe.Stalled spec = (spec.silent ≡ false) × (spec.busy ≡ false)
    × (given spec ≡ None)
FailsForSpec given pipe.Busy spec = (spec.silent ≡ false) × (spec.busy ≡ true)
FailsForSpec given pipe.NoAnswer spec = spec.silent ≡ true
FailsForSpec given pipe.Broken spec = ⊥
FailsForSpec given _ spec = ⊤

pub answered_err : {A : Type 0} (stalled : Cause) {outcome : Result A PipeFault} {stop : Stop}
    → Err stop ≡ answered_or stalled outcome → (fault : PipeFault) × (outcome ≡ Err fault)
    × (unwrap_or (stop_of fault) (Refused stalled) ≡ stop)
answered_err stalled is = grind arith

pub answered_ok : {A : Type 0} (stalled : Cause) {outcome : Result A PipeFault} {answer : A}
    → Ok answer ≡ answered_or stalled outcome → outcome ≡ Ok answer
answered_ok stalled is = grind arith

module _ {A X : Type 0} {given : Spec → Option X} {Has : State → A → Type 0} {t : Target}
    {wanted : ℕ} where
  module _ {outcome : Result A PipeFault} {old : World} (new : World) (what : new.shared ≡ false
      → EachWas (ReadAsked given Has t outcome) old new) (least : 8 ≤ t.max)
      (why : NoThreeDamaged old → 8 ≤ t.max → new.shared ≡ false
      → EachWas (ReadFailure t wanted outcome) old new) where
    pub failure_explains : (So : Spec → Type 0) (fault : PipeFault) → outcome ≡ Err fault
        → ((spec : Spec) → (((max_packet spec ≡ t.max) ⊎ (wanted ≤ 8))
        → FailsForSpec given fault spec) → So spec) → FailureReason So t old new
    failure_explains So fault is f three single =
        each_joint (ReadAsked given Has t (Err fault)) (ReadFailure {A = A} t wanted (Err fault))
        (Explained Hears So t) (grind arith)
        old new (grind arith)
        (grind arith)

    -- by its answer to the host
    pub stop_explains : (So : Stop → Spec → Type 0) (stalled : Cause) (stop : Stop)
        → Err stop ≡ answered_or stalled outcome → ((spec : Spec) (fault : PipeFault)
        → (((max_packet spec ≡ t.max) ⊎ (wanted ≤ 8)) → FailsForSpec given fault spec) → So
        (unwrap_or (stop_of fault) (Refused stalled)) spec) → FailureReason (So stop) t old new
    stop_explains So stalled stop is f = grind (arith, failure_explains)

    pub request_refused : (wrong : Spec → Option Cause) (stalled : Cause) (stop : Stop)
        → Err stop ≡ answered_or stalled outcome
        → ((spec : Spec) → given spec ≡ None → wrong spec ≡ Some stalled)
        → FailureReason (Refuses t wrong stop) t old new
    request_refused wrong stalled stop is f = stop_explains (Refuses t wrong) stalled stop is
        (grind arith)
