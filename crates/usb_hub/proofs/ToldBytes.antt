-- What was told of an answer that is to have so many bytes.
use Rattle.usb_device.specs.{Location, Spec, State, status_bytes, outcome}
use Rattle.std.proofs.Common.{if◌then◌else◌, ◌≡◌, inr, ℕ, ◌==◌, ◌≤◌, Bool, true, false, List}
use Rattle.std.proofs.Common.{length, take, Option, None, Some, Result, Ok, Err, refl, ap, sym, ◌∙◌}
use Rattle.std.proofs.Common.{arith}
use Rattle.std.specs.Global.{Vec}
use Rattle.usb_request.specs.{get_status}
use Rattle.usb_port.specs.{has_bit}
use Rattle.usb_world.specs.{World, EachWas}
use Rattle.usb_world.proofs.Interface.{each_wider}
use Rattle.usb_transfer.specs.{Target, is_at, NoThreeDamaged, PipeFault}
use Rattle.usb_transfer.specs.declared.fault.PipeFault.TheVariants.{Stalled}
use Rattle.usb_hub.specs.{DeviceStatus, unless_refused, status_given, HasText, TextAsked}
use Rattle.usb_hub.specs.{StatusAsked, ReadFailure, ReadAs, said_in, device_status}
use Rattle.usb_hub.proofs.GivenAnswers.{AnswersRequest, text_asked_of, why_asked_of}

abbrev said_by : {A : Type 0} → (List ℕ → A) → Bool → Vec ℕ → Result A PipeFault
said_by read b bytes = if b then Ok (read bytes.items) else Err Stalled

pub record IsReadFrom {A : Type 0} (read : List ℕ → A) (answer : Result (Vec ℕ) PipeFault) (x : A) :
    Type 0 where
  pub bytes : Vec ℕ
  pub is : answer ≡ Ok bytes
  pub read_so : x ≡ read bytes.items

said_if : {A : Type 0} (read : List ℕ → A) (b : Bool) (bytes : Vec ℕ) (x : A)
    → Ok x ≡ said_by read b bytes → IsReadFrom read (Ok bytes) x
said_if read true bytes x told = record { bytes = bytes; is = refl; read_so = cc }
said_if read false bytes x told = absurd cc

-- what was told was read
pub said : {A : Type 0} (read : List ℕ → A) (size : ℕ) (answer : Result (Vec ℕ) PipeFault) (x : A)
    → Ok x ≡ said_in read size answer → IsReadFrom read answer x
said read size (Ok bytes) x told = search said_if
said read size (Err fault) x told = absurd cc

-- where another length came, a stall was told
fault_if : {A : Type 0} (read : List ℕ → A) (b : Bool) (bytes : Vec ℕ) (why : PipeFault)
    → Err why ≡ said_by read b bytes → (why ≡ Stalled) × (b ≡ false)
fault_if read b bytes why told = grind arith

-- what failed was not read, or had another length
pub data SaidFault (size : ℕ) (answer : Result (Vec ℕ) PipeFault) (why : PipeFault) : Type 0 where
  failed : answer ≡ Err why → SaidFault size answer why
  other_length : why ≡ Stalled → (bytes : Vec ℕ) → answer ≡ Ok bytes → (length bytes.items == size)
      ≡ false → SaidFault size answer why

pub said_fault : {A : Type 0} (read : List ℕ → A) (size : ℕ) (answer : Result (Vec ℕ) PipeFault)
    (why : PipeFault) → Err why ≡ said_in read size answer → SaidFault size answer why
said_fault read size (Ok bytes) why told = let x : _ =
    fault_if read (length bytes.items == size) bytes why told in other_length x.0 bytes refl x.1
said_fault read size (Err fault) why told = failed cc

-- The status of a device (9.4.5)

abbrev status_text : Spec → Option (List ℕ)
status_text spec = unless_refused spec.stalls.status (Some (status_bytes spec))

get_status-outcome : AnswersRequest status_text get_status
unfolding outcome get_status
get_status-outcome = grind arith

-- the two bytes say what the status says
status_text-length : (spec : Spec) (text : List ℕ) → status_text spec ≡ Some text
    → (length text ≡ 2) × (take 2 text ≡ text) × (status_given spec ≡ Some (device_status text))
unfolding has_bit
status_text-length spec text e = grind arith

module _ (t : Target) (answer : Result (Vec ℕ) PipeFault) (result : Result DeviceStatus PipeFault)
    (told : result ≡ said_in device_status 2 answer) where
  status_leaves : (j : Location) (s v : State) → TextAsked status_text t 2 answer j s v
      → StatusAsked t result j s v
  status_leaves j s v x = record {
    others = x.others;
    frame = x.frame;
    done = λ at status e.
        let r : IsReadFrom device_status answer status =
        said device_status 2 answer status (sym e ∙ told) in
        let given : HasText (status_text s.spec) t 2 s r.bytes.items = x.done at r.bytes r.is in
        let two : _ = status_text-length s.spec given.text given.is in
        two.2 ∙ ap (λ y. Some (device_status y)) (sym (given.first (inr (omega arith)) ∙ two.1))
        ∙ ap Some (sym r.read_so);
    stalled = λ at e. none at (said_fault device_status 2 answer Stalled (sym e ∙ told));
    could = grind arith;
  }
    where
      none : is_at s t ≡ true → SaidFault 2 answer Stalled → status_given s.spec ≡ None
      none at (failed e) = grind arith
      none at (other_length e bytes is differ) =
          let given : HasText (status_text s.spec) t 2 s bytes.items = x.done at bytes is in
          grind arith

pub status_asked : (t : Target) (result : Result DeviceStatus PipeFault) (old new : World)
    → ReadAs device_status t get_status old result new → new.shared ≡ false
    → EachWas (StatusAsked t result) old new
unfolding get_status
status_asked t result old new told single =
    each_wider (TextAsked status_text t 2 told.answer) (StatusAsked t result)
    (status_leaves t told.answer result told.told) old new
    (text_asked_of status_text t get_status get_status-outcome (omega arith) told.answer old new
    (omega arith) told.asked single)

pub device_status_why : (t : Target) (result : Result DeviceStatus PipeFault) (old new : World)
    → ReadAs device_status t get_status old result new → NoThreeDamaged old → 8 ≤ t.max
    → new.shared ≡ false → EachWas (ReadFailure t 2 result) old new
unfolding get_status
device_status_why t result old new told three least single =
    each_wider (ReadFailure t 2 told.answer) (ReadFailure t 2 result)
    (grind arith) old new
    (why_asked_of status_text t get_status get_status-outcome (omega arith) told.answer old new
    (omega arith) told.asked three least single)
