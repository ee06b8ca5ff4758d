-- What each call does to the driver of a handle, `None` if the handle is closed, and which number
-- it returns.
use Rattle.std.specs.Prelude.{◌≡◌, ◌≢◌, ℕ, List, ◌++◌, length, take, drop, Option, Some, None}
use Rattle.std.specs.Prelude.{Result, Ok, Err, Bool, true, false, not, nat_eq, option_map}
use Rattle.std.specs.Prelude.{if◌then◌else◌}
use Rattle.std.specs.Simd.{first_chunks}
use Rattle.usb_enum.specs.{HostOptions}
use Rattle.usb_dialogue.specs.{AnswerFault, IsAnswer, answer_record, DriverState, HasNoRoots, Steps}
use Rattle.usb_dialogue.specs.{opening, driver_state, fault_number, question_bytes, IsWantOf}
use Rattle.usb_dialogue.specs.{WantFault, Answer, DriverFault, Question, Want}
use Rattle.usb_dialogue.specs.Drivers as driver
use Rattle.usb_dialogue.specs.declared.fault.DriverFault.TheVariants as fault
use Rattle.usb_host_exports.specs.declared.handle.Handle.{Handle}

-- the driver of a handle, as its callers see it
abbrev pub held_by : Handle → Option DriverState
held_by handle = option_map driver_state handle.slot.held

-- ---- what bytes have a driver do

-- the statuses of seven root ports, four bytes each
abbrev pub statuses_in : List ℕ → List (List ℕ)
statuses_in bytes = first_chunks 4 7 bytes

-- the greatest number is no limit
abbrev pub limit_in : ℕ → Option ℕ
limit_in bytes = if nat_eq bytes 4294967295 then None else Some bytes

-- whether wide hubs are taken, and how many bytes of a device
abbrev pub options_in : ℕ → ℕ → HostOptions
options_in wide bytes = record {
  wide_hubs = not (nat_eq wide 0);
  device_bytes = limit_in bytes;
}

-- why no driver is opened with these statuses
abbrev pub OpenFault : ℕ → List ℕ → DriverFault → Type 0
OpenFault roots bytes fault.Length = length bytes ≢ 28
OpenFault roots bytes fault.Roots = (length bytes ≡ 28) × HasNoRoots roots
OpenFault roots bytes fault.Memory = length bytes ≡ 28
OpenFault roots bytes fault.OutOfTurn = ⊥
OpenFault roots bytes fault.Kind = ⊥
OpenFault roots bytes fault.TooMuch = ⊥
OpenFault roots bytes fault.Number = ⊥

-- bytes are read as a want with statuses, or why they are none
abbrev pub ReadsWant : List ℕ → Result (Want × List (List ℕ)) DriverFault → Type 0
ReadsWant bytes (Ok want) = IsWantOf bytes want.0 want.1
ReadsWant bytes (Err f) = WantFault bytes f

-- what was read is begun or refused; or why nothing was read
abbrev pub BeginsRead : DriverState → Result (Want × List (List ℕ)) DriverFault
    → Result (Unit {0}) DriverFault → DriverState → Type 0
BeginsRead old (Ok want) done new = driver.Begins want.0 want.1 old done new
BeginsRead old (Err f) done new = (done ≡ Err f) × (new ≡ old)

pub record BeginsBytes (old : DriverState) (bytes : List ℕ) (done : Result (Unit {0}) DriverFault)
    (new : DriverState) : Type 0 where
  pub want : Result (Want × List (List ℕ)) DriverFault
  pub read : ReadsWant bytes want
  pub begins : BeginsRead old want done new

-- bytes are read as an answer, or why they are none
abbrev pub ReadsAnswer : List ℕ → Result Answer DriverFault → Type 0
ReadsAnswer bytes (Ok answer) = IsAnswer answer × (bytes ≡ answer_record answer)
ReadsAnswer bytes (Err f) = AnswerFault bytes f

-- what was read is taken or refused; or why nothing was read
abbrev pub AnswersRead : DriverState → Result Answer DriverFault → Result (Unit {0}) DriverFault
    → DriverState → Type 0
AnswersRead old (Ok answer) done new = driver.AnswersQuestion answer old done new
AnswersRead old (Err f) done new = (done ≡ Err f) × (new ≡ old)

pub record AnswersBytes (old : DriverState) (bytes : List ℕ)
    (done : Result (Unit {0}) DriverFault) (new : DriverState) : Type 0 where
  pub answer : Result Answer DriverFault
  pub read : ReadsAnswer bytes answer
  pub answers : AnswersRead old answer done new

-- the same of the answer to a row of INs
abbrev pub RowRead : DriverState → List ℕ → Result Answer DriverFault
    → Result (Unit {0}) DriverFault → DriverState → Type 0
RowRead old before (Ok answer) done new = driver.AnswersRow before answer old done new
RowRead old before (Err f) done new = (done ≡ Err f) × (new ≡ old)

pub record RowBytes (old : DriverState) (before bytes : List ℕ)
    (done : Result (Unit {0}) DriverFault) (new : DriverState) : Type 0 where
  pub answer : Result Answer DriverFault
  pub read : ReadsAnswer bytes answer
  pub answers : RowRead old before answer done new

-- the driver's question fills the room; if there is none, or it failed, the room stays as it was
abbrev pub Puts : DriverState → List ℕ → Result Bool DriverFault → DriverState → List ℕ → Type 0
Puts old room (Ok true) new now = (question : Question)
    × ∥ Steps old (Ok (Some question)) new ∥₁ × (now ≡ question_bytes question)
Puts old room (Ok false) new now = ∥ Steps old (Ok None) new ∥₁ × (now ≡ room)
Puts old room (Err f) new now = ∥ Steps old (Err f) new ∥₁ × (now ≡ room)

-- a question is put into a room of 72 bytes, and into no other
pub record PutsQuestion (old : DriverState) (room : List ℕ) (put : Result Bool DriverFault)
    (new : DriverState) (now : List ℕ) : Type 0 where
  pub fits : length room ≡ 72 → Puts old room put new now
  pub other : length room ≢ 72 → (put ≡ Err fault.Length) × (new ≡ old) × (now ≡ room)

-- the bytes, until the room is full, and the rest of the room as it was
abbrev pub filled : List ℕ → List ℕ → List ℕ
filled bytes room = take (length room) bytes ++ drop (length bytes) room

-- ---- the exports

-- the number of what came of a call
abbrev pub done_number : Result (Unit {0}) DriverFault → ℕ
done_number (Ok done) = 0
done_number (Err f) = fault_number f

-- the number of what came of a request for the question
abbrev pub put_number : Result Bool DriverFault → ℕ
put_number (Ok true) = 0
put_number (Ok false) = 1
put_number (Err f) = fault_number f

-- the number of why a handle stays closed
pub record StaysClosed (roots : ℕ) (bytes : List ℕ) (number : ℕ) : Type 0 where
  pub fault : DriverFault
  pub cause : OpenFault roots bytes fault
  pub returned : number ≡ fault_number fault

abbrev pub Opens : Option DriverState → ℕ → HostOptions → List ℕ → ℕ → Option DriverState
    → Type 0
Opens (Some old) roots options bytes number new = (number ≡ 41) × (new ≡ Some old)
Opens None roots options bytes number (Some new) = (number ≡ 0) × (length bytes ≡ 28)
    × (new ≡ opening roots options (statuses_in bytes))
Opens None roots options bytes number None = StaysClosed roots bytes number

-- a call of an open handle, which stays open
pub record Begun (old : DriverState) (bytes : List ℕ) (number : ℕ) (new : DriverState)
    : Type 0 where
  pub done : Result (Unit {0}) DriverFault
  pub begins : BeginsBytes old bytes done new
  pub returned : number ≡ done_number done

pub record Asked (old : DriverState) (room : List ℕ) (number : ℕ) (new : DriverState)
    (now : List ℕ) : Type 0 where
  pub put : Result Bool DriverFault
  pub puts : PutsQuestion old room put new now
  pub returned : number ≡ put_number put

pub record Answered (old : DriverState) (bytes : List ℕ) (number : ℕ) (new : DriverState)
    : Type 0 where
  pub done : Result (Unit {0}) DriverFault
  pub answers : AnswersBytes old bytes done new
  pub returned : number ≡ done_number done

pub record RowAnswered (old : DriverState) (before bytes : List ℕ) (number : ℕ)
    (new : DriverState) : Type 0 where
  pub done : Result (Unit {0}) DriverFault
  pub answers : RowBytes old before bytes done new
  pub returned : number ≡ done_number done

abbrev pub Begins : Option DriverState → List ℕ → ℕ → Option DriverState → Type 0
Begins None bytes number new = (number ≡ 47) × (new ≡ None)
Begins (Some old) bytes number (Some new) = Begun old bytes number new
Begins (Some old) bytes number None = ⊥

abbrev pub Asks : Option DriverState → List ℕ → ℕ → Option DriverState → List ℕ → Type 0
Asks None room number new now = (number ≡ 47) × (new ≡ None) × (now ≡ room)
Asks (Some old) room number (Some new) now = Asked old room number new now
Asks (Some old) room number None now = ⊥

abbrev pub Answers : Option DriverState → List ℕ → ℕ → Option DriverState → Type 0
Answers None bytes number new = (number ≡ 47) × (new ≡ None)
Answers (Some old) bytes number (Some new) = Answered old bytes number new
Answers (Some old) bytes number None = ⊥

abbrev pub AnswersRow : Option DriverState → List ℕ → List ℕ → ℕ → Option DriverState → Type 0
AnswersRow None before bytes number new = (number ≡ 47) × (new ≡ None)
AnswersRow (Some old) before bytes number (Some new) = RowAnswered old before bytes number new
AnswersRow (Some old) before bytes number None = ⊥

-- the records of the call that was done last, without the first `skip` bytes
abbrev pub Copies : Option DriverState → ℕ → List ℕ → ℕ → List ℕ → Type 0
Copies None skip room count now = (count ≡ 0) × (now ≡ room)
Copies (Some held) skip room count now = (count ≡ length held.told)
    × (now ≡ filled (drop skip held.told) room)

abbrev pub Closes : Option DriverState → ℕ → Option DriverState → Type 0
Closes None number new = (number ≡ 47) × (new ≡ None)
Closes (Some old) number new = (number ≡ 0) × (new ≡ None)
