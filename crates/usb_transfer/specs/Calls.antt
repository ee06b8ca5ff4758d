-- What each call tells: what was heard, what it leaves of each device, why it failed and who
-- answered.
use Rattle.usb_device.specs.{Location, State}
use Rattle.std.specs.Prelude.{◌≡◌, ◌≢◌, ◌≤◌, ℕ, List, [], length, false, Option, Result, Ok, Err}
use Rattle.std.specs.Prelude.{IfOk, IfSome, OnOk, ⊤}
use Rattle.usb_packet.specs.{Toggle, One}
use Rattle.usb_request.specs.{setup_of}
use Rattle.usb_device.specs.declared.answer.Answer.TheVariants as answer
use Rattle.usb_world.specs.{is_harmless, EachWas, Course, World}
use Rattle.usb_transfer.specs.declared.target.Target.{Target}
use Rattle.usb_transfer.specs.declared.trans_fault.TransFault.{TransFault}
use Rattle.usb_transfer.specs.declared.trans_fault.TransFault.TheVariants.{Stalled, Busy, NoAnswer}
use Rattle.usb_transfer.specs.declared.trans_fault.TransFault.TheVariants.{Bus}
use Rattle.usb_transfer.specs.Answerers.{Answerer}
use Rattle.usb_transfer.specs.HeardOutcomes.{heard_as, heard_when_sent, set_up_as}
use Rattle.usb_transfer.specs.AskedDevices.{SetupAccepted, Answered, Took, IsUnheard}
use Rattle.usb_transfer.specs.TransactionLeaves.{IsNotOfBus, ControlIn, ReadStatus, SourceIn}
use Rattle.usb_transfer.specs.TransactionLeaves.{SinkOut, ChangesIn, SetupDone, SourcePolled}
use Rattle.usb_transfer.specs.ControlWrites.{WriteOut, WriteStatusIn}
use Rattle.usb_transfer.specs.SparedDevices.{EachSpared}
use Rattle.usb_transfer.specs.AttemptLogs.{Transacted, Polled}
use Rattle.usb_transfer.specs.Transactions.{Ends, SetupEnds, packed, setup_attempt, in_attempt}
use Rattle.usb_transfer.specs.Transactions.{out_attempt}
use Rattle.usb_transfer.specs.TransactionFailures.{NoThreeDamaged, SetupFailure, ControlInFailure}
use Rattle.usb_transfer.specs.TransactionFailures.{StatusReadFailure, SourceInFailure}
use Rattle.usb_transfer.specs.TransactionFailures.{SinkOutFailure, PollFailure, SourcePollFailure}
use Rattle.usb_transfer.specs.TransactionFailures.{WriteOutFailure, WriteStatusFailure}

-- nothing but the device hindered a call: no three attempts running are damaged, the bus did not
-- give up, and no address was ever held twice
pub record IsUnhindered {A : Type 0} (old : World) (result : Result A TransFault) (new : World) :
    Type 0 where
  pub few : NoThreeDamaged old
  pub whole : IsNotOfBus result
  pub single : new.shared ≡ false

-- SETUP (8.5.3)

-- what an answer to setup data says of those who held the address: where they were acknowledged,
-- the one device took them; where
-- none was, whoever held it was out of hearing, or the attempt was damaged
abbrev pub MeansOfSetup : Target → List ℕ → World → Result (List ℕ) TransFault → World → Type 0
MeansOfSetup t bytes old (Ok done) new = new.shared ≡ false → SetupAccepted t bytes old new
MeansOfSetup t bytes old (Err Stalled) new = ⊤
MeansOfSetup t bytes old (Err Busy) new = ⊤
MeansOfSetup t bytes old (Err NoAnswer) new = Course IsUnheard old new
MeansOfSetup t bytes old (Err (Bus fault)) new = ⊤

pub record SetsUp (t : Target) (bytes : List ℕ) (old : World) (result : Result (List ℕ) TransFault)
    (new : World) : Type 0 where
  pub heard : Transacted set_up_as (setup_attempt t bytes) old result new
  pub ends : SetupEnds old result new
  pub nothing : IfOk result (λ done. done ≡ [])
  pub what : new.shared ≡ false → EachSpared t (setup_of bytes) (SetupDone t bytes result old new)
      old new
  pub why : IsUnhindered old result new → EachSpared t (setup_of bytes) (SetupFailure t result) old
      new
  pub who : OnOk result ((is_harmless (setup_of bytes) ≡ false → t.addr ≢ 0) → new.shared ≡ false
      → Answerer t old new)
  pub means : MeansOfSetup t bytes old result new

-- IN, of endpoint 0 or of a bulk endpoint

pub record InLeaves (t : Target) (ep : ℕ) (awaited : Toggle) (result : Result (List ℕ) TransFault)
    (x : Location) (s v : State) : Type 0 where
  pub control : ep ≡ 0 → ControlIn t awaited result x s v
  pub write : ep ≡ 0 → awaited ≡ One → WriteStatusIn t result x s v
  pub bulk : SourceIn t ep awaited result x s v

pub record InFailure (t : Target) (ep : ℕ) (awaited : Toggle) (result : Result (List ℕ) TransFault)
    (x : Location) (s v : State) : Type 0 where
  pub control : ep ≡ 0 → ControlInFailure t awaited result x s v
  pub write : ep ≡ 0 → awaited ≡ One → WriteStatusFailure t result x s v
  pub bulk : SourceInFailure t ep awaited result x s v

-- data that came were given by the one device that held the address, and a STALL was its own
-- (8.5.2)
abbrev pub MeansOfIn : Target → ℕ → Toggle → World → Result (List ℕ) TransFault → World → Type 0
MeansOfIn t ep awaited old (Ok bytes) new = new.shared ≡ false
    → Answered t ep (answer.Data awaited (packed bytes)) old new
MeansOfIn t ep awaited old (Err Stalled) new = new.shared ≡ false
    → Answered t ep answer.Stall old new
MeansOfIn t ep awaited old (Err Busy) new = ⊤
MeansOfIn t ep awaited old (Err NoAnswer) new = ⊤
MeansOfIn t ep awaited old (Err (Bus fault)) new = ⊤

pub record AsksIn (t : Target) (ep : ℕ) (awaited : Toggle) (old : World)
    (result : Result (List ℕ) TransFault) (new : World) : Type 0 where
  pub heard : Transacted (heard_as awaited) (in_attempt t ep) old result new
  pub ends : Ends old result new
  pub short : IfOk result (λ bytes. length bytes ≤ t.max)
  pub what : new.shared ≡ false → EachWas (InLeaves t ep awaited result) old new
  pub why : IsUnhindered old result new → EachWas (InFailure t ep awaited result) old new
  pub who : OnOk result (new.shared ≡ false → Answerer t old new)
  pub means : MeansOfIn t ep awaited old result new

-- OUT: of endpoint 0 the one that ends a control read or one of a control write, or of a bulk
-- endpoint

pub record OutLeaves (t : Target) (ep : ℕ) (toggle : Toggle) (bytes : List ℕ)
    (result : Result (List ℕ) TransFault) (x : Location) (s v : State) : Type 0 where
  pub control : ep ≡ 0 → toggle ≡ One → bytes ≡ [] → ReadStatus t result x s v
  pub write : ep ≡ 0 → WriteOut t toggle bytes result x s v
  pub bulk : SinkOut t ep toggle bytes result x s v

pub record OutFailure (t : Target) (ep : ℕ) (toggle : Toggle) (bytes : List ℕ)
    (result : Result (List ℕ) TransFault) (x : Location) (s v : State) : Type 0 where
  pub control : ep ≡ 0 → toggle ≡ One → bytes ≡ [] → StatusReadFailure t result x s v
  pub write : ep ≡ 0 → WriteOutFailure t bytes result x s v
  pub bulk : SinkOutFailure t ep toggle bytes result x s v

-- data that were acknowledged were taken by the one device that held the address, and a STALL was
-- its own (8.5.2)
abbrev pub MeansOfOut : Target → ℕ → Toggle → List ℕ → World → Result (List ℕ) TransFault → World
    → Type 0
MeansOfOut t ep toggle bytes old (Ok done) new = new.shared ≡ false
    → Took t ep toggle bytes answer.Ack old new
MeansOfOut t ep toggle bytes old (Err Stalled) new = new.shared ≡ false
    → Took t ep toggle bytes answer.Stall old new
MeansOfOut t ep toggle bytes old (Err Busy) new = ⊤
MeansOfOut t ep toggle bytes old (Err NoAnswer) new = ⊤
MeansOfOut t ep toggle bytes old (Err (Bus fault)) new = ⊤

pub record SendsOut (t : Target) (ep : ℕ) (toggle : Toggle) (bytes : List ℕ) (old : World)
    (result : Result (List ℕ) TransFault) (new : World) : Type 0 where
  pub heard : Transacted heard_when_sent (out_attempt t ep toggle bytes) old result new
  pub ends : Ends old result new
  pub nothing : IfOk result (λ done. done ≡ [])
  pub what : new.shared ≡ false → EachWas (OutLeaves t ep toggle bytes result) old new
  pub why : IsUnhindered old result new → EachWas (OutFailure t ep toggle bytes result) old new
  pub who : OnOk result (new.shared ≡ false → Answerer t old new)
  pub means : MeansOfOut t ep toggle bytes old result new

-- a poll of a hub's status endpoint (11.12.3), or of one that gives packets (5.7)

pub record PollsIn (t : Target) (ep : ℕ) (toggle : Toggle) (old : World)
    (result : Result (Option (List ℕ)) TransFault) (new : World) : Type 0 where
  pub heard : Polled toggle (in_attempt t ep) old result new
  pub ends : Ends old result new
  pub short : IfOk result (λ got. IfSome got (λ bytes. length bytes ≤ t.max))
  pub what : new.shared ≡ false → EachWas (ChangesIn t ep toggle old result new) old new
  pub why : IsUnhindered old result new → EachWas (PollFailure t ep toggle result) old new
  pub source : new.shared ≡ false → EachWas (SourcePolled t ep toggle result) old new
  pub source_why : IsUnhindered old result new → EachWas (SourcePollFailure t ep toggle result) old
      new
  pub who : OnOk result (new.shared ≡ false → Answerer t old new)
