-- The stages of a control transfer (8.5.3): which attempts were made, and what was heard of each.
use Rattle.std.specs.Prelude.{◌≡◌, ℕ, ◌+◌, ◌⊎◌, List, [], ◌++◌, length, take, true, false, Result}
use Rattle.std.specs.Prelude.{Ok, Err}
use Rattle.std.specs.Global.{Vec}
use Rattle.usb_packet.specs.{Toggle, One, flips}
use Rattle.usb_request.specs.{Setup, bytes_of}
use Rattle.usb_world.specs.{World}
use Rattle.usb_transfer.specs.declared.target.Target.{Target}
use Rattle.usb_transfer.specs.declared.trans_fault.TransFault.{TransFault}
use Rattle.usb_transfer.specs.HeardOutcomes.{heard_as, heard_when_sent, set_up_as}
use Rattle.usb_transfer.specs.Transactions.{setup_attempt, in_attempt, out_attempt}
use Rattle.usb_transfer.specs.AttemptLogs.{Transacted}
use Rattle.usb_transfer.specs.declared.fault.PipeFault.{PipeFault}
use Rattle.usb_transfer.specs.declared.fault.PipeFault.TheVariants.{Memory}
use Rattle.usb_transfer.specs.Control.{as_pipe_fault, ends_stage}
use Rattle.usb_transfer.specs.Moves.{AllGone, NotGone}

-- Transactions of endpoint 0

-- the eight bytes of the request are sent
abbrev pub SetUp : Target → Setup → World → Result (List ℕ) TransFault → World → Type 0
SetUp t request old answer new = Transacted set_up_as (setup_attempt t (bytes_of request)) old
    answer new

-- a packet of this toggle is asked for
abbrev pub Asks : Target → Toggle → World → Result (List ℕ) TransFault → World → Type 0
Asks t toggle old answer new = Transacted (heard_as toggle) (in_attempt t 0) old answer new

-- a packet of no bytes is sent with DATA1: the status stage of a read
abbrev pub Confirms : Target → World → Result (List ℕ) TransFault → World → Type 0
Confirms t old answer new = Transacted heard_when_sent (out_attempt t 0 One []) old answer new

-- How a transfer fails

-- at its SETUP
pub record NoSetUp (t : Target) (request : Setup) (old : World) (why : PipeFault) (new : World) :
    Type 0 where
  pub fault : TransFault
  pub told : why ≡ as_pipe_fault fault
  pub set_up : SetUp t request old (Err fault) new

-- Without data

-- a request without data: its SETUP was acknowledged, and an IN answered by DATA1
pub record Written (t : Target) (request : Setup) (old new : World) : Type 0 where
  pub mid : World
  pub set_up : SetUp t request old (Ok []) mid
  pub given : List ℕ
  pub status : Asks t One mid (Ok given) new

-- at its status stage
pub record NoStatus (t : Target) (request : Setup) (old : World) (why : PipeFault) (new : World) :
    Type 0 where
  pub mid : World
  pub set_up : SetUp t request old (Ok []) mid
  pub fault : TransFault
  pub told : why ≡ as_pipe_fault fault
  pub status : Asks t One mid (Err fault) new

abbrev pub Writes : Target → Setup → World → Result (Unit {0}) PipeFault → World → Type 0
Writes t request old (Ok done) new = Written t request old new
Writes t request old (Err why) new = NoSetUp t request old why new ⊎ NoStatus t request old why new

-- With data to the host

-- a data stage goes on over so many packets, DATA1 first and then by turns; these bytes came, and
-- none of the packets was the last
pub data Goes (t : Target) (wanted : ℕ) (old : World) : ℕ → List ℕ → World → Type 0 where
  start : Goes t wanted old 0 [] old
  packet : {n : ℕ} {got : List ℕ} {mid new : World} (bytes : List ℕ) → Goes t wanted old n got mid
      → Asks t (flips n One) mid (Ok bytes) new
      → ends_stage (length bytes) t.max (length (got ++ bytes)) wanted ≡ false
      → Goes t wanted old (n + 1) (got ++ bytes) new

-- it ended with a packet that was short, or with all that was wanted; what came past that is
-- dropped
pub record DataStage (t : Target) (wanted : ℕ) (old : World) (bytes : List ℕ) (new : World) : Type 0
  where
    pub packets : ℕ
    pub got : List ℕ
    pub mid : World
    pub before : Goes t wanted old packets got mid
    pub last : List ℕ
    pub came : Asks t (flips packets One) mid (Ok last) new
    pub kept : bytes ≡ take wanted (got ++ last)
    pub ends : ends_stage (length last) t.max (length bytes) wanted ≡ true

-- it ended with a packet that did not come
pub record DataLost (t : Target) (wanted : ℕ) (old : World) (why : PipeFault) (new : World) : Type 0
  where
    pub packets : ℕ
    pub got : List ℕ
    pub mid : World
    pub before : Goes t wanted old packets got mid
    pub fault : TransFault
    pub told : why ≡ as_pipe_fault fault
    pub lost : Asks t (flips packets One) mid (Err fault) new

-- it ended with a packet for which there was no memory
pub record NoRoom (t : Target) (wanted : ℕ) (old : World) (why : PipeFault) (new : World) : Type 0
  where
    pub packets : ℕ
    pub got : List ℕ
    pub mid : World
    pub before : Goes t wanted old packets got mid
    pub last : List ℕ
    pub told : why ≡ Memory
    pub came : Asks t (flips packets One) mid (Ok last) new

abbrev pub DataEnds : Target → ℕ → World → Result (Vec ℕ) PipeFault → World → Type 0
DataEnds t wanted old (Ok bytes) new = DataStage t wanted old bytes.items new
DataEnds t wanted old (Err why) new = DataLost t wanted old why new ⊎ NoRoom t wanted old why new

-- a request for data: its SETUP was acknowledged, the data came, and so many bytes of them as were
-- wanted; an OUT of no bytes with DATA1 was acknowledged
pub record WasRead (t : Target) (request : Setup) (old : World) (bytes : List ℕ) (new : World) :
    Type 0 where
  pub first : World
  pub set_up : SetUp t request old (Ok []) first
  pub second : World
  pub data_stage : DataStage t request.length first bytes second
  pub status : Confirms t second (Ok []) new

-- at its data stage
pub record NoData (t : Target) (request : Setup) (old : World) (why : PipeFault) (new : World) :
    Type 0 where
  pub mid : World
  pub set_up : SetUp t request old (Ok []) mid
  pub data_stage : DataLost t request.length mid why new ⊎ NoRoom t request.length mid why new

-- at its status stage
pub record NotConfirmed (t : Target) (request : Setup) (old : World) (why : PipeFault)
    (new : World) : Type 0 where
  pub first : World
  pub set_up : SetUp t request old (Ok []) first
  pub second : World
  pub bytes : List ℕ
  pub data_stage : DataStage t request.length first bytes second
  pub fault : TransFault
  pub told : why ≡ as_pipe_fault fault
  pub status : Confirms t second (Err fault) new

abbrev pub Reads : Target → Setup → World → Result (Vec ℕ) PipeFault → World → Type 0
Reads t request old (Ok bytes) new = WasRead t request old bytes.items new
Reads t request old (Err why) new = NoSetUp t request old why new ⊎ NoData t request old why new
    ⊎ NotConfirmed t request old why new

-- With data to the device

-- a request with these data: its SETUP was acknowledged, the data went, DATA1 first and then by
-- turns, and an IN was answered by DATA1
pub record WasPut (t : Target) (request : Setup) (bytes : List ℕ) (old new : World) : Type 0 where
  pub first : World
  pub set_up : SetUp t request old (Ok []) first
  pub second : World
  pub data_stage : AllGone t 0 One bytes first second
  pub given : List ℕ
  pub status : Asks t One second (Ok given) new

-- at its data stage
pub record NotPut (t : Target) (request : Setup) (bytes : List ℕ) (old : World) (why : PipeFault)
    (new : World) : Type 0 where
  pub mid : World
  pub set_up : SetUp t request old (Ok []) mid
  pub data_stage : NotGone t 0 One bytes mid why new

-- at its status stage
pub record PutUnconfirmed (t : Target) (request : Setup) (bytes : List ℕ) (old : World)
    (why : PipeFault) (new : World) : Type 0 where
  pub first : World
  pub set_up : SetUp t request old (Ok []) first
  pub second : World
  pub data_stage : AllGone t 0 One bytes first second
  pub fault : TransFault
  pub told : why ≡ as_pipe_fault fault
  pub status : Asks t One second (Err fault) new

abbrev pub PutsData : Target → Setup → List ℕ → World → Result (Unit {0}) PipeFault → World → Type 0
PutsData t request bytes old (Ok done) new = WasPut t request bytes old new
PutsData t request bytes old (Err why) new = NoSetUp t request old why new
    ⊎ NotPut t request bytes old why new ⊎ PutUnconfirmed t request bytes old why new
