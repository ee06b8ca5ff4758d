-- One device over a whole control transfer (8.5.3): what it was before, seen from where it is
-- reachable after it.
use Rattle.std.specs.Prelude.{◌≡◌, ◌≢◌, ◌⊎◌, ◌≤◌, ℕ, List, [], ◌∷◌, ◌++◌, take}
use Rattle.std.specs.Prelude.{Bool, true, false, Option, None, Some, Result, Ok, Err, ⊤}
use Rattle.std.specs.Prelude.{if◌then◌else◌}
use Rattle.arrayvec.specs.ArrayVec.{ArrayVec}
use Rattle.std.specs.Global.{Vec}
use Rattle.usb_packet.specs.{Toggle, One}
use Rattle.usb_request.specs.{Setup, bytes_of}
use Rattle.usb_port.specs.{PortState}
use Rattle.usb_device.specs.{Spec, EndpointState, ServedEndpoint, BulkOut, BulkIn, Changes, outcome}
use Rattle.usb_device.specs.{takes_address, first_stage, reading, ending, refused as stage_refused}
use Rattle.usb_device.specs.{max_packet, State, accepted, NextBytes, NothingMoved}
use Rattle.usb_device.specs.{hub_ports, change_bytes, told_bits, rested, row_of, Location, IsRead}
use Rattle.usb_device.specs.{StatusGiven, IsSink}
use Rattle.usb_device.specs.{SinkAt, IsSource, SourceAt, PollAt, NeverTold, OnlyControl, OnlyStage}
use Rattle.usb_device.specs.{OnlySink, OnlySource, OnlyChanges, in_data, in_end, out_end}
use Rattle.usb_device.specs.{next_packet}
use Rattle.usb_device.specs.{GivesOn}
use Rattle.usb_world.specs.{BusFault, one_more, World, Step, attempt, root_call, event, report}
use Rattle.usb_world.specs.{Course}
use Rattle.usb_transfer.specs.declared.target.Target.{Target}
use Rattle.usb_transfer.specs.TransactionLeaves.{is_at, ToldSince, AcceptedAt, IsPacedWithin}
use Rattle.usb_transfer.specs.TransactionLeaves.{IsStatusEndpoint}
use Rattle.usb_transfer.specs.Transactions.{in_attempt, out_attempt}
use Rattle.usb_transfer.specs.declared.condition.Condition.TheVariants.{Ready, Halted}
use Rattle.usb_transfer.specs.declared.condition.Condition.TheVariants.{Broken as BrokenPipe}
use Rattle.usb_transfer.specs.EndpointPipes.{PipeState}
use Rattle.usb_transfer.specs.InterruptPipes.{Interrupt}
use Rattle.usb_transfer.specs.declared.fault.PipeFault.{PipeFault}
use Rattle.usb_transfer.specs.declared.fault.PipeFault.TheVariants.{Stalled, Busy, NoAnswer, Broken}
use Rattle.usb_transfer.specs.declared.fault.PipeFault.TheVariants.{Bus, Memory}

-- the call did not end because the bus gave up
abbrev pub IsNoBusFault : {A : Type 0} → Result A PipeFault → Type 0
IsNoBusFault (Ok x) = ⊤
IsNoBusFault (Err Stalled) = ⊤
IsNoBusFault (Err Busy) = ⊤
IsNoBusFault (Err NoAnswer) = ⊤
IsNoBusFault (Err Broken) = ⊤
IsNoBusFault (Err (Bus fault)) = ⊥
IsNoBusFault (Err Memory) = ⊤

-- a fault that only the answers of a device make: STALL, too many NAKs and repeats, or data for
-- which there is no memory
abbrev pub IsTransferAnswer : PipeFault → Type 0
IsTransferAnswer Stalled = ⊤
IsTransferAnswer Busy = ⊤
IsTransferAnswer NoAnswer = ⊥
IsTransferAnswer Broken = ⊥
IsTransferAnswer (Bus fault) = ⊥
IsTransferAnswer Memory = ⊤

-- a device of this description may end a control transfer so: it is neither silent nor always busy
-- where the transfer is done, is refused, or finds
-- no memory, and not silent where the host waited in vain
abbrev pub CanEnd : {A : Type 0} → Spec → Result A PipeFault → Type 0
CanEnd spec (Ok x) = (spec.silent ≡ false) × (spec.busy ≡ false)
CanEnd spec (Err Stalled) = (spec.silent ≡ false) × (spec.busy ≡ false)
CanEnd spec (Err Busy) = spec.silent ≡ false
CanEnd spec (Err NoAnswer) = ⊤
CanEnd spec (Err Broken) = ⊥
CanEnd spec (Err (Bus fault)) = ⊤
CanEnd spec (Err Memory) = (spec.silent ≡ false) × (spec.busy ≡ false)

-- the device at a place accepted the request in an attempt of the call that left this world; these
-- were its ports then
pub record AcceptedIn (t : Target) (request : Setup) (old now : World) (x : Location)
    (row : List PortState) (s : State) : Type 0 where
  pub state : State
  pub at : AcceptedAt t (bytes_of request) old now x s state
  pub had : row ≡ row_of at.holder.below

-- an attempt behind a SETUP that was acknowledged: IN of endpoint 0, or OUT of no bytes with DATA1
abbrev pub IsBehind : Target → Step → World → Type 0
IsBehind t (attempt a) w = (a ≡ in_attempt t 0) ⊎ (a ≡ out_attempt t 0 One [])
IsBehind t (root_call c n) w = ⊥
IsBehind t event w = ⊥
IsBehind t (report line) w = ⊥

-- the same where the data go to the device: IN of endpoint 0, or OUT of some bytes to it
abbrev pub IsBehindData : Target → Step → World → Type 0
IsBehindData t (attempt a) w = (a ≡ in_attempt t 0) ⊎ ((toggle : Toggle) × (bytes : List ℕ)
    × (a ≡ out_attempt t 0 toggle bytes))
IsBehindData t (root_call c n) w = ⊥
IsBehindData t event w = ⊥
IsBehindData t (report line) w = ⊥

-- it did so at a moment of the call: nothing but the stages behind SETUP was attempted since
pub record Moment (t : Target) (request : Setup) (old new : World) (x : Location)
    (row : List PortState) (s : State) : Type 0 where
  pub now : World
  pub accepts : AcceptedIn t request old now x row s
  pub since : Course (IsBehind t) now new

-- the device refused the request, with its ports as they were when it accepted it
pub record WasRefused (t : Target) (request : Setup) (old new : World) (x : Location) (s : State) :
    Type 0 where
  pub row : List PortState
  pub moment : Moment t request old new x row s
  pub is : first_stage row s request.length (outcome s.spec s.registers request)
      ≡ stage_refused

-- the target's maximum is the device's, or so little is wanted that one packet holds it
abbrev pub IsMaximum : Target → ℕ → State → Type 0
IsMaximum t wanted s = (max_packet s.spec ≡ t.max) ⊎ (wanted ≤ 8)

-- the device answered a request for data, with its ports as they were when it accepted it; these
-- bytes are of that answer, from its
-- first on, and the transfer is over
pub record AnswerRead (t : Target) (request : Setup) (bytes : List ℕ) (old new : World)
    (x : Location) (s v : State) : Type 0 where
  pub row : List PortState
  pub moment : Moment t request old new x row s
  pub answer : List ℕ
  pub is : first_stage row s request.length (outcome s.spec s.registers request)
      ≡ reading answer request.length 0
  pub came : IsMaximum t request.length s → bytes ≡ take request.length answer
  pub over : IsRead v

-- a control read
pub record ReadLeaves (t : Target) (request : Setup) (result : Result (Vec ℕ) PipeFault)
    (old new : World) (x : Location) (s v : State) : Type 0 where
  pub others : is_at s t ≡ false → v ≡ s
  pub frame : OnlyStage s v
  pub done : is_at s t ≡ true → (bytes : Vec ℕ) → result ≡ Ok bytes
      → AnswerRead t request bytes.items old new x s v
  pub refused : is_at s t ≡ true → result ≡ Err Stalled → WasRefused t request old new x s
  pub could : is_at s t ≡ true → CanEnd s.spec result

-- the device did what was asked when it accepted it, the last time with these ports, and its status
-- stage was given
pub record EffectDone (t : Target) (request : Setup) (old new : World) (x : Location)
    (s v : State) : Type 0 where
  pub row : List PortState
  pub moment : Moment t request old new x row s
  pub address : Option ℕ
  pub is : first_stage row s request.length (outcome s.spec s.registers request)
      ≡ ending address
  pub given : StatusGiven address (accepted s row request) v
  pub rest : OnlyControl (accepted s row request) v

-- the device did what was asked, or did not hear of it; where the bus gave up, its status stage may
-- have been given, too
pub data EffectOrNone (t : Target) (request : Setup) (fault : PipeFault) (old : World)
    (x : Location) (s v : State) : Type 0 where
  none : OnlyControl s v → v.registers ≡ s.registers → EffectOrNone t request fault old x s v
  some : (row : List PortState) (now : World) → AcceptedIn t request old now x row s
      → OnlyControl (accepted s row request) v → v.registers ≡ (accepted s row request).registers
      → EffectOrNone t request fault old x s v
  whole : (why : BusFault) → fault ≡ Bus why → (row : List PortState) (now : World)
      → AcceptedIn t request old now x row s → OnlyControl (accepted s row request) v
      → (address : Option ℕ)
      → first_stage row s request.length (outcome s.spec s.registers request)
      ≡ ending address → StatusGiven address (accepted s row request) v
      → EffectOrNone t request fault old x s v

-- a request without data
pub record WriteLeaves (t : Target) (request : Setup) (result : Result (Unit {0}) PipeFault)
    (old new : World) (x : Location) (s v : State) : Type 0 where
  pub others : is_at s t ≡ false → v ≡ s
  pub failed : (fault : PipeFault) → result ≡ Err fault → EffectOrNone t request fault old x s v
  pub done : is_at s t ≡ true → (u : Unit {0}) → result ≡ Ok u → EffectDone t request old new x s v
  pub refused : is_at s t ≡ true → result ≡ Err Stalled → WasRefused t request old new x s
  pub could : is_at s t ≡ true → CanEnd s.spec result

-- Address losses (9.4.6)

-- a device has taken the address that it was asked to take; or it has not, and one loss more is
-- counted
pub data TookItOrLost (a : ℕ) (old new : World) (s v : State) : Type 0 where
  took : v.registers ≡ record s.registers { address = a } → new.losses ≡ old.losses
      → TookItOrLost a old new s v
  lost : v.registers ≡ s.registers → new.losses ≡ one_more old.losses → TookItOrLost a old new s v

-- a request without data counts a loss exactly where it is done, asks for an address, and the
-- device has not taken that
pub record LossesOf (t : Target) (request : Setup) (result : Result (Unit {0}) PipeFault)
    (old new : World) (x : Location) (s v : State) : Type 0 where
  pub done : is_at s t ≡ true → (u : Unit {0}) → result ≡ Ok u → (a : ℕ)
      → outcome s.spec s.registers request ≡ takes_address a → TookItOrLost a old new s v
  pub failed : is_at s t ≡ true → (why : PipeFault) → result ≡ Err why → new.losses ≡ old.losses
  pub none : is_at s t ≡ true → ((a : ℕ) → outcome s.spec s.registers request ≢ takes_address a)
      → new.losses ≡ old.losses

-- a control read counts none of a device that it asked
abbrev pub LossesKept : Target → World → World → Location → State → State → Type 0
LossesKept t old new x s v = is_at s t ≡ true → new.losses ≡ old.losses

-- Pipes to endpoints besides endpoint 0 (5.7, 5.8)

-- an OUT pipe and the endpoint at its other end: a pipe that works awaits the same toggle as
-- the endpoint, and one that was stalled
-- has an endpoint that is halted
pub record OutPipeInSync (pipe : PipeState) (s : State) : Type 0 where
  pub endpoint : IsSink pipe.ep pipe.max s
  pub level : pipe.condition ≡ Ready → (out_end s pipe.ep).state.toggle ≡ pipe.toggle
  pub halted : pipe.condition ≡ Halted → (out_end s pipe.ep).state.halted ≡ true

-- what is known of a pipe: one at which the bus gave up is as good as broken
abbrev pub pipe_known : {A : Type 0} → Result A PipeFault → PipeState → PipeState
pipe_known (Ok x) pipe = pipe
pipe_known (Err Stalled) pipe = pipe
pipe_known (Err Busy) pipe = pipe
pipe_known (Err NoAnswer) pipe = pipe
pipe_known (Err Broken) pipe = pipe
pipe_known (Err (Bus fault)) pipe = record pipe { condition = BrokenPipe }
pipe_known (Err Memory) pipe = pipe

-- a front of the bytes joined what the endpoint took, once
pub record FrontTaken (bytes before after : List ℕ) : Type 0 where
  pub front : List ℕ
  pub rest : List ℕ
  pub split : bytes ≡ front ++ rest
  pub sink : after ≡ before ++ front

-- at a moment of a send: the bytes before the packet that is on its way joined what the device
-- took, and the packet joined them or did not yet
pub record SendingLeaves (sent packet : List ℕ) (toggle : Toggle) (pipe : PipeState) (x : Location)
    (s v : State) : Type 0 where
  pub others : is_at s pipe.target ≡ false → v ≡ s
  pub frame : IsSink pipe.ep pipe.max s → OnlySink pipe.ep s v
  pub way : is_at s pipe.target ≡ true → pipe.condition ≡ Ready → OutPipeInSync pipe s
      → SinkAt pipe.ep ((out_end s pipe.ep).sink ++ sent) packet toggle v

pub record SendLeaves (bytes : List ℕ) (pipe : PipeState) (result : Result (Unit {0}) PipeFault)
    (left : PipeState) (x : Location) (s v : State) : Type 0 where
  pub others : is_at s pipe.target ≡ false → v ≡ s
  pub frame : IsSink pipe.ep pipe.max s → OnlySink pipe.ep s v
  pub fits : is_at s pipe.target ≡ true → OutPipeInSync pipe s
      → OutPipeInSync (pipe_known result left) v
  pub done : is_at s pipe.target ≡ true → OutPipeInSync pipe s → (u : Unit {0}) → result ≡ Ok u
      → (out_end v pipe.ep).sink ≡ (out_end s pipe.ep).sink ++ bytes
  pub failed : is_at s pipe.target ≡ true → OutPipeInSync pipe s → (fault : PipeFault)
      → result ≡ Err fault
      → FrontTaken bytes (out_end s pipe.ep).sink (out_end v pipe.ep).sink

-- an IN pipe that has got what stands before a place, and the endpoint at its other end
pub record InPipeInSync (pipe : PipeState) (got : ℕ) (s : State) : Type 0 where
  pub endpoint : IsSource pipe.ep pipe.max s
  pub level : pipe.condition ≡ Ready → SourceAt pipe.ep pipe.max got pipe.toggle s
  pub halted : pipe.condition ≡ Halted → (in_end s pipe.ep).state.halted ≡ true

-- the bytes that came with an answer
abbrev pub came_with : Result (Vec ℕ) PipeFault → List ℕ
came_with (Ok bytes) = bytes.items
came_with (Err fault) = []

-- through a pipe that had got what stands before a place these bytes came, which are the next
-- packets; the pipe that is left has got what stands before the place behind them
pub record GaveNext (pipe : PipeState) (got : ℕ) (bytes : List ℕ) (left : PipeState)
    (s v : State) : Type 0
  where
    pub behind : ℕ
    pub came : NextBytes pipe.ep pipe.max got bytes behind s
    pub level : InPipeInSync left behind v

pub record ReceiveLeaves (pipe : PipeState) (result : Result (Vec ℕ) PipeFault) (left : PipeState)
    (x : Location) (s v : State) : Type 0 where
  pub others : is_at s pipe.target ≡ false → v ≡ s
  pub frame : IsSource pipe.ep pipe.max s → OnlySource pipe.ep s v
  pub gave : is_at s pipe.target ≡ true → (got : ℕ) → InPipeInSync pipe got s
      → GaveNext pipe got (came_with result) (pipe_known result left) s v

-- these are the next packets of the endpoint, one by one
pub record GavePackets (pipe : PipeState) (got : ℕ) (packets : List (List ℕ)) (left : PipeState)
    (s v : State) : Type 0 where
  pub behind : ℕ
  pub come : GivesOn (in_data s pipe.ep) pipe.max got packets behind
  pub level : InPipeInSync left behind v

-- the packets that came with the answer of a poll: one, or none
abbrev pub report_in : {E : Type 0} → Result (Option (ArrayVec ℕ)) E → List (List ℕ)
report_in (Ok None) = []
report_in (Ok (Some packet)) = packet.items ∷ []
report_in (Err fault) = []

-- a poll: the packet that came is the endpoint's next, and where one that does not hesitate gave
-- none, it has none left; one that is halted gives none
pub record PacketLeaves (pipe : PipeState) (result : Result (Option (ArrayVec ℕ)) PipeFault)
    (left : PipeState) (x : Location) (s v : State) : Type 0 where
  pub others : is_at s pipe.target ≡ false → v ≡ s
  pub frame : IsSource pipe.ep pipe.max s → OnlySource pipe.ep s v
  pub gave : is_at s pipe.target ≡ true → (got : ℕ) → InPipeInSync pipe got s
      → GavePackets pipe got (report_in result) (pipe_known result left) s v
  pub none : is_at s pipe.target ≡ true → IsSource pipe.ep pipe.max s
      → (in_end s pipe.ep).pace.naks ≡ 0 → (in_end s pipe.ep).pace.each ≡ 0 → result ≡ Ok None
      → next_packet v pipe.ep pipe.max (in_end v pipe.ep).place ≡ None
  pub stalled : is_at s pipe.target ≡ true → IsSource pipe.ep pipe.max s → result ≡ Err Stalled
      → (in_end v pipe.ep).state.halted ≡ true
  pub halted : is_at s pipe.target ≡ true → IsSource pipe.ep pipe.max s
      → (in_end s pipe.ep).state.halted ≡ true
      → (v ≡ s) × ((got : Option (ArrayVec ℕ)) → result ≡ Ok got → ⊥)
  pub paced : is_at s pipe.target ≡ true → (limit : ℕ) → IsSource pipe.ep pipe.max s
      → IsPacedWithin limit (in_end s pipe.ep).pace → IsPacedWithin limit (in_end v pipe.ep).pace

-- before which place stands what a pipe has got after a clear: where one was sent and is done, it
-- is the device's own
abbrev pub got_after : Bool → ℕ → Result (Unit {0}) PipeFault → ℕ → ℕ
got_after is_sent got (Ok done) place = if is_sent then place else got
got_after is_sent got (Err fault) place = got

-- an endpoint as it was, or begun again where a clear that was sent is done; where it failed,
-- either
abbrev pub BegunAgain : Bool → Result (Unit {0}) PipeFault → EndpointState → EndpointState → Type 0
BegunAgain is_sent (Ok done) before after = after ≡ (if is_sent then rested else before)
BegunAgain is_sent (Err fault) before after = (after ≡ before) ⊎ (after ≡ rested)

-- nothing but where the control transfer stands changed, and one endpoint, which may have begun
-- again: nothing moved there either
pub record OnlyEndpoint (which : ServedEndpoint) (s v : State) : Type 0 where
  pub rest : v ≡ record s {
    memory = v.memory;
    naks = v.naks;
    stage = v.stage;
    outs = v.outs;
    ins = v.ins;
    changes = v.changes;
  }
  pub moved : NothingMoved s v
  pub outs : (e : ℕ) → which ≢ BulkOut e → out_end v e ≡ out_end s e
  pub ins : (e : ℕ) → which ≢ BulkIn e → in_end v e ≡ in_end s e
  pub changes : which ≢ Changes → v.changes ≡ s.changes

-- a clear of a halt (9.4.5) moves no bytes, and both ends begin again together; each other endpoint
-- stays as it was
pub record ClearLeaves (is_sent : Bool) (pipe : PipeState) (result : Result (Unit {0}) PipeFault)
    (left : PipeState) (x : Location) (s v : State) : Type 0 where
  pub others : is_at s pipe.target ≡ false → v ≡ s
  pub sink : is_at s pipe.target ≡ true → pipe.is_in ≡ false → OutPipeInSync pipe s
      → OutPipeInSync (pipe_known result left) v
      × ((out_end v pipe.ep).sink ≡ (out_end s pipe.ep).sink)
      × BegunAgain is_sent result (out_end s pipe.ep).state (out_end v pipe.ep).state
  pub source : is_at s pipe.target ≡ true → pipe.is_in ≡ true → (got : ℕ) → InPipeInSync pipe got s
      → InPipeInSync (pipe_known result left)
      (got_after is_sent got result (in_end s pipe.ep).place) v
      × ((in_end v pipe.ep).place ≡ (in_end s pipe.ep).place)
      × BegunAgain is_sent result (in_end s pipe.ep).state (in_end v pipe.ep).state
  pub only_sink : pipe.is_in ≡ false → IsSink pipe.ep pipe.max s
      → OnlyEndpoint (BulkOut pipe.ep) s v
  pub only_source : pipe.is_in ≡ true → IsSource pipe.ep pipe.max s
      → OnlyEndpoint (BulkIn pipe.ep) s v

-- A hub's status pipe (11.12.3)

-- a hub's ports told these bits at a moment of a poll
abbrev pub ToldOf : Interrupt → World → World → Location → ℕ → Type 0
ToldOf pipe old new x bits = ToldSince (in_attempt pipe.target pipe.ep) old new x bits

-- the bytes of bits that were told, of which one at least is set
pub record ByteTold (Told : ℕ → Type 0) (bytes : List ℕ) : Type 0 where
  pub bits : ℕ
  pub some : bits ≢ 0
  pub so : Told bits
  pub is : told_bits bytes ≡ bits

abbrev pub PollTells : (ℕ → Type 0) → Result (Option (ArrayVec ℕ)) PipeFault → Type 0
PollTells Told (Ok None) = Told 0
PollTells Told (Ok (Some packet)) = ByteTold Told packet.items
PollTells Told (Err fault) = ⊤

pub record PollLeaves (pipe : Interrupt) (old : World)
    (result : Result (Option (ArrayVec ℕ)) PipeFault) (left : Interrupt) (new : World)
    (x : Location) (s v : State) : Type 0 where
  pub others : is_at s pipe.target ≡ false → v ≡ s
  pub frame : IsStatusEndpoint pipe.target pipe.ep s → OnlyChanges s v
  -- the bits are the ports' own at a moment of the poll
  pub tells : is_at s pipe.target ≡ true → IsStatusEndpoint pipe.target pipe.ep s
      → PollAt NeverTold pipe.toggle s → PollTells (ToldOf pipe old new x) result
  -- there are as many bytes as the hub's ports take (11.12.4)
  pub bytes : is_at s pipe.target ≡ true → IsStatusEndpoint pipe.target pipe.ep s
      → PollAt NeverTold pipe.toggle s → (packet : ArrayVec ℕ) → result ≡ Ok (Some packet)
      → packet.items ≡ change_bytes (hub_ports s.spec.hub) (told_bits packet.items)
  -- both ends are as far, where it did not fail
  pub level : is_at s pipe.target ≡ true → IsStatusEndpoint pipe.target pipe.ep s
      → PollAt NeverTold pipe.toggle s → (got : Option (ArrayVec ℕ)) → result ≡ Ok got
      → PollAt NeverTold left.toggle v
