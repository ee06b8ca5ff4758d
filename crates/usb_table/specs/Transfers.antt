-- What transfers to the devices of the table leave.
use Rattle.usb_device.specs.{Location, State}
use Rattle.std.specs.Prelude.{◌≡◌, ⊤, ℕ, ◌*◌, List, length, Bool, true, false, Option}
use Rattle.std.specs.Prelude.{Some, None, Result, Ok, Err, IfSome, MatchResult}
use Rattle.std.specs.Global.{Vec}
use Rattle.std.specs.Int.{div_ceil}
use Rattle.arrayvec.specs.ArrayVec.{ArrayVec}
use Rattle.usb_world.specs.{BusFault, EachWas, World, AttemptsWithin, HasFault, IsSettled}
use Rattle.usb_transfer.specs.{AttemptsMade, transaction_bound, FaultAfter, write_bound, PipeState}
use Rattle.usb_transfer.specs.{pipe_made, Sends, Receives, Clears, Interrupt, Polls, PipeFault}
use Rattle.usb_transfer.specs.{PipePolls, needs_clear}
use Rattle.usb_transfer.specs.declared.fault.PipeFault.TheVariants as pipe
use Rattle.usb_hub.specs.{KeepsAddresses, KeepsAll, TouchesNoPort}
use Rattle.usb_table.specs.declared.fault.TransferFault.{TransferFault}
use Rattle.usb_table.specs.declared.fault.TransferFault.TheVariants.{NoDevice, NoEndpoint, Stalled}
use Rattle.usb_table.specs.declared.fault.TransferFault.TheVariants.{Busy, NoAnswer, Broken}
use Rattle.usb_table.specs.declared.fault.TableFault.{TableFault}
use Rattle.usb_table.specs.declared.fault.TableFault.TheVariants.{Transfer, Bus, Memory}
use Rattle.usb_table.specs.declared.choice.EndpointChoice.{EndpointChoice}
use Rattle.usb_table.specs.declared.function_pipes.FunctionPipes.{FunctionPipes}
use Rattle.usb_table.specs.declared.pipes.Pipes.{Pipes}
use Rattle.usb_table.specs.declared.pipes.Pipes.TheVariants.{Hub, Function, Absent}
use Rattle.usb_table.specs.PipeRows.{clear_miss, clears_miss, first_pipe, first_unclear, pipe_to}
use Rattle.usb_table.specs.PipeRows.{polls_miss, polls_through, receives_miss, receives_through}
use Rattle.usb_table.specs.PipeRows.{sends_miss, sends_through, with_rest}

-- a pipe's fault as the table's
abbrev pub of_pipe : PipeFault → TableFault
of_pipe pipe.Stalled = Transfer Stalled
of_pipe pipe.Busy = Transfer Busy
of_pipe pipe.NoAnswer = Transfer NoAnswer
of_pipe pipe.Broken = Transfer Broken
of_pipe (pipe.Bus fault) = Bus fault
of_pipe pipe.Memory = Memory

-- and its answer
abbrev pub table_answer : {A : Type 0} → Result A PipeFault → Result A TableFault
table_answer (Ok answer) = Ok answer
table_answer (Err fault) = Err (of_pipe fault)

-- nothing was tried, and the pipe or the pipes are as they were
abbrev pub NotTried : {A P : Type 0} → TransferFault → P → World → Result A TableFault → P → World
    → Type 0
NotTried fault pipe old result left new =
    (result ≡ Err (Transfer fault)) × (left ≡ pipe) × (new ≡ old)

-- the bus tells its fault
abbrev pub TableFaultAllowed : TableFault → World → Type 0
TableFaultAllowed (Transfer fault) w = ⊤
TableFaultAllowed (Bus fault) w = HasFault fault w
TableFaultAllowed Memory w = ⊤

-- over any bus: a fault of the bus is the one that it reported last
abbrev pub TransferTold : {A : Type 0} → Result A TableFault → Option BusFault → Type 0
TransferTold (Ok done) last = ⊤
TransferTold (Err (Transfer fault)) last = ⊤
TransferTold (Err (Bus fault)) last = last ≡ Some fault
TransferTold (Err Memory) last = ⊤

-- a packet that came took an attempt, and so did each fault but the bus's own
abbrev pub PollTook : World → Result (Option (ArrayVec ℕ)) PipeFault → World → Type 0
PollTook old result new = MatchResult result (λ got. IfSome got (λ packet. AttemptsMade 1 old new))
    (λ fault. FaultAfter 0 old fault new)

-- Through one pipe

pub record SentThrough (pipe : PipeState) (bytes : List ℕ) (old : World)
    (result : Result (Unit {0}) TableFault) (left : PipeState) (new : World) : Type 0 where
  pub answer : Result (Unit {0}) PipeFault
  pub told : result ≡ table_answer answer
  pub count : AttemptsWithin (transaction_bound * div_ceil (length bytes) pipe.max) old new
  pub same : pipe_made left ≡ pipe_made pipe
  pub sends : Sends bytes pipe old answer left new

pub record ReceivedThrough (pipe : PipeState) (packets : ℕ) (old : World)
    (result : Result (Vec ℕ) TableFault) (left : PipeState) (new : World) : Type 0 where
  pub answer : Result (Vec ℕ) PipeFault
  pub told : result ≡ table_answer answer
  pub count : AttemptsWithin (transaction_bound * packets) old new
  pub same : pipe_made left ≡ pipe_made pipe
  pub receives : Receives packets pipe old answer left new

pub record ReportedThrough (pipe : PipeState) (old : World)
    (result : Result (Option (ArrayVec ℕ)) TableFault) (left : PipeState) (new : World) : Type 0
  where
    pub answer : Result (Option (ArrayVec ℕ)) PipeFault
    pub told : result ≡ table_answer answer
    pub count : AttemptsWithin transaction_bound old new
    pub same : pipe_made left ≡ pipe_made pipe
    pub polls : PipePolls pipe old answer left new

-- where the request is sent, and where it is not
pub record ClearedThrough (is_sent : Bool) (pipe : PipeState) (old : World)
    (answer : Result (Unit {0}) PipeFault) (left : PipeState) (new : World) : Type 0 where
  pub count : AttemptsWithin write_bound old new
  pub same : pipe_made left ≡ pipe_made pipe
  pub clears : Clears is_sent pipe old answer left new

-- it is sent whatever the pipe saw
pub record ClearedOfThrough (pipe : PipeState) (old : World) (result : Result (Unit {0}) TableFault)
    (left : PipeState) (new : World) : Type 0 where
  pub answer : Result (Unit {0}) PipeFault
  pub told : result ≡ table_answer answer
  pub cleared : ClearedThrough true pipe old answer left new

-- Through a pipe, if there is one

-- what a call through one pipe did
abbrev pub PipeDid : Type 0 → Type 1
PipeDid A = PipeState → World → Result A TableFault → PipeState → World → Type 0

-- or why there is none
abbrev pub ThroughIf : {A : Type 0} → PipeDid A → TransferFault → Option PipeState → World
    → Result A TableFault → Option PipeState → World → Type 0
ThroughIf So miss None old result left new = NotTried miss None old result left new
ThroughIf So miss (Some pipe) old result None new = ⊥
ThroughIf So miss (Some pipe) old result (Some left) new = So pipe old result left new

-- no pipe needs no clearing
abbrev pub ClearedBy : Option PipeState → World → Result (Unit {0}) PipeFault → Option PipeState
    → World → Type 0
ClearedBy None old answer left new = (answer ≡ Ok tt) × (left ≡ None) × (new ≡ old)
ClearedBy (Some pipe) old answer None new = ⊥
ClearedBy (Some pipe) old answer (Some left) new =
    ClearedThrough (needs_clear pipe) pipe old answer left new

-- through the pipe to the first bulk endpoint of a direction
pub record ClearedFirst (is_in : Bool) (pipes : FunctionPipes) (old : World)
    (answer : Result (Unit {0}) PipeFault) (left : FunctionPipes) (new : World) : Type 0 where
  pub rest : Option PipeState
  pub cleared : ClearedBy (first_pipe is_in pipes) old answer rest new
  pub left_is : left ≡ with_rest rest pipes

-- the second pipe is cleared where the first one was, unless it cannot be
abbrev pub ClearedAfter : Result (Unit {0}) PipeFault → Option TransferFault → Option PipeState
    → World → Result (Unit {0}) TableFault → Option PipeState → World → Type 0
ClearedAfter (Ok done) None pipe mid result left new = (answer : Result (Unit {0}) PipeFault)
    × (result ≡ table_answer answer) × ClearedBy pipe mid answer left new
ClearedAfter (Ok done) (Some why) pipe mid result left new = NotTried why pipe mid result left new
ClearedAfter (Err fault) why pipe mid result left new = (result ≡ Err (of_pipe fault))
    × (left ≡ pipe) × (new ≡ mid)

pub record ClearedInOrder (pipes : FunctionPipes) (old : World)
    (result : Result (Unit {0}) TableFault) (left : FunctionPipes) (new : World) : Type 0 where
  pub first : Result (Unit {0}) PipeFault
  pub mid : World
  pub rest_out : Option PipeState
  pub rest_in : Option PipeState
  pub out : ClearedBy (first_pipe false pipes) old first rest_out mid
  pub into : ClearedAfter first (first_unclear true pipes) (first_pipe true pipes) mid result
      rest_in new
  pub left_is : left ≡ with_rest rest_in (with_rest rest_out pipes)

abbrev pub ClearedIf : Option TransferFault → FunctionPipes → World → Result (Unit {0}) TableFault
    → FunctionPipes → World → Type 0
ClearedIf (Some why) pipes old result left new = NotTried why pipes old result left new
ClearedIf None pipes old result left new = ClearedInOrder pipes old result left new

-- the halt of the first bulk OUT endpoint, then of the first bulk IN endpoint; the first fault ends
-- it
abbrev pub ClearedInTurn : FunctionPipes → World → Result (Unit {0}) TableFault → FunctionPipes
    → World → Type 0
ClearedInTurn pipes old result left new = ClearedIf (clear_miss pipes) pipes old result left new

-- Through the pipes to what stands at a port

-- so it is of whatever is no hub
abbrev pub NotPolled : Pipes → World → Result (Option (ArrayVec ℕ)) PipeFault → Pipes → World
    → Type 0
NotPolled pipes old result left new = (result ≡ Ok None) × (left ≡ pipes) × (new ≡ old)

pub record PolledThrough (pipe : Interrupt) (old : World)
    (result : Result (Option (ArrayVec ℕ)) PipeFault) (left : Interrupt) (new : World) : Type 0
  where
    pub settled : IsSettled old.roots
    pub polls : Polls pipe old result left new

-- a hub's status endpoint is asked, and nothing else
abbrev pub PipesPolled : Pipes → World → Result (Option (ArrayVec ℕ)) PipeFault → Pipes → World
    → Type 0
PipesPolled (Hub pipe) old result left new = (rest : Interrupt) × (left ≡ Hub rest)
    × PolledThrough pipe old result rest new
PipesPolled (Function pipes) old result left new = NotPolled (Function pipes) old result left new
PipesPolled (Absent said) old result left new = NotPolled (Absent said) old result left new

-- a call goes through a pipe to a function, and leaves another one in its place
abbrev pub PipesThrough : {A : Type 0} → (FunctionPipes → Option PipeState)
    → (FunctionPipes → TransferFault) → PipeDid A → Pipes → World → Result A TableFault → Pipes
    → World → Type 0
PipesThrough pick miss So (Hub pipe) old result left new =
    NotTried NoEndpoint (Hub pipe) old result left new
PipesThrough pick miss So (Function pipes) old result left new =
    (rest : Option PipeState) × (left ≡ Function (with_rest rest pipes))
    × ThroughIf So (miss pipes) (pick pipes) old result rest new
PipesThrough pick miss So (Absent said) old result left new =
    NotTried NoDevice (Absent said) old result left new

-- bytes are sent to an OUT endpoint
abbrev pub PipesSent : EndpointChoice → Pipes → List ℕ → World → Result (Unit {0}) TableFault
    → Pipes → World → Type 0
PipesSent choice pipes bytes =
    PipesThrough (sends_through choice) (sends_miss choice) (λ p. SentThrough p bytes) pipes

-- packets are received from a bulk IN endpoint
abbrev pub PipesReceived : EndpointChoice → Pipes → ℕ → World → Result (Vec ℕ) TableFault → Pipes
    → World → Type 0
PipesReceived choice pipes packets = PipesThrough (receives_through choice)
    (receives_miss choice) (λ p. ReceivedThrough p packets) pipes

-- an interrupt IN endpoint is polled
abbrev pub PipesReported : ℕ → Pipes → World → Result (Option (ArrayVec ℕ)) TableFault → Pipes
    → World → Type 0
PipesReported endpoint =
    PipesThrough (polls_through endpoint) (polls_miss endpoint) ReportedThrough

-- the halt of an endpoint of either kind and direction is cleared
abbrev pub PipesClearedOf : ℕ → Pipes → World → Result (Unit {0}) TableFault → Pipes → World
    → Type 0
PipesClearedOf endpoint =
    PipesThrough (pipe_to endpoint) (clears_miss endpoint) ClearedOfThrough

-- over any bus: without a pipe this is told, and nothing changes; else the answer is the pipe's own
abbrev pub MovedOrRefused : {A W : Type 0} → Result PipeState TransferFault → Pipes → W
    → Result A TableFault → Pipes → W → Type 0
MovedOrRefused {A} (Ok pipe) pipes old result left new = (answer : Result A PipeFault)
    × (result ≡ table_answer answer)
MovedOrRefused (Err fault) pipes old result left new = (result ≡ Err (Transfer fault))
    × (left ≡ pipes) × (new ≡ old)

-- the halts of a function's first bulk endpoints are cleared
abbrev pub PipesCleared : Pipes → World → Result (Unit {0}) TableFault → Pipes → World → Type 0
PipesCleared (Hub pipe) old result left new = NotTried NoEndpoint (Hub pipe) old result left new
PipesCleared (Function pipes) old result left new = (rest : FunctionPipes) × (left ≡ Function rest)
    × ClearedInTurn pipes old result rest new
PipesCleared (Absent said) old result left new =
    NotTried NoDevice (Absent said) old result left new

-- a device has the description and the registers that it had
abbrev pub SameSettings : Location → State → State → Type 0
SameSettings x s v = (v.spec ≡ s.spec) × (v.registers ≡ s.registers)

-- a device has the description, the address and the configuration that it had
pub record SameDevice (x : Location) (s v : State) : Type 0 where
  pub spec : v.spec ≡ s.spec
  pub address : v.registers.address ≡ s.registers.address
  pub configuration : v.registers.configuration ≡ s.registers.configuration

-- where no address was held twice, so it is of each device that is reachable, and each was
-- reachable before
pub record KeepsSettings (old new : World) : Type 0 where
  pub same : new.shared ≡ false → EachWas SameSettings old new

-- What each leaves of the devices and ports: addresses, descriptions and registers are kept, and as
-- long as the bus is at work, nothing is
-- asked of any port, and no more is left to do than before, but by events
pub record OnlyTransfers (old new : World) : Type 0 where
  pub addresses : KeepsAddresses old new
  pub devices : KeepsSettings old new
  pub rests : new.fault ≡ None → TouchesNoPort old new
  pub backlog : new.fault ≡ None → KeepsAll old new

-- SET_INTERFACE leaves the same, but the setting that it names
pub record OnlySets (old new : World) : Type 0 where
  pub addresses : KeepsAddresses old new
  pub devices : new.shared ≡ false → EachWas SameDevice old new
  pub rests : new.fault ≡ None → TouchesNoPort old new
  pub backlog : new.fault ≡ None → KeepsAll old new
