-- One device over a transaction: what it was before, seen from where it is reachable after it.
use Rattle.std.specs.Prelude.{◌≡◌, ◌≢◌, ◌⊎◌, ◌==◌, ◌≤◌, ℕ, ◌+◌, List, length, Bool, true, false}
use Rattle.std.specs.Prelude.{Option, None, Some, Result, Ok, Err, ⊤, not}
use Rattle.usb_packet.specs.{Toggle, One, other}
use Rattle.usb_port.specs.{PortState}
use Rattle.usb_request.specs.{setup_of}
use Rattle.usb_device.specs.{Spec, next_place, tells_changes, status_number, status_length}
use Rattle.usb_device.specs.{hub_ports, change_bits, change_bytes, told_bits, asked_by_setup, State}
use Rattle.usb_device.specs.{accepted, ending, reading, refused as stage_refused, toggle_at, Ports}
use Rattle.usb_device.specs.{full, acted, row_of, Location, place_on, ReadingAt, ReadOn, StatusOn}
use Rattle.usb_device.specs.{StatusGiven, IsRead, IsSource, SourceAt, SourceOn, IsSink, SinkAt}
use Rattle.usb_device.specs.{Joined, PollAt, NeverTold, ToldByte, OnlyControl, OnlyStage}
use Rattle.usb_device.specs.{OnlySource, OnlySink, OnlyChanges, Stage, writing, is_done, in_end}
use Rattle.usb_device.specs.{out_end, IsPrompt, next_packet, Pace}
use Rattle.usb_world.specs.{Attempt, Outcome, World, HolderIn, at_attempt, attempt, after}
use Rattle.usb_world.specs.{address_of}
use Rattle.usb_transfer.specs.declared.target.Target.{Target}
use Rattle.usb_transfer.specs.declared.trans_fault.TransFault.{TransFault}
use Rattle.usb_transfer.specs.declared.trans_fault.TransFault.TheVariants.{Stalled, Busy, NoAnswer}
use Rattle.usb_transfer.specs.declared.trans_fault.TransFault.TheVariants.{Bus}
use Rattle.usb_transfer.specs.AttemptLogs.{AttemptLog}
use Rattle.usb_transfer.specs.Transactions.{in_attempt, setup_attempt}

-- the call did not end because the bus gave up
abbrev pub IsNotOfBus : {A : Type 0} → Result A TransFault → Type 0
IsNotOfBus (Ok x) = ⊤
IsNotOfBus (Err Stalled) = ⊤
IsNotOfBus (Err Busy) = ⊤
IsNotOfBus (Err NoAnswer) = ⊤
IsNotOfBus (Err (Bus fault)) = ⊥

abbrev pub is_at : State → Target → Bool
is_at s t = address_of s == t.addr

-- a device of this description may answer endpoint 0 so: data and STALL come of none that is silent
-- or always busy, and a wait of none that is silent
abbrev pub CanAnswer : {A : Type 0} → Spec → Result A TransFault → Type 0
CanAnswer spec (Ok x) = (spec.silent ≡ false) × (spec.busy ≡ false)
CanAnswer spec (Err Stalled) = (spec.silent ≡ false) × (spec.busy ≡ false)
CanAnswer spec (Err Busy) = spec.silent ≡ false
CanAnswer spec (Err NoAnswer) = ⊤
CanAnswer spec (Err (Bus fault)) = ⊤

-- setup data are acknowledged, or nothing is heard
abbrev pub CanAccept : {A : Type 0} → Spec → Result A TransFault → Type 0
CanAccept spec (Ok x) = spec.silent ≡ false
CanAccept spec (Err Stalled) = ⊥
CanAccept spec (Err Busy) = ⊥
CanAccept spec (Err NoAnswer) = ⊤
CanAccept spec (Err (Bus fault)) = ⊤

-- where the bus gave up, the next packet came to it and was acknowledged, and the host did not get
-- it; or none came
pub data ReadCut (answer : List ℕ) (wanted n : ℕ) (v : State) : Type 0 where
  none_came : ReadingAt answer wanted n v → ReadCut answer wanted n v
  one_came : ReadingAt answer wanted (n + 1) v → ReadCut answer wanted n v

abbrev pub ReadEnds : List ℕ → ℕ → ℕ → State → Result (List ℕ) TransFault → State → Type 0
ReadEnds answer wanted n s (Ok bytes) v = ReadOn answer wanted n s (Some bytes) v
ReadEnds answer wanted n s (Err Stalled) v = ReadOn answer wanted n s None v
ReadEnds answer wanted n s (Err Busy) v = ReadOn answer wanted n s None v
ReadEnds answer wanted n s (Err NoAnswer) v = ReadOn answer wanted n s None v
ReadEnds answer wanted n s (Err (Bus fault)) v = ReadCut answer wanted n v

abbrev pub StatusEnds : Option ℕ → State → Result (List ℕ) TransFault → State → Type 0
StatusEnds a s (Ok bytes) v = StatusOn a s (Some bytes) v
StatusEnds a s (Err Stalled) v = StatusOn a s None v
StatusEnds a s (Err Busy) v = StatusOn a s None v
StatusEnds a s (Err NoAnswer) v = StatusOn a s None v
StatusEnds a s (Err (Bus fault)) v = StatusGiven a s v

-- IN of endpoint 0 gets STALL: the request is refused, or not all bytes of a control write have
-- come, or they are not kept
abbrev pub refuses_in : Stage → Bool
refuses_in stage_refused = true
refuses_in (writing w) = not (is_done w)
refuses_in stage = false

-- IN of endpoint 0, by a host that awaits a toggle (8.5.3)
pub record ControlIn (t : Target) (awaited : Toggle) (result : Result (List ℕ) TransFault)
    (x : Location) (s v : State) : Type 0 where
  pub others : is_at s t ≡ false → v ≡ s
  pub frame : OnlyControl s v
  pub reading : is_at s t ≡ true → (answer : List ℕ) (wanted n : ℕ) → awaited ≡ toggle_at n
      → ReadingAt answer wanted n s → ReadEnds answer wanted n s result v
  pub status : is_at s t ≡ true → awaited ≡ One → (a : Option ℕ) → s.stage ≡ ending a
      → StatusEnds a s result v
  pub refused : s.stage ≡ stage_refused → (v.stage ≡ stage_refused)
      × (is_at s t ≡ true → (bytes : List ℕ) → result ≡ Ok bytes → ⊥)
  pub rests : s.stage ≡ stage_refused → v.registers ≡ s.registers
  pub failed : awaited ≡ One → (fault : TransFault) → result ≡ Err fault → IsNotOfBus result
      → v.registers ≡ s.registers
  pub stalled : is_at s t ≡ true → result ≡ Err Stalled → refuses_in s.stage ≡ true
  pub could : is_at s t ≡ true → CanAnswer s.spec result
  pub naks : v.naks ≤ s.naks

-- in the data stage or the status stage of a control read, or behind it
pub data IsInRead (s : State) : Type 0 where
  data_stage : (answer : List ℕ) (wanted known : ℕ) → s.stage ≡ reading answer wanted known
      → IsInRead s
  over : IsRead s → IsInRead s

-- OUT of no bytes to endpoint 0 with DATA1, which ends a control read (8.5.3)
pub record ReadStatus (t : Target) (result : Result (List ℕ) TransFault) (x : Location)
    (s v : State) : Type 0 where
  pub others : is_at s t ≡ false → v ≡ s
  pub frame : OnlyStage s v
  pub kept : (v.stage ≡ s.stage) ⊎ IsRead v
  pub done : is_at s t ≡ true → (bytes : List ℕ) → result ≡ Ok bytes → IsRead v × IsInRead s
  pub stalled : is_at s t ≡ true → IsInRead s → result ≢ Err Stalled
  pub could : is_at s t ≡ true → CanAnswer s.spec result
  pub naks : v.naks ≤ s.naks

-- where the bus gave up, the next packet came to it and was acknowledged, and the host did not get
-- it; or none came
pub data SourceCut (ep most got : ℕ) (awaited : Toggle) (s v : State) : Type 0 where
  none_came : SourceAt ep most got awaited v → SourceCut ep most got awaited s v
  one_came : SourceAt ep most (next_place s ep most got) (other awaited) v
      → SourceCut ep most got awaited s v

abbrev pub SourceEnds : ℕ → ℕ → ℕ → Toggle → State → Result (List ℕ) TransFault → State
    → Type 0
SourceEnds ep most got awaited s (Ok bytes) v = SourceOn ep most got awaited s (Some bytes) v
SourceEnds ep most got awaited s (Err Stalled) v = SourceOn ep most got awaited s None v
SourceEnds ep most got awaited s (Err Busy) v = SourceOn ep most got awaited s None v
SourceEnds ep most got awaited s (Err NoAnswer) v = SourceOn ep most got awaited s None v
SourceEnds ep most got awaited s (Err (Bus fault)) v = SourceCut ep most got awaited s v

-- IN of an endpoint besides endpoint 0 (5.7, 5.8)
pub record SourceIn (t : Target) (ep : ℕ) (awaited : Toggle) (result : Result (List ℕ) TransFault)
    (x : Location) (s v : State) : Type 0 where
  pub others : is_at s t ≡ false → v ≡ s
  pub frame : (most : ℕ) → IsSource ep most s → OnlySource ep s v
  pub source : is_at s t ≡ true → (most got : ℕ) → IsSource ep most s → 1 ≤ most
      → SourceAt ep most got awaited s → SourceEnds ep most got awaited s result v
  pub stalled : is_at s t ≡ true → (most : ℕ) → IsSource ep most s → result ≡ Err Stalled
      → (in_end v ep).state.halted ≡ true
  pub halted : is_at s t ≡ true → (most : ℕ) → IsSource ep most s
      → (in_end s ep).state.halted ≡ true → (v ≡ s) × ((bytes : List ℕ) → result ≡ Ok bytes → ⊥)
  pub paced : is_at s t ≡ true → (most : ℕ) → IsSource ep most s → IsPrompt (in_end s ep).pace
      → IsPrompt (in_end v ep).pace

-- between two of its attempts both ends are as far as they were
pub record SourceBetween (t : Target) (ep : ℕ) (awaited : Toggle) (x : Location) (s v : State) :
    Type 0 where
  pub others : is_at s t ≡ false → v ≡ s
  pub frame : (most : ℕ) → IsSource ep most s → OnlySource ep s v
  pub source : is_at s t ≡ true → (most got : ℕ) → IsSource ep most s → 1 ≤ most
      → SourceAt ep most got awaited s → SourceAt ep most got awaited v

-- an endpoint gives at most so many NAKs before its next packet, and before each behind it
abbrev pub IsPacedWithin : ℕ → Pace → Type 0
IsPacedWithin limit pace = (pace.naks ≤ limit) × (pace.each ≤ limit)

-- what a poll says of an endpoint that gives packets
abbrev pub SourcePollEnds : ℕ → ℕ → ℕ → Toggle → State → Result (Option (List ℕ)) TransFault → State
    → Type 0
SourcePollEnds ep most got awaited s (Ok packet) v = SourceOn ep most got awaited s packet v
SourcePollEnds ep most got awaited s (Err Stalled) v = SourceOn ep most got awaited s None v
SourcePollEnds ep most got awaited s (Err Busy) v = SourceOn ep most got awaited s None v
SourcePollEnds ep most got awaited s (Err NoAnswer) v = SourceOn ep most got awaited s None v
SourcePollEnds ep most got awaited s (Err (Bus fault)) v = SourceCut ep most got awaited s v

-- a poll of an endpoint besides endpoint 0 (5.7): NAK is an answer. Where the endpoint gives none
-- before its packets, nothing was left to give
pub record SourcePolled (t : Target) (ep : ℕ) (awaited : Toggle)
    (result : Result (Option (List ℕ)) TransFault) (x : Location) (s v : State) : Type 0 where
  pub others : is_at s t ≡ false → v ≡ s
  pub frame : (most : ℕ) → IsSource ep most s → OnlySource ep s v
  pub source : is_at s t ≡ true → (most got : ℕ) → IsSource ep most s → 1 ≤ most
      → SourceAt ep most got awaited s → SourcePollEnds ep most got awaited s result v
  pub stalled : is_at s t ≡ true → (most : ℕ) → IsSource ep most s → result ≡ Err Stalled
      → (in_end v ep).state.halted ≡ true
  pub halted : is_at s t ≡ true → (most : ℕ) → IsSource ep most s
      → (in_end s ep).state.halted ≡ true
      → (v ≡ s) × ((got : Option (List ℕ)) → result ≡ Ok got → ⊥)
  pub paced : is_at s t ≡ true → (most limit : ℕ) → IsSource ep most s
      → IsPacedWithin limit (in_end s ep).pace → IsPacedWithin limit (in_end v ep).pace
  pub empty : is_at s t ≡ true → (most : ℕ) → IsSource ep most s
      → (in_end s ep).pace.naks ≡ 0 → (in_end s ep).pace.each ≡ 0 → result ≡ Ok None
      → next_packet v ep most (in_end v ep).place ≡ None

-- what an answer says of a packet that was sent to an OUT endpoint
abbrev pub SinkEnds : ℕ → List ℕ → List ℕ → Toggle → Result (List ℕ) TransFault → State → Type 0
SinkEnds ep before bytes toggle (Ok done) v = Joined ep before bytes toggle v
SinkEnds ep before bytes toggle (Err Stalled) v = SinkAt ep before bytes toggle v
    × ((out_end v ep).state.halted ≡ true)
SinkEnds ep before bytes toggle (Err Busy) v = SinkAt ep before bytes toggle v
SinkEnds ep before bytes toggle (Err NoAnswer) v = SinkAt ep before bytes toggle v
SinkEnds ep before bytes toggle (Err (Bus fault)) v = SinkAt ep before bytes toggle v

-- OUT of an endpoint besides endpoint 0 (5.7, 5.8)
pub record SinkOut (t : Target) (ep : ℕ) (toggle : Toggle) (bytes : List ℕ)
    (result : Result (List ℕ) TransFault) (x : Location) (s v : State) : Type 0 where
  pub others : is_at s t ≡ false → v ≡ s
  pub frame : (most : ℕ) → IsSink ep most s → OnlySink ep s v
  pub sink : is_at s t ≡ true → (most : ℕ) (before : List ℕ) → IsSink ep most s
      → length bytes ≤ most → SinkAt ep before bytes toggle s
      → SinkEnds ep before bytes toggle result v
  pub halted : is_at s t ≡ true → (most : ℕ) → IsSink ep most s
      → (out_end s ep).state.halted ≡ true → (v ≡ s) × ((done : List ℕ) → result ≡ Ok done → ⊥)
  pub paced : is_at s t ≡ true → (most : ℕ) → IsSink ep most s → IsPrompt (out_end s ep).pace
      → IsPrompt (out_end v ep).pace

-- between two of its attempts the packet joined what the device took, or did not yet
pub record SinkBetween (t : Target) (ep : ℕ) (toggle : Toggle) (bytes : List ℕ) (x : Location)
    (s v : State) : Type 0 where
  pub others : is_at s t ≡ false → v ≡ s
  pub frame : (most : ℕ) → IsSink ep most s → OnlySink ep s v
  pub sink : is_at s t ≡ true → (most : ℕ) (before : List ℕ) → IsSink ep most s
      → length bytes ≤ most → SinkAt ep before bytes toggle s → SinkAt ep before bytes toggle v

-- the hub's ports told these bits when one of the attempts of a poll was made, and since then the
-- same was attempted, and nothing else
pub record ToldIn (a : Attempt) (old new : World) (x : Location) (bits : ℕ) : Type 0 where
  pub outcomes : List Outcome
  pub mid : World
  pub trail : AttemptLog a old outcomes mid
  pub b : PortState
  pub s : State
  pub below : Ports
  pub stood : place_on (at_attempt mid).roots x ≡ Some (full b s below)
  pub told : bits ≡ change_bits (hub_ports s.spec.hub) (row_of below)
  pub later : List Outcome
  pub since : AttemptLog a mid later new

-- and the events that were due when it was made have come
pub record ToldSince (a : Attempt) (old new : World) (x : Location) (bits : ℕ) : Type 0 where
  pub told : ToldIn a old new x bits
  pub came : (at_attempt told.mid).taken ≤ new.taken

-- up to the end of a poll that is done; where it failed, up to some moment of it
abbrev pub ToldBy : Attempt → World → Result (Option (List ℕ)) TransFault → World → Location → ℕ
    → Type 0
ToldBy a old (Ok got) new x bits = ToldSince a old new x bits
ToldBy a old (Err fault) new x bits = (now : World) × ToldIn a old now x bits

-- so it is of bits of which one at least is set, and which the bytes of so many ports tell again
abbrev pub ToldSome : ℕ → (ℕ → Type 0) → ℕ → Type 0
ToldSome ports Told bits = (bits ≢ 0) × (told_bits (change_bytes ports bits) ≡ bits) × Told bits

-- where the bus gave up, a byte came to it and was acknowledged, and the host did not get it; or
-- none came
pub data PollCut (ports : ℕ) (Told : ℕ → Type 0) (toggle : Toggle) (v : State) : Type 0 where
  none_came : PollAt (ToldSome ports Told) toggle v → PollCut ports Told toggle v
  one_came : PollAt NeverTold (other toggle) v → PollCut ports Told toggle v

abbrev pub PollEnds : ℕ → (ℕ → Type 0) → Toggle → Result (Option (List ℕ)) TransFault → State
    → Type 0
PollEnds ports Told toggle (Ok None) v = Told 0 × PollAt NeverTold toggle v
PollEnds ports Told toggle (Ok (Some bytes)) v = ToldByte (ToldSome ports Told) toggle bytes v
PollEnds ports Told toggle (Err Stalled) v = PollAt (ToldSome ports Told) toggle v
    × (v.changes.halted ≡ true)
PollEnds ports Told toggle (Err Busy) v = PollAt (ToldSome ports Told) toggle v
PollEnds ports Told toggle (Err NoAnswer) v = PollAt (ToldSome ports Told) toggle v
PollEnds ports Told toggle (Err (Bus fault)) v = PollCut ports Told toggle v

-- the endpoint is the status endpoint of a hub that has a configuration, and its packets are no
-- longer than the target's maximum (11.12.1, 11.12.4)
pub record IsStatusEndpoint (t : Target) (ep : ℕ) (s : State) : Type 0 where
  pub number : ep ≡ status_number s.spec s.registers
  pub tells : tells_changes s.spec s.registers ≡ true
  pub fits : status_length (hub_ports s.spec.hub) ≤ t.max

-- a poll of a hub's status endpoint (11.12.3)
pub record ChangesIn (t : Target) (ep : ℕ) (toggle : Toggle) (old : World)
    (result : Result (Option (List ℕ)) TransFault) (new : World) (x : Location) (s v : State) :
    Type 0 where
  pub others : is_at s t ≡ false → v ≡ s
  pub frame : IsStatusEndpoint t ep s → OnlyChanges s v
  pub poll : is_at s t ≡ true → IsStatusEndpoint t ep s → PollAt NeverTold toggle s
      → PollEnds (hub_ports s.spec.hub) (ToldBy (in_attempt t ep) old result new x) toggle result v

-- A device accepted setup data in the attempt that left this world: it alone held the address, it
-- is what the request makes, with the ports it had there, of what it
-- was before the transaction, and what the request asks of its ports is done (8.5.3, 11.24.2)
pub record AcceptedAt (t : Target) (bytes : List ℕ) (old now : World) (x : Location) (s v : State) :
    Type 0 where
  pub outcomes : List Outcome
  pub mid : World
  pub trail : AttemptLog (setup_attempt t bytes) old outcomes mid
  pub last : now ≡ after (attempt (setup_attempt t bytes)) mid
  pub holder : HolderIn (setup_attempt t bytes) mid
  pub there : holder.spot ≡ x
  pub is : v ≡ accepted s (row_of holder.below) (setup_of bytes)
  pub left : place_on now.roots x ≡ Some
      (full holder.port v (acted (asked_by_setup s (setup_of bytes)) holder.below))

-- so it was at one of the attempts
pub record AcceptedSince (t : Target) (bytes : List ℕ) (old : World) (x : Location) (s v : State) :
    Type 0 where
  pub now : World
  pub at : AcceptedAt t bytes old now x s v

-- SETUP (8.5.3): where it is done, its last attempt was accepted
pub record SetupDone (t : Target) (bytes : List ℕ) (result : Result (List ℕ) TransFault)
    (old new : World) (x : Location) (s v : State) : Type 0 where
  pub others : is_at s t ≡ false → v ≡ s
  pub kept : (v ≡ s) ⊎ AcceptedSince t bytes old x s v
  pub done : is_at s t ≡ true → (got : List ℕ) → result ≡ Ok got → AcceptedAt t bytes old new x s v
  pub could : is_at s t ≡ true → CanAccept s.spec result
