-- How far a transfer is, as the host's end and the device's end see it: level, or the host one
-- packet ahead where the device did
-- not see its last ACK, or the device one ahead where the host did not see its own (8.6).
use Rattle.std.specs.Prelude.{◌≡◌, ◌⊎◌, ⊤, ℕ, zero, suc, ◌+◌, ◌≤◌, ◌==◌, nat_le, ◌&&◌, true}
use Rattle.std.specs.Prelude.{false, if◌then◌else◌, List, [], ◌++◌, length, Option}
use Rattle.std.specs.Prelude.{None, Some, is_some}
use Rattle.std.specs.List.{concat}
use Rattle.usb_packet.specs.{Toggle, other, is_same}
use Rattle.usb_device.specs.declared.answer.Answer.{Answer}
use Rattle.usb_device.specs.declared.answer.Answer.TheVariants.{Ack, Nak, Stall, Data}
use Rattle.usb_device.specs.declared.ends.Pace.{Pace}
use Rattle.usb_device.specs.EndpointSpecs.{GivesOn}
use Rattle.usb_device.specs.DeviceSpecs.{hub_ports}
use Rattle.usb_device.specs.Bulk.{tells_changes, status_number, change_bytes}
use Rattle.usb_device.specs.Transfer.{reading, read, ending, idle, max_packet, packet_at, Write}
use Rattle.usb_device.specs.Transfer.{writing, written_on, taken_with, is_done}
use Rattle.usb_device.specs.Rows.{State, in_data, in_end, in_max, next_packet, next_place, out_end}
use Rattle.usb_device.specs.Rows.{out_max}

-- what a host that awaits a toggle takes of an answer: its bytes, where they have the toggle and
-- are at most max
abbrev pub taken_of : Toggle → ℕ → Option Answer → Option (List ℕ)
taken_of t max None = None
taken_of t max (Some (Data given bytes)) = if is_same t given && nat_le (length bytes.items) max
    then Some bytes.items else None
taken_of t max (Some answer) = None

-- A control read (8.5.3)

-- the host has got n packets of the answer: as many as the device knows of, or one more
pub record ReadingAt (answer : List ℕ) (wanted n : ℕ) (s : State) : Type 0 where
  pub known : ℕ
  pub stage : s.stage ≡ reading answer wanted known
  pub near : (n ≡ known) ⊎ ((n ≡ known + 1)
      × (is_some (packet_at (max_packet s.spec) wanted answer known) ≡ true))

-- after one more IN: the packet of this number came, or none did
abbrev pub ReadOn : List ℕ → ℕ → ℕ → State → Option (List ℕ) → State → Type 0
ReadOn answer wanted n s None s' = ReadingAt answer wanted n s'
ReadOn answer wanted n s (Some bytes) s' =
    (packet_at (max_packet s.spec) wanted answer n ≡ Some bytes)
    × ReadingAt answer wanted (n + 1) s'

-- The status stage of a request without data (8.5.3): the packet has no bytes, and the transfer is
-- over where the device saw the host's ACK,
-- which gives it the address that it was asked to take (9.4.6)

abbrev pub address_then : ℕ → Option ℕ → ℕ
address_then old None = old
address_then old (Some n) = n

pub data StatusGiven (a : Option ℕ) (s s' : State) : Type 0 where
  seen : s'.stage ≡ idle → s'.registers ≡ record s.registers {
    address =
        address_then s.registers.address a;
  } → StatusGiven a s s'
  unseen : s'.stage ≡ ending a → s'.registers ≡ s.registers → StatusGiven a s s'

abbrev pub StatusOn : Option ℕ → State → Option (List ℕ) → State → Type 0
StatusOn a s None s' = (s'.stage ≡ ending a) × (s'.registers ≡ s.registers)
StatusOn a s (Some bytes) s' = (bytes ≡ []) × StatusGiven a s s'

-- The status stage of a control read (8.5.3): OUT of no bytes with DATA1

abbrev pub IsRead : State → Type 0
IsRead s = s.stage ≡ read

-- A control write (8.5.3)

-- the device is so far in it, and control writes had brought these bytes before it
pub record WritingAt (old : List ℕ) (w : Write) (s : State) : Type 0 where
  pub stage : s.stage ≡ writing w
  pub taken : s.taken ≡ taken_with old w

-- a packet is being sent to a device that was so far: it has not come, or it has, and the host has
-- not seen the ACK
pub data WriteAt (old : List ℕ) (w : Write) (bytes : List ℕ) (s : State) : Type 0 where
  level : WritingAt old w s → WriteAt old w bytes s
  ahead : WritingAt old (written_on w bytes) s → WriteAt old w bytes s

abbrev pub WriteOn : List ℕ → Write → List ℕ → Option Answer → State → Type 0
WriteOn old w bytes None s' = WriteAt old w bytes s'
WriteOn old w bytes (Some Ack) s' = WritingAt old (written_on w bytes) s'
WriteOn old w bytes (Some Nak) s' = WriteAt old w bytes s'
WriteOn old w bytes (Some Stall) s' = ⊥
WriteOn old w bytes (Some (Data u b)) s' = ⊥

-- The status stage of a control write (8.5.3): the packet has no bytes and comes if the write is
-- done, which is over if the device saw the host's ACK
pub data WriteEnded (old : List ℕ) (w : Write) (s : State) : Type 0 where
  seen : s.stage ≡ idle → s.taken ≡ taken_with old w → WriteEnded old w s
  unseen : WritingAt old w s → WriteEnded old w s

abbrev pub WriteStatusOn : List ℕ → Write → Option (List ℕ) → State → Type 0
WriteStatusOn old w None s' = WritingAt old w s'
WriteStatusOn old w (Some bytes) s' = (bytes ≡ []) × (is_done w ≡ true) × WriteEnded old w s'

-- the packet is one of the write: some bytes, and no more in all than the host said
pub record IsPacketOf (w : Write) (bytes : List ℕ) : Type 0 where
  pub some : 1 ≤ length bytes
  pub within : length w.got + length bytes ≤ w.wanted

-- An IN endpoint besides endpoint 0 (5.8)

-- this is the number of an IN endpoint that is served, and the most bytes of its packets
pub record IsSource (e most : ℕ) (s : State) : Type 0 where
  pub endpoint : in_max s e ≡ Some most
  pub not_zero : (e == 0) ≡ false
  pub alone : (e == status_number s.spec s.registers && tells_changes s.spec s.registers) ≡ false

-- the host has got what stands before this place, and awaits a toggle
pub data SourceAt (e most : ℕ) (got : ℕ) (t : Toggle) (s : State) : Type 0 where
  level : (in_end s e).place ≡ got → (in_end s e).state.toggle ≡ t → SourceAt e most got t s
  ahead : got ≡ next_place s e most (in_end s e).place
      → is_some (next_packet s e most (in_end s e).place) ≡ true
      → (in_end s e).state.toggle ≡ other t → SourceAt e most got t s

-- after one more IN: the packet at this place came, or none did
abbrev pub SourceOn : ℕ → ℕ → ℕ → Toggle → State → Option (List ℕ) → State → Type 0
SourceOn e most got t s None s' = SourceAt e most got t s'
SourceOn e most got t s (Some bytes) s' = (next_packet s e most got ≡ Some bytes)
    × SourceAt e most (next_place s e most got) (other t) s'

-- these bytes are the next packets from a place on, end to end, and this is the place behind them
pub record NextBytes (e most got : ℕ) (bytes : List ℕ) (behind : ℕ) (s : State) : Type 0 where
  pub packets : List (List ℕ)
  pub come : GivesOn (in_data s e) most got packets behind
  pub joined : bytes ≡ concat packets

-- so many packets are there from a place on
abbrev pub HasPackets : ℕ → ℕ → ℕ → ℕ → State → Type 0
HasPackets e most got zero s = ⊤
HasPackets e most got (suc n) s = (is_some (next_packet s e most got) ≡ true)
    × HasPackets e most (next_place s e most got) n s

-- no packet that it has is longer
abbrev pub GivesWithin : ℕ → ℕ → ℕ → State → Type 0
GivesWithin limit e most s = (place : ℕ) (bytes : List ℕ)
    → next_packet s e most place ≡ Some bytes → length bytes ≤ limit

-- an endpoint gives few NAKs before each packet, so that a host does not give up
abbrev pub IsPrompt : Pace → Type 0
IsPrompt pace = (pace.naks ≤ 100) × (pace.each ≤ 100)

-- An OUT endpoint besides endpoint 0 (5.8)

pub record IsSink (e most : ℕ) (s : State) : Type 0 where
  pub endpoint : out_max s e ≡ Some most
  pub not_zero : (e == 0) ≡ false

-- a packet is being sent with a toggle to an endpoint that had taken these bytes before: it has not
-- joined them, or it has, and the
-- host has not seen the ACK
pub data SinkAt (e : ℕ) (before bytes : List ℕ) (t : Toggle) (s : State) : Type 0 where
  level : (out_end s e).sink ≡ before → (out_end s e).state.toggle ≡ t → SinkAt e before bytes t s
  ahead : (out_end s e).sink ≡ before ++ bytes → (out_end s e).state.toggle ≡ other t
      → SinkAt e before bytes t s

-- the packet is among what the endpoint took, which it was once
pub record Joined (e : ℕ) (before bytes : List ℕ) (t : Toggle) (s : State) : Type 0 where
  pub sink : (out_end s e).sink ≡ before ++ bytes
  pub toggle : (out_end s e).state.toggle ≡ other t

abbrev pub SinkOn : ℕ → List ℕ → List ℕ → Toggle → Option Answer → State → Type 0
SinkOn e before bytes t None s' = SinkAt e before bytes t s'
SinkOn e before bytes t (Some Ack) s' = Joined e before bytes t s'
SinkOn e before bytes t (Some Nak) s' = SinkAt e before bytes t s'
SinkOn e before bytes t (Some Stall) s' = SinkAt e before bytes t s'
    × ((out_end s' e).state.halted ≡ true)
SinkOn e before bytes t (Some (Data u b)) s' = ⊥

-- IN of a configured hub's status endpoint (11.12.3, 11.12.4)

-- The host awaits a toggle: nothing is held back; or bits were given that did not come, and this
-- is so of them; or bits came, and their ACK was not seen.
pub data PollAt (Told : ℕ → Type 0) (t : Toggle) (s : State) : Type 0 where
  level : s.held ≡ None → s.changes.toggle ≡ t → PollAt Told t s
  told : (bits : ℕ) → Told bits → s.held ≡ Some bits → s.changes.toggle ≡ t → PollAt Told t s
  ahead : (bits : ℕ) → s.held ≡ Some bits → s.changes.toggle ≡ other t → PollAt Told t s

-- between two polls of which none failed
abbrev pub NeverTold : ℕ → Type 0
NeverTold bits = ⊥

-- the bytes of bits came, of which this is so
pub record ToldByte (Told : ℕ → Type 0) (t : Toggle) (bytes : List ℕ) (s : State) : Type 0 where
  pub bits : ℕ
  pub so : Told bits
  pub came : bytes ≡ change_bytes (hub_ports s.spec.hub) bits
  pub between : PollAt NeverTold (other t) s

-- after one more IN of a hub whose ports tell these bits
abbrev pub PollOn : (ℕ → Type 0) → ℕ → Toggle → Option Answer → State → Type 0
PollOn Told bits t None s' = PollAt Told t s'
PollOn Told bits t (Some Ack) s' = ⊥
PollOn Told bits t (Some Nak) s' = (bits ≡ 0) × PollAt NeverTold t s'
PollOn Told bits t (Some Stall) s' = PollAt Told t s' × (s'.changes.halted ≡ true)
PollOn Told bits t (Some (Data given bytes)) s' =
    (is_same t given ≡ true → ToldByte Told t bytes.items s')
    × (is_same t given ≡ false → PollAt Told t s')

-- What each exchange leaves as it is

-- IN of endpoint 0: only a status stage changes the registers
abbrev pub OnlyControl : State → State → Type 0
OnlyControl s s' = s' ≡ record s {
  memory = s'.memory;
  naks = s'.naks;
  stage = s'.stage;
  registers =
      s'.registers;
}

-- OUT of endpoint 0: only a packet of a control write changes what such writes have brought
abbrev pub OnlyWrite : State → State → Type 0
OnlyWrite s s' = s' ≡ record s {
  memory = s'.memory;
  naks = s'.naks;
  stage = s'.stage;
  taken = s'.taken;
}

-- OUT of endpoint 0 with no bytes
abbrev pub OnlyStage : State → State → Type 0
OnlyStage s s' = s' ≡ record s { memory = s'.memory; naks = s'.naks; stage = s'.stage }

-- IN of an endpoint besides endpoint 0: no other endpoint changes
pub record OnlySource (e : ℕ) (s s' : State) : Type 0 where
  pub rest : s' ≡ record s { memory = s'.memory; ins = s'.ins }
  pub others : (a : ℕ) → (a == e) ≡ false → in_end s' a ≡ in_end s a

-- OUT of one
pub record OnlySink (e : ℕ) (s s' : State) : Type 0 where
  pub rest : s' ≡ record s { memory = s'.memory; outs = s'.outs }
  pub others : (a : ℕ) → (a == e) ≡ false → out_end s' a ≡ out_end s a

-- endpoints may halt, or begin again; what each took and gave stays
pub record NothingMoved (s s' : State) : Type 0 where
  pub taken : (e : ℕ) → ((out_end s' e).sink ≡ (out_end s e).sink)
      × ((out_end s' e).pace.until_halt ≡ (out_end s e).pace.until_halt)
  pub given : (e : ℕ) → ((in_end s' e).place ≡ (in_end s e).place)
      × ((in_end s' e).pace.until_halt ≡ (in_end s e).pace.until_halt)

abbrev pub OnlyChanges : State → State → Type 0
OnlyChanges s s' = s' ≡ record s { memory = s'.memory; changes = s'.changes; held = s'.held }
