-- One device over a transaction of a control write (8.5.3): OUT with data, and the IN that ends it.
use Rattle.std.specs.Prelude.{◌≡◌, ◌≢◌, ◌≤◌, ℕ, List, [], true, false, Result, Ok, Err}
use Rattle.usb_packet.specs.{Toggle}
use Rattle.usb_device.specs.{State, Location, Write, written_on, is_done, IsPacketOf, WritingAt}
use Rattle.usb_device.specs.{WriteAt, WriteEnded, OnlyWrite, refused as stage_refused}
use Rattle.usb_transfer.specs.declared.target.Target.{Target}
use Rattle.usb_transfer.specs.declared.trans_fault.TransFault.{TransFault}
use Rattle.usb_transfer.specs.declared.trans_fault.TransFault.TheVariants.{Stalled, Busy, NoAnswer}
use Rattle.usb_transfer.specs.declared.trans_fault.TransFault.TheVariants.{Bus}
use Rattle.usb_transfer.specs.TransactionLeaves.{CanAnswer, is_at}

-- a packet that was acknowledged came once; if the transaction failed, it came once or not at all
abbrev pub WriteEnds : List ℕ → Write → List ℕ → Result (List ℕ) TransFault → State → Type 0
WriteEnds old w bytes (Ok done) v = WritingAt old (written_on w bytes) v
WriteEnds old w bytes (Err Stalled) v = ⊥
WriteEnds old w bytes (Err Busy) v = WriteAt old w bytes v
WriteEnds old w bytes (Err NoAnswer) v = WriteAt old w bytes v
WriteEnds old w bytes (Err (Bus fault)) v = WriteAt old w bytes v

-- OUT of endpoint 0 with data
pub record WriteOut (t : Target) (toggle : Toggle) (bytes : List ℕ)
    (result : Result (List ℕ) TransFault) (x : Location) (s v : State) : Type 0 where
  pub others : is_at s t ≡ false → v ≡ s
  pub frame : OnlyWrite s v
  pub write : is_at s t ≡ true → (old : List ℕ) (w : Write) → w.toggle ≡ toggle
      → IsPacketOf w bytes → WriteAt old w bytes s → WriteEnds old w bytes result v
  pub refused : s.stage ≡ stage_refused → (v.stage ≡ stage_refused) × (v.taken ≡ s.taken)
      × (is_at s t ≡ true → (done : List ℕ) → result ≢ Ok done)
  pub could : is_at s t ≡ true → CanAnswer s.spec result
  pub naks : v.naks ≤ s.naks

-- the status stage came if all bytes have come and are kept; the bus gave up with it given, or not
abbrev pub WriteStatusEnds : List ℕ → Write → Result (List ℕ) TransFault → State → Type 0
WriteStatusEnds old w (Ok bytes) v = (bytes ≡ []) × (is_done w ≡ true) × WriteEnded old w v
WriteStatusEnds old w (Err Stalled) v = WritingAt old w v
WriteStatusEnds old w (Err Busy) v = WritingAt old w v
WriteStatusEnds old w (Err NoAnswer) v = WritingAt old w v
WriteStatusEnds old w (Err (Bus fault)) v = WriteEnded old w v

-- IN of endpoint 0 by a host that awaits DATA1
pub record WriteStatusIn (t : Target) (result : Result (List ℕ) TransFault) (x : Location)
    (s v : State) : Type 0 where
  pub status : is_at s t ≡ true → (old : List ℕ) (w : Write) → WritingAt old w s
      → WriteStatusEnds old w result v
  pub rests : is_at s t ≡ true → (old : List ℕ) (w : Write) → WritingAt old w s
      → v.registers ≡ s.registers
