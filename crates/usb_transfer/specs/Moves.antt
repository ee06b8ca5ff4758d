-- The packets of a bulk transfer (5.8.3): which transactions were made, and what was heard of each.
use Rattle.std.specs.Prelude.{◌≡◌, ℕ, ◌+◌, ◌*◌, ◌<◌, ◌≤◌, ◌⊎◌, List, [], ◌++◌, length, take, Result}
use Rattle.std.specs.Prelude.{Ok, Err}
use Rattle.std.proofs.Common.{inl, inr}
use Rattle.std.specs.Global.{Vec}
use Rattle.usb_packet.specs.{Toggle, flips}
use Rattle.usb_world.specs.{Outcome, World, Step, attempt}
use Rattle.usb_transfer.specs.declared.target.Target.{Target}
use Rattle.usb_transfer.specs.declared.trans_fault.TransFault.{TransFault}
use Rattle.usb_transfer.specs.HeardOutcomes.{heard_as, heard_when_sent}
use Rattle.usb_transfer.specs.Transactions.{in_attempt, out_attempt}
use Rattle.usb_transfer.specs.AttemptLogs.{AttemptLog, KeepsTrying, Transacted}
use Rattle.usb_transfer.specs.declared.fault.PipeFault.{PipeFault}
use Rattle.usb_transfer.specs.declared.fault.PipeFault.TheVariants.{Memory}
use Rattle.usb_transfer.specs.Control.{as_pipe_fault}

-- Transactions of a bulk endpoint

-- a packet of these bytes is sent with this toggle
abbrev pub Puts : Target → ℕ → Toggle → List ℕ → World → Result (List ℕ) TransFault → World → Type 0
Puts t ep toggle bytes old answer new = Transacted heard_when_sent (out_attempt t ep toggle bytes)
    old answer new

-- a packet of this toggle is asked for
abbrev pub Fetches : Target → ℕ → Toggle → World → Result (List ℕ) TransFault → World → Type 0
Fetches t ep toggle old answer new = Transacted (heard_as toggle) (in_attempt t ep) old answer new

-- From the host

-- so many packets were acknowledged one after the other, with toggles by turns from `first`; these
-- bytes went, none of the packets was empty, and one came only behind full ones
pub data Gave (t : Target) (ep : ℕ) (first : Toggle) (old : World) : ℕ → List ℕ → World
    → Type 0 where
  start : Gave t ep first old 0 [] old
  packet : {n : ℕ} {sent : List ℕ} {mid new : World} (bytes : List ℕ)
      → Gave t ep first old n sent mid → length sent ≡ n * t.max → 0 < length bytes
      → length bytes ≤ t.max
      → Puts t ep (flips n first) bytes mid (Ok []) new
      → Gave t ep first old (n + 1) (sent ++ bytes) new

-- all went
pub record AllGone (t : Target) (ep : ℕ) (first : Toggle) (total : List ℕ) (old new : World) :
    Type 0 where
  pub packets : ℕ
  pub gone : Gave t ep first old packets total new

-- a packet did not go: full ones went before it, and it had as many of the rest as fit
pub record NotGone (t : Target) (ep : ℕ) (first : Toggle) (total : List ℕ) (old : World)
    (why : PipeFault) (new : World) : Type 0 where
  pub packets : ℕ
  pub sent : List ℕ
  pub rest : List ℕ
  pub mid : World
  pub before : Gave t ep first old packets sent mid
  pub full : length sent ≡ packets * t.max
  pub split : total ≡ sent ++ rest
  pub some : 0 < length rest
  pub fault : TransFault
  pub told : why ≡ as_pipe_fault fault
  pub lost : Puts t ep (flips packets first) (take t.max rest) mid (Err fault) new

-- a moment of it: full packets were acknowledged, and the next, with as many of the rest as fit, is
-- being sent
pub record WhileSending (t : Target) (ep : ℕ) (first : Toggle) (total : List ℕ) (old now : World) :
    Type 0 where
  pub packets : ℕ
  pub sent : List ℕ
  pub rest : List ℕ
  pub mid : World
  pub before : Gave t ep first old packets sent mid
  pub full : length sent ≡ packets * t.max
  pub split : total ≡ sent ++ rest
  pub outcomes : List Outcome
  pub trail : AttemptLog (out_attempt t ep (flips packets first) (take t.max rest)) mid outcomes now
  pub onward : KeepsTrying heard_when_sent outcomes

-- the attempt that is made at such a moment
pub record SendsAt (t : Target) (ep : ℕ) (first : Toggle) (total : List ℕ) (old : World) (s : Step)
    (now : World) : Type 0 where
  pub moment : WhileSending t ep first total old now
  pub is : s ≡ attempt (out_attempt t ep (flips moment.packets first) (take t.max moment.rest))

abbrev pub SendEnds : Target → ℕ → Toggle → List ℕ → World → Result (Unit {0}) PipeFault → World
    → Type 0
SendEnds t ep first total old (Ok done) new = AllGone t ep first total old new
SendEnds t ep first total old (Err why) new = NotGone t ep first total old why new

-- how many packets of a send were acknowledged
abbrev pub packets_gone : (t : Target) (ep : ℕ) (first : Toggle) (total : List ℕ) (old : World)
    (result : Result (Unit {0}) PipeFault) (new : World) → SendEnds t ep first total old result new
    → ℕ
packets_gone t ep first total old (Ok done) new all = all.packets
packets_gone t ep first total old (Err why) new cut = cut.packets

-- To the host

-- so many full packets came one after the other, with toggles by turns from `first`, and with them
-- these bytes
pub data Came (t : Target) (ep : ℕ) (first : Toggle) (old : World) : ℕ → List ℕ → World
    → Type 0 where
  start : Came t ep first old 0 [] old
  packet : {n : ℕ} {got : List ℕ} {mid new : World} (bytes : List ℕ) → Came t ep first old n got mid
      → Fetches t ep (flips n first) mid (Ok bytes) new → length bytes ≡ t.max
      → Came t ep first old (n + 1) (got ++ bytes) new

-- as many packets came as were wanted, or the last of fewer was short
pub record AllCame (t : Target) (ep : ℕ) (first : Toggle) (wanted : ℕ) (old : World)
    (bytes : List ℕ) (new : World) : Type 0 where
  pub packets : ℕ
  pub few : packets < wanted
  pub got : List ℕ
  pub mid : World
  pub before : Came t ep first old packets got mid
  pub last : List ℕ
  pub came : Fetches t ep (flips packets first) mid (Ok last) new
  pub fits : length last ≤ t.max
  pub kept : bytes ≡ got ++ last
  pub ends : (packets + 1 ≡ wanted) ⊎ (length last < t.max)

-- a packet did not come
pub record NotCame (t : Target) (ep : ℕ) (first : Toggle) (wanted : ℕ) (old : World)
    (why : PipeFault) (new : World) : Type 0 where
  pub packets : ℕ
  pub few : packets < wanted
  pub got : List ℕ
  pub mid : World
  pub before : Came t ep first old packets got mid
  pub fault : TransFault
  pub told : why ≡ as_pipe_fault fault
  pub lost : Fetches t ep (flips packets first) mid (Err fault) new

-- a packet came for which there was no memory
pub record NoRoomLeft (t : Target) (ep : ℕ) (first : Toggle) (wanted : ℕ) (old : World)
    (why : PipeFault) (new : World) : Type 0 where
  pub packets : ℕ
  pub few : packets < wanted
  pub got : List ℕ
  pub mid : World
  pub before : Came t ep first old packets got mid
  pub last : List ℕ
  pub told : why ≡ Memory
  pub came : Fetches t ep (flips packets first) mid (Ok last) new
  pub fits : length last ≤ t.max

abbrev pub ReceiveEnds : Target → ℕ → Toggle → ℕ → World → Result (Vec ℕ) PipeFault → World → Type 0
ReceiveEnds t ep first wanted old (Ok bytes) new = AllCame t ep first wanted old bytes.items new
ReceiveEnds t ep first wanted old (Err why) new = NotCame t ep first wanted old why new
    ⊎ NoRoomLeft t ep first wanted old why new

-- how many packets of a receive came
abbrev pub packets_came : (t : Target) (ep : ℕ) (first : Toggle) (wanted : ℕ) (old : World)
    (result : Result (Vec ℕ) PipeFault) (new : World) → ReceiveEnds t ep first wanted old result new
    → ℕ
packets_came t ep first wanted old (Ok bytes) new all = all.packets + 1
packets_came t ep first wanted old (Err why) new (inl cut) = cut.packets
packets_came t ep first wanted old (Err why) new (inr full) = full.packets + 1
