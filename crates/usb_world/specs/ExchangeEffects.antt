-- What an attempt, and a packet of it, leaves of the root ports with all that is plugged.
use Rattle.std.specs.Prelude.{◌≡◌, ℕ, Bool, true, List, Option, None, Result, OnOk, OnErr, IfOk}
use Rattle.usb_device.specs.{Heard, Sent, Ports, row_of, both, heard_of, figure}
use Rattle.usb_world.specs.declared.damage.Damage.{Damage}
use Rattle.usb_world.specs.declared.exchange.Exchange.{Exchange}
use Rattle.usb_world.specs.PlainAttempts.{Attempt}
use Rattle.usb_world.specs.AttemptPackets.{after_sent, answers_to, IsSettled}
use Rattle.usb_world.specs.LonePackets.{AloneAt, KeptAt}
use Rattle.usb_world.specs.Exchanges.{exchange_in, ended_in, ports_in}
use Rattle.usb_world.specs.CutPackets.{IsStopped}
use Rattle.usb_world.specs.Steps.{IsCut}

-- the same devices stand at the same ports, and the root ports themselves are as they were
pub record StaysPlugged (old new : Ports) : Type 0 where
  pub row : row_of new ≡ row_of old
  pub figure : figure new ≡ figure old

-- a packet went out or was lost: what is heard of it joins what was heard before
pub record PacketWent (out : Option Sent) (old new : Ports) (before after : Heard) : Type 0 where
  pub heard : after ≡ both before (heard_of (answers_to out old))
  pub ports : new ≡ after_sent out old

-- all packets of an attempt went out, and the attempt has not ended
pub record PacketsWent (a : Attempt) (damage : Option Damage) (old new : Ports)
    (exchange : Exchange) : Type 0 where
  pub made : exchange ≡ exchange_in a damage old
  pub ports : new ≡ ended_in a damage old

-- an attempt was made
pub record Exchanged (a : Attempt) (damage : Option Damage) (old new : Ports)
    (exchange : Exchange) : Type 0 where
  pub made : exchange ≡ exchange_in a damage old
  pub ports : new ≡ ports_in a damage old

-- a packet went out along a path, was lost, or was refused memory
pub record SentAlong {E : Type 0} (out : Option Sent) (path : List ℕ) (old new : Ports)
    (before after : Heard) (result : Result (Unit {0}) E) : Type 0 where
  pub plugged : StaysPlugged old new
  pub steps : OnOk result (PacketWent out old new before after)
  -- where the path is a device's, no other remembers anything
  pub alone : AloneAt None new path
  pub stopped : OnErr result (IsStopped out old new)

-- an attempt was made along a path, or was refused memory
pub record MadeAlong {E : Type 0} (a : Attempt) (damage : Option Damage) (path : List ℕ) (port : ℕ)
    (old new : Ports) (exchange : Exchange) (result : Result Bool E) : Type 0 where
  pub plugged : StaysPlugged old new
  pub settled : IsSettled new
  pub made : OnOk result (Exchanged a damage old new exchange)
  pub cut : OnErr result (IsCut a damage old new)
  -- whether it is known that the same devices are reached, but for those on a port of the device
  pub kept : IfOk result (λ kept. kept ≡ true → KeptAt a.addr port old new path)
