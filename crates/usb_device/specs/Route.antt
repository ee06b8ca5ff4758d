-- A packet that goes straight to the device at a path, which is `deep` where it stands on a hub's
-- port.
use Rattle.std.specs.Prelude.{ℕ, ◌==◌, ◌&&◌, Bool, false, List, Option, None, Some}
use Rattle.usb_device.specs.declared.answer.Answer.{Answer}
use Rattle.usb_device.specs.declared.delivery.Sent.{Sent}
use Rattle.usb_device.specs.declared.effect.Effect.{Effect}
use Rattle.usb_device.specs.declared.effect.Effect.TheVariants.{Leaves}
use Rattle.usb_device.specs.Rows.{State, forgotten}
use Rattle.usb_device.specs.Tree.{Ports, Plugged, Place, empty, full, acted, reach}
use Rattle.usb_device.specs.View.{state_there}
use Rattle.usb_device.specs.Delivery.{answer_of, effect_of}
use Rattle.usb_device.specs.StoppedPackets.{IsRefused}

-- the device there had the packet, and those below it had not
abbrev pub sent_in : Sent → Bool → Place → Place
sent_in q deep (empty b) = empty b
sent_in q deep (full b s a) = full b (answer_of q deep s a).1 (acted (effect_of q deep s) a)

-- its answer
abbrev pub answer_by : Sent → Bool → Option Plugged → Option Answer
answer_by q deep None = None
answer_by q deep (Some t) = (answer_of q deep t.own t.ports).0

-- it refuses memory for the packet
abbrev pub RefusedBy : Sent → Bool → Option Plugged → Type 0
RefusedBy q deep None = ⊥
RefusedBy q deep (Some t) = IsRefused q deep t.own

-- what it asks of its ports at the packet
abbrev pub effect_by : Sent → Bool → Option Plugged → Effect
effect_by q deep None = Leaves
effect_by q deep (Some t) = effect_of q deep t.own

-- it forgets what it remembers, and those below it do not
abbrev pub forgotten_in : Place → Place
forgotten_in (empty b) = empty b
forgotten_in (full b s a) = full b (forgotten s) a

-- its address
abbrev pub address_by : Option Plugged → Option ℕ
address_by None = None
address_by (Some t) = Some t.own.registers.address

-- packets reach it, and it holds the address
abbrev pub holds_by : ℕ → Option State → Bool
holds_by n None = false
holds_by n (Some s) = s.registers.address == n

abbrev pub is_held_at : ℕ → Ports → List ℕ → Bool
is_held_at n k p = reach k p && holds_by n (state_there k p)
