-- Packets on their way, and what damage does to them.
use Rattle.std.specs.Prelude.{◌≢◌, ℕ, ◌+◌, ◌*◌, ◌==◌, nat_lt, nat_le, Bool, true, false}
use Rattle.std.specs.Prelude.{if◌then◌else◌, List, [], ◌∷◌, length, Option, None, Some}
use Rattle.usb_packet.specs.{Packet, Token, Sof, Payload, Ack, Nak, Stall, Pre}
use Rattle.usb_world.specs.declared.damage.Damage.{Damage}
use Rattle.usb_world.specs.declared.damage.Harm.{Harm}
use Rattle.usb_world.specs.declared.damage.Harm.TheVariants.{Lose, LosePre, Flip}
use Rattle.usb_world.specs.declared.wire.Mark.{Mark}
use Rattle.usb_world.specs.declared.wire.Mark.TheVariants.{Whole, Lost, PreLost, Flipped}
use Rattle.usb_world.specs.declared.wire.Outgoing.{Outgoing}

-- the damage to the attempt of a number
unfoldable pub damage_of : List Damage → ℕ → Option Damage
damage_of [] attempt = None
damage_of (d ∷ damages) attempt = if d.attempt == attempt then Some d else damage_of damages attempt

-- no three attempts running are damaged
abbrev pub AtMostTwoRunning : List Damage → Type 0
AtMostTwoRunning damages = (n : ℕ) → damage_of damages n ≢ None → damage_of damages (n + 1) ≢ None
    → damage_of damages (n + 2) ≢ None → ⊥

-- how many damages are to attempts up to this one
unfoldable pub damages_until : ℕ → List Damage → ℕ
damages_until attempt [] = 0
damages_until attempt (d ∷ damages) = (if nat_le d.attempt attempt then 1 else 0) + damages_until
    attempt damages

-- the harm to the packet at a place of its attempt, counted from 1
unfoldable pub harm_to : Option Damage → ℕ → Option Harm
harm_to None place = None
harm_to (Some d) place = if d.packet == place then Some d.harm else None

-- how many bits a packet has: eight for each byte that spells it (8.4)
unfoldable pub bit_count : Packet → ℕ
bit_count (Token kind addr ep) = 24
bit_count (Sof frame) = 24
bit_count (Payload toggle bytes) = 24 + 8 * length bytes.items
bit_count Ack = 8
bit_count Nak = 8
bit_count Stall = 8
bit_count Pre = 8

-- the mark that a harm leaves: none where the packet has no PRE, or has not the bit
unfoldable pub mark_of : Option Harm → Bool → Packet → Mark
mark_of None pre p = Whole
mark_of (Some Lose) pre p = Lost
mark_of (Some LosePre) pre p = if pre then PreLost else Whole
mark_of (Some (Flip bit)) pre p = if nat_lt bit (bit_count p) then Flipped bit else Whole

-- a listener reads the packet
unfoldable pub is_read : Mark → Bool
is_read Whole = true
is_read Lost = false
is_read PreLost = true
is_read (Flipped bit) = false

-- a flipped bit is one of the packet's
unfoldable pub has_its_bit : Mark → Packet → Bool
has_its_bit Whole p = true
has_its_bit Lost p = true
has_its_bit PreLost p = true
has_its_bit (Flipped bit) p = nat_lt bit (bit_count p)

-- a packet as it goes out at a place of its attempt
unfoldable pub marked : Option Damage → ℕ → Bool → Packet → Outgoing
marked damage place pre p = record { packet = p; mark = mark_of (harm_to damage place) pre p }

unfoldable pub marked_some : Option Damage → ℕ → Bool → Option Packet → Option Outgoing
marked_some damage place pre None = None
marked_some damage place pre (Some p) = Some (marked damage place pre p)
