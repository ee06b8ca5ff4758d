-- The host's packets of an attempt, as they go out, and the tree after them.
use Rattle.std.specs.Prelude.{◌≡◌, ℕ, ◌==◌, Bool, true, false, List, [], ◌∷◌, Option, None, Some}
use Rattle.std.specs.Prelude.{option_map, if◌then◌else◌, ⊤}
use Rattle.usb_device.specs.{Token, Payload, Ack}
use Rattle.usb_device.specs.{PortState}
use Rattle.usb_device.specs.{Answer, Content, Whole, Broken, Sent, State, Reply, is_own, Ports}
use Rattle.usb_device.specs.{reach_at, state_at, Location, reach_on, state_on, after_packet}
use Rattle.usb_device.specs.{all_forgotten, held_addresses, repeats, hears, reply_to, answers}
use Rattle.usb_world.specs.WayEffects.{resets_at, packet_keeps_pending}
use Rattle.usb_world.specs.Paths.{address_of}

-- the ports after a packet, which goes out or does not
abbrev pub after_sent : Option Sent → Ports → Ports
after_sent None k = k
after_sent (Some q) k = after_packet q false k

-- the answers to it
abbrev pub answers_to : Option Sent → Ports → List Answer
answers_to None k = []
answers_to (Some q) k = answers q false k

-- the ports after an attempt: the token, the host's data and its ACK
abbrev pub after_attempt : Option Sent → Option Sent → Option Sent → Ports → Ports
after_attempt token payload reply k =
    all_forgotten (after_sent reply (after_sent payload (after_sent token k)))

-- what one device makes of a packet
abbrev pub heard_by : Option Sent → Bool → State → List PortState → Reply
heard_by None deep s row = (None, s)
heard_by (Some q) deep s row = if hears q deep s then reply_to q.content s row else (None, s)

-- whether a path is below a device, where it starts on a row that is or is not
abbrev pub deep_at : Bool → List ℕ → Bool
deep_at deep [] = deep
deep_at deep (n ∷ p) = true

-- a packet for this device
abbrev pub calls_on : Content → State → Bool
calls_on (Whole p) s = is_own s p
calls_on Broken s = false

-- a token for an address, or bytes that spell nothing
abbrev pub IsTokenFor : ℕ → Content → Type 0
IsTokenFor n (Whole (Token kind a e)) = a ≡ n
IsTokenFor n Broken = ⊤
IsTokenFor n (Whole p) = ⊥

abbrev pub IsDataOut : Content → Type 0
IsDataOut (Whole (Payload t bytes)) = ⊤
IsDataOut Broken = ⊤
IsDataOut (Whole p) = ⊥

abbrev pub IsAckOut : Content → Type 0
IsAckOut (Whole Ack) = ⊤
IsAckOut Broken = ⊤
IsAckOut (Whole p) = ⊥

abbrev pub IfOut : (Content → Type 0) → Option Sent → Type 0
IfOut P None = ⊤
IfOut P (Some q) = P q.content

-- an attempt's packets: a token for an address, the host's data or none, and its ACK or none
pub record IsAttemptAt (n : ℕ) (first second third : Option Sent) : Type 0 where
  pub token : IfOut (IsTokenFor n) first
  pub payload : IfOut IsDataOut second
  pub reply : IfOut IsAckOut third

-- whether a packet that goes out resets the device at a path, and whether it leaves what is pending
-- there
abbrev pub sent_resets : Option Sent → Ports → ℕ → List ℕ → Bool
sent_resets None k j p = false
sent_resets (Some q) k j p = resets_at q false k j p

abbrev pub sent_keeps_pending : Option Sent → Ports → ℕ → List ℕ → Bool
sent_keeps_pending None k j p = true
sent_keeps_pending (Some q) k j p = packet_keeps_pending q false k j p

-- the same of an attempt: only the host's data ask something of ports
abbrev pub attempt_resets : Option Sent → Option Sent → Ports → ℕ → List ℕ → Bool
attempt_resets token payload k j p = sent_resets payload (after_sent token k) j p

abbrev pub attempt_keeps_pending : Option Sent → Option Sent → Ports → ℕ → List ℕ → Bool
attempt_keeps_pending token payload k j p = sent_keeps_pending payload (after_sent token k) j p

-- between attempts no device remembers anything
abbrev pub IsSettled : Ports → Type 0
IsSettled k = all_forgotten k ≡ k

-- no reachable device holds the address
abbrev pub NobodyHolds : ℕ → Ports → Type 0
NobodyHolds n k = (i : ℕ) (e : List ℕ) (t : State) → state_at k i e ≡ Some t → reach_at k i e ≡ true
    → (n == address_of t) ≡ false

-- one reachable device holds it, and no address is held twice
pub record OneHolds (n : ℕ) (k : Ports) (x : Location) : Type 0 where
  pub single : repeats (held_addresses k) ≡ false
  pub on : reach_on k x ≡ true
  pub at : option_map address_of (state_on k x) ≡ Some n
