-- Which steps keep the addresses that devices hold, and which give one (9.4.6).
use Rattle.std.specs.Prelude.{◌≡◌, ◌⊎◌, ℕ, ◌==◌, ◌&&◌, not, Bool, true, false, List, Option, None}
use Rattle.std.specs.Prelude.{Some, if◌then◌else◌}
use Rattle.usb_packet.specs.{TokenKind, OutTok, InTok, SetupTok}
use Rattle.usb_device.specs.{State, is_busy, ends_with_address, is_whole, Ports, reach_at, state_at}
use Rattle.usb_world.specs.declared.damage.Damage.{Damage}
use Rattle.usb_world.specs.PlainAttempts.{Attempt}
use Rattle.usb_world.specs.Paths.{address_of, same_path, is_way}
use Rattle.usb_world.specs.Worlds.{World}
use Rattle.usb_world.specs.Steps.{at_attempt, Step, attempt, root_call, event, report}
use Rattle.usb_world.specs.Courses.{QuietStep}
use Rattle.usb_world.specs.OneHolder.{token_way, answer_way, reply_way}

-- an attempt that sends setup data
abbrev pub is_setup : TokenKind → Bool
is_setup SetupTok = true
is_setup OutTok = false
is_setup InTok = false

-- no reachable device at this address takes another when its status stage ends
abbrev pub NoneTakes : ℕ → Ports → Type 0
NoneTakes n k = (i : ℕ) (e : List ℕ) (s : State) → reach_at k i e ≡ true → state_at k i e ≡ Some s
    → address_of s ≡ n → ends_with_address s.stage ≡ false

-- IN or OUT, where no device at its address takes another when its status stage ends
abbrev pub MovesData : Step → World → Type 0
MovesData (attempt a) w = (is_setup a.kind ≡ false) × NoneTakes a.addr (at_attempt w).roots
MovesData (root_call c n) w = ⊥
MovesData event w = ⊥
MovesData (report line) w = ⊥

-- a step that gives no device an address
abbrev pub GivesNoAddress : Step → World → Type 0
GivesNoAddress s w = QuietStep s w ⊎ MovesData s w

-- addresses after PORT_RESET at a path: the device there has address 0, none below it is reached,
-- the others keep theirs
abbrev pub after_reset : (List ℕ → Option ℕ) → List ℕ → List ℕ → Option ℕ
after_reset f p q = if same_path p q then Some 0 else if is_way p q then None else f q

-- addresses after a device took one
abbrev pub after_taking : (List ℕ → Option ℕ) → List ℕ → ℕ → List ℕ → Option ℕ
after_taking f p n q = if same_path p q then Some n else f q

-- the host's ACK ends the status stage of a device: IN of endpoint 0 comes whole, the device is not
-- busy, and its answer
-- and the ACK come whole
abbrev pub ends_status : Attempt → Option Damage → Ports → Bool → State → Bool
ends_status a damage k deep s =
    not s.spec.silent && (is_whole (token_way a damage deep s) &&
    (a.ep == 0 && (not (is_busy s) && (is_whole (answer_way a damage k) &&
    is_whole (reply_way a damage k deep s)))))
