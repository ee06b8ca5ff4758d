-- Which addresses status stages end with (9.4.6).
use Rattle.std.specs.Prelude.{◌≡◌, ℕ, true, None, Some, ⊤}
use Rattle.usb_device.specs.{Outcome, stalled, takes_address, takes_configuration, halts, unhalts}
use Rattle.usb_device.specs.{tells_port, calls_port, State, Stage, idle, refused, reading, read}
use Rattle.usb_device.specs.{ending, writing, answers_taken, takes, takes_setting, tells_halt}
use Rattle.usb_device.specs.{Location, reach_on, state_on}
use Rattle.usb_device.specs.Request.{answers}
use Rattle.usb_world.specs.{address_of, World}

-- a status stage that ends with an address ends with such a one
abbrev pub Aims : (ℕ → Type 0) → Stage → Type 0
Aims Q idle = ⊤
Aims Q refused = ⊤
Aims Q (reading answer wanted k) = ⊤
Aims Q read = ⊤
Aims Q (ending None) = ⊤
Aims Q (ending (Some a)) = Q a
Aims Q (writing w) = ⊤

-- so it is of each reachable device at an address
abbrev pub AllAim : (ℕ → Type 0) → ℕ → World → Type 0
AllAim Q n w = (i : Location) (s : State) → reach_on w.roots i ≡ true → state_on w.roots i ≡ Some s
    → address_of s ≡ n → Aims Q s.stage

-- a request that asks for an address asks for such a one
abbrev pub TakesOnly : (ℕ → Type 0) → Outcome → Type 0
TakesOnly Q stalled = ⊤
TakesOnly Q (answers bytes) = ⊤
TakesOnly Q (takes_address a) = Q a
TakesOnly Q (takes_configuration c) = ⊤
TakesOnly Q (halts x) = ⊤
TakesOnly Q (unhalts x) = ⊤
TakesOnly Q (tells_port i) = ⊤
TakesOnly Q (calls_port c i) = ⊤
TakesOnly Q answers_taken = ⊤
TakesOnly Q (takes kept) = ⊤
TakesOnly Q (takes_setting interface setting) = ⊤
TakesOnly Q (tells_halt endpoint) = ⊤

abbrev pub Never : ℕ → Type 0
Never a = ⊥
