-- What a hub tells of its ports (11.24.2.7).
use Rattle.std.proofs.Common.{◌≡◌, ℕ, suc, ◌-◌, List, [], slice_get, Some, refl, take, true, ◌≤◌}
use Rattle.std.proofs.Common.{arith}
use Rattle.usb_port.specs.{PortState, status_of}
use Rattle.usb_request.specs.{IsToHost, get_port_status}
use Rattle.usb_device.specs.{Effect, Leaves, Registers, effect_of_request, outcome, Spec, reading}
use Rattle.usb_device.specs.{first_stage, Ports, vacant, taken, port_at, row_of, Location, State}
use Rattle.usb_world.specs.{World, asks_no_port}
use Rattle.usb_transfer.specs.{Target, AnswerRead}

pub whole_status : (b : PortState) → take 4 (status_of b) ≡ status_of b
unfolding status_of
whole_status b = refl

-- Trees

pub row_port : (k : Ports) (i : ℕ) → port_at k i [] ≡ slice_get (row_of k) i
unfolding port_at row_of
row_port (vacant b k) (suc i) = row_port k i
row_port (taken b s a k) (suc i) = row_port k i
row_port _ _ = refl

-- The status of a port

module _ (n : ℕ) where
  pub status_host : IsToHost (get_port_status n)
  unfolding get_port_status
  status_host = omega arith

  pub status_length : (get_port_status n).length ≡ 4
  unfolding get_port_status
  status_length = refl

  pub status_plain : asks_no_port (get_port_status n) ≡ true
  unfolding get_port_status
  status_plain = refl

  pub status_some : 1 ≤ (get_port_status n).length
  status_some = rw status_length (omega arith)

  pub status_few : (get_port_status n).length ≤ 8
  status_few = rw status_length (omega arith)

-- what the hub told
pub record StatusOf (row : List PortState) (i : ℕ) (answer : List ℕ) (o : Effect) : Type 0 where
  pub port : PortState
  pub stands : slice_get row i ≡ Some port
  pub told : answer ≡ status_of port
  pub nothing : o ≡ Leaves

pub get_port_status-outcome : (sp : Spec) (g : Registers) (row : List PortState) (d : State)
    (n : ℕ) (answer : List ℕ)
    → first_stage row d 4 (outcome sp g (get_port_status n)) ≡ reading answer 4 0
    → StatusOf row (n - 1) answer (effect_of_request (outcome sp g (get_port_status n)))
unfolding outcome get_port_status
get_port_status-outcome sp g row d n answer h = grind arith

-- an answer that was read tells the status of a port
module _ {t : Target} (n : ℕ) {bytes : List ℕ} {old new : World} {j : Location} {s v : State}
    (done : AnswerRead t (get_port_status n) bytes old new j s v) where
  pub read_status : StatusOf done.row (n - 1) done.answer
      (effect_of_request (outcome s.spec s.registers (get_port_status n)))
  read_status = grind (arith, get_port_status-outcome, status_length)

  pub came_status : bytes ≡ status_of read_status.port
  came_status = grind (arith, status_length, whole_status)
