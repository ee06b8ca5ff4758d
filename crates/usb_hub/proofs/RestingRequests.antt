-- Requests that ask nothing of any port.
use Rattle.usb_device.specs.{Location, State}
use Rattle.std.proofs.Common.{◌≡◌, ℕ, ◌⊎◌, inl, inr, true, false, List, Result, refl, sym, subst}
use Rattle.std.proofs.Common.{arith}
use Rattle.std.specs.Global.{Vec}
use Rattle.usb_request.specs.{bytes_of, IsToHost, Setup}
use Rattle.usb_request.proofs.Interface.{same_setup}
use Rattle.usb_world.specs.{Attempt, is_setup, asks_no_port, LeavesPortAlone, World, Step, attempt}
use Rattle.usb_world.specs.{Course, IsSettled}
use Rattle.usb_world.proofs.Interface.{course_then, data_asks_nothing, payload_asks_nothing}
use Rattle.usb_world.proofs.Interface.{settled_wider}
use Rattle.usb_transfer.specs.{Target, AcceptedAt, setup_attempt, PipeFault, IsOfDataWrite}
use Rattle.usb_transfer.specs.{IsOfTransfer, PutsData, Reads, Writes, IsBehind, IsBehindData}
use Rattle.usb_transfer.specs.{IsNoBusFault}
use Rattle.usb_transfer.proofs.Interface.{trail_course, put_attempts, read_attempts, write_attempts}
use Rattle.usb_hub.specs.{TouchesNoPort}

-- an attempt behind a SETUP is none
pub no_set_up : {a b d : Attempt} → (a ≡ b) ⊎ (a ≡ d) → is_setup b.kind ≡ false
    → is_setup d.kind ≡ false → is_setup a.kind ≡ false
no_set_up h f g = grind arith

-- a step behind a SETUP asks nothing of any port
pub behind_rests : (t : Target) (x : List ℕ) (s : Step) (w : World) → IsBehind t s w
    → IsSettled w.roots → LeavesPortAlone x s w
behind_rests t x (attempt a) w k h = data_asks_nothing a w x (no_set_up k refl refl) h
behind_rests t x _ w k h = elim k [ ]

pub behind_asks_nothing : (t : Target) (x : List ℕ) {w v : World} → Course (IsBehind t) w v
    → IsSettled w.roots → Course (LeavesPortAlone x) w v
behind_asks_nothing t x c = settled_wider (behind_rests t x) c

-- a course of setup data that ask nothing of ports
pub resting_course : (t : Target) (request : Setup) → asks_no_port request ≡ true
    → {j : Location} {s v : State} (old now : World) → AcceptedAt t (bytes_of request) old now j s v
    → TouchesNoPort old now
resting_course t request plain old now at x =
    subst (λ w. Course (LeavesPortAlone x) old w) (sym at.last)
    (course_then (attempt (setup_attempt t (bytes_of request)))
    (trail_course (λ w made. asks w) at.trail) (asks at.mid))
  where
    asks : (w : World) → LeavesPortAlone x (attempt (setup_attempt t (bytes_of request))) w
    asks w = search (payload_asks_nothing, same_setup)

-- a whole transfer of such a request
module _ (t : Target) (request : Setup) (plain : asks_no_port request ≡ true) where
  step_rests : (x : List ℕ) (s : Step) (w : World) → IsOfTransfer t request s w → IsSettled w.roots
      → LeavesPortAlone x s w
  step_rests x s w (inl e) h =
      subst (λ s. LeavesPortAlone x s w) (sym e) (search (payload_asks_nothing, same_setup))
  step_rests x s w (inr k) h = behind_rests t x s w k h

  transfer_rests : (x : List ℕ) {w v : World} → Course (IsOfTransfer t request) w v
      → IsSettled w.roots → Course (LeavesPortAlone x) w v
  transfer_rests x c = settled_wider (step_rests x) c

-- an attempt behind one with data to the device is none
pub behind_data_kind : (t : Target) (a : Attempt) (w : World) → IsBehindData t (attempt a) w
    → is_setup a.kind ≡ false
behind_data_kind t a w h = grind arith

-- a whole transfer with data to the device
module _ (t : Target) (request : Setup) (plain : asks_no_port request ≡ true) where
  data_behind_rests : (x : List ℕ) (s : Step) (w : World) → IsBehindData t s w
      → IsSettled w.roots → LeavesPortAlone x s w
  data_behind_rests x (attempt a) w k h = data_asks_nothing a w x (behind_data_kind t a w k) h
  data_behind_rests x _ w k h = elim k [ ]

  data_step_rests : (x : List ℕ) (s : Step) (w : World) → IsOfDataWrite t request s w
      → IsSettled w.roots → LeavesPortAlone x s w
  data_step_rests x s w (inl e) h = step_rests t request plain x s w (inl e) h
  data_step_rests x s w (inr k) h = data_behind_rests x s w k h

  pub put_rests : (bytes : List ℕ) (result : Result (Unit {0}) PipeFault) (old new : World)
      → IsSettled old.roots → PutsData t request bytes old result new → IsNoBusFault result
      → TouchesNoPort old new
  put_rests bytes result old new settled puts sound x =
      settled_wider (data_step_rests x) (grind (arith, put_attempts)) settled

read_asks_no_port : (request : Setup) → IsToHost request → asks_no_port request ≡ true
read_asks_no_port request host = grind arith

pub reads_rests : (t : Target) (request : Setup) (result : Result (Vec ℕ) PipeFault)
    (old new : World) → IsToHost request → IsSettled old.roots → Reads t request old result new
    → IsNoBusFault result → TouchesNoPort old new
reads_rests t request result old new host settled reads sound x =
    transfer_rests t request (read_asks_no_port request host) x
    (grind (arith, read_attempts)) settled

pub write_rests : (t : Target) (request : Setup) (result : Result (Unit {0}) PipeFault)
    (old new : World) → IsSettled old.roots → Writes t request old result new
    → asks_no_port request ≡ true → IsNoBusFault result → TouchesNoPort old new
write_rests t request result old new settled writes plain sound =
    grind (arith, transfer_rests, write_attempts)
