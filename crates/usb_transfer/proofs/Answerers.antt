-- Who answered a transfer: a device that had the target's address all along, and is still
-- reachable.
use Rattle.std.specs.Global.{Vec}
use Rattle.std.proofs.Common.{arith, ◌≡◌, ℕ, true, false, List, Option, None, Some, refl, subst}
use Rattle.std.proofs.Common.{◌≢◌, inl, inr, [], take, Result, Ok, Err}
use Rattle.arrayvec.specs.ArrayVec.{ArrayVec}
use Rattle.usb_packet.specs.{Toggle, One, flips}
use Rattle.usb_request.specs.{bytes_of, setup_of, IsToHost, Setup}
use Rattle.usb_request.proofs.Interface.{length-bytes_of}
use Rattle.usb_device.specs.{State, Location, reach_on, state_on}
use Rattle.usb_world.specs.{is_harmless, Relation, Was, World, Attempt, IsSettled}
use Rattle.usb_world.proofs.Interface.{equal_same}
use Rattle.usb_transfer.specs.{Answerer, HadOne, heard_as, heard_when_sent, is_at, IsSpared}
use Rattle.usb_transfer.specs.{polled_as, TransactionDone, Transacted, in_attempt, out_attempt}
use Rattle.usb_transfer.specs.{TransFault, Target}
use Rattle.usb_transfer.specs.declared.trans_fault.TransFault.TheVariants as trans
use Rattle.usb_transfer.proofs.Trails.{transacted_unshared}
use Rattle.usb_transfer.proofs.DeviceRuns.{had_address}
use Rattle.usb_transfer.proofs.Calls.{IsGiven, who_in, who_out, who_set_up, who_waits, had_one}
use Rattle.usb_transfer.proofs.BulkTransactions.{sink_told, source_told}
use Rattle.usb_transfer.specs.{PipeState, Sends, Receives, as_pipe_fault, packet_target, Interrupt}
use Rattle.usb_transfer.specs.{Fetches, Polls, IsTransferAnswer, Gave, Came, SetUp, Goes, DataStage}
use Rattle.usb_transfer.specs.{NoSetUp, Reads, Writes, PipeFault, PipePolls, polled_pipe}
use Rattle.usb_transfer.specs.Moves as moves
use Rattle.usb_transfer.specs.Stages as stages
use Rattle.usb_transfer.specs.declared.condition.Condition.TheVariants.{Broken}
use Rattle.usb_transfer.specs.declared.fault.PipeFault.TheVariants as pipe_fault
use Rattle.usb_transfer.proofs.BulkCalls.{poll_by, send_by, receive_by, end_of}
use Rattle.usb_transfer.proofs.ControlSteps.{ended_settled, ended_unshared, host_harmless}
use Rattle.usb_transfer.proofs.ControlSteps.{Requested, requested_leaves}

-- Devices at the target's address

-- a reachable device at a place has it
record HasIt (t : Target) (w : World) (j : Location) : Type 0 where
  state : State
  on : reach_on w.roots j ≡ true
  stands : state_on w.roots j ≡ Some state
  at : is_at state t ≡ true

-- transactions leave the address where it is: what has it after them had it before
pub record Passed (t : Target) (old new : World) : Type 0 where
  settled : IsSettled old.roots → IsSettled new.roots
  unshared : new.shared ≡ false → old.shared ≡ false
  kept : IsSettled old.roots → new.shared ≡ false → (j : Location) → HasIt t new j → HasIt t old j

passed_none : (t : Target) (w : World) → Passed t w w
passed_none t w = grind arith

pub passed_then : {t : Target} {old mid new : World} → Passed t old mid → Passed t mid new
    → Passed t old new
passed_then x y = grind arith

-- one that ended, where it changes no device with another address
passed_one : {t : Target} {hear : _} {a : Attempt} {old new : World}
    {result : Result (List ℕ) TransFault} (R : Relation)
    → ((j : Location) (s v : State) → R j s v → is_at s t ≡ false → v ≡ s)
    → (IsSettled old.roots → new.shared ≡ false → (j : Location) (s : State)
    → reach_on new.roots j ≡ true → state_on new.roots j ≡ Some s → is_at s t ≡ true
    → Was R old j s) → TransactionDone hear a old result new → Passed t old new
passed_one {t} {old = old} R others each e = record {
  settled = ended_settled e;
  unshared = ended_unshared e;
  kept = λ h single j d.
      let was : Was R old j d.state = grind arith in
      record {
        state = was.before;
        on = was.on;
        stands = was.stands;
        at = grind (arith, had_address);
      };
}

-- a device at an address that is not 0 was not reset
spared_at : (t : Target) (request : Setup) (s : State) → (is_harmless request ≡ false → t.addr ≢ 0)
    → is_at s t ≡ true → IsSpared t request s
spared_at t request s addressed at = grind (arith, equal_same)

pub set_up_passed : (t : Target) (request : Setup) {old new : World}
    → (is_harmless request ≡ false → t.addr ≢ 0) → setup_of (bytes_of request) ≡ request
    → SetUp t request old (Ok []) new → Passed t old new
set_up_passed t request {old} {new} addressed same e =
    passed_one (Requested t request (Ok []) old new) (λ j s v x. x.done.others)
    (search (requested_leaves, spared_at)) e

-- an IN, and an OUT
fetched_passed : (t : Target) (ep : ℕ) (awaited : Toggle) (bytes : List ℕ) {old new : World}
    → TransactionDone (heard_as awaited) (in_attempt t ep) old (Ok bytes) new → Passed t old new
fetched_passed t ep awaited bytes {old} {new} e =
    passed_one _ (λ j s v x. x.leaves.others)
    (λ h single j s on there at. source_told t ep awaited (Ok bytes) old new h e single j s on
    there)
    e

put_passed : (t : Target) (ep : ℕ) (toggle : Toggle) (bytes : List ℕ) {old new : World}
    → TransactionDone heard_when_sent (out_attempt t ep toggle bytes) old (Ok []) new
    → Passed t old new
put_passed t ep toggle bytes {old} {new} e =
    passed_one _ (λ j s v x. x.leaves.others)
    (λ h single j s on there at. sink_told t ep toggle bytes (Ok []) old new h e single j s on
    there)
    e

-- the packets of a transfer

goes_passed : (t : Target) {wanted : ℕ} {old : World} {n : ℕ} {got : List ℕ} {new : World}
    → Goes t wanted old n got new → Passed t old new
goes_passed t {old} stages.start = passed_none t old
goes_passed t (stages.packet {n} bytes g x l) =
    passed_then (goes_passed t g) (search fetched_passed)

stage_passed : (t : Target) {wanted : ℕ} {bytes : List ℕ} {old new : World}
    → DataStage t wanted old bytes new → Passed t old new
stage_passed t d = passed_then (goes_passed t d.before)
    (fetched_passed t 0 (flips d.packets One) d.last d.came)

pub gave_passed : (t : Target) (ep : ℕ) (first : Toggle) {old : World} {n : ℕ} {sent : List ℕ}
    {new : World} → Gave t ep first old n sent new → Passed t old new
gave_passed t ep first {old} moves.start = passed_none t old
gave_passed t ep first (moves.packet {n} bytes g full some fits puts) =
    passed_then (gave_passed t ep first g) (search put_passed)

came_passed : (t : Target) (ep : ℕ) (first : Toggle) {old : World} {n : ℕ} {got : List ℕ}
    {new : World} → Came t ep first old n got new → Passed t old new
came_passed t ep first {old} moves.start = passed_none t old
came_passed t ep first (moves.packet {n} bytes c fetches full) =
    passed_then (came_passed t ep first c) (search fetched_passed)

-- The device that answered the last one

answered_last : {t : Target} (hear : _) (a : Attempt) {old mid : World} (new : World)
    (result : Result (List ℕ) TransFault) → Passed t old mid → IsSettled old.roots
    → Transacted hear a mid result new → new.shared ≡ false
    → (IsSettled mid.roots → Answerer t mid new) → Answerer t old new
answered_last {t} hear a {old} {mid} new result x settled e single last =
    let later : IsSettled mid.roots = x.settled settled in
    let y : Answerer t mid new = last later in
    let had : HasIt t old y.spot = grind (arith, transacted_unshared) in grind arith

-- of an IN, and of an OUT
pub in_answered : (t : Target) (ep : ℕ) (awaited : Toggle) (result : Result (List ℕ) TransFault)
    {old mid new : World} → Passed t old mid → IsSettled old.roots → IsGiven result
    → Transacted (heard_as awaited) (in_attempt t ep) mid result new → new.shared ≡ false
    → Answerer t old new
in_answered t ep awaited result x settled y e single = grind (arith, answered_last, who_in)

out_answered : (t : Target) (ep : ℕ) (toggle : Toggle) (bytes : List ℕ)
    (result : Result (List ℕ) TransFault) {old mid new : World} → Passed t old mid
    → IsSettled old.roots → IsGiven result
    → Transacted heard_when_sent (out_attempt t ep toggle bytes) mid result new
    → new.shared ≡ false → Answerer t old new
out_answered t ep toggle bytes result x settled y e single = grind (arith, answered_last, who_out)

-- it is the device of the pipe
pub of_device : (t : Target) (max : ℕ) {old new : World} → Answerer (packet_target t max) old new
    → Answerer t old new
of_device t max a = grind arith

-- a fault that is an answer is one of the transaction, too
given_fault : (why : PipeFault) (fault : TransFault) → why ≡ as_pipe_fault fault
    → IsTransferAnswer why → IsGiven {A = List ℕ} (Err fault)
given_fault why fault e y = grind arith

-- Control transfers

-- a request for data resets none
host_addressed : (t : Target) (request : Setup) → IsToHost request → is_harmless request ≡ false
    → t.addr ≢ 0
host_addressed t request host h = grind (arith, host_harmless)

pub who_reads : (t : Target) (request : Setup) (bytes : Vec ℕ) (old new : World) → IsToHost request
    → setup_of (bytes_of request) ≡ request
    → IsSettled old.roots → Reads t request old (Ok bytes) new → new.shared ≡ false
    → Answerer t old new
who_reads t request bytes old new host same settled x single =
    out_answered t 0 One [] (Ok []) (passed_then (search (host_addressed, set_up_passed, x.set_up))
    (stage_passed t x.data_stage)) settled tt
    x.status single

pub who_writes : (t : Target) (request : Setup) (u : Unit {0}) (old new : World)
    → setup_of (bytes_of request) ≡ request → (is_harmless request ≡ false → t.addr ≢ 0)
    → IsSettled old.roots → Writes t request old (Ok u) new → new.shared ≡ false
    → Answerer t old new
who_writes t request u old new same addressed settled x single =
    in_answered t 0 One (Ok x.given) (search (set_up_passed, x.set_up)) settled tt
    x.status single

no_set_up_had : (t : Target) (request : Setup) (why : PipeFault) (old new : World)
    → setup_of (bytes_of request) ≡ request → (is_harmless request ≡ false → t.addr ≢ 0)
    → IsSettled old.roots
    → IsTransferAnswer why → NoSetUp t request old why new → new.shared ≡ false → HadOne t old
no_set_up_had t request why old new same addressed settled y x single =
    had_one (who_set_up t (bytes_of request) (Err x.fault) old new (length-bytes_of request)
    (grind arith) settled (given_fault why x.fault x.told y)
    x.set_up single)

pub who_read_had : (t : Target) (request : Setup) (why : PipeFault) (old new : World)
    → IsToHost request → setup_of (bytes_of request) ≡ request
    → IsSettled old.roots → IsTransferAnswer why → Reads t request old (Err why) new
    → new.shared ≡ false → HadOne t old
who_read_had t request why old new host same settled y (inl x) single =
    search (host_addressed, no_set_up_had)
who_read_had t request why old new host same settled y (inr (inl x)) single =
    let set_up : Passed t old x.mid = search (host_addressed, set_up_passed, x.set_up) in
    elim x.data_stage [
      | inl d ↦ had_one (in_answered t 0 (flips d.packets One) (Err d.fault)
          (passed_then set_up (goes_passed t d.before)) settled (given_fault why d.fault d.told y)
          d.lost single)
      | inr d ↦ had_one (in_answered t 0 (flips d.packets One) (Ok d.last)
          (passed_then set_up (goes_passed t d.before)) settled tt d.came single)
    ]
who_read_had t request why old new host same settled y (inr (inr x)) single =
    had_one (out_answered t 0 One [] (Err x.fault)
    (passed_then (search (host_addressed, set_up_passed, x.set_up))
    (stage_passed t x.data_stage)) settled
    (given_fault why x.fault x.told y) x.status single)

pub who_write_had : (t : Target) (request : Setup) (why : PipeFault) (old new : World)
    → setup_of (bytes_of request) ≡ request → (is_harmless request ≡ false → t.addr ≢ 0)
    → IsSettled old.roots → IsTransferAnswer why → Writes t request old (Err why) new
    → new.shared ≡ false → HadOne t old
who_write_had t request why old new same addressed settled y (inl x) single = search no_set_up_had
who_write_had t request why old new same addressed settled y (inr x) single =
    had_one (in_answered t 0 One (Err x.fault) (search (set_up_passed, x.set_up))
    settled (given_fault why x.fault x.told y) x.status single)

-- Bulk transfers

-- where bytes went there is a last packet
gone_answered : (t : Target) (ep : ℕ) (first : Toggle) {old : World} {n : ℕ} {sent : List ℕ}
    {new : World} → IsSettled old.roots → Gave t ep first old n sent new → sent ≢ []
    → new.shared ≡ false → Answerer t old new
gone_answered t ep first settled moves.start some single = absurd (some refl)
gone_answered t ep first settled (moves.packet {n} bytes g full more fits puts) some single =
    out_answered t ep (flips n first) bytes (Ok []) (gave_passed t ep first g) settled tt puts
    single

pub who_sends : (bytes : List ℕ) (pipe : PipeState) (u : Unit {0}) (left : PipeState)
    (old new : World)
    → bytes ≢ []
    → Sends bytes pipe old (Ok u) left new → new.shared ≡ false → Answerer pipe.target old new
who_sends bytes pipe u left old new some x single = grind (arith, end_of, gone_answered, of_device)

module _ (pipe : PipeState) {old new : World} (settled : IsSettled old.roots)
    (single : new.shared ≡ false) where
  -- behind packets that came
  came_answered : {n : ℕ} {got : List ℕ} {mid : World} (result : Result (List ℕ) TransFault)
      → Came (end_of pipe) pipe.ep pipe.toggle old n got mid → IsGiven result
      → Fetches (end_of pipe) pipe.ep (flips n pipe.toggle) mid result new
      → Answerer pipe.target old new
  came_answered {n} result c y e = of_device pipe.target pipe.max
      (in_answered (end_of pipe) pipe.ep (flips n pipe.toggle) result
      (search (came_passed, end_of)) settled y e single)

pub who_receives : (wanted : ℕ) (pipe : PipeState) (bytes : Vec ℕ) (left : PipeState)
    (old new : World)
    → wanted ≢ 0 → Receives wanted pipe old (Ok bytes) left new → new.shared ≡ false
    → Answerer pipe.target old new
who_receives wanted pipe bytes left old new some x single =
    let works : pipe.condition ≢ Broken = λ e. cc (x.broken e).0 in
    let r = x.moved works some in
    came_answered pipe r.settled single (Ok r.came.last) r.came.before tt r.came.came

not_broken : (why : PipeFault) → IsTransferAnswer why → ◌≢◌ {A = PipeFault} why pipe_fault.Broken
not_broken why y e = subst IsTransferAnswer e y

pub who_send_had : (bytes : List ℕ) (pipe : PipeState) (why : PipeFault) (left : PipeState)
    (old new : World) → IsTransferAnswer why
    → Sends bytes pipe old (Err why) left new → new.shared ≡ false → HadOne pipe.target old
who_send_had bytes pipe why left old new y x single =
    let t = end_of pipe in
    send_by (HadOne pipe.target old) (λ i. absurd (not_broken why y (cc i.answer)))
    (λ none i. cc i.answer)
    (λ works some m. let g = m.went in had_one (of_device pipe.target pipe.max
    (out_answered t pipe.ep (flips g.packets pipe.toggle) (take pipe.max g.rest) (Err g.fault)
    (gave_passed t pipe.ep pipe.toggle g.before) m.settled (given_fault why g.fault g.told y)
    g.lost single))) x

pub who_receive_had : (wanted : ℕ) (pipe : PipeState) (why : PipeFault) (left : PipeState)
    (old new : World) → IsTransferAnswer why
    → Receives wanted pipe old (Err why) left new → new.shared ≡ false → HadOne pipe.target old
who_receive_had wanted pipe why left old new y x single =
    receive_by (HadOne pipe.target old) (λ broken kept same. absurd (not_broken why y (cc broken)))
    (λ bytes is none kept same. cc is)
    (λ works some m. elim m.came [
      | inl g ↦ had_one (came_answered pipe m.settled single (Err g.fault) g.before
          (given_fault why g.fault g.told y) g.lost)
      | inr g ↦ had_one (came_answered pipe m.settled single (Ok g.last) g.before tt g.came)
    ]) x

-- Polls

pub who_polls : (pipe : Interrupt) (got : Option (ArrayVec ℕ)) (left : Interrupt) (old new : World)
    → IsSettled old.roots
    → Polls pipe old (Ok got) left new → new.shared ≡ false → Answerer pipe.target old new
who_polls pipe None left old new settled x single =
    who_waits pipe.target pipe.ep pipe.toggle old new settled x.asked single
who_polls pipe (Some packet) left old new settled x single =
    who_in pipe.target pipe.ep (polled_as pipe.toggle) refl (Ok packet.items) old new settled tt
    x.asked single

poll_answered : (pipe : Interrupt) (why : PipeFault) (left : Interrupt) (old new : World)
    → IsSettled old.roots → IsTransferAnswer why
    → Polls pipe old (Err why) left new → new.shared ≡ false → Answerer pipe.target old new
poll_answered pipe why left old new settled y x single =
    let n = x.asked in
    who_in pipe.target pipe.ep (polled_as pipe.toggle) refl (Err n.fault) old new settled
    (given_fault why n.fault n.told y) n.polled single

pub who_poll_had : (pipe : Interrupt) (why : PipeFault) (left : Interrupt) (old new : World)
    → IsSettled old.roots → IsTransferAnswer why
    → Polls pipe old (Err why) left new → new.shared ≡ false → HadOne pipe.target old
who_poll_had pipe why left old new settled y x single =
    had_one (poll_answered pipe why left old new settled y x single)

pub who_packet_had : (pipe : PipeState) (why : PipeFault) (left : PipeState) (old new : World)
    → IsTransferAnswer why
    → PipePolls pipe old (Err why) left new → new.shared ≡ false → HadOne pipe.target old
who_packet_had pipe why left old new y x single =
    poll_by (HadOne pipe.target old) (grind (arith, not_broken))
    (λ works m. had_one (of_device pipe.target pipe.max
    (poll_answered (polled_pipe pipe) why (polled_pipe left) old new m.settled y m.polls single))) x
