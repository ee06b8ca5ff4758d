-- Bulk transfers: what sending and receiving leave of each device, in the end and at each moment,
-- why they fail, and the record of a call.
use Rattle.usb_device.specs.{Location, State, IsSink, SinkAt, level, ahead, Joined, OnlySink}
use Rattle.usb_device.specs.{IsSource, SourceAt, OnlySource, in_data, in_end, out_end, next_packet}
use Rattle.usb_device.specs.{GivesWithin, HasPackets, IsPrompt}
use Rattle.std.proofs.Common.{◌≡◌, ◌≢◌, ◌∙◌, ◌⊎◌, inl, inr, refl, sym, subst, arith, false, true, ℕ}
use Rattle.std.proofs.Common.{◌+◌, ◌<◌, ◌≤◌, List, [], ◌++◌, length, take, drop, Result, Ok, Err}
use Rattle.std.proofs.Common.{OnOk, is_some, append_assoc, append-nil, length-take}
use Rattle.std.proofs.Common.{take-append-drop}
use Rattle.std.specs.Global.{Vec}
use Rattle.std.specs.Int.{div_ceil}
use Rattle.usb_packet.specs.{Toggle, other, flips}
use Rattle.usb_packet.proofs.Interface.{flips_next}
use Rattle.usb_world.specs.{IsSettled, World, EachWas, Relation}
use Rattle.usb_world.proofs.Interface.{each_joined, each_none, each_wider}
use Rattle.usb_transfer.specs.{Target, TransFault, Answerer, Listens, SinkOutFailure}
use Rattle.usb_transfer.specs.{SourceInFailure, heard_as, is_at, SinkEnds, SinkOut, SinkBetween}
use Rattle.usb_transfer.specs.{SourceIn, TransactionDone, in_attempt}
use Rattle.usb_transfer.specs.declared.trans_fault.TransFault.TheVariants as trans
use Rattle.usb_transfer.proofs.BulkTransactions.{at_kept, sink_between, sink_told, source_told}
use Rattle.usb_transfer.proofs.BulkTransactions.{sink_kept, sink_over, source_at_kept, source_kept}
use Rattle.usb_transfer.proofs.DeviceRuns.{listens_on, others_stay_then, DeviceTold, told_leaves}
use Rattle.usb_transfer.proofs.DeviceRuns.{told_why}
use Rattle.usb_transfer.proofs.Trails.{trail_unshared, transacted_unshared}
use Rattle.usb_transfer.specs.declared.condition.Condition.TheVariants.{Ready, Halted, Broken}
use Rattle.usb_transfer.specs.{PipeFault, PipeState, after_fault, after_transfer, MovedOut, Sends}
use Rattle.usb_transfer.specs.{MovedIn, Receives, PacketsSent, PacketsReceived, FaultAfter}
use Rattle.usb_transfer.specs.{as_pipe_fault, packet_target, SendFailure, ReceiveFailure}
use Rattle.usb_transfer.specs.{pipe_known, came_with, OutPipeInSync, FrontTaken, SendLeaves}
use Rattle.usb_transfer.specs.{SendingLeaves, InPipeInSync, GaveNext, ReceiveLeaves, Gave, Came}
use Rattle.usb_transfer.specs.{NotGone, WhileSending, AllCame, NotCame, NoRoomLeft, Unshared}
use Rattle.usb_transfer.specs.{PipeSend, PipeReceive}
use Rattle.usb_transfer.specs.declared.fault.PipeFault.TheVariants as pipe_fault
use Rattle.usb_transfer.specs.Moves.{start, packet}
use Rattle.usb_transfer.proofs.Answerers.{who_sends, who_receives}
use Rattle.usb_transfer.proofs.BulkCalls.{ready_or, send_by, receive_by, gave_settled}
use Rattle.usb_transfer.proofs.BulkCalls.{received_settled, end_of}
use Rattle.usb_transfer.proofs.ControlSteps.{ended_unshared, ended_damages, never_three}
use Rattle.usb_transfer.proofs.MovedPackets.{gave_packets, all_packets}
use Rattle.usb_transfer.proofs.NextPackets.{CameFrom, no_bytes, none_came_from, one_came_then}
use Rattle.usb_transfer.proofs.NextPackets.{one_there}
use Rattle.usb_transfer.proofs.TransactionFaults.{Fell, fell_same_fault}
use Rattle.usb_transfer.proofs.TransferLosses.{send_losses, receive_losses}

-- the other toggle is that of the next packet
turned_on : (n : ℕ) (first toggle : Toggle) → toggle ≡ other (flips n first)
    → toggle ≡ flips (n + 1) first
turned_on n first toggle e = grind (arith, flips_next)

-- the packets of an endpoint have a maximum of their own
pub listens_packet : (t : Target) (max : ℕ) (place : Location) (s u : State) → u.spec ≡ s.spec
    → u.registers ≡ s.registers → Listens t place s → Listens (packet_target t max) place u
listens_packet t max place s u e f l = grind (arith, listens_on)

-- What packets that were acknowledged leave of one device

record GaveLeaves (t : Target) (ep : ℕ) (first : Toggle) (n : ℕ) (sent : List ℕ) (j : Location)
    (s v : State) : Type 0 where
  others : is_at s t ≡ false → v ≡ s
  frame : IsSink ep t.max s → OnlySink ep s v
  paced : is_at s t ≡ true → IsSink ep t.max s → IsPrompt (out_end s ep).pace
      → IsPrompt (out_end v ep).pace
  sink : is_at s t ≡ true → IsSink ep t.max s → (out_end s ep).state.toggle ≡ first
      → ((out_end v ep).sink ≡ (out_end s ep).sink ++ sent)
      × ((out_end v ep).state.toggle ≡ flips n first)
  halted : is_at s t ≡ true → IsSink ep t.max s → (out_end s ep).state.halted ≡ true
      → (v ≡ s) × (sent ≡ [])

-- the endpoint behind them, which awaits the next one
module _ {t : Target} {ep : ℕ} {first : Toggle} {n : ℕ} {sent : List ℕ} {j : Location} {s u : State}
    (x : GaveLeaves t ep first n sent j s u) (i : IsSink ep t.max s) where
  sink_then : IsSink ep t.max u
  sink_then = sink_kept ep t.max s u (x.frame i) i

  sink_at : is_at s t ≡ true → is_at u t ≡ true
  sink_at h = at_kept t s u (x.frame i) h

  sink_level : (bytes : List ℕ) → is_at s t ≡ true → (out_end s ep).state.toggle ≡ first
      → SinkAt ep ((out_end s ep).sink ++ sent) bytes (flips n first) u
  sink_level bytes h e = grind arith

  sink_halted : is_at s t ≡ true → (out_end s ep).state.halted ≡ true
      → (out_end u ep).state.halted ≡ true
  sink_halted h c = grind arith

  sink_frame : (v : State) → ((most : ℕ) → IsSink ep most u → OnlySink ep u v) → OnlySink ep s v
  sink_frame v f = grind (arith, sink_then)

gave_no_packets : (t : Target) (ep : ℕ) (first : Toggle) (j : Location) (s : State)
    → GaveLeaves t ep first 0 [] j s s
unfolding flips
gave_no_packets t ep first j s = grind (arith, append-nil)

gave_packet_then : (t : Target) (ep : ℕ) (first : Toggle) (n : ℕ) (sent bytes : List ℕ)
    → length bytes ≤ t.max → (j : Location) (s u v : State)
    → GaveLeaves t ep first n sent j s u → SinkOut t ep (flips n first) bytes (Ok []) j u v
    → GaveLeaves t ep first (n + 1) (sent ++ bytes) j s v
gave_packet_then t ep first n sent bytes fits j s u v x y = record {
  others = others_stay_then t s u v x.others y.others;
  frame = λ i. sink_frame x i v y.frame;
  paced = grind (arith, sink_at, sink_then);
  sink = λ h i e.
      let before = (out_end s ep).sink in
      let z : Joined ep (before ++ sent) bytes (flips n first) v =
      search (sink_at, sink_level, sink_then, y.sink, t.max) in (
        z.sink ∙ append_assoc before sent bytes,
        turned_on n first (out_end v ep).state.toggle z.toggle,
      );
  halted = grind (arith, sink_at, sink_halted, sink_then);
}

gave_leaves : (t : Target) (ep : ℕ) (first : Toggle) {old : World} {n : ℕ} {sent : List ℕ}
    {new : World} → IsSettled old.roots → Gave t ep first old n sent new → new.shared ≡ false
    → EachWas (GaveLeaves t ep first n sent) old new
gave_leaves t ep first {old} settled start single = each_none _ (gave_no_packets t ep first) old
gave_leaves t ep first {old} {new} settled (packet {n} {sent} {mid} bytes g full some fits puts)
    single =
    each_joined _ _ _ (search gave_packet_then) old mid new
    (gave_leaves t ep first settled g (ended_unshared puts single))
    (sink_over t ep (flips n first) bytes (Ok []) mid new (gave_settled g settled) puts single)

gave_damages : {t : Target} {ep : ℕ} {first : Toggle} {old : World} {n : ℕ} {sent : List ℕ}
    {new : World} → Gave t ep first old n sent new → new.damages ≡ old.damages
gave_damages start = refl
gave_damages (packet bytes g full some fits puts) = ended_damages puts ∙ gave_damages g

-- A packet that did not go

lost_at : (ep : ℕ) (before bytes : List ℕ) (t : Toggle) (why : PipeFault) (fault : TransFault)
    (v : State) → why ≡ as_pipe_fault fault → SinkEnds ep before bytes t (Err fault) v
    → SinkAt ep before bytes t v
    × (why ≡ pipe_fault.Stalled → (out_end v ep).state.halted ≡ true)
lost_at ep before bytes t why fault v told x = grind arith

sink_front_taken : (ep : ℕ) (total before sent rest : List ℕ) (k : ℕ) (t : Toggle) (v : State)
    → total ≡ sent ++ rest → SinkAt ep (before ++ sent) (take k rest) t v
    → FrontTaken total before (out_end v ep).sink
sink_front_taken ep total before sent rest k t v split (level a b) = grind arith
sink_front_taken ep total before sent rest k t v split (ahead a b) = record {
  front = sent ++ take k rest;
  rest = drop k rest;
  split = grind (arith, append_assoc, take-append-drop);
  sink = a ∙ append_assoc before sent (take k rest);
}

none_taken : (total before : List ℕ) → FrontTaken total before before
none_taken total before = grind (arith, append-nil)

fits_packet : (max : ℕ) (rest : List ℕ) → length (take max rest) ≤ max
fits_packet max rest = let l = length-take max rest in omega (arith, l)

-- One device and its pipe

-- a call that makes no attempt
idle_leaves : (bytes : List ℕ) (pipe : PipeState) (given : Result (Unit {0}) PipeFault)
    → pipe_known given pipe ≡ pipe → OnOk given (bytes ≡ []) → (j : Location) (s : State)
    → SendLeaves bytes pipe given pipe j s s
idle_leaves bytes pipe given same none j s = grind (arith, none_taken, append-nil)

module _ (bytes : List ℕ) (pipe left : PipeState) (n : ℕ) (works : pipe.condition ≢ Broken) where
  abbrev Given : List ℕ → Location → State → State → Type 0
  Given sent = GaveLeaves (end_of pipe) pipe.ep pipe.toggle n sent

  -- all went
  all_sent : (done : Unit {0}) → bytes ≢ [] → left ≡ record pipe {
    toggle = left.toggle;
    condition = Ready;
  } → left.toggle ≡ flips n pipe.toggle → (j : Location) (s v : State) → Given bytes j s v
      → SendLeaves bytes pipe (Ok done) left j s v
  all_sent done some = grind (arith, sink_then)

  -- one did not go, behind others that did
  lost_sent : (old new : World) (sent rest : List ℕ) (why : PipeFault) (fault : TransFault)
      → FaultAfter 0 old why new → bytes ≡ sent ++ rest → why ≡ as_pipe_fault fault
      → left ≡ record pipe { toggle = left.toggle; condition = after_fault pipe.condition why }
      → (j : Location) (s u v : State) → Given sent j s u
      → SinkOut (end_of pipe) pipe.ep (flips n pipe.toggle) (take pipe.max rest) (Err fault) j u
      v → SendLeaves bytes pipe (Err why) left j s v
  lost_sent old new sent rest why fault ends split told e j s u v x y =
      grind (arith, others_stay_then, frame, lost, sink_kept, x.others, y.others)
    where
      frame : IsSink pipe.ep pipe.max s → OnlySink pipe.ep s v
      frame i = sink_frame x i v y.frame

      lost : is_at s pipe.target ≡ true → OutPipeInSync pipe s
          → FrontTaken bytes (out_end s pipe.ep).sink (out_end v pipe.ep).sink
          × (why ≡ pipe_fault.Stalled → (out_end v pipe.ep).state.halted ≡ true)
      lost h f =
          let i = f.endpoint in
          let before = (out_end s pipe.ep).sink in
          ready_or _ pipe.condition works
          (λ r.
          let z = lost_at pipe.ep (before ++ sent) (take pipe.max rest) (flips n pipe.toggle) why
          fault v told
          (y.sink (sink_at x i h) pipe.max (before ++ sent) (sink_then x i)
          (fits_packet pipe.max rest) (grind (arith, sink_level))) in (
            sink_front_taken pipe.ep bytes before sent rest pipe.max (flips n pipe.toggle) v split
                z.0,
            z.1,
          ))
          (λ r.
          let same : v ≡ s = grind (arith, sink_at, sink_halted, sink_then) in
          rw same (none_taken bytes before, λ stalled. f.halted r))

-- A call that sends

-- an answer that is neither fault
never_sent : (pipe : PipeState) (result : Result (Unit {0}) PipeFault)
    → result ≢ Err pipe_fault.NoAnswer → result ≢ Err pipe_fault.Busy → {j : Location} {s v : State}
    → SendFailure pipe result j s v
never_sent pipe result answered waited = grind arith

lost_send : (pipe : PipeState) (n : ℕ) (sent rest : List ℕ) (why : PipeFault) (fault : TransFault)
    → why ≡ as_pipe_fault fault → (j : Location) (s u v : State)
    → GaveLeaves (end_of pipe) pipe.ep pipe.toggle n sent j s u
    → SinkOutFailure (end_of pipe) pipe.ep (flips n pipe.toggle) (take pipe.max rest)
    (Err fault) j u v → SendFailure pipe (Err why) j s v
lost_send pipe n sent rest why fault told j s u v x y =
    grind (arith, fell_same_fault, fits_packet, listens_packet, sink_then, x.paced, x.frame)

abbrev pub SendTold : List ℕ → PipeState → Result (Unit {0}) PipeFault → PipeState → World
    → Relation
SendTold bytes pipe result left =
    DeviceTold (SendLeaves bytes pipe result left) (SendFailure pipe result)

sent_told : (bytes : List ℕ) (pipe : PipeState) (result : Result (Unit {0}) PipeFault) (left :
    PipeState)
    (old new : World) → pipe.condition ≢ Broken → bytes ≢ []
    → MovedOut (div_ceil (length bytes) pipe.max) bytes pipe old result left new
    → new.shared ≡ false → EachWas (SendTold bytes pipe result left old) old new
sent_told bytes pipe (Ok done) left old new works some x single =
    let turned : left.toggle ≡ flips x.went.packets pipe.toggle =
    grind (arith, end_of, gave_packets) in
    each_wider _ _ (λ j s v y. record {
      leaves = grind (arith, all_sent);
      why = grind (arith, never_sent);
    }) old new (gave_leaves (end_of pipe) pipe.ep pipe.toggle x.settled x.went.gone single)
sent_told bytes pipe (Err why) left old new works some x single =
    let g : NotGone (end_of pipe) pipe.ep pipe.toggle bytes old why new = x.went in
    let began : IsSettled g.mid.roots = gave_settled g.before x.settled in
    each_joined _ _ _ (λ j s u v y z. record {
      leaves = search (lost_sent, x.ends, x.pipe_left);
      why = grind (arith, gave_damages, lost_send, never_three);
    }) old g.mid new
    (gave_leaves (end_of pipe) pipe.ep pipe.toggle x.settled g.before
    (transacted_unshared _ _ _ _ (Err g.fault) g.lost began single))
    (sink_told (end_of pipe) pipe.ep (flips g.packets pipe.toggle) (take pipe.max g.rest)
    (Err g.fault) g.mid new began g.lost single)

each_send : (bytes : List ℕ) (pipe : PipeState) (result : Result (Unit {0}) PipeFault)
    (left : PipeState) (old new : World) → Sends bytes pipe old result left new → new.shared ≡ false
    → EachWas (SendTold bytes pipe result left old) old new
each_send bytes pipe result left old new x single =
    send_by (EachWas (SendTold bytes pipe result left old) old new)
    (λ i. rw (i.answer, i.pipe_kept, i.world_kept)
    (each_none _ (grind (arith, idle_leaves, never_sent)) old))
    (λ none i. rw (i.answer, i.pipe_kept, i.world_kept)
    (each_none _ (grind (arith, idle_leaves, never_sent)) old)) (search sent_told) x

pub send_leaves : (bytes : List ℕ) (pipe : PipeState) (result : Result (Unit {0}) PipeFault)
    (left : PipeState) (old new : World) → Sends bytes pipe old result left new → new.shared ≡ false
    → EachWas (SendLeaves bytes pipe result left) old new
send_leaves bytes pipe result left old new x single =
    told_leaves old new (each_send bytes pipe result left old new x single)

-- At each moment: behind the packets before, the one that is being sent has joined what the device
-- took, or not yet

sending_then : (sent rest : List ℕ) (pipe : PipeState) (n : ℕ) (j : Location) (s u v : State)
    → GaveLeaves (end_of pipe) pipe.ep pipe.toggle n sent j s u
    → SinkBetween (end_of pipe) pipe.ep (flips n pipe.toggle) (take pipe.max rest) j u v
    → SendingLeaves sent (take pipe.max rest) (flips n pipe.toggle) pipe j s v
sending_then sent rest pipe n j s u v x y = record {
  others = grind (arith, others_stay_then);
  frame = λ i. sink_frame x i v y.frame;
  way = λ h e f. let i = f.endpoint in
      y.sink (sink_at x i h) pipe.max ((out_end s pipe.ep).sink ++ sent) (sink_then x i)
      (fits_packet pipe.max rest) (grind (arith, sink_level));
}

pub sending_leaves : (bytes : List ℕ) (pipe : PipeState) (old now : World) → IsSettled old.roots
    → (g : WhileSending (end_of pipe) pipe.ep pipe.toggle bytes old now) → now.shared ≡ false
    → EachWas (SendingLeaves g.sent (take pipe.max g.rest) (flips g.packets pipe.toggle) pipe) old
    now
sending_leaves bytes pipe old now settled g single =
    each_joined _ _ _ (grind (arith, sending_then)) old g.mid now
    (gave_leaves (end_of pipe) pipe.ep pipe.toggle settled g.before
    (trail_unshared g.trail single))
    (sink_between (end_of pipe) pipe.ep (flips g.packets pipe.toggle) (take pipe.max g.rest)
    g.outcomes g.mid now (gave_settled g.before settled) g.trail g.onward single)

-- What packets that came leave of one device

record CameLeaves (t : Target) (ep : ℕ) (first : Toggle) (n : ℕ) (got : List ℕ) (j : Location)
    (s v : State) : Type 0 where
  others : is_at s t ≡ false → v ≡ s
  frame : IsSource ep t.max s → OnlySource ep s v
  paced : is_at s t ≡ true → IsSource ep t.max s → IsPrompt (in_end s ep).pace
      → IsPrompt (in_end v ep).pace
  source : is_at s t ≡ true → IsSource ep t.max s → (place : ℕ) → SourceAt ep t.max place first s
      → CameFrom ep t.max place (flips n first) n got s v
  still : is_at s t ≡ true → IsSource ep t.max s → (in_end s ep).state.halted ≡ true
      → (v ≡ s) × (n ≡ 0)

-- the endpoint behind them
module _ {t : Target} {ep : ℕ} {first : Toggle} {n : ℕ} {got : List ℕ} {j : Location} {s u : State}
    (x : CameLeaves t ep first n got j s u) (i : IsSource ep t.max s) where
  source_then : IsSource ep t.max u
  source_then = source_kept ep t.max s u (x.frame i) i

  source_at : is_at s t ≡ true → is_at u t ≡ true
  source_at h = source_at_kept t s u (x.frame i) h

  source_data : in_data u ep ≡ in_data s ep
  source_data = grind arith

  source_halted : is_at s t ≡ true → (in_end s ep).state.halted ≡ true
      → (in_end u ep).state.halted ≡ true
  source_halted h c = grind arith

  source_frame : (v : State) → ((most : ℕ) → IsSource ep most u → OnlySource ep u v)
      → OnlySource ep s v
  source_frame v f = grind (arith, source_then)

came_none : (t : Target) (ep : ℕ) (first : Toggle) (j : Location) (s : State)
    → CameLeaves t ep first 0 [] j s s
unfolding flips
came_none t ep first j s = grind (arith, none_came_from)

came_then : (t : Target) (ep : ℕ) (first : Toggle) (n : ℕ) (got bytes : List ℕ) → 1 ≤ t.max
    → (j : Location) (s u v : State)
    → CameLeaves t ep first n got j s u → SourceIn t ep (flips n first) (Ok bytes) j u v
    → CameLeaves t ep first (n + 1) (got ++ bytes) j s v
came_then t ep first n got bytes least j s u v x y = record {
  others = others_stay_then t s u v x.others y.others;
  frame = λ i. source_frame x i v y.frame;
  paced = λ h i p. y.paced (source_at x i h) t.max (source_then x i) (x.paced h i p);
  source = λ h i place at.
      let before = x.source h i place at in
      subst (λ toggle. CameFrom ep t.max place toggle (n + 1) (got ++ bytes) s v)
      (grind (arith, turned_on))
      (one_came_then bytes before (source_data x i) (grind (arith, source_at, source_then)));
  still = grind (arith, source_at, source_halted, source_then, y.halted);
}

module _ (t : Target) (ep : ℕ) (first : Toggle) (least : 1 ≤ t.max) {old : World}
    (settled : IsSettled old.roots) where
  -- one more, full or not
  came_more : {n : ℕ} {got last : List ℕ} {mid new : World}
      → EachWas (CameLeaves t ep first n got) old mid → IsSettled mid.roots
      → TransactionDone (heard_as (flips n first)) (in_attempt t ep) mid (Ok last) new
      → new.shared ≡ false → EachWas (CameLeaves t ep first (n + 1) (got ++ last)) old new
  came_more {n} {got} {last} {mid} {new} before began fetches single =
      each_joined _ _ _ (grind (arith, came_then))
      old mid new before
      (source_told t ep (flips n first) (Ok last) mid new began fetches single)

  came_leaves : {n : ℕ} {got : List ℕ} {new : World} → Came t ep first old n got new
      → new.shared ≡ false → EachWas (CameLeaves t ep first n got) old new
  came_leaves start single = each_none _ (came_none t ep first) old
  came_leaves (packet bytes c fetches full) single =
      came_more (came_leaves c (ended_unshared fetches single)) (received_settled c settled) fetches
      single

  came_on : {n : ℕ} {got last : List ℕ} {mid new : World} → Came t ep first old n got mid
      → TransactionDone (heard_as (flips n first)) (in_attempt t ep) mid (Ok last) new
      → new.shared ≡ false → EachWas (CameLeaves t ep first (n + 1) (got ++ last)) old new
  came_on c fetches single =
      came_more (came_leaves c (ended_unshared fetches single)) (received_settled c settled) fetches
      single

came_damages : {t : Target} {ep : ℕ} {first : Toggle} {old : World} {n : ℕ} {got : List ℕ}
    {new : World} → Came t ep first old n got new → new.damages ≡ old.damages
came_damages start = refl
came_damages (packet bytes c fetches full) = ended_damages fetches ∙ came_damages c

-- One device and its pipe

-- all came
all_came : (pipe left : PipeState) (bytes : Vec ℕ) (n : ℕ) → pipe.condition ≢ Broken
    → left ≡ record pipe { toggle = left.toggle; condition = Ready }
    → left.toggle ≡ flips (n + 1) pipe.toggle
    → (j : Location) (s v : State) → CameLeaves (end_of pipe) pipe.ep pipe.toggle (n + 1)
    bytes.items j s v → ReceiveLeaves pipe (Ok bytes) left j s v
all_came pipe left bytes n works e turned j s v x = record {
  others = x.others;
  frame = x.frame;
  gave = λ h place f. let c = came h place f in record {
    behind = c.behind;
    came = c.bytes;
    level = subst (λ l. InPipeInSync l c.behind v) (sym e) (record {
      endpoint = source_then x f.endpoint;
      level = grind arith;
      halted = λ r. cc r;
    });
  };
}
  where
    came : is_at s pipe.target ≡ true → (place : ℕ) → InPipeInSync pipe place s
        → CameFrom pipe.ep pipe.max place (flips (n + 1) pipe.toggle) (n + 1) bytes.items s v
    came h place f = ready_or _ pipe.condition works (λ r. x.source h f.endpoint place (f.level r))
        (grind arith)

-- no bytes came, and the pipe that is left is at the place of the one before
nothing_came : (pipe left : PipeState) (bytes : List ℕ) (place : ℕ) (s v : State) → bytes ≡ []
    → InPipeInSync left place v → GaveNext pipe place bytes left s v
nothing_came pipe left bytes place s v none f = grind (arith, no_bytes)

-- where a call fails, no more is known of the endpoint than that it is the one it was, and that it
-- is halted where it answered STALL
lost_came : (old new : World) (pipe left : PipeState) (why : PipeFault) → FaultAfter 0 old why new
    → left ≡ record pipe { toggle = left.toggle; condition = after_fault pipe.condition why }
    → (j : Location) (s v : State) → (is_at s pipe.target ≡ false → v ≡ s)
    → (IsSource pipe.ep pipe.max s → OnlySource pipe.ep s v)
    → (why ≡ pipe_fault.Stalled → is_at s pipe.target ≡ true → IsSource pipe.ep pipe.max s
    → (in_end v pipe.ep).state.halted ≡ true) → ReceiveLeaves pipe (Err why) left j s v
lost_came old new pipe left why ends e j s v others frame halted = record {
  others = others;
  frame = frame;
  gave = λ h place f. nothing_came pipe (pipe_known {A = Vec ℕ} (Err why) left) [] place s v refl
      (still h place f);
}
  where
    still : is_at s pipe.target ≡ true → (place : ℕ) → InPipeInSync pipe place s
        → InPipeInSync (pipe_known {A = Vec ℕ} (Err why) left) place v
    still h place f = grind (arith, source_kept, frame, halted)

-- a call that makes no attempt
idle_came : (pipe : PipeState) (result : Result (Vec ℕ) PipeFault) → pipe_known result pipe ≡ pipe
    → came_with result ≡ [] → (j : Location) (s : State) → ReceiveLeaves pipe result pipe j s s
idle_came pipe result same none j s = grind (arith, nothing_came)

-- a packet that did not come, behind others that did
module _ (wanted : ℕ) (pipe : PipeState) (n : ℕ) (got : List ℕ) (why : PipeFault)
    (fault : TransFault)
    (works : pipe.condition ≢ Broken) (least : 1 ≤ pipe.max) (told : why ≡ as_pipe_fault fault)
    (few : n < wanted) (j : Location) (s u v : State)
    (x : CameLeaves (end_of pipe) pipe.ep pipe.toggle n got j s u) where
  lost_then : (old new : World) (left : PipeState) → FaultAfter 0 old why new
      → left ≡ record pipe { toggle = left.toggle; condition = after_fault pipe.condition why }
      → SourceIn (end_of pipe) pipe.ep (flips n pipe.toggle) (Err fault) j u v
      → ReceiveLeaves pipe (Err why) left j s v
  lost_then old new left ends e y =
      lost_came old new pipe left why ends e j s v
      (grind (arith, others_stay_then)) (λ i. source_frame x i v y.frame)
      (grind (arith, fell_same_fault, source_at, source_then))

  lost_why : SourceInFailure (end_of pipe) pipe.ep (flips n pipe.toggle) (Err fault) j u v
      → ReceiveFailure wanted pipe (Err why) j s v
  lost_why y = record {
    answered = λ l place f short e.
        let no : Fell fault trans.NoAnswer = grind (arith, fell_same_fault) in
        ready_or ⊥ pipe.condition works
        (λ r. let c = came l f r in
        y.answered (hears l f) pipe.max c.behind (source_then x f.endpoint) c.at (within f short)
        no)
        (λ r. (halted l f r).0 no);
    waited = λ l place f short has prompt e.
        let no : Fell fault trans.Busy = grind (arith, fell_same_fault) in
        ready_or ⊥ pipe.condition works
        (λ r. let c = came l f r in
        y.waited (hears l f) pipe.max c.behind (source_then x f.endpoint) least c.at
        (within f short) (there f c has) (grind arith) no)
        (λ r. (halted l f r).1 no);
  }
    where
      hears : {place : ℕ} → Listens pipe.target j s → InPipeInSync pipe place s
          → Listens (end_of pipe) j u
      hears l f = grind (arith, listens_packet)

      came : {place : ℕ} → Listens pipe.target j s → InPipeInSync pipe place s
          → pipe.condition ≡ Ready
          → CameFrom pipe.ep pipe.max place (flips n pipe.toggle) n got s u
      came {place} l f r = x.source l.at f.endpoint place (f.level r)

      halted : {place : ℕ} → Listens pipe.target j s → InPipeInSync pipe place s
          → pipe.condition ≡ Halted → (Fell fault trans.NoAnswer → ⊥) × (Fell fault trans.Busy → ⊥)
      halted l f r = y.halted (hears l f) pipe.max (source_then x f.endpoint)
          (grind (arith, source_halted))

      within : {place : ℕ} → InPipeInSync pipe place s → GivesWithin pipe.max pipe.ep pipe.max s
          → GivesWithin pipe.max pipe.ep pipe.max u
      within f short place bytes e = grind (arith, source_data)

      there : {place : ℕ} → InPipeInSync pipe place s
          → (c : CameFrom pipe.ep pipe.max place (flips n pipe.toggle) n got s u)
          → HasPackets pipe.ep pipe.max place wanted s
          → is_some (next_packet u pipe.ep pipe.max c.behind) ≡ true
      there {place} f c has = grind (arith, one_there, source_data)

-- A call that receives

-- an answer that is neither fault
never_received : (wanted : ℕ) (pipe : PipeState) (result : Result (Vec ℕ) PipeFault)
    → result ≢ Err pipe_fault.NoAnswer → result ≢ Err pipe_fault.Busy → {j : Location} {s v : State}
    → ReceiveFailure wanted pipe result j s v
never_received wanted pipe result answered waited = grind arith

module _ (wanted : ℕ) (pipe left : PipeState) (old new : World) (least : 1 ≤ pipe.max)
    (single : new.shared ≡ false) where
  abbrev ReceiveTold : Result (Vec ℕ) PipeFault → Relation
  ReceiveTold result =
      DeviceTold (ReceiveLeaves pipe result left) (ReceiveFailure wanted pipe result) old

  received_told : (result : Result (Vec ℕ) PipeFault) → pipe.condition ≢ Broken
      → MovedIn wanted pipe old result left new → EachWas (ReceiveTold result) old new
  received_told (Ok bytes) works x =
      let g : AllCame (end_of pipe) pipe.ep pipe.toggle wanted old bytes.items new = x.came in
      let turned : left.toggle ≡ flips (g.packets + 1) pipe.toggle = grind (arith, all_packets) in
      each_wider _ _ (grind (arith, all_came, never_received)) old new
      (subst (λ k. EachWas (CameLeaves (end_of pipe) pipe.ep pipe.toggle (g.packets + 1) k) old new)
      (sym g.kept) (grind (arith, came_on, end_of)))
  received_told (Err why) works x = by_end x.came
    where
      by_end : NotCame (end_of pipe) pipe.ep pipe.toggle wanted old why new
          ⊎ NoRoomLeft (end_of pipe) pipe.ep pipe.toggle wanted old why new
          → EachWas (ReceiveTold (Err why)) old new
      by_end (inl g) =
          let began : IsSettled g.mid.roots = received_settled g.before x.settled in
          each_joined _ _ _ (λ j s u v y z. record {
            leaves = search (lost_then, x.ends, x.pipe_left);
            why = grind (arith, came_damages, lost_why, never_three, g.told, g.few, z.why);
          }) old g.mid new
          (came_leaves (end_of pipe) pipe.ep pipe.toggle least x.settled g.before
          (transacted_unshared _ _ _ _ (Err g.fault) g.lost began single))
          (source_told (end_of pipe) pipe.ep (flips g.packets pipe.toggle) (Err g.fault) g.mid new
          began g.lost single)
      by_end (inr g) =
          each_wider (CameLeaves (end_of pipe) pipe.ep pipe.toggle (g.packets + 1)
          (g.got ++ g.last)) _ (λ j s v y. record {
            leaves = grind (arith, lost_came);
            why = grind (arith, never_received);
          }) old new (grind (arith, came_on, end_of))

  each_receive : (result : Result (Vec ℕ) PipeFault) → Receives wanted pipe old result left new
      → EachWas (ReceiveTold result) old new
  each_receive result x =
      receive_by (EachWas (ReceiveTold result) old new)
      (λ broken kept same. rw (broken, kept, same)
      (grind (arith, each_none, idle_came, never_received)))
      (λ bytes is none kept same. rw (is, kept, same)
      (each_none _ (grind (arith, idle_came, never_received)) old)) (search received_told) x

pub receive_leaves : (wanted : ℕ) (pipe : PipeState) (result : Result (Vec ℕ) PipeFault)
    (left : PipeState) (old new : World)
    → 1 ≤ pipe.max → Receives wanted pipe old result left new → new.shared ≡ false
    → EachWas (ReceiveLeaves pipe result left) old new
receive_leaves wanted pipe result left old new least x single =
    told_leaves old new (each_receive wanted pipe left old new least single result x)

-- A call that moved packets, by what these tell

pub sends_by : (bytes : List ℕ) (pipe : PipeState) (old : World)
    (result : Result (Unit {0}) PipeFault)
    (left : PipeState) (new : World) → pipe.condition ≢ Broken → bytes ≢ []
    → PacketsSent (packet_target pipe.target pipe.max) pipe.ep pipe.toggle bytes old result
    left.toggle new → left ≡ record pipe {
      toggle = left.toggle;
      condition = after_transfer pipe.condition result;
    } → IsSettled old.roots → Sends bytes pipe old result left new
sends_by bytes pipe old result left new works some x is settled = grind arith

pub receives_by : (wanted : ℕ) (pipe : PipeState) (old : World) (result : Result (Vec ℕ) PipeFault)
    (left : PipeState) (new : World) → pipe.condition ≢ Broken → wanted ≢ 0
    → PacketsReceived (packet_target pipe.target pipe.max) pipe.ep pipe.toggle wanted old result
    left.toggle new → left ≡ record pipe {
      toggle = left.toggle;
      condition = after_transfer pipe.condition result;
    } → IsSettled old.roots → Receives wanted pipe old result left new
receives_by wanted pipe old result left new works some x is settled = grind arith

-- The record of a call

pub send_told : (bytes : List ℕ) (pipe : PipeState) (result : Result (Unit {0}) PipeFault)
    (left : PipeState) (old new : World) → Sends bytes pipe old result left new
    → PipeSend bytes pipe old result left new
send_told bytes pipe result left old new x = record {
  sends = x;
  what = send_leaves bytes pipe result left old new x;
  why = λ three sound single. told_why old new three
      (each_send bytes pipe result left old new x single);
  who = who result x;
  losses = send_losses bytes pipe result left old new x;
}
  where
    who : (r : Result (Unit {0}) PipeFault) → Sends bytes pipe old r left new
        → OnOk r (bytes ≢ [] → Unshared new (Answerer pipe.target old new))
    who (Ok done) x = λ some. who_sends bytes pipe done left old new some x
    who (Err why) x = tt

pub receive_told : (wanted : ℕ) (pipe : PipeState) (result : Result (Vec ℕ) PipeFault)
    (left : PipeState) (old new : World) → 1 ≤ pipe.max → Receives wanted pipe old result left new
    → PipeReceive wanted pipe old result left new
receive_told wanted pipe result left old new fits x = record {
  receives = x;
  what = receive_leaves wanted pipe result left old new fits x;
  why = λ three sound single. told_why old new three
      (each_receive wanted pipe left old new fits single result x);
  who = who result x;
  losses = λ bulk. receive_losses wanted pipe result left old new bulk x;
}
  where
    who : (r : Result (Vec ℕ) PipeFault) → Receives wanted pipe old r left new
        → OnOk r (wanted ≢ 0 → Unshared new (Answerer pipe.target old new))
    who (Ok bytes) x = λ some. who_receives wanted pipe bytes left old new some x
    who (Err why) x = tt
