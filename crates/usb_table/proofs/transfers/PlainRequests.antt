-- Control transfers of a driver's own are plain: they change no description, no register and no
-- toggle.
use Rattle.std.proofs.Common.{◌≡◌, refl, arith, true, false, ℕ, ◌==◌, List, None, Option, Some}
use Rattle.std.proofs.Common.{Result, Ok, Err, is_ok, Bool, subst, is_some, OnOk, ◌≢◌, length, ◌+◌}
use Rattle.std.proofs.Common.{sym}
use Rattle.usb_request.specs.{Setup, IsToHost, IsToDevice, is_reserved}
use Rattle.usb_request.proofs.Interface.{same_setup}
use Rattle.usb_device.specs.{Location, State, accepted, begun, BulkIn, BulkOut, Changes, ending}
use Rattle.usb_device.specs.{first_stage, OnlyControl, OnlyStage, Outcome, outcome, Stage}
use Rattle.usb_device.specs.{answers_taken, takes, tells_halt, halted, halts, in_end, no_in, no_out}
use Rattle.usb_device.specs.{NothingMoved, out_end, stalled, tells_port}
use Rattle.usb_world.specs.{BusFault, EachWas, HasFault, Relation, World, is_harmless}
use Rattle.usb_world.proofs.Interface.{each_wider}
use Rattle.usb_bus.specs.{StepRun}
use Rattle.usb_bus.proofs.Interface.{went_wider}
use Rattle.usb_transfer.specs.{Answerer, Target, is_at, IsNoBusFault, PipeFault, DataWrite}
use Rattle.usb_transfer.specs.{DataWriteLeaves, PipeState, ControlRead, ControlWrite, InPipeInSync}
use Rattle.usb_transfer.specs.{ReadLeaves, WriteLeaves}
use Rattle.usb_transfer.specs.declared.fault.PipeFault.TheVariants as pipe_fault
use Rattle.usb_hub.specs.{KeepsAddresses, KeepsAll, TouchesNoPort, EndsAfter}
use Rattle.usb_enum.specs.{Accepted, target_of}
use Rattle.usb_table.specs.{accepted_device_at, ArePipesAt, ControlledAt, control_most, GoesThrough}
use Rattle.usb_table.specs.{is_below_hub, KeepsMoved, OnlyTransfers, pipes_at, PipesInSync}
use Rattle.usb_table.specs.{SameSettings, Table, TableFault, target_asked, Transfer, TransferFault}
use Rattle.usb_table.specs.{TransferIs, TransferLeaves, TransferMade, table_answer, Absent}
use Rattle.usb_table.specs.{ArePipesTo, FitsIn, FitsOut, Function, Hub, Pipes, without_bytes}
use Rattle.usb_table.specs.{control_target, of_pipe, ReadIf, ReadLeftIf, ReadMade, TableReads}
use Rattle.usb_table.specs.{TableWrites, unreserved, WriteIf, WriteLeftIf, WriteMade, write_asked}
use Rattle.usb_table.specs.{write_target, WriteLeft, ReadLeft, SparesBulk}
use Rattle.usb_table.proofs.TransferLeaves.{told_through}
use Rattle.usb_table.proofs.levels.PathCalls.{moved_levels, still_levels}
use Rattle.usb_table.proofs.transfers.DevicesKept.{same_spares}
use Rattle.usb_table.proofs.transfers.PathTransfers.{answers_there, leaves_there}
use Rattle.usb_table.proofs.levels.FittingPipes.{EachMoves, root, still_level, still_status}
use Rattle.usb_table.proofs.levels.FittingPipes.{written_level, MayHalt, function_level, same_halts}
use Rattle.usb_table.proofs.levels.FittingPipes.{set_sink, set_source}
use Rattle.std.specs.Int.{div_ceil}
use Rattle.std.specs.Global.{Vec}
use Rattle.usb_port.specs.{PortState}
use Rattle.usb_device.specs.Request.{answers}
use Rattle.usb_device.proofs.Interface.{at_each}
use Rattle.usb_transfer.proofs.Interface.{spared_all, first_stage-address, given_registers}
use Rattle.usb_transfer.proofs.Interface.{host_harmless}
use Rattle.usb_hub.proofs.Interface.{put_keeps, read_keeps, reads_other, write_keeps, put_backlog}
use Rattle.usb_hub.proofs.Interface.{put_rests, reads_backlog, reads_rests, write_backlog}
use Rattle.usb_hub.proofs.Interface.{write_rests, write_so}
use Rattle.usb_enum.proofs.Interface.{ends_without_fault}
use Rattle.usb_table.proofs.transfers.FreeRequests.{IsAllowed, IsFree, free_asks_no_port}
use Rattle.usb_table.proofs.transfers.FreeRequests.{free_is_harmless, outcome_fine, read_is_free}
use Rattle.usb_table.proofs.transfers.FreeRequests.{unreserved_is_free, in_moved, moved_then}
use Rattle.usb_table.proofs.transfers.FreeRequests.{out_moved, same_rows-moved, spares-stage}
use Rattle.std.specs.Result.{IsErr, IsErrAnd}

-- A control transfer to the device at a path that changes no description, no register and no
-- toggle: what it leaves of all devices and pipes.

-- whose endpoint 0 is asked
pub record IsAsked (below_hub : Bool) (found : Option Accepted) (t : Target) : Type 0 where
  pub device : Accepted
  pub is : found ≡ Some device
  pub target : t ≡ target_of device below_hub

asked_of : (below_hub : Bool) (found : Option Accepted) (t : Target)
    → target_asked below_hub found ≡ Ok t → IsAsked below_hub found t
asked_of below_hub None t e = absurd (cc e)
asked_of below_hub (Some device) t e = record { device = device; is = refl; target = cc e }

-- nothing of the table changes
goes_nowhere : (path : List ℕ) (table : Table) → ArePipesAt path table
    → GoesThrough path table table
goes_nowhere path table fits = grind arith

-- such a transfer, by what it leaves of each device
pub record IsPlain {A : Type 0} (path : List ℕ) (table : Table) (t : Target)
    (answer : Result A PipeFault) (L : Relation) (old new : World) : Type 0 where
  pub addresses : KeepsAddresses old new
  pub each : new.shared ≡ false → EachWas L old new
  pub others : (j : Location) (s v : State) → L j s v → is_at s t ≡ false → v ≡ s
  pub settings : (j : Location) (s v : State) → L j s v → SameSettings j s v
  pub level : (device : Accepted) (j : Location) (s v : State) → L j s v
      → PipesInSync device (pipes_at path table) s → PipesInSync device (pipes_at path table) v
  pub sound : new.fault ≡ None → IsNoBusFault answer
  pub told : (fault : BusFault) → answer ≡ Err (pipe_fault.Bus fault) → HasFault fault new
  pub rests : IsNoBusFault answer → TouchesNoPort old new
  pub backlog : IsNoBusFault answer → KeepsAll old new
  pub who : is_ok answer ≡ true → new.shared ≡ false → Answerer t old new

module _ {A : Type 0} (Leaves : TransferLeaves A) (path : List ℕ) (request : Setup) (table : Table)
    (fits : ArePipesAt path table) {old new : World} (t : Target)
    (asked : IsAsked (is_below_hub path) (accepted_device_at path table.entries) t)
    (target : Result Target TransferFault) (asks : target ≡ Ok t) (answer : Result A PipeFault)
    (x : IsPlain path table t answer (Leaves t answer old new) old new) where
  addressed : t.addr ≡ asked.device.address
  addressed = grind (arith, asked)

  plain_worlds : OnlyTransfers old new
  plain_worlds = record {
    addresses = x.addresses;
    devices = record {
      same = λ single.
          each_wider (Leaves t answer old new) SameSettings x.settings old new (x.each single);
    };
    rests = grind arith;
    backlog = grind arith;
  }

  plain_moves : EachMoves asked.device asked.device.address (new.fault ≡ None)
      (pipes_at path table) (pipes_at path table) old new
  plain_moves single =
      each_wider (Leaves t answer old new) _
      (grind (arith, addressed, asked)) old new (x.each single)

  plain_keeps : KeepsMoved path table old table new
  plain_keeps = moved_levels path asked.device (new.fault ≡ None) (pipes_at path table)
      (pipes_at path table) table table old new asked.is (goes_nowhere path table fits) refl refl
      plain_worlds.addresses plain_moves OnlyTransfers plain_worlds

  plain_made : (Is : TransferIs A) (result : Result A TableFault) → Is t old answer new
      → result ≡ table_answer answer → TransferMade Is Leaves path table t old result new
  plain_made Is result is e = record {
    answer = answer;
    told = e;
    is = is;
    left = λ held single.
        leaves_there path table old held asked.device asked.is t.addr addressed
        (Leaves t answer old new) new x.others (x.each single);
    there = grind (arith, addressed, answers_there, asked);
  }

  -- it was made
  made_controls : (Is : TransferIs A) {text now : Option (List ℕ)} (result : Result A
      TableFault)
      → StepRun (control_most request.length) old text new now → Is t old answer new
      → result ≡ table_answer answer
      → ControlledAt Is Leaves path target request table old text result new now
  made_controls Is result went is e =
      grind (arith, plain_keeps, plain_made, plain_worlds, told_through)

-- it was not
pub refused_controls : {A : Type 0} (Is : TransferIs A) (Leaves : TransferLeaves A) (path : List ℕ)
    (target : Result Target TransferFault) (request : Setup) (table : Table)
    → ArePipesAt path table → {old : World} {text : Option (List ℕ)} {result : Result A TableFault}
    {new : World} {now : Option (List ℕ)} (fault : TransferFault) → target ≡ Err fault
    → result ≡ Err (Transfer fault) → new ≡ old → StepRun 0 old text new now
    → ControlledAt Is Leaves path target request table old text result new now
refused_controls Is Leaves path target request table fits {old} {result = result} {new} fault asks e
    same went = record {
      went = grind (arith, went_wider);
      told = rw e tt;
      did = rw asks (e, same);
      keeps = search (goes_nowhere, same_spares, still_levels);
    }

-- Control transfers of a driver's own are plain: reads, and what has no data.

pub bus_told : {A : Type 0} (k : ℕ) (answer : Result A PipeFault) (old new : World)
    → EndsAfter k old answer new → (fault : BusFault) → answer ≡ Err (pipe_fault.Bus fault)
    → HasFault fault new
bus_told k answer old new ends fault e = grind arith

-- Reads

read_is_plain : (path : List ℕ) (table : Table) (t : Target) (request : Setup) (old : World)
    (answer : Result (Vec ℕ) PipeFault) (new : World) → IsToHost request
    → ControlRead t request old answer new
    → IsPlain path table t answer (ReadLeaves t request answer old new) old new
read_is_plain path table t request old answer new host x = record {
  addresses = read_keeps t request (same_setup request) (host_harmless request host)
      (reads_other request host) 3 1 old new answer x.ends x.stages;
  each = x.what;
  others = λ j s v y. y.others;
  settings = grind arith;
  level = grind (arith, still_level);
  sound = ends_without_fault 3 answer old new x.ends;
  told = bus_told 3 answer old new x.ends;
  rests = grind (arith, reads_rests);
  backlog = grind (arith, reads_backlog);
  who = answered answer x.who;
}
  where
    answered : (r : Result (Vec ℕ) PipeFault) → OnOk r (new.shared ≡ false → Answerer t old new)
        → is_ok r ≡ true → new.shared ≡ false → Answerer t old new
    answered (Ok bytes) who done = who
    answered (Err why) who done = absurd (cc done)

-- A device that accepted what is allowed

-- settings and toggles are as they were, and no byte moved
record KeepsEnds (s v : State) : Type 0 where
  settings : SameSettings root s v
  moved : NothingMoved s v
  out : (e : ℕ) → MayHalt (out_end s e).state (out_end v e).state
  into : (e : ℕ) → MayHalt (in_end s e).state (in_end v e).state

-- no endpoint but endpoint 0 and a hub's endpoint 1 changed
same_rows-kept : (s v : State) → SameSettings root s v → v.outs ≡ s.outs → v.ins ≡ s.ins
    → KeepsEnds s v
same_rows-kept s v same outs ins = grind (arith, same_halts, same_rows-moved)

module _ (s : State) (row : List PortState) (n : ℕ) where
  ends_kept : (stage : Stage) → KeepsEnds s (record s { naks = s.spec.naks; stage = stage })
  ends_kept stage = search same_rows-kept

  began_ends : (to_hub : Bool) (o : Outcome) → IsAllowed to_hub o → KeepsEnds s (begun s row n
      o)
  began_ends to_hub (halts (BulkOut a)) fine = record {
    settings = (refl, refl);
    moved = out_moved s _ a _ refl refl refl refl;
    out = at_each no_out (λ x y. MayHalt x.state y.state) (λ x. (refl, λ h. h)) a
        (record (out_end s a) { state = halted (out_end s a).state }) s.outs (refl, λ h. refl);
    into = λ e. (refl, λ h. h);
  }
  began_ends to_hub (halts (BulkIn a)) fine = record {
    settings = (refl, refl);
    moved = in_moved s _ a _ refl refl refl refl;
    out = λ e. (refl, λ h. h);
    into = at_each no_in (λ x y. MayHalt x.state y.state) (λ x. (refl, λ h. h)) a
        (record (in_end s a) { state = halted (in_end s a).state }) s.ins (refl, λ h. refl);
  }
  began_ends to_hub (halts Changes) fine = search same_rows-kept
  began_ends to_hub stalled fine = ends_kept _
  began_ends to_hub (answers bytes) fine = ends_kept _
  began_ends to_hub (tells_port i) fine = ends_kept _
  began_ends to_hub answers_taken fine = ends_kept _
  began_ends to_hub (takes kept) fine = ends_kept _
  began_ends to_hub (tells_halt endpoint) fine = ends_kept _
  began_ends to_hub _ fine = absurd fine

  -- a device that begins what is allowed of a hub too changes only its control transfer
  began_stage : (o : Outcome) → IsAllowed true o → OnlyStage s (begun s row n o)
  began_stage o fine = grind (arith, fine)

  allowed_address : (to_hub : Bool) (o : Outcome) (address : Option ℕ) → IsAllowed to_hub o
      → first_stage row s n o ≡ ending address → address ≡ None
  allowed_address to_hub o address fine e = grind (arith, fine, first_stage-address)

-- behind it, where nothing but its own transfer moved

ends_on : (s u v : State) → KeepsEnds s u → OnlyControl u v → v.registers ≡ u.registers
    → KeepsEnds s v
ends_on s u v x frame same = grind (arith, moved_then, same_rows-kept)

-- it was asked what is allowed, and accepted it or had no part in it
module _ {to_hub : Bool} (t : Target) (request : Setup) (free : IsFree to_hub request)
    (old new : World) (j : Location) (s v : State) where
  fine : IsAllowed to_hub (outcome s.spec s.registers request)
  fine = search (free, outcome_fine)

  accepted_ends : (row : List PortState) → OnlyControl (accepted s row request) v
      → v.registers ≡ (accepted s row request).registers → KeepsEnds s v
  accepted_ends row frame same = search (began_ends, ends_on, fine)

  free_so : (Q : Type 0) → ((row : List PortState) → OnlyControl (accepted s row request) v
      → v.registers ≡ (accepted s row request).registers → Q)
      → (OnlyControl s v → v.registers ≡ s.registers → Q) → (result : Result (Unit {0}) PipeFault)
      → WriteLeaves t request result old new j s v → Q
  free_so Q accepts rests =
      write_so t request old new j s v Q accepts
      (λ row address is frame given. accepts row frame
      (grind (arith, allowed_address, fine, given_registers))) rests

-- The pipes to it

out_kept : (out : Option PipeState) (s v : State) → KeepsEnds s v → FitsOut out s → FitsOut out v
out_kept out s v x f = grind (arith, set_sink)

into_kept : (pipe : PipeState) (got : ℕ) (s v : State) → KeepsEnds s v → InPipeInSync pipe got s
    → InPipeInSync pipe got v
into_kept pipe got s v x h = grind (arith, set_source)

in_kept : (into : Option PipeState) (s v : State) → KeepsEnds s v → FitsIn into s → FitsIn into v
in_kept into s v x f = grind (arith, into_kept)

-- What has no data

module _ {A : Type 0} (path : List ℕ) (table : Table) (t : Target) (request : Setup)
    (device : Accepted) (are : ArePipesTo device (is_below_hub path) (pipes_at path table))
    (free : IsFree (is_some device.hub) request) (old : World) (answer : Result A PipeFault)
    (new : World) where
  abbrev Left : Location → State → State → Type 0
  Left = WriteLeaves t request (without_bytes answer) old new

  accepted_level : (of : Accepted) (j : Location) (s v : State) (pipes : Pipes)
      → ArePipesTo device (is_below_hub path) pipes → (row : List PortState)
      → OnlyControl (accepted s row request) v
      → v.registers ≡ (accepted s row request).registers → PipesInSync of pipes s
      → PipesInSync of pipes v
  accepted_level of j s v (Hub pipe) are row frame same f =
      let ends = accepted_ends t request free old new j s v row frame same in
      let stage = began_stage s row request.length (outcome s.spec s.registers request)
      (subst (λ b. IsAllowed b (outcome s.spec s.registers request)) are.0
      (fine t request free old new j s v)) in
      still_status pipe s v ends.settings (grind arith) (grind arith) f
  accepted_level of j s v (Function pipes) are row frame same f =
      let ends = accepted_ends t request free old new j s v row frame same in
      grind (arith, function_level, in_kept, out_kept)
  accepted_level of j s v (Absent said) are row frame same f = absurd are

  only_stage : (s v : State) → OnlyControl s v → v.registers ≡ s.registers → OnlyStage s v
  only_stage s v f e = grind arith

  none_settings : (j : Location) (s v : State) → Left j s v → SameSettings j s v
  none_settings j s v =
      free_so t request free old new j s v (SameSettings j s v)
      (λ row frame same. (accepted_ends t request free old new j s v row frame same).settings)
      (grind arith) (without_bytes answer)

  none_level : (of : Accepted) (j : Location) (s v : State) → Left j s v
      → PipesInSync of (pipes_at path table) s → PipesInSync of (pipes_at path table) v
  none_level of j s v =
      free_so t request free old new j s v
      (PipesInSync of (pipes_at path table) s → PipesInSync of (pipes_at path table) v)
      (search accepted_level) (grind (arith, only_stage, still_level))
      (without_bytes answer)

  none_is_plain : ControlWrite t request old (without_bytes answer) new
      → IsPlain path table t answer Left old new
  none_is_plain x = record {
    addresses = write_keeps t request (same_setup request) (free_is_harmless request free)
        free.address 2 1 old new (without_bytes answer) x.ends x.stages;
    each = grind (arith, free, free_is_harmless, spared_all);
    others = λ j s v y. y.others;
    settings = none_settings;
    level = none_level;
    sound = grind (arith, ends_without_fault);
    told = grind (arith, bus_told);
    rests = grind (arith, free, free_asks_no_port, write_rests);
    backlog = grind (arith, free, write_backlog);
    who = who_back answer x.who;
  }
    where
      bytes_back : (r : Result A PipeFault) → IsNoBusFault (without_bytes r) → IsNoBusFault r
      bytes_back (Ok bytes) n = tt
      bytes_back (Err why) n = n

      bytes_off : (r : Result A PipeFault) → IsNoBusFault r → IsNoBusFault (without_bytes r)
      bytes_off (Ok bytes) n = tt
      bytes_off (Err why) n = n

      told_back : (r : Result A PipeFault) → ((fault : BusFault) → without_bytes r
          ≡ Err (pipe_fault.Bus fault) → HasFault fault new) → (fault : BusFault)
          → r ≡ Err (pipe_fault.Bus fault) → HasFault fault new
      told_back r told fault e = grind arith

      who_back : (r : Result A PipeFault) → OnOk (without_bytes r)
          ((is_harmless request ≡ false → t.addr ≢ 0) → new.shared ≡ false → Answerer t old new)
          → is_ok r ≡ true → new.shared ≡ false → Answerer t old new
      who_back (Ok bytes) who done = grind (arith, free, free_is_harmless)
      who_back (Err why) who done = absurd (cc done)

-- What has data to the device

module _ (path : List ℕ) (table : Table) (t : Target) (request : Setup) (bytes : List ℕ)
    {to_hub : Bool} (free : IsFree to_hub request) (old : World)
    (answer : Result (Unit {0}) PipeFault) (new : World) where
  put_is_plain : DataWrite t request bytes old answer new
      → IsPlain path table t answer (DataWriteLeaves t request bytes answer old new) old new
  put_is_plain x = record {
    addresses = put_keeps t request (same_setup request) (free_is_harmless request free)
        free.address (div_ceil (length bytes) t.max + 2) 1 old new bytes answer x.ends x.stages;
    each = grind (arith, free, free_is_harmless, spared_all);
    others = λ j s v y. y.others;
    settings = grind arith;
    level = grind (arith, written_level);
    sound = grind (arith, ends_without_fault);
    told = grind (arith, bus_told);
    rests = put_rests t request (free_asks_no_port request free) bytes answer old new x.settled
        x.stages;
    backlog = grind (arith, free, put_backlog);
    who = answered answer x.who;
  }
    where
      answered : (r : Result (Unit {0}) PipeFault) → OnOk r
          ((is_harmless request ≡ false → t.addr ≢ 0) → new.shared ≡ false → Answerer t old new)
          → is_ok r ≡ true → new.shared ≡ false → Answerer t old new
      answered (Ok bytes) who done = grind (arith, free, free_is_harmless)
      answered (Err why) who done = absurd (cc done)

-- What a read of the device at a path tells of the table.

-- a pipe's fault as the table tells it
pub told_error : {A : Type 0} (why : PipeFault) (result : Result A TableFault) → IsErr result
    → IsErrAnd result (λ fault. fault ≡ of_pipe why) → result ≡ table_answer (Err why)
told_error why result err said = grind arith

-- the pipes to the device that is asked
asked_pipes : (path : List ℕ) (table : Table) (t : Target)
    → ArePipesAt path table
    → (x : IsAsked (is_below_hub path) (accepted_device_at path table.entries) t)
    → ArePipesTo x.device (is_below_hub path) (pipes_at path table)
asked_pipes path table t fits x = grind arith

module _ (path : List ℕ) (request : Setup) (host : IsToHost request) (table : Table)
    (fits : ArePipesAt path table) {old : World} {text : Option (List ℕ)}
    {result : Result (Vec ℕ) TableFault} {new : World} {now : Option (List ℕ)} (t : Target)
    (asks : control_target path table.entries ≡ Ok t)
    (answer : Result (Vec ℕ) PipeFault) (told : result ≡ table_answer answer)
    (went : StepRun (control_most request.length) old text new now) where
  pub asked : IsAsked (is_below_hub path) (accepted_device_at path table.entries) t
  asked = search asked_of

  reads_by : (b : Bool) → ReadIf b request t old answer new
      → ControlledAt (ReadIf b request) (ReadLeftIf b request) path
      (control_target path table.entries) request table old text result new now
  reads_by true x =
      made_controls (ReadLeftIf true request) path request table fits t asked _ asks answer
      (none_is_plain path table t request asked.device
      (asked_pipes path table t fits asked) (search (asked, read_is_free)) old answer new x.0)
      (ReadIf true request) result went x told
  reads_by false x = search (asked, made_controls, read_is_plain)

  pub table_reads : ReadMade request t old answer new
      → TableReads path request table old text result new now
  table_reads = reads_by (request.length == 0)

-- What a write to the device at a path tells of the table.

-- a device is asked what the host alone need not send
pub record IsWritten (below_hub : Bool) (request : Setup) (found : Option Accepted) (t : Target)
    : Type 0 where
  pub asked : IsAsked below_hub found t
  pub unreserved : is_reserved (is_some asked.device.hub) request ≡ false

unreserved_of : (b : Bool) (target : Result Target TransferFault) (t : Target)
    → unreserved b target ≡ Ok t → (b ≡ false) × (target ≡ Ok t)
unreserved_of b target t is = grind arith

written_of : (below_hub : Bool) (request : Setup) (found : Option Accepted) (t : Target)
    → write_asked below_hub request found ≡ Ok t → IsWritten below_hub request found t
written_of below_hub request None t is = absurd (cc is)
written_of below_hub request (Some device) t is =
    let x = unreserved_of (is_reserved (is_some device.hub) request) _ t is in
    record {
      asked = record { device = device; is = refl; target = cc x.1 };
      unreserved = x.0;
    }

unit_same : (answer : Result (Unit {0}) PipeFault) → without_bytes answer ≡ answer
unit_same answer = grind arith

module _ (path : List ℕ) (request : Setup) (bytes : List ℕ) (writes : IsToDevice request)
    (table : Table) (fits : ArePipesAt path table) {old : World} {text : Option (List ℕ)}
    {result : Result (Unit {0}) TableFault} {new : World} {now : Option (List ℕ)} (t : Target)
    (asks : write_target path request table.entries ≡ Ok t)
    (answer : Result (Unit {0}) PipeFault) (told : result ≡ table_answer answer)
    (went : StepRun (control_most request.length) old text new now) where
  pub written : IsWritten (is_below_hub path) request (accepted_device_at path table.entries) t
  written = search written_of

  pub free : IsFree (is_some written.asked.device.hub) request
  free = grind (arith, unreserved_is_free, written)

  writes_by : (b : Bool) → WriteIf b request bytes t old answer new
      → ControlledAt (WriteIf b request bytes) (WriteLeftIf b request bytes) path
      (write_target path request table.entries) request table old text result new now
  writes_by true x =
      made_controls (WriteLeftIf true request bytes) path request table fits t written.asked _ asks
      answer (subst (λ r. IsPlain path table t answer (WriteLeaves t request r old new) old new)
      (unit_same answer) (none_is_plain path table t request written.asked.device
      (asked_pipes path table t fits written.asked) free old answer new
      (subst (λ r. ControlWrite t request old r new) (sym (unit_same answer)) x)))
      (WriteIf true request bytes) result went x told
  writes_by false x =
      made_controls (WriteLeftIf false request bytes) path request table fits t written.asked _ asks
      answer (search (free, put_is_plain))
      (WriteIf false request bytes) result went x told

  pub table_writes : WriteMade request bytes t old answer new
      → TableWrites path request bytes table old text result new now
  table_writes = writes_by (request.length == 0)

-- A request that writes moves nothing through bulk endpoints.

-- it has taken and given what it had, and a pipe that had got what stands before some place has
-- got the same
pub record StillEnds (s v : State) : Type 0 where
  pub sink : (e : ℕ) → (out_end v e).sink ≡ (out_end s e).sink
  pub settings : SameSettings root s v
  pub into : (pipe : PipeState) (got : ℕ) → InPipeInSync pipe got s → InPipeInSync pipe got v

still_ends : (s v : State) → KeepsEnds s v → StillEnds s v
still_ends s v kept = grind (arith, into_kept)

module _ (t : Target) (request : Setup) (to_hub : Bool) (free : IsFree to_hub request)
    (bytes : List ℕ) (answer : Result (Unit {0}) PipeFault) (old new : World) (j : Location)
    (s v : State) (same : SameSettings j s v) where
  rows_still : v.outs ≡ s.outs → v.ins ≡ s.ins → StillEnds s v
  rows_still outs ins = still_ends s v (same_rows-kept s v same outs ins)

  left_still : (b : Bool) → WriteLeftIf b request bytes t answer old new j s v → StillEnds s v
  left_still true left = free_so t request free old new j s v (StillEnds s v)
      (search (accepted_ends, free, still_ends))
      (grind (arith, rows_still)) answer left
  left_still false left = grind (arith, rows_still)

-- so it is of a device that is asked what the host alone need not send
pub write_still : (path : List ℕ) (request : Setup) (bytes : List ℕ) → IsToDevice request
    → (table : Table) (t : Target) → write_target path request table.entries ≡ Ok t
    → (answer : Result (Unit {0}) PipeFault) (old new : World) (j : Location) (s v : State)
    → SameSettings j s v → WriteLeft request bytes t answer old new j s v → StillEnds s v
write_still path request bytes writes table t asks answer old new j s v same left =
    let w : IsWritten (is_below_hub path) request (accepted_device_at path table.entries) t =
    search (written_of, table.entries) in
    left_still t request (is_some w.asked.device.hub)
    (grind (arith, unreserved_is_free)) bytes answer old
    new j s v same (request.length == 0) left

-- A request that reads leaves bulk endpoints as they were.

-- a device that began so, as long as its registers are as they were
stage_on : (s u v : State) → OnlyStage s u → OnlyControl u v → v.registers ≡ s.registers
    → OnlyStage s v
stage_on s u v first frame same = grind arith

module _ (t : Target) (request : Setup) (host : IsToHost request)
    (answer : Result (Vec ℕ) PipeFault) (old new : World) (j : Location) (s v : State)
    (same : SameSettings j s v) where
  left_stage : (b : Bool) → ReadLeftIf b request t answer old new j s v → OnlyStage s v
  left_stage true left =
      free_so t request (read_is_free true request host) old new j s v (OnlyStage s v)
      (search (began_stage, outcome_fine, read_is_free, stage_on))
      (grind (arith, stage_on)) (without_bytes answer) left
  left_stage false left = left.frame

  pub read_spares : ReadLeft request t answer old new j s v → SparesBulk j s v
  read_spares left = grind (arith, left_stage, spares-stage)
