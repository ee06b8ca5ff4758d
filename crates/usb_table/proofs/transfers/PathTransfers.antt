-- A transfer through the pipes to the device at a path: no other device is changed, and its bytes
-- are given or taken there.
use Rattle.std.proofs.Common.{arith, ◌≡◌, ◌≢◌, refl, ap, true, false, ℕ, ◌==◌, eq-eqb, List, Option}
use Rattle.std.proofs.Common.{None, Some, Result, Ok, Err, is_ok, Bool, is_some, append-nil, []}
use Rattle.std.proofs.lemmas.Bool.{false_from_ne_true}
use Rattle.usb_device.specs.{State, reach, Location, path_to, state_there}
use Rattle.usb_world.specs.{BusFault, Relation, Was, EachWas, World, address_of}
use Rattle.usb_transfer.specs.{Target, Answerer, PipeFault, PipeState, pipe_made, Sends}
use Rattle.usb_transfer.specs.{OutPipeInSync, SendLeaves, Receives, ReceiveLeaves, pipe_known}
use Rattle.usb_transfer.specs.{PipePolls, PacketLeaves, report_in}
use Rattle.usb_transfer.specs.declared.fault.PipeFault.TheVariants as pipe_fault
use Rattle.usb_enum.specs.{Accepted}
use Rattle.usb_table.specs.declared.fault.TableFault.TheVariants as table_fault
use Rattle.usb_table.specs.{through, TableFault, ChangesAt, accepted_device_at, Pipes, PipesInSync}
use Rattle.usb_table.specs.{PipesInSyncIf, IsHeld, InSyncAt, is_below_hub, ArePipesIf, Table}
use Rattle.usb_table.specs.{ArePipesAt, pipes_at, table_answer, Function, FunctionInSync}
use Rattle.usb_table.specs.{FunctionPipes, PipeDid, PipesThrough, Transfer, TransferFault}
use Rattle.usb_table.specs.{TransfersAt, with_pipe, TookBytes, Delivered, EndpointChoice}
use Rattle.usb_table.specs.{OnlySinkOf, PipesSent, SentThrough, sends_through, sends_miss}
use Rattle.usb_table.specs.{GaveBytes, GaveBy, Collected, bytes_in, FitsIn, PipesReceived}
use Rattle.usb_table.specs.{ReceivedThrough, receives_through, receives_miss, GaveReport}
use Rattle.usb_table.specs.{ReportedBy, Reported, PipesReported, ReportedThrough, polls_through}
use Rattle.usb_table.specs.{polls_miss}
use Rattle.usb_table.proofs.levels.PathCalls.{held_address, stands_there, stood_at, WentThrough}
use Rattle.usb_table.proofs.levels.PathCalls.{through_pipes}
use Rattle.usb_table.proofs.levels.StandingPipes.{Picks, addressed, in_place, sends_picks}
use Rattle.usb_table.proofs.levels.StandingPipes.{sends_way, receives_picks, receives_way}
use Rattle.usb_table.proofs.levels.StandingPipes.{some_bytes, polls_picks, polls_way}
use Rattle.usb_transfer.proofs.Interface.{send_leaves, who_sends, receive_leaves, who_receives}
use Rattle.usb_transfer.proofs.Interface.{packet_leaves, who_packets}
use Rattle.usb_table.proofs.levels.FittingPipes.{out_of, in_of, known_left}
use Rattle.std.specs.Global.{Vec}
use Rattle.arrayvec.specs.ArrayVec.{ArrayVec}

-- A transfer through the pipes to the device at a path changes no device but the one that is
-- reached there.

-- what is so of the device that is reached at a path
abbrev pub PathReaches : List ℕ → World → (State → Type 0) → Type 0
PathReaches path w So = (s : State) → reach w.roots path ≡ true → state_there w.roots path ≡ Some s
    → So s

-- it is as far as the pipes at the path
module _ (path : List ℕ) (table : Table) (w : World) (level : InSyncAt path table w) where
  levels_by : (found : Option Accepted) → accepted_device_at path table.entries ≡ found
      → ArePipesIf found (is_below_hub path) (pipes_at path table)
      → PathReaches path w (PipesInSyncIf found (pipes_at path table))
  levels_by found e none = grind arith

  pub levels_there : ArePipesAt path table → PathReaches path w
      (PipesInSyncIf (accepted_device_at path table.entries) (pipes_at path table))
  levels_there = grind (arith, levels_by)

pub reaches_synced : (path : List ℕ) (w : World) (device : Accepted) (found : Option Accepted)
    → found ≡ Some device → (pipes : Pipes) → PathReaches path w (PipesInSyncIf found pipes)
    → PathReaches path w (PipesInSync device pipes)
reaches_synced path w device found e pipes l s on there =
    rw e at (l s on there)

pub synced_if : (device : Accepted) (found : Option Accepted) → found ≡ Some device
    → (pipes : Pipes) (s : State) → PipesInSync device pipes s → PipesInSyncIf found pipes s
synced_if device found e pipes s f = rw e f

-- nothing was tried
none_changes : (path : List ℕ) (So : State → State → Type 0) (old new : World) → new ≡ old
    → PathReaches path old (λ s. So s s) → EachWas (ChangesAt path So) old new
none_changes path So old new same so = rw same each
  where
    each : EachWas (ChangesAt path So) old old
    each j s on there = grind arith

module _ (path : List ℕ) (table : Table) (old : World) (held : IsHeld table old) (device : Accepted)
    (found : accepted_device_at path table.entries ≡ Some device) (a : ℕ) (is : a ≡ device.address)
  where
    pub changes_there : (L : Relation) (So : State → State → Type 0) (new : World)
        → ((j : Location) (s v : State) → L j s v → (address_of s == a) ≡ false → v ≡ s)
        → PathReaches path old (λ s. (j : Location) (v : State) → L j s v
        → (address_of s == a) ≡ true
        → So s v) → EachWas L old new → EachWas (ChangesAt path So) old new
    changes_there L So new others so each j v on there =
        record {
          before = w.before;
          on = w.on;
          stands = w.stands;
          so = record { itself = itself; others = apart };
        }
      where
        w : Was L old j v
        w = each j v on there

        itself : path ≡ path_to j → So w.before v
        itself e = grind (arith, eq-eqb, held_address, stood_at)

        apart : path ≢ path_to j → v ≡ w.before
        apart far = grind (arith, false_from_ne_true, stands_there)

    -- what is so of each device is so of the one there, and any other is as it was
    pub leaves_there : (L : Relation) (new : World)
        → ((j : Location) (s v : State) → L j s v → (address_of s == a) ≡ false → v ≡ s)
        → EachWas L old new → EachWas (λ j. ChangesAt path (L j) j) old new
    leaves_there L new others each j v on there =
        let w : Was L old j v = each j v on there in
        record {
          before = w.before;
          on = w.on;
          stands = w.stands;
          so = grind (arith, false_from_ne_true, stands_there);
        }

    -- who answered is reached there
    pub answers_there : (t : Target) (new : World) → t.addr ≡ a → Answerer t old new
        → reach new.roots path ≡ true
    answers_there t new e x = grind (arith, stands_there)

-- a pipe's answer is the table's
pub done_through : {A : Type 0} (answer : Result A PipeFault) (result : Result A TableFault)
    → result ≡ table_answer answer → is_ok answer ≡ is_ok result
done_through answer result e = grind arith

-- and is no fault of the bus where the table's is none
pub not_bus : {A : Type 0} (answer : Result A PipeFault) (result : Result A TableFault)
    → result ≡ table_answer answer → ((why : BusFault)
    → result ≢ Err (table_fault.Bus why)) → (why : BusFault) → answer ≢ Err (pipe_fault.Bus why)
not_bus answer result told other why e = grind arith

-- What a transfer leaves of the device at the path, and of the pipes to it

module _ (path : List ℕ) (old : Table) (before after : World) where
  abbrev pub Synced : Pipes → Type 0
  Synced pipes =
      PathReaches path before (PipesInSyncIf (accepted_device_at path old.entries) pipes)

  -- so much is so of it, and it is reached where the transfer is done and something was asked
  pub record MovesThere (done : Bool) (asked : Type 0) (So : State → State → Type 0) : Type 0 where
    pub each : TransfersAt path done So old before after
    pub there : done ≡ true → asked → reach after.roots path ≡ true

  -- nothing was tried
  pub none_there : {A : Type 0} (result : Result A TableFault) (fault : TransferFault)
      → result ≡ Err (Transfer fault) → after ≡ before → (asked : Type 0)
      (So : State → State → Type 0) → PathReaches path before (λ s. So s s)
      → MovesThere (is_ok result) asked So
  none_there result fault e same asked So so = grind (arith, none_changes)

  -- it was tried, with this answer
  moved_there : {A : Type 0} (answer : Result A PipeFault) (done : Bool)
      → is_ok answer ≡ done → IsHeld old before → (device : Accepted)
      → accepted_device_at path old.entries ≡ Some device → (t : Target) → t.addr ≡ device.address
      → (asked : Type 0) (L : Relation) (So : State → State → Type 0)
      → ((j : Location) (s v : State) → L j s v → (address_of s == t.addr) ≡ false → v ≡ s)
      → PathReaches path before (λ s. (j : Location) (v : State) → L j s v
      → (address_of s == t.addr) ≡ true → So s v) → EachWas L before after
      → (is_ok answer ≡ true → asked → Answerer t before after)
      → MovesThere done asked So
  moved_there answer done same held device found t is asked L So others so each who = record {
    each = record {
      each = search (changes_there, t.addr);
      known = λ e. ap is_some found;
    };
    there = grind (arith, answers_there);
  }

  -- it tries nothing, or goes through the pipe that is picked
  module _ {A : Type 0} {result : Result A TableFault} (R : Pipes → Pipes → Type 0)
      (level : InSyncAt path old before) (are : ArePipesAt path old) where
    pub through_path : (pick : FunctionPipes → Option PipeState)
        (miss : FunctionPipes → TransferFault) → Picks pick → (So : PipeDid A)
        → ((pipe : PipeState) (old : World) (result : Result A TableFault) (left : PipeState)
        (new : World) → So pipe old result left new → pipe_made left ≡ pipe_made pipe)
        → ((pipes : Pipes) (fault : TransferFault) → through pick pipes ≡ None
        → result ≡ Err (Transfer fault) → after ≡ before → Synced pipes → R pipes pipes)
        → ((device : Accepted) (pipes : FunctionPipes) (pipe left : PipeState)
        → accepted_device_at path old.entries ≡ Some device
        → WentThrough device (is_below_hub path) pick pipes pipe left
        → So pipe before result left after
        → PathReaches path before (FunctionInSync device pipes)
        → R (Function pipes) (Function (with_pipe left pipes))) → (left : Pipes)
        → PipesThrough pick miss So (pipes_at path old) before result left after
        → R (pipes_at path old) left
    through_path pick miss picks So same idle went left x =
        through_pipes pick miss picks So same before result after _ (is_below_hub path)
        (λ p l. Synced p → R p l) idle
        (λ device pipes pipe left e w x l.
        went device pipes pipe left e w x (reaches_synced path before device _ e _ l))
        (pipes_at path old) left are x (search levels_there)

-- Bytes that are sent through the pipes at a path are taken by the device there.

only_none : (pipe : Option PipeState) (s : State) → OnlySinkOf pipe s s
only_none pipe s = grind arith

none_taken : (bytes : List ℕ) (pipe : Option PipeState) (s : State)
    → TookBytes pipe false bytes s s
none_taken bytes pipe s = grind (arith, append-nil, only_none)

taken : (bytes : List ℕ) (pipe : PipeState) (answer : Result (Unit {0}) PipeFault)
    (left : PipeState) (j : Location) (s v : State) → SendLeaves bytes pipe answer left j s v
    → OutPipeInSync pipe s → (address_of s == pipe.target.addr) ≡ true
    → TookBytes (Some pipe) (is_ok answer) bytes s v
taken bytes pipe answer left j s v x fit at = grind arith

module _ (path bytes : List ℕ) (old new : Table) (before after : World) where
  -- they were sent through a pipe, if there is one
  abbrev Takes : Bool → Option PipeState → Type 0
  Takes done pipe =
      MovesThere path old before after done (bytes ≢ []) (TookBytes pipe done bytes)

  who_takes : (pipe : PipeState) (answer : Result (Unit {0}) PipeFault) (left : PipeState)
      → Sends bytes pipe before answer left after → after.shared ≡ false → is_ok answer ≡ true
      → bytes ≢ [] → Answerer pipe.target before after
  who_takes pipe answer left x single done some = grind (arith, who_sends)

  pub sent_delivers : (choice : EndpointChoice) (result : Result (Unit {0}) TableFault)
      → IsHeld old before → InSyncAt path old before → after.shared ≡ false → ArePipesAt path old
      → PipesSent choice (pipes_at path old) bytes before result (pipes_at path new) after
      → Delivered path choice (is_ok result) bytes old before new after
  sent_delivers choice result held level single are x =
      let t =
      through_path path old before after
      (λ p l. Takes (is_ok result) (through (sends_through choice) p)) level are
      (sends_through choice) (sends_miss choice) (sends_picks choice) (λ p. SentThrough p bytes)
      (λ p o r l w z. z.same)
      (λ pipes fault none e same l. none_there path old before after result fault e same _ _
      (grind (arith, none_taken)))
      (λ device pipes pipe left found w y l.
      let out = sends_way choice pipes pipe (search in_place) w.picked in
      rw (w.picked, ← done_through y.answer result y.told)
      (moved_there path old before after y.answer (is_ok y.answer) refl held device found
      pipe.target (addressed pipe w.of) _ (SendLeaves bytes pipe y.answer left) _
      (λ j s v x. x.others)
      (λ s on there j v x. taken bytes pipe y.answer left j s v x
      (out_of pipe w.of.at s (l s on there) out)) (grind (arith, send_leaves))
      (grind (arith, who_takes))))
      (pipes_at path new) x in grind arith

-- Bytes that are received through the pipes at a path are given by the device there.

bytes_through : (answer : Result (Vec ℕ) PipeFault) (result : Result (Vec ℕ) TableFault)
    → result ≡ table_answer answer → bytes_in answer ≡ bytes_in result
bytes_through answer result e = grind arith

given : (pipe : PipeState) (answer : Result (Vec ℕ) PipeFault) (left : PipeState)
    → pipe_known answer left ≡ left → (j : Location) (s v : State)
    → ReceiveLeaves pipe answer left j s v → FitsIn (Some pipe) s
    → (address_of s == pipe.target.addr) ≡ true → GaveBytes (bytes_in answer) pipe left s v
given pipe answer left known j s v x fit at = grind arith

module _ (path : List ℕ) (packets : ℕ) (old new : Table) (before after : World) where
  -- so many packets were asked for through a pipe, if there is one
  abbrev Gives : Bool → List ℕ → Option PipeState → Option PipeState → Type 0
  Gives done bytes pipe left =
      MovesThere path old before after done (packets ≢ 0) (GaveBy bytes pipe left)

  who_gives : (pipe : PipeState) (answer : Result (Vec ℕ) PipeFault) (left : PipeState)
      → Receives packets pipe before answer left after → after.shared ≡ false
      → is_ok answer ≡ true → packets ≢ 0 → Answerer pipe.target before after
  who_gives pipe answer left x single done some = grind (arith, who_receives)

  pub received_collects : (choice : EndpointChoice) (result : Result (Vec ℕ) TableFault)
      → ((why : BusFault) → result ≢ Err (table_fault.Bus why)) → IsHeld old before
      → InSyncAt path old before → after.shared ≡ false → ArePipesAt path old
      → PipesReceived choice (pipes_at path old) packets before result (pipes_at path new) after
      → Collected path choice (is_ok result) packets (bytes_in result) old before new after
  received_collects choice result other held level single are x =
      let g =
      through_path path old before after
      (λ p l. Gives (is_ok result) (bytes_in result) (through (receives_through choice) p)
      (through (receives_through choice) l)) level are
      (receives_through choice) (receives_miss choice) (receives_picks choice)
      (λ p. ReceivedThrough p packets) (λ p o r l w z. z.same)
      (λ pipes fault none e same l. none_there path old before after result fault e same _ _
      (grind arith))
      (λ device pipes pipe left found w y l.
      let into = receives_way choice pipes pipe (search in_place) w.picked in
      let known = known_left y.answer left (grind (arith, not_bus)) in
      rw (w.picked, w.again, ← bytes_through y.answer result y.told)
      (moved_there path old before after y.answer (is_ok result)
      (search done_through) held device found pipe.target (addressed pipe w.of) _
      (ReceiveLeaves pipe y.answer left) _ (λ j s v x. x.others)
      (λ s on there j v x. given pipe y.answer left known j s v x (grind (arith, in_of)))
      (search (receive_leaves, some_bytes)) (grind (arith, who_gives))))
      (pipes_at path new) x in grind arith

-- A packet that a poll of an endpoint at a path tells is given by the device there.

abbrev Answer : Type 0
Answer = Result (Option (ArrayVec ℕ)) PipeFault

abbrev pub Told : Type 0
Told = Result (Option (ArrayVec ℕ)) TableFault

-- a pipe's answer tells the packet that the table's does
packets_through : (answer : Answer) (result : Told) → result ≡ table_answer answer
    → report_in answer ≡ report_in result
packets_through answer result e = grind arith

none_through : (answer : Answer) (result : Told) → result ≡ table_answer answer
    → result ≡ Ok None → answer ≡ Ok None
none_through answer result e none = grind arith

gave_report : (pipe : PipeState) (answer : Answer) (result : Told) → result ≡ table_answer answer
    → (left : PipeState) → pipe_known answer left ≡ left → (j : Location) (s v : State)
    → PacketLeaves pipe answer left j s v → FitsIn (Some pipe) s
    → (address_of s == pipe.target.addr) ≡ true → GaveReport result pipe left s v
gave_report pipe answer result told left known j s v x fit at = record {
  had = fit;
  next = λ got f. rw (packets_through answer result told, known) at (x.gave at got f);
  none = grind (arith, none_through);
  rest = x.frame fit.1.endpoint;
}

module _ (path : List ℕ) (old new : Table) (before after : World) where
  -- an endpoint was polled through a pipe, if there is one
  abbrev Tells : Told → Option PipeState → Option PipeState → Type 0
  Tells result pipe left =
      MovesThere path old before after (is_ok result) (Unit {0}) (ReportedBy result pipe left)

  who_tells : (pipe : PipeState) (answer : Answer) (left : PipeState)
      → PipePolls pipe before answer left after → after.shared ≡ false → is_ok answer ≡ true
      → Answerer pipe.target before after
  who_tells pipe answer left x single done = grind (arith, who_packets)

  pub polled_tells : (endpoint : ℕ) (result : Told)
      → ((why : BusFault) → result ≢ Err (table_fault.Bus why)) → IsHeld old before
      → InSyncAt path old before → after.shared ≡ false → ArePipesAt path old
      → PipesReported endpoint (pipes_at path old) before result (pipes_at path new) after
      → Reported path endpoint result old before new after
  polled_tells endpoint result other held level single are x =
      let g =
      through_path path old before after
      (λ p l. Tells result (through (polls_through endpoint) p)
      (through (polls_through endpoint) l)) level are
      (polls_through endpoint) (polls_miss endpoint) (polls_picks endpoint) ReportedThrough
      (λ p o r l w z. z.same)
      (λ pipes fault none e same l. none_there path old before after result fault e same _ _
      (grind arith))
      (λ device pipes pipe left found w y l.
      let into = polls_way endpoint pipes pipe w.picked in
      let known = known_left y.answer left (grind (arith, not_bus)) in
      rw (w.picked, w.again)
      (moved_there path old before after y.answer (is_ok result)
      (search done_through) held device found pipe.target (addressed pipe w.of) _
      (PacketLeaves pipe y.answer left) _ (λ j s v x. x.others)
      (λ s on there j v x. gave_report pipe y.answer result y.told left known j s v x
      (grind (arith, in_of))) (search (packet_leaves, some_bytes))
      (grind (arith, who_tells))))
      (pipes_at path new) x in grind arith
