-- What a transfer through the pipes to what was found at a path leaves.
use Rattle.std.proofs.Common.{◌≡◌, ◌∙◌, sym, ap, refl, Bool, true, false, Option, Some, None}
use Rattle.std.proofs.Common.{Result, Ok, Err, ◌≢◌, ◌⊎◌, inl, inr, arith, ℕ, ◌*◌, ◌≤◌, List, length}
use Rattle.std.proofs.Common.{IfErr}
use Rattle.usb_world.specs.{BusFault, World, HasFault, AttemptsWithin, EachWas, Relation}
use Rattle.usb_transfer.specs.{BusToldIt, PipeFault, PipeState, is_broken, needs_clear, pipe_made}
use Rattle.usb_transfer.specs.{ClearLeaves, PacketLeaves, ReceiveLeaves, SendLeaves, pipe_known}
use Rattle.usb_transfer.specs.{write_bound}
use Rattle.usb_transfer.specs.declared.fault.PipeFault.TheVariants as pipe_fault
use Rattle.usb_table.specs.{AreInPlace, ClearedFirst, ClearedInOrder, Transfer, TransferFault}
use Rattle.usb_table.specs.{first_unclear, ClearedThrough, Function, FunctionPipes, MovedOrRefused}
use Rattle.usb_table.specs.{PipeDid, first_pipe, of_pipe, with_rest, PipesThrough, TableFault}
use Rattle.usb_table.specs.{TransferTold, function_made, pipe_asked, table_answer, unless_broken}
use Rattle.usb_table.specs.{with_pipe, pipe_at, Pipes, clears_miss, polls_miss, receives_miss}
use Rattle.usb_table.specs.{sends_miss, EndpointChoice, accepted_device_at, is_below_hub}
use Rattle.usb_table.specs.{TableClears, TableClearsOf, TableReceives, TableReports, TableSends}
use Rattle.usb_table.specs.{Transferred, ArePipesIf, Table, GoesThrough, pipe_to, pipes_at}
use Rattle.usb_table.specs.{ClearedAfter, ClearedBy, ClearedOfThrough, OnlyTransfers}
use Rattle.usb_table.specs.{PipesClearedOf, PipesReported, ReportedThrough, polls_through}
use Rattle.usb_table.specs.{TableFaultAllowed, PipesCleared, PipesReceived, PipesSent}
use Rattle.usb_table.specs.{ReceivedThrough, SameSettings, SentThrough, receives_through}
use Rattle.usb_table.specs.{sends_through}
use Rattle.usb_table.proofs.levels.StandingPipes.{IsRest, Picks, first_beside, first_picks}
use Rattle.usb_table.proofs.levels.StandingPipes.{first_ways, made_with, placed_made, rest_made}
use Rattle.usb_table.proofs.levels.StandingPipes.{unclear_beside, rest_same, rest_way, with_same}
use Rattle.usb_table.proofs.levels.StandingPipes.{far_end, in_place, polls_picks, polls_way}
use Rattle.usb_table.proofs.levels.StandingPipes.{receives_picks, receives_way, sends_picks}
use Rattle.usb_table.proofs.levels.StandingPipes.{sends_way, some_bytes, to_picks}
use Rattle.usb_table.proofs.transfers.Restarts.{cleared_rest, cleared_single, in_turn_moves}
use Rattle.std.specs.Global.{Vec}
use Rattle.arrayvec.specs.ArrayVec.{ArrayVec}
use Rattle.usb_world.proofs.Interface.{course_joined, each_joined, spends_none, spends_wider}
use Rattle.usb_device.specs.{Location, State}
use Rattle.usb_transfer.proofs.Interface.{clear_leaves, packet_leaves, receive_leaves, send_leaves}
use Rattle.usb_transfer.proofs.Interface.{few_packets}
use Rattle.usb_table.proofs.levels.FittingPipes.{PipesMove, clear_moves, given_moves, send_moves}
use Rattle.usb_table.proofs.levels.FittingPipes.{EachMoves, call_each}
use Rattle.usb_bus.specs.{Traced}
use Rattle.usb_hub.proofs.Interface.{keeps_then, all_then}
use Rattle.usb_enum.specs.{Accepted}
use Rattle.usb_table.specs.declared.fault.TableFault.TheVariants as table_fault
use Rattle.usb_table.proofs.transfers.DevicesKept.{PipeKeeps, clear_keeps, packet_keeps}
use Rattle.usb_table.proofs.transfers.DevicesKept.{receive_keeps, same_spares, send_keeps}
use Rattle.usb_table.proofs.transfers.DevicesKept.{sent_or_not}
use Rattle.usb_table.proofs.levels.PathCalls.{moved_levels, still_levels, WentThrough, through_both}
use Rattle.usb_table.proofs.levels.PathCalls.{through_pipes}

-- Calls through one pipe of a function.

-- a fault of the bus is told

told_last : {A : Type 0} (answer : Result A PipeFault) (last : Option BusFault)
    → BusToldIt answer last → TransferTold (table_answer answer) last
told_last answer last x = grind arith

pub told_bus : {A : Type 0} (answer : Result A PipeFault) (result : Result A TableFault)
    (last : Option BusFault) → result ≡ table_answer answer → BusToldIt answer last
    → TransferTold result last
told_bus answer result last told x = grind (arith, told_last)

-- a pipe was picked, and another one to the same endpoint put in its place
pub record PutBack (pick : FunctionPipes → Option PipeState) (pipes left : FunctionPipes)
    (pipe rest : PipeState) : Type 0 where
  pub picks : Picks pick
  pub placed : AreInPlace pipes
  pub picked : pick pipes ≡ Some pipe
  pub put : left ≡ with_pipe rest pipes
  pub same : pipe_made rest ≡ pipe_made pipe

module _ {pick : FunctionPipes → Option PipeState} {pipes left : FunctionPipes}
    {pipe rest : PipeState} (b : PutBack pick pipes left pipe rest) where
  at : pipe_at pipe.is_in pipe.ep pipes ≡ Some pipe
  at = grind arith

  pub call_made : function_made left ≡ function_made pipes
  call_made = grind (arith, at, made_with)

  pub call_through : {A : Type 0} (miss : FunctionPipes → TransferFault) (So : PipeDid A)
      (old : World) (result : Result A TableFault)
      (new : World) → So pipe old result rest new
      → PipesThrough pick miss So (Function pipes) old result (Function left) new
  call_through miss So old result new x = (
    Some rest,
    ap Function b.put,
    rw b.picked x,
  )

  module _ {A W : Type 0} (miss : TransferFault) (old new : W) (answer : Result A PipeFault)
      (result : Result A TableFault) (told : result ≡ table_answer answer) where
    pub call_refused : (is_broken pipe.condition ≡ true → (answer ≡ Err pipe_fault.Broken)
        × (rest ≡ pipe) × (new ≡ old))
        → MovedOrRefused (unless_broken (pipe_asked miss (pick pipes))) (Function pipes) old result
        (Function left) new
    call_refused broken = grind (arith, at, with_same)

-- The first bulk endpoints, one and then the other

pub call_first : (is_in : Bool) (pipes left : FunctionPipes) (pipe rest : PipeState)
    → first_pipe is_in pipes ≡ Some pipe → left ≡ with_pipe rest pipes → (old : World)
    (answer : Result (Unit {0}) PipeFault) (new : World)
    → ClearedThrough (needs_clear pipe) pipe old answer rest new
    → ClearedFirst is_in pipes old answer left new
call_first is_in pipes left pipe rest picked put old answer new x = record {
  rest = Some rest;
  cleared = rw picked x;
  left_is = put;
}

module _ (pipes mid_pipes : FunctionPipes) (placed : AreInPlace pipes) (old : World)
    (first : Result (Unit {0}) PipeFault) (mid : World)
    (x : ClearedFirst false pipes old first mid_pipes mid) where
  is_rest : IsRest (first_pipe false pipes) x.rest
  is_rest = grind (arith, cleared_rest)

  made : function_made mid_pipes ≡ function_made pipes
  made = ap function_made x.left_is ∙ rest_made (first_pipe false) (first_picks false) pipes placed
      (first_pipe false pipes) x.rest refl is_rest

  same_in : first_pipe true mid_pipes ≡ first_pipe true pipes
  same_in = ap (first_pipe true) x.left_is ∙ first_beside true false x.rest pipes
      (rest_way false (first_pipe false pipes) x.rest (first_ways false pipes placed) is_rest)
      (λ e. cc e)

  kept : mid_pipes ≡ with_rest (first_pipe true pipes) (with_rest x.rest pipes)
  kept = sym (rest_same (first_pipe true) (first_picks true) mid_pipes
      (placed_made pipes mid_pipes made placed) (first_pipe true pipes) same_in)
      ∙ ap (with_rest (first_pipe true pipes)) x.left_is

  pub first_failed : (why : PipeFault) → first ≡ Err why
      → ClearedInOrder pipes old (Err (of_pipe why)) mid_pipes mid
  first_failed why failed = grind (arith, kept)

  -- what could not be cleared in the second place cannot be now
  still_unclear : first_unclear true mid_pipes ≡ first_unclear true pipes
  still_unclear = ap (first_unclear true) x.left_is ∙ unclear_beside true false x.rest pipes
      (rest_way false (first_pipe false pipes) x.rest (first_ways false pipes placed) is_rest)
      (λ e. cc e)

  pub second_missed : (u : Unit {0}) → first ≡ Ok u → (why : TransferFault)
      → first_unclear true mid_pipes ≡ Some why
      → ClearedInOrder pipes old (Err (Transfer why)) mid_pipes mid
  second_missed u done why is = grind (arith, kept, still_unclear)

  pub both_cleared : first_unclear true mid_pipes ≡ None
      → (u : Unit {0}) → first ≡ Ok u → (answer : Result (Unit {0}) PipeFault)
      (result : Result (Unit {0}) TableFault) → result ≡ table_answer answer
      → (left : FunctionPipes) (new : World) → ClearedFirst true mid_pipes mid answer left new
      → ClearedInOrder pipes old result left new
  both_cleared clear u done answer result told left new y = grind (arith, same_in, still_unclear)

-- What a transfer through the pipes to what was found at a path leaves.

-- so few attempts were made, the fault is told, and what moved, of all devices and of the pipes to
-- the one that was found
record LeavesTransfer {A : Type 0} (n : ℕ) (found : Option Accepted) (pipes : Pipes) (old : World)
    (result : Result A TableFault) (left : Pipes) (new : World) : Type 0 where
  spends : AttemptsWithin n old new
  told : IfErr result (λ fault. TableFaultAllowed fault new)
  worlds : OnlyTransfers old new
  moves : ((left ≡ pipes) × (new ≡ old)) ⊎ ((device : Accepted) × (found ≡ Some device)
      × EachMoves device device.address (new.fault ≡ None) pipes left old new)

same_spends : (n : ℕ) (old new : World) → new ≡ old → AttemptsWithin n old new
same_spends n old new e = grind (arith, spends_none, spends_wider)

-- nothing was tried
idle_transfer_leaves : {A : Type 0} (n : ℕ) (found : Option Accepted) (pipes : Pipes) (old : World)
    (result : Result A TableFault) (new : World) (fault : TransferFault)
    → result ≡ Err (Transfer fault) → new ≡ old → LeavesTransfer n found pipes old result pipes new
idle_transfer_leaves n found pipes old result new fault e same = record {
  spends = same_spends n old new same;
  told = rw e tt;
  worlds = same_spares old new same;
  moves = inl (refl, same);
}

-- The fault that is told

pipe_told : (why : PipeFault) (w : World)
    → ((fault : BusFault) → why ≡ pipe_fault.Bus fault → HasFault fault w)
    → TableFaultAllowed (of_pipe why) w
pipe_told why w told = grind arith

pub told_answer : {A : Type 0} (answer : Result A PipeFault) (result : Result A TableFault)
    (w : World) → result ≡ table_answer answer
    → ((fault : BusFault) → answer ≡ Err (pipe_fault.Bus fault) → HasFault fault w)
    → IfErr result (λ fault. TableFaultAllowed fault w)
told_answer answer result w e told = grind (arith, pipe_told)

pub told_through : {A : Type 0} (old : World) (answer : Result A PipeFault)
    (result : Result A TableFault) (w : World) → result ≡ table_answer answer
    → PipeKeeps old answer w → IfErr result (λ fault. TableFaultAllowed fault w)
told_through old answer result w e kept = told_answer answer result w e kept.told

-- Through one pipe, by what is left of each device
one_leaves : {A : Type 0} {pick : FunctionPipes → Option PipeState} {below_hub : Bool}
    {found : Option Accepted} {device : Accepted} {pipes : FunctionPipes} {pipe left : PipeState}
    → found ≡ Some device → WentThrough device below_hub pick pipes pipe left → (n : ℕ)
    (L : Relation) {old : World} {answer : Result A PipeFault} {result : Result A TableFault}
    {new : World} → AttemptsWithin n old new → result ≡ table_answer answer
    → PipeKeeps old answer new → (new.shared ≡ false → EachWas L old new)
    → ((j : Location) (s v : State) → (new.fault ≡ None → pipe_known answer left ≡ left)
    → L j s v → SameSettings j s v → PipesMove device pipe.target.addr (new.fault ≡ None)
    (Function pipes) (Function (with_pipe left pipes)) j s v)
    → LeavesTransfer n found (Function pipes) old result (Function (with_pipe left pipes)) new
one_leaves {device = device} {pipe = pipe} {left} e w n L {old} {answer} {result} {new} few told
    kept leaves moves = record {
      spends = few;
      told = search (kept, told_through);
      worlds = kept.worlds;
      moves = inr (device, e, call_each pipe left w.of old answer new L kept leaves moves);
    }

-- Halts that are cleared, one and then the other

-- two calls, between which the bus was at work
spares_then : (old mid new : World) → OnlyTransfers old mid → OnlyTransfers mid new
    → mid.fault ≡ None → (new.shared ≡ false → mid.shared ≡ false) → OnlyTransfers old new
spares_then old mid new x y sound single = record {
  addresses = grind (arith, keeps_then);
  devices = record {
    same = λ one.
        each_joined SameSettings SameSettings SameSettings (grind arith)
        old mid new (grind arith) (y.devices.same one);
  };
  rests = λ still p. course_joined (x.rests sound p) (y.rests still p);
  backlog = grind (arith, all_then);
}

cleared_by : (pipe left : Option PipeState) (old : World) (answer : Result (Unit {0}) PipeFault)
    (new : World) → ClearedBy pipe old answer left new → PipeKeeps old answer new
cleared_by None left old answer new x =
    record { worlds = same_spares old new x.2; told = grind arith }
cleared_by (Some pipe) None old answer new x = absurd x
cleared_by (Some pipe) (Some left) old answer new x = grind (arith, clear_keeps)

-- one that is done made no attempt, or the bus is at work
done_or_same : (pipe left : Option PipeState) (old : World) (done : Unit {0}) (new : World)
    → ClearedBy pipe old (Ok done) left new → (new ≡ old) ⊎ (new.fault ≡ None)
done_or_same pipe left old done new x = grind (arith, sent_or_not)

-- what is so of the worlds, and of the fault
abbrev LeftAndTold : World → Result (Unit {0}) TableFault → World → Type 0
LeftAndTold old result new = OnlyTransfers old new
    × IfErr result (λ fault. TableFaultAllowed fault new)

cleared_in_order : (first : Result (Unit {0}) PipeFault)
    (why : Option TransferFault) (out out_left into into_left : Option PipeState)
    (old mid : World) (result : Result (Unit {0}) TableFault) (new : World)
    → ClearedBy out old first out_left mid → ClearedAfter first why into mid result into_left new
    → LeftAndTold old result new
cleared_in_order (Ok done) None out out_left into into_left old mid result new x y =
    let second = cleared_by into into_left mid y.0 new y.2 in (
      elim (done_or_same out out_left old done mid x) [
        | inl same ↦ rw (← same) second.worlds
        | inr sound ↦
            spares_then old mid new (cleared_by out out_left old (Ok done) mid x).worlds
            second.worlds sound (grind (arith, cleared_single))
      ],
      told_through mid y.0 result new y.1 second,
    )
cleared_in_order (Ok done) (Some why) out out_left into into_left old mid result new x y =
    grind (arith, cleared_by)
cleared_in_order (Err fault) why out out_left into into_left old mid result new x y =
    grind (arith, cleared_by, told_through)

-- while the bus is at work, none of its faults is told
no_bus_told : (result : Result (Unit {0}) TableFault) (w : World)
    → IfErr result (λ fault. TableFaultAllowed fault w) → w.fault ≡ None
    → (why : BusFault) → result ≢ Err (table_fault.Bus why)
no_bus_told result w told sound why = grind (arith, at)

clears_leave : (old : World) (result : Result (Unit {0}) TableFault) (new : World)
    (found : Option Accepted) → AttemptsWithin (2 * write_bound) old new → (below_hub : Bool)
    (pipes left : Pipes) → ArePipesIf found below_hub pipes → PipesCleared pipes old result left new
    → LeavesTransfer (2 * write_bound) found pipes old result left new
clears_leave old result new found few below_hub =
    through_both old result new found below_hub
    (λ p l. LeavesTransfer (2 * write_bound) found p old result l new) (search idle_transfer_leaves)
    (λ device pipes left e are x.
    let so =
    cleared_in_order x.first (first_unclear true pipes) (first_pipe false pipes) x.rest_out
    (first_pipe true pipes) x.rest_in
    old x.mid result new x.out x.into in
    record {
      spends = few;
      told = so.1;
      worlds = so.0;
      moves = inr (
        device,
        e,
        in_turn_moves device (new.fault ≡ None) false pipes are old result
            left new x (no_bus_told result new so.1) (λ e. absurd (cc e)),
      );
    })

-- At a path

module _ (path : List ℕ) (old new : Table) (before after : World) (text now : Option (List ℕ))
    (goes : GoesThrough path old new) (traced : Traced before text after now) where
  transferred : {A : Type 0} {So : Pipes → World → Result A TableFault → Pipes → World → Type 0}
      (n : ℕ) (result : Result A TableFault)
      → So (pipes_at path old) before result (pipes_at path new) after
      → LeavesTransfer n (accepted_device_at path old.entries) (pipes_at path old) before result
      (pipes_at path new) after → Transferred n So path old before text result new after now
  transferred n result did x = record {
    went = grind arith;
    told = x.told;
    did = did;
    keeps = elim x.moves [
      | inl none ↦ still_levels OnlyTransfers path _ old new before after goes none.0 none.1
          x.worlds
      | inr moved ↦
          moved_levels path moved.0 _ (pipes_at path old) (pipes_at path new) old new before after
          moved.1 goes refl refl x.worlds.addresses moved.2 OnlyTransfers x.worlds
    ];
  }

  -- through the pipe that is picked
  through_one : {A : Type 0} (pick : FunctionPipes → Option PipeState)
      (miss : FunctionPipes → TransferFault) → Picks pick → (So : PipeDid A)
      → ((pipe : PipeState) (o : World) (r : Result A TableFault) (left : PipeState) (w : World)
      → So pipe o r left w → pipe_made left ≡ pipe_made pipe)
      → (n : ℕ) (result : Result A TableFault)
      → ((device : Accepted) (pipes : FunctionPipes) (pipe left : PipeState)
      → accepted_device_at path old.entries ≡ Some device
      → WentThrough device (is_below_hub path) pick pipes pipe left
      → So pipe before result left after
      → LeavesTransfer n (accepted_device_at path old.entries) (Function pipes) before result
      (Function (with_pipe left pipes)) after)
      → PipesThrough pick miss So (pipes_at path old) before result (pipes_at path new) after
      → Transferred n (PipesThrough pick miss So) path old before text result new after now
  through_one pick miss picks So same n result each x =
      transferred n result x
      (through_pipes pick miss picks So same before result after _ (is_below_hub path)
      (λ p l. LeavesTransfer n (accepted_device_at path old.entries) p before result l after)
      (search idle_transfer_leaves) each _ _
      goes.fits x)

  pub table_sends : (choice : EndpointChoice) (bytes : List ℕ)
      (result : Result (Unit {0}) TableFault)
      → PipesSent choice (pipes_at path old) bytes before result (pipes_at path new) after
      → TableSends path choice bytes old before text result new after now
  table_sends choice bytes result =
      through_one (sends_through choice) (sends_miss choice) (sends_picks choice)
      (λ p. SentThrough p bytes) (λ p o r l w z. z.same) _ result
      (λ device pipes pipe left e w x.
      let few = few_packets (length bytes) pipe.max (some_bytes pipe w.of) in
      let placed = in_place device (is_below_hub path) pipes w.of.are in
      one_leaves e w _ (SendLeaves bytes pipe x.answer left) (grind (arith, spends_wider)) x.told
      (search (far_end, send_keeps))
      (grind (arith, send_leaves)) (search (send_moves, sends_way)))

  pub table_receives : (choice : EndpointChoice) (packets : ℕ) (result : Result (Vec ℕ) TableFault)
      → PipesReceived choice (pipes_at path old) packets before result (pipes_at path new) after
      → TableReceives path choice packets old before text result new after now
  table_receives choice packets result =
      through_one (receives_through choice) (receives_miss choice) (receives_picks choice)
      (λ p. ReceivedThrough p packets) (λ p o r l w z. z.same) _ result
      (λ device pipes pipe left e w x.
      let placed = in_place device (is_below_hub path) pipes w.of.are in
      one_leaves e w _ (ReceiveLeaves pipe x.answer left) x.count x.told
      (search (far_end, receive_keeps))
      (search (receive_leaves, some_bytes))
      (λ j s v known y. given_moves device _ pipes placed pipe left w.of.at w.made x.answer j s v
      known (grind (arith, receives_way)) y.others y.frame
      (λ there got f. let g = y.gave there got f in (g.behind, g.level))))

  pub table_reports : (endpoint : ℕ) (result : Result (Option (ArrayVec ℕ)) TableFault)
      → PipesReported endpoint (pipes_at path old) before result (pipes_at path new) after
      → TableReports path endpoint old before text result new after now
  table_reports endpoint result =
      through_one (polls_through endpoint) (polls_miss endpoint) (polls_picks endpoint)
      ReportedThrough (λ p o r l w z. z.same) _ result
      (λ device pipes pipe left e w x.
      let placed = in_place device (is_below_hub path) pipes w.of.are in
      one_leaves e w _ (PacketLeaves pipe x.answer left) x.count x.told
      (search (far_end, packet_keeps))
      (search (packet_leaves, some_bytes))
      (λ j s v known y. given_moves device _ pipes placed pipe left w.of.at w.made x.answer j s v
      known (search polls_way) y.others y.frame
      (λ there got f. let g = y.gave there got f in (g.behind, g.level))))

  pub table_clears_of : (endpoint : ℕ) (result : Result (Unit {0}) TableFault)
      → PipesClearedOf endpoint (pipes_at path old) before result (pipes_at path new) after
      → TableClearsOf path endpoint old before text result new after now
  table_clears_of endpoint result =
      through_one (pipe_to endpoint) (clears_miss endpoint) (to_picks endpoint) ClearedOfThrough
      (grind arith) _ result
      (λ device pipes pipe left e w x.
      one_leaves e w _ (ClearLeaves true pipe x.answer left) x.cleared.count x.told
      (grind (arith, clear_keeps))
      (grind (arith, clear_leaves))
      (search (clear_moves, in_place)))

  pub table_clears : (result : Result (Unit {0}) TableFault)
      → AttemptsWithin (2 * write_bound) before after
      → PipesCleared (pipes_at path old) before result (pipes_at path new) after
      → TableClears path old before text result new after now
  table_clears result few x = search (clears_leave, transferred)
