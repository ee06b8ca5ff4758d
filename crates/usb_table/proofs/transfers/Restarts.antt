-- The halts that are cleared through the pipes at a path are those of the device there.
use Rattle.std.proofs.Common.{arith, ◌≡◌, ◌≢◌, ◌∙◌, refl, sym, ap, subst, Bool, true, false, ℕ}
use Rattle.std.proofs.Common.{◌==◌, List, Option, None, Some, Result, Ok, Err, is_ok, is_some}
use Rattle.usb_device.specs.{EndpointState as End, InEnd, Location, NothingMoved, OutEnd, State}
use Rattle.usb_world.specs.{BusFault, EachWas, World, address_of}
use Rattle.usb_world.proofs.Interface.{each_joined, each_none, each_wider}
use Rattle.usb_transfer.specs.{PipeFault, PipeState, Clears, BegunAgain, needs_clear, pipe_made}
use Rattle.usb_transfer.specs.{ClearLeaves}
use Rattle.usb_transfer.proofs.Interface.{clear_leaves}
use Rattle.usb_enum.proofs.Interface.{each_joint}
use Rattle.usb_table.specs.{SameSettings, TableFault, Transfer, TransferFault, FunctionPipes, Pipes}
use Rattle.usb_table.specs.{Function, AreFunctionPipes, AreInPlace, EndsCleared, FunctionInSync}
use Rattle.usb_table.specs.{HaltCleared, HaltClearedBy, TransfersAt, Restarted, RestartedOf}
use Rattle.usb_table.specs.{accepted_device_at, first_pipe, pipe_to, clears_miss, is_below_hub}
use Rattle.usb_table.specs.{IsHeld, InSyncAt, Table, way_to, pipes_at, ArePipesAt, ClearedBy}
use Rattle.usb_table.specs.{ClearedAfter, ClearedInOrder, ClearedOfThrough, PipesCleared}
use Rattle.usb_table.specs.{PipesClearedOf, table_answer, with_pipe, with_rest}
use Rattle.usb_transfer.specs.declared.fault.PipeFault.TheVariants as pipe_fault
use Rattle.usb_enum.specs.{Accepted}
use Rattle.usb_table.specs.declared.fault.TableFault.TheVariants as table_fault
use Rattle.usb_table.proofs.levels.FittingPipes.{clear_moves, in_of, out_of, state_at, EachMoves}
use Rattle.usb_table.proofs.levels.FittingPipes.{known_left}
use Rattle.usb_table.proofs.transfers.FreeRequests.{in_cleared, moved_then, out_cleared}
use Rattle.usb_table.proofs.transfers.FreeRequests.{same_rows-moved}
use Rattle.usb_table.proofs.levels.StandingPipes.{function_to, IsPipeOf, IsRest, addressed}
use Rattle.usb_table.proofs.levels.StandingPipes.{first_beside, first_picks, first_way, first_ways}
use Rattle.usb_table.proofs.levels.StandingPipes.{in_place, pipe_of, rest_again, rest_made}
use Rattle.usb_table.proofs.levels.StandingPipes.{rest_same, rest_way, same_rest, same_way}
use Rattle.usb_table.proofs.levels.StandingPipes.{to_picks, one_way, way_to-one}
use Rattle.usb_table.proofs.transfers.PathTransfers.{PathReaches, changes_there, done_through}
use Rattle.usb_table.proofs.transfers.PathTransfers.{levels_there, not_bus, reaches_synced}
use Rattle.usb_table.proofs.transfers.PathTransfers.{synced_if, Synced, none_there, through_path}
use Rattle.usb_table.proofs.levels.PathCalls.{through_both}
use Rattle.usb_table.proofs.transfers.DevicesKept.{clears_single, sent_or_not, clear_keeps}
use Rattle.std.proofs.Math.Path.{fun_ext}

-- The two ends of one pipe

-- where a call is done only if the answer is one of success
begun_ends : (is_sent done : Bool) (pipe : PipeState) (old : World)
    (answer : Result (Unit {0}) PipeFault) (left : PipeState) (new : World)
    → (done ≡ true → is_ok answer ≡ true) → Clears is_sent pipe old answer left new
    → (before after : End) → BegunAgain is_sent answer before after
    → HaltCleared is_sent done pipe left before after
begun_ends is_sent done pipe old answer left new less x before after b = grind (arith, sent_or_not)

none_ends : (is_sent : PipeState → Bool) (done : Bool) (pipe : Option PipeState)
    → (done ≡ true → ⊥) → (ends : ℕ → End) → HaltClearedBy is_sent done pipe pipe ends ends
none_ends is_sent done pipe not ends = grind arith

-- no address was held twice before
pub cleared_single : (pipe left : Option PipeState) (old : World)
    (answer : Result (Unit {0}) PipeFault) (new : World) → ClearedBy pipe old answer left new
    → new.shared ≡ false → old.shared ≡ false
cleared_single pipe left old answer new x single = grind (arith, clears_single)

-- the pipe that is left is to the same endpoint
pub cleared_rest : (pipe left : Option PipeState) (old : World)
    (answer : Result (Unit {0}) PipeFault) (new : World) → ClearedBy pipe old answer left new
    → IsRest pipe left
cleared_rest pipe left old answer new x = grind arith

-- One device at the address, over the clear of one pipe or of both

-- a call is done only if the answer is one of success; where it ends so, that is not the bus's own
pub record FitsAnswer (ends : Type 0) (done : Bool) (answer : Result (Unit {0}) PipeFault)
    : Type 0 where
  pub sure : ends → (why : BusFault) → answer ≢ Err (pipe_fault.Bus why)
  pub less : done ≡ true → is_ok answer ≡ true

module _ (device : Accepted) (ends : Type 0) (is_sent : PipeState → Bool) (done : Bool) where
  -- the halts of the pipes of both directions, if there is one, were cleared
  record ClearsIt (was now : Bool → Option PipeState) (left : FunctionPipes) (s v : State) : Type 0
    where
      moved : NothingMoved s v
      out : HaltClearedBy is_sent done (was false) (now false) (state_at false s) (state_at false v)
      into : HaltClearedBy is_sent done (was true) (now true) (state_at true s) (state_at true v)
      level : FunctionInSync device left v

  -- where the call ends so
  record ClearStep (was now : Bool → Option PipeState) (pipes left : FunctionPipes) (j : Location)
      (s v : State) : Type 0 where
    others : (address_of s == device.address) ≡ false → v ≡ s
    same : address_of v ≡ address_of s
    itself : ends → (address_of s == device.address) ≡ true → FunctionInSync device pipes s
        → ClearsIt was now left s v

  abbrev ClearSteps : (Bool → Option PipeState) → (Bool → Option PipeState) → FunctionPipes
      → FunctionPipes → World → World → Type 0
  ClearSteps was now pipes left = EachWas (ClearStep was now pipes left)

  none_step : (was : Bool → Option PipeState) (pipes : FunctionPipes)
      → ((b : Bool) (e : ℕ → End) → HaltClearedBy is_sent done (was b) (was b) e e) → (w : World)
      → ClearSteps was was pipes pipes w w
  none_step was pipes same w = grind (arith, each_none, same_rows-moved, state_at)

  -- of the OUT pipe, and then of the IN pipe
  steps_then : (was now : Bool → Option PipeState) (pipes mid left : FunctionPipes)
      (u w v : World)
      → ClearSteps (one_way false (was false)) (one_way false (now false)) pipes mid u w
      → ClearSteps (one_way true (was true)) (one_way true (now true)) mid left w v
      → ClearSteps was now pipes left u v
  steps_then was now pipes mid left =
      each_joined (ClearStep (one_way false (was false)) (one_way false (now false)) pipes mid)
      (ClearStep (one_way true (was true)) (one_way true (now true)) mid left)
      (ClearStep was now pipes left) (grind (arith, fun_ext, moved_then, state_at))

  -- Through one pipe of a device that was found

  module _ {below_hub : Bool} {pipes : FunctionPipes} (pipe left : PipeState)
      (of : IsPipeOf device below_hub pipes pipe) (made : pipe_made left ≡ pipe_made pipe)
      (old : World) (answer : Result (Unit {0}) PipeFault) (new : World)
      (so : FitsAnswer ends done answer) (single : new.shared ≡ false)
      (x : Clears (is_sent pipe) pipe old answer left new) where
    ends_at : (way : Bool) → pipe.is_in ≡ way → (j : Location) (s v : State)
        → ClearLeaves (is_sent pipe) pipe answer left j s v
        → (address_of s == pipe.target.addr) ≡ true → FunctionInSync device pipes s
        → FunctionInSync device (with_pipe left pipes) v
        → ClearsIt (one_way way (Some pipe)) (one_way way (Some left)) (with_pipe left pipes) s v
    ends_at false way j s v a at level after =
        let fits = out_of pipe of.at s level way in
        let leaves = a.sink at way fits in
        let c = out_cleared pipe.ep s v (grind arith) in
        record {
          moved = c.moved;
          out = (
            begun_ends (is_sent pipe) done pipe old answer left new so.less x _ _ leaves.2,
            λ e apart. ap (λ (o : OutEnd). o.state) (c.others e apart),
          );
          into = grind arith;
          level = after;
        }
    ends_at true way j s v a at level after =
        let fits = in_of pipe of.at s level way in
        let leaves = a.source at way fits.0 fits.1 in
        let c = in_cleared pipe.ep s v (grind arith) in
        record {
          moved = c.moved;
          out = grind arith;
          into = (
            begun_ends (is_sent pipe) done pipe old answer left new so.less x _ _ leaves.2,
            λ e apart. ap (λ (o : InEnd). o.state) (c.others e apart),
          );
          level = after;
        }

    one_step : (way : Bool) → pipe.is_in ≡ way
        → ClearSteps (one_way way (Some pipe)) (one_way way (Some left)) pipes
        (with_pipe left pipes) old new
    one_step way is =
        each_joint (ClearLeaves (is_sent pipe) pipe answer left) SameSettings _
        (λ j s v a k.
        let m = clear_moves device ends pipes (grind (arith, in_place)) pipe left
        of.at made (is_sent pipe) answer j s v (λ e. known_left answer left (so.sure e)) a k in
        let at = ap (λ n. address_of s == n) (addressed pipe of) in
        record {
          others = λ far. m.others (at ∙ far);
          same = m.same;
          itself = grind (arith, ends_at);
        }) old new (grind (arith, clear_leaves))
        (grind (arith, clear_keeps))

-- Through the pipes to the first bulk endpoints

module _ (device : Accepted) (ends : Type 0) (done : Bool) where
  abbrev Steps : (Bool → Option PipeState) → (Bool → Option PipeState) → FunctionPipes
      → FunctionPipes → World → World → Type 0
  Steps = ClearSteps device ends needs_clear done

  idle : (way b : Bool) (e : ℕ → End)
      → HaltClearedBy needs_clear done (one_way way None b) (one_way way None b) e e
  idle way b e = grind arith

  -- of one direction, if there is one
  first_step : {below_hub : Bool} (way : Bool) (pipes : FunctionPipes)
      → AreFunctionPipes device below_hub pipes
      → (pipe left : Option PipeState) → first_pipe way pipes ≡ pipe → (old : World)
      (answer : Result (Unit {0}) PipeFault) (new : World) → FitsAnswer ends done answer
      → new.shared ≡ false → ClearedBy pipe old answer left new
      → Steps (one_way way pipe) (one_way way left) pipes (with_rest left pipes) old new
  first_step way pipes are None left at old answer new so single x =
      rw (x.1, x.2) (search (idle, none_step, one_way))
  first_step way pipes are (Some pipe) None at old answer new so single x = absurd x
  first_step {below_hub} way pipes are (Some pipe) (Some left) at old answer new so single x =
      let placed = in_place device below_hub pipes are in
      one_step device ends needs_clear done pipe left
      (pipe_of device below_hub pipes pipe are (first_picks way pipes pipe placed at).at) x.same old
      answer new so single x.clears way (first_way way pipes pipe placed at)

  -- of both, one and then the other
  module _ {below_hub : Bool} (pipes : FunctionPipes)
      (are : AreFunctionPipes device below_hub pipes) (old : World)
      (result : Result (Unit {0}) TableFault) (left : FunctionPipes) (new : World)
      (y : ClearedInOrder pipes old result left new)
      (sure : ends → (why : BusFault) → result ≢ Err (table_fault.Bus why))
      (less : done ≡ true → is_ok result ≡ true) where
    placed : AreInPlace pipes
    placed = search in_place

    abbrev rests : Bool → Option PipeState
    rests true = y.rest_in
    rests false = y.rest_out

    -- the pipes behind the first clear
    abbrev between : FunctionPipes
    between = with_rest y.rest_out pipes

    rest_out : IsRest (first_pipe false pipes) y.rest_out
    rest_out = grind (arith, cleared_rest)

    rest_in : IsRest (first_pipe true pipes) y.rest_in
    rest_in = grind (arith, cleared_rest, same_rest)

    are_between : AreFunctionPipes device below_hub between
    are_between = function_to device below_hub pipes between
        (rest_made (first_pipe false) (first_picks false) pipes placed
        (first_pipe false pipes) y.rest_out refl rest_out) are

    placed_between : AreInPlace between
    placed_between = in_place device below_hub between are_between

    same_in : first_pipe true between ≡ first_pipe true pipes
    same_in = first_beside true false y.rest_out pipes
        (rest_way false (first_pipe false pipes) y.rest_out (first_ways false pipes placed)
        rest_out) (λ e. cc e)

    -- the pipes that are left
    again : (b : Bool) → first_pipe b left ≡ rests b
    again false =
        ap (first_pipe false) y.left_is
        ∙ first_beside false true y.rest_in between
        (rest_way true (first_pipe true pipes) y.rest_in (first_ways true pipes placed) rest_in)
        (λ e. cc e)
        ∙ rest_again (first_pipe false) (first_picks false) pipes placed
        (first_pipe false pipes) y.rest_out refl rest_out
    again true =
        ap (first_pipe true) y.left_is
        ∙ rest_again (first_pipe true) (first_picks true) between placed_between
        (first_pipe true pipes) y.rest_in same_in rest_in

    -- the answer of a pipe
    pipe_answers : (answer : Result (Unit {0}) PipeFault) → result ≡ table_answer answer
        → FitsAnswer ends done answer
    pipe_answers answer told = grind (arith, done_through, not_bus)

    -- the first one, and what follows it
    first_then : (first : Result (Unit {0}) PipeFault) (mid : World) → FitsAnswer ends done first
        → mid.shared ≡ false → ClearedBy (first_pipe false pipes) old first y.rest_out mid
        → Steps (one_way true (first_pipe true pipes)) (one_way true y.rest_in) between
        (with_rest y.rest_in between) mid new
        → Steps (λ b. first_pipe b pipes) rests pipes (with_rest y.rest_in between) old new
    first_then first mid so single x h = search (first_step, steps_then)

    -- the second one is not cleared
    kept_step : is_ok result ≡ false → y.rest_in ≡ first_pipe true pipes
        → Steps (one_way true (first_pipe true pipes)) (one_way true y.rest_in) between
        (with_rest y.rest_in between) new new
    kept_step failed kept =
        rw (
          kept,
          rest_same (first_pipe true) (first_picks true) between placed_between
              (first_pipe true pipes) same_in,
        ) (grind (arith, none_step, one_way))
      where
        by_way : (b : Bool) (e : ℕ → End) → HaltClearedBy needs_clear done
            (one_way true (first_pipe true pipes) b) (one_way true (first_pipe true pipes) b) e e
        by_way true e = grind (arith, none_ends)
        by_way false e = λ n. refl

    in_turn : (first : Result (Unit {0}) PipeFault) (why : Option TransferFault)
        → ClearedBy (first_pipe false pipes) old first y.rest_out y.mid
        → ClearedAfter first why (first_pipe true pipes) y.mid result y.rest_in new
        → new.shared ≡ false
        → Steps (λ b. first_pipe b pipes) rests pipes (with_rest y.rest_in between) old new
    in_turn (Ok u) None x z single =
        first_then (Ok u) y.mid (grind arith)
        (grind (arith, cleared_single)) x
        (search (are_between, first_step, pipe_answers, same_in, z.0, z.1, z.2))
    in_turn (Ok u) (Some why) x z single =
        first_then (Ok u) new (grind arith) single
        (rw z.2 x) (kept_step (ap is_ok z.0) z.1)
    in_turn (Err fault) why x z single =
        first_then (Err fault) new (pipe_answers (Err fault) z.0) single (rw z.2 x)
        (kept_step (ap is_ok z.0) z.1)

    both_steps : new.shared ≡ false
        → Steps (λ b. first_pipe b pipes) rests pipes left old new
    both_steps single =
        subst (λ l. Steps (λ b. first_pipe b pipes) rests pipes l old new) (sym y.left_is)
        (search in_turn)

    pub in_turn_moves : EachMoves device device.address ends (Function pipes) (Function left) old
        new
    in_turn_moves = grind (arith, both_steps, each_wider)

-- At a path

module _ (path : List ℕ) (old : Table) (before after : World) where
  module _ (is_sent : PipeState → Bool) (pick : Bool → FunctionPipes → Option PipeState)
      (result : Result (Unit {0}) TableFault) where
    abbrev Cleared : Pipes → Pipes → Type 0
    Cleared pipes left =
        TransfersAt path (is_ok result) (EndsCleared is_sent (is_ok result) pick
        (accepted_device_at path old.entries) pipes left) old before after

    not_cleared : (pipes : Pipes) (fault : TransferFault) → result ≡ Err (Transfer fault)
        → after ≡ before → Synced path old before after pipes → Cleared pipes pipes
    not_cleared pipes fault e same level =
        let not : is_ok result ≡ true → ⊥ = λ done. grind arith in
        (none_there path old before after result fault e same (Unit {0}) _
        (grind (arith, none_ends, same_rows-moved))).each

    -- the pipes were picked so, before and behind
    cleared_there : IsHeld old before → (device : Accepted)
        → accepted_device_at path old.entries ≡ Some device → (pipes left : FunctionPipes)
        (was now : Bool → Option PipeState) → ((b : Bool) → pick b pipes ≡ was b)
        → ((b : Bool) → pick b left ≡ now b)
        → ClearSteps device (Unit {0}) is_sent (is_ok result) was now pipes left before after
        → PathReaches path before (FunctionInSync device pipes)
        → Cleared (Function pipes) (Function left)
    cleared_there held device found pipes left was now picked again each level = record {
      each = changes_there path old before held device found device.address refl _
          (EndsCleared is_sent (is_ok result) pick (accepted_device_at path old.entries)
          (Function pipes) (Function left)) after (λ j s v z. z.others)
          (grind (arith, again, synced_if)) each;
      known = λ done. ap is_some found;
    }

  pub cleared_restarts : (new : Table) (result : Result (Unit {0}) TableFault)
      → ((why : BusFault) → result ≢ Err (table_fault.Bus why)) → IsHeld old before
      → InSyncAt path old before → after.shared ≡ false → ArePipesAt path old
      → PipesCleared (pipes_at path old) before result (pipes_at path new) after
      → Restarted path (is_ok result) old before new after
  cleared_restarts new result other held level single are x =
      through_both before result after (accepted_device_at path old.entries) (is_below_hub path)
      (λ p l. Synced path old before after p → Cleared needs_clear first_pipe result p l)
      (search not_cleared)
      (λ device pipes left found to y l.
      cleared_there needs_clear first_pipe result held device found pipes left _ _ (λ b. refl)
      (search again)
      (both_steps device (Unit {0}) (is_ok result) pipes to before result left after y (λ e. other)
      (λ e. e) single)
      (reaches_synced path before device _ found (Function pipes) l))
      (pipes_at path old) (pipes_at path new) are x (search levels_there)

  -- the halt of one endpoint, by its address

  pub cleared_restarts_of : (a : ℕ) (new : Table) (result : Result (Unit {0}) TableFault)
      → ((why : BusFault) → result ≢ Err (table_fault.Bus why)) → IsHeld old before
      → InSyncAt path old before → after.shared ≡ false → ArePipesAt path old
      → PipesClearedOf a (pipes_at path old) before result (pipes_at path new) after
      → RestartedOf path a (is_ok result) old before new after
  cleared_restarts_of a new result other held level single are x =
      through_path path old before after
      (Cleared (λ pipe. true) (λ is_in. way_to is_in a) result) level are
      (pipe_to a) (clears_miss a) (to_picks a) ClearedOfThrough (grind arith)
      (search not_cleared)
      (λ device pipes pipe left found w y l.
      cleared_there (λ pipe. true) (λ is_in. way_to is_in a) result held device found pipes
      (with_pipe left pipes) _ _ (search way_to-one)
      (grind (arith, one_way, same_way, way_to-one))
      (one_step device (Unit {0}) (λ pipe. true) (is_ok result) pipe left w.of w.made before
      y.answer after (grind (arith, done_through, not_bus)) single y.cleared.clears pipe.is_in
      refl) l)
      (pipes_at path new) x
