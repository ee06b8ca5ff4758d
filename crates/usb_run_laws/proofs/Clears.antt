-- What a clear leaves of the endpoints of a device: it moves nothing.
use Rattle.std.proofs.Common.{◌≡◌, ◌∙◌, refl, sym, ap, subst, Bool, true, false, not, ◌&&◌, ℕ}
use Rattle.std.proofs.Common.{◌==◌, List, [], Option, None, Some, Result, Ok, Err}
use Rattle.std.proofs.Common.{eqb-true, is_some, option_map}
use Rattle.usb_device.specs.{EndpointState, NothingMoved, State, in_end, out_end}
use Rattle.usb_world.specs.{Clear, ClearOf, World}
use Rattle.usb_transfer.specs.{PipeFault, PipeState, is_ready, needs_clear, pipe_made}
use Rattle.usb_enum.specs.{Accepted}
use Rattle.usb_table.specs.{AreFunctionPipes, ArePipesTo, At, ClearedAfter, ClearedBy, ClearedIf}
use Rattle.usb_table.specs.{ClearedOfThrough, FunctionPipes, HaltClearedBy}
use Rattle.usb_table.specs.{HaltClearedOf, HaltsCleared, Pipes, Hub, Function, Absent}
use Rattle.usb_table.specs.{PipesCleared, PipesClearedOf, SameSettings, TableFault, TransferFault}
use Rattle.usb_table.specs.{clear_miss, clears_miss, first_number, first_pipe, first_unclear}
use Rattle.usb_table.specs.{only_if, pipe_at, pipe_to, pipes_at, through, way_to, with_pipe}
use Rattle.usb_table.specs.{with_rest}
use Rattle.usb_table.proofs.Interface.{path_itself, root, still_source}
use Rattle.usb_host.specs.{table_in}
use Rattle.usb_run_laws.specs.{ArePackets, ClearsNone, Endpoint, FailsPlain, IsAtWork, ToldItem}
use Rattle.usb_run_laws.specs.{bytes_for, endpoint_at, first_of, is_of, is_this, pipe_of}
use Rattle.usb_run_laws.proofs.Devices.{DeviceMoves, gives_nothing, same_but, same_set}
use Rattle.usb_run_laws.proofs.Moves.{out_rests}
use Rattle.usb_run_laws.proofs.PipeEnds.{IsPut, OnlyPipe, first_stands, is_put, numbered, only_put}
use Rattle.usb_run_laws.proofs.PipeEnds.{picks_at, picks_first, put, through_cases, with_at_own}

-- Pipes over a clear

-- each pipe stays there; that of an endpoint of which no halt was cleared is as it was, and so is
-- the state of such an IN endpoint
record PipesClear (path : List ℕ) (t : ToldItem) (pipes left : Pipes) (s v : State) : Type 0 where
  some : (d : Bool) (e : ℕ) → is_some (pipe_of d e left) ≡ is_some (pipe_of d e pipes)
  alone : (d : Bool) (e : ℕ) → ClearsNone (endpoint_at path d e pipes) t
      → pipe_of d e left ≡ pipe_of d e pipes
  state : (e : ℕ) → ClearsNone (endpoint_at path true e pipes) t
      → (in_end v e).state ≡ (in_end s e).state
  number : (e : ℕ) (pipe : PipeState) → pipe_of true e pipes ≡ Some pipe → pipe.ep ≡ e
  first : (d : Bool) → first_of d left ≡ first_of d pipes

none_there : (pipe left : Option PipeState) → is_some left ≡ is_some pipe → left ≡ None
    → pipe ≡ None
none_there None left same gone = refl
none_there (Some pipe) left same gone = let none : false ≡ true = sym (ap is_some gone) ∙ same in
    absurd (cc none)

clear_moves : (path : List ℕ) (t : ToldItem) (pipes left : Pipes) (s v : State)
    → PipesClear path t pipes left s v → NothingMoved s v → SameSettings root s v
    → ((end : Endpoint) → bytes_for end t.due ≡ []) → ((end : Endpoint) → ArePackets end t.item [])
    → ((d : Bool) → FailsPlain d path t) → DeviceMoves path t pipes left s v
clear_moves path t pipes left s v clears moved same asks tells plain = record {
  outs = λ e.
      let end : Endpoint = endpoint_at path false e pipes in
      out_rests end t (pipe_of false e pipes) (pipe_of false e left) s v (asks end)
      (λ unset. none_there (pipe_of false e pipes) (pipe_of false e left) (clears.some false e))
      (clears.alone false e) (moved.taken e).0;
  ins = λ e alone.
      let end : Endpoint = endpoint_at path true e pipes in
      gives_nothing (ArePackets end t.item) e (pipe_of true e pipes) (pipe_of true e left) s v
      (tells end) (clears.alone true e alone)
      (λ p got there f. still_source p got s v same (moved.given p.ep).0
      (ap (λ n. (in_end v n).state) (clears.number e p there) ∙ clears.state e alone
      ∙ sym (ap (λ n. (in_end s n).state) (clears.number e p there))) f);
  first = clears.first;
  plain = λ d none. plain d;
  device = same_but s v same;
  settings = λ unset. same_set s v same;
}

-- the IN pipes have their numbers
in_number : (device : Accepted) (below : Bool) (pipes : Pipes) → ArePipesTo device below pipes
    → (e : ℕ) (pipe : PipeState) → pipe_of true e pipes ≡ Some pipe → pipe.ep ≡ e
in_number device below (Hub p) are e pipe there = absurd (cc there)
in_number device below (Function function) are e pipe there =
    numbered device below true e function pipe are there
in_number device below (Absent said) are e pipe there = absurd (cc there)

-- The first bulk endpoints

-- a pipe that works, or none, is left alone
clears_alone : (done : Bool) (pipe left : Option PipeState) (before after : ℕ → EndpointState)
    → HaltClearedBy needs_clear done pipe left before after → IsAtWork pipe
    → (pipe ≡ None → left ≡ None) → (left ≡ pipe) × ((e : ℕ) → after e ≡ before e)
clears_alone done None left before after end works none = (none refl, end)
clears_alone done (Some pipe) None before after end works none = absurd end
clears_alone done (Some pipe) (Some left) before after end works none =
    let alone = end.0.works (ap (λ c. not (is_ready c)) works) in
    (ap Some alone.0, λ e. by_number e (e == pipe.ep) refl)
  where
    by_number : (e : ℕ) (b : Bool) → (e == pipe.ep) ≡ b → after e ≡ before e
    by_number e true at = subst (λ n. after n ≡ before n) (sym (eqb-true e pipe.ep at)) alone_end
      where
        alone_end : after pipe.ep ≡ before pipe.ep
        alone_end = (end.0.works (ap (λ c. not (is_ready c)) works)).1
    by_number e false apart = end.1 e apart

-- the state of an endpoint stays of which there was another pipe, or none
apart_stays : (is_sent : PipeState → Bool) (done : Bool) (pipe left : Option PipeState)
    (before after : ℕ → EndpointState) → HaltClearedBy is_sent done pipe left before after
    → (e : ℕ) → ((p : PipeState) → pipe ≡ Some p → (e == p.ep) ≡ false) → after e ≡ before e
apart_stays is_sent done None left before after end e apart = end e
apart_stays is_sent done (Some pipe) None before after end e apart = absurd end
apart_stays is_sent done (Some pipe) (Some left) before after end e apart =
    end.1 e (apart pipe refl)

-- what is left of a pipe that was cleared
same_made : (pipe left : Option PipeState) (old new : World) (answer : Result (Unit {0}) PipeFault)
    → ClearedBy pipe old answer left new → option_map pipe_made left ≡ option_map pipe_made pipe
same_made None left old new answer x = ap (option_map pipe_made) x.1
same_made (Some pipe) None old new answer x = absurd x
same_made (Some pipe) (Some left) old new answer x = ap Some x.same

same_after : (first : Result (Unit {0}) PipeFault) (why : Option TransferFault)
    (pipe left : Option PipeState) (mid new : World) (result : Result (Unit {0}) TableFault)
    → ClearedAfter first why pipe mid result left new
    → option_map pipe_made left ≡ option_map pipe_made pipe
same_after (Ok done) None pipe left mid new result x = same_made pipe left mid new x.0 x.2
same_after (Ok done) (Some why) pipe left mid new result x = ap (option_map pipe_made) x.1
same_after (Err fault) why pipe left mid new result x = ap (option_map pipe_made) x.1

-- of the pipes to a function at most the one to the first bulk endpoint of a direction changed
record OnlyFirst (d : Bool) (number : Option ℕ) (pipes left : FunctionPipes) : Type 0 where
  beside : (e : ℕ) → is_this e number ≡ false → pipe_at d e left ≡ pipe_at d e pipes
  across : (e : ℕ) → pipe_at (not d) e left ≡ pipe_at (not d) e pipes
  first : (b : Bool) → first_number b left ≡ first_number b pipes
  some : (e : ℕ) → is_some (pipe_at d e left) ≡ is_some (pipe_at d e pipes)

-- such a pipe stands at its place
record IsFirst (d : Bool) (number : Option ℕ) (pipes : FunctionPipes) (pipe : PipeState)
    : Type 0 where
  way : pipe.is_in ≡ d
  there : pipe_at d pipe.ep pipes ≡ Some pipe
  of : (e : ℕ) → is_this e number ≡ (e == pipe.ep)

only_first : (d : Bool) (number : Option ℕ) (pipes : FunctionPipes) (pipe rest : Option PipeState)
    → option_map pipe_made rest ≡ option_map pipe_made pipe
    → ((p : PipeState) → pipe ≡ Some p → IsFirst d number pipes p)
    → OnlyFirst d number pipes (with_rest rest pipes)
only_first d number pipes None None same is = record {
  beside = λ e apart. refl;
  across = λ e. refl;
  first = λ b. refl;
  some = λ e. refl;
}
only_first d number pipes None (Some rest) same is = absurd (cc same)
only_first d number pipes (Some pipe) None same is = absurd (cc same)
only_first d number pipes (Some pipe) (Some rest) same is =
    let own : pipe_made rest ≡ pipe_made pipe = cc same in
    let first = is pipe refl in
    let puts : with_pipe rest pipes ≡ put d pipe.ep rest pipes =
    with_at_own d pipe rest pipes first.way own in
    let only : OnlyPipe d pipe.ep pipes (put d pipe.ep rest pipes) =
    only_put d pipe rest pipes first.there in
    record {
      beside = λ e apart. ap (pipe_at d e) puts ∙ only.beside e (sym (first.of e) ∙ apart);
      across = λ e. ap (pipe_at (not d) e) puts ∙ only.across e;
      first = λ b. ap (first_number b) puts ∙ only.first b;
      some = λ e. ap (λ p. is_some (pipe_at d e p)) puts ∙ only.some e;
    }

-- the number of an endpoint
this_number : (e : ℕ) (number : Option ℕ) → is_this e number ≡ true → number ≡ Some e
this_number e None is = absurd (cc is)
this_number e (Some n) is = ap Some (sym (eqb-true e n is))

-- the number of the first bulk endpoint of a direction, while its pipe is one in bulk
abbrev first_ep : Bool → FunctionPipes → Option ℕ
first_ep d pipes = option_map (λ (p : PipeState). p.ep) (first_pipe d pipes)

module _ (device : Accepted) (below : Bool) (path : List ℕ) (t : ToldItem) (asked : t.due
    ≡ Some (Clear path)) (done : Bool) (known : Option Accepted) (s v : State) where
  module _ (pipes left : FunctionPipes) (are : AreFunctionPipes device below pipes)
      (here : pipes_at path (table_in t.asked) ≡ Function pipes)
      (cleared : HaltsCleared done known (Function pipes) (Function left) s v) where
    is_first : (d : Bool) (pipe : PipeState) → first_pipe d pipes ≡ Some pipe
        → IsFirst d (first_ep d pipes) pipes pipe
    is_first d pipe stands =
        let picks = picks_first device below pipes are d pipe stands in
        record {
          way = picks.way;
          there = picks.there;
          of = λ e. ap (λ o. is_this e (option_map (λ (p : PipeState). p.ep) o)) stands;
        }

    -- the pipe to an endpoint that is the first one
    module _ (d : Bool) (e : ℕ) (before after : ℕ → EndpointState)
        (halt : HaltClearedBy needs_clear done (first_pipe d pipes) (first_pipe d left) before
        after)
        (first : first_number d left ≡ first_number d pipes)
        (alone : ClearsNone (endpoint_at path d e (Function pipes)) t) where
      abbrev Alone : Type 0
      Alone = (pipe_at d e left ≡ pipe_at d e pipes) × ((n : ℕ) → after n ≡ before n)

      -- where it is this one
      this_alone : (pipe : PipeState) → first_pipe d pipes ≡ Some pipe → (e == pipe.ep) ≡ true
          → Alone
      this_alone pipe stands is =
          let picks = picks_first device below pipes are d pipe stands in
          let this : is_this e (first_number d pipes) ≡ true =
          sym (ap (λ b. b && is_this e (first_number d pipes)) (path_itself path))
          ∙ picks.of path e ∙ is in
          let number : first_number d pipes ≡ Some e = this_number e (first_number d pipes) this in
          let there : pipe_at d e pipes ≡ Some pipe = (first_stands d pipes e pipe number stands).0
          in
          let works : IsAtWork (Some pipe) =
          subst IsAtWork there (subst (λ p. IsAtWork (pipe_of d e p)) here
          (alone.plain asked this)) in
          let stays = clears_alone done (Some pipe) (first_pipe d left) before after
          (subst (λ o. HaltClearedBy needs_clear done o (first_pipe d left) before after) stands
          halt) works (λ none. absurd (cc none)) in
          let now : pipe_at d e left ≡ Some pipe =
          (first_stands d left e pipe (first ∙ number) stays.0).0 in
          (now ∙ sym there, stays.1)

      first_alone : (o : Option PipeState) → first_pipe d pipes ≡ o
          → is_this e (option_map (λ (p : PipeState). p.ep) o) ≡ true → Alone
      first_alone None stands is = absurd (cc is)
      first_alone (Some pipe) stands is = this_alone pipe stands is

    module _ (first : (d : Bool) → first_number d left ≡ first_number d pipes)
        (some : (d : Bool) (e : ℕ)
        → is_some (pipe_at d e left) ≡ is_some (pipe_at d e pipes))
        (beside : (d : Bool) (e : ℕ) → is_this e (first_ep d pipes) ≡ false
        → pipe_at d e left ≡ pipe_at d e pipes) where
      out_alone : (e : ℕ) (b : Bool) → is_this e (first_ep false pipes) ≡ b
          → ClearsNone (endpoint_at path false e (Function pipes)) t
          → pipe_at false e left ≡ pipe_at false e pipes
      out_alone e true is alone = (first_alone false e (λ n. (out_end s n).state)
          (λ n. (out_end v n).state) cleared.out (first false) alone (first_pipe false pipes) refl
          is).0
      out_alone e false apart alone = beside false e apart

      in_alone : (e : ℕ) (b : Bool) → is_this e (first_ep true pipes) ≡ b
          → ClearsNone (endpoint_at path true e (Function pipes)) t
          → (pipe_at true e left ≡ pipe_at true e pipes)
          × ((in_end v e).state ≡ (in_end s e).state)
      in_alone e true is alone =
          let stays = first_alone true e (λ n. (in_end s n).state) (λ n. (in_end v n).state)
          cleared.into (first true) alone (first_pipe true pipes) refl is in
          (stays.0, stays.1 e)
      in_alone e false apart alone = (
        beside true e apart,
        apart_stays needs_clear done (first_pipe true pipes) (first_pipe true left)
            (λ n. (in_end s n).state) (λ n. (in_end v n).state) cleared.into e
            (λ p stands. let first_one = is_first true p stands in
            sym (first_one.of e) ∙ apart),
      )

      each_alone : (d : Bool) (e : ℕ) → ClearsNone (endpoint_at path d e (Function pipes)) t
          → pipe_at d e left ≡ pipe_at d e pipes
      each_alone true e alone = (in_alone e (is_this e (first_ep true pipes)) refl alone).0
      each_alone false e alone = out_alone e (is_this e (first_ep false pipes)) refl alone

      both_clear : PipesClear path t (Function pipes) (Function left) s v
      both_clear = record {
        some = some;
        alone = each_alone;
        state = λ e alone. (in_alone e (is_this e (first_ep true pipes)) refl alone).1;
        number = λ e pipe there. numbered device below true e pipes pipe are there;
        first = first;
      }

    module _ (rest_out rest_in : Option PipeState)
        (kept : left ≡ with_rest rest_in (with_rest rest_out pipes))
        (out : option_map pipe_made rest_out ≡ option_map pipe_made (first_pipe false pipes))
        (into : option_map pipe_made rest_in ≡ option_map pipe_made (first_pipe true pipes)) where
      outs : OnlyFirst false (first_ep false pipes) pipes (with_rest rest_out pipes)
      outs = only_first false (first_ep false pipes) pipes (first_pipe false pipes) rest_out out
          (is_first false)

      ins : OnlyFirst true (first_ep true pipes) (with_rest rest_out pipes)
          (with_rest rest_in (with_rest rest_out pipes))
      ins = only_first true (first_ep true pipes) (with_rest rest_out pipes)
          (first_pipe true pipes) rest_in into
          (λ p stands. let first_one = is_first true p stands in record {
            way = first_one.way;
            there = outs.across p.ep ∙ first_one.there;
            of = first_one.of;
          })

      some_kept : (d : Bool) (e : ℕ) → is_some (pipe_at d e left) ≡ is_some (pipe_at d e pipes)
      some_kept true e = ap (λ p. is_some (pipe_at true e p)) kept ∙ ins.some e
          ∙ ap is_some (outs.across e)
      some_kept false e = ap (λ p. is_some (pipe_at false e p)) kept ∙ ap is_some (ins.across e)
          ∙ outs.some e

      beside_kept : (d : Bool) (e : ℕ) → is_this e (first_ep d pipes) ≡ false
          → pipe_at d e left ≡ pipe_at d e pipes
      beside_kept true e apart = ap (pipe_at true e) kept ∙ ins.beside e apart ∙ outs.across e
      beside_kept false e apart = ap (pipe_at false e) kept ∙ ins.across e ∙ outs.beside e apart

      kept_clear : PipesClear path t (Function pipes) (Function left) s v
      kept_clear = both_clear
          (λ d. ap (first_number d) kept ∙ ins.first d ∙ outs.first d) some_kept beside_kept

    function_clear : (why : Option TransferFault) (old new : World)
        (result : Result (Unit {0}) TableFault) → ClearedIf why pipes old result left new
        → PipesClear path t (Function pipes) (Function left) s v
    function_clear (Some why) old new result x =
        both_clear (λ d. ap (first_number d) x.1) (λ d e. ap (λ p. is_some (pipe_at d e p)) x.1)
        (λ d e apart. ap (pipe_at d e) x.1)
    function_clear None old new result x =
        kept_clear x.rest_out x.rest_in x.left_is
        (same_made (first_pipe false pipes) x.rest_out old x.mid x.first x.out)
        (same_after x.first (first_unclear true pipes) (first_pipe true pipes) x.rest_in x.mid new
        result x.into)

  -- no pipe changed
  none_clear : (pipes left : Pipes) → left ≡ pipes → ArePipesTo device below pipes
      → ((e : ℕ) → (in_end v e).state ≡ (in_end s e).state) → PipesClear path t pipes left s v
  none_clear pipes left kept are state = record {
    some = λ d e. ap (λ p. is_some (pipe_of d e p)) kept;
    alone = λ d e alone. ap (pipe_of d e) kept;
    state = λ e alone. state e;
    number = in_number device below pipes are;
    first = λ d. ap (first_of d) kept;
  }

  firsts_clear : (pipes left : Pipes) (old new : World) (result : Result (Unit {0}) TableFault)
      → PipesCleared pipes old result left new → ArePipesTo device below pipes
      → pipes_at path (table_in t.asked) ≡ pipes → HaltsCleared done known pipes left s v
      → PipesClear path t pipes left s v
  firsts_clear (Hub p) left old new result x are here cleared =
      none_clear (Hub p) left x.1 are cleared.into
  firsts_clear (Function pipes) left old new result x are here cleared =
      subst (λ l. PipesClear path t (Function pipes) l s v) (sym x.1)
      (function_clear pipes x.0 are here
      (subst (λ l. HaltsCleared done known (Function pipes) l s v) x.1 cleared)
      (clear_miss pipes) old new result x.2)
  firsts_clear (Absent said) left old new result x are here cleared =
      none_clear (Absent said) left x.1 are cleared.into

  pub cleared_move : (pipes left : Pipes) (old new : World)
      (result : Result (Unit {0}) TableFault) → PipesCleared pipes old result left new
      → ArePipesTo device below pipes → pipes_at path (table_in t.asked) ≡ pipes
      → HaltsCleared done known pipes left s v → SameSettings root s v
      → ((end : Endpoint) → bytes_for end t.due ≡ [])
      → ((end : Endpoint) → ArePackets end t.item []) → ((d : Bool) → FailsPlain d path t)
      → DeviceMoves path t pipes left s v
  cleared_move pipes left old new result x are here cleared same asks tells plain =
      clear_moves path t pipes left s v
      (firsts_clear pipes left old new result x are here cleared) cleared.moved same asks tells
      plain

-- One endpoint, by its address

module _ (device : Accepted) (below : Bool) (path : List ℕ) (t : ToldItem) (a : ℕ) (asked : t.due
    ≡ Some (ClearOf path a)) (done : Bool) (known : Option Accepted) (s v : State) where
  -- another IN endpoint stays as it was
  way_stays : (pipes left : Pipes) → ArePipesTo device below pipes
      → HaltClearedOf a done known pipes left s v → (e : ℕ)
      → ClearsNone (endpoint_at path true e pipes) t → (in_end v e).state ≡ (in_end s e).state
  way_stays (Hub p) left are cleared e alone = cleared.into e
  way_stays (Function pipes) left are cleared e alone =
      apart_stays (λ p. true) done (way_to true a pipes) (through (way_to true a) left)
      (λ n. (in_end s n).state) (λ n. (in_end v n).state) cleared.into e
      (λ p found.
      let picks = picks_at device below pipes are true a (λ q. q.is_in) p (λ is. is)
      (λ rest same. ap (λ (q : PipeState). q.is_in) same) found in
      sym (picks.of path e) ∙ alone.named a asked)
  way_stays (Absent said) left are cleared e alone = cleared.into e

  abbrev Cleared : Pipes → Pipes → Type 0
  Cleared left pipes = ArePipesTo device below pipes → HaltClearedOf a done known pipes left s v
      → PipesClear path t pipes left s v

  -- of pipes of which one was put back
  some_put : (w d : Bool) (n : ℕ) (rest : PipeState) (pipes : FunctionPipes) (left : Pipes)
      → IsPut w n rest pipes left → (e : ℕ)
      → is_some (pipe_of d e left) ≡ is_some (pipe_at d e pipes)
  some_put true true n rest pipes left puts e = puts.some e
  some_put true false n rest pipes left puts e = ap is_some (puts.across e)
  some_put false true n rest pipes left puts e = ap is_some (puts.across e)
  some_put false false n rest pipes left puts e = puts.some e

  same_put : (w d : Bool) (n : ℕ) (rest : PipeState) (pipes : FunctionPipes) (left : Pipes)
      → IsPut w n rest pipes left → (e : ℕ) → (w ≡ d → (e == n) ≡ false)
      → pipe_of d e left ≡ pipe_at d e pipes
  same_put true true n rest pipes left puts e apart = puts.beside e (apart refl)
  same_put true false n rest pipes left puts e apart = puts.across e
  same_put false true n rest pipes left puts e apart = puts.across e
  same_put false false n rest pipes left puts e apart = puts.beside e (apart refl)

  untried_clear : (left pipes : Pipes) → through (pipe_to a) pipes ≡ None → left ≡ pipes
      → Cleared left pipes
  untried_clear left pipes none kept are cleared = record {
    some = λ d e. ap (λ p. is_some (pipe_of d e p)) kept;
    alone = λ d e alone. ap (pipe_of d e) kept;
    state = way_stays pipes left are cleared;
    number = in_number device below pipes are;
    first = λ d. ap (first_of d) kept;
  }

  put_clear : (left : Pipes) (pipes : FunctionPipes) (pipe rest : PipeState)
      → pipe_to a pipes ≡ Some pipe → left ≡ Function (with_pipe rest pipes)
      → pipe_made rest ≡ pipe_made pipe → Cleared left (Function pipes)
  put_clear left pipes pipe rest found kept same are cleared =
      let picks = picks_at device below pipes are pipe.is_in a (λ q. true) pipe (λ is. refl)
      (λ r made. refl) (ap (only_if (λ q. true)) found) in
      let puts = is_put pipe.is_in pipe rest pipes left refl same picks.there kept in
      record {
        some = λ d e. some_put pipe.is_in d pipe.ep rest pipes left puts e;
        alone = λ d e alone. same_put pipe.is_in d pipe.ep rest pipes left puts e
            (λ way. sym (picks.of path e)
            ∙ ap (λ b. is_of (endpoint_at path b e (Function pipes)) path (At a)) way
            ∙ alone.named a asked);
        state = way_stays (Function pipes) left are cleared;
        number = in_number device below (Function pipes) are;
        first = puts.first;
      }

  pub cleared_of_move : (pipes left : Pipes) (old new : World)
      (result : Result (Unit {0}) TableFault) → PipesClearedOf a pipes old result left new
      → ArePipesTo device below pipes → HaltClearedOf a done known pipes left s v
      → SameSettings root s v → ((end : Endpoint) → bytes_for end t.due ≡ [])
      → ((end : Endpoint) → ArePackets end t.item []) → ((d : Bool) → FailsPlain d path t)
      → DeviceMoves path t pipes left s v
  cleared_of_move pipes left old new result x are cleared same asks tells plain =
      clear_moves path t pipes left s v
      (through_cases (pipe_to a) (clears_miss a) ClearedOfThrough old result left new (Cleared left)
      (λ p none kept failed. untried_clear left p none kept)
      (λ function pipe rest found kept did.
      put_clear left function pipe rest found kept did.cleared.same) pipes x are cleared)
      cleared.moved same asks tells plain
