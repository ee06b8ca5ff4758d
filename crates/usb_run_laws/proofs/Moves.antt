-- What a transfer to a device moves through each of its endpoints.
use Rattle.std.proofs.Common.{◌≡◌, ◌≢◌, ◌∙◌, refl, sym, ap, subst, Bool, true, false, not, ℕ}
use Rattle.std.proofs.Common.{◌==◌, List, [], Option, None, Some, Result, Ok, Err, eq-eqb}
use Rattle.std.proofs.Common.{eqb-true, get_or, is_ok, if◌then◌else◌}
use Rattle.usb_device.specs.{OnlySource, State, Location, no_in, out_end, reach_on}
use Rattle.usb_device.specs.{state_on}
use Rattle.usb_world.specs.{Send, Receive, BusFault, Was, World, address_of}
use Rattle.usb_world.proofs.Interface.{both}
use Rattle.usb_transfer.specs.{Target, is_at, PipeFault, PipeState, InPipeInSync, Sends}
use Rattle.usb_transfer.specs.{OutPipeInSync, pipe_made}
use Rattle.usb_transfer.specs.declared.condition.Condition.TheVariants.{Ready}
use Rattle.usb_transfer.specs.declared.fault.PipeFault.TheVariants as pipe_fault
use Rattle.usb_table.specs.declared.fault.TableFault.TheVariants as table
use Rattle.usb_enum.specs.{Accepted}
use Rattle.usb_table.specs.{ArePipesTo, EndpointChoice, FirstBulk, At, FitsOut, FunctionPipes}
use Rattle.usb_table.specs.{JoinsSink, PipeDid, Pipes, Function, PipesInSync}
use Rattle.usb_table.specs.{PipesSent, PipesThrough, SameSettings, SentThrough, TableFault}
use Rattle.usb_table.specs.{TookBytes, TransferFault, pipe_at, sends_miss, sends_through}
use Rattle.usb_table.specs.{table_answer}
use Rattle.usb_table.specs.{gives_bytes, gives_reports, is_bulk_kind, polls_through}
use Rattle.usb_table.specs.{receives_through, takes_bytes}
use Rattle.usb_table.specs.{through, with_pipe}
use Rattle.usb_table.proofs.Interface.{done_through, root, still_source}
use Rattle.usb_run_laws.specs.{ArePackets, ClearsNone, Endpoint, FailsPlain, Joins, SetsNone}
use Rattle.usb_run_laws.specs.{ToldItem, bytes_for, endpoint_at, first_of, is_done, is_of, pipe_of}
use Rattle.usb_run_laws.proofs.Bytes.{SinkStep, joins_failed, joins_none, sink_step_failed}
use Rattle.usb_run_laws.proofs.Bytes.{sink_step_none}
use Rattle.usb_run_laws.proofs.Devices.{DeviceMoves, DeviceStays, GaveSome, GivesBy, OutMoves}
use Rattle.usb_run_laws.proofs.Devices.{gives_nothing, same_but, same_set}
use Rattle.usb_run_laws.proofs.HaltedSends.{NoneSent, empty_stuck, failed_stuck, none_sent}
use Rattle.usb_run_laws.proofs.PipeEnds.{IsPut, OnlyRest, Picks, is_put, numbered, only_rest}
use Rattle.usb_run_laws.proofs.PipeEnds.{picks_at, picks_first, through_cases}

-- An endpoint at which nothing moved

-- nothing was asked of an OUT endpoint
pub out_rests : (end : Endpoint) (t : ToldItem) (pipe left : Option PipeState) (s v : State)
    → bytes_for end t.due ≡ [] → (SetsNone end.path t → left ≡ None → pipe ≡ None)
    → (ClearsNone end t → left ≡ pipe)
    → (out_end v end.number).sink ≡ (out_end s end.number).sink → OutMoves end t pipe left s v
out_rests end t pipe left s v none there kept same = record {
  there = there;
  none = λ gone. same;
  sink = joins_none (is_done t.item) (bytes_for end t.due) (out_end s end.number).sink
      (out_end v end.number).sink none same;
  took = λ alone. subst (λ bytes. SinkStep (is_done t.item) bytes pipe left
      (out_end s end.number).sink (out_end v end.number).sink) (sym none)
      (sink_step_none (is_done t.item) pipe left (out_end s end.number).sink
      (out_end v end.number).sink (kept alone) same);
}

-- or what was asked failed at once
out_fails : (end : Endpoint) (t : ToldItem) (pipe left : Option PipeState) (s v : State)
    → is_done t.item ≡ false → left ≡ pipe
    → (out_end v end.number).sink ≡ (out_end s end.number).sink → OutMoves end t pipe left s v
out_fails end t pipe left s v failed kept same = record {
  there = λ unset gone. sym kept ∙ gone;
  none = λ gone. same;
  sink = joins_failed (is_done t.item) (bytes_for end t.due) (out_end s end.number).sink
      (out_end v end.number).sink failed same;
  took = λ alone. sink_step_failed (is_done t.item) (bytes_for end t.due) pipe left
      (out_end s end.number).sink (out_end v end.number).sink failed kept same;
}

pub settings_same : (s v : State) → v ≡ s → SameSettings root s v
settings_same s v same = (ap (λ (d : State). d.spec) same, ap (λ (d : State). d.registers) same)

pub fails_plain : (d : Bool) (path : List ℕ) (t : ToldItem) → is_done t.item ≡ false
    → FailsPlain d path t
fails_plain false path t failed = λ bytes asked. failed
fails_plain true path t failed = λ packets asked. failed

-- of an event that asks for no such transfer nothing is said
pub no_plain : (d : Bool) (path : List ℕ) (t : ToldItem)
    → ((bytes : List ℕ) → t.due ≡ Some (Send path bytes) → ⊥)
    → ((packets : ℕ) → t.due ≡ Some (Receive path packets) → ⊥) → FailsPlain d path t
no_plain false path t sends receives = λ bytes asked. absurd (sends bytes asked)
no_plain true path t sends receives = λ packets asked. absurd (receives packets asked)

-- what an event and its item ask for and tell is nothing of the device's endpoints
pub record IsQuiet (path : List ℕ) (t : ToldItem) : Type 0 where
  pub asks : (e : ℕ) (pipes : Pipes) → bytes_for (endpoint_at path false e pipes) t.due ≡ []
  pub tells : (e : ℕ) (pipes : Pipes) → ArePackets (endpoint_at path true e pipes) t.item []
  pub plain : (d : Bool) → FailsPlain d path t

pub quiet_moves : (path : List ℕ) (t : ToldItem) (pipes left : Pipes) (s v : State)
    → IsQuiet path t → DeviceStays pipes left s v → DeviceMoves path t pipes left s v
quiet_moves path t pipes left s v quiet stays = record {
  outs = λ e. out_rests (endpoint_at path false e pipes) t (pipe_of false e pipes)
      (pipe_of false e left) s v (quiet.asks e pipes)
      (λ unset gone. sym (stays.kept false e) ∙ gone)
      (λ alone. stays.kept false e) (stays.sinks e);
  ins = λ e alone. gives_nothing (ArePackets (endpoint_at path true e pipes) t.item) e
      (pipe_of true e pipes) (pipe_of true e left) s v (quiet.tells e pipes) (stays.kept true e)
      (λ p got there f. stays.into p got f);
  first = stays.first;
  plain = λ d none. quiet.plain d;
  device = same_but s v stays.settings;
  settings = λ unset. same_set s v stays.settings;
}

-- A transfer that failed at once

pub device_fails : (path : List ℕ) (t : ToldItem) (pipes left : Pipes) (s v : State)
    → left ≡ pipes → v ≡ s → is_done t.item ≡ false
    → ((e : ℕ) → ArePackets (endpoint_at path true e pipes) t.item [])
    → DeviceMoves path t pipes left s v
device_fails path t pipes left s v kept same failed none = record {
  outs = λ e. out_fails (endpoint_at path false e pipes) t (pipe_of false e pipes)
      (pipe_of false e left) s v failed (ap (pipe_of false e) kept)
      (ap (λ (d : State). (out_end d e).sink) same);
  ins = λ e alone. gives_nothing (ArePackets (endpoint_at path true e pipes) t.item) e
      (pipe_of true e pipes) (pipe_of true e left) s v (none e) (ap (pipe_of true e) kept)
      (λ p got there f. subst (InPipeInSync p got) (sym same) f);
  first = λ d. ap (first_of d) kept;
  plain = λ d none. fails_plain d path t failed;
  device = same_but s v (settings_same s v same);
  settings = λ unset. same_set s v (settings_same s v same);
}

-- A send

-- one state stands at a place
pub one_stands : (w : World) (x : Location) (s u : State) → state_on w.roots x ≡ Some s
    → state_on w.roots x ≡ Some u → u ≡ s
one_stands w x s u e f = cc (e, f)

-- what a send brings joins the sink
joins_sink : (done : Bool) (bytes old new : List ℕ) → JoinsSink done bytes old new
    → Joins done bytes old new
joins_sink true bytes old new x = x
joins_sink false bytes old new x = (x.front, x.rest, x.split, x.sink)

-- through one pipe, to the device that is reached before and after it
module _ (bytes : List ℕ) (old new : World) (x : Location) (s v : State) (on : reach_on new.roots x
    ≡ true) (stands : state_on new.roots x ≡ Some v) (stood : state_on old.roots x ≡ Some s)
    (pipe left : PipeState) (at : is_at s pipe.target ≡ true) (fits : OutPipeInSync pipe s)
    (single : new.shared ≡ false) where
  nothing_sent : (answer : Result (Unit {0}) PipeFault) → Sends bytes pipe old answer left new
      → pipe.condition ≢ Ready → ((out_end v pipe.ep).sink ≡ (out_end s pipe.ep).sink)
      × (is_ok answer ≡ true → bytes ≡ [])
  nothing_sent answer sends stuck =
      let was : Was (NoneSent bytes pipe answer) old x v =
      none_sent bytes pipe answer left old new stuck single sends x v on stands in
      let same : was.before ≡ s = one_stands old x s was.before stood was.stands in
      let none = was.so.none (ap (λ q. is_at q pipe.target) same
      ∙ at) (subst (OutPipeInSync pipe) (sym same) fits) in
      (none.0 ∙ ap (λ (d : State). (out_end d pipe.ep).sink) same, none.1)

  -- by what the pipe answered
  sink_steps : (answer : Result (Unit {0}) PipeFault)
      → ((why : BusFault) → answer ≢ Err (pipe_fault.Bus why))
      → Sends bytes pipe old answer left new
      → JoinsSink (is_ok answer) bytes (out_end s pipe.ep).sink (out_end v pipe.ep).sink
      → SinkStep (is_ok answer) bytes (Some pipe) (Some left) (out_end s pipe.ep).sink
      (out_end v pipe.ep).sink
  sink_steps (Ok done) other sends joins = record {
    whole = λ told works. joins;
    cut = λ told works. absurd (cc told);
    stuck = λ stuck. let none = nothing_sent (Ok done) sends stuck in
        (none.0, none.1, empty_stuck bytes pipe done left old new (none.1 refl) stuck sends);
  }
  sink_steps (Err why) other sends joins =
      let never : left.condition ≢ Ready = failed_stuck bytes pipe why left old new
      (λ fault e. other fault (ap Err e)) sends in
      record {
        whole = λ told works. absurd (cc told);
        cut = λ told works. (
          joins.front,
          joins.rest,
          joins.split,
          joins.sink,
          λ works. absurd (never works),
        );
        stuck = λ stuck. let none = nothing_sent (Err why) sends stuck in (none.0, none.1, never);
      }

-- the pipe that a send picks
sends_pick : (device : Accepted) (below : Bool) (pipes : FunctionPipes)
    → ArePipesTo device below (Function pipes) → (choice : EndpointChoice) (pipe : PipeState)
    → sends_through choice pipes ≡ Some pipe
    → Picks device below false choice (sends_through choice) pipes pipe
sends_pick device below pipes are FirstBulk pipe found =
    picks_first device below pipes are false pipe found
sends_pick device below pipes are (At a) pipe found =
    picks_at device below pipes are false a takes_bytes pipe (λ is. no_in_way pipe.is_in is)
    (λ rest same. ap takes_bytes same) found
  where
    no_in_way : (b : Bool) → not b ≡ true → b ≡ false
    no_in_way true is = sym is
    no_in_way false is = refl

-- the pipe that a receive picks
pub receives_pick : (device : Accepted) (below : Bool) (pipes : FunctionPipes)
    → ArePipesTo device below (Function pipes) → (choice : EndpointChoice) (pipe : PipeState)
    → receives_through choice pipes ≡ Some pipe
    → Picks device below true choice (receives_through choice) pipes pipe
receives_pick device below pipes are FirstBulk pipe found =
    picks_first device below pipes are true pipe found
receives_pick device below pipes are (At a) pipe found =
    picks_at device below pipes are true a gives_bytes pipe
    (λ is. (both pipe.is_in (is_bulk_kind pipe.kind) is).0) (λ rest same. ap gives_bytes same) found

-- and a poll
pub polls_pick : (device : Accepted) (below : Bool) (pipes : FunctionPipes)
    → ArePipesTo device below (Function pipes) → (a : ℕ) (pipe : PipeState)
    → polls_through a pipes ≡ Some pipe
    → Picks device below true (At a) (polls_through a) pipes pipe
polls_pick device below pipes are a pipe found =
    picks_at device below pipes are true a gives_reports pipe
    (λ is. (both pipe.is_in (not (is_bulk_kind pipe.kind)) is).0)
    (λ rest same. ap gives_reports same) found

module _ (device : Accepted) (below : Bool) (path : List ℕ) (t : ToldItem)
    (choice : EndpointChoice) (bytes : List ℕ)
    (asks : (end : Endpoint) → bytes_for end t.due ≡ (if is_of end path choice then bytes else []))
    (tells : (end : Endpoint) → ArePackets end t.item []) (old new : World) (x : Location)
    (s v : State) (on : reach_on new.roots x ≡ true) (stands : state_on new.roots x ≡ Some v)
    (stood : state_on old.roots x ≡ Some s) (has : address_of s ≡ device.address)
    (single : new.shared ≡ false) (result : Result (Unit {0}) TableFault)
    (other : (why : BusFault) → result ≢ Err (table.Bus why))
    (done : is_ok result ≡ is_done t.item) (left : Pipes) where
  -- what it does to the device, as long as nothing is claimed that is not so of a plain one
  abbrev Moved : Pipes → Type 0
  Moved pipes = ArePipesTo device below pipes → PipesInSync device pipes s
      → TookBytes (through (sends_through choice) pipes) (is_done t.item) bytes s v
      → ((d : Bool) → first_of d pipes ≡ None → FailsPlain d path t)
      → DeviceMoves path t pipes left s v

  untried : (pipes : Pipes) → through (sends_through choice) pipes ≡ None → left ≡ pipes
      → is_ok result ≡ false → Moved pipes
  untried pipes none kept failed are level took plain =
      let nothing : TookBytes None (is_done t.item) bytes s v =
      subst (λ o. TookBytes o (is_done t.item) bytes s v) none took in
      device_fails path t pipes left s v kept nothing.rest (sym done ∙ failed)
      (λ e. tells (endpoint_at path true e pipes))

  module _ (function : FunctionPipes) (pipe rest : PipeState)
      (are : ArePipesTo device below (Function function))
      (level : PipesInSync device (Function function) s)
      (picks : Picks device below false choice (sends_through choice) function pipe)
      (puts : IsPut false pipe.ep rest function left)
      (sent : SentThrough pipe bytes old result rest new)
      (took : TookBytes (Some pipe) (is_done t.item) bytes s v) where
    at : is_at s pipe.target ≡ true
    at = eq-eqb (address_of s) pipe.target.addr
        (has ∙ sym (ap (λ (g : Target). g.addr) picks.target))

    fits : OutPipeInSync pipe s
    fits = subst (λ o. FitsOut o s) picks.there (level.outs pipe.ep)

    -- the endpoint of the pipe
    abbrev own : Endpoint
    own = endpoint_at path false pipe.ep (Function function)

    asks_own : bytes_for own t.due ≡ bytes
    asks_own = asks own ∙ ap (λ b. if b then bytes else [])
        (picks.of path pipe.ep ∙ eq-eqb pipe.ep pipe.ep refl)

    step : SinkStep (is_done t.item) bytes (Some pipe) (Some rest) (out_end s pipe.ep).sink
        (out_end v pipe.ep).sink
    step =
        let same : is_ok sent.answer ≡ is_done t.item =
        done_through sent.answer result sent.told ∙ done in
        subst (λ d. SinkStep d bytes (Some pipe) (Some rest) (out_end s pipe.ep).sink
        (out_end v pipe.ep).sink) same
        (sink_steps bytes old new x s v on stands stood pipe rest at fits single sent.answer
        (λ why e. other why (sent.told ∙ ap table_answer e)) sent.sends
        (subst (λ d. JoinsSink d bytes (out_end s pipe.ep).sink (out_end v pipe.ep).sink) (sym same)
        took.joins))

    own_moves : OutMoves own t (Some pipe) (Some rest) s v
    own_moves = record {
      there = λ unset gone. absurd (cc gone);
      none = λ gone. absurd (cc gone);
      sink = subst (λ l. Joins (is_done t.item) l (out_end s pipe.ep).sink
          (out_end v pipe.ep).sink) (sym asks_own)
          (joins_sink (is_done t.item) bytes (out_end s pipe.ep).sink (out_end v pipe.ep).sink
          took.joins);
      took = λ alone. subst (λ l. SinkStep (is_done t.item) l (Some pipe) (Some rest)
          (out_end s pipe.ep).sink (out_end v pipe.ep).sink) (sym asks_own) step;
    }

    out_moves : (e : ℕ) (b : Bool) → (e == pipe.ep) ≡ b
        → OutMoves (endpoint_at path false e (Function function)) t (pipe_at false e function)
        (pipe_of false e left) s v
    out_moves e true is = subst (λ k. OutMoves (endpoint_at path false k (Function function)) t
        (pipe_at false k function) (pipe_of false k left) s v) (sym (eqb-true e pipe.ep is))
        (subst (λ o. OutMoves own t o (pipe_of false pipe.ep left) s v) (sym picks.there)
        (subst (λ o. OutMoves own t (Some pipe) o s v) (sym puts.now) own_moves))
    out_moves e false apart =
        let end : Endpoint = endpoint_at path false e (Function function) in
        out_rests end t (pipe_at false e function) (pipe_of false e left) s v
        (asks end ∙ ap (λ b. if b then bytes else []) (picks.of path e ∙ apart))
        (λ unset gone. sym (puts.beside e apart) ∙ gone) (λ alone. puts.beside e apart)
        (ap (λ o. o.sink) (took.rest.others e apart))

    sent_moves : ((d : Bool) → first_of d (Function function) ≡ None → FailsPlain d path t)
        → DeviceMoves path t (Function function) left s v
    sent_moves plain =
        let seen : OnlyRest s v = only_rest (Some pipe) s v took.rest in
        record {
          outs = λ e. out_moves e (e == pipe.ep) refl;
          ins = λ e alone.
              let end : Endpoint = endpoint_at path true e (Function function) in
              gives_nothing (ArePackets end t.item) e (pipe_at true e function)
              (pipe_of true e left) s v (tells end) (puts.across e)
              (λ p got there f. still_source p got s v (seen.spec, seen.registers)
              (ap (λ row. (get_or row p.ep no_in).place) seen.ins)
              (ap (λ row. (get_or row p.ep no_in).state) seen.ins) f);
          first = puts.first;
          plain = plain;
          device = same_but s v (seen.spec, seen.registers);
          settings = λ unset. same_set s v (seen.spec, seen.registers);
        }

  went : (function : FunctionPipes) (pipe rest : PipeState)
      → sends_through choice function ≡ Some pipe → left ≡ Function (with_pipe rest function)
      → SentThrough pipe bytes old result rest new → Moved (Function function)
  went function pipe rest found kept sent are level took plain =
      let picks = sends_pick device below function are choice pipe found in
      sent_moves function pipe rest are level picks
      (is_put false pipe rest function left picks.way sent.same picks.there kept) sent
      (subst (λ o. TookBytes o (is_done t.item) bytes s v) found took) plain

  pub sends_move : (pipes : Pipes) → PipesSent choice pipes bytes old result left new
      → Moved pipes
  sends_move pipes did = through_cases (sends_through choice) (sends_miss choice)
      (λ p. SentThrough p bytes) old result left new Moved untried went pipes did

-- What an IN endpoint gives

module _ {A : Type 0} (device : Accepted) (below : Bool) (path : List ℕ) (t : ToldItem)
    (choice : EndpointChoice) (pick : FunctionPipes → Option PipeState)
    (miss : FunctionPipes → TransferFault) (So : PipeDid A)
    (Are : List (List ℕ) → Type 0)
    (asks : (end : Endpoint) → bytes_for end t.due ≡ [])
    (tells : (end : Endpoint) (packets : List (List ℕ)) → is_of end path choice ≡ true
    → Are packets → ArePackets end t.item packets)
    (silent : (end : Endpoint) → is_of end path choice ≡ false → ArePackets end t.item [])
    (old new : World) (s v : State) (result : Result A TableFault)
    (done : is_ok result ≡ is_done t.item) (left : Pipes)
    (By : Option PipeState → Option PipeState → Type 0)
    (none : (o : Option PipeState) → By None o → Are [] × (v ≡ s))
    (some : (pipe rest : PipeState) → By (Some pipe) (Some rest)
    → ((got : ℕ) → InPipeInSync pipe got s → GaveSome Are pipe.ep pipe got rest s v)
    × OnlySource pipe.ep s v)
    (same_pipe : (pipe rest : PipeState) → So pipe old result rest new
    → pipe_made rest ≡ pipe_made pipe)
    (picks_it : (function : FunctionPipes) → ArePipesTo device below (Function function)
    → (pipe : PipeState) → pick function ≡ Some pipe
    → Picks device below true choice pick function pipe) where
  abbrev Brought : Pipes → Type 0
  Brought pipes = ArePipesTo device below pipes → By (through pick pipes) (through pick left)
      → ((d : Bool) → first_of d pipes ≡ None → FailsPlain d path t)
      → DeviceMoves path t pipes left s v

  -- an endpoint that gave nothing, by whether it was asked
  none_told : Are [] → (end : Endpoint) (b : Bool) → is_of end path choice ≡ b
      → ArePackets end t.item []
  none_told empty end true is = tells end [] is empty
  none_told empty end false is = silent end is

  none_tried : (pipes : Pipes) → through pick pipes ≡ None → left ≡ pipes → is_ok result ≡ false
      → Brought pipes
  none_tried pipes untried kept failed are by plain =
      let nothing = none (through pick left) (subst (λ o. By o (through pick left)) untried by) in
      device_fails path t pipes left s v kept nothing.1 (sym done ∙ failed)
      (λ e. none_told nothing.0 (endpoint_at path true e pipes)
      (is_of (endpoint_at path true e pipes) path choice) refl)

  module _ (function : FunctionPipes) (pipe rest : PipeState)
      (are : ArePipesTo device below (Function function)) (same : pipe_made rest ≡ pipe_made pipe)
      (picks : Picks device below true choice pick function pipe)
      (puts : IsPut true pipe.ep rest function left) (by : By (Some pipe) (Some rest)) where
    frame : OnlySource pipe.ep s v
    frame = (some pipe rest by).1

    abbrev mine : Endpoint
    mine = endpoint_at path true pipe.ep (Function function)

    mine_gives : GivesBy (ArePackets mine t.item) pipe.ep (Some pipe) (Some rest) s v
    mine_gives = record {
      ep = ap (λ (p : PipeState). p.ep) same;
      max = ap (λ (p : PipeState). p.max) same;
      some = λ got f.
          let gave = (some pipe rest by).0 got f in
          record {
            packets = gave.packets;
            are = tells mine gave.packets (picks.of path pipe.ep ∙ eq-eqb pipe.ep pipe.ep refl)
                gave.are;
            behind = gave.behind;
            come = gave.come;
            level = gave.level;
          };
    }

    settings : SameSettings root s v
    settings = (ap (λ (d : State). d.spec) frame.rest, ap (λ (d : State). d.registers) frame.rest)

    in_moves : (e : ℕ) (b : Bool) → (e == pipe.ep) ≡ b
        → GivesBy (ArePackets (endpoint_at path true e (Function function)) t.item) e
        (pipe_at true e function) (pipe_of true e left) s v
    in_moves e true is = subst (λ k.
        GivesBy (ArePackets (endpoint_at path true k (Function function)) t.item) k
        (pipe_at true k function) (pipe_of true k left) s v) (sym (eqb-true e pipe.ep is))
        (subst (λ o. GivesBy (ArePackets mine t.item) pipe.ep o (pipe_of true pipe.ep left) s v)
        (sym picks.there)
        (subst (λ o. GivesBy (ArePackets mine t.item) pipe.ep (Some pipe) o s v) (sym puts.now)
        mine_gives))
    in_moves e false apart =
        let end : Endpoint = endpoint_at path true e (Function function) in
        gives_nothing (ArePackets end t.item) e (pipe_at true e function) (pipe_of true e left) s
        v (silent end (picks.of path e ∙ apart)) (puts.beside e apart)
        (λ p got there f. other_source p got there f)
      where
        -- the pipe there is to that endpoint
        other_source : (p : PipeState) (got : ℕ) → pipe_at true e function ≡ Some p
            → InPipeInSync p got s → InPipeInSync p got v
        other_source p got there f =
            let own : (p.ep == pipe.ep) ≡ false =
            ap (λ n. n == pipe.ep) (numbered device below true e function p are there) ∙ apart in
            still_source p got s v settings (ap (λ n. n.place) (frame.others p.ep own))
            (ap (λ n. n.state) (frame.others p.ep own)) f

    brought_moves : ((d : Bool) → first_of d (Function function) ≡ None → FailsPlain d path t)
        → DeviceMoves path t (Function function) left s v
    brought_moves plain = record {
      outs = λ e.
          let end : Endpoint = endpoint_at path false e (Function function) in
          out_rests end t (pipe_at false e function) (pipe_of false e left) s v (asks end)
          (λ unset gone. sym (puts.across e) ∙ gone) (λ alone. puts.across e)
          (ap (λ (d : State). (out_end d e).sink) frame.rest);
      ins = λ e alone. in_moves e (e == pipe.ep) refl;
      first = puts.first;
      plain = plain;
      device = same_but s v settings;
      settings = λ unset. same_set s v settings;
    }

  brought : (function : FunctionPipes) (pipe rest : PipeState) → pick function ≡ Some pipe
      → left ≡ Function (with_pipe rest function) → So pipe old result rest new
      → Brought (Function function)
  brought function pipe rest found kept did are by plain =
      let picks = picks_it function are pipe found in
      let same = same_pipe pipe rest did in
      let puts = is_put true pipe rest function left picks.way same picks.there kept in
      brought_moves function pipe rest are same picks puts
      (subst (λ o. By o (Some rest)) found
      (subst (λ o. By (pick function) o) (ap (through pick) puts.is ∙ picks.again rest same) by))
      plain

  pub gives_move : (pipes : Pipes) → PipesThrough pick miss So pipes old result left new
      → Brought pipes
  gives_move pipes did = through_cases pick miss So old result left new Brought none_tried brought
      pipes did
