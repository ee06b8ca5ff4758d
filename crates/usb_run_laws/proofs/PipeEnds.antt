-- Which pipe a transfer goes through, and what it leaves of all pipes to a function.
use Rattle.std.proofs.Common.{◌≡◌, ◌∙◌, refl, sym, ap, subst, Bool, true, false, not, ◌&&◌, ℕ}
use Rattle.std.proofs.Common.{◌==◌, ◌%◌, nat_le, List, Option, None, Some, Result, is_ok, is_some}
use Rattle.std.proofs.Common.{if◌then◌else◌, eqb-true}
use Rattle.usb_device.specs.{State, out_end, with_at}
use Rattle.usb_device.proofs.Interface.{at_other, at_same}
use Rattle.usb_request.specs.{DIRECTION_IN}
use Rattle.usb_descriptor.specs.{EndpointKind, UsableEndpoint}
use Rattle.usb_world.specs.{World}
use Rattle.usb_transfer.specs.declared.condition.Condition.TheVariants.{Ready, Halted, Broken}
use Rattle.usb_transfer.specs.{PipeState, Condition, pipe_made}
use Rattle.usb_enum.specs.{Accepted, target_of}
use Rattle.usb_table.specs.{FunctionPipes, Pipes, Hub, Function, Absent, EndpointChoice, FirstBulk}
use Rattle.usb_table.specs.{At, AreFunctionPipes, IsPlace, OnlySinkOf, PipeDid, PipesThrough}
use Rattle.usb_table.specs.{TableFault, ThroughIf, TransferFault, end_under, first_number}
use Rattle.usb_table.specs.{first_pipe, lost_at, moves_bulk, only_if, pipe_at, pipe_if, pipe_to}
use Rattle.usb_table.specs.{through, with_pipe, with_rest}
use Rattle.usb_table.proofs.Interface.{path_itself, only_some}
use Rattle.usb_run_laws.specs.{endpoint_at, first_of, has_way, is_of, is_this, pipe_of}

-- Endpoints of the device

-- no endpoint took anything
abbrev pub SinksStay : State → State → Type 0
SinksStay s v = (e : ℕ) → (out_end v e).sink ≡ (out_end s e).sink

-- what is seen of a device besides the sink of one endpoint
pub record OnlyRest (s v : State) : Type 0 where
  pub spec : v.spec ≡ s.spec
  pub registers : v.registers ≡ s.registers
  pub ins : v.ins ≡ s.ins

pub only_rest : (pipe : Option PipeState) (s v : State) → OnlySinkOf pipe s v → OnlyRest s v
only_rest None s v only = record {
  spec = ap (λ (d : State). d.spec) only;
  registers = ap (λ (d : State). d.registers) only;
  ins = ap (λ (d : State). d.ins) only;
}
only_rest (Some pipe) s v only = record {
  spec = ap (λ (d : State). d.spec) only.rest;
  registers = ap (λ (d : State). d.registers) only.rest;
  ins = ap (λ (d : State). d.ins) only.rest;
}

pub condition_cases : (G : Type 0) (c : Condition) → (c ≡ Ready → G) → (c ≡ Halted → G)
    → (c ≡ Broken → G) → G
condition_cases G Ready ready halts breaks = ready refl
condition_cases G Halted ready halts breaks = halts refl
condition_cases G Broken ready halts breaks = breaks refl

-- A pipe that is put back

-- with a pipe put at a direction and a number
abbrev pub put : Bool → ℕ → PipeState → FunctionPipes → FunctionPipes
put is_in n pipe pipes =
    if is_in then record pipes { ins = with_at None n (Some pipe) pipes.ins }
    else record pipes { outs = with_at None n (Some pipe) pipes.outs }

put_same : (d : Bool) (n : ℕ) (pipe : PipeState) (pipes : FunctionPipes)
    → pipe_at d n (put d n pipe pipes) ≡ Some pipe
put_same true n pipe pipes = at_same None n (Some pipe) pipes.ins
put_same false n pipe pipes = at_same None n (Some pipe) pipes.outs

put_other : (d : Bool) (n e : ℕ) (pipe : PipeState) (pipes : FunctionPipes) → (e == n) ≡ false
    → pipe_at d e (put d n pipe pipes) ≡ pipe_at d e pipes
put_other true n e pipe pipes apart = at_other None n e (Some pipe) pipes.ins apart
put_other false n e pipe pipes apart = at_other None n e (Some pipe) pipes.outs apart

put_across : (d : Bool) (n e : ℕ) (pipe : PipeState) (pipes : FunctionPipes)
    → pipe_at (not d) e (put d n pipe pipes) ≡ pipe_at (not d) e pipes
put_across true n e pipe pipes = refl
put_across false n e pipe pipes = refl

put_first : (d b : Bool) (n : ℕ) (pipe : PipeState) (pipes : FunctionPipes)
    → first_number b (put d n pipe pipes) ≡ first_number b pipes
put_first true true n pipe pipes = refl
put_first true false n pipe pipes = refl
put_first false true n pipe pipes = refl
put_first false false n pipe pipes = refl

-- of the pipes to a function at most that of one endpoint changed, and it is there if it was
pub record OnlyPipe (d : Bool) (n : ℕ) (pipes left : FunctionPipes) : Type 0 where
  pub beside : (e : ℕ) → (e == n) ≡ false → pipe_at d e left ≡ pipe_at d e pipes
  pub across : (e : ℕ) → pipe_at (not d) e left ≡ pipe_at (not d) e pipes
  pub first : (b : Bool) → first_number b left ≡ first_number b pipes
  pub some : (e : ℕ) → is_some (pipe_at d e left) ≡ is_some (pipe_at d e pipes)

pub only_put : (d : Bool) (pipe rest : PipeState) (pipes : FunctionPipes)
    → pipe_at d pipe.ep pipes ≡ Some pipe → OnlyPipe d pipe.ep pipes (put d pipe.ep rest pipes)
only_put d pipe rest pipes there = record {
  beside = λ e apart. put_other d pipe.ep e rest pipes apart;
  across = λ e. put_across d pipe.ep e rest pipes;
  first = λ b. put_first d b pipe.ep rest pipes;
  some = λ e. by_number e (e == pipe.ep) refl;
}
  where
    left : FunctionPipes
    left = put d pipe.ep rest pipes

    by_number : (e : ℕ) (b : Bool) → (e == pipe.ep) ≡ b
        → is_some (pipe_at d e left) ≡ is_some (pipe_at d e pipes)
    by_number e true is = subst (λ k. is_some (pipe_at d k left) ≡ is_some (pipe_at d k pipes))
        (sym (eqb-true e pipe.ep is))
        (ap is_some (put_same d pipe.ep rest pipes) ∙ sym (ap is_some there))
    by_number e false apart = ap is_some (put_other d pipe.ep e rest pipes apart)

-- a pipe that a call leaves is to the same endpoint
pub with_at_own : (d : Bool) (pipe rest : PipeState) (pipes : FunctionPipes) → pipe.is_in ≡ d
    → pipe_made rest ≡ pipe_made pipe → with_pipe rest pipes ≡ put d pipe.ep rest pipes
with_at_own d pipe rest pipes way same =
    ap (λ b. put b rest.ep rest pipes) (ap (λ (p : PipeState). p.is_in) same ∙ way)
    ∙ ap (λ n. put d n rest pipes) (ap (λ (p : PipeState). p.ep) same)

-- Which pipe is picked

-- what is known of the pipe at a place
record IsAtPlace (device : Accepted) (below d : Bool) (e : ℕ) (pipe : PipeState) : Type 0 where
  number : pipe.ep ≡ e
  way : pipe.is_in ≡ d
  target : pipe.target ≡ target_of device below

placed : (device : Accepted) (below d : Bool) (e : ℕ) (end : Option UsableEndpoint)
    (lost : Option EndpointKind) (pipe : PipeState)
    → IsPlace device below d e end lost (Some pipe) → IsAtPlace device below d e pipe
placed device below d e None None pipe is = absurd is
placed device below d e (Some end) None pipe is =
    record { number = is.number; way = is.way; target = is.target }
placed device below d e end (Some kind) pipe gone = absurd (cc gone)

at_place : (device : Accepted) (below d : Bool) (e : ℕ) (pipes : FunctionPipes)
    (pipe : PipeState) → AreFunctionPipes device below pipes → pipe_at d e pipes ≡ Some pipe
    → IsAtPlace device below d e pipe
at_place device below d e pipes pipe are found =
    let end : Option UsableEndpoint = end_under are.settings device d e in
    placed device below d e end (lost_at d e pipes) pipe
    (subst (IsPlace device below d e end (lost_at d e pipes)) found (are.each d e))

-- it is to the endpoint of its number
pub numbered : (device : Accepted) (below d : Bool) (e : ℕ) (pipes : FunctionPipes)
    (pipe : PipeState) → AreFunctionPipes device below pipes → pipe_at d e pipes ≡ Some pipe
    → pipe.ep ≡ e
numbered device below d e pipes pipe are found =
    let known = at_place device below d e pipes pipe are found in known.number

-- the first bulk one stands at the number of the first
pub first_stands : (d : Bool) (pipes : FunctionPipes) (n : ℕ) (pipe : PipeState)
    → first_number d pipes ≡ Some n → first_pipe d pipes ≡ Some pipe
    → (pipe_at d n pipes ≡ Some pipe) × (moves_bulk pipe ≡ true)
first_stands d pipes n pipe is found = only_some moves_bulk (pipe_at d n pipes) pipe
    (subst (λ o. only_if moves_bulk (pipe_if d o pipes) ≡ Some pipe) is found)

-- a transfer through the endpoint of a choice goes through this pipe, of a direction
pub record Picks (device : Accepted) (below d : Bool) (choice : EndpointChoice)
    (pick : FunctionPipes → Option PipeState) (pipes : FunctionPipes) (pipe : PipeState)
    : Type 0 where
  pub way : pipe.is_in ≡ d
  pub target : pipe.target ≡ target_of device below
  pub there : pipe_at d pipe.ep pipes ≡ Some pipe
  pub of : (path : List ℕ) (e : ℕ)
      → is_of (endpoint_at path d e (Function pipes)) path choice ≡ (e == pipe.ep)
  pub again : (rest : PipeState) → pipe_made rest ≡ pipe_made pipe
      → pick (put d pipe.ep rest pipes) ≡ Some rest

module _ (device : Accepted) (below : Bool) (pipes : FunctionPipes)
    (are : AreFunctionPipes device below pipes) where
  -- the first bulk one
  pub picks_first : (d : Bool) (pipe : PipeState) → first_pipe d pipes ≡ Some pipe
      → Picks device below d FirstBulk (first_pipe d) pipes pipe
  picks_first d pipe found = by_number (first_number d pipes) refl
    where
      by_number : (first : Option ℕ) → first_number d pipes ≡ first
          → Picks device below d FirstBulk (first_pipe d) pipes pipe
      by_number None is =
          let none : only_if moves_bulk (pipe_if d None pipes) ≡ Some pipe =
          subst (λ o. only_if moves_bulk (pipe_if d o pipes) ≡ Some pipe) is found in
          absurd (cc none)
      by_number (Some n) is =
          let stands = first_stands d pipes n pipe is found in
          let at : pipe_at d n pipes ≡ Some pipe = stands.0 in
          let known = at_place device below d n pipes pipe are at in
          let own : first_number d pipes ≡ Some pipe.ep = is ∙ ap Some (sym known.number) in
          record {
            way = known.way;
            target = known.target;
            there = subst (λ k. pipe_at d k pipes ≡ Some pipe) (sym known.number) at;
            of = λ path e. ap (λ b. b && is_this e (first_number d pipes)) (path_itself path)
                ∙ ap (is_this e) own;
            again = λ rest same.
                ap (λ o. only_if moves_bulk (pipe_if d o (put d pipe.ep rest pipes)))
                (put_first d d pipe.ep rest pipes ∙ own)
                ∙ ap (only_if moves_bulk) (put_same d pipe.ep rest pipes)
                ∙ ap (λ b. if b then Some rest else None) (ap moves_bulk same ∙ stands.1);
          }

  -- the one at an address, if it is of a kind
  pub picks_at : (d : Bool) (a : ℕ) (test : PipeState → Bool) (pipe : PipeState)
      → (test pipe ≡ true → pipe.is_in ≡ d)
      → ((rest : PipeState) → pipe_made rest ≡ pipe_made pipe → test rest ≡ test pipe)
      → only_if test (pipe_to a pipes) ≡ Some pipe
      → Picks device below d (At a) (λ p. only_if test (pipe_to a p)) pipes pipe
  picks_at d a test pipe ways tests found = by_pipe (pipe_to a pipes) refl
    where
      way_of : (b : Bool) → nat_le DIRECTION_IN a ≡ b → has_way b a ≡ true
      way_of true is = is
      way_of false is = ap not is

      at_address : pipe_to a pipes ≡ Some pipe → test pipe ≡ true
          → Picks device below d (At a) (λ p. only_if test (pipe_to a p)) pipes pipe
      at_address at is =
          let known = at_place device below (nat_le DIRECTION_IN a) (a % DIRECTION_IN) pipes pipe
          are at in
          let turned : nat_le DIRECTION_IN a ≡ d = sym known.way ∙ ways is in
          let there : pipe_at d pipe.ep pipes ≡ Some pipe =
          subst (λ b. pipe_at b pipe.ep pipes ≡ Some pipe) turned
          (subst (λ k. pipe_at (nat_le DIRECTION_IN a) k pipes ≡ Some pipe) (sym known.number)
          at) in
          record {
            way = ways is;
            target = known.target;
            there = there;
            of = λ path e.
                ap (λ b. b && (has_way d a && (e == a % DIRECTION_IN))) (path_itself path)
                ∙ ap (λ b. b && (e == a % DIRECTION_IN)) (way_of d turned)
                ∙ ap (λ k. e == k) (sym known.number);
            again = λ rest same.
                let put_there : pipe_to a (put d pipe.ep rest pipes) ≡ Some rest =
                ap (λ b. pipe_at b (a % DIRECTION_IN) (put d pipe.ep rest pipes)) turned
                ∙ ap (λ k. pipe_at d k (put d pipe.ep rest pipes)) (sym known.number)
                ∙ put_same d pipe.ep rest pipes in
                ap (only_if test) put_there
                ∙ ap (λ b. if b then Some rest else None) (tests rest same ∙ is);
          }

      by_test : (found_one : PipeState) (b : Bool) → test found_one ≡ b
          → pipe_to a pipes ≡ Some found_one
          → (if b then Some found_one else None) ≡ Some pipe
          → Picks device below d (At a) (λ p. only_if test (pipe_to a p)) pipes pipe
      by_test found_one true is at same =
          let it : found_one ≡ pipe = cc same in
          at_address (at ∙ ap Some it) (ap test (sym it) ∙ is)
      by_test found_one false is at same = absurd (cc same)

      by_pipe : (o : Option PipeState) → pipe_to a pipes ≡ o
          → Picks device below d (At a) (λ p. only_if test (pipe_to a p)) pipes pipe
      by_pipe None at =
          let none : only_if test None ≡ Some pipe =
          subst (λ o. only_if test o ≡ Some pipe) at found in absurd (cc none)
      by_pipe (Some one) at =
          by_test one (test one) refl at (subst (λ o. only_if test o ≡ Some pipe) at found)

-- A call through the pipe that is picked

-- the pipes that it leaves, of which one was put back
pub record IsPut (d : Bool) (n : ℕ) (rest : PipeState) (pipes : FunctionPipes) (left : Pipes)
    : Type 0 where
  pub now : pipe_of d n left ≡ Some rest
  pub beside : (e : ℕ) → (e == n) ≡ false → pipe_of d e left ≡ pipe_at d e pipes
  pub across : (e : ℕ) → pipe_of (not d) e left ≡ pipe_at (not d) e pipes
  pub first : (b : Bool) → first_of b left ≡ first_number b pipes
  pub some : (e : ℕ) → is_some (pipe_of d e left) ≡ is_some (pipe_at d e pipes)
  pub is : left ≡ Function (put d n rest pipes)

pub is_put : (d : Bool) (pipe rest : PipeState) (pipes : FunctionPipes) (left : Pipes)
    → pipe.is_in ≡ d → pipe_made rest ≡ pipe_made pipe → pipe_at d pipe.ep pipes ≡ Some pipe
    → left ≡ Function (with_pipe rest pipes) → IsPut d pipe.ep rest pipes left
is_put d pipe rest pipes left way same there kept =
    let is : left ≡ Function (put d pipe.ep rest pipes) =
    kept ∙ ap Function (with_at_own d pipe rest pipes way same) in
    let only = only_put d pipe rest pipes there in
    record {
      now = ap (pipe_of d pipe.ep) is ∙ put_same d pipe.ep rest pipes;
      beside = λ e apart. ap (pipe_of d e) is ∙ only.beside e apart;
      across = λ e. ap (pipe_of (not d) e) is ∙ only.across e;
      first = λ b. ap (first_of b) is ∙ only.first b;
      some = λ e. ap (λ p. is_some (pipe_of d e p)) is ∙ only.some e;
      is = is;
    }

-- nothing was tried, or it went through one pipe, which is put back
pub through_cases : {A : Type 0} (pick : FunctionPipes → Option PipeState)
    (miss : FunctionPipes → TransferFault) (So : PipeDid A) (old : World)
    (result : Result A TableFault) (left : Pipes) (new : World) (G : Pipes → Type 0)
    → ((pipes : Pipes) → through pick pipes ≡ None → left ≡ pipes → is_ok result ≡ false
    → G pipes)
    → ((function : FunctionPipes) (pipe rest : PipeState) → pick function ≡ Some pipe
    → left ≡ Function (with_pipe rest function) → So pipe old result rest new
    → G (Function function))
    → (pipes : Pipes) → PipesThrough pick miss So pipes old result left new → G pipes
through_cases pick miss So old result left new G untried went (Hub pipe) x =
    untried (Hub pipe) refl x.1 (ap is_ok x.0)
through_cases pick miss So old result left new G untried went (Function function) x =
    by_pipe (pick function) refl x.0 x.1 x.2
  where
    by_pipe : (o : Option PipeState) → pick function ≡ o → (rest : Option PipeState)
        → left ≡ Function (with_rest rest function)
        → ThroughIf So (miss function) o old result rest new
        → G (Function function)
    by_pipe None picked rest kept did = untried (Function function) picked
        (kept ∙ ap (λ o. Function (with_rest o function)) did.1) (ap is_ok did.0)
    by_pipe (Some pipe) picked None kept did = absurd did
    by_pipe (Some pipe) picked (Some rest) kept did = went function pipe rest picked kept did
through_cases pick miss So old result left new G untried went (Absent said) x =
    untried (Absent said) refl x.1 (ap is_ok x.0)

-- a transfer through the first bulk endpoint fails where there is none
pub first_fails : {A : Type 0} (d : Bool) (miss : FunctionPipes → TransferFault)
    (So : PipeDid A) (pipes : Pipes) (old : World) (result : Result A TableFault) (left : Pipes)
    (new : World) → PipesThrough (first_pipe d) miss So pipes old result left new
    → first_of d pipes ≡ None → is_ok result ≡ false
first_fails d miss So pipes old result left new x none =
    through_cases (first_pipe d) miss So old result left new
    (λ p. first_of d p ≡ None → is_ok result ≡ false)
    (λ p untried kept failed none. failed)
    (λ function pipe rest picked kept did none.
    let gone : None ≡ Some pipe =
    sym (ap (λ o. only_if moves_bulk (pipe_if d o function)) none) ∙ picked in
    absurd (cc gone)) pipes x none
