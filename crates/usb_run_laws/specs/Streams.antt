-- What the device at a path takes and gives over a stretch of a run: the transfers of each of its
-- endpoints join end to end (5.8, 5.7).
use Rattle.std.specs.Prelude.{◌≡◌, ◌⊎◌, ℕ, List, [], ◌∷◌, ◌++◌, Bool, true, false, Option, None}
use Rattle.std.specs.Prelude.{Some, Ok}
use Rattle.std.specs.List.{AllByRecursion, concat}
use Rattle.usb_device.specs.{GivesOn, State, Location, in_data, in_end, out_end, path_to, reach_on}
use Rattle.usb_device.specs.{state_on}
use Rattle.usb_world.specs.{Look, Was}
use Rattle.usb_transfer.specs.{PipeState, InPipeInSync}
use Rattle.usb_enum.specs.{Accepted}
use Rattle.usb_table.specs.{Pipes, accepted_device_at, FitsIn, pipes_at}
use Rattle.usb_host.specs.{RenewedAt, Round, HostState, table_in, RoundTells}
use Rattle.usb_run.specs.{Comes, IsItemOf, Item, Settled}
use Rattle.usb_run_laws.specs.Endpoints.{Endpoint, AreGiven, AreTaken, ClearsNone, FailsPlain}
use Rattle.usb_run_laws.specs.Endpoints.{IsAtWork, IsFailedFront, SetsNone, endpoint_at, first_of}
use Rattle.usb_run_laws.specs.Endpoints.{pipe_of, received_from, sent_to}
use Rattle.usb_run_laws.specs.Heads.{HeadAt}
use Rattle.usb_run_laws.specs.Stretches.{ToldItem, Stretch}

-- An OUT endpoint

-- the sends that are told done are, end to end, what it got, with at most a front of a failed one
-- behind them, and none where its pipe works still
pub record TookSent (end : Endpoint) (told : List ToldItem) (left : Option PipeState)
    (s v : State) : Type 0 where
  pub front : List ℕ
  pub failed : IsFailedFront end told front
  pub sink : (out_end v end.number).sink
      ≡ (out_end s end.number).sink ++ (sent_to end told ++ front)
  pub works : IsAtWork left → front ≡ []

-- It took what was sent to it, as long as it does not begin again. Over clears and settings too
-- each send that is told done was taken whole, and of each that failed a front. Without a pipe to
-- it, it took nothing, as long as no setting is asked for.
pub record OutStream (end : Endpoint) (told : List ToldItem) (left : Option PipeState)
    (s v : State) : Type 0 where
  pub took : AllByRecursion (ClearsNone end) told → TookSent end told left s v
  pub sink : (taken : List ℕ) × AreTaken end told taken
      × ((out_end v end.number).sink ≡ (out_end s end.number).sink ++ taken)
  pub none : AllByRecursion (SetsNone end.path) told → left ≡ None
      → (out_end v end.number).sink ≡ (out_end s end.number).sink

-- An IN endpoint

-- behind what its pipe had got its next packets came, one by one: what its receives and polls tell,
-- their bytes end to end, and of each poll the packet itself; the pipe that is left has got them
pub record GaveTold (end : Endpoint) (told : List ToldItem) (pipe : PipeState) (got : ℕ)
    (left : PipeState) (s v : State) : Type 0 where
  pub packets : List (List ℕ)
  pub given : AreGiven end told packets
  pub joined : concat packets ≡ received_from end told
  pub behind : ℕ
  pub come : GivesOn (in_data s end.number) pipe.max got packets behind
  pub level : InPipeInSync left behind v

-- the pipe that is left is to the same endpoint
pub record GaveThrough (end : Endpoint) (told : List ToldItem) (pipe left : PipeState)
    (s v : State) : Type 0 where
  pub ep : left.ep ≡ pipe.ep
  pub max : left.max ≡ pipe.max
  pub next : (got : ℕ) → InPipeInSync pipe got s → GaveTold end told pipe got left s v

-- without a pipe none came
abbrev pub GaveNextBy : Endpoint → List ToldItem → Option PipeState → Option PipeState → State
    → State → Type 0
GaveNextBy end told None left s v = AreGiven end told [] × (left ≡ None)
GaveNextBy end told (Some pipe) None s v = ⊥
GaveNextBy end told (Some pipe) (Some left) s v = GaveThrough end told pipe left s v

-- its pipe had got what stands before some place; it gave its next packets, as long as it does not
-- begin again
pub record InStream (end : Endpoint) (told : List ToldItem) (pipe left : Option PipeState)
    (s v : State) : Type 0 where
  pub had : FitsIn pipe s
  pub gave : AllByRecursion (ClearsNone end) told → GaveNextBy end told pipe left s v

-- A device over a stretch

-- the registers of a device stay, but for the alternate settings of its interfaces; these stay
-- where none was asked for
pub record RegistersStay (path : List ℕ) (told : List ToldItem) (s v : State) : Type 0 where
  pub rest : v.registers ≡ record s.registers { settings = v.registers.settings }
  pub settings : AllByRecursion (SetsNone path) told → v.registers.settings ≡ s.registers.settings

-- Each endpoint of the device at a path took what was sent to it, or gave its next packets. Which
-- are its first bulk endpoints stays; where there is none of a direction, each transfer that names
-- no endpoint failed. Its description stays, and so do its registers.
pub record Streams (path : List ℕ) (told : List ToldItem) (pipes left : Pipes) (s v : State) :
    Type 0 where
  pub outs : (e : ℕ) → OutStream (endpoint_at path false e pipes) told (pipe_of false e left) s v
  pub ins : (e : ℕ) → InStream (endpoint_at path true e pipes) told (pipe_of true e pipes)
      (pipe_of true e left) s v
  pub first : (is_in : Bool) → first_of is_in left ≡ first_of is_in pipes
  pub plain : (is_in : Bool) → first_of is_in pipes ≡ None
      → AllByRecursion (FailsPlain is_in path) told
  pub spec : v.spec ≡ s.spec
  pub registers : RegistersStay path told s v

-- so it is of the device that is reached at a path in the new world, which was reached there in the
-- old one
abbrev pub StreamsAt : List ℕ → (State → State → Type 0) → HostState → HostState → Type 0
StreamsAt path So old new = (x : Location) (v : State) → path ≡ path_to x
    → reach_on new.world.roots x ≡ true → state_on new.world.roots x ≡ Some v
    → Was (λ y s v. So s v) old.world x v

-- the accepted device at a path stood there from the beginning of a stretch
pub record StoodAt (path : List ℕ) (device : Accepted) (told : List ToldItem)
    (old new : HostState) : Type 0 where
  pub listed : accepted_device_at path old.entries ≡ Some device
  pub streams : StreamsAt path (Streams path told (pipes_at path (table_in old))
      (pipes_at path (table_in new))) old new

-- each IN pipe to the device that is reached at a path is to the endpoint of its number, and has
-- got what stands before the endpoint's own place
abbrev pub StartsAt : List ℕ → HostState → Type 0
StartsAt path h = (x : Location) (s : State) (e : ℕ) (pipe : PipeState) → path ≡ path_to x
    → reach_on h.world.roots x ≡ true → state_on h.world.roots x ≡ Some s
    → pipe_of true e (pipes_at path (table_in h)) ≡ Some pipe
    → (pipe.ep ≡ e) × InPipeInSync pipe (in_end s e).place s

-- the call of a stretch in which a device is found anew, from the host that makes it, and with what
-- it tells: a round, or a look that an event asks of a host that had settled
pub data FindsAnew (before : HostState) : HostState → List ToldItem → HostState → Type 0 where
  in_round : {found : HostState} (done : Round) → RoundTells before (Ok done) found
      → FindsAnew before before [] found
  in_look : {asked found : HostState} (at : List ℕ) (item : Item) → Settled before
      → Comes before (Ok (Some (Some (Look at)))) asked
      → IsItemOf (Some (Look at)) (Some item) asked found
      → FindsAnew before asked
      (record { due = Some (Look at); asked = asked; item = item } ∷ []) found

-- it was found anew in such a call of the stretch, and stood there since; until that call was over
-- it had taken and given what it had when none was reached there, or nothing if it was plugged then
pub record FoundSince (path : List ℕ) (device : Accepted) (told : List ToldItem)
    (old new : HostState) : Type 0 where
  pub earlier : List ToldItem
  pub before : HostState
  pub up_to : Stretch old earlier before
  pub asked : HostState
  pub then_told : List ToldItem
  pub found : HostState
  pub call : FindsAnew before asked then_told found
  pub renewed : RenewedAt path device asked found
  pub head : HeadAt path renewed.moment found.world
  pub starts : StartsAt path found
  pub since : List ToldItem
  pub behind : Stretch found since new
  pub stood : StoodAt path device since found new
  pub all : since ++ (then_told ++ earlier) ≡ told

abbrev pub StoodOrFound : List ℕ → Accepted → List ToldItem → HostState → HostState → Type 0
StoodOrFound path device told old new = StoodAt path device told old new
    ⊎ FoundSince path device told old new
