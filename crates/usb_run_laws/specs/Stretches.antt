-- Stretches of a run, with what was told in them.
use Rattle.std.specs.Prelude.{◌≡◌, ℕ, Bool, true, false, Option, None, Some, List, [], ◌∷◌, Ok, map}
use Rattle.usb_world.specs.declared.event.Ask.{Ask}
use Rattle.usb_host.specs.{Round, HostState, RoundTells}
use Rattle.usb_run.specs.{Item, Comes, Settled, AppendsText, IsItemOf}

-- an event that asked for an item, the host that it asked, and the item
pub record ToldItem : Type 0 where
  pub due : Option Ask
  pub asked : HostState
  pub item : Item

-- what lies between two items: a round, an event that makes no item, that no event is left, or text
-- that is written
pub data LiesBetween (old : HostState) : HostState → Type 0 where
  round : {new : HostState} (done : Round) → RoundTells old (Ok done) new → LiesBetween old new
  silent : {new : HostState} (due : Option Ask) → Comes old (Ok (Some due)) new
      → IsItemOf due None new new
      → LiesBetween old new
  last : {new : HostState} → Comes old (Ok None) new → LiesBetween old new
  wrote : {new : HostState} (text : List ℕ) → AppendsText text old new → LiesBetween old new

-- a stretch of a run, from one of its hosts to a later one, with what was told in it, the newest
-- first: to a host that had settled an event comes, and it
-- makes the item that the event asks for
pub data Stretch (old : HostState) : List ToldItem → HostState → Type 0 where
  begun : Stretch old [] old
  further : {told : List ToldItem} {h new : HostState} → Stretch old told h → LiesBetween h new
      → Stretch old told new
  more : {told : List ToldItem} {h mid new : HostState} (due : Option Ask) (item : Item)
      → Stretch old told h → Settled h → Comes h (Ok (Some due)) mid
      → IsItemOf due (Some item) mid new
      → Stretch old (record { due = due; asked = mid; item = item } ∷ told) new

-- the items that events asked for, and behind them the last listing where the run is over
abbrev pub AreMade : Bool → List Item → List Item → Type 0
AreMade false asked items = items ≡ asked
AreMade true asked items = (listing : Item) × (items ≡ listing ∷ asked)

-- a run in which these items were made is a stretch
pub record IsStretch (items : List Item) (over : Bool) (old new : HostState) : Type 0 where
  pub told : List ToldItem
  pub stretch : Stretch old told new
  pub made : AreMade over (map (λ (t : ToldItem). t.item) told) items
