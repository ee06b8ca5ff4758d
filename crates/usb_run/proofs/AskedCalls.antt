-- What a run makes of an event, by its item, and by the call that the host makes for it.
use Rattle.std.proofs.Common.{◌≡◌, ◌∙◌, refl, ap, ℕ, Bool, List, Option, None, Some, Result}
use Rattle.std.specs.Global.{Vec}
use Rattle.usb_world.specs.declared.event.Ask.{Ask}
use Rattle.usb_world.specs.{Show, ControlIn, ControlOut, IsWrite, News as AskNews}
use Rattle.usb_request.specs.{IsToHost}
use Rattle.usb_host.specs.{HostFault, HostState, News, ReportsNews, Left, Arrived}
use Rattle.usb_table.specs.{TransferFault}
use Rattle.usb_run.specs.{Item, RunFault, listing_of, AllNews, SomeNewsAre, no_news, one_news}
use Rattle.usb_run.specs.{CallGives, CallTells, IsItemOf, IsOfCall, StopsAt}
use Rattle.usb_run.specs.declared.item.Item.TheVariants.{News as ToldNews}
use Rattle.usb_run.specs.Transfers.{Transfers}

-- the setup data of a control transfer fit its direction
abbrev pub Fits : Ask → Type 0
Fits (ControlIn path request) = IsToHost request
Fits (ControlOut path write) = IsWrite write
Fits _ = Unit {0}

-- no item, a listing, what a call came to, or news
pub data AskAnswered (due : Option Ask) (item : Option Item) (old new : HostState) : Type 0 where
  silent : item ≡ None → new ≡ old → AskAnswered due item old new
  listed : (said : Bool) → due ≡ Some (Show said) → item ≡ Some (listing_of said new) → new ≡ old
      → AskAnswered due item old new
  called : (ask : Ask) (told : Result (CallGives ask) TransferFault) → due ≡ Some ask → Fits ask
      → IsOfCall ask told item → Transfers (CallTells ask) old told new
      → AskAnswered due item old new
  news : (told : Vec News) → due ≡ Some AskNews → item ≡ Some (ToldNews told)
      → AllNews old told.items new → AskAnswered due item old new

pub answered : (due : Option Ask) (item : Option Item) (old new : HostState)
    → IsItemOf due item old new → AskAnswered due item old new
answered None item old new is = silent is.0 is.1
answered (Some (Show said)) item old new is = listed said refl is.0 is.1
answered (Some (ControlIn path request)) item old new is =
    called (ControlIn path request) is.1.0 refl is.0 is.1.1 is.1.2
answered (Some (ControlOut path write)) item old new is =
    called (ControlOut path write) is.1.0 refl is.0 is.1.1 is.1.2
answered (Some AskNews) item old new is = news is.0 refl is.1 is.2
answered (Some ask) item old new is = called ask is.0 refl tt is.1 is.2

-- a call makes an item
pub call_made : (ask : Ask) (told : Result (CallGives ask) TransferFault)
    → IsOfCall ask told None → ⊥
call_made (Show said) told of = of
call_made AskNews told of = of
call_made _ told of = cc of

pub same_item : {x y : Item} → Some x ≡ Some y → x ≡ y
same_item e = cc e

-- nothing changed but of which devices the caller was told
abbrev pub OnlyReported : HostState → HostState → Type 0
OnlyReported old new =
    (reported : List (List ℕ × ℕ)) × (new ≡ record old { reported = reported })

one_reported : (asked : Option News) (old new : HostState) → ReportsNews old asked new
    → OnlyReported old new
one_reported None old new none = (old.reported, none.rest)
one_reported (Some (Left path)) old new left = (_, left.rest)
one_reported (Some (Arrived path)) old new arrived = (_, arrived.rest)

reported_then : (old mid new : HostState) → OnlyReported old mid → OnlyReported mid new
    → OnlyReported old new
reported_then old mid new x y = (
  y.0,
  y.1 ∙ ap (λ (h : HostState). record h { reported = y.0 }) x.1,
)

pub some_reported : {old new : HostState} {all : List News} → SomeNewsAre old all new
    → OnlyReported old new
some_reported {old} no_news = (old.reported, refl)
some_reported {old} (one_news {h = h} {new = new} one before tells) =
    reported_then old h new (some_reported before) (one_reported (Some one) h new tells)

pub all_reported : (old new : HostState) (all : List News) → AllNews old all new
    → OnlyReported old new
all_reported old new all told = reported_then old told.last new (some_reported told.are)
    (one_reported None told.last new told.none)

-- no call of the host, one, or some news
pub data Calls (due : Option Ask) (old new : HostState) : Type 0 where
  no_call : new ≡ old → Calls due old new
  calls : (ask : Ask) (result : Result (CallGives ask) HostFault) → due ≡ Some ask
      → CallTells ask old result new → Calls due old new
  tells_news : due ≡ Some AskNews → OnlyReported old new → Calls due old new

pub item_calls : {due : Option Ask} {item : Option Item} {old new : HostState}
    → AskAnswered due item old new → Calls due old new
item_calls (silent none same) = no_call same
item_calls (listed said asks is same) = no_call same
item_calls (called ask told asks fits of came) = calls ask came.answer asks came.call
item_calls {old = old} {new = new} (news told asks is all) =
    tells_news asks (all_reported old new told.items all)

pub stop_calls : (due : Option Ask) (fault : RunFault) (old new : HostState)
    → StopsAt due fault old new → Calls due old new
stop_calls None fault old new stops = absurd stops
stop_calls (Some (Show said)) fault old new stops = no_call stops.1
stop_calls (Some AskNews) fault old new stops = tells_news refl (some_reported stops.1.1)
stop_calls (Some ask) fault old new stops = calls ask stops.answer refl stops.call
