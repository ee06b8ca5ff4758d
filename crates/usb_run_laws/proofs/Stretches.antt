-- What a host knows over a stretch, and a run as a stretch.
use Rattle.std.proofs.Common.{◌≡◌, refl, sym, ap, subst, Bool, false, ℕ, List, [], ◌∷◌, Option}
use Rattle.std.proofs.Common.{None, Some, Ok}
use Rattle.usb_world.specs.declared.event.Ask.{Ask}
use Rattle.usb_host.specs.{Round, HostState, RoundTells}
use Rattle.usb_run.specs.{Item, Mode, listing_of, Knows, Ran, idle, silent as ran_silent, Rounds}
use Rattle.usb_run.specs.{none, more as one_more, Settles, AppendsText, Makes, asked}
use Rattle.usb_run.specs.{last as run_last, begun as run_begun, told as run_told, shown, IsItemOf}
use Rattle.usb_run.specs.Transcript.{Transcript}
use Rattle.usb_run.proofs.Interface.{RunsOnward, arrival_knows, called_onward, comes_onward}
use Rattle.usb_run.proofs.Interface.{item_called, item_knows, knows_then, puts_knows}
use Rattle.usb_run.proofs.Interface.{puts_onward, round_called}
use Rattle.usb_run_laws.specs.{IsStretch, LiesBetween, round, silent, last, wrote, Stretch, begun}
use Rattle.usb_run_laws.specs.{further, more, ToldItem}

-- A part

pub between_onward : {a b : HostState} → LiesBetween a b → RunsOnward a.world b.world
between_onward (round done tells) = called_onward (round_called tells)
between_onward (silent due comes is) = comes_onward comes
between_onward (last comes) = comes_onward comes
between_onward (wrote text puts) = puts_onward puts

pub round_knows : {a b : HostState} {done : Round} → RoundTells a (Ok done) b → Knows a → Knows b
round_knows {a} {b} tells s = knows_then a b (called_onward (round_called tells))
    tells.keeps.sound.keeps.sound s

pub between_knows : {a b : HostState} → LiesBetween a b → Knows a → Knows b
between_knows (round done tells) s = round_knows tells s
between_knows {a} {b} (silent due comes is) s = arrival_knows a b (Some due) comes s
between_knows {a} {b} (last comes) s = arrival_knows a b None comes s
between_knows (wrote text puts) s = puts_knows puts s

pub item_onward : (due : Option Ask) (item : Option Item) (a b : HostState) → IsItemOf due item a b
    → RunsOnward a.world b.world
item_onward due item a b is = called_onward (item_called due item a b is)

-- A stretch

pub stretch_knows : {old new : HostState} {told : List ToldItem} → Stretch old told new → Knows old
    → Knows new
stretch_knows begun s = s
stretch_knows (further before between) s = between_knows between (stretch_knows before s)
stretch_knows (more {h = h} {mid = mid} {new = new} due item before settled comes is) s =
    item_knows due (Some item) mid new is (arrival_knows h mid (Some due) comes settled.knows)

-- A run

with_rounds : {old a b : HostState} {told : List ToldItem} → Stretch old told a → Rounds a b
    → Stretch old told b
with_rounds t none = t
with_rounds t (one_more {h} {k} done before tells goes) =
    further (with_rounds t before) (round done tells)

with_settling : {old a b : HostState} {told : List ToldItem} → Stretch old told a → Settles a b
    → Stretch old told b
with_settling t settles = further (with_rounds t settles.rounds) (round settles.round settles.last)

with_ran : {old a b : HostState} {told : List ToldItem} → Stretch old told a → Ran a b
    → Stretch old told b
with_ran t idle = t
with_ran t (ran_silent {h} {k} due before arrives is) =
    further (with_settling (with_ran t before) arrives.settles) (silent due arrives.comes is)

with_item : {old h k new : HostState} {items : List Item} {item : Item} {over : Bool}
    {text : List ℕ} → IsStretch items false old h → Makes h item over k → AppendsText text k new
    → IsStretch (item ∷ items) over old new
with_item {text = text} s (asked {item} {mid} {new = k} due reaches is right) puts =
    let arrives = reaches.arrives in
    record {
      told = record { due = due; asked = mid; item = item } ∷ s.told;
      stretch = further (more due item (with_settling (with_ran s.stretch reaches.ran)
          arrives.settles) arrives.settled arrives.comes is) (wrote text puts);
      made = ap (λ l. item ∷ l) s.made;
    }
with_item {k = k} {text = text} s (run_last reaches settled) puts =
    let arrives = reaches.arrives in
    record {
      told = s.told;
      stretch = further (further (with_settling (with_ran s.stretch reaches.ran) arrives.settles)
          (last arrives.comes)) (wrote text puts);
      made = (listing_of false k, ap (λ l. listing_of false k ∷ l) s.made);
    }

run_stretch : {mode : Mode} {was : Bool} {old : HostState} {items : List Item} {over : Bool}
    {new : HostState} → Transcript mode was old items over new → was ≡ false
    → IsStretch items over old new
run_stretch {old = old} run_begun at_work =
    subst (λ o. IsStretch [] o old old) (sym at_work)
    (record { told = []; stretch = begun; made = refl })
run_stretch {mode = mode} (run_told {items} {item} t makes puts) at_work =
    with_item {text = shown mode items item} (run_stretch t at_work) makes puts

pub run_is_stretch : (mode : Mode) (old new : HostState) (items : List Item) (over : Bool)
    → Transcript mode false old items over new → IsStretch items over old new
run_is_stretch mode old new items over t = run_stretch t refl
