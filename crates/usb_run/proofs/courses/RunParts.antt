-- How the parts of a run join, and what they leave of the counts.
use Rattle.std.proofs.Common.{◌≡◌, refl, sym, ap, subst, arith, ℕ, ◌+◌, ◌≤◌, ◌<◌, List, Bool, true}
use Rattle.std.proofs.Common.{false, Option, None, Some, Result, Ok, Err, IsSome, IsTrue}
use Rattle.usb_world.specs.declared.event.Ask.{Ask}
use Rattle.usb_world.specs.{Show, Look as LookAt, News as AskNews}
use Rattle.usb_world.specs.{BusFault, World, AttemptsWithin, to_come}
use Rattle.usb_world.proofs.Interface.{spends_none, spends_then}
use Rattle.usb_bus.specs.{TakesEvent}
use Rattle.usb_bus.proofs.Interface.{went_none, went_then}
use Rattle.usb_host.specs.{Agrees, handling_bound, round_bound, HostFault, Round, HostState}
use Rattle.usb_host.specs.{HostSteps}
use Rattle.usb_host.specs.{OnlyBusSteps, RoundTells, TransferTells}
use Rattle.usb_run.specs.{Item, RunFault, Spent, Arrives, Ran, idle, Reaches, Rounds, none, more}
use Rattle.usb_run.specs.{Settled, Settles, Settling, Unsettled, RunStops}
use Rattle.usb_run.specs.{in_round, at_event, in_item, in_last, Does, IsItemOf, StopsAt}
use Rattle.usb_run.specs.{CallGives, CallTells}
use Rattle.usb_run.specs.RunSegments as run
use Rattle.usb_run.proofs.AskedCalls.{AskAnswered, silent, listed, called, news, answered}
use Rattle.usb_run.proofs.AskedCalls.{Calls, no_call, calls, call_made, tells_news}
use Rattle.usb_run.proofs.AskedCalls.{OnlyReported, item_calls, stop_calls}

-- Calls of the host

-- some attempts, and their text
pub record Called (old new : HostState) : Type 0 where
  pub most : ℕ
  pub went : HostSteps most old new

called_none : (h : HostState) → Called h h
called_none h = record { most = 0; went = went_none }

called_then : {a b c : HostState} → Called a b → Called b c → Called a c
called_then v w = record { most = v.most + w.most; went = went_then v.most w.most v.went w.went }

called_same : (old new : HostState) → new ≡ old → Called old new
called_same old new same = subst (Called old) (sym same) (called_none old)

-- news takes no attempt
called_reported : (old new : HostState) → OnlyReported old new → Called old new
called_reported old new only =
    subst (Called old) (sym only.1) (record { most = 0; went = went_none })

pub round_called : {a b : HostState} {result : Result Round HostFault} → RoundTells a result b
    → Called a b
round_called tells = record { most = round_bound; went = tells.went }

is_true-not : (b : Bool) → (IsTrue b → ⊥) → b ≡ false
is_true-not true f = absurd (f refl)
is_true-not false f = refl

-- a host goes on after a round that was done
pub round_running : {a b : HostState} {round : Round} → RoundTells a (Ok round) b
    → b.stopped ≡ false
round_running {b = b} tells = is_true-not b.stopped (λ stopped. cc (tells.stopped.stops.0 stopped))

pub rounds_called : {a b : HostState} → Rounds a b → Called a b
rounds_called {a} none = called_none a
rounds_called (more round before tells goes) =
    called_then (rounds_called before) (round_called tells)

pub settles_called : {a b : HostState} → Settles a b → Called a b
settles_called settles = called_then (rounds_called settles.rounds) (round_called settles.last)

pub unsettled_called : {a b : HostState} {fault : RunFault} → Unsettled a fault b → Called a b
unsettled_called unsettled = called_then (rounds_called unsettled.rounds)
    (round_called unsettled.last.tells)

transfer_called : {A : Type 0} {most : ℕ} {Did : HostState → Result A HostFault → HostState
    → Type 0} {a b : HostState} {result : Result A HostFault} → TransferTells most Did a result b
    → Called a b
transfer_called {A} {most} tells = record { most = most; went = tells.went }

call_called : (ask : Ask) {a b : HostState} (result : Result (CallGives ask) HostFault)
    → CallTells ask a result b → Called a b
call_called (Show said) result tells = absurd tells
call_called AskNews result tells = absurd tells
call_called (LookAt path) result tells = record { most = handling_bound; went = tells.went }
call_called _ result tells = transfer_called tells

calls_called : {due : Option Ask} {a b : HostState} → Calls due a b → Called a b
calls_called {a = a} {b = b} (no_call same) = called_same a b same
calls_called (calls ask result asks tells) = call_called ask result tells
calls_called {a = a} {b = b} (tells_news asks only) = called_reported a b only

pub item_called : (due : Option Ask) (item : Option Item) (a b : HostState) → IsItemOf due item a b
    → Called a b
item_called due item a b is = calls_called (item_calls (answered due item a b is))

pub stop_called : (due : Option Ask) (fault : RunFault) (a b : HostState) → StopsAt due fault a b
    → Called a b
stop_called due fault a b stops = calls_called (stop_calls due fault a b stops)

-- Joins

pub ran_then : {a b c : HostState} → Ran a b → Ran b c → Ran a c
ran_then x idle = x
ran_then x (run.silent {h} {k} due before arrives is) =
    run.silent {h = h} {k = k} due (ran_then x before) arrives is

pub arrival_reaches : {a b c : HostState} {result : Result (Option (Option Ask)) BusFault} → Ran a b
    → Arrives b result c → Reaches a result c
arrival_reaches {b = b} before arrives = record { behind = b; ran = before; arrives = arrives }

pub reaches_later : {a b c : HostState} {result : Result (Option (Option Ask)) BusFault} → Ran a b
    → Reaches b result c → Reaches a result c
reaches_later before reaches = record {
  behind = reaches.behind;
  ran = ran_then before reaches.ran;
  arrives = reaches.arrives;
}

pub stops_after : {a b c : HostState} {fault : RunFault} → Ran a b → RunStops b fault c
    → RunStops a fault c
stops_after before (in_round ran unsettled) = in_round (ran_then before ran) unsettled
stops_after before (at_event fault reaches) = at_event fault (reaches_later before reaches)
stops_after before (in_item due reaches stops) = in_item due (reaches_later before reaches) stops
stops_after before (in_last reaches) = in_last (reaches_later before reaches)

-- an event that makes no item leaves the host as it is
silent_same : {due : Option Ask} {a b : HostState} → AskAnswered due None a b → b ≡ a
silent_same (silent nothing same) = same
silent_same (listed said asks is same) = same
silent_same (called ask told asks fits of came) = absurd (call_made ask told of)
silent_same (news told asks is all) = cc is

-- one event more that made no item
pub ran_silent : {a b c : HostState} (due : Option Ask) (d : HostState) → Ran a b
    → Arrives b (Ok (Some due)) c → IsItemOf due None c d → Ran a d
ran_silent {a} {b} {c} due d before arrives is =
    let same = silent_same (answered due None c d is) in
    subst (Ran a) (sym same) (run.silent {h = b} {k = c} due before arrives
    (subst (IsItemOf due None c) same is))

-- an event behind settling, of a bus that stands for the host's world
pub arrives_taken : (old mid new : HostState) (result : Result (Option (Option Ask)) BusFault)
    {w : World} {t : Option (List ℕ)} → Settles old mid → Settled mid
    → Agrees mid.options mid.entries mid.addresses → OnlyBusSteps mid new
    → w ≡ mid.world → t ≡ mid.trace → TakesEvent w t result new.world new.trace
    → Arrives old result new
arrives_taken old mid new result {w} {t} settles settled agrees rests same trace takes =
    let P : World → Type 0 = λ x. TakesEvent x mid.trace result new.world new.trace in
    let Q : Option (List ℕ) → Type 0 = λ x. TakesEvent w x result new.world new.trace in
    record {
      mid = mid;
      settles = settles;
      settled = settled;
      comes = record { takes = subst P same (subst Q trace takes); rests = rests; agrees = agrees };
    }

-- Counts

pub spent_none : (h : HostState) → Spent h h
spent_none h = (0, spends_none h.world)

pub spent_then : (a b c : HostState) → Spent a b → Spent b c → Spent a c
spent_then a b c (m, s) (n, t) = (m + n, spends_then m n a.world b.world c.world s t)

pub called_spent : {a b : HostState} → Called a b → Spent a b
called_spent is = (is.most, is.went.spends)

pub does_spent : (due : Option Ask) (a b : HostState) (result : Result (Option Item) RunFault)
    → Does due a result b → Spent a b
does_spent due a b (Ok item) is = called_spent (item_called due item a b is)
does_spent due a b (Err fault) stops = called_spent (stop_called due fault a b stops)

pub settling_spent : (a b : HostState) (result : Result (Unit {0}) RunFault) → Settling a result b
    → Spent a b
settling_spent a b (Ok done) settles = called_spent (settles_called settles)
settling_spent a b (Err fault) unsettled = called_spent (unsettled_called unsettled)

-- and an event behind it
pub taken_spent : (a b : HostState) (v : World) (result : Result (Option (Option Ask)) BusFault)
    {w : World} {t s : Option (List ℕ)} → Spent a b → w ≡ b.world → TakesEvent w t result v s
    → (n : ℕ) × AttemptsWithin n a.world v
taken_spent a b v result (m, spent) same takes = (
  m + 0,
  spends_then m 0 a.world b.world v spent
      (subst (λ w. AttemptsWithin 0 w v) same takes.took.spends),
)

pub taken_fewer : (a b : HostState) (v : World) (due : Option (Option Ask)) {w : World}
    {t s : Option (List ℕ)} → Spent a b → w ≡ b.world → TakesEvent w t (Ok due) v s → IsSome due
    → to_come v < to_come a.world
taken_fewer a b v None spent same takes some = absurd (cc some)
taken_fewer a b v (Some due) (n, s) same takes some =
    let left = ap to_come same in
    let came = ap (λ (w : World). w.taken) same in
    omega (arith, left, came, s.events, s.onward, takes.took.spends.events, takes.took.ends.one)

-- a run that began within its limit ends within it
pub within_limit : (a b : HostState) → Spent a b → a.world.attempts ≤ a.world.limit
    → b.world.attempts ≤ a.world.limit
within_limit a b (n, s) le = subst (λ n. b.world.attempts ≤ n) s.limit (s.within le)

-- as many events are to come, or fewer
pub no_more_events : (a b : HostState) → Spent a b → to_come b.world ≤ to_come a.world
no_more_events a b (n, s) = omega (arith, s.events, s.onward)

-- no event is added
pub few_events : (a b : HostState) → Spent a b → a.world.taken + to_come a.world ≤ 10000
    → b.world.taken + to_come b.world ≤ 10000
few_events a b (n, s) le = omega (arith, s.events, le)
