-- What a run makes of an event, by what the event asks.
use Rattle.std.proofs.Common.{◌≡◌, refl, sym, subst, Bool, false, Option, Some, Result, Ok, Err}
use Rattle.std.proofs.Common.{IsErrAnd}
use Rattle.usb_world.specs.declared.event.Ask.{Ask}
use Rattle.usb_world.specs.{Show}
use Rattle.usb_host.specs.{HostState}
use Rattle.usb_run.specs.{Item, RunFault, Memory, RunsOn, listing_of, Does, Gives}
use Rattle.usb_run.proofs.endings.Ends.{error_runs_on}

abbrev ItemAsked : Option Ask → HostState → Result (Option Item) RunFault → HostState → Type 0
ItemAsked due = RunsOn (Does due)

-- something was
pub something_asked : (due : Option Ask) (ask : Ask) (h k : HostState)
    (result : Result (Option Item) RunFault)
    → due ≡ Some ask → ItemAsked (Some ask) h result k → ItemAsked due h result k
something_asked due ask h k result is goes = subst (λ d. ItemAsked d h result k) (sym is) goes

-- a listing was asked for, and made
pub listing_asked : (ask : Ask) (said : Bool) (h : HostState) (item : Item) → ask ≡ Show said
    → item ≡ listing_of said h → h.stopped ≡ false → ItemAsked (Some ask) h (Ok (Some item)) h
listing_asked ask said h item is made running =
    subst (λ a. ItemAsked (Some a) h (Ok (Some item)) h) (sym is) (record {
      goes = (subst (λ i. Some i ≡ Some (listing_of said h)) (sym made) refl, refl);
      running = running;
      caused = tt;
    })

-- and where memory was refused for it
pub listing_refused : (ask : Ask) (said : Bool) (h : HostState)
    (result : Result (Option Item) RunFault) (fault : RunFault) → ask ≡ Show said
    → IsErrAnd result (λ e. e ≡ fault) → fault ≡ Memory
    → ItemAsked (Some ask) h result h
listing_refused ask said h result fault is failed memory =
    let refused = subst (λ f. IsErrAnd result (λ e. e ≡ f)) memory failed in
    subst (λ a. ItemAsked (Some a) h result h) (sym is)
    (error_runs_on (Does (Some (Show said))) result Memory refused (refl, refl) tt)

-- a transfer was asked for, and gave its item
pub transfer_asked : (ask asks : Ask) (h k : HostState) (item : Item) → ask ≡ asks
    → RunsOn (Gives asks) h (Ok item) k → ItemAsked (Some ask) h (Ok (Some item)) k
transfer_asked ask asks h k item is given =
    subst (λ a. ItemAsked (Some a) h (Ok (Some item)) k) (sym is)
    (record { goes = given.goes; running = given.running; caused = tt })

-- and where it ended the run
pub transfer_failed : (ask asks : Ask) (h k : HostState) (result : Result (Option Item) RunFault)
    (fault : RunFault) → ask ≡ asks → IsErrAnd result (λ e. e ≡ fault)
    → RunsOn (Gives asks) h (Err fault) k → ItemAsked (Some ask) h result k
transfer_failed ask asks h k result fault is failed given =
    subst (λ a. ItemAsked (Some a) h result k) (sym is)
    (error_runs_on (Does (Some asks)) result fault failed given.goes given.caused)
