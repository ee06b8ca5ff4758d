-- A poll of a hub leaves its status pipe level, tells of its ports, and is answered where the hub
-- is reached.
use Rattle.std.proofs.Common.{◌≡◌, ◌≢◌, ◌∙◌, refl, sym, ap, subst, Bool, true, false, ℕ, eq-eqb}
use Rattle.std.proofs.Common.{List, Option, Some, None, IfSome, is_some, Result, arith, Ok, Err}
use Rattle.std.proofs.Common.{IfOk, IsOk, MatchResult}
use Rattle.std.proofs.lemmas.Option.{same_Some}
use Rattle.arrayvec.specs.ArrayVec.{ArrayVec}
use Rattle.usb_device.specs.{State, reach, Location, path_to, state_there, reach_on, change_bytes}
use Rattle.usb_device.specs.{hub_ports, state_on, told_bits}
use Rattle.usb_world.specs.{Attempt, Outcome, is_setup, Was, EachWas, LeavesPortAlone, Course, here}
use Rattle.usb_world.specs.{Relation, World, address_of, IsSettled}
use Rattle.usb_world.proofs.Interface.{course_then, data_asks_nothing, each_none}
use Rattle.usb_bus.specs.{StepRun}
use Rattle.usb_transfer.specs.{AttemptsMade, transaction_bound, Answerer, is_at, AttemptLog}
use Rattle.usb_transfer.specs.{NoThreeDamaged, Listens, PipeFault, FaultAfter, Interrupt}
use Rattle.usb_transfer.specs.{IsNoBusFault, PollLeaves, PollTells, ToldOf, PollingFailure}
use Rattle.usb_transfer.specs.{interrupt_made}
use Rattle.usb_transfer.proofs.Interface.{trail_settled}
use Rattle.usb_transfer.specs.declared.fault.PipeFault.TheVariants as why
use Rattle.usb_transfer.proofs.Interface.{poll_tells, polling_why, who_polls}
use Rattle.usb_hub.specs.{NoHubFailed}
use Rattle.usb_enum.specs.{Accepted}
use Rattle.usb_enum.proofs.Interface.{each_joint}
use Rattle.usb_table.specs.{Pipes, Hub, Function, Absent, accepted_device_at, is_below_hub}
use Rattle.usb_table.specs.{StatusPipeInSync, InSyncAt, IsHeld, KeepsInSync, BitsOf, HubTold}
use Rattle.usb_table.specs.{IsListening, KeepsPolled, TablePolls, SparesBulk, IsStatusPipe}
use Rattle.usb_table.specs.{ArePipesIf, ArePipesTo, Table, pipes_at, GoesThrough, NotPolled}
use Rattle.usb_table.specs.{OnlyTransfers, PipesPolled, PollTook, PolledThrough}
use Rattle.usb_table.proofs.levels.FittingPipes.{PipesMove, poll_moves, EachMoves}
use Rattle.usb_table.proofs.levels.PathCalls.{held_address, moved_levels, single, stands_there}
use Rattle.usb_table.proofs.levels.PathCalls.{still_levels, stood_at}
use Rattle.usb_table.proofs.transfers.FreeRequests.{spares-changes, spares-same}
use Rattle.usb_table.proofs.transfers.DevicesKept.{RanAs, polls_only, polls_spare, same_spares}

-- INs ask nothing of any port

trail_rests : (x : List ℕ) {a : Attempt} {old mid : World} {outcomes : List Outcome}
    → is_setup a.kind ≡ false → AttemptLog a old outcomes mid → IsSettled old.roots
    → Course (LeavesPortAlone x) old mid
trail_rests x kind AttemptLog.start settled = here _
trail_rests x {a} kind (AttemptLog.next w t m) settled =
    grind (arith, trail_rests x kind t settled, course_then, data_asks_nothing, trail_settled)

-- A poll of the hub at a path

module _ (path : List ℕ) (device : Accepted) (pipe rest : Interrupt) (old new : Table)
    (before after : World) (result : Result (Option (ArrayVec ℕ)) PipeFault)
    (goes : GoesThrough path old new) (stands : accepted_device_at path old.entries ≡ Some device)
    (was : pipes_at path old ≡ Hub pipe) (left : pipes_at path new ≡ Hub rest)
    (are : IsStatusPipe device (is_below_hub path) pipe)
    (x : PolledThrough pipe before result rest after) where
  far : pipe.ep ≢ 0
  far e = grind arith

  made : interrupt_made rest ≡ interrupt_made pipe
  made = grind arith

  addressed : pipe.target.addr ≡ device.address
  addressed = grind arith

  leaves : after.shared ≡ false → EachWas (PollLeaves pipe before result rest after) before after
  leaves = grind (arith, poll_tells)

  ran : after.shared ≡ false → EachWas RanAs before after
  ran = (polls_spare pipe far before result rest after x.settled x.polls).ran

  keeps : OnlyTransfers before after
  keeps = search (far, polls_only)

  moves : EachMoves device device.address (IsOk result) (Hub pipe) (Hub rest) before after
  moves unshared =
      subst (λ a. EachWas (PipesMove device a (IsOk result) (Hub pipe) (Hub rest)) before after)
      addressed (each_joint (PollLeaves pipe before result rest after) RanAs
      (PipesMove device pipe.target.addr (IsOk result) (Hub pipe) (Hub rest))
      (search (made, poll_moves)) before after
      (leaves unshared) (ran unshared))

  hub_levels : KeepsInSync path (IsOk result) old before new after
  hub_levels = moved_levels path device (IsOk result) (Hub pipe) (Hub rest) old new before after
      stands goes was left keeps.addresses moves OnlyTransfers keeps

  unshared : IsHeld old before → after.shared ≡ false
  unshared = single path device (IsOk result) (Hub pipe) (Hub rest) old new before after stands goes
      was left keeps.addresses moves

  -- the pipe is level with it, and it has the pipe's address
  abbrev Fitted : State → Type 0
  Fitted s = StatusPipeInSync pipe s × (is_at s pipe.target ≡ true)

  -- so it is of the hub before
  fits : {R : Relation} → IsHeld old before → InSyncAt path old before → (j : Location)
      (v : State) → path ≡ path_to j → (w : Was R before j v) → Fitted w.before
  fits held level j v is w =
      let stood = stood_at path before j v is w in (
        rw was at (level.level device w.before stands stood.0 stood.1),
        eq-eqb (address_of w.before) pipe.target.addr (grind (arith, addressed, held_address)),
      )

  -- the bits that were told
  bits_of : (j : Location) (bits : ℕ) → path ≡ path_to j → ToldOf pipe before after j bits
      → BitsOf path before after bits
  bits_of j bits is told = record {
    mid = told.told.mid;
    rests = λ y. trail_rests y refl told.told.trail x.settled;
    port = told.told.b;
    state = told.told.s;
    ports = told.told.below;
    stood = grind arith;
    told = told.told.told;
    since = λ y. trail_rests y refl told.told.since (trail_settled told.told.trail x.settled);
    came = told.came;
  }

  tells_of : (j : Location) → path ≡ path_to j → (r : Result (Option (ArrayVec ℕ)) PipeFault)
      → PollTells (ToldOf pipe before after j) r → PollTells (BitsOf path before after) r
  tells_of j is (Ok None) t = bits_of j 0 is t
  tells_of j is (Ok (Some packet)) t = search (bits_of, t.bits, t.some, t.so, t.is)
  tells_of j is (Err fault) t = tt

  -- whoever has the address of the path is the hub
  there : IsHeld old before → (j : Location) (s : State) → reach_on before.roots j ≡ true
      → state_on before.roots j ≡ Some s → is_at s pipe.target ≡ true → path ≡ path_to j
  there held = grind (arith, addressed, stands_there)

  hub_told : IsHeld old before → InSyncAt path old before → (got : Option (ArrayVec ℕ))
      → result ≡ Ok got → HubTold path before result after
  hub_told held level got e = record {
    reached = ap (reach after.roots) is ∙ who.on;
    tells = tells_of who.spot is result told;
    bytes = λ s at. whole s at result refl;
  }
    where
      who : Answerer pipe.target before after
      who = who_polls pipe got rest before after x.settled
          (rw e at x.polls) (unshared held)

      is : path ≡ path_to who.spot
      is = there held who.spot who.before who.was_on who.stood who.at

      was_so : Was (PollLeaves pipe before result rest after) before who.spot who.now
      was_so = grind (arith, leaves, unshared)

      fitted : Fitted was_so.before
      fitted = fits held level who.spot who.now is was_so

      told : PollTells (ToldOf pipe before after who.spot) result
      told = was_so.so.tells fitted.1 fitted.0.to fitted.0.level

      same_ports : (s : State) → state_there after.roots path ≡ Some s
          → hub_ports was_so.before.spec.hub ≡ hub_ports s.spec.hub
      same_ports s at =
          let now : state_there after.roots path ≡ Some who.now =
          ap (state_there after.roots) is ∙ who.stands in
          let ran_it : Was RanAs before who.spot who.now = grind (arith, ran, unshared) in
          ap (λ (d : State). hub_ports d.spec.hub)
          (same_Some was_so.before ran_it.before (grind arith))
          ∙ sym (grind arith)
          ∙ ap (λ (d : State). hub_ports d.spec.hub) (same_Some who.now s (sym now ∙ at))

      whole : (s : State) → state_there after.roots path ≡ Some s
          → (r : Result (Option (ArrayVec ℕ)) PipeFault) → result ≡ r → IfOk r (λ got. IfSome got
          (λ packet. packet.items ≡ change_bytes (hub_ports s.spec.hub) (told_bits packet.items)))
      whole s at (Ok (Some packet)) e =
          was_so.so.bytes fitted.1 fitted.0.to fitted.0.level packet e
          ∙ ap (λ n. change_bytes n (told_bits packet.items)) (same_ports s at)
      whole s at (Ok None) e = tt
      whole s at (Err why) e = tt

  -- whoever else was asked has another address, so its bulk endpoints stay as they were, and so do
  -- those of the hub
  spared_by : IsHeld old before → InSyncAt path old before
      → (j : Location) (v : State) (x : Was (PollLeaves pipe before result rest after) before j v)
      → (b : Bool) → is_at x.before pipe.target ≡ b → SparesBulk j x.before v
  spared_by held level j v x false e = spares-same j x.before v (x.so.others e)
  spared_by held level j v x true e =
      let fitted = fits held level j v (grind (arith, there)) x in
      grind (arith, fitted, spares-changes)

  hub_spares : IsHeld old before → InSyncAt path old before → EachWas SparesBulk before after
  hub_spares held level j v on there =
      let x : Was (PollLeaves pipe before result rest after) before j v =
      leaves (unshared held) j v on there in
      record {
        before = x.before;
        on = x.on;
        stands = x.stands;
        so = spared_by held level j v x (is_at x.before pipe.target) refl;
      }

  -- a hub that is reached in the end is polled
  module _ (held : IsHeld old before) (level : InSyncAt path old before)
      (three : NoThreeDamaged before) (heard : IsListening path device after) where
    before_it : Was RanAs before heard.spot heard.state
    before_it = grind (arith, ran, unshared)

    fitted : Fitted before_it.before
    fitted = search (before_it, fits)

    listened : Listens pipe.target heard.spot before_it.before
    listened = grind (arith, before_it, fitted)

    never : (why : PipeFault) → IsNoBusFault {A = Option (ArrayVec ℕ)} (Err why) → result ≡ Err why
        → ⊥
    never why sound e = answered_at.answered listened fitted.0.to fitted.0.level fitted.0.runs
        why e
      where
        cause : Was (PollingFailure pipe result) before heard.spot heard.state
        cause =
            polling_why pipe result rest before after x.settled three x.polls
            (rw e sound) (unshared held)
            heard.spot heard.state heard.on heard.stands

        answered_at : PollingFailure pipe result heard.spot before_it.before heard.state
        answered_at = subst (λ s. PollingFailure pipe result heard.spot s heard.state)
            (grind (arith, before_it, same_Some)) cause.so

    served_by : (r : Result (Option (ArrayVec ℕ)) PipeFault) → result ≡ r → NoHubFailed r
    served_by (Err why.Stalled) e = never why.Stalled tt e
    served_by (Err why.Busy) e = never why.Busy tt e
    served_by (Err why.NoAnswer) e = never why.NoAnswer tt e
    served_by (Err why.Broken) e = never why.Broken tt e
    served_by _ e = tt

    hub_served : NoHubFailed result
    hub_served = served_by result refl

  ok_got : (r : Result (Option (ArrayVec ℕ)) PipeFault) → IsOk r → (got : Option (ArrayVec ℕ))
      × (r ≡ Ok got)
  ok_got r ok = grind arith

  same_one : (d : Accepted) → accepted_device_at path old.entries ≡ Some d → device ≡ d
  same_one d e = same_Some device d (sym stands ∙ e)

  hub_polled : KeepsPolled path old before result new after
  hub_polled = grind (arith, hub_levels, hub_served, hub_spares, hub_told, ok_got, same_one)

-- Whatever stands there

module _ (path : List ℕ) (old new : Table) (before after : World)
    (result : Result (Option (ArrayVec ℕ)) PipeFault) (goes : GoesThrough path old new) where
  -- no hub stands there
  none_polled : ((device : Accepted) → accepted_device_at path old.entries ≡ Some device
      → is_some device.hub ≡ true → ⊥)
      → NotPolled (pipes_at path old) before result (pipes_at path new) after
      → KeepsPolled path old before result new after
  none_polled none x = record {
    levels = search (same_spares, still_levels, x.1, x.2);
    told = grind arith;
    why = grind arith;
    spares = grind (arith, each_none, spares-same);
  }

  polled_to : (device : Accepted) (pipes left : Pipes)
      → accepted_device_at path old.entries ≡ Some device → pipes_at path old ≡ pipes
      → pipes_at path new ≡ left → ArePipesTo device (is_below_hub path) pipes
      → PipesPolled pipes before result left after → KeepsPolled path old before result new after
  polled_to device (Hub pipe) left e was is are x =
      hub_polled path device pipe x.0 old new before after result goes e was (is ∙ x.1) are.1 x.2
  polled_to device (Function pipes) left e was is are x = grind (arith, none_polled, same_Some)
  polled_to device (Absent said) left e was is are x = absurd are

  polled_by : (found : Option Accepted) → accepted_device_at path old.entries ≡ found
      → ArePipesIf found (is_below_hub path) (pipes_at path old)
      → PipesPolled (pipes_at path old) before result (pipes_at path new) after
      → KeepsPolled path old before result new after
  polled_by None e none x = grind (arith, none_polled)
  polled_by (Some device) e are x =
      polled_to device (pipes_at path old) (pipes_at path new) e refl refl are x

-- a packet that came took an attempt

took_by : (old : World) (result : Result (Option (ArrayVec ℕ)) PipeFault) (new : World)
    → MatchResult result (λ _. AttemptsMade 1 old new) (λ fault. FaultAfter 0 old fault new)
    → PollTook old result new
took_by old result new ends = grind arith

polled_took : (pipes left : Pipes) (old : World) (result : Result (Option (ArrayVec ℕ)) PipeFault)
    (new : World) → PipesPolled pipes old result left new → PollTook old result new
polled_took pipes left old result new x = grind (arith, took_by)

pub table_polls : (path : List ℕ) (old new : Table) (before after : World)
    (text now : Option (List ℕ)) (result : Result (Option (ArrayVec ℕ)) PipeFault)
    → GoesThrough path old new → StepRun transaction_bound before text after now
    → PipesPolled (pipes_at path old) before result (pipes_at path new) after
    → TablePolls path old before text result new after now
table_polls path old new before after text now result goes went x = record {
  went = went;
  took = grind (arith, polled_took);
  polled = x;
  keeps = polled_by path old new before after result goes _ refl goes.fits x;
}
