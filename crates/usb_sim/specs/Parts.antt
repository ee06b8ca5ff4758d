-- The parts of an attempt of a simulated bus: each event that is due, all of them, and the attempt
-- behind them.
use Rattle.std.specs.Prelude.{◌≡◌, ◌≢◌, ℕ, ◌+◌, List, Option, None, Some, Result, Ok, Err, OnOk}
use Rattle.std.specs.Prelude.{OnErr, IfOk, IfErr, IsSome, length, Bool, true, false}
use Rattle.usb_packet.specs.declared.Packet.TheVariants as packet
use Rattle.usb_world.specs.{Attempt, BusFault, Limit, Memory, Failed, Outcome, World}
use Rattle.usb_world.specs.{AttemptsWithin, to_come, Coming, Left, after, attempt}
use Rattle.usb_world.specs.{fault_of, made_in, outcome_in, at_attempt, after_first_event}
use Rattle.usb_world.specs.{with_attempt}
use Rattle.usb_world.specs.{ExchangeAnswer}
use Rattle.usb_world.specs.declared.exchange.ExchangeAnswer.TheVariants.{One}
use Rattle.usb_world.specs.declared.event.Ask.{Ask}
use Rattle.usb_sim.specs.declared.sim.SimBus.{SimBus}
use Rattle.usb_sim.specs.declared.tracer.Trace.{Ghosts}
use Rattle.usb_bus.specs.{lines_between, next_due, step_lines, WritesText}
use Rattle.usb_sim.specs.Sim.{world_of, tracer_of}

-- the next event came, if one was left; or memory was refused and it did not come, or its line was
-- not written
pub record OneEventCame (old : World) (before : Option (List ℕ))
    (result : Result (Option (Option Ask)) BusFault) (new : World) (now : Option (List ℕ)) : Type 0
  where
    pub spends : AttemptsWithin 0 old new
    pub told : new.fault ≡ fault_of result
    pub none : result ≡ Ok None → (to_come old ≡ 0) × (new ≡ old)
    pub one : IfOk result (λ due. IsSome due → new.taken ≡ old.taken + 1)
    pub asked : IfOk result (λ due. due ≡ next_due old)
    pub exact : OnOk result (new ≡ after_first_event old.left old)
    pub kept : result ≡ Err Memory → new ≡ record old { fault = Some Memory }
    pub cut : result ≡ Err Failed → new ≡ record (after_first_event old.left old) {
      fault =
          Some Failed;
    }
    pub other : IfErr result (λ f. f ≢ Limit)
    pub text : WritesText result before now (lines_between old new)

-- the events that are due came, or one of them was refused
pub record EventsCame {A : Type 0} (old : World) (before : Option (List ℕ))
    (result : Result A BusFault) (new : World) (now : Option (List ℕ)) : Type 0 where
  pub spends : AttemptsWithin 0 old new
  pub told : new.fault ≡ fault_of result
  pub exact : OnOk result (new ≡ at_attempt old)
  pub cut : OnErr result (Coming old (record new { fault = None }))
  pub other : IfErr result (λ f. f ≢ Limit)
  pub text : WritesText result before now (lines_between old new)

-- the attempt was made behind the events that are due, and this came of it; or the bus gave it up
pub record AttemptMade {A : Type 0} (a : Attempt) (old : World) (before : Option (List ℕ))
    (result : Result A BusFault) (came : Outcome) (new : World) (now : Option (List ℕ)) : Type 0
  where
    pub spends : AttemptsWithin 1 old new
    pub one : OnOk result (new.attempts ≡ old.attempts + 1)
    pub exact : OnOk result (new ≡ with_attempt a (at_attempt old))
    pub left : IfErr result (λ f. Left a old f (record new { fault = None }))
    pub outcome : OnOk result (came ≡ outcome_in a old)
    pub told : new.fault ≡ fault_of result
    pub other : IfErr result (λ f. f ≢ Limit)
    pub text : WritesText result before now (step_lines a old new)

-- how many bytes of data a device answered, where one device did
abbrev pub data_length : ExchangeAnswer → ℕ
data_length (One (packet.Payload toggle bytes)) = length bytes.items
data_length _ = 0

-- how many bytes of data a device answers to an attempt that is made next
abbrev pub answered_in : Attempt → World → ℕ
answered_in a w = data_length (made_in a (at_attempt w)).answer

-- how many bytes of data a device answered to the last attempt
abbrev pub answered_by : {T : Type 0} {g : Ghosts T} → SimBus T g → ℕ
answered_by s = data_length s.exchange.answer

-- what an attempt leaves beside the world: what was answered; where it told a fault, at the limit
-- the trace as it was, behind a fault all as it was, and where it is the first to tell Failed a
-- trace that has failed
pub record LeavesAttempt {T : Type 0} {g : Ghosts T} (a : Attempt) (old : SimBus T g)
    (result : Result Outcome BusFault) (new : SimBus T g) : Type 0 where
  pub answered : OnOk result (answered_by new ≡ answered_in a (world_of old))
  pub limit : result ≡ Err Limit → (world_of new ≡ after (attempt a) (world_of old))
      × (tracer_of new ≡ tracer_of old)
  pub again : IsSome (world_of old).fault → new ≡ old
  pub failed : result ≡ Err Failed → (world_of old).fault ≡ None → g.failed (tracer_of new) ≡ true
