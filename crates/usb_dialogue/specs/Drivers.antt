-- A driver, and what its calls do.
use Rattle.std.specs.Prelude.{◌≡◌, ◌≢◌, ◌⊎◌, ℕ, ◌<◌, Bool, true, false, List, [], ◌∷◌}
use Rattle.std.specs.Prelude.{◌++◌}
use Rattle.std.specs.Prelude.{length, Option, Some, None, Result, Ok, Err}
use Rattle.usb_enum.specs.{HostOptions}
use Rattle.usb_host.specs.{HostState, first_numbers, none_left}
use Rattle.usb_dialogue.specs.Calls.{Makes}
use Rattle.usb_dialogue.specs.Hearing.{Hears, failed_by, no_world, spent_in}
use Rattle.usb_dialogue.specs.Questions.{FitsQuestion}
use Rattle.usb_dialogue.specs.RowAnswers.{CameFirst, FirstFault}
use Rattle.usb_dialogue.specs.Told.{call_told, done_status}
use Rattle.usb_dialogue.specs.declared.answer.Answer.{Answer}
use Rattle.usb_dialogue.specs.declared.call.Done.{Done}
use Rattle.usb_dialogue.specs.declared.call.Done.TheVariants as done
use Rattle.usb_dialogue.specs.declared.fault.DriverFault.{DriverFault}
use Rattle.usb_dialogue.specs.declared.fault.DriverFault.TheVariants as fault
use Rattle.usb_dialogue.specs.declared.progress.Progress.{Progress}
use Rattle.usb_dialogue.specs.declared.question.Question.{Question}
use Rattle.usb_dialogue.specs.declared.want.Want.{Want}

-- how many root ports there are, and what the host takes; the host before the call that is under
-- way, none before the one that opens it; what is wanted, and what the root ports showed when that
-- began; what was heard since, and the question that waits; the records of the last call
pub record DriverState : Type 0 where
  pub roots : ℕ
  pub options : HostOptions
  pub host : Option HostState
  pub want : Option Want
  pub statuses : List (List ℕ)
  pub heard : List Answer
  pub asked : Option Question
  pub told : List ℕ

-- ---- one call

-- what a host knows, over a bus that was asked nothing
abbrev pub on_bus : HostState → HostState
on_bus h = record h {
  world = no_world;
  trace = None;
  counts = record { spent = 0; failed = None; left = h.counts.left };
}

-- a host that knows of no device, with these options
pub record Opens (takes : HostOptions) (new : HostState) : Type 0 where
  pub entries : new.entries ≡ []
  pub going : new.stopped ≡ false
  pub left : new.counts.left ≡ none_left
  pub numbers : new.numbers ≡ first_numbers
  pub reported : new.reported ≡ []
  pub options : new.options ≡ takes

-- a call: it opens a host, or does what is wanted on one
pub data Call : Type 0 where
  opens : HostOptions → Call
  wants : HostState → Want → Call
  none : Call

-- made once: it opens a host, or is made on a copy of one
abbrev pub MakesCall : Call → Done → HostState → Type 0
MakesCall (Call.opens options) d new = Opens options new × (d ≡ done.Moved (Ok tt))
MakesCall (Call.wants h want) d new = Makes false want (on_bus h) d new
MakesCall Call.none d new = ⊥

-- a call, how many root ports there are, what they showed as it began, and what was heard in it
pub record CallState : Type 0 where
  pub call : Call
  pub roots : ℕ
  pub statuses : List (List ℕ)
  pub heard : List Answer

-- so it went over a bus of what was heard: each answer was used, once and in their order, and what
-- was asked after them waits; the attempts of the call are those of the bus
pub record GoesTo (c : CallState) (q : Option Question) (d : Done) (new : HostState) : Type 0
  where
    pub end : Progress
    pub course : Hears c.roots c.statuses c.heard end
    pub used : end.used ≡ length c.heard
    pub asked : end.asked ≡ q
    pub made : MakesCall c.call d new
    pub spent : new.counts.spent ≡ spent_in end
    pub failed : new.counts.failed ≡ failed_by q

-- the call found no answer to this question
pub record NeedsAnswer (c : CallState) (q : Question) : Type 0 where
  pub done : Done
  pub end : HostState
  pub goes : GoesTo c (Some q) done end

-- after a call that went well, or failed as a transfer does, the host goes on with these records
pub record IsTold (end : HostState) (d : Done) (new : HostState) (records : List ℕ) : Type 0 where
  pub status : ℕ
  pub went : done_status d ≡ Some status
  pub host : new ≡ on_bus end
  pub told : records ≡ call_told end d status

-- the call found all its answers and is done: the host is the one after it, and these are its
-- records, once
pub record EndsWith (c : CallState) (new : HostState) (told : List ℕ) : Type 0 where
  pub done : Done
  pub end : HostState
  pub goes : GoesTo c None done end
  pub is : IsTold end done new told

-- ---- the calls of a driver

-- the call that is under way
abbrev pub call_of : HostOptions → Option HostState → Option Want → Call
call_of options None want = Call.opens options
call_of options (Some h) (Some want) = Call.wants h want
call_of options (Some h) None = Call.none

abbrev pub call_under_way : DriverState → Call
call_under_way d = call_of d.options d.host d.want

abbrev pub call_in : DriverState → CallState
call_in d = record {
  call = call_under_way d;
  roots = d.roots;
  statuses = d.statuses;
  heard = d.heard;
}

abbrev pub is_call : Call → Bool
is_call (Call.opens options) = true
is_call (Call.wants h want) = true
is_call Call.none = false

abbrev pub is_under_way : DriverState → Bool
is_under_way d = is_call (call_in d).call

abbrev pub IsUnderWay : DriverState → Type 0
IsUnderWay d = is_under_way d ≡ true

abbrev pub IsIdle : DriverState → Type 0
IsIdle d = is_under_way d ≡ false

-- `open`
abbrev pub opening : ℕ → HostOptions → List (List ℕ) → DriverState
opening roots options statuses = record {
  roots = roots;
  options = options;
  host = None;
  want = None;
  statuses = statuses;
  heard = [];
  asked = None;
  told = [];
}

pub data HasNoRoots (roots : ℕ) : Type 0 where
  none : roots ≡ 0 → HasNoRoots roots
  many : 7 < roots → HasNoRoots roots

-- `begin`
abbrev pub Begins : Want → List (List ℕ) → DriverState → Result (Unit {0}) DriverFault
    → DriverState → Type 0
Begins want statuses old (Ok done) new = IsIdle old
    × (new ≡ record old { want = Some want; statuses = statuses; heard = []; asked = None })
Begins want statuses old (Err f) new = (f ≡ fault.OutOfTurn) × IsUnderWay old × (new ≡ old)

-- `answer`
pub record TakesAnswer (a : Answer) (old new : DriverState) : Type 0 where
  pub question : Question
  pub asked : old.asked ≡ Some question
  pub fits : FitsQuestion question a.outcome
  pub rest : new ≡ record old { heard = old.heard ++ a ∷ []; asked = None }

pub record HasTooMuch (a : Answer) (old : DriverState) : Type 0 where
  pub question : Question
  pub asked : old.asked ≡ Some question
  pub more : FitsQuestion question a.outcome → ⊥

abbrev pub AnswerRefused : Answer → DriverState → DriverFault → Type 0
AnswerRefused a old fault.OutOfTurn = old.asked ≡ None
AnswerRefused a old fault.TooMuch = HasTooMuch a old
AnswerRefused a old fault.Memory = old.asked ≢ None
AnswerRefused a old fault.Kind = ⊥
AnswerRefused a old fault.Length = ⊥
AnswerRefused a old fault.Roots = ⊥
AnswerRefused a old fault.Number = ⊥

abbrev pub AnswersQuestion : Answer → DriverState → Result (Unit {0}) DriverFault → DriverState
    → Type 0
AnswersQuestion a old (Ok done) new = TakesAnswer a old new
AnswersQuestion a old (Err f) new = AnswerRefused a old f × (new ≡ old)

-- `answer_row`
pub record TakesRow (before : List ℕ) (last : Answer) (old new : DriverState) : Type 0 where
  pub question : Question
  pub asked : old.asked ≡ Some question
  pub packets : List Answer
  pub first : CameFirst last.statuses question before packets
  pub fits : FitsQuestion question last.outcome
  pub rest : new ≡ record old { heard = old.heard ++ (packets ++ last ∷ []); asked = None }

pub record HasNoFirst (before : List ℕ) (old : DriverState) (f : DriverFault) : Type 0 where
  pub question : Question
  pub asked : old.asked ≡ Some question
  pub cause : FirstFault question before f

abbrev pub RowRefused : List ℕ → Answer → DriverState → DriverFault → Type 0
RowRefused before last old fault.OutOfTurn =
    (old.asked ≡ None) ⊎ HasNoFirst before old fault.OutOfTurn
RowRefused before last old fault.Length = HasNoFirst before old fault.Length
RowRefused before last old fault.TooMuch =
    HasTooMuch last old ⊎ HasNoFirst before old fault.TooMuch
RowRefused before last old fault.Memory = old.asked ≢ None
RowRefused before last old fault.Kind = ⊥
RowRefused before last old fault.Roots = ⊥
RowRefused before last old fault.Number = ⊥

abbrev pub AnswersRow : List ℕ → Answer → DriverState → Result (Unit {0}) DriverFault
    → DriverState → Type 0
AnswersRow before last old (Ok done) new = TakesRow before last old new
AnswersRow before last old (Err f) new = RowRefused before last old f × (new ≡ old)

-- `question`: the one that waits; or a new one, if the call that is under way needs an answer
abbrev pub Asks : Question → DriverState → DriverState → Type 0
Asks q old new = ((old.asked ≡ Some q) × (new ≡ old))
    ⊎ ((old.asked ≡ None) × IsUnderWay old × NeedsAnswer (call_in old) q
    × (new ≡ record old { asked = Some q }))

-- no call is under way; or the call is done
pub record Finishes (old new : DriverState) : Type 0 where
  pub none : old.asked ≡ None
  pub under : IsUnderWay old
  pub host : HostState
  pub told : List ℕ
  pub ends : EndsWith (call_in old) host told
  pub rest : new ≡ record old { host = Some host; want = None; heard = []; told = told }

abbrev pub AsksNone : DriverState → DriverState → Type 0
AsksNone old new = ((old.asked ≡ None) × IsIdle old × (new ≡ old)) ⊎ Finishes old new

-- memory was refused to a step
abbrev pub StepRefused : DriverState → DriverFault → DriverState → Type 0
StepRefused old f new = (f ≡ fault.Memory) × (old.asked ≡ None) × IsUnderWay old × (new ≡ old)

abbrev pub Steps : DriverState → Result (Option Question) DriverFault → DriverState → Type 0
Steps old (Ok (Some q)) new = Asks q old new
Steps old (Ok None) new = AsksNone old new
Steps old (Err f) new = StepRefused old f new
