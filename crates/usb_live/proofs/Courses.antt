-- How a course goes on at each call.
use Rattle.std.proofs.Common.{◌≡◌, ◌≢◌, ◌∙◌, ℕ, zero, suc, ◌+◌, ◌^◌, ◌≤◌, ◌<◌, ◌⊎◌, inl, inr, List}
use Rattle.std.proofs.Common.{Option, Some, None, Result, Ok, Err, refl, sym, ap, subst, arith, ◌-◌}
use Rattle.std.proofs.Common.{Bool, is_ok, true, false, nat_lt, if◌then◌else◌}
use Rattle.std.proofs.lemmas.Bool.{cases_lt}
use Rattle.std.proofs.lemmas.Grind.{not_there}
use Rattle.usb_run.specs.{Item, Listing, lines_text, listing_lines, number_of, usual_options}
use Rattle.usb_port.specs.{PortCall}
use Rattle.usb_world.specs.{BusFault, Destination, Outcome, destination_of}
use Rattle.usb_world.specs.declared.types.Attempt.{Attempt}
use Rattle.usb_world.specs.declared.types.Attempt.TheVariants as attempt
use Rattle.usb_wire.specs.{Answer, Question}
use Rattle.usb_wire.specs.declared.answer.Answer.TheVariants as answer
use Rattle.usb_wire.specs.declared.question.Question.TheVariants.{Hello, Wait, Port}
use Rattle.usb_watch.specs.{OutPipe, Pipe}
use Rattle.usb_stream.specs.{AsksNoQuestion, AsksOnce, AttemptsByLine, AttemptsBy, Calls, Kept}
use Rattle.usb_stream.specs.{Restarts, restart_of}
use Rattle.usb_stream.specs.{SaysHello, WritesLines, bus_fault, greeted, kept_of, question_for}
use Rattle.usb_stream.specs.{roots_if, streams, unasked, unread_of, written_of, StreamBus}
use Rattle.usb_stream.specs.{LiveFault, HearsMore, InsByLine, OutsByLine, RefusesRow, RowBy}
use Rattle.usb_stream.specs.{RowEndsBy, RowHeard, RowPlan, StepBy, ins_plan, more_answers}
use Rattle.usb_stream.specs.{none_heard, one_heard, outs_plan, was_asked}
use Rattle.usb_bus.specs.{RowDone, RowEnd, Whole, Answered, Faulted}
use Rattle.usb_packet.specs.{Toggle}
use Rattle.std.proofs.Common.{length}
use Rattle.std.specs.Int.{div_ceil}
use Rattle.usb_live.specs.{LiveCourse, LiveHost, CourseTo, EndsBy, EndsLiveAs, IsShown}
use Rattle.usb_live.specs.{StandsAtStage, Lives, is_nothing, is_wait, listed, owed_by, owed_left}
use Rattle.usb_live.specs.{owes, questions_in, settles, stage_behind, stage_behind_answer}
use Rattle.usb_live.specs.{told_text, LiveEnd, Line, Memory, Rounds, Owed}
use Rattle.usb_live.specs.{Stage, Asks, EndWanted, Over}
use Rattle.usb_live.specs.declared.owed.Owed.TheVariants as owed

-- ---- how many questions are left

left_behind : (q : Question) (r0 r1 : Pipe) (w0 w1 : OutPipe) (j : Kept)
    (result : Result Answer LiveFault) (k : Kept) → AsksOnce q (streams r0 r1 w0 w1) j result k
    → k.left + questions_in result ≡ j.left
left_behind q r0 r1 w0 w1 j (Ok got) k h = h.one
left_behind q r0 r1 w0 w1 j (Err f) k h = h.spent

-- ---- one step

pub on_asks : {st : Stage} {o : Owed} {host : LiveHost} {m : ℕ} {u r : Pipe} {b w : OutPipe}
    {k : Kept} → CourseTo st o host m u b r w k → CourseTo Asks o host m u b r w k
on_asks c = record {
  asked = c.asked;
  course = c.course;
  few = c.few;
  numbered = c.numbered;
  at = tt;
}

-- ---- how many items are owed

owes_few : (o : Owed) → owes o ≤ 1
owes_few owed.Nothing = omega arith
owes_few _ = omega arith

-- an answer owes one item at most, and a fault none
owes_by : (result : Result Answer LiveFault) → owes (owed_by result) ≤ questions_in result
owes_by (Ok got) = owes_few (owed_by (Ok got))
owes_by (Err f) = omega arith

-- an item that is owed is one
owes_one : (o : Owed) (item : Item) → settles o item ≡ true → owes o ≡ 1
owes_one owed.Nothing item fits = cc
owes_one _ item fits = refl

number_more : (item : Item) (m : ℕ) → number_of item m ≤ m + 1
number_more (Listing entries taken said) m = omega arith
number_more _ m = omega arith

-- once it is told, it is a listing more at most, and is owed no more
owes_told : (o : Owed) (item : Item) (m n : ℕ) (result : Result (Unit {0}) LiveFault)
    → settles o item ≡ true → m + owes o ≤ n → listed m item result + owes (owed_left o result) ≤ n
owes_told o item m n (Ok done) fits few =
    omega (arith, few, owes_one o item fits, number_more item m)
owes_told o item m n (Err f) fits few = few

asked_on : {st : Stage} {o : Owed} {host : LiveHost} {m : ℕ} {u : Pipe} {b : OutPipe}
    (r0 r1 : Pipe) (w0 w1 : OutPipe) (j k : Kept) (q : Question)
    (result : Result Answer LiveFault) → CourseTo st o host m u b r0 w0 j → j.fault ≡ None
    → is_wait q ≡ false → more_answers q ≡ 0
    → AsksOnce q (streams r0 r1 w0 w1) j result k → CourseTo Asks o host m u b r1 w1 k
asked_on r0 r1 w0 w1 j k q result c sound plain single h =
    let fewer = left_behind q r0 r1 w0 w1 j result k h in
    let few = c.few in
    let numbered = c.numbered in
    record {
      asked = c.asked + questions_in result;
      course = LiveCourse.asked q result c.course sound plain single h;
      few = omega (arith, fewer, few);
      numbered = omega (arith, numbered);
      at = tt;
    }

-- what is wanted was asked
wanted_on : {st : Stage} {host : LiveHost} {m : ℕ} {u : Pipe} {b : OutPipe} (r0 r1 : Pipe)
    (w0 w1 : OutPipe) (j k : Kept)
    (result : Result Answer LiveFault) → CourseTo st owed.Nothing host m u b r0 w0 j → j.fault ≡
    None
    → AsksOnce Wait (streams r0 r1 w0 w1) j result k
    → CourseTo Asks (owed_by result) host m u b r1 w1 k
wanted_on r0 r1 w0 w1 j k result c sound h =
    let fewer = left_behind Wait r0 r1 w0 w1 j result k h in
    let few = c.few in
    let numbered = c.numbered in
    record {
      asked = c.asked + questions_in result;
      course = LiveCourse.wanted result c.course sound h;
      few = omega (arith, fewer, few);
      numbered = omega (arith, numbered, owes_by result);
      at = tt;
    }

course_nothing_asked : {st : Stage} {o : Owed} {host : LiveHost} {m : ℕ} {u : Pipe} {b : OutPipe}
    (r0 r1 : Pipe) (w0 w1 : OutPipe) (j k : Kept) → CourseTo st o host m u b r0 w0 j
    → AsksNoQuestion (streams r0 r1 w0 w1) j k → CourseTo Asks o host m u b r1 w1 k
course_nothing_asked r0 r1 w0 w1 j k c h =
    record {
      asked = c.asked;
      course = LiveCourse.still c.course h;
      few = ap (λ (x : Kept). c.asked + x.left) h.same ∙ c.few;
      numbered = c.numbered;
      at = tt;
    }

-- an attempt does not ask what is wanted, and is no row
attempt_plain : (a : Attempt) → is_wait (question_for a) ≡ false
attempt_plain (attempt.Setup to bytes) = refl
attempt_plain (attempt.Out to toggle bytes) = refl
attempt_plain (attempt.In to) = refl

attempt_single : (a : Attempt) → more_answers (question_for a) ≡ 0
attempt_single (attempt.Setup to bytes) = refl
attempt_single (attempt.Out to toggle bytes) = refl
attempt_single (attempt.In to) = refl

attempts_on : {st : Stage} {o : Owed} {host : LiveHost} {m : ℕ} {u : Pipe} {b : OutPipe}
    (r0 r1 : Pipe) (w0 w1 : OutPipe) (j k : Kept) (q : Question)
    (most : ℕ) (result : Result Outcome BusFault) → is_wait q ≡ false → more_answers q ≡ 0
    → CourseTo st o host m u b r0 w0 j → j.fault ≡ None
    → AttemptsBy q most (streams r0 r1 w0 w1) j result k → CourseTo Asks o host m u b r1 w1 k
attempts_on r0 r1 w0 w1 j k q most (Ok outcome) plain single c sound h =
    asked_on r0 r1 w0 w1 j k q (Ok h.got) c sound plain single h.asked
attempts_on r0 r1 w0 w1 j k q most (Err told) plain single c sound h =
    asked_on r0 r1 w0 w1 j k q (Err h.f) c sound plain single h.asked

-- ---- rows

-- a row leaves no more questions than there were
more_left : (r0 r1 : Pipe) (w0 w1 : OutPipe) (j k : Kept) (result : Result Answer LiveFault)
    → HearsMore (streams r0 r1 w0 w1) j result k → k.left ≡ j.left
more_left r0 r1 w0 w1 j k (Ok got) h = h.left
more_left r0 r1 w0 w1 j k (Err f) h = h.left

step_left : (ahead : Bool) (q : Question) (r0 r1 : Pipe) (w0 w1 : OutPipe) (j k : Kept)
    (result : Result Answer LiveFault) → StepBy ahead q (streams r0 r1 w0 w1) j result k
    → k.left ≤ j.left
step_left true q r0 r1 w0 w1 j k result h = omega (arith, more_left r0 r1 w0 w1 j k result h)
step_left false q r0 r1 w0 w1 j k result h =
    omega (arith, left_behind q r0 r1 w0 w1 j result k h)

heard_left : (plan : RowPlan) (r0 : Pipe) (w0 : OutPipe) (j : Kept) (n : ℕ) (got : List ℕ)
    (r : Pipe) (w : OutPipe) (k : Kept) → RowHeard plan r0 w0 j n got r w k → k.left ≤ j.left
heard_left plan r0 w0 j n got r w k none_heard = omega arith
heard_left plan r0 w0 j n got r w k
    (one_heard {n = before} {r = r1} {w = w1} {j = i} answer h step moves) =
    let so = heard_left plan r0 w0 j before _ r1 w1 i h in
    let one = step_left (was_asked before i.ahead) (plan.ask before) r1 r w1 w i k (Ok answer) step
    in omega (arith, so, one)

ends_left : (plan : RowPlan) (moved most : ℕ) (r0 r1 : Pipe) (w0 w1 : OutPipe) (j k : Kept)
    (end : RowEnd) → RowEndsBy plan moved most (streams r0 r1 w0 w1) j end k → k.left ≤ j.left
ends_left plan moved most r0 r1 w0 w1 j k Whole h =
    let same = ap (λ (x : Kept). x.left) h.1.same in omega (arith, same)
ends_left plan moved most r0 r1 w0 w1 j k (Answered outcome) h =
    step_left (was_asked moved j.ahead) (plan.ask moved) r0 r1 w0 w1 j k (Ok h.1.answer) h.1.asked
ends_left plan moved most r0 r1 w0 w1 j k (Faulted told) h =
    step_left (was_asked moved j.ahead) (plan.ask moved) r0 r1 w0 w1 j k (Err h.1.f) h.1.asked

row_left : (plan : RowPlan) (most : ℕ) (r0 r1 : Pipe) (w0 w1 : OutPipe) (j k : Kept)
    (done : RowDone) (got : List ℕ) → RowBy plan most (streams r0 r1 w0 w1) j done got k
    → k.left ≤ j.left
row_left plan most r0 r1 w0 w1 j k done got h =
    let so = heard_left plan r0 w0 j done.moved got h.mid h.between h.kept h.heard in
    let end = ends_left plan done.moved most h.mid r1 h.between w1 h.kept k done.end h.ends in
    omega (arith, so, end)

ins_made : {st : Stage} {o : Owed} {host : LiveHost} {m : ℕ} {u : Pipe} {b : OutPipe}
    (r0 r1 : Pipe) (w0 w1 : OutPipe) (j k : Kept) (to : Destination) (first : Toggle) (most : ℕ)
    (done : RowDone) (got : List ℕ) → CourseTo st o host m u b r0 w0 j → j.fault ≡ None
    → InsByLine to first most (streams r0 r1 w0 w1) j done got k
    → CourseTo Asks o host m u b r1 w1 k
ins_made r0 r1 w0 w1 j k to first most done got c sound h =
    let less = row_left (ins_plan j.rows to first most) most r0 r1 w0 w1 j k done got h in
    let few = c.few in
    let numbered = c.numbered in
    record {
      asked = c.asked + (j.left - k.left);
      course = LiveCourse.ins to first most done got (j.left - k.left) c.course sound h
          (omega (arith, less));
      few = omega (arith, less, few);
      numbered = omega (arith, numbered);
      at = tt;
    }

outs_made : {st : Stage} {o : Owed} {host : LiveHost} {m : ℕ} {u : Pipe} {b : OutPipe}
    (r0 r1 : Pipe) (w0 w1 : OutPipe) (j k : Kept) (to : Destination) (first : Toggle)
    (total : List ℕ) (done : RowDone) → CourseTo st o host m u b r0 w0 j → j.fault ≡ None
    → OutsByLine to first total (streams r0 r1 w0 w1) j done k → CourseTo Asks o host m u b r1 w1 k
outs_made r0 r1 w0 w1 j k to first total done c sound h =
    let less = row_left (outs_plan j.rows to first total) (div_ceil (length total) to.max) r0 r1 w0
    w1 j k done h.0 h.1 in
    let few = c.few in
    let numbered = c.numbered in
    record {
      asked = c.asked + (j.left - k.left);
      course = LiveCourse.outs to first total done (j.left - k.left) c.course sound h
          (omega (arith, less));
      few = omega (arith, less, few);
      numbered = omega (arith, numbered);
      at = tt;
    }

-- ---- one call, of a bus that may have a fault

-- behind a fault nothing goes on
by_fault : {R W : Type 0} (rem : R → Option (List ℕ))
    (con : W → Option (List ℕ)) (host : LiveHost) (m : ℕ)
    (u : Pipe) (b : OutPipe) (old new : StreamBus R W) (st : Stage)
    (ow : Owed) (o : Option LiveFault) → (kept_of old).fault ≡ o
    → ((f : LiveFault) → (kept_of old).fault ≡ Some f → new ≡ old)
    → ((kept_of old).fault ≡ None → CourseTo Asks ow host m u b (unread_of rem new)
    (written_of con new) (kept_of new))
    → CourseTo st ow host m u b (unread_of rem old) (written_of con old) (kept_of old)
    → CourseTo Asks ow host m u b (unread_of rem new) (written_of con new) (kept_of new)
by_fault {R} {W} rem con host m u b old new st ow (Some f) is same on c =
    subst (λ (x : StreamBus R W). CourseTo Asks ow host m u b (unread_of rem x) (written_of con x)
    (kept_of x)) (sym (same f is)) (on_asks c)
by_fault rem con host m u b old new st ow None is same on c = on is

pub attempt_on : {R W : Type 0} (rem : R → Option (List ℕ)) (con : W → Option (List ℕ))
    (host : LiveHost) (m : ℕ)
    (u : Pipe) (b : OutPipe) (old new : StreamBus R W) (st : Stage)
    (ow : Owed) (a : Attempt) (result : Result Outcome BusFault)
    → ((f : LiveFault) → (kept_of old).fault ≡ Some f → (result ≡ Err (bus_fault f)) × (new ≡ old))
    → ((kept_of old).fault ≡ None → AttemptsByLine a
    (streams (unread_of rem old) (unread_of rem new) (written_of con old)
    (written_of con new)) (kept_of old) result (kept_of new))
    → CourseTo st ow host m u b (unread_of rem old) (written_of con old) (kept_of old)
    → CourseTo Asks ow host m u b (unread_of rem new) (written_of con new) (kept_of new)
attempt_on rem con host m u b old new st ow a result again asks c =
    by_fault rem con host m u b old new st ow (kept_of old).fault refl (λ f e. (again f e).1)
    (λ e. attempts_on (unread_of rem old) (unread_of rem new) (written_of con old)
    (written_of con new) (kept_of old) (kept_of new) (question_for a)
    (destination_of a).max result (attempt_plain a) (attempt_single a) c e (asks e)) c

pub ins_on : {R W : Type 0} (rem : R → Option (List ℕ)) (con : W → Option (List ℕ))
    (host : LiveHost) (m : ℕ)
    (u : Pipe) (b : OutPipe) (old new : StreamBus R W) (st : Stage)
    (ow : Owed) (to : Destination) (first : Toggle) (most : ℕ) (done : RowDone) (got : List ℕ)
    → ((f : LiveFault) → (kept_of old).fault ≡ Some f → RefusesRow most f old done new)
    → ((kept_of old).fault ≡ None → InsByLine to first most
    (streams (unread_of rem old) (unread_of rem new) (written_of con old)
    (written_of con new)) (kept_of old) done got (kept_of new))
    → CourseTo st ow host m u b (unread_of rem old) (written_of con old) (kept_of old)
    → CourseTo Asks ow host m u b (unread_of rem new) (written_of con new) (kept_of new)
ins_on rem con host m u b old new st ow to first most done got again asks c =
    by_fault rem con host m u b old new st ow (kept_of old).fault refl (λ f e. (again f e).0)
    (λ e. ins_made (unread_of rem old) (unread_of rem new) (written_of con old) (written_of con new)
    (kept_of old) (kept_of new) to first most done got c e (asks e)) c

pub outs_on : {R W : Type 0} (rem : R → Option (List ℕ)) (con : W → Option (List ℕ))
    (host : LiveHost) (m : ℕ)
    (u : Pipe) (b : OutPipe) (old new : StreamBus R W) (st : Stage)
    (ow : Owed) (to : Destination) (first : Toggle) (total : List ℕ) (done : RowDone)
    → ((f : LiveFault) → (kept_of old).fault ≡ Some f
    → RefusesRow (length total) f old done new)
    → ((kept_of old).fault ≡ None → OutsByLine to first total
    (streams (unread_of rem old) (unread_of rem new) (written_of con old)
    (written_of con new)) (kept_of old) done (kept_of new))
    → CourseTo st ow host m u b (unread_of rem old) (written_of con old) (kept_of old)
    → CourseTo Asks ow host m u b (unread_of rem new) (written_of con new) (kept_of new)
outs_on rem con host m u b old new st ow to first total done again asks c =
    by_fault rem con host m u b old new st ow (kept_of old).fault refl (λ f e. (again f e).0)
    (λ e. outs_made (unread_of rem old) (unread_of rem new) (written_of con old)
    (written_of con new) (kept_of old) (kept_of new) to first total done c e (asks e)) c

beyond_or : (p roots : ℕ) {T : Type 0} → (1 ≤ suc p → suc p ≤ roots → T) → (roots < suc p → T)
    → (roots < suc p) ⊎ (suc p ≤ roots) → T
beyond_or p roots one beyond (inl more) = beyond more
beyond_or p roots one beyond (inr most) = one (omega arith) most

-- a port is none, or one that there is, or none again
port_within_roots : (port roots : ℕ) {T : Type 0} → (port ≡ 0 → T) → (1 ≤ port → port ≤ roots → T)
    → (roots < port → T) → T
port_within_roots zero roots none one beyond = none refl
port_within_roots (suc p) roots none one beyond =
    beyond_or p roots one beyond (cases_lt roots (suc p))

calls_by : {st : Stage} {o : Owed} {host : LiveHost} {m : ℕ} {u : Pipe} {b : OutPipe}
    (r0 r1 : Pipe) (w0 w1 : OutPipe) (j k : Kept) (port : ℕ) (call : Option PortCall)
    → CourseTo st o host m u b r0 w0 j → j.fault ≡ None → Calls port call (streams r0 r1 w0 w1) j k
    → CourseTo Asks o host m u b r1 w1 k
calls_by r0 r1 w0 w1 j k port None c sound h = course_nothing_asked r0 r1 w0 w1 j k c h
calls_by r0 r1 w0 w1 j k port (Some call) c sound h =
    port_within_roots port j.roots (λ e. course_nothing_asked r0 r1 w0 w1 j k c (h.1 e))
    (λ least most. let one = h.0 least most in asked_on r0 r1 w0 w1 j k (Port port call) one.result
    c sound refl refl one.asked)
    (λ beyond. course_nothing_asked r0 r1 w0 w1 j k c (h.2 beyond))

pub call_on : {R W : Type 0} (rem : R → Option (List ℕ))
    (con : W → Option (List ℕ)) (host : LiveHost) (m : ℕ)
    (u : Pipe) (b : OutPipe) (old new : StreamBus R W) (st : Stage)
    (ow : Owed) (port : ℕ) (call : Option PortCall) → ((kept_of old).fault ≢ None → new ≡ old)
    → ((kept_of old).fault ≡ None → Calls port call
    (streams (unread_of rem old) (unread_of rem new) (written_of con old)
    (written_of con new)) (kept_of old) (kept_of new))
    → CourseTo st ow host m u b (unread_of rem old) (written_of con old) (kept_of old)
    → CourseTo Asks ow host m u b (unread_of rem new) (written_of con new) (kept_of new)
call_on rem con host m u b old new st ow port call again asks c =
    by_fault rem con host m u b old new st ow (kept_of old).fault refl
    (λ f e. again (λ none. let clash : Some f ≡ None = sym e ∙ none in cc))
    (λ e. calls_by (unread_of rem old) (unread_of rem new) (written_of con old) (written_of con new)
    (kept_of old) (kept_of new) port call c e (asks e)) c

pub restart_on : {R W : Type 0} (rem : R → Option (List ℕ)) (con : W → Option (List ℕ))
    (host : LiveHost) (m : ℕ)
    (u : Pipe) (b : OutPipe) (old new : StreamBus R W) (st : Stage)
    (ow : Owed) (address number : ℕ) (is_in : Bool) → ((kept_of old).fault ≢ None → new ≡ old)
    → ((kept_of old).fault ≡ None → Restarts address number is_in
    (streams (unread_of rem old) (unread_of rem new) (written_of con old)
    (written_of con new)) (kept_of old) (kept_of new))
    → CourseTo st ow host m u b (unread_of rem old) (written_of con old) (kept_of old)
    → CourseTo Asks ow host m u b (unread_of rem new) (written_of con new) (kept_of new)
restart_on rem con host m u b old new st ow address number is_in again asks c =
    by_fault rem con host m u b old new st ow (kept_of old).fault refl
    (λ f e. again (λ none. let clash : Some f ≡ None = sym e ∙ none in cc))
    (λ e. let one = asks e in
    asked_on (unread_of rem old) (unread_of rem new) (written_of con old) (written_of con new)
    (kept_of old) (kept_of new) (restart_of address number is_in) one.result c e refl refl
    one.asked) c

-- ---- what is wanted, and what is told

waits_by : {st : Stage} {host : LiveHost} {m : ℕ} {u : Pipe} {b : OutPipe} (r0 r1 : Pipe)
    (w0 w1 : OutPipe) (j k : Kept) (result : Result Answer LiveFault)
    → CourseTo st owed.Nothing host m u b r0 w0 j → j.fault ≡ None
    → AsksOnce Wait (streams r0 r1 w0 w1) j result k
    → CourseTo (stage_behind_answer result) (owed_by result) host m u b r1 w1 k
unfolding wanted_on
waits_by r0 r1 w0 w1 j k (Ok answer.End) c sound h =
    let on = wanted_on r0 r1 w0 w1 j k (Ok answer.End) c sound h in
    record {
      asked = on.asked;
      course = on.course;
      few = on.few;
      numbered = on.numbered;
      at = record {
        r = r0;
        w = w0;
        j = j;
        m = c.asked;
        course = c.course;
        sound = sound;
        ended = h;
        one = refl;
      };
    }
waits_by r0 r1 w0 w1 j k result c sound h = wanted_on r0 r1 w0 w1 j k result c sound h

pub nothing_is : (o : Owed) → is_nothing o ≡ true → o ≡ owed.Nothing
nothing_is owed.Nothing h = refl
nothing_is _ h = cc

-- behind a fault it is told again, and the stage is as at any other answer
pub wait_on : {R W : Type 0} (rem : R → Option (List ℕ))
    (con : W → Option (List ℕ)) (host : LiveHost) (m : ℕ)
    (u : Pipe) (b : OutPipe) (old new : StreamBus R W) (st : Stage)
    (result : Result Answer LiveFault) (o : Option LiveFault) → (kept_of old).fault ≡ o
    → ((f : LiveFault) → (kept_of old).fault ≡ Some f → (result ≡ Err f) × (new ≡ old))
    → ((kept_of old).fault ≡ None → AsksOnce Wait
    (streams (unread_of rem old) (unread_of rem new) (written_of con old)
    (written_of con new)) (kept_of old) result (kept_of new))
    → CourseTo st owed.Nothing host m u b (unread_of rem old) (written_of con old) (kept_of old)
    → CourseTo (stage_behind_answer result) (owed_by result) host m u b (unread_of rem new)
    (written_of con new) (kept_of new)
wait_on {R} {W} rem con host m u b old new st result (Some f) is again asks c =
    let (told, same) = again f is in
    subst (λ (a : Result Answer LiveFault). CourseTo (stage_behind_answer a) (owed_by a) host m u b
    (unread_of rem new) (written_of con new) (kept_of new)) (sym told)
    (subst (λ (x : StreamBus R W). CourseTo Asks owed.Nothing host m u b (unread_of rem x)
    (written_of con x) (kept_of x)) (sym same) (on_asks c))
wait_on rem con host m u b old new st result None is again asks c =
    waits_by (unread_of rem old) (unread_of rem new) (written_of con old) (written_of con new)
    (kept_of old) (kept_of new) result c is (asks is)

told_on : {st : Stage} {o : Owed} {host : LiveHost} {m : ℕ} {u : Pipe} {b : OutPipe} (r : Pipe)
    (w0 w1 : OutPipe) (j k : Kept) (item : Item) (result : Result (Unit {0}) LiveFault)
    → CourseTo st o host m u b r w0 j → j.fault ≡ None → k.left ≡ j.left → settles o item ≡ true
    → IsShown (usual_options host.wide) item
    → WritesLines (told_text (number_of item m) item) w0 w1 j result k
    → CourseTo Asks (owed_left o result) host (listed m item result) u b r w1 k
told_on {st} {o} {host} {m} r w0 w1 j k item result c sound same fits shown h = record {
  asked = c.asked;
  course = LiveCourse.told item result c.course sound fits shown h;
  few = ap (λ (n : ℕ). c.asked + n) same ∙ c.few;
  numbered = owes_told o item m c.asked result fits c.numbered;
  at = tt;
}

-- none of the questions is used
same_left : (lines : List ℕ) (w0 w1 : OutPipe) (j : Kept)
    (result : Result (Unit {0}) LiveFault) (k : Kept) → WritesLines lines w0 w1 j result k
    → k.left ≡ j.left
same_left lines w0 w1 j (Ok done) k h = ap (λ (x : Kept). x.left) h.1
same_left lines w0 w1 j (Err f) k h = ap (λ (x : Kept). x.left) h.2

course_tells : {o : Owed} {host : LiveHost} {m : ℕ} {u : Pipe} {b : OutPipe} (st : Stage) (r : Pipe)
    (w0 w1 : OutPipe) (j k : Kept) (item : Item) (done : Unit {0})
    → CourseTo st o host m u b r w0 j → j.fault ≡ None → settles o item ≡ true
    → IsShown (usual_options host.wide) item
    → WritesLines (told_text (number_of item m) item) w0 w1 j (Ok done) k
    → CourseTo (stage_behind st item) owed.Nothing host (number_of item m) u b r w1 k
unfolding told_on
course_tells {o} {host} {m} Asks r w0 w1 j k item done c sound fits shown h =
    told_on r w0 w1 j k item (Ok done) c sound
    (same_left (told_text (number_of item m) item) w0 w1 j (Ok done) k h) fits shown h
course_tells {o} {host} {m} Over r w0 w1 j k item done c sound fits shown h =
    told_on r w0 w1 j k item (Ok done) c sound
    (same_left (told_text (number_of item m) item) w0 w1 j (Ok done) k h) fits shown h
course_tells {o} {host} {m} EndWanted r w0 w1 j k (Listing entries taken said) done c sound
    fits shown h
    =
    let same = same_left (told_text (m + 1) (Listing entries taken said)) w0 w1 j (Ok done) k h in
    let on = told_on r w0 w1 j k (Listing entries taken said) (Ok done) c sound same fits shown h in
    record {
      asked = on.asked;
      course = on.course;
      few = on.few;
      numbered = on.numbered;
      at = record {
        count = m;
        w = w0;
        j = j;
        wanted = c.at;
        entries = entries;
        shown = shown.0;
        listed = subst (λ (s : List (List ℕ)).
            WritesLines (lines_text (listing_lines (m + 1) entries s)) w0 w1 j (Ok done) k)
            shown.1 h;
      };
    }
course_tells {o} {host} {m} EndWanted r w0 w1 j k item done c sound fits shown h =
    told_on r w0 w1 j k item (Ok done) c sound
    (same_left (told_text (number_of item m) item) w0 w1 j (Ok done) k h) fits shown h

-- an item was told well; the reader stays
pub tell_on : {R W : Type 0} (rem : R → Option (List ℕ))
    (con : W → Option (List ℕ)) (host : LiveHost) (m : ℕ)
    (u : Pipe) (b : OutPipe) (old new : StreamBus R W) (st : Stage)
    (ow : Owed) (item : Item) (text : List ℕ) (result : Result (Unit {0}) LiveFault)
    (o : Option LiveFault)
    → is_ok result ≡ true → text ≡ told_text (number_of item m) item → settles ow item ≡ true
    → IsShown (usual_options host.wide) item → (kept_of old).fault ≡ o
    → ((f : LiveFault) → (kept_of old).fault ≡ Some f → (result ≡ Err f) × (new ≡ old))
    → unread_of rem new ≡ unread_of rem old
    → ((kept_of old).fault ≡ None → WritesLines text (written_of con old) (written_of con new)
    (kept_of old) result (kept_of new))
    → CourseTo st ow host m u b (unread_of rem old) (written_of con old) (kept_of old)
    → CourseTo (stage_behind st item) owed.Nothing host (number_of item m) u b (unread_of rem new)
    (written_of con new) (kept_of new)
tell_on rem con host m u b old new st ow item text (Err e) o ok spelled fits shown is again reader
    told c = cc
tell_on rem con host m u b old new st ow item text (Ok done) (Some f) ok spelled fits shown is
    again reader told c = let (clash, same) = again f is in cc
tell_on rem con host m u b old new st ow item text (Ok done) None ok spelled fits shown is again
    reader told c =
    let so = subst (λ (t : List ℕ). WritesLines t (written_of con old) (written_of con new)
    (kept_of old) (Ok done) (kept_of new)) spelled (told is) in
    subst (λ (r : Pipe). CourseTo (stage_behind st item) owed.Nothing host (number_of item m) u b r
    (written_of con new) (kept_of new)) (sym reader)
    (course_tells st (unread_of rem old) (written_of con old) (written_of con new) (kept_of old)
    (kept_of new) item done c is fits shown so)

-- the writer failed, and what is owed is owed still
tells_off : {st : Stage} {o : Owed} {host : LiveHost} {m : ℕ} {u : Pipe} {b : OutPipe} (r : Pipe)
    (w0 w1 : OutPipe) (j k : Kept) (item : Item)
    (result : Result (Unit {0}) LiveFault) → is_ok result ≡ false
    → CourseTo st o host m u b r w0 j → j.fault ≡ None → settles o item ≡ true
    → IsShown (usual_options host.wide) item
    → WritesLines (told_text (number_of item m) item) w0 w1 j result k
    → CourseTo Asks o host m u b r w1 k
tells_off r w0 w1 j k item (Ok done) bad c sound fits shown h = cc
tells_off {st} {o} {host} {m} r w0 w1 j k item (Err f) bad c sound fits shown h =
    told_on r w0 w1 j k item (Err f) c sound
    (same_left (told_text (number_of item m) item) w0 w1 j (Err f) k h) fits shown h

-- an item was told, or a front of it
pub tell_off : {R W : Type 0} (rem : R → Option (List ℕ))
    (con : W → Option (List ℕ)) (host : LiveHost) (m : ℕ)
    (u : Pipe) (b : OutPipe) (old new : StreamBus R W) (st : Stage)
    (ow : Owed) (item : Item) (text : List ℕ) (result : Result (Unit {0}) LiveFault)
    → is_ok result ≡ false → text ≡ told_text (number_of item m) item → settles ow item ≡ true
    → IsShown (usual_options host.wide) item
    → ((f : LiveFault) → (kept_of old).fault ≡ Some f → (result ≡ Err f) × (new ≡ old))
    → unread_of rem new ≡ unread_of rem old
    → ((kept_of old).fault ≡ None → WritesLines text (written_of con old) (written_of con new)
    (kept_of old) result (kept_of new))
    → CourseTo st ow host m u b (unread_of rem old) (written_of con old) (kept_of old)
    → CourseTo Asks ow host m u b (unread_of rem new) (written_of con new) (kept_of new)
tell_off rem con host m u b old new st ow item text result bad spelled fits shown again reader told
    c =
    by_fault rem con host m u b old new st ow (kept_of old).fault refl (λ f is. (again f is).1)
    (λ is. let so = subst (λ (t : List ℕ). WritesLines t (written_of con old) (written_of con new)
    (kept_of old) result (kept_of new)) spelled (told is) in
    subst (λ (r : Pipe). CourseTo Asks ow host m u b r (written_of con new) (kept_of new))
    (sym reader)
    (tells_off (unread_of rem old) (written_of con old) (written_of con new) (kept_of old)
    (kept_of new) item result bad c is fits shown so)) c

-- the number of one listing more has room
number_fits : (count n left limit owing : ℕ) → owing ≡ 1 → count + owing ≤ n → n + left ≡ limit
    → limit < 2 ^ 64 → count + 1 < 2 ^ 64
number_fits count n left limit owing one few all bound = omega (arith, one, few, all, bound)

pub has_number : {st : Stage} {o : Owed} {host : LiveHost} {m : ℕ} {u r : Pipe} {b w : OutPipe}
    {k : Kept} (item : Item) → settles o item ≡ true → host.limit < 2 ^ 64
    → ∥ CourseTo st o host m u b r w k ∥₁ → m + 1 < 2 ^ 64
has_number {st} {o} {host} {m} {u} {r} {b} {w} {k} item fits bound course =
    elim (cases_lt (m + 1) (2 ^ 64)) [
      | inl less ↦ less
      | inr more ↦ absurd (not_there course (λ c. let less = number_fits m c.asked k.left host.limit
          (owes o) (owes_one o item fits) c.numbered c.few bound in omega (arith, less, more)))
    ]

-- ---- the hello

-- it uses none of the questions
left_if : (few many : Bool) (k new : Kept) → new.left ≡ k.left
    → (if few then k else if many then k else new).left ≡ k.left
left_if true many k new same = refl
left_if false true k new same = refl
left_if false false k new same = same

left_roots : (roots : ℕ) (k : Kept) → (roots_if roots k).left ≡ k.left
left_roots roots k = left_if (nat_lt roots 1) (nat_lt 7 roots) k (record k { roots = roots }) refl

left_greeted : (result : Result Answer LiveFault) (k : Kept) → (greeted result k).left ≡ k.left
left_greeted (Ok (answer.Roots roots)) k = left_roots roots k
left_greeted (Ok (answer.RootsAndRows roots)) k = left_roots roots k
left_greeted (Ok _) k = refl
left_greeted (Err f) k = refl

greeted_course : {host : LiveHost} (u r : Pipe) (b w : OutPipe) (mid : Kept)
    (result : Result Answer LiveFault)
    → AsksOnce Hello (streams u r b w) (unasked host.wide host.limit) result mid
    → CourseTo Asks owed.Nothing host 0 u b r w (greeted result mid)
greeted_course {host} u r b w mid result h =
    let fewer = left_behind Hello u r b w (unasked host.wide host.limit) result mid h in
    let same = left_greeted result mid in
    record {
      asked = questions_in result;
      course = LiveCourse.opened mid result h;
      few = omega (arith, fewer, same);
      numbered = omega arith;
      at = tt;
    }

pub opens : {host : LiveHost} (u r : Pipe) (b w : OutPipe) (k : Kept)
    → SaysHello host.wide host.limit (streams u r b w)
    k
    → CourseTo Asks owed.Nothing host 0 u b r w k
opens {host} u r b w k h = subst (λ (x : Kept). CourseTo Asks owed.Nothing host 0 u b r w x)
    (sym h.kept) (greeted_course u r b w h.mid h.result h.asked)

-- ---- the end

ends_as : {st : Stage} {o : Owed} {host : LiveHost} {m : ℕ} {u r : Pipe} {b w : OutPipe} {k : Kept}
    (fault : Option LiveFault) (lines left : ℕ)
    (ended : Result (Unit {0}) LiveEnd) → fault ≡ k.fault → lines ≡ k.lines → left ≡ k.left
    → EndsBy fault lines left st ended → (c : CourseTo st o host m u b r w k)
    → EndsLiveAs ended host u b r w k c.asked
ends_as {st} {o} {host} {m} {u} {r} {b} {w} {k} fault lines left (Ok done) is same none by c =
    subst (λ (s : Stage). StandsAtStage s host m u b r w k c.asked) by.1 c.at
ends_as fault lines left (Err (Line number f)) is same none by c = (sym is ∙ by.0, by.1 ∙ same)
ends_as fault lines left (Err (Rounds number)) is same none by c =
    let few = c.few in
    let all = by.2 in
    (sym is ∙ by.0, by.1 ∙ same, omega (arith, few, none, all))
ends_as fault lines left (Err Memory) is same none by c = sym is ∙ by

pub lives : {st : Stage} {o : Owed} {host : LiveHost} {m : ℕ} {u r : Pipe} {b w : OutPipe}
    {k : Kept} (fault : Option LiveFault) (lines left : ℕ)
    (ended : Result (Unit {0}) LiveEnd) → fault ≡ k.fault → lines ≡ k.lines → left ≡ k.left
    → EndsBy fault lines left st ended → CourseTo st o host m u b r w k
    → Lives host u r b w ended
lives {st} {o} {host} {m} {u} {r} {b} {w} {k} fault lines left ended is same none by c =
    let few = c.few in
    record {
      asked = c.asked;
      kept = k;
      owes = o;
      listings = m;
      course = c.course;
      few = omega (arith, few);
      ends = ends_as fault lines left ended is same none by c;
    }
