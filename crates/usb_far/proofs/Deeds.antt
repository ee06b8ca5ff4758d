-- What is done at a question, from what the bus did.
use Rattle.std.proofs.Common.{◌≡◌, ◌∙◌, ℕ, ◌+◌, ◌<◌, Bool, true, false, List, [], ◌∷◌, ◌++◌, length}
use Rattle.std.proofs.Common.{map, take, Option, Some, None, Ok, refl, sym, ap, ap₂, subst}
use Rattle.std.proofs.Common.{slice_index_or}
use Rattle.std.proofs.KnownBytes.{Appends-nil}
use Rattle.std.proofs.lemmas.Bool.{false≢true}
use Rattle.std.proofs.lemmas.List.{map-append, take_more}
use Rattle.std.specs.Prelude.{IfSome, IsSome, OnErr, OnOk, Result}
use Rattle.usb_sim.specs.{answered_in}
use Rattle.std.specs.Io.KnownBytes.{Appends}
use Rattle.usb_port.specs.{PortState, off, status_of, PortCall}
use Rattle.usb_world.specs.declared.event.Ask.{Ask}
use Rattle.usb_world.specs.{Attempt, BusFault, Outcome, PutLine, World, roots_of, EventEnds, after}
use Rattle.usb_world.specs.{attempt, event}
use Rattle.usb_world.specs.{outcome_in, root_call}
use Rattle.usb_bus.specs.{lines_between, next_due, step_lines, Attempts, TakesEvent}
use Rattle.usb_watch.specs.{AppendsFront}
use Rattle.usb_wire.specs.{Answer, Answered, Asked, Done, RootsAndRows, Question}
use Rattle.usb_wire.specs.{kind_asked}
use Rattle.usb_wire.specs.declared.question.Question.TheVariants.{Hello}
use Rattle.usb_far.specs.{LongSend, Far, IsDone, Played, SendsTooMuch, attempt_done, call_done}
use Rattle.usb_far.specs.{answer_in, came_of, done, due_wanted, hello_done, is_poll, outcome_answer}
use Rattle.usb_far.specs.{part_wanted, restart_done, sending_in, unseen_in, wait_done, wanted_done}
use Rattle.usb_far.specs.{FarFault, PutsLine, bus_told, ChangesTold, Replied, Replies, ToSend}
use Rattle.usb_far.specs.{Wanted, far_done, line_of, may_ask, rest_behind, status_lines}
use Rattle.usb_far.specs.{told_behind}
use Rattle.usb_far.specs.declared.far_end.Phase.TheVariants.{Asks}

pub played_attempt : (a : Attempt) (old new : Played) (o : Outcome) (answer : Answer)
    (poll unseen : Bool) (before : ℕ)
    → Attempts a old.far.world old.trace.bytes (Ok o) new.far.world new.trace.bytes
    → answer ≡ outcome_answer o → poll ≡ is_poll a o → before ≡ old.far.world.taken
    → unseen ≡ unseen_in poll old.far.unseen before new.far.world
    → new.far ≡ record old.far { world = new.far.world; unseen = unseen }
    → new.answered ≡ answered_in a old.far.world → IsDone (attempt_done a old.far) old answer new
unfolding attempt_done
played_attempt a old new o answer poll unseen before made told polled then is far heard_all =
    let f = old.far in
    let world : new.far.world ≡ after (attempt a) f.world = made.exact in
    let heard : o ≡ outcome_in a f.world = made.outcome in
    let polled_in : poll ≡ is_poll a (outcome_in a f.world) = polled
    ∙ ap (is_poll a) heard in
    let same : unseen ≡ unseen_in (is_poll a (outcome_in a f.world)) f.unseen f.world.taken
    (after (attempt a) f.world) =
    is ∙ ap (λ p. unseen_in p f.unseen before new.far.world) polled_in
    ∙ ap (λ t. unseen_in (is_poll a (outcome_in a f.world)) f.unseen t new.far.world) then
    ∙ ap (unseen_in (is_poll a (outcome_in a f.world)) f.unseen f.world.taken) world in
    record {
      answered = sym (ap Some (told ∙ ap outcome_answer heard));
      made = λ _. sym (ap (λ v. v.fault) world) ∙ made.counts.ends.still;
      far = far ∙ ap₂ (λ v b. record f { world = v; unseen = b }) world same;
      traced = subst (λ v. Appends old.trace.bytes new.trace.bytes (step_lines a f.world v)) world
          made.text;
      heard = heard_all;
    }

-- ---- waits

pub nothing_wanted : (old new : Played) → old.far.unseen ≡ true
    → new.far ≡ record old.far { unseen = false } → new.trace ≡ old.trace
    → IsDone (wait_done old.far) old Done new
unfolding wait_done
nothing_wanted old new unseen far same = rw unseen (record {
  answered = refl;
  made = λ (by : false ≡ true). absurd (false≢true by);
  far = far;
  traced = subst (λ t. Appends old.trace.bytes t.bytes []) (sym same) (Appends-nil old.trace.bytes);
  heard = tt;
})

wanted_due : (f : Far) (sending : Option ToSend) → f.unseen ≡ false → f.sending ≡ sending
    → wait_done f ≡ wanted_done sending f.world
unfolding wait_done
wanted_due f sending unseen is = rw (unseen, is) refl

pub part_went : (old new : Played) (s : ToSend) (w : Wanted) → old.far.unseen ≡ false
    → old.far.sending ≡ Some s → w ≡ part_wanted s
    → new.far ≡ record old.far { sending = w.sending } → new.trace ≡ old.trace
    → IsDone (wait_done old.far) old w.answer new
part_went old new s w unseen is part far same =
    subst (λ d. IsDone d old w.answer new) (sym (wanted_due old.far (Some s) unseen is)) (record {
      answered = ap (λ v. Some v.answer) (sym part);
      made = λ (by : false ≡ true). absurd (false≢true by);
      far = far ∙ ap₂ (λ u v. record old.far { unseen = u; sending = v }) unseen
          (ap (λ v. v.sending) part);
      traced = subst (λ t. Appends old.trace.bytes t.bytes []) (sym same)
          (Appends-nil old.trace.bytes);
      heard = tt;
    })

event_ends-no_fault : (w v : World) (due : Option (Option Ask)) → EventEnds w (Ok due) v
    → v.fault ≡ None
event_ends-no_fault w v None ends = ap (λ u. u.fault) ends.same ∙ ends.sound
event_ends-no_fault w v (Some due) ends = ends.still

pub event_wanted : (old new : Played) (due : Option (Option Ask)) (w : Wanted)
    → old.far.unseen ≡ false → old.far.sending ≡ None
    → TakesEvent old.far.world old.trace.bytes (Ok due) new.far.world new.trace.bytes
    → due_wanted due ≡ Some w
    → new.far ≡ record old.far { world = new.far.world; sending = w.sending }
    → IsDone (wait_done old.far) old w.answer new
event_wanted old new due w unseen none takes told far =
    let is : due_wanted (next_due old.far.world) ≡ Some w =
    ap due_wanted (sym takes.asked) ∙ told in
    subst (λ d. IsDone d old w.answer new) (sym (wanted_due old.far None unseen none)) (record {
      answered = ap answer_in is;
      made = λ _. sym (ap (λ v. v.fault) takes.exact)
          ∙ event_ends-no_fault old.far.world new.far.world due takes.took.ends;
      far = far ∙ ap₂ (λ v u. record old.far { world = v; unseen = u; sending = w.sending })
          takes.exact unseen
          ∙ ap (λ s. record old.far {
            world = after event old.far.world;
            unseen = false;
            sending = s;
          }) (sym (ap sending_in is));
      traced = subst (λ v. Appends old.trace.bytes new.trace.bytes (lines_between old.far.world v))
          takes.exact takes.text;
      heard = tt;
    })

pub too_much_wanted : (old new : Played) (due : Option (Option Ask)) → old.far.unseen ≡ false
    → old.far.sending ≡ None
    → TakesEvent old.far.world old.trace.bytes (Ok due) new.far.world new.trace.bytes
    → due_wanted due ≡ None
    → new.far ≡ record old.far { world = new.far.world; sending = None }
    → SendsTooMuch old LongSend new
too_much_wanted old new due unseen none takes told far =
    let is = wanted_due old.far None unseen none in record {
      is = refl;
      made = λ _. ap (λ d. d.world.fault) is ∙ sym (ap (λ v. v.fault) takes.exact)
          ∙ event_ends-no_fault old.far.world new.far.world due takes.took.ends;
      none = ap (λ d. d.answer) is
          ∙ ap answer_in (ap due_wanted (sym takes.asked) ∙ told);
      far = far ∙ ap₂ (λ v s. record old.far { world = v; sending = s })
          (takes.exact ∙ sym (ap (λ d. d.world) is)) (sym none);
      traced = subst (λ t. Appends old.trace.bytes new.trace.bytes t) (sym (ap (λ d. d.traced) is))
          (subst (λ v. Appends old.trace.bytes new.trace.bytes (lines_between old.far.world v))
          takes.exact takes.text);
    }

-- ---- other questions

pub port_called : (number : ℕ) (call : PortCall) (old new : Played)
    → new.far.world ≡ after (root_call call number) old.far.world
    → new.far ≡ record old.far { world = new.far.world; unseen = false }
    → new.trace.bytes ≡ old.trace.bytes → IsDone (call_done number call old.far) old Done new
unfolding call_done
port_called number call old new world far same = record {
  answered = refl;
  made = λ (by : false ≡ true). absurd (false≢true by);
  far = far ∙ ap (λ w. record old.far { world = w; unseen = false }) world;
  traced = subst (λ t. Appends old.trace.bytes t []) (sym same) (Appends-nil old.trace.bytes);
  heard = tt;
}

pub endpoint_restarted : (old new : Played) → new.far ≡ record old.far { unseen = false }
    → new.trace ≡ old.trace → IsDone (restart_done old.far) old Done new
unfolding restart_done
endpoint_restarted old new far same = record {
  answered = refl;
  made = λ (by : false ≡ true). absurd (false≢true by);
  far = far;
  traced = subst (λ t. Appends old.trace.bytes t.bytes []) (sym same) (Appends-nil old.trace.bytes);
  heard = tt;
}

pub hello_answered : (f : Played) (q : Question) (roots : ℕ) → q ≡ Hello
    → roots ≡ roots_of f.far.world → IsDone (done q f.far) f (RootsAndRows roots) f
unfolding hello_done
hello_answered f q roots is count =
    subst (λ r. IsDone (done r f.far) f (RootsAndRows roots) f) (sym is) (record {
      answered = sym (ap (λ n. Some (RootsAndRows n)) count);
      made = λ (by : false ≡ true). absurd (false≢true by);
      far = refl;
      traced = Appends-nil f.trace.bytes;
      heard = tt;
    })

-- what is done and told is a reply
pub made_reply : (q : Question) (a : Asked) (old mid new : Played) (answer : Answer)
    (said : List ℕ) (r : Replied) → may_ask old.far.phase q ≡ true
    → a ≡ kind_asked q → IsDone (done q old.far) old answer mid → ChangesTold a mid.far new.far said
    → r.lines.items ≡ said ++ line_of (Answered answer) → r.rest ≡ rest_behind q answer
    → r.came ≡ came_of answer → new.trace ≡ mid.trace → new.answered ≡ mid.answered
    → Replies q old r new
made_reply q a old mid new answer said r may kind d told is left came same kept =
    let far : mid.far ≡ far_done q old.far = d.far in
    record {
      replied = record {
        asks = may;
        answer = answer;
        answered = d.answered;
        made = d.made;
        far = told.far
            ∙ ap₂ (λ (f : Far) (k : Asked). record f { told = told_behind k f; phase = Asks }) far
            kind;
        is = is ∙ ap (λ s. s ++ line_of (Answered answer))
            (told.told ∙ ap₂ (λ (k : Asked) (f : Far). status_lines k f) kind far);
      };
      left = left;
      kind = came;
      traced = subst (λ t. Appends old.trace.bytes t.bytes (done q old.far).traced) (sym same)
          d.traced;
      heard = subst (λ n. IfSome (done q old.far).heard (λ count. n ≡ count)) (sym kept) d.heard;
    }

-- a line of report, from what the bus did
pub line_put : (line : List ℕ) (old new : Played) (result : Result (Unit {0}) FarFault)
    (bus : Result (Unit {0}) BusFault) → result ≡ bus_told bus
    → PutLine old.far.world bus new.far.world
    → AppendsFront old.trace.bytes new.trace.bytes (line ++ 10 ∷ [])
    → OnOk bus (Appends old.trace.bytes new.trace.bytes (line ++ 10 ∷ []))
    → (IsSome old.far.world.fault → new ≡ old)
    → (old.far.world.fault ≡ None → OnErr bus (new.trace.failed ≡ true))
    → new.far ≡ record old.far { world = new.far.world } → PutsLine line old result new
line_put line old new result bus is step front whole again failed far = record {
  bus = bus;
  is = is;
  step = step;
  front = front;
  whole = whole;
  again = again;
  failed = failed;
  far = far;
}

-- the statuses of one port more
pub status_more : (row : List PortState) (k : ℕ) (all : List (List ℕ)) (status : List ℕ)
    → k < length row → all ≡ map status_of (take k row)
    → status ≡ status_of (slice_index_or row k off)
    → all ++ status ∷ [] ≡ map status_of (take (k + 1) row)
status_more row k all status h so is =
    ap₂ (λ l s. l ++ s ∷ []) so is ∙ sym (ap (map status_of) (take_more row k off h)
    ∙ map-append status_of (take k row) (slice_index_or row k off ∷ []))
