-- What a host knows stays so over the parts of a run, and a host that has settled lists what is
-- plugged.
use Rattle.std.proofs.Common.{◌≡◌, ◌∙◌, refl, sym, ap, subst, Bool, false, ℕ, List, Option, None}
use Rattle.std.proofs.Common.{Some, Result, Ok, is_some}
use Rattle.usb_device.specs.{Ports}
use Rattle.usb_world.specs.declared.event.Ask.{Ask}
use Rattle.usb_world.specs.{Show, Look as LookAt, News as AskNews, pending, EventEnds}
use Rattle.usb_world.specs.{AtMostTwoRunning, World, roots_of, BusFault}
use Rattle.usb_hub.proofs.Interface.{event_keeps}
use Rattle.usb_enum.proofs.Interface.{course_later, few_before}
use Rattle.usb_table.specs.{Entries, IsListedPort}
use Rattle.usb_host.specs.{Agrees, HostFault, HostState, IsAtRest, IsFairTo, HostInvariant}
use Rattle.usb_host.specs.{KeepsInvariant, TransferTells, is_final}
use Rattle.usb_host.proofs.Interface.{accounted, settled_matches, sound_event, sound_none}
use Rattle.usb_run.specs.{Item, Mode, Arrives, Comes, Knows, LeavesSettled, Ran, idle, silent}
use Rattle.usb_run.specs.{Reaches, Rounds, none, more, Settled, Settles, AppendsText, Makes, asked}
use Rattle.usb_run.specs.{last, CallGives, CallTells, IsItemOf, begun as run_begun}
use Rattle.usb_run.specs.{told as run_told}
use Rattle.usb_run.specs.Transcript.{Transcript}
use Rattle.usb_run.proofs.AskedCalls.{AskAnswered, silent as no_item, listed, called, news}
use Rattle.usb_run.proofs.AskedCalls.{OnlyReported, all_reported, answered}
use Rattle.usb_run.proofs.courses.RunCourses.{RunsOnward, called_onward, comes_onward}
use Rattle.usb_run.proofs.courses.RunCourses.{settles_onward}
use Rattle.usb_run.proofs.courses.RunParts.{item_called, round_called, round_running, rounds_called}
use Rattle.usb_run.proofs.endings.Ends.{answered_goes}

-- Damage that is fair up to a last world is fair up to one before it, and from one behind the first

pub fair_before : (w m v : World) → RunsOnward m v → IsFairTo w v → IsFairTo w m
fair_before w m v on fair = let work = on fair.still in record {
  still = work.sound;
  few = fair.few;
  kept = few_before work.course fair.kept;
}

pub fair_after : (w m v : World) → RunsOnward w m → m.fault ≡ None → IsFairTo w v → IsFairTo m v
fair_after w m v on still fair = record {
  still = fair.still;
  few = rw (course_later (on still).course).damages fair.few;
  kept = fair.kept;
}

-- and from the first
fair_from : (w v : World) → RunsOnward w v → IsFairTo v v → IsFairTo w v
fair_from w v on fair = record {
  still = fair.still;
  few = subst AtMostTwoRunning (course_later (on fair.still).course).damages fair.few;
  kept = fair.kept;
}

pub stays_sound_then : (a b c : HostState) → RunsOnward a.world b.world → RunsOnward b.world c.world
    → KeepsInvariant a b → KeepsInvariant b c → KeepsInvariant a c
stays_sound_then a b c m n x y = record {
  options = y.options ∙ x.options;
  sound = λ s. y.sound (x.sound s);
  caused = λ s fair causes.
      let early = fair_before a.world b.world c.world n fair in
      y.caused (x.sound s) (fair_after a.world b.world c.world m early.still fair)
      (x.caused s early causes);
}

-- where a part keeps what is known
pub knows_then : (h k : HostState) → RunsOnward h.world k.world → KeepsInvariant h k → Knows h
    → Knows k
knows_then h k on stays s = record {
  sound = stays.sound s.sound;
  causes = λ fair.
      let all = fair_from h.world k.world on fair in
      let early = fair_before h.world h.world k.world on all in
      stays.caused s.sound all (s.causes early);
}

-- Rounds

rounds_stays : {a b : HostState} → Rounds a b → KeepsInvariant a b
rounds_stays {a} none = sound_none a
rounds_stays {a} (more {h} {k} round before tells goes) =
    stays_sound_then a h k (called_onward (rounds_called before))
    (called_onward (round_called tells)) (rounds_stays before) tells.keeps.sound.keeps.sound

pub settles_stays : {a b : HostState} → Settles a b → KeepsInvariant a b
settles_stays {a} {b} settles = stays_sound_then a settles.before b
    (called_onward (rounds_called settles.rounds)) (called_onward (round_called settles.last))
    (rounds_stays settles.rounds) settles.last.keeps.sound.keeps.sound

pub settles_knows : {a b : HostState} → Settles a b → Knows a → Knows b
settles_knows {a} {b} settles s = knows_then a b (settles_onward settles) (settles_stays settles) s

settles_rest : {a b : HostState} → Settles a b → HostInvariant a → b.world.fault ≡ None
    → IsAtRest b.world b.entries
settles_rest settles s still = settles.last.keeps.sound.rest ((rounds_stays settles.rounds).sound s)
    (ap Ok settles.ends.quiet) settles.ends.none still

-- a host that knows its ports and has nothing left to do has settled
settled_at : (h : HostState) → h.stopped ≡ false → Agrees h.options h.entries h.addresses → Knows h
    → (h.world.fault ≡ None → IsAtRest h.world h.entries) → Settled h
settled_at h running agrees knows rest = record {
  running = running;
  knows = knows;
  rest = rest;
  matches = λ fair.
      settled_matches h.options h.world h.entries h.addresses
      (accounted h agrees knows.sound.rooted)
      (knows.sound.known fair.still) (knows.sound.truthful fair.still) (knows.causes fair)
      (rest fair.still);
}

rounds_work : {a b : HostState} → Rounds a b → a.world.fault ≡ None → b.world.fault ≡ None
rounds_work none still = still
rounds_work (more round before tells other) still = tells.works (rounds_work before still)

pub settles_leaves : (a b : HostState) → Settles a b → LeavesSettled a b
settles_leaves a b settles = record {
  works = λ still. settles.last.works (rounds_work settles.rounds still);
  rest = settles_rest settles;
  settled = λ agrees s. settled_at b (round_running settles.last) agrees (settles_knows settles s)
      (settles_rest settles s.sound);
}

-- An event that came, and none that was left

pub arrival_sound : (h k : HostState) (due : Option (Option Ask)) → Comes h (Ok due) k
    → KeepsInvariant h k
arrival_sound h k due comes =
    let takes = comes.takes in
    sound_event h k comes.agrees (ap (λ (x : HostState). x.entries) comes.rests)
    (ap (λ (x : HostState). x.options) comes.rests) (ap (λ (x : HostState). x.pipes) comes.rests)
    takes.exact
    (event_keeps h.world (Ok due) k.world takes.took takes.exact takes.kept takes.cut
    (λ reached none. cc (ap is_some none, takes.limit reached)))

pub arrival_knows : (h k : HostState) (due : Option (Option Ask)) → Comes h (Ok due) k → Knows h
    → Knows k
arrival_knows h k due comes s = knows_then h k (comes_onward comes) (arrival_sound h k due comes) s

pub came_running : (h k : HostState) (due : Option (Option Ask)) → Comes h (Ok due) k
    → k.stopped ≡ h.stopped
came_running h k due comes = ap (λ (x : HostState). x.stopped) comes.rests

pub came_still : (due : Option (Option Ask)) (w v : World) → EventEnds w (Ok due) v → v.fault ≡ None
came_still None w v ends = ap (λ (x : World). x.fault) ends.same ∙ ends.sound
came_still (Some due) w v ends = ends.still

rest_moved : (w v : World) (entries : Entries) → v.roots ≡ w.roots → IsAtRest w entries
    → IsAtRest v entries
rest_moved w v entries same rest = record {
  none_pending = λ path port. subst (λ (k : Ports). pending k path ≡ false) (sym same)
      (rest.none_pending path (subst (λ (k : Ports). IsListedPort
      (roots_of (record w { roots = k })) entries path) same port));
  none_waiting = rest.none_waiting;
}

-- it has settled still where nothing that is plugged changed
pub arrival_settled : (h k : HostState) (due : Option (Option Ask)) → Comes h (Ok due) k
    → k.world.roots ≡ h.world.roots → Settled h → Settled k
arrival_settled h k due comes calm settled =
    let entries : k.entries ≡ h.entries = ap (λ (x : HostState). x.entries) comes.rests in
    let addresses : k.addresses ≡ h.addresses = ap (λ (x : HostState). x.addresses) comes.rests in
    let same_options : k.options ≡ h.options = ap (λ (x : HostState). x.options) comes.rests in
    settled_at k (came_running h k due comes ∙ settled.running)
    (subst (λ x. Agrees x k.entries k.addresses) (sym same_options)
    (subst (λ x. Agrees h.options x k.addresses) (sym entries)
    (subst (λ x. Agrees h.options h.entries x) (sym addresses) comes.agrees)))
    (arrival_knows h k due comes settled.knows)
    (λ still. subst (IsAtRest k.world) (sym entries)
    (rest_moved h.world k.world h.entries calm
    (settled.rest (comes_onward comes still).sound)))

-- Up to an event

pub arrives_knows : {a b : HostState} {due : Option (Option Ask)} → Arrives a (Ok due) b → Knows b
arrives_knows {a} {b} {due} arrives = arrival_knows arrives.mid b due arrives.comes
    arrives.settled.knows

pub ran_knows : {a b : HostState} → Ran a b → Knows a → Knows b
ran_knows idle s = s
ran_knows (silent due before arrives is) s = arrives_knows arrives

pub reaches_knows : {a b : HostState} {due : Option (Option Ask)} → Reaches a (Ok due) b → Knows b
reaches_knows reaches = arrives_knows reaches.arrives

pub reaches_running : {a b : HostState} {due : Option (Option Ask)} → Reaches a (Ok due) b
    → b.stopped ≡ false
reaches_running {b = b} {due = due} reaches =
    came_running reaches.arrives.mid b due reaches.arrives.comes ∙ reaches.arrives.settled.running

pub reaches_still : {a b : HostState} {due : Option (Option Ask)} → Reaches a (Ok due) b
    → b.world.fault ≡ None
reaches_still {b = b} {due = due} reaches =
    came_still due reaches.arrives.mid.world b.world reaches.arrives.comes.takes.took.ends

-- A host's options stay

arrives_options : {a b : HostState} {result : Result (Option (Option Ask)) BusFault}
    → Arrives a result b → b.options ≡ a.options
arrives_options arrives = ap (λ (x : HostState). x.options) arrives.comes.rests
    ∙ (settles_stays arrives.settles).options

ran_options : {a b : HostState} → Ran a b → b.options ≡ a.options
ran_options idle = refl
ran_options (silent due before arrives is) = arrives_options arrives ∙ ran_options before

reaches_options : {a b : HostState} {result : Result (Option (Option Ask)) BusFault}
    → Reaches a result b → b.options ≡ a.options
reaches_options reaches = arrives_options reaches.arrives ∙ ran_options reaches.ran

-- An item

transfer_keeps_sound : {A : Type 0} {most : ℕ} {Did : HostState → Result A HostFault → HostState
    → Type 0} {a b : HostState} {result : Result A HostFault} → TransferTells most Did a result b
    → KeepsInvariant a b
transfer_keeps_sound tells = tells.keeps.sound

reported_stays : (a b : HostState) → OnlyReported a b → KeepsInvariant a b
reported_stays a b only = subst (KeepsInvariant a) (sym only.1) (record {
  options = refl;
  sound = λ s. record {
    owned = s.owned;
    rooted = s.rooted;
    order = s.order;
    known = s.known;
    truthful = s.truthful;
    level = s.level;
  };
  caused = λ s fair causes. causes;
})

call_stays : (ask : Ask) {a b : HostState} (result : Result (CallGives ask) HostFault)
    → CallTells ask a result b → is_final result ≡ false → KeepsInvariant a b
call_stays (Show said) result tells goes = absurd tells
call_stays AskNews result tells goes = absurd tells
call_stays (LookAt path) result tells goes = (tells.keeps.sound goes).sound
call_stays _ result tells goes = transfer_keeps_sound tells

answers_stay : {due : Option Ask} {item : Option Item} {a b : HostState}
    → AskAnswered due item a b → KeepsInvariant a b
answers_stay {a = a} (no_item nothing same) = subst (KeepsInvariant a) (sym same) (sound_none a)
answers_stay {a = a} (listed said asks is same) = subst (KeepsInvariant a) (sym same) (sound_none a)
answers_stay (called ask told asks fits of came) =
    call_stays ask came.answer came.call (answered_goes came.answer told came.tells)
answers_stay {a = a} {b = b} (news told asks is all) =
    reported_stays a b (all_reported a b told.items all)

pub item_keeps_sound : (due : Option Ask) (item : Option Item) (a b : HostState)
    → IsItemOf due item a b → KeepsInvariant a b
item_keeps_sound due item a b is = answers_stay (answered due item a b is)

pub item_knows : (due : Option Ask) (item : Option Item) (a b : HostState) → IsItemOf due item a b
    → Knows a → Knows b
item_knows due item a b is s = knows_then a b (called_onward (item_called due item a b is))
    (item_keeps_sound due item a b is) s

pub makes_knows : {a b : HostState} {item : Item} {over : Bool} → Makes a item over b → Knows b
makes_knows (asked {item} {mid} {new} due reaches is right) =
    item_knows due (Some item) mid new is (reaches_knows reaches)
makes_knows (last reaches settled) = settled.knows

pub makes_options : {a b : HostState} {item : Item} {over : Bool} → Makes a item over b
    → b.options ≡ a.options
makes_options (asked {item} {mid} {new} due reaches is right) =
    (item_keeps_sound due (Some item) mid new is).options ∙ reaches_options reaches
makes_options (last reaches settled) = reaches_options reaches

-- a run up to its last item
pub transcript_options : {mode : Mode} {was : Bool} {old : HostState} {items : List Item}
    {over : Bool} {new : HostState} → Transcript mode was old items over new
    → new.options ≡ old.options
transcript_options run_begun = refl
transcript_options (run_told t makes puts) = ap (λ (x : HostState). x.options) puts.rest
    ∙ (makes_options makes ∙ transcript_options t)

pub puts_knows : {h k : HostState} {text : List ℕ} → AppendsText text h k → Knows h → Knows k
puts_knows {h} {k} puts s = subst Knows (sym puts.rest) so
  where
    so : Knows (record h { trace = k.trace })
    so = record {
      sound = record {
        owned = s.sound.owned;
        rooted = s.sound.rooted;
        order = s.sound.order;
        known = s.sound.known;
        truthful = s.sound.truthful;
        level = s.sound.level;
      };
      causes = s.causes;
    }
