-- What each call tells, by what was heard: who answered, and what its answer says of that device;
-- what it leaves of each device; why it failed.
use Rattle.std.proofs.Common.{◌≡◌, ◌≢◌, ◌⊎◌, inl, inr, ℕ, Bool, true, false, List, ◌∷◌, length}
use Rattle.std.proofs.Common.{None, Some, Ok, Err, if◌then◌else◌, refl, sym, ap, ◌∙◌, arith, ◌≤◌}
use Rattle.std.proofs.Common.{[], Option, Result, IfOk, IfSome, OnOk}
use Rattle.usb_packet.specs.{Toggle}
use Rattle.usb_request.specs.{setup_of}
use Rattle.usb_device.specs.{Answer, Way, heard, State, Reply, forgotten, Location, reach_on}
use Rattle.usb_device.specs.{state_on}
use Rattle.usb_world.specs.{Relation, Attempt, Outcome, is_harmless, AttemptAnswerer, IsSetup, got}
use Rattle.usb_world.specs.{hears_attempt, World, at_attempt, damage_in, outcome_in, with_attempt}
use Rattle.usb_world.specs.{attempt, Course, here, Was, EachWas, address_of, IsSettled, deep_at}
use Rattle.usb_world.proofs.Interface.{course_then, due_back, given_by, got_given, holder_in, in_in}
use Rattle.usb_world.proofs.Interface.{each_wider, is_state, made_is, made_of, made_unshared}
use Rattle.usb_world.proofs.Interface.{one_answers, out_in, setup_in, setup_sound_in, stands}
use Rattle.usb_world.proofs.Interface.{state_stands, stays_reachable_in, third, each_beside}
use Rattle.usb_world.proofs.Interface.{decided, equal_same, same_equal}
use Rattle.usb_transfer.specs.{Target, TransFault, NoAnswer, HeardOutcome, Lost, Moved, Answerer}
use Rattle.usb_transfer.specs.{HadOne, IsAnswer, heard_as, polled_as, heard_when_sent, set_up_as}
use Rattle.usb_transfer.specs.{is_at, SourceIn, SinkOut, AskedLast, SetupAccepted, Answered, Took}
use Rattle.usb_transfer.specs.{IsUnheard, AttemptLog, start, next, waits_in, IsNoEnd, KeepsTrying}
use Rattle.usb_transfer.specs.{Transacted, Waiting, Polled, packed, setup_attempt, in_attempt}
use Rattle.usb_transfer.specs.{out_attempt, SetupEnds, MeansOfSetup, SetsUp, MeansOfIn, AsksIn}
use Rattle.usb_transfer.specs.{MeansOfOut, SendsOut, PollsIn, SourceInFailure, SinkOutFailure, Ends}
use Rattle.usb_transfer.proofs.DeviceRuns.{Deeds, Run, had_address, in_others, more, Kind, in_kind}
use Rattle.usb_transfer.proofs.DeviceRuns.{out_kind, DeviceTold, told_leaves, told_why, none}
use Rattle.usb_transfer.proofs.DeviceRuns.{out_others, over_trail}
use Rattle.usb_transfer.proofs.LastOutcomes.{read_last, sent_last, set_up_last, sent_empty}
use Rattle.usb_transfer.proofs.LastOutcomes.{set_up_empty}
use Rattle.usb_transfer.proofs.SetupTransactions.{SetupResult, accepting, set_up_told, spared_wider}
use Rattle.usb_transfer.proofs.Trails.{few_waits, last_erred, trail_settled}
use Rattle.usb_transfer.proofs.TransactionTries.{ends_of, poll_ends}
use Rattle.usb_device.specs.declared.answer.Answer.TheVariants as answer
use Rattle.usb_world.specs.declared.types.Outcome.TheVariants as outcome
use Rattle.usb_transfer.proofs.BulkTransactions.{source_told, sink_told}
use Rattle.usb_transfer.proofs.ControlTransactions.{ControlInTold, control_in_told}
use Rattle.usb_transfer.proofs.ControlWrites.{ControlOutTold, control_out_told}
use Rattle.usb_transfer.proofs.Polls.{changes_told}
use Rattle.usb_transfer.proofs.SourcePolls.{source_poll_told}

-- The last attempt of a trail, that was answered, with what the host got of it

asked_last : {a : Attempt} {old new : World} {last : Outcome} {outcomes : List Outcome}
    → IsSettled old.roots → AttemptLog a old (last ∷ outcomes) new → new.shared ≡ false
    → last ≢ outcome.Nothing → (q : AskedLast a old new) × (outcome_in a q.mid ≡ last)
asked_last {a} settled (next {outcomes = os} w t made) single loud =
    let y : AttemptAnswerer a w = grind (arith, made_of, one_answers, trail_settled) in (
      record {
        outcomes = os;
        mid = w;
        before = t;
        last = refl;
        holder = y.holder;
        loud = y.loud;
      },
      refl,
    )

-- the device that was asked is still reachable
asked_last-reach : {a : Attempt} {old new : World} (q : AskedLast a old new)
    → reach_on new.roots q.holder.spot ≡ true
asked_last-reach q = grind (arith, stays_reachable_in)

-- What was answered

given_loud : {last : Outcome} {g : Answer} → given_by last ≡ Some g → last ≢ outcome.Nothing
given_loud is n = cc (sym (ap given_by n) ∙ is)

trail_answered : (t : Target) (ep : ℕ) (g : Answer) (old new : World) {last : Outcome}
    {outcomes : List Outcome} → IsSettled old.roots
    → AttemptLog (in_attempt t ep) old (last ∷ outcomes) new → given_by last ≡ Some g
    → new.shared ≡ false → Answered t ep g old new
trail_answered t ep g old new {last} settled trail is h =
    let (q, came) = asked_last settled trail h (given_loud is) in
    let x = in_in (in_attempt t ep) q.mid q.holder q.loud (grind arith) in
    record {
      asked = q;
      gave = grind (arith, given_loud, got_given);
      on = asked_last-reach q;
      state = grind arith;
    }

took : (t : Target) (ep : ℕ) (toggle : Toggle) (bytes : List ℕ) (g : Answer) (old new : World)
    {last : Outcome} {outcomes : List Outcome} → IsSettled old.roots
    → AttemptLog (out_attempt t ep toggle bytes) old (last ∷ outcomes) new → given_by last ≡ Some g
    → new.shared ≡ false → Took t ep toggle bytes g old new
took t ep toggle bytes g old new {last} settled trail is h =
    let (q, came) = asked_last settled trail h (given_loud is) in
    let x = out_in (out_attempt t ep toggle bytes) q.mid q.holder q.loud toggle bytes
    (grind arith) in
    record {
      asked = q;
      gave = grind (arith, given_loud, got_given);
      on = asked_last-reach q;
      state = grind arith;
    }

-- setup data that were answered were accepted
pub taken_up : (x : Bool) (t : Way) (s v : State) (max : ℕ)
    → got max (if◌then◌else◌ {A = Reply} x (heard t (Some answer.Ack), v) (None, s)).0 ≡ outcome.Ack
    → (if◌then◌else◌ {A = Reply} x (heard t (Some answer.Ack), v) (None, s)).1 ≡ v
taken_up x t s v max e = grind arith

pub set_up_done : (t : Target) (bytes done : List ℕ) (old new : World) → length bytes ≡ 8
    → IsSettled old.roots
    → Transacted set_up_as (setup_attempt t bytes) old (Ok done) new → new.shared ≡ false
    → SetupAccepted t bytes old new
set_up_done t bytes done old new eight settled e h =
    let a = setup_attempt t bytes in
    let last : e.last ≡ outcome.Ack = grind (arith, set_up_last) in
    let (q, came) = asked_last settled e.trail h (given_loud (ap given_by last)) in
    let x = setup_in a q.mid q.holder q.loud bytes (grind arith) in
    record {
      asked = q;
      on = asked_last-reach q;
      state = grind (arith, taken_up, q.last, x.state, x.outcome);
    }

-- Why no setup data were acknowledged

unheard_at : (a : Attempt) (w : World) (bytes : List ℕ) → IsSetup a bytes
    → outcome_in a w ≢ outcome.Ack → IsUnheard (attempt a) w
unheard_at a w bytes i c h = pick (decided h.own.spec.silent) (grind (arith, decided))
  where
    pick : (h.own.spec.silent ≡ true) ⊎ (h.own.spec.silent ≡ false)
        → (hears_attempt a (deep_at false h.spot.rest) h.own ≡ true)
        ⊎ (hears_attempt a (deep_at false h.spot.rest) h.own ≡ false)
        → (h.own.spec.silent ≡ true) ⊎ (hears_attempt a (deep_at false h.spot.rest) h.own ≡ false)
        ⊎ (damage_in w ≢ None)
    pick (inl silent) x = inl silent
    pick (inr loud) (inl hears) =
        inr (inr (λ none. c (setup_sound_in a w h loud hears none bytes i).outcome))
    pick (inr loud) (inr deaf) = inr (inl deaf)

-- while it goes on, and at its last error
no_ack : (o : Outcome) → IsNoEnd (set_up_as o) → o ≢ outcome.Ack
no_ack o h = grind arith

unheard_course : {a : Attempt} {old new : World} {outcomes : List Outcome} (bytes : List ℕ)
    → IsSetup a bytes → AttemptLog a old outcomes new → KeepsTrying set_up_as outcomes
    → Course IsUnheard old new
unfolding KeepsTrying
unheard_course {a} {old} bytes i start g = here old
unheard_course {a} bytes i (next w t made) g =
    course_then (attempt a) (unheard_course bytes i t g.3) (grind (arith, no_ack, unheard_at))

pub set_up_unheard : (t : Target) (bytes : List ℕ) (old new : World) → length bytes ≡ 8
    → Transacted set_up_as (setup_attempt t bytes) old (Err NoAnswer) new → Course IsUnheard old new
set_up_unheard t bytes old new eight e =
    at_last e.trail (grind (arith, last_erred))
  where
    kind : IsSetup (setup_attempt t bytes) bytes
    kind = grind arith

    at_last : {o : Outcome} {now : World} → AttemptLog (setup_attempt t bytes) old (o ∷ e.outcomes)
        now → IsNoEnd (set_up_as o) → Course IsUnheard old now
    at_last (next w r made) on = course_then (attempt (setup_attempt t bytes))
        (unheard_course bytes kind r e.onward)
        (unheard_at (setup_attempt t bytes) w bytes kind (grind (arith, no_ack)))

-- Who answered

-- what is so at the end, and of a device before each attempt where it is so after it, was so at
-- first
was_so : {Did : Deeds} {a : Attempt} {old : World} {j : Location} {s : State}
    {outcomes : List Outcome} {w : World} {v : State} (P : State → Type 0)
    → ((w : World) (i : Location) (u x : State) → Did w i u x → P x → P u)
    → Run Did a old j s outcomes w v → P v → P s
was_so P back none h = h
was_so {j = j} P back (more w u x t made r d) h = was_so P back r (back w j u x d h)

pub had_one : {t : Target} {old new : World} → Answerer t old new → HadOne t old
had_one a = grind arith

-- an answer that only a device makes: its packet or its acknowledgement, STALL, or too many NAKs
-- and
-- repeats
abbrev pub IsGiven : {A : Type 0} → Result A TransFault → Type 0
IsGiven (Ok done) = Unit {0}
IsGiven (Err fault) = IsAnswer fault

module _ (t : Target) {a : Attempt} (its : a.addr ≡ t.addr) (k : Kind a)
    (others : (w : World) (j : Location) (s v : State) → k.Did w j s v → is_at s t ≡ false → v ≡ s)
    (there : (s : State) → is_at s t ≡ true → k.Of s) (old : World) (settled : IsSettled old.roots)
  where
    -- what was heard at last came from it
    who : {new : World} {last : Outcome} {outcomes : List Outcome} → new.shared ≡ false
        → AttemptLog a old (last ∷ outcomes) new → last ≢ outcome.Nothing → Answerer t old new
    unfolding with_attempt
    who single (next {outcomes} w r made) loud =
        let x = (one_answers a w (made_of a w (trail_settled r settled) made) single loud).holder in
        let h = holder_in a w x in
        let due : _ = due_back w x.spot x.on in
        let at : is_at x.own t ≡ true = grind (arith, same_equal) in
        let was : Was (λ j s v. Run k.Did a old j s outcomes w v) old x.spot x.own =
        over_trail k old settled r (made_unshared a w made single).before x.spot x.own due.0
        (sym due.1 ∙ sym (grind (arith, state_stands))
        ∙ ap stands x.stands) (there x.own at) in
        record {
          spot = x.spot;
          now = forgotten (third a (damage_in (at_attempt w)) (at_attempt w).roots h).1;
          on = stays_reachable_in a w x;
          stands = ap (λ v. state_on v.roots x.spot) (made_is a w x.made)
              ∙ is_state a (damage_in (at_attempt w)) (at_attempt w).roots h;
          before = was.before;
          was_on = was.on;
          stood = was.stands;
          at = was_so (λ s. is_at s t ≡ true) (search had_address)
              was.so
              at;
        }

    -- the last of too many waits was heard
    who_gave : (hear : Outcome → HeardOutcome) → hear outcome.Nothing ≡ Lost
        → (result : Result (List ℕ) TransFault) → IsGiven result → {new : World}
        → Transacted hear a old result new → new.shared ≡ false → Answerer t old new
    unfolding waits_in
    who_gave hear lost result y e single = grind (arith, few_waits, who)

-- The kinds

-- of SETUP it is one at an address that is not 0, which was not reset
abbrev set_up_kind : (t : Target) (bytes : List ℕ) → length bytes ≡ 8
    → (is_harmless (setup_of bytes) ≡ false → t.addr ≢ 0) → Kind (setup_attempt t bytes)
set_up_kind t bytes eight addressed = record {
  Did = SetupResult t bytes;
  Of = λ s. is_at s t ≡ true;
  back = λ w j s v d. had_address t s v d.others;
  does = λ w made u j v on there at. accepting t bytes eight w made u j v on there
      (λ h. (addressed h, λ e. addressed h (sym (equal_same (address_of v) t.addr at) ∙ e)));
}

pub who_set_up : (t : Target) (bytes : List ℕ) (result : Result (List ℕ) TransFault)
    (old new : World) → length bytes ≡ 8 → (is_harmless (setup_of bytes) ≡ false → t.addr ≢ 0)
    → IsSettled old.roots → IsGiven result
    → Transacted set_up_as (setup_attempt t bytes) old result new → new.shared ≡ false
    → Answerer t old new
who_set_up t bytes result old new eight addressed settled y e single =
    who_gave t refl (set_up_kind t bytes eight addressed) (λ w j s v d. d.others) (λ s at. at) old
    settled set_up_as refl result y e single

-- a NAK to a poll is heard, too
pub who_waits : (t : Target) (ep : ℕ) (toggle : Toggle) (old new : World) → IsSettled old.roots
    → Waiting toggle (in_attempt t ep) old new → new.shared ≡ false → Answerer t old new
who_waits t ep toggle old new settled e single =
    who t refl (in_kind t ep) (in_others t ep) (λ s at. tt) old settled single e.trail (λ n. cc n)

pub who_in : (t : Target) (ep : ℕ) (hear : Outcome → HeardOutcome) → hear outcome.Nothing ≡ Lost
    → (result : Result (List ℕ) TransFault) (old new : World) → IsSettled old.roots
    → IsGiven result → Transacted hear (in_attempt t ep) old result new → new.shared ≡ false
    → Answerer t old new
who_in t ep hear lost result old new settled y e single =
    who_gave t refl (in_kind t ep) (in_others t ep) (λ s at. tt) old settled hear lost result y e
    single

pub who_out : (t : Target) (ep : ℕ) (toggle : Toggle) (bytes : List ℕ)
    (result : Result (List ℕ) TransFault) (old new : World) → IsSettled old.roots
    → IsGiven result → Transacted heard_when_sent (out_attempt t ep toggle bytes) old result new
    → new.shared ≡ false → Answerer t old new
who_out t ep toggle bytes result old new settled y e single =
    who_gave t refl (out_kind t ep toggle bytes) (out_others t ep toggle bytes) (λ s at. tt) old
    settled heard_when_sent refl result y e single

brings_nothing : (hear : Outcome → HeardOutcome) (a : Attempt)
    → ((o : Outcome) (bytes : List ℕ) → hear o ≡ Moved (packed bytes) → bytes ≡ [])
    → (old new : World) (result : Result (List ℕ) TransFault) → Transacted hear a old result new
    → IfOk result (λ done. done ≡ [])
brings_nothing hear a empty old new result x = grind arith

-- where it is done, a device answered it
if_done : {A : Type 0} (G : Type 0) (result : Result A TransFault) → (IsGiven result → G)
    → OnOk result G
if_done G result f = grind arith

-- IN

module _ (t : Target) (ep : ℕ) (awaited : Toggle) (old new : World) (settled : IsSettled old.roots)
  where
    means_in : (result : Result (List ℕ) TransFault)
        → Transacted (heard_as awaited) (in_attempt t ep) old result new
        → MeansOfIn t ep awaited old result new
    means_in result x = grind (arith, read_last, trail_answered)

    abbrev SourceTold : Result (List ℕ) TransFault → Relation
    SourceTold result =
        DeviceTold (SourceIn t ep awaited result) (SourceInFailure t ep awaited result)
        old

    -- of endpoint 0 more is so
    told_in : (result : Result (List ℕ) TransFault)
        → Transacted (heard_as awaited) (in_attempt t ep) old result new → new.shared ≡ false
        → EachWas (λ j s v. SourceTold result j s v × (ep ≡ 0
        → ControlInTold t awaited result old j s v)) old new
    told_in result x single =
        each_beside (SourceTold result) (ControlInTold t awaited result old) _ (ep ≡ 0)
        (λ j s v b c. (b, c)) old new (grind (arith, source_told))
        (grind (arith, control_in_told))

    pub asks_in : {toggle : Toggle} → toggle ≡ awaited → (result : Result (List ℕ) TransFault)
        → Transacted (heard_as toggle) (in_attempt t ep) old result new
        → IfOk result (λ bytes. length bytes ≤ t.max) → AsksIn t ep awaited old result new
    asks_in same result heard short =
        let x : Transacted (heard_as awaited) (in_attempt t ep) old result new = rw same at heard in
        record {
          heard = x;
          ends = grind (arith, ends_of);
          short = short;
          what = λ single. each_wider _ _ (λ j s v y. record {
            control = λ z. (y.1 z).leaves;
            write = λ z. (y.1 z).write;
            bulk = y.0.leaves;
          }) old new (told_in result x single);
          why = λ u. each_wider _ _ (grind arith) old new (told_in result x u.single);
          who = if_done _ result (grind (arith, who_in));
          means = means_in result x;
        }

-- OUT

module _ (t : Target) (ep : ℕ) (toggle : Toggle) (bytes : List ℕ) (old new : World)
    (settled : IsSettled old.roots) where
  means_out : (result : Result (List ℕ) TransFault)
      → Transacted heard_when_sent (out_attempt t ep toggle bytes) old result new
      → MeansOfOut t ep toggle bytes old result new
  means_out result x = grind (arith, sent_last, took)

  abbrev SinkTold : Result (List ℕ) TransFault → Relation
  SinkTold result = DeviceTold (SinkOut t ep toggle bytes result)
      (SinkOutFailure t ep toggle bytes result) old

  -- of endpoint 0 more is so
  told_out : (result : Result (List ℕ) TransFault)
      → Transacted heard_when_sent (out_attempt t ep toggle bytes) old result new
      → new.shared ≡ false → EachWas (λ j s v. SinkTold result j s v × (ep ≡ 0
      → ControlOutTold t toggle bytes result old j s v)) old new
  told_out result x single =
      each_beside (SinkTold result) (ControlOutTold t toggle bytes result old) _ (ep ≡ 0)
      (λ j s v b c. (b, c)) old new (grind (arith, sink_told))
      (grind (arith, control_out_told))

  pub sends_out : (result : Result (List ℕ) TransFault)
      → Transacted heard_when_sent (out_attempt t ep toggle bytes) old result new
      → SendsOut t ep toggle bytes old result new
  sends_out result x = record {
    heard = x;
    ends = grind (arith, ends_of);
    nothing = grind (arith, brings_nothing, sent_empty);
    what = λ single. each_wider _ _ (λ j s v y. record {
      control = λ z. (y.1 z).read;
      write = λ z. (y.1 z).leaves;
      bulk = y.0.leaves;
    }) old new (told_out result x single);
    why = λ u. each_wider _ _ (grind arith) old new (told_out result x u.single);
    who = grind (arith, if_done, who_out);
    means = means_out result x;
  }

-- SETUP

module _ (t : Target) (bytes : List ℕ) (old new : World) (eight : length bytes ≡ 8)
    (settled : IsSettled old.roots) where
  means_setup : (result : Result (List ℕ) TransFault)
      → Transacted set_up_as (setup_attempt t bytes) old result new
      → MeansOfSetup t bytes old result new
  means_setup result x = grind (arith, set_up_done, set_up_unheard)

  pub sets_up : (result : Result (List ℕ) TransFault)
      → Transacted set_up_as (setup_attempt t bytes) old result new
      → (Ends old result new → SetupEnds old result new) → SetsUp t bytes old result new
  sets_up result x ends = record {
    heard = x;
    ends = grind (arith, ends_of);
    nothing = grind (arith, brings_nothing, set_up_empty);
    what = λ single. spared_wider t (setup_of bytes) _ _ (λ j s v y. y.leaves) old new
        (set_up_told t bytes result old new eight settled x single);
    why = λ u. spared_wider t (setup_of bytes) _ _ (λ j s v y. y.why u.few) old new
        (set_up_told t bytes result old new eight settled x u.single);
    who = grind (arith, if_done, who_set_up);
    means = means_setup result x;
  }

-- Polls

module _ (t : Target) (ep : ℕ) (toggle : Toggle) (old new : World) (settled : IsSettled old.roots)
  where
    who_poll : (result : Result (Option (List ℕ)) TransFault)
        → Polled toggle (in_attempt t ep) old result new
        → OnOk result (new.shared ≡ false → Answerer t old new)
    who_poll (Ok None) x = search who_waits
    who_poll (Ok (Some bytes)) x =
        who_in t ep (polled_as toggle) refl (Ok bytes) old new settled tt x
    who_poll (Err fault) x = tt

    pub polls_in : {now : Toggle} → now ≡ toggle → (result : Result (Option (List ℕ)) TransFault)
        → Polled now (in_attempt t ep) old result new
        → IfOk result (λ got. IfSome got (λ bytes. length bytes ≤ t.max))
        → PollsIn t ep toggle old result new
    polls_in same result heard short =
        let x : Polled toggle (in_attempt t ep) old result new = rw same at heard in
        let told = changes_told t ep toggle result old new settled x in
        let source = source_poll_told t ep toggle result old new settled x in
        record {
          heard = x;
          ends = grind (arith, poll_ends);
          short = short;
          what = λ single. told_leaves old new (told single);
          why = λ u. each_wider _ _ (grind arith) old new (told u.single);
          source = λ single. told_leaves old new (source single);
          source_why = λ u. told_why old new u.few (source u.single);
          who = who_poll result x;
        }
