-- One device over the attempts of a transaction: what it was, what each attempt did to it, and what
-- it is.
use Rattle.std.proofs.lemmas.Bool.Decides.{nat_tests}
use Rattle.std.proofs.Common.{◌≡◌, ◌≢◌, ◌⊎◌, inl, inr, ℕ, ◌+◌, ◌<◌, ◌≤◌, List, [], ◌∷◌, true, false}
use Rattle.std.proofs.Common.{Option, None, Some, Result, Ok, Err, refl, sym, subst, ap, ◌∙◌, arith}
use Rattle.usb_packet.specs.{Toggle, other}
use Rattle.usb_device.specs.{Spec, State, Reply, is_busy, Way, in_law, out_law, Location, reach_on}
use Rattle.usb_device.specs.{state_on}
use Rattle.usb_device.specs.Attempt.{whole, broken}
use Rattle.usb_port.specs.{PortState}
use Rattle.usb_world.specs.{Attempt, BusFault, Outcome, IsMade, got, World, Made, attempt, after}
use Rattle.usb_world.specs.{outcome_in, damage_in, Relation, Was, EachWas, DidIn, DidOut, IsSettled}
use Rattle.usb_world.specs.{address_of}
use Rattle.usb_world.specs.declared.types.Outcome.TheVariants.{Nak, Stall, Nothing}
use Rattle.usb_world.proofs.Interface.{AttemptCut, cut_or_same, each_in, each_out, made_of}
use Rattle.usb_world.proofs.Interface.{each_wider, made_unshared, made_whole, unmade, neither}
use Rattle.usb_world.proofs.Interface.{false_true}
use Rattle.usb_transfer.specs.{Target, HeardOutcome, Moved, Lost, TransFault, Stalled, Busy}
use Rattle.usb_transfer.specs.{CanAnswer, NotReady, Refused, heard_as, NoAnswer, Bus, polled_as}
use Rattle.usb_transfer.specs.{NoThreeDamaged, Listens, IsNotOfBus, is_at, AttemptLog, start, next}
use Rattle.usb_transfer.specs.{waits_with, errors_running, waits_in, IsNoEnd, KeepsTrying}
use Rattle.usb_transfer.specs.{LastOutcome, BusFailed, Transacted, Polled, packed, in_attempt}
use Rattle.usb_transfer.specs.{out_attempt}
use Rattle.usb_transfer.proofs.LastOutcomes.{no_packet, packet_heard, packet_in, packet_of}
use Rattle.usb_transfer.proofs.Trails.{LostRun, damaged_more, last_erred, last_waited, lost_more}
use Rattle.usb_transfer.proofs.Trails.{lost_run_none, run_short, trail_settled}

-- what each attempt does to a device
abbrev pub Deeds : Type 1
Deeds = World → Relation

-- what is so of each device that is reachable in the new world, if this is so of it there
abbrev pub EachIf : (State → Type 0) → Relation → World → World → Type 0
EachIf P R old new = (j : Location) (s : State) → reach_on new.roots j ≡ true
    → state_on new.roots j ≡ Some s → P s → Was R old j s

abbrev pub Any : State → Type 0
Any s = Unit {0}

-- of the device that stood there this is so, too
pub was_then : {R S : Relation} {w : World} {j : Location} {u v : State} (x : Was R w j u)
    → S j x.before v → Was S w j v
was_then x so = grind arith

pub each_device : {R S : Relation} (old new : World)
    → ((j : Location) (s v : State) → R j s v → S j s v) → EachIf Any R old new → EachWas S old new
each_device old new f x j v on there = let was = x j v on there tt in search was_then

-- what a transaction leaves of a device, and why it failed, where no three attempts running are
-- damaged
pub record DeviceTold (Leaves Fails : Relation) (old : World) (j : Location) (s v : State) : Type 0
  where
    pub leaves : Leaves j s v
    pub why : NoThreeDamaged old → Fails j s v

pub told_leaves : {Leaves Fails : Relation} (old new : World)
    → EachWas (DeviceTold Leaves Fails old) old new → EachWas Leaves old new
told_leaves old new = each_wider _ _ (λ j s v y. y.leaves) old new

pub told_why : {Leaves Fails : Relation} (old new : World) → NoThreeDamaged old
    → EachWas (DeviceTold Leaves Fails old) old new → EachWas Fails old new
told_why old new three = each_wider _ _ (λ j s v y. y.why three) old new

-- what is so of it over two spans, one behind the other
pub each_if-joined : {P : State → Type 0} {R S T : Relation} (old mid new : World)
    → ((j : Location) (u v : State) → S j u v → P v → P u)
    → ((j : Location) (s u v : State) → R j s u → S j u v → T j s v)
    → EachIf P R old mid → EachIf P S mid new → EachIf P T old new
each_if-joined old mid new back f x y j v on there h =
    let later = y j v on there h in
    let sooner = x j later.before later.on later.stands (grind arith) in
    grind (arith, was_then)

-- the device over the attempts of a trail: it was s, and each attempt did something to it
pub data Run (Did : Deeds) (a : Attempt) (old : World) (j : Location) (s : State) : List Outcome
    → World → State → Type 0 where
  none : Run Did a old j s [] old s
  more : {outcomes : List Outcome} (w : World) (u v : State) → AttemptLog a old outcomes w
      → Made w (after (attempt a) w) → Run Did a old j s outcomes w u → Did w j u v
      → Run Did a old j s (outcome_in a w ∷ outcomes) (after (attempt a) w) v

-- what is so of the world after an attempt that was made and told
abbrev pub AttemptLeft : Attempt → World → World → Type 0
AttemptLeft a w new = Made w (after (attempt a) w) × (new ≡ after (attempt a) w)

-- the device over a transaction: the attempts that went on, and the last, of which this is so; or
-- those alone, where the bus gave up
pub data RunThrough (Did : Deeds) (a : Attempt) (hear : Outcome → HeardOutcome) (Last : Outcome
    → List Outcome → Type 0) (GaveUp : Type 0) (old new : World) (j : Location) (s v : State) :
    Type 0 where
  last : {outcomes : List Outcome} (w : World) (u : State) → AttemptLog a old outcomes w
      → Run Did a old j s outcomes w u → KeepsTrying hear outcomes → Did w j u v
      → Last (outcome_in a w) outcomes
      → ((GaveUp → ⊥) → AttemptLeft a w new) → RunThrough Did a hear Last GaveUp old new j s v
  stopped : {outcomes : List Outcome} {w : World} → GaveUp → Run Did a old j s outcomes w v
      → KeepsTrying hear outcomes → RunThrough Did a hear Last GaveUp old new j s v

-- what an answer says of the last outcome and those before it, by what is so of one that is done;
-- of the attempt that the bus gave up nothing is known
abbrev pub End : {A : Type 0} → (A → Outcome → Type 0) → (Outcome → HeardOutcome)
    → Result A TransFault → Outcome → List Outcome → Type 0
End Done hear (Ok x) o outcomes = Done x o
End Done hear (Err Stalled) o outcomes = o ≡ Stall
End Done hear (Err Busy) o outcomes = IsNoEnd (hear o) × (waits_in hear (o ∷ outcomes) ≡ 256)
End Done hear (Err NoAnswer) o outcomes =
    IsNoEnd (hear o) × (errors_running hear (o ∷ outcomes) ≡ 3)
End Done hear (Err (Bus fault)) o outcomes = Unit {0}

abbrev pub Moves : (Outcome → HeardOutcome) → List ℕ → Outcome → Type 0
Moves hear bytes o = hear o ≡ Moved (packed bytes)

abbrev pub IsEnd : (Outcome → HeardOutcome) → Result (List ℕ) TransFault → Outcome → List Outcome
    → Type 0
IsEnd hear result o outcomes = End (Moves hear) hear result o outcomes

-- a poll's, of which a NAK is one
abbrev pub PollGot : Toggle → Option (List ℕ) → Outcome → Type 0
PollGot toggle None o = o ≡ Nak
PollGot toggle (Some bytes) o = Moves (polled_as toggle) bytes o

abbrev pub IsPollEnd : Toggle → Result (Option (List ℕ)) TransFault → Outcome → List Outcome
    → Type 0
IsPollEnd toggle result o outcomes = End (PollGot toggle) (polled_as toggle) result o outcomes

abbrev pub IsOfBus : {A : Type 0} → Result A TransFault → Type 0
IsOfBus result = IsNotOfBus result → ⊥

-- the device over a transaction with this answer
abbrev pub Through : Deeds → Attempt → (Outcome → HeardOutcome) → Result (List ℕ) TransFault → World
    → World → Relation
Through Did a hear result old new =
    RunThrough Did a hear (IsEnd hear result) (IsOfBus result) old new

pub of_bus : {A : Type 0} (P : Result A TransFault → Type 0)
    → ((fault : BusFault) → P (Err (Bus fault))) → (result : Result A TransFault) → IsOfBus result
    → P result
of_bus P f result gave = grind arith

pub tells_end : (hear : Outcome → HeardOutcome) (result : Result (List ℕ) TransFault) (o : Outcome)
    (outcomes : List Outcome) → KeepsTrying hear outcomes → LastOutcome hear result o outcomes
    → IsEnd hear result o outcomes
tells_end hear result o outcomes g t = grind (arith, last_erred, last_waited)

-- Each device has such a run

-- a kind of attempt: what it does to each device of which this is so after it
pub record Kind (a : Attempt) : Type 1 where
  pub Did : Deeds
  pub Of : State → Type 0
  pub back : (w : World) (j : Location) (u v : State) → Did w j u v → Of v → Of u
  pub does : (w : World) → IsMade a w → (after (attempt a) w).shared ≡ false
      → EachIf Of (Did w) w (after (attempt a) w)

module _ {a : Attempt} (k : Kind a) (old : World) (settled : IsSettled old.roots) where
  abbrev RunOver : (Outcome → HeardOutcome) → (Outcome → List Outcome → Type 0) → Type 0 → World
      → Relation
  RunOver hear Last GaveUp new = RunThrough k.Did a hear Last GaveUp old new

  pub over_trail : {new : World} {outcomes : List Outcome} → AttemptLog a old outcomes new
      → new.shared ≡ false → EachIf k.Of (λ j s v. Run k.Did a old j s outcomes new v) old new
  over_trail start single =
      λ j v on there h. record { before = v; on = on; stands = there; so = none }
  over_trail (next w t made) single =
      each_if-joined old w (after (attempt a) w) (k.back w) (λ j s u v r d. more w u v t made r d)
      (over_trail t (made_unshared a w made single).before)
      (k.does w (made_of a w (trail_settled t settled) made) single)

  pub over_last : (hear : Outcome → HeardOutcome) (Last : Outcome → List Outcome → Type 0)
      (GaveUp : Type 0) {new : World} {o : Outcome} {outcomes : List Outcome} → new.shared ≡ false
      → AttemptLog a old (o ∷ outcomes) new → KeepsTrying hear outcomes → Last o outcomes
      → EachIf k.Of (RunOver hear Last GaveUp new) old new
  over_last hear Last GaveUp single (next w t made) onward is =
      each_if-joined old w (after (attempt a) w) (k.back w)
      (λ j s u v r d. last w u t r onward d is (λ n. (made, refl)))
      (over_trail t (made_unshared a w made single).before)
      (k.does w (made_of a w (trail_settled t settled) made) single)

  module _ (hear : Outcome → HeardOutcome) (new : World) (single : new.shared ≡ false) where
    -- the attempt that the bus gave up was made all the same, or not
    over_cut : (Last : Outcome → List Outcome → Type 0) (GaveUp : Type 0) (fault : BusFault)
        → GaveUp → ((o : Outcome) (outcomes : List Outcome) → Last o outcomes)
        → BusFailed hear a old fault new → EachIf k.Of (RunOver hear Last GaveUp new) old new
    over_cut Last GaveUp fault gave is c =
        pick (grind (arith, cut_or_same, trail_settled))
      where
        pick : AttemptCut a c.mid new → EachIf k.Of (RunOver hear Last GaveUp new) old new
        pick (unmade u each) =
            each_if-joined old c.mid new (λ j u v e. subst k.Of e)
            (λ j s u v r e. stopped gave (subst (Run k.Did a old j s c.outcomes c.mid) (sym e) r)
            c.onward) (over_trail c.trail u) (λ j v on there h. each j v on there)
        pick (made_whole u m x r) =
            each_if-joined old c.mid new (k.back c.mid)
            (λ j s u v run d. last c.mid u c.trail run c.onward d
            (grind arith) (λ n. absurd (n gave))) (over_trail c.trail u)
            (λ j v on there. k.does c.mid m x j v (ap (λ k. reach_on k j) r ∙ on) (grind arith))

    pub over_transaction : (result : Result (List ℕ) TransFault) → Transacted hear a old result new
        → EachIf k.Of (Through k.Did a hear result old new) old new
    over_transaction (Err (Bus fault)) x = search over_cut
    over_transaction result x =
        search (over_last, tells_end, x.trail, x.onward, x.last, x.outcomes, x.tells)

  pub over_poll : (toggle : Toggle) (new : World) → new.shared ≡ false
      → (result : Result (Option (List ℕ)) TransFault) → Polled toggle a old result new
      → EachIf k.Of (RunOver (polled_as toggle) (IsPollEnd toggle result) (IsOfBus result) new) old
      new
  over_poll toggle new single (Ok None) x = grind (arith, over_last)
  over_poll toggle new single (Ok (Some bytes)) x =
      over_transaction (polled_as toggle) new single (Ok bytes) x
  over_poll toggle new single (Err fault) x =
      over_transaction (polled_as toggle) new single (Err fault) x

-- IN, and OUT

abbrev pub in_kind : (t : Target) (ep : ℕ) → Kind (in_attempt t ep)
in_kind t ep = record {
  Did = DidIn (in_attempt t ep);
  Of = Any;
  back = λ w j u v d h. tt;
  does = λ w made u j v on there h. each_in (in_attempt t ep) w made
      (record { kind = refl; payload = refl }) u j v on there;
}

abbrev pub out_kind : (t : Target) (ep : ℕ) (toggle : Toggle) (bytes : List ℕ)
    → Kind (out_attempt t ep toggle bytes)
out_kind t ep toggle bytes = record {
  Did = DidOut (out_attempt t ep toggle bytes) toggle bytes;
  Of = Any;
  back = λ w j u v d h. tt;
  does = λ w made u j v on there h. each_out (out_attempt t ep toggle bytes) w toggle bytes made
      (record { kind = refl; payload = refl }) u j v on there;
}

-- What is so of one device after the attempts that went on, and at the end

module _ {Did : Deeds} {a : Attempt} {old : World} {j : Location} {s : State} (hear : Outcome
    → HeardOutcome) (I : List Outcome → World → State → Type 0) (first : I [] old s)
    (onward : (outcomes : List Outcome) (w : World) (u v : State) → AttemptLog a old outcomes w
    → Made w (after (attempt a) w) → I outcomes w u → Did w j u v → IsNoEnd (hear (outcome_in a w))
    → I (outcome_in a w ∷ outcomes) (after (attempt a) w) v) where
  pub along : {outcomes : List Outcome} {w : World} {v : State} → Run Did a old j s outcomes w v
      → KeepsTrying hear outcomes → I outcomes w v
  unfolding KeepsTrying
  along none g = first
  along (more {outcomes} w u v t made r d) g = onward outcomes w u v t made (along r g.3) d g.0

  pub at_end : {Last : Outcome → List Outcome → Type 0} {GaveUp : Type 0} {new : World} (E : State
      → Type 0) (v : State)
      → ((outcomes : List Outcome) (w : World) (u : State) → AttemptLog a old outcomes w
      → I outcomes w u → Did w j u v → Last (outcome_in a w) outcomes
      → ((GaveUp → ⊥) → AttemptLeft a w new) → E v)
      → (GaveUp → (outcomes : List Outcome) (w : World) → I outcomes w v → E v)
      → RunThrough Did a hear Last GaveUp old new j s v → E v
  at_end E v final cut (last {outcomes} w u t r g d is told) = search along
  at_end E v final cut (stopped {outcomes} {w} gave r g) = cut gave outcomes w (along r g)

-- One induction: what an attempt with an outcome leaves of a device, attempts leave one behind the
-- other, if those that go on leave what nothing would
module _ {Did : Deeds} {a : Attempt} {hear : Outcome → HeardOutcome} {Last : Outcome → List Outcome
    → Type 0} {GaveUp : Type 0} {old new : World} {j : Location} {s v : State}
    (x : RunThrough Did a hear Last GaveUp old new j s v)
    (up : GaveUp → (outcomes : List Outcome) → Last Nothing outcomes) (Is : State → Type 0)
    (Gave : State → Outcome → State → Type 0)
    (did : (w : World) (u y : State) → Did w j u y → Is u → Gave u (outcome_in a w) y × Is y)
    (joined : (s u y : State) (o : Outcome) → Gave s Nothing u → Gave u o y → Gave s o y)
    (quiet : (s y : State) (o : Outcome) → IsNoEnd (hear o) → Gave s o y → Gave s Nothing y)
  where
    -- the last outcome, and what it left
    abbrev pub Summed : State → Type 0
    Summed y = (o : Outcome) × (outcomes : List Outcome) × Last o outcomes × Gave s o y

    pub summed : Is s → Gave s Nothing s → Summed v
    summed is begun =
        at_end hear (λ outcomes w u. Is u × Gave s Nothing u) (is, begun)
        (λ outcomes w u y trail made i d n.
        let g = did w u y d i.0 in
        (g.1, quiet s y (outcome_in a w) n (grind arith))) Summed v
        (grind arith)
        (grind arith) x

-- A device is at the target's address, or not

pub mine : (t : Target) (s : State) {P : Type 0} → is_at s t ≡ true → is_at s t ≡ false → P
mine t s h g = false_true (sym g ∙ h)

-- it stays there with its registers
pub at_from : (t : Target) (s u : State) → u.registers ≡ s.registers → is_at s t ≡ true
    → is_at u t ≡ true
at_from t s u e h = grind arith

-- one that is there had the address before
pub had_address : (t : Target) (s v : State) → (is_at s t ≡ false → v ≡ s) → is_at v t ≡ true
    → is_at s t ≡ true
had_address t s v f h = grind arith

-- it goes on listening where its description and its address stay
pub listens_at : (t : Target) (place : Location) (s v : State) → v.spec ≡ s.spec
    → address_of v ≡ address_of s → Listens t place s → Listens t place v
listens_at t place s v e f l = grind (arith, l.at, l.loud)

pub listens_on : (t : Target) (place : Location) (s v : State) → v.spec ≡ s.spec
    → v.registers ≡ s.registers → Listens t place s → Listens t place v
listens_on t place s v e f l = grind (arith, listens_at)

-- one that is busy, and not by its description, has a NAK left to give
pub positive : (s : State) → is_busy s ≡ true → s.spec.busy ≡ false → 0 < s.naks
positive s busy calm = grind (arith, nat_tests)

pub not_busy : (s : State) → is_busy s ≡ false → s.spec.busy ≡ false
not_busy s e = grind (arith, neither)

-- Devices that the attempts are not for

pub others_stay_then : (t : Target) (s u v : State) → (is_at s t ≡ false → u ≡ s)
    → (is_at u t ≡ false → v ≡ u) → is_at s t ≡ false → v ≡ s
others_stay_then t s u v f g h = grind arith

pub stays_away : {Did : Deeds} {a : Attempt} {hear : Outcome → HeardOutcome} {Last : Outcome
    → List Outcome → Type 0} {GaveUp : Type 0} {old new : World} {j : Location} {s v : State}
    (t : Target) → ((w : World) (u x : State) → Did w j u x → is_at u t ≡ false → x ≡ u)
    → RunThrough Did a hear Last GaveUp old new j s v → is_at s t ≡ false → v ≡ s
stays_away {hear = hear} {s = s} {v = v} t others x away =
    at_end hear (λ outcomes w u. u ≡ s) refl (grind arith)
    (λ y. y ≡ s) v (grind arith)
    (λ gave outcomes w e. e) x

-- Devices that they are for: IN and OUT

-- it answered by its law; a silent one as if no packet came to it
pub record AttemptDelivered (t : Target) (a : Attempt) (law : Way → Way → Way → Reply) (w : World)
    (place : Location) (u v : State) : Type 0 where
  pub first : Way
  pub second : Way
  pub third : Way
  pub heard : damage_in w ≡ None → Listens t place u → (first ≡ whole) × (second ≡ whole)
      × (third ≡ whole)
  pub gave : outcome_in a w ≡ got t.max (law first second third).0
  pub is : v ≡ (law first second third).1

-- by what its packets came to, where all came whole
pub as_whole : {t : Target} {a : Attempt} {law : Way → Way → Way → Reply} {w : World}
    {place : Location} {u v : State} (x : AttemptDelivered t a law w place u v) → damage_in w ≡ None
    → Listens t place u → {A : Type 0} (f : Way → Way → Way → A)
    → f x.first x.second x.third ≡ f whole whole whole
as_whole x n l f = grind arith

pub asked_in : (t : Target) (ep : ℕ) (w : World) (j : Location) (u v : State)
    → DidIn (in_attempt t ep) w j u v → is_at u t ≡ true → (row : List PortState)
    × AttemptDelivered t (in_attempt t ep) (in_law u row ep t.max) w j u v
asked_in t ep w j u v (DidIn.other d e) at = false_true (sym d ∙ at)
asked_in t ep w j u v (DidIn.silent d q o e) at = (
  [],
  record {
    first = broken;
    second = broken;
    third = broken;
    heard = λ n l. false_true (sym l.loud ∙ q);
    gave = o;
    is = e;
  },
)
asked_in t ep w j u v (DidIn.asked d q b below stood x o e) at = grind arith

pub in_others : (t : Target) (ep : ℕ) (w : World) (j : Location) (u v : State)
    → DidIn (in_attempt t ep) w j u v → is_at u t ≡ false → v ≡ u
in_others t ep w j u v did away = grind (arith, false_true)

pub delivered_out : (t : Target) (ep : ℕ) (toggle : Toggle) (bytes : List ℕ) (w : World)
    (j : Location) (u v : State) → DidOut (out_attempt t ep toggle bytes) toggle bytes w j u v
    → is_at u t ≡ true → AttemptDelivered t (out_attempt t ep toggle bytes)
    (out_law u ep toggle bytes) w j u v
delivered_out t ep toggle bytes w j u v (DidOut.other d e) at = false_true (sym d ∙ at)
delivered_out t ep toggle bytes w j u v (DidOut.silent d q o e) at =
    record {
      first = broken;
      second = broken;
      third = broken;
      heard = λ n l. false_true (sym l.loud ∙ q);
      gave = o;
      is = e;
    }
delivered_out t ep toggle bytes w j u v (DidOut.asked d q x o e) at = grind arith

pub out_others : (t : Target) (ep : ℕ) (toggle : Toggle) (bytes : List ℕ) (w : World) (j : Location)
    (u v : State) → DidOut (out_attempt t ep toggle bytes) toggle bytes w j u v
    → is_at u t ≡ false → v ≡ u
out_others t ep toggle bytes w j u v did away = grind (arith, false_true)

pub one_wait : (h : HeardOutcome) (n : ℕ) → waits_with h n ≤ n + 1
one_wait h n = grind arith

-- what an attempt that goes on does to the toggle that an endpoint gives
pub record Turns (awaited given after : Toggle) (h : HeardOutcome) (Damaged : Type 0) : Type 0 where
  pub even : given ≡ awaited → (after ≡ awaited) × (h ≡ Lost)
  pub behind : given ≡ other awaited → (after ≡ awaited) ⊎ ((after ≡ other awaited) × Damaged)

either : (t awaited : Toggle) → (t ≡ awaited) ⊎ (t ≡ other awaited)
either t awaited = grind arith

-- it gives the awaited toggle, and there were few waits; or it gives the other one, and at least as
-- many attempts running were damaged as there were waits
abbrev Stands : Toggle → World → Toggle → ℕ → World → Type 0
Stands awaited old given n w = ((given ≡ awaited) × (n ≤ 3)) ⊎ ((given ≡ other awaited)
    × ((k : ℕ) × LostRun old.damages k w.attempts × (n ≤ k)))

stands_most : (awaited : Toggle) (old : World) (given : Toggle) (n : ℕ) (w : World)
    → NoThreeDamaged old → Stands awaited old given n w → n ≤ 3
stands_most awaited old given n w three (inl y) = y.1
stands_most awaited old given n w three (inr y) =
    omega (arith, y.1.2, run_short old y.1.0 w.attempts three y.1.1)

stands_on : (hear : Outcome → HeardOutcome) (awaited : Toggle) {a : Attempt} {old w : World}
    {given after_it : Toggle} {outcomes : List Outcome} → NoThreeDamaged old
    → AttemptLog a old outcomes w → Made w (after (attempt a) w) → (n : ℕ)
    → Turns awaited given after_it (hear (outcome_in a w)) (damage_in w ≢ None)
    → Stands awaited old given n w
    → Stands awaited old after_it (waits_with (hear (outcome_in a w)) n) (after (attempt a) w)
stands_on hear awaited three trail made n turn (inl y) = grind arith
stands_on hear awaited {a} {old} {w} three trail made n turn (inr y) =
    let one : waits_with (hear (outcome_in a w)) n ≤ n + 1 = search one_wait in
    elim (turn.behind y.0) [
      | inl e ↦ inl (e, omega (arith, one, y.1.2, run_short old y.1.0 w.attempts three y.1.1))
      | inr e ↦ inr (
        e.0,
        (y.1.0 + 1, damaged_more trail made y.1.0 e.1 y.1.1, omega (arith, one, y.1.2)),
      )
    ]

-- Why a transaction with a device of a kind fails: what is of the kind stays so over attempts that
-- go on

-- a device of this description made the host hear this: only one that is not silent is heard, and
-- only one that is not always busy says more than that
abbrev pub OutcomeOfSpec : Spec → HeardOutcome → Type 0
OutcomeOfSpec spec h = (h ≡ Lost) ⊎ ((spec.silent ≡ false) × ((h ≡ NotReady) ⊎ (spec.busy ≡ false)))

says_free : (spec : Spec) (h : HeardOutcome) → OutcomeOfSpec spec h → h ≢ Lost → h ≢ NotReady
    → (spec.silent ≡ false) × (spec.busy ≡ false)
says_free spec h says some ready = grind arith

-- what an answer says of its description; the first wait was heard
abbrev Waited : Spec → ℕ → Type 0
Waited spec n = (n ≡ 0) ⊎ (spec.silent ≡ false)

one_waited : (spec : Spec) (h : HeardOutcome) (n : ℕ) → OutcomeOfSpec spec h → Waited spec n
    → Waited spec (waits_with h n)
one_waited spec h n says waits = grind arith

could_answer : {A : Type 0} (Done : A → Outcome → Type 0) (hear : Outcome → HeardOutcome)
    (spec : Spec) → hear Stall ≡ Refused
    → ((x : A) (o : Outcome) → Done x o → (hear o ≢ Lost) × (hear o ≢ NotReady))
    → (r : Result A TransFault) (o : Outcome) (outcomes : List Outcome)
    → OutcomeOfSpec spec (hear o) → Waited spec (waits_in hear (o ∷ outcomes))
    → End Done hear r o outcomes → CanAnswer spec r
could_answer Done hear spec refuses done r o outcomes says waits e = grind (arith, says_free)

module _ {A : Type 0} (Done : A → Outcome → Type 0) (result : Result A TransFault) {Did : Deeds}
    {a : Attempt} {hear : Outcome → HeardOutcome} {old new : World} {j : Location} {s v : State}
    (ran : RunThrough Did a hear (End Done hear result) (IsOfBus result) old new j s v)
    (Is : State → Type 0) (stays : (w : World) (u x : State) → Did w j u x
    → IsNoEnd (hear (outcome_in a w)) → Is u → Is x) (is : Is s) where
  abbrev Ran : Result A TransFault → Type 0
  Ran r = RunThrough Did a hear (End Done hear r) (IsOfBus r) old new j s v

  -- what is so at first, and after each attempt that goes on, is so at the end: it refutes an
  -- answer that tells of an outcome too many
  pub never : (Holds : List Outcome → World → State → Type 0) → Holds [] old s
      → ((outcomes : List Outcome) (w : World) (u x : State) → AttemptLog a old outcomes w
      → Made w (after (attempt a) w) → Is u → Holds outcomes w u → Did w j u x
      → IsNoEnd (hear (outcome_in a w)) → Holds (outcome_in a w ∷ outcomes) (after (attempt a) w) x)
      → (r : Result A TransFault) → IsNotOfBus r → (Full : List Outcome → Type 0)
      → ((o : Outcome) (outcomes : List Outcome) → End Done hear r o outcomes
      → IsNoEnd (hear o) × Full (o ∷ outcomes))
      → ((outcomes : List Outcome) (w : World) → Holds outcomes w v → Full outcomes → ⊥)
      → result ≢ r
  never Holds first step r sound Full ends refutes e =
      at_end hear (λ outcomes w u. Is u × Holds outcomes w u) (is, first) (grind arith) (λ y. ⊥) v
      (λ outcomes w u t i d end told.
      let x = ends (outcome_in a w) outcomes end in
      refutes (outcome_in a w ∷ outcomes) (after (attempt a) w) (grind arith) x.1)
      (grind arith) (subst Ran e ran)

  -- where an attempt that is not damaged is no error, three errors run only over three damaged
  -- attempts
  pub heeded : NoThreeDamaged old → ((w : World) (u x : State) → Did w j u x → Is u
      → damage_in w ≡ None → hear (outcome_in a w) ≢ Lost) → result ≢ Err NoAnswer
  unfolding errors_running
  heeded three heeds =
      never (λ outcomes w u. LostRun old.damages (errors_running hear outcomes) w.attempts)
      (search lost_run_none) (grind (arith, lost_more))
      (Err NoAnswer) tt (λ outcomes. errors_running hear outcomes ≡ 3) (λ o outcomes end. end)
      (λ outcomes w run full.
      omega (arith, full, run_short old (errors_running hear outcomes) w.attempts three run))

  -- where each wait is one fewer of those it has left, there are no more
  pub spared : (left : State → ℕ) → ((w : World) (u x : State) → Did w j u x → Is u → (n : ℕ)
      → waits_with (hear (outcome_in a w)) n + left x ≤ n + left u) → left s < 256
      → result ≢ Err Busy
  unfolding waits_in
  spared left spares few =
      never (λ outcomes w u. waits_in hear outcomes + left u ≤ left s) none_left (grind arith)
      (Err Busy) tt (λ outcomes. waits_in hear outcomes ≡ 256) (λ o outcomes end. end) (grind arith)
    where
      none_left : waits_in hear [] + left s ≤ left s
      none_left = omega arith

      one_left : (outcomes : List Outcome) (o : Outcome) (m n : ℕ)
          → waits_in hear outcomes + m ≤ left s → waits_with (hear o) (waits_in hear outcomes) + n
          ≤ waits_in hear outcomes + m → waits_in hear (o ∷ outcomes) + n ≤ left s
      one_left outcomes o m n x y = omega (arith, x, y)

  -- where an endpoint gives the awaited toggle, an attempt that goes on is an error; where it gives
  -- the other one, it comes to give the awaited one, or the attempt was damaged. So few are waits
  pub few_repeats : (awaited : Toggle) (given : State → Toggle) → NoThreeDamaged old
      → ((w : World) (u x : State) → Did w j u x → Is u → IsNoEnd (hear (outcome_in a w))
      → Turns awaited (given u) (given x) (hear (outcome_in a w)) (damage_in w ≢ None))
      → result ≢ Err Busy
  unfolding waits_in
  few_repeats awaited given three turns =
      never (λ outcomes w u. Stands awaited old (given u) (waits_in hear outcomes) w)
      (first (either (given s) awaited)) (grind (arith, stands_on))
      (Err Busy) tt (λ outcomes. waits_in hear outcomes ≡ 256) (λ o outcomes end. end)
      (λ outcomes w so full. omega (
        arith,
        full,
        stands_most awaited old (given v) (waits_in hear outcomes) w three so,
      ))
    where
      first : (given s ≡ awaited) ⊎ (given s ≡ other awaited) → Stands awaited old (given s) 0 old
      first (inl e) = inl (e, omega arith)
      first (inr e) = grind (arith, lost_run_none)

  -- a device of the kind could answer so
  pub could : (spec : Spec) → hear Stall ≡ Refused
      → ((x : A) (o : Outcome) → Done x o → (hear o ≢ Lost) × (hear o ≢ NotReady))
      → ((w : World) (u x : State) → Did w j u x → Is u
      → OutcomeOfSpec spec (hear (outcome_in a w))) → CanAnswer spec result
  unfolding waits_in
  could spec refuses done says =
      at_end hear (λ outcomes w u. Is u × Waited spec (waits_in hear outcomes)) (is, inl refl)
      (grind (arith, one_waited)) (λ y. CanAnswer spec result) v
      (grind (arith, could_answer, one_waited)) (grind (arith, of_bus)) ran

-- The packet that came with an answer

pub result_of : {A : Type 0} (got : A → Option (List ℕ)) (P : Option (List ℕ) → Type 0)
    (F : Result A TransFault → Type 0) → ((x : A) → P (got x) → F (Ok x))
    → (P None → F (Err Stalled) × F (Err Busy) × F (Err NoAnswer))
    → ((fault : BusFault) (c : Option (List ℕ)) → P c → F (Err (Bus fault)))
    → (result : Result A TransFault) (c : Option (List ℕ))
    → (IsNotOfBus result → c ≡ packet_of got result) → P c → F result
result_of got P F some nil cut (Ok x) c e h = some x (subst P (e tt) h)
result_of got P F some nil cut (Err Stalled) c e h = (nil (subst P (e tt) h)).0
result_of got P F some nil cut (Err Busy) c e h = (nil (subst P (e tt) h)).1
result_of got P F some nil cut (Err NoAnswer) c e h = (nil (subst P (e tt) h)).2
result_of got P F some nil cut (Err (Bus fault)) c e h = cut fault c h

pub brought : (awaited : Toggle) (result : Result (List ℕ) TransFault) (o : Outcome)
    (outcomes : List Outcome) → IsEnd (heard_as awaited) result o outcomes → IsNotOfBus result
    → packet_heard (heard_as awaited o) ≡ packet_in result
brought awaited result o outcomes e n = grind (arith, no_packet)
