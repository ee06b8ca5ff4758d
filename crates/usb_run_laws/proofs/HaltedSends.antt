-- Through a pipe that does not work a send moves nothing, and a send that failed leaves none that
-- works.
use Rattle.std.proofs.Common.{◌≡◌, ◌≢◌, ◌∙◌, inl, inr, refl, sym, ap, subst, true, false, ℕ, List}
use Rattle.std.proofs.Common.{[], ◌++◌, length, take, Result, Ok, Err, is_ok}
use Rattle.std.specs.Int.{div_ceil}
use Rattle.usb_packet.specs.{Toggle, flips}
use Rattle.usb_device.specs.{IsSink, State, Location, out_end}
use Rattle.usb_world.specs.{BusFault, EachWas, World, IsSettled}
use Rattle.usb_world.proofs.Interface.{each_joined, each_none, each_wider}
use Rattle.usb_transfer.specs.{Target, is_at, SinkOut, Condition, PipeFault, PipeState, MovedOut}
use Rattle.usb_transfer.specs.{Sends, after_fault, FaultAfter, packet_target, OutPipeInSync, Gave}
use Rattle.usb_transfer.specs.{NotGone}
use Rattle.usb_transfer.proofs.Interface.{sink_leaves, sink_over, trail_settled, trail_unshared}
use Rattle.usb_transfer.proofs.Interface.{transacted_unshared}
use Rattle.usb_transfer.specs.declared.condition.Condition.TheVariants.{Ready, Halted, Broken}
use Rattle.usb_transfer.specs.declared.fault.PipeFault.TheVariants as pipe_fault
use Rattle.usb_transfer.specs.Moves.{start, packet}
use Rattle.usb_table.proofs.Interface.{empty_or_not}
use Rattle.usb_run_laws.proofs.PipeEnds.{condition_cases}

-- What was given to an endpoint that is halted

-- none of the packets was acknowledged
record NoneGiven (t : Target) (ep : ℕ) (sent : List ℕ) (x : Location) (s v : State) : Type 0 where
  halted : is_at s t ≡ true → IsSink ep t.max s → (out_end s ep).state.halted ≡ true
      → (v ≡ s) × (sent ≡ [])

given_settled : {t : Target} {ep : ℕ} {first : Toggle} {old : World} {n : ℕ} {sent : List ℕ}
    {new : World} → Gave t ep first old n sent new → IsSettled old.roots → IsSettled new.roots
given_settled start h = h
given_settled (packet bytes g full some fits puts) h = trail_settled puts.trail (given_settled g h)

module _ (t : Target) (ep : ℕ) where
  one_given : (toggle : Toggle) (sent bytes : List ℕ) (x : Location) (s u v : State)
      → NoneGiven t ep sent x s u → SinkOut t ep toggle bytes (Ok []) x u v
      → NoneGiven t ep (sent ++ bytes) x s v
  one_given toggle sent bytes x s u v first second =
      record { halted = λ at sink halt. absurd (never at sink halt) }
    where
      never : is_at s t ≡ true → IsSink ep t.max s → (out_end s ep).state.halted ≡ true → ⊥
      never at sink halt =
          let same : u ≡ s = (first.halted at sink halt).0 in
          (second.halted (ap (λ q. is_at q t) same ∙ at) t.max
          (subst (IsSink ep t.max) (sym same) sink)
          (ap (λ (q : State). (out_end q ep).state.halted) same ∙ halt)).1 [] refl

  none_given : {first : Toggle} {old : World} {n : ℕ} {sent : List ℕ} {new : World}
      → IsSettled old.roots → Gave t ep first old n sent new → new.shared ≡ false
      → EachWas (NoneGiven t ep sent) old new
  none_given {old = old} settled start single =
      each_none (NoneGiven t ep []) (λ x s. record { halted = λ at sink halt. (refl, refl) }) old
  none_given {first} {old} {new = new} settled (packet {n} {sent} {mid} bytes g full some fits puts)
      single =
      each_joined (NoneGiven t ep sent) (SinkOut t ep (flips n first) bytes (Ok []))
      (NoneGiven t ep (sent ++ bytes)) (one_given (flips n first) sent bytes) old mid new
      (none_given settled g (trail_unshared puts.trail single))
      (sink_over t ep (flips n first) bytes (Ok []) mid new (given_settled g settled) puts
      single)

-- A send

-- the device took nothing, and the send is done only where there was nothing to send
pub record NoneSent (bytes : List ℕ) (pipe : PipeState) (answer : Result (Unit {0}) PipeFault)
    (x : Location) (s v : State) : Type 0 where
  pub none : is_at s pipe.target ≡ true → OutPipeInSync pipe s
      → ((out_end v pipe.ep).sink ≡ (out_end s pipe.ep).sink)
      × (is_ok answer ≡ true → bytes ≡ [])

-- nothing was attempted
idle_sends : (bytes : List ℕ) (pipe : PipeState) (answer : Result (Unit {0}) PipeFault)
    (old new : World) → new ≡ old → (is_ok answer ≡ true → bytes ≡ [])
    → EachWas (NoneSent bytes pipe answer) old new
idle_sends bytes pipe answer old new same empty =
    subst (EachWas (NoneSent bytes pipe answer) old) (sym same)
    (each_none (NoneSent bytes pipe answer) (λ x s. record { none = λ at fits. (refl, empty) })
    old)

module _ (bytes : List ℕ) (pipe : PipeState) (old new : World) (halts : pipe.condition ≡ Halted)
    (single : new.shared ≡ false) where
  abbrev End : Target
  End = packet_target pipe.target pipe.max

  moved_halted : (n : ℕ) (answer : Result (Unit {0}) PipeFault) (left : PipeState) → bytes ≢ []
      → MovedOut n bytes pipe old answer left new → EachWas (NoneSent bytes pipe answer) old new
  moved_halted n (Ok done) left some x =
      each_wider (NoneGiven End pipe.ep bytes) (NoneSent bytes pipe (Ok done))
      (λ y s v given. record {
        none = λ at fits. let none =
            given.halted at fits.endpoint (fits.halted halts) in
            (ap (λ (q : State). (out_end q pipe.ep).sink) none.0, λ ok. none.1);
      })
      old new (none_given End pipe.ep x.settled x.went.gone single)
  moved_halted n (Err why) left some x =
      let g : NotGone End pipe.ep pipe.toggle bytes old why new = x.went in
      let began : IsSettled g.mid.roots = given_settled g.before x.settled in
      each_joined (NoneGiven End pipe.ep g.sent) (SinkOut End pipe.ep (flips g.packets pipe.toggle)
      (take pipe.max g.rest) (Err g.fault)) (NoneSent bytes pipe (Err why))
      (λ y s u v given lost. record {
        none = λ at fits.
            let same : u ≡ s = (given.halted at fits.endpoint (fits.halted halts)).0 in
            let later : v ≡ u =
            (lost.halted (ap (λ q. is_at q pipe.target) same ∙ at) pipe.max
            (subst (IsSink pipe.ep pipe.max) (sym same) fits.endpoint)
            (ap (λ (q : State). (out_end q pipe.ep).state.halted) same ∙ fits.halted halts)).0 in
            (ap (λ (q : State). (out_end q pipe.ep).sink) (later ∙ same), λ ok. absurd (cc ok));
      })
      old g.mid new
      (none_given End pipe.ep x.settled g.before (transacted_unshared _ _ _ _ (Err g.fault) g.lost
      began single))
      (sink_leaves End pipe.ep (flips g.packets pipe.toggle) (take pipe.max g.rest) (Err g.fault)
      g.mid new began g.lost single)

pub none_sent : (bytes : List ℕ) (pipe : PipeState) (answer : Result (Unit {0}) PipeFault)
    (left : PipeState) (old new : World) → pipe.condition ≢ Ready → new.shared ≡ false
    → Sends bytes pipe old answer left new → EachWas (NoneSent bytes pipe answer) old new
none_sent bytes pipe answer left old new stuck single x =
    condition_cases Goal pipe.condition (λ e. absurd (stuck e)) halts breaks
  where
    Goal : Type 0
    Goal = EachWas (NoneSent bytes pipe answer) old new

    breaks : pipe.condition ≡ Broken → EachWas (NoneSent bytes pipe answer) old new
    breaks e = let idle = x.broken e in idle_sends bytes pipe answer old new idle.world_kept
        (λ ok. absurd (cc (ok, ap is_ok idle.answer)))

    halts : pipe.condition ≡ Halted → EachWas (NoneSent bytes pipe answer) old new
    halts e = elim (empty_or_not bytes) [
      | inl none ↦ (let idle = x.nothing (λ broken. cc (broken, e)) none in
          idle_sends bytes pipe answer old new idle.world_kept (λ ok. none))
      | inr some ↦ moved_halted bytes pipe old new e single (div_ceil (length bytes) pipe.max)
          answer left some (x.moved (λ broken. cc (broken, e)) some)
    ]

-- The pipe that is left

-- no fault of a transfer leaves a pipe that works
fault_stuck : (n : ℕ) (before : Condition) (why : PipeFault) (old new : World)
    → FaultAfter n old why new → why ≢ pipe_fault.Memory
    → ((fault : BusFault) → why ≢ pipe_fault.Bus fault) → after_fault before why ≢ Ready
fault_stuck n before pipe_fault.Stalled old new ends room other e = cc e
fault_stuck n before pipe_fault.Busy old new ends room other e = cc e
fault_stuck n before pipe_fault.NoAnswer old new ends room other e = cc e
fault_stuck n before pipe_fault.Broken old new ends room other e = absurd ends
fault_stuck n before (pipe_fault.Bus fault) old new ends room other e = other fault refl
fault_stuck n before pipe_fault.Memory old new ends room other e = room refl

pub failed_stuck : (bytes : List ℕ) (pipe : PipeState) (why : PipeFault) (left : PipeState)
    (old new : World) → ((fault : BusFault) → why ≢ pipe_fault.Bus fault)
    → Sends bytes pipe old (Err why) left new
    → left.condition ≢ Ready
failed_stuck bytes pipe why left old new other x ready =
    condition_cases ⊥ pipe.condition (λ e. works (λ broken. cc (broken, e)))
    (λ e. works (λ broken. cc (broken, e))) breaks
  where
    breaks : pipe.condition ≡ Broken → ⊥
    breaks e = let kept = (x.broken e).pipe_kept in
        cc (ap (λ (p : PipeState). p.condition) kept, e, ready)

    works : pipe.condition ≢ Broken → ⊥
    works sound = elim (empty_or_not bytes) [
      | inl none ↦ (let told = (x.nothing sound none).answer in cc told)
      | inr some ↦ (let m = x.moved sound some in
          fault_stuck 0 pipe.condition why old new m.ends (λ e. m.room (ap Err e)) other
          (sym (ap (λ (p : PipeState). p.condition) m.pipe_left) ∙ ready))
    ]

-- a pipe that does not work stays so where nothing was sent
pub empty_stuck : (bytes : List ℕ) (pipe : PipeState) (done : Unit {0}) (left : PipeState)
    (old new : World) → bytes ≡ [] → pipe.condition ≢ Ready
    → Sends bytes pipe old (Ok done) left new
    → left.condition ≢ Ready
empty_stuck bytes pipe done left old new none stuck x ready =
    condition_cases ⊥ pipe.condition stuck
    (λ e. kept (x.nothing (λ broken. cc (broken, e)) none).pipe_kept) (λ e. let told =
    (x.broken e).answer in cc told)
  where
    kept : left ≡ pipe → ⊥
    kept same = stuck (sym (ap (λ (p : PipeState). p.condition) same) ∙ ready)
