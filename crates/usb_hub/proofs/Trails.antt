-- What a transaction leaves of addresses, whatever is lost.
use Rattle.usb_device.specs.{path_to, outcome, State}
use Rattle.std.proofs.Common.{◌≡◌, ℕ, true, false, List, ◌∷◌, Option, None, Some, Result, Ok, Err}
use Rattle.std.proofs.Common.{refl, ap, ◌∙◌}
use Rattle.usb_packet.specs.{Toggle}
use Rattle.usb_request.specs.{setup_of}
use Rattle.usb_world.specs.{Attempt, BusFault, Outcome, World, attempt, after, is_quiet, IsSetup}
use Rattle.usb_world.specs.{IsOut, IsIn, IsMade, is_setup}
use Rattle.usb_world.specs.declared.types.Outcome.TheVariants.{Ack}
use Rattle.usb_world.proofs.Interface.{made_of, quiet_resets}
use Rattle.usb_transfer.specs.{TransFault, Bus, set_up_as, AttemptLog, start, next, BusFailed}
use Rattle.usb_transfer.specs.{Transacted, LastOutcome}
use Rattle.usb_hub.specs.{AllAim, TakesOnly, Never, LeavesTrans, MapHolds}
use Rattle.usb_hub.proofs.Steps.{in_aims, out_aims, set_up_aims, data_owned, quiet_owned}
use Rattle.usb_hub.proofs.Steps.{unshared_after, fails_unshared}

-- IN or OUT

pub data IsData (a : Attempt) : Type 0 where
  into : IsIn a → IsData a
  out : (t : Toggle) (bytes : List ℕ) → IsOut a t bytes → IsData a

is_setup-data : (a : Attempt) → IsData a → is_setup a.kind ≡ false
is_setup-data a (into i) = ap is_setup i.kind
is_setup-data a (out t bytes o) = ap is_setup o.kind

data_aims : (Q : ℕ → Type 0) (a : Attempt) (w : World) → IsData a → IsMade a w
    → (after (attempt a) w).shared ≡ false → AllAim Q a.addr w
    → AllAim Q a.addr (after (attempt a) w)
data_aims Q a w (into i) m u h = in_aims Q a w m i u h
data_aims Q a w (out t bytes o) m u h = out_aims Q a t bytes w m o u h

pub trail_data : (f : List ℕ → Option ℕ) (a : Attempt) → IsData a
    → {old new : World} {outcomes : List Outcome} → AttemptLog a old outcomes new → MapHolds f old
    → AllAim Never a.addr old → MapHolds f new × AllAim Never a.addr new
trail_data f a d start o h = (o, h)
trail_data f a d (next w t made) o h =
    let x : MapHolds f w × AllAim Never a.addr w = trail_data f a d t o h in (
      data_owned f a w (is_setup-data a d) x.0 x.1,
      data_aims Never a w d (made_of a w x.0.settled made) (unshared_after f a w x.0) x.1,
    )

pub cut_off_unshared : (f : List ℕ → Option ℕ) (a : Attempt) (hear : _) (old : World)
    (fault : BusFault) (new : World) → (c : BusFailed hear a old fault new) → MapHolds f c.mid
    → new.shared ≡ false
cut_off_unshared f a hear old fault new c o = split c.mid.fault refl
  where
    split : (x : Option BusFault) → c.mid.fault ≡ x → new.shared ≡ false
    split None e = fails_unshared f a c.mid new fault o (c.fails e)
    split (Some g) e = ap (λ v. v.shared) (c.refused.again g e).1 ∙ o.single

-- IN or OUT, where no device at the address is to take another
pub data_transacted : (f : List ℕ → Option ℕ) (a : Attempt) → IsData a
    → (hear : _) (old : World) (answer : Result (List ℕ) TransFault) (new : World)
    → Transacted hear a old answer new → MapHolds f old → AllAim Never a.addr old
    → LeavesTrans (λ w. MapHolds f w × AllAim Never a.addr w) answer new
data_transacted f a d hear old (Err (Bus fault)) new c o h =
    cut_off_unshared f a hear old fault new c (trail_data f a d c.trail o h).0
data_transacted f a d hear old answer new e o h = trail_data f a d e.trail o h

-- SETUP of a request that resets no device

pub trail_quiet : (f : List ℕ → Option ℕ) (a : Attempt) → is_quiet (attempt a) ≡ true
    → {old new : World} {outcomes : List Outcome} → AttemptLog a old outcomes new → MapHolds f old
    → MapHolds f new
trail_quiet f a q start o = o
trail_quiet f a q (next w t made) o = quiet_owned f a w q made (trail_quiet f a q t o)

pub setup_acked : (o : Outcome) (bytes : List ℕ) (os : List Outcome)
    → LastOutcome set_up_as (Ok bytes) o os → o ≡ Ack
setup_acked Ack bytes os h = refl
setup_acked o bytes os h = cc

last_set_up : (f : List ℕ → Option ℕ) (Q : ℕ → Type 0) (a : Attempt) (bytes : List ℕ)
    → is_quiet (attempt a) ≡ true → IsSetup a bytes
    → ((s : State) → TakesOnly Q (outcome s.spec s.registers (setup_of bytes)))
    → {old new : World} {last : Outcome} {outcomes : List Outcome}
    → AttemptLog a old (last ∷ outcomes) new → last ≡ Ack → MapHolds f old → AllAim Q a.addr new
last_set_up f Q a bytes q is c (next w t made) h o =
    let x : MapHolds f w = trail_quiet f a q t o in
    λ i v on there at. set_up_aims Q a bytes w (made_of a w x.settled made) is
    (unshared_after f a w x) c h i v (quiet_resets (attempt a) w (path_to i) q) on there at

-- what is so after it, where it is done
abbrev pub SetUpLeaves : (List ℕ → Option ℕ) → (ℕ → Type 0) → ℕ → Result (List ℕ) TransFault → World
    → Type 0
SetUpLeaves f Q n (Ok bytes) w = MapHolds f w × AllAim Q n w
SetUpLeaves f Q n (Err (Bus fault)) w = w.shared ≡ false
SetUpLeaves f Q n _ w = MapHolds f w

pub set_up_transacted : (f : List ℕ → Option ℕ) (Q : ℕ → Type 0) (a : Attempt) (bytes : List ℕ)
    → is_quiet (attempt a) ≡ true → IsSetup a bytes
    → ((s : State) → TakesOnly Q (outcome s.spec s.registers (setup_of bytes)))
    → (old : World) (answer : Result (List ℕ) TransFault) (new : World)
    → Transacted set_up_as a old answer new → MapHolds f old → SetUpLeaves f Q a.addr answer new
set_up_transacted f Q a bytes q is c old (Ok got) new e o = (
  trail_quiet f a q e.trail o,
  last_set_up f Q a bytes q is c e.trail (setup_acked e.last got e.outcomes e.tells) o,
)
set_up_transacted f Q a bytes q is c old (Err (Bus fault)) new e o =
    cut_off_unshared f a set_up_as old fault new e (trail_quiet f a q e.trail o)
set_up_transacted f Q a bytes q is c old _ new e o = trail_quiet f a q e.trail o
