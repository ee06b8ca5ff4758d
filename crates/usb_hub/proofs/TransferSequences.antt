-- Control transfers, one after the other, whatever their answers are: what is so as long as the bus
-- is at work.
use Rattle.std.proofs.Common.{◌≡◌, ℕ, ◌⊎◌, inl, inr, true, false, List, [], ◌∷◌, Option, None, Some}
use Rattle.std.proofs.Common.{Result, Ok, Err, refl, ap, sym, ◌∙◌, MatchResult}
use Rattle.std.specs.Global.{Vec}
use Rattle.usb_request.specs.{SET_ADDRESS, DEVICE_OUT, setup_of, bytes_of, Setup}
use Rattle.usb_device.specs.{Is}
use Rattle.usb_world.specs.{BusFault, Attempt, Outcome, World, is_harmless}
use Rattle.usb_transfer.specs.{Target, TransFault, setup_attempt, AttemptsMade, AttemptLog, start}
use Rattle.usb_transfer.specs.{next}
use Rattle.usb_transfer.specs.declared.trans_fault.TransFault.TheVariants as trans
use Rattle.usb_transfer.specs.{PipeFault, FaultAfter, SetUp, NoSetUp, NoStatus, NoData}
use Rattle.usb_transfer.specs.{NotConfirmed, PutsData, Reads, Writes}
use Rattle.usb_transfer.specs.declared.fault.PipeFault.TheVariants.{Bus}
use Rattle.usb_hub.specs.{AddressMap, LeavesPipe, MapHolds, WhileBusWorks, KeepsAddresses}
use Rattle.usb_hub.proofs.Transfers.{puts_leave, reads_leave, writes_leave}

pub keeps_none : (w : World) → KeepsAddresses w w
keeps_none w = record { kept = λ f o. o }

pub keeps_then : (a b c : World) → KeepsAddresses a b → KeepsAddresses b c → KeepsAddresses a c
keeps_then a b c p q = record { kept = λ f o. q.kept f (p.kept f o) }

-- An attempt is made only where the bus is at work

pub trail_sound : {a : Attempt} {old new : World} {o : Outcome} {os : List Outcome}
    → AttemptLog a old (o ∷ os) new → old.fault ≡ None
trail_sound (next w start made) = made.sound
trail_sound (next w (next v t m) made) = trail_sound (next v t m)

module _ (t : Target) (request : Setup) (old new : World) (g : BusFault) (e : old.fault ≡ Some g)
  where
    set_up_nothing : (fault : TransFault) → SetUp t request old (Err fault) new → new ≡ old
    set_up_nothing (trans.Bus fault) x = cut x.outcomes x.mid x.trail (λ h. (x.refused.again g h).1)
      where
        cut : (os : List Outcome) (mid : World)
            → AttemptLog (setup_attempt t (bytes_of request)) old os mid
            → (mid.fault ≡ Some g → new ≡ mid) → new ≡ old
        cut [] mid start again = again e
        cut (o ∷ os) mid made again = absurd (cc (e, trail_sound made))
    set_up_nothing fault x = absurd (cc (e, trail_sound x.trail))

    read_nothing : (result : Result (Vec ℕ) PipeFault) → Reads t request old result new → new ≡ old
    read_nothing (Ok bytes) x = absurd (cc (e, trail_sound x.set_up.trail))
    read_nothing (Err why) x = failed x
      where
        failed : NoSetUp t request old why new ⊎ NoData t request old why new
            ⊎ NotConfirmed t request old why new → new ≡ old
        failed (inl x) = set_up_nothing x.fault x.set_up
        failed (inr (inl x)) = absurd (cc (e, trail_sound x.set_up.trail))
        failed (inr (inr x)) = absurd (cc (e, trail_sound x.set_up.trail))

    pub write_nothing : (result : Result (Unit {0}) PipeFault) → Writes t request old result new
        → new ≡ old
    write_nothing (Ok done) x = absurd (cc (e, trail_sound x.set_up.trail))
    write_nothing (Err why) x = failed x
      where
        failed : NoSetUp t request old why new ⊎ NoStatus t request old why new → new ≡ old
        failed (inl x) = set_up_nothing x.fault x.set_up
        failed (inr x) = absurd (cc (e, trail_sound x.set_up.trail))

    pub put_nothing : (bytes : List ℕ) (result : Result (Unit {0}) PipeFault)
        → PutsData t request bytes old result new → new ≡ old
    put_nothing bytes (Ok done) x = absurd (cc (e, trail_sound x.set_up.trail))
    put_nothing bytes (Err why) (inl x) = set_up_nothing x.fault x.set_up
    put_nothing bytes (Err why) (inr (inl x)) = absurd (cc (e, trail_sound x.set_up.trail))
    put_nothing bytes (Err why) (inr (inr x)) = absurd (cc (e, trail_sound x.set_up.trail))

-- A fault of the bus is told

module _ (P : World → Type 0) (alone : (w : World) → P w → w.shared ≡ false) (old new : World) where
  pub till : {A : Type 0} (k n : ℕ) (result : Result A PipeFault)
      → MatchResult result (λ _. AttemptsMade k old new) (λ fault. FaultAfter n old fault new)
      → LeavesPipe P result new → WhileBusWorks P new
  till k n (Err (Bus fault)) ends single = record {
    so = λ h. absurd (cc (h, ends.told));
    single = single;
  }
  till k n result ends p = record { so = λ h. p; single = alone new p }

  pub still : (g : BusFault) → old.fault ≡ Some g → old.shared ≡ false → new ≡ old
      → WhileBusWorks P new
  still g e single same = record {
    so = λ h. absurd (cc (e, ap (λ w. w.fault) (sym same) ∙ h));
    single = ap (λ w. w.shared) same ∙ single;
  }

  module _ (k n : ℕ) (t : Target) (request : Setup) (single : old.shared ≡ false) where
    pub read_till : (result : Result (Vec ℕ) PipeFault)
        → MatchResult result (λ _. AttemptsMade k old new) (λ fault. FaultAfter n old fault new)
        → Reads t request old result new
        → (old.fault ≡ None → LeavesPipe P result new) → WhileBusWorks P new
    read_till result ends reads leaves = split old.fault refl
      where
        split : (x : Option BusFault) → old.fault ≡ x → WhileBusWorks P new
        split None e = till k n result ends (leaves e)
        split (Some g) e = still g e single (read_nothing t request old new g e result reads)

    pub write_till : (result : Result (Unit {0}) PipeFault)
        → MatchResult result (λ _. AttemptsMade k old new) (λ fault. FaultAfter n old fault new)
        → Writes t request old result new
        → (old.fault ≡ None → LeavesPipe P result new) → WhileBusWorks P new
    write_till result ends writes leaves = split old.fault refl
      where
        split : (x : Option BusFault) → old.fault ≡ x → WhileBusWorks P new
        split None e = till k n result ends (leaves e)
        split (Some g) e = still g e single (write_nothing t request old new g e result writes)

    put_till : (bytes : List ℕ) (result : Result (Unit {0}) PipeFault)
        → MatchResult result (λ _. AttemptsMade k old new) (λ fault. FaultAfter n old fault new)
        → PutsData t request bytes old result new
        → (old.fault ≡ None → LeavesPipe P result new) → WhileBusWorks P new
    put_till bytes result ends puts leaves = split old.fault refl
      where
        split : (x : Option BusFault) → old.fault ≡ x → WhileBusWorks P new
        split None e = till k n result ends (leaves e)
        split (Some g) e =
            still g e single (put_nothing t request old new g e bytes result puts)

pub owned_alone : (f : AddressMap) (w : World) → MapHolds f w → w.shared ≡ false
owned_alone f w o = o.single

pub either_alone : (f g : AddressMap) (w : World) → MapHolds f w ⊎ MapHolds g w → w.shared ≡ false
either_alone f g w (inl o) = o.single
either_alone f g w (inr o) = o.single

-- A request that neither resets a port nor gives an address

module _ (t : Target) (request : Setup) (same : setup_of (bytes_of request) ≡ request)
    (harmless : is_harmless request ≡ true) (other : Is request DEVICE_OUT SET_ADDRESS ≡ false)
    (k n : ℕ) (old new : World) where
  pub read_keeps : (result : Result (Vec ℕ) PipeFault)
      → MatchResult result (λ _. AttemptsMade k old new) (λ fault. FaultAfter n old fault new)
      → Reads t request old result new → KeepsAddresses old new
  read_keeps result ends reads = record {
    kept = λ f o. read_till (MapHolds f) (owned_alone f) old new k n t request o.single result ends
        reads (λ e. reads_leave f t request same harmless other old result new reads (o.so e));
  }

  pub put_keeps : (bytes : List ℕ) (result : Result (Unit {0}) PipeFault)
      → MatchResult result (λ _. AttemptsMade k old new) (λ fault. FaultAfter n old fault new)
      → PutsData t request bytes old result new → KeepsAddresses old new
  put_keeps bytes result ends puts = record {
    kept = λ f o. put_till (MapHolds f) (owned_alone f) old new k n t request o.single bytes result
        ends puts
        (λ e. puts_leave f t request same harmless other bytes old result new puts (o.so e));
  }

  pub write_keeps : (result : Result (Unit {0}) PipeFault)
      → MatchResult result (λ _. AttemptsMade k old new) (λ fault. FaultAfter n old fault new)
      → Writes t request old result new → KeepsAddresses old new
  write_keeps result ends writes = record {
    kept = λ f o. write_till (MapHolds f) (owned_alone f) old new k n t request o.single result ends
        writes (λ e. writes_leave f t request same harmless other old result new writes (o.so e));
  }
