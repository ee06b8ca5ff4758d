-- Endpoints other than 0 take no part in who has which address, whatever is lost.
use Rattle.std.proofs.Common.{◌≡◌, ◌≢◌, ℕ, zero, suc, ◌==◌, if◌then◌else◌, Bool, true, false, List}
use Rattle.std.proofs.Common.{[], ◌∷◌, Option, None, Some, option_map, Result, Ok, Err, refl, ap}
use Rattle.std.proofs.Common.{sym, subst, ◌∙◌, rules}
use Rattle.arrayvec.specs.ArrayVec.{ArrayVec}
use Rattle.usb_packet.specs.{Toggle, One as Data1}
use Rattle.usb_port.specs.{PortState}
use Rattle.usb_device.specs.{Stage, reading, read, State, Reply, out_row, status_row, sink_row}
use Rattle.usb_device.specs.{out_end_row, data_row, Way, in_law, out_law, Ports, vacant, taken}
use Rattle.usb_device.specs.{row_of, reach_at, state_at, Location, Registers, Write, WriteData}
use Rattle.usb_device.specs.{Next, writing, judged, max_packet, write_row}
use Rattle.usb_world.specs.{Attempt, Outcome, World, attempt, after, HoldsMapped, Was, EachWas}
use Rattle.usb_world.specs.{DidIn, DidOut, IsOut, IsIn, IsMade, address_of}
use Rattle.usb_world.proofs.Interface.{each_in, each_out, made_of, both, false_true, unequal}
use Rattle.usb_transfer.specs.{TransFault, Stalled, Bus, in_attempt, polled_as, AttemptLog, start}
use Rattle.usb_transfer.specs.{next, Transacted, Polled, PipeFault, as_pipe_fault, Interrupt}
use Rattle.usb_transfer.specs.{PollAsked, Polls}
use Rattle.usb_hub.specs.{LeavesTrans, LeavesPipe, MapHolds}
use Rattle.usb_hub.proofs.Steps.{settled_attempt, unshared_after}
use Rattle.usb_hub.proofs.Trails.{cut_off_unshared}
use Rattle.usb_hub.proofs.BulkRuns.{in_kept}

module _ (s : State) where
  abbrev Kept : Reply → Type 0
  Kept r = address_of r.1 ≡ address_of s

  kept_if : (b : Bool) (x y : Reply) → Kept x → Kept y → Kept (if b then x else y)
  kept_if true x y h g = h
  kept_if false x y h g = g

  in_far : (row : List PortState) (e max : ℕ) (z x y : Way) → (e == 0) ≡ false
      → Kept (in_law s row e max z x y)
  in_far row e max z x y far = ap (λ (g : Registers). g.address) (in_kept s row e max z x y far).1

  module _ (t : Toggle) (bytes : List ℕ) where
    status_keeps : (t : Toggle) (bytes : List ℕ) → Kept (status_row s t bytes)
    status_keeps Data1 [] = refl
    status_keeps t b = refl

    written_keeps : (w : Write) (x : WriteData) → Kept (write_row s w bytes x)
    written_keeps w Next = refl
    written_keeps w x = refl

    out_row_keeps : (g : Stage) → Kept (out_row s g t bytes)
    out_row_keeps (reading a w k) = status_keeps t bytes
    out_row_keeps read = status_keeps t bytes
    out_row_keeps (writing w) = written_keeps w (judged (max_packet s.spec) w t bytes)
    out_row_keeps g = refl

    sink_keeps : (e max : ℕ) → Kept (sink_row s e max t bytes)
    sink_keeps e max = search rules

    out_end_keeps : (e : ℕ) (o : Option ℕ) → Kept (out_end_row s e o t bytes)
    out_end_keeps e None = refl
    out_end_keeps e (Some max) = sink_keeps e max

    data_keeps : (e : ℕ) → Kept (data_row s e t bytes)
    data_keeps e = search (rules, out_row_keeps, out_end_keeps)

    out_far : (e : ℕ) (x y z : Way) → Kept (out_law s e t bytes x y z)
    out_far e x y z = search (rules, kept_if, data_keeps)

-- Attempts

-- IN of another endpoint than 0, or OUT of any
pub data IsOffEndpointZero (a : Attempt) : Type 0 where
  into : IsIn a → (a.ep == 0) ≡ false → IsOffEndpointZero a
  out : (t : Toggle) (bytes : List ℕ) → IsOut a t bytes → IsOffEndpointZero a

in_address : (a : Attempt) (w : World) (i : Location) (s v : State) → (a.ep == 0) ≡ false
    → DidIn a w i s v → address_of v ≡ address_of s
in_address a w i s v far (DidIn.other d same) = ap address_of same
in_address a w i s v far (DidIn.silent d q o same) = ap address_of same
in_address a w i s v far (DidIn.asked d q b below p x o same) = ap address_of same
    ∙ in_far s (row_of below) a.ep a.max x.first x.second x.third far

out_address : (a : Attempt) (t : Toggle) (bytes : List ℕ) (w : World) (i : Location) (s v : State)
    → DidOut a t bytes w i s v → address_of v ≡ address_of s
out_address a t bytes w i s v (DidOut.other d same) = ap address_of same
out_address a t bytes w i s v (DidOut.silent d q o same) = ap address_of same
out_address a t bytes w i s v (DidOut.asked d q x o same) = ap address_of same
    ∙ out_far s t bytes a.ep x.first x.second x.third

-- a device stands where one is reached
pub reach_stands : (k : Ports) (i : ℕ) (e : List ℕ) → reach_at k i e ≡ true → state_at k i e ≡ None
    → ⊥
unfolding reach_at state_at
reach_stands (vacant b k) (suc i) e on h = reach_stands k i e on h
reach_stands (taken b s a k) zero [] on h = cc h
reach_stands (taken b s a k) zero (suc j ∷ e) on h =
    reach_stands a j e (both b.enable (reach_at a j e) on).1 h
reach_stands (taken b s a k) (suc i) e on h = reach_stands k i e on h
reach_stands k i e on h = cc on

-- what an attempt leaves each device's address as, where it keeps it
keeps_own : (R : Location → State → State → Type 0)
    → ((i : Location) (s v : State) → R i s v → address_of v ≡ address_of s)
    → (f : List ℕ → Option ℕ) (w u : World) → EachWas R w u → HoldsMapped f w → HoldsMapped f u
keeps_own R same f w u each own (suc i ∷ e) on = go (state_at u.roots i e) refl
  where
    go : (o : Option State) → state_at u.roots i e ≡ o
        → option_map address_of (state_at u.roots i e) ≡ f (suc i ∷ e)
    go None h = elim (reach_stands u.roots i e on h) [ ]
    go (Some v) h =
        let x : Was R w (record { row = i; rest = e }) v =
        each (record { row = i; rest = e }) v on h in
        ap (option_map address_of) h ∙ ap (λ n. Some n)
        (same (record { row = i; rest = e }) x.before v x.so)
        ∙ sym (ap (option_map address_of) x.stands) ∙ own (suc i ∷ e) x.on
keeps_own R same f w u each own x on = false_true on

far_own : (f : List ℕ → Option ℕ) (a : Attempt) (w : World) → IsOffEndpointZero a → IsMade a w
    → (after (attempt a) w).shared ≡ false → HoldsMapped f w → HoldsMapped f (after (attempt a) w)
far_own f a w (into is far) m u own = keeps_own (DidIn a w) (λ i s v x. in_address a w i s v far x)
    f w (after (attempt a) w) (each_in a w m is u) own
far_own f a w (out t bytes is) m u own =
    keeps_own (DidOut a t bytes w) (λ i s v x. out_address a t bytes w i s v x) f w
    (after (attempt a) w) (each_out a w t bytes m is u) own

pub trail_far : (f : List ℕ → Option ℕ) (a : Attempt) → IsOffEndpointZero a
    → {old new : World} {outcomes : List Outcome} → AttemptLog a old outcomes new → MapHolds f old
    → MapHolds f new
trail_far f a far start o = o
trail_far f a far (next w t made) o =
    let x : MapHolds f w = trail_far f a far t o in
    record {
      distinct = x.distinct;
      own = far_own f a w far (made_of a w x.settled made) (unshared_after f a w x) x.own;
      single = unshared_after f a w x;
      settled = settled_attempt a w x.settled;
    }

pub far_transacted : (f : List ℕ → Option ℕ) (a : Attempt) → IsOffEndpointZero a
    → (hear : _) (old : World) (answer : Result (List ℕ) TransFault) (new : World)
    → Transacted hear a old answer new → MapHolds f old → LeavesTrans (MapHolds f) answer new
far_transacted f a far hear old (Err (Bus fault)) new c o =
    cut_off_unshared f a hear old fault new c (trail_far f a far c.trail o)
far_transacted f a far hear old answer new e o = trail_far f a far e.trail o

-- Polls

module _ (f : List ℕ → Option ℕ) (p : Interrupt) (far : p.ep ≢ 0) where
  abbrev ask : Attempt
  ask = in_attempt p.target p.ep

  is_far : IsOffEndpointZero ask
  is_far = into (record { kind = refl; payload = refl }) (unequal p.ep 0 far)

  failed : (old : World) (fault : TransFault) (new : World)
      → Polled p.toggle ask old (Err fault) new → MapHolds f old
      → LeavesTrans {A = List ℕ} (MapHolds f) (Err fault) new
  failed old fault new e o = far_transacted f ask is_far (polled_as p.toggle) old (Err fault) new e
      o

  told : (fault : TransFault) (why : PipeFault) (new : World) → why ≡ as_pipe_fault fault
      → LeavesTrans {A = List ℕ} (MapHolds f) (Err fault) new
      → LeavesPipe {A = Option (ArrayVec ℕ)} (MapHolds f) (Err why) new
  told Stalled why new e h = subst (λ x. LeavesPipe {A = Option (ArrayVec ℕ)} (MapHolds f) (Err x)
      new) (sym e) h
  told fault why new e h =
      subst (λ x. LeavesPipe {A = Option (ArrayVec ℕ)} (MapHolds f) (Err x) new) (sym e) h

  asked : (old : World) (result : Result (Option (ArrayVec ℕ)) PipeFault) (new : World)
      → PollAsked p old result new → MapHolds f old → LeavesPipe (MapHolds f) result new
  asked old (Ok None) new x o = trail_far f ask is_far x.trail o
  asked old (Ok (Some packet)) new x o = trail_far f ask is_far x.trail o
  asked old (Err why) new x o = told x.fault why new x.told (failed old x.fault new x.polled o)

  pub polls_leave : (old : World) (result : Result (Option (ArrayVec ℕ)) PipeFault)
      (left : Interrupt) (new : World) → Polls p old result left new → MapHolds f old
      → LeavesPipe (MapHolds f) result new
  polls_leave old result left new x o = asked old result new x.asked o
