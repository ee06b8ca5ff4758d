-- Polls, bulk transfers and clears of halts keep addresses, whatever their answers are and whatever
-- was lost.
use Rattle.std.proofs.Common.{◌≡◌, ◌≢◌, ℕ, zero, suc, ◌⊎◌, inl, inr, Bool, true, false, List, []}
use Rattle.std.proofs.Common.{◌∷◌, length, take, Option, None, Some, Result, Ok, Err, refl, ap, sym}
use Rattle.std.proofs.Common.{subst, ◌∙◌, arith, MatchResult}
use Rattle.std.specs.Global.{Vec}
use Rattle.arrayvec.specs.ArrayVec.{ArrayVec}
use Rattle.usb_packet.specs.{Toggle, flips}
use Rattle.usb_request.specs.{SET_ADDRESS, DEVICE_OUT, clear_endpoint_halt}
use Rattle.usb_request.proofs.Interface.{same_setup}
use Rattle.usb_device.specs.{Is}
use Rattle.usb_world.specs.{Attempt, BusFault, Outcome, World}
use Rattle.usb_transfer.specs.{Target, TransFault, heard_as, polled_as, heard_when_sent, in_attempt}
use Rattle.usb_transfer.specs.{out_attempt, AttemptsMade, AttemptLog, start, Transacted}
use Rattle.usb_transfer.specs.declared.trans_fault.TransFault.TheVariants as trans
use Rattle.usb_transfer.specs.{Condition, PipeFault, PipeState, halt_address, packets_of, Sends}
use Rattle.usb_transfer.specs.{Receives, Cleared, Clears, FaultAfter, packet_target, Interrupt}
use Rattle.usb_transfer.specs.{PollAsked, Polls, Gave, Came, Puts, Fetches, SendEnds, NotCame}
use Rattle.usb_transfer.specs.{NoRoomLeft, ReceiveEnds}
use Rattle.usb_transfer.specs.declared.condition.Condition.TheVariants as condition
use Rattle.usb_transfer.specs.declared.fault.PipeFault.TheVariants.{Stalled}
use Rattle.usb_transfer.specs.Moves as moves
use Rattle.usb_transfer.proofs.Interface.{harmless}
use Rattle.usb_hub.specs.{AddressMap, LeavesTrans, LeavesPipe, MapHolds, WhileBusWorks}
use Rattle.usb_hub.specs.{KeepsAddresses}
use Rattle.usb_hub.proofs.TransferSequences.{keeps_none, trail_sound, till, still, owned_alone}
use Rattle.usb_hub.proofs.TransferSequences.{write_keeps}
use Rattle.usb_hub.proofs.Polls.{into, out, far_transacted, polls_leave}
use Rattle.usb_hub.proofs.Transfers.{of_fault}
use Rattle.usb_world.proofs.Interface.{unequal}

-- A bus that has given up makes no attempt

module _ (g : BusFault) where
  none_made : (a : Attempt) (old : World) → old.fault ≡ Some g
      → (outcomes : List Outcome) (mid : World) → AttemptLog a old outcomes mid → mid ≡ old
  none_made a old e [] mid start = refl
  none_made a old e (o ∷ outcomes) mid made = absurd (cc (e, trail_sound made))

  none_transacted : (hear : _) (a : Attempt) (old : World) → old.fault ≡ Some g
      → (fault : TransFault) (new : World) → Transacted hear a old (Err fault) new → new ≡ old
  none_transacted hear a old e (trans.Bus fault) new x =
      let same : x.mid ≡ old = none_made a old e x.outcomes x.mid x.trail in
      (x.refused.again g (ap (λ w. w.fault) same ∙ e)).1 ∙ same
  none_transacted hear a old e fault new x = absurd (cc (e, trail_sound x.trail))

-- A call that leaves each device at its own address, and does nothing on such a bus

call_keeps : {A : Type 0} (k n : ℕ) (old new : World) (result : Result A PipeFault)
    → MatchResult result (λ _. AttemptsMade k old new) (λ why. FaultAfter n old why new)
    → ((f : AddressMap) → MapHolds f old → LeavesPipe (MapHolds f) result new)
    → ((g : BusFault) → old.fault ≡ Some g → new ≡ old) → KeepsAddresses old new
call_keeps k n old new result ends leaves none =
    record { kept = λ f o. split f o.single o.so old.fault refl }
  where
    split : (f : AddressMap) → old.shared ≡ false → (old.fault ≡ None → MapHolds f old)
        → (x : Option BusFault) → old.fault ≡ x → WhileBusWorks (MapHolds f) new
    split f single so None e = till (MapHolds f) (owned_alone f) old new k n result ends
        (leaves f (so e))
    split f single so (Some g) e = still (MapHolds f) (owned_alone f) old new g e single (none g e)

some_worked : {A : Type 0} (k : A → ℕ) (n : ℕ) (old new : World) (result : Result A PipeFault)
    → MatchResult result (λ x. AttemptsMade (k x) old new) (λ why. FaultAfter n old why new)
    → MatchResult result (λ _. AttemptsMade 0 old new) (λ why. FaultAfter n old why new)
some_worked k n old new (Ok x) w = record {
  sound = w.sound;
  least = omega (arith, w.least);
  still = w.still;
}
some_worked k n old new (Err why) w = w

-- the same fault, of whatever call
other_call : (A B : Type 0) (P : World → Type 0) (why : PipeFault) (w : World)
    → LeavesPipe {A = A} P (Err why) w → LeavesPipe {A = B} P (Err why) w
other_call A B P Stalled w h = h
other_call A B P why w h = h

pub same_keeps : (old new : World) → new ≡ old → KeepsAddresses old new
same_keeps old new same = subst (λ w. KeepsAddresses old w) (sym same) (keeps_none old)

-- Polls

module _ (pipe : Interrupt) (old new : World) where
  none_asked : (result : Result (Option (ArrayVec ℕ)) PipeFault) → PollAsked pipe old result new
      → (g : BusFault) → old.fault ≡ Some g → new ≡ old
  none_asked (Ok None) x g e = absurd (cc (e, trail_sound x.trail))
  none_asked (Ok (Some packet)) x g e = absurd (cc (e, trail_sound x.trail))
  none_asked (Err why) x g e = none_transacted g (polled_as pipe.toggle)
      (in_attempt pipe.target pipe.ep) old e x.fault new x.polled

pub polls_keep : (pipe : Interrupt) → pipe.ep ≢ 0
    → (old : World) (result : Result (Option (ArrayVec ℕ)) PipeFault) (left : Interrupt)
    (new : World) → Polls pipe old result left new → KeepsAddresses old new
polls_keep pipe far old result left new x =
    call_keeps 1 0 old new result x.ends (λ f o. polls_leave f pipe far old result left new x o)
    (none_asked pipe old new result x.asked)

-- Packets from the host: OUTs, of whatever endpoint

module _ (t : Target) (ep : ℕ) (first : Toggle) where
  puts_leave : (f : AddressMap) (toggle : Toggle) (bytes : List ℕ) (old : World)
      (answer : Result (List ℕ) TransFault) (new : World) → Puts t ep toggle bytes old answer new
      → MapHolds f old → LeavesTrans (MapHolds f) answer new
  puts_leave f toggle bytes = far_transacted f (out_attempt t ep toggle bytes)
      (out toggle bytes (record { kind = refl; payload = refl })) heard_when_sent

  gave_owned : (f : AddressMap) {old : World} {n : ℕ} {sent : List ℕ} {new : World}
      → Gave t ep first old n sent new → MapHolds f old → MapHolds f new
  gave_owned f moves.start o = o
  gave_owned f {new} (moves.packet {n} {sent} {mid} bytes before full some fits went) o =
      puts_leave f (flips n first) bytes mid (Ok []) new went (gave_owned f before o)

  none_gave : (g : BusFault) {old : World} {n : ℕ} {sent : List ℕ} {new : World}
      → old.fault ≡ Some g → Gave t ep first old n sent new → new ≡ old
  none_gave g e moves.start = refl
  none_gave g e (moves.packet {mid} bytes before full some fits went) =
      let same : _ = none_gave g e before in
      absurd (cc (ap (λ w. w.fault) same ∙ e, trail_sound went.trail))

  module _ (total : List ℕ) (old new : World) where
    send_leaves : (f : AddressMap) (result : Result (Unit {0}) PipeFault)
        → SendEnds t ep first total old result new → MapHolds f old
        → LeavesPipe (MapHolds f) result new
    send_leaves f (Ok done) x o = gave_owned f x.gone o
    send_leaves f (Err why) x o =
        of_fault (MapHolds f) (MapHolds f) new (λ h. h) x.fault why x.told
        (puts_leave f (flips x.packets first) (take t.max x.rest) x.mid (Err x.fault) new x.lost
        (gave_owned f x.before o))

    none_sent : (result : Result (Unit {0}) PipeFault) → SendEnds t ep first total old result new
        → (g : BusFault) → old.fault ≡ Some g → new ≡ old
    none_sent (Ok done) x g e = none_gave g e x.gone
    none_sent (Err why) x g e =
        let same : x.mid ≡ old = none_gave g e x.before in
        none_transacted g heard_when_sent (out_attempt t ep (flips x.packets first)
        (take t.max x.rest)) x.mid (ap (λ w. w.fault) same ∙ e) x.fault new x.lost ∙ same

pub sends_keep : (bytes : List ℕ) (pipe : PipeState) (old : World)
    (result : Result (Unit {0}) PipeFault) (left : PipeState) (new : World)
    → Sends bytes pipe old result left new → KeepsAddresses old new
sends_keep bytes pipe old result left new x = split pipe.condition refl
  where
    some : pipe.condition ≢ condition.Broken → (b : List ℕ) → bytes ≡ b → KeepsAddresses old new
    some whole [] e = same_keeps old new (x.nothing whole e).world_kept
    some whole (b ∷ more) e =
        let sent : _ = x.moved whole (λ h. absurd (cc (e, h))) in
        call_keeps _ 0 old new result sent.ends
        (λ f. send_leaves (packet_target pipe.target pipe.max) pipe.ep pipe.toggle bytes old new f
        result sent.went)
        (none_sent (packet_target pipe.target pipe.max) pipe.ep pipe.toggle bytes old new result
        sent.went)

    split : (c : Condition) → pipe.condition ≡ c → KeepsAddresses old new
    split condition.Broken e = same_keeps old new (x.broken e).world_kept
    split c e = some (λ h. absurd (cc (e, h))) bytes refl

-- Packets to the host: INs of another endpoint than 0

module _ (t : Target) (ep : ℕ) (far : ep ≢ 0) (first : Toggle) where
  fetches_leave : (f : AddressMap) (toggle : Toggle) (old : World)
      (answer : Result (List ℕ) TransFault) (new : World) → Fetches t ep toggle old answer new
      → MapHolds f old → LeavesTrans (MapHolds f) answer new
  fetches_leave f toggle = far_transacted f (in_attempt t ep)
      (into (record { kind = refl; payload = refl }) (unequal ep 0 far)) (heard_as toggle)

  came_owned : (f : AddressMap) {old : World} {n : ℕ} {got : List ℕ} {new : World}
      → Came t ep first old n got new → MapHolds f old → MapHolds f new
  came_owned f moves.start o = o
  came_owned f {new} (moves.packet {n} {got} {mid} bytes before came full) o =
      fetches_leave f (flips n first) mid (Ok bytes) new came (came_owned f before o)

  none_came : (g : BusFault) {old : World} {n : ℕ} {got : List ℕ} {new : World} → old.fault ≡ Some g
      → Came t ep first old n got new → new ≡ old
  none_came g e moves.start = refl
  none_came g e (moves.packet bytes before came full) =
      let same : _ = none_came g e before in
      absurd (cc (ap (λ w. w.fault) same ∙ e, trail_sound came.trail))

  module _ (wanted : ℕ) (old new : World) where
    lost_leaves : (f : AddressMap) (why : PipeFault) → NotCame t ep first wanted old why new
        ⊎ NoRoomLeft t ep first wanted old why new → MapHolds f old
        → LeavesPipe {A = Unit {0}} (MapHolds f) (Err why) new
    lost_leaves f why (inl x) o =
        of_fault (MapHolds f) (MapHolds f) new (λ h. h) x.fault why x.told
        (fetches_leave f (flips x.packets first) x.mid (Err x.fault) new x.lost
        (came_owned f x.before o))
    lost_leaves f why (inr x) o =
        subst (λ y. LeavesPipe {A = Unit {0}} (MapHolds f) (Err y) new) (sym x.told)
        (fetches_leave f (flips x.packets first) x.mid (Ok x.last) new x.came
        (came_owned f x.before o))

    receive_leaves : (f : AddressMap) (result : Result (Vec ℕ) PipeFault)
        → ReceiveEnds t ep first wanted old result new → MapHolds f old
        → LeavesPipe (MapHolds f) result new
    receive_leaves f (Ok bytes) x o = fetches_leave f (flips x.packets first) x.mid (Ok x.last) new
        x.came (came_owned f x.before o)
    receive_leaves f (Err why) x o = other_call (Unit {0}) (Vec ℕ) (MapHolds f) why new
        (lost_leaves f why x o)

    none_received : (result : Result (Vec ℕ) PipeFault)
        → ReceiveEnds t ep first wanted old result new → (g : BusFault) → old.fault ≡ Some g
        → new ≡ old
    none_received (Ok bytes) x g e =
        let same : x.mid ≡ old = none_came g e x.before in
        absurd (cc (ap (λ w. w.fault) same ∙ e, trail_sound x.came.trail))
    none_received (Err why) (inl x) g e =
        let same : x.mid ≡ old = none_came g e x.before in
        none_transacted g (heard_as (flips x.packets first)) (in_attempt t ep) x.mid
        (ap (λ w. w.fault) same ∙ e) x.fault new x.lost ∙ same
    none_received (Err why) (inr x) g e =
        let same : x.mid ≡ old = none_came g e x.before in
        absurd (cc (ap (λ w. w.fault) same ∙ e, trail_sound x.came.trail))

pub receives_keep : (wanted : ℕ) (pipe : PipeState) → pipe.ep ≢ 0
    → (old : World) (result : Result (Vec ℕ) PipeFault) (left : PipeState) (new : World)
    → Receives wanted pipe old result left new → KeepsAddresses old new
receives_keep wanted pipe far old result left new x = split pipe.condition refl
  where
    some : pipe.condition ≢ condition.Broken → (n : ℕ) → wanted ≡ n → KeepsAddresses old new
    some whole zero e = same_keeps old new (x.nothing whole e).2
    some whole (suc n) e =
        let received : _ = x.moved whole (λ h. absurd (cc (e, h))) in
        call_keeps 0 0 old new result (some_worked
        (λ bytes. packets_of (length bytes.items) pipe.max wanted) 0 old new result
        received.ends)
        (λ f. receive_leaves (packet_target pipe.target pipe.max) pipe.ep far pipe.toggle wanted old
        new f result received.came)
        (none_received (packet_target pipe.target pipe.max) pipe.ep far pipe.toggle wanted old new
        result received.came)

    split : (c : Condition) → pipe.condition ≡ c → KeepsAddresses old new
    split condition.Broken e = same_keeps old new (x.broken e).2
    split c e = some (λ h. absurd (cc (e, h))) wanted refl

-- The clear of a halt: a request that neither resets a port nor gives an address

module _ (endpoint : ℕ) where
  clear_other : Is (clear_endpoint_halt endpoint) DEVICE_OUT SET_ADDRESS ≡ false
  unfolding clear_endpoint_halt
  clear_other = refl

pub clears_keep : (is_sent : Bool) (pipe : PipeState) (old : World)
    (result : Result (Unit {0}) PipeFault) (left : PipeState) (new : World)
    → Clears is_sent pipe old result left new → KeepsAddresses old new
clears_keep is_sent pipe old result left new x = split is_sent refl
  where
    asked : Cleared pipe old result left new → KeepsAddresses old new
    asked y =
        let endpoint : ℕ = halt_address pipe.ep pipe.is_in in
        write_keeps pipe.target (clear_endpoint_halt endpoint)
        (same_setup (clear_endpoint_halt endpoint)) (harmless endpoint) (clear_other endpoint) 2
        1 old new result y.ends y.stages

    split : (b : Bool) → is_sent ≡ b → KeepsAddresses old new
    split true e = asked (x.sent e)
    split false e = same_keeps old new (x.ready e).world_kept
