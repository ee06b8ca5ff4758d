-- What a control transfer leaves of addresses, whatever is lost.
use Rattle.std.proofs.Common.{◌≡◌, ℕ, ◌⊎◌, inl, inr, true, false, List, [], Option, Some, Result}
use Rattle.std.proofs.Common.{Ok, Err, refl, ap, sym, subst, take, ◌∙◌}
use Rattle.std.specs.Global.{Vec}
use Rattle.usb_packet.specs.{Toggle, One, flips}
use Rattle.usb_request.specs.{SET_ADDRESS, DEVICE_OUT, setup_of, bytes_of, Setup}
use Rattle.usb_device.specs.{outcome, Is}
use Rattle.usb_world.specs.{World, is_harmless, IsSetup, after_taking}
use Rattle.usb_transfer.specs.{Target, TransFault, Stalled as TransStalled, Bus as TransBus}
use Rattle.usb_transfer.specs.{heard_as, heard_when_sent, setup_attempt, in_attempt, out_attempt}
use Rattle.usb_transfer.specs.{PipeFault, as_pipe_fault, SetUp, Asks, Confirms, NoSetUp, Writes}
use Rattle.usb_transfer.specs.{Goes, DataStage, DataLost, Gave, NoRoom, Puts, PutsData, Reads}
use Rattle.usb_transfer.specs.Moves as moves
use Rattle.usb_transfer.specs.declared.fault.PipeFault.TheVariants.{Stalled}
use Rattle.usb_transfer.specs.Stages.{start, packet}
use Rattle.usb_hub.specs.{AllAim, TakesOnly, Never, LeavesTrans, LeavesPipe, MapHolds}
use Rattle.usb_hub.proofs.AddressRequests.{outcome_only}
use Rattle.usb_hub.proofs.AddressesTaken.{Taking, taking_transacted}
use Rattle.usb_hub.proofs.Trails.{IsData, into, out, data_transacted, set_up_transacted}
use Rattle.usb_hub.proofs.Trails.{SetUpLeaves}

-- a fault of a transaction as one of the pipe
abbrev pub FaultLeaves : (World → Type 0) → TransFault → World → Type 0
FaultLeaves P fault w = LeavesTrans {A = List ℕ} P (Err fault) w

pub of_fault : (P Q : World → Type 0) (w : World) → (P w → Q w)
    → (fault : TransFault) (why : PipeFault) → why ≡ as_pipe_fault fault → FaultLeaves P fault w
    → LeavesPipe {A = Unit {0}} Q (Err why) w
of_fault P Q w g (TransBus fault) why e h = subst (λ x. LeavesPipe {A = Unit {0}} Q (Err x) w)
    (sym e) h
of_fault P Q w g fault why e h = subst (λ x. LeavesPipe {A = Unit {0}} Q (Err x) w) (sym e) (g h)

-- The stages

is_in : (t : Target) → IsData (in_attempt t 0)
is_in t = into (record { kind = refl; payload = refl })

is_out : (t : Target) → IsData (out_attempt t 0 One [])
is_out t = out One [] (record { kind = refl; payload = refl })

abbrev pub Calm : (List ℕ → Option ℕ) → Target → World → Type 0
Calm f t w = MapHolds f w × AllAim Never t.addr w

pub asks_leaves : (f : List ℕ → Option ℕ) (t : Target) (toggle : Toggle) (old : World)
    (answer : Result (List ℕ) TransFault) (new : World) → Asks t toggle old answer new
    → Calm f t old → LeavesTrans (Calm f t) answer new
asks_leaves f t toggle old answer new e c =
    data_transacted f (in_attempt t 0) (is_in t) (heard_as toggle) old answer new e c.0 c.1

confirms_leaves : (f : List ℕ → Option ℕ) (t : Target) (old : World)
    (answer : Result (List ℕ) TransFault) (new : World) → Confirms t old answer new → Calm f t old
    → LeavesTrans (Calm f t) answer new
confirms_leaves f t old answer new e c = data_transacted f (out_attempt t 0 One []) (is_out t)
    heard_when_sent old answer new e c.0 c.1

goes_leaves : (f : List ℕ → Option ℕ) (t : Target) (wanted : ℕ) {old : World} {n : ℕ} {got : List ℕ}
    {new : World} → Goes t wanted old n got new → Calm f t old → Calm f t new
goes_leaves f t wanted start c = c
goes_leaves f t wanted {new} (packet {n} {got} {mid} bytes before came last) c =
    asks_leaves f t (flips n One) mid (Ok bytes) new came (goes_leaves f t wanted before c)

is_put : (t : Target) (toggle : Toggle) (bytes : List ℕ) → IsData (out_attempt t 0 toggle bytes)
is_put t toggle bytes = out toggle bytes (record { kind = refl; payload = refl })

put_leaves : (f : List ℕ → Option ℕ) (t : Target) (toggle : Toggle) (bytes : List ℕ) (old : World)
    (answer : Result (List ℕ) TransFault) (new : World) → Puts t 0 toggle bytes old answer new
    → Calm f t old → LeavesTrans (Calm f t) answer new
put_leaves f t toggle bytes old answer new e c = data_transacted f (out_attempt t 0 toggle bytes)
    (is_put t toggle bytes) heard_when_sent old answer new e c.0 c.1

gave_leaves : (f : List ℕ → Option ℕ) (t : Target) (first : Toggle) {old : World} {n : ℕ}
    {sent : List ℕ} {new : World} → Gave t 0 first old n sent new → Calm f t old → Calm f t new
gave_leaves f t first moves.start c = c
gave_leaves f t first {new = new}
    (moves.packet {n} {sent} {mid} bytes before full some fits went) c =
    put_leaves f t (flips n first) bytes mid (Ok []) new went (gave_leaves f t first before c)

module _ (f : List ℕ → Option ℕ) (t : Target) (request : Setup) (same : setup_of (bytes_of request)
    ≡ request) (harmless : is_harmless request ≡ true) where
  is_set_up : IsSetup (setup_attempt t (bytes_of request)) (bytes_of request)
  unfolding bytes_of
  is_set_up = record { kind = refl; ep = refl; payload = refl; whole = refl }

  set_up_leaves : (Q : ℕ → Type 0) → (Is request DEVICE_OUT SET_ADDRESS ≡ true → Q request.value)
      → (old : World) (answer : Result (List ℕ) TransFault) (new : World)
      → SetUp t request old answer new → MapHolds f old → SetUpLeaves f Q t.addr answer new
  set_up_leaves Q q old answer new e o =
      set_up_transacted f Q (setup_attempt t (bytes_of request)) (bytes_of request)
      (ap is_harmless same ∙ harmless) is_set_up
      (λ s. subst (λ r. TakesOnly Q (outcome s.spec s.registers r)) (sym same)
      (outcome_only Q s.spec s.registers request q)) old answer new e o

  unaddressed : (Q : ℕ → Type 0) (fault : TransFault) (w : World)
      → SetUpLeaves f Q t.addr (Err fault) w → FaultLeaves (MapHolds f) fault w
  unaddressed Q TransStalled w h = h
  unaddressed Q fault w h = h

  module _ (other : Is request DEVICE_OUT SET_ADDRESS ≡ false) where
    never : Is request DEVICE_OUT SET_ADDRESS ≡ true → ⊥
    never h = cc (other, h)

    calm_set_up : (old : World) (answer : Result (List ℕ) TransFault) (new : World)
        → SetUp t request old answer new → MapHolds f old → SetUpLeaves f Never t.addr answer new
    calm_set_up = set_up_leaves Never never

    no_set_up : (old : World) (why : PipeFault) (new : World) → NoSetUp t request old why new
        → MapHolds f old → LeavesPipe {A = Unit {0}} (MapHolds f) (Err why) new
    no_set_up old why new n o = of_fault (MapHolds f) (MapHolds f) new (λ x. x) n.fault why n.told
        (unaddressed Never n.fault new (calm_set_up old (Err n.fault) new n.set_up o))

    -- a request without data
    pub writes_leave : (old : World) (result : Result (Unit {0}) PipeFault) (new : World)
        → Writes t request old result new → MapHolds f old → LeavesPipe (MapHolds f) result new
    writes_leave old (Ok u) new x o =
        (asks_leaves f t One x.mid (Ok x.given) new x.status
        (calm_set_up old (Ok []) x.mid x.set_up o)).0
    writes_leave old (Err why) new (inl n) o = no_set_up old why new n o
    writes_leave old (Err why) new (inr n) o =
        of_fault (Calm f t) (MapHolds f) new (λ x. x.0) n.fault why n.told
        (asks_leaves f t One n.mid (Err n.fault) new n.status
        (calm_set_up old (Ok []) n.mid n.set_up o))

    -- a request with data to the device
    pub puts_leave : (bytes : List ℕ) (old : World) (result : Result (Unit {0}) PipeFault)
        (new : World) → PutsData t request bytes old result new → MapHolds f old
        → LeavesPipe (MapHolds f) result new
    puts_leave bytes old (Ok u) new x o =
        (asks_leaves f t One x.second (Ok x.given) new x.status (gave_leaves f t One
        x.data_stage.gone (calm_set_up old (Ok []) x.first x.set_up o))).0
    puts_leave bytes old (Err why) new (inl n) o = no_set_up old why new n o
    puts_leave bytes old (Err why) new (inr (inl n)) o =
        let d = n.data_stage in
        of_fault (Calm f t) (MapHolds f) new (λ x. x.0) d.fault why d.told
        (put_leaves f t (flips d.packets One) (take t.max d.rest) d.mid (Err d.fault) new d.lost
        (gave_leaves f t One d.before (calm_set_up old (Ok []) n.mid n.set_up o)))
    puts_leave bytes old (Err why) new (inr (inr n)) o =
        of_fault (Calm f t) (MapHolds f) new (λ x. x.0) n.fault why n.told
        (asks_leaves f t One n.second (Err n.fault) new n.status (gave_leaves f t One
        n.data_stage.gone (calm_set_up old (Ok []) n.first n.set_up o)))

    -- a request for data
    stage_leaves : (wanted : ℕ) (bytes : List ℕ) (old new : World)
        → DataStage t wanted old bytes new → Calm f t old → Calm f t new
    stage_leaves wanted bytes old new d c = asks_leaves f t (flips d.packets One) d.mid (Ok d.last)
        new d.came (goes_leaves f t wanted d.before c)

    data_leaves : (wanted : ℕ) (why : PipeFault) (old new : World) → DataLost t wanted old why new
        ⊎ NoRoom t wanted old why new → Calm f t old
        → LeavesPipe {A = Unit {0}} (MapHolds f) (Err why) new
    data_leaves wanted why old new (inl d) c =
        of_fault (Calm f t) (MapHolds f) new (λ x. x.0) d.fault why d.told
        (asks_leaves f t (flips d.packets One) d.mid (Err d.fault) new d.lost
        (goes_leaves f t wanted d.before c))
    data_leaves wanted why old new (inr d) c =
        subst (λ x. LeavesPipe {A = Unit {0}} (MapHolds f) (Err x) new) (sym d.told)
        (asks_leaves f t (flips d.packets One) d.mid (Ok d.last) new d.came
        (goes_leaves f t wanted d.before c)).0

    err_of : (why : PipeFault) (new : World) → LeavesPipe {A = Unit {0}} (MapHolds f) (Err why) new
        → LeavesPipe {A = Vec ℕ} (MapHolds f) (Err why) new
    err_of Stalled new h = h
    err_of why new h = h

    pub reads_leave : (old : World) (result : Result (Vec ℕ) PipeFault) (new : World)
        → Reads t request old result new → MapHolds f old → LeavesPipe (MapHolds f) result new
    reads_leave old (Ok bytes) new x o =
        (confirms_leaves f t x.second (Ok []) new x.status
        (stage_leaves request.length bytes.items x.first x.second x.data_stage
        (calm_set_up old (Ok []) x.first x.set_up o))).0
    reads_leave old (Err why) new (inl n) o = err_of why new (no_set_up old why new n o)
    reads_leave old (Err why) new (inr (inl n)) o =
        err_of why new (data_leaves request.length why n.mid new n.data_stage
        (calm_set_up old (Ok []) n.mid n.set_up o))
    reads_leave old (Err why) new (inr (inr n)) o =
        err_of why new (of_fault (Calm f t) (MapHolds f) new (λ x. x.0) n.fault why n.told
        (confirms_leaves f t n.second (Err n.fault) new n.status
        (stage_leaves request.length n.bytes n.first n.second n.data_stage
        (calm_set_up old (Ok []) n.first n.set_up o))))

  -- SET_ADDRESS

  module _ (p : List ℕ) (at : (q : List ℕ) → f q ≡ Some t.addr → q ≡ p) (free : (q r : List ℕ)
      → f q ≡ Some request.value → f r ≡ Some t.addr → ⊥) (differ : t.addr ≡ request.value
      → ⊥) where
    abbrev pub Gives : World → Type 0
    Gives w = MapHolds f w ⊎ MapHolds (after_taking f p request.value) w

    given : (w : World) → Taking f p request.value (in_attempt t 0)
        (record { kind = refl; payload = refl }) at free differ w → Gives w
    given w (inl x) = inl x.0
    given w (inr x) = inr x.0

    aimed : (old : World) (answer : Result (List ℕ) TransFault) (new : World)
        → SetUp t request old answer new → MapHolds f old
        → SetUpLeaves f (λ a. a ≡ request.value) t.addr answer new
    aimed old answer new e o = set_up_leaves (λ a. a ≡ request.value) (λ e. refl) old answer new e o

    status : (old : World) (answer : Result (List ℕ) TransFault) (new : World)
        → Asks t One old answer new → MapHolds f old × AllAim (λ a. a ≡ request.value) t.addr old
        → LeavesTrans (Taking f p request.value (in_attempt t 0)
        (record { kind = refl; payload = refl }) at free differ) answer new
    status old answer new e x = taking_transacted f p request.value (in_attempt t 0)
        (record { kind = refl; payload = refl }) at free differ (heard_as One) old answer new e
        (inl x)

    pub gives_address : (old : World) (result : Result (Unit {0}) PipeFault) (new : World)
        → Writes t request old result new → MapHolds f old → LeavesPipe Gives result new
    gives_address old (Ok u) new x o =
        given new (status x.mid (Ok x.given) new x.status (aimed old (Ok []) x.mid x.set_up o))
    gives_address old (Err why) new (inl n) o = of_fault (MapHolds f) Gives new (λ x. inl x) n.fault
        why n.told (unaddressed (λ a. a ≡ request.value) n.fault new
        (aimed old (Err n.fault) new n.set_up o))
    gives_address old (Err why) new (inr n) o =
        of_fault (Taking f p request.value (in_attempt t 0) (record { kind = refl; payload = refl })
        at free differ) Gives new (given new) n.fault why n.told
        (status n.mid (Err n.fault) new n.status (aimed old (Ok []) n.mid n.set_up o))
