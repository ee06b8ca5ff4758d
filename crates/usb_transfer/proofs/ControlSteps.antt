-- The transactions of a control transfer: what each leaves of each device, and how they join.
use Rattle.std.proofs.Common.{◌≡◌, ℕ, ◌&&◌, if◌then◌else◌, Bool, true, false, List, refl}
use Rattle.std.proofs.Common.{subst, ◌∙◌, ◌≢◌, zero, suc, ◌%◌, ◌==◌, not, ap, arith, ◌<◌, ◌≤◌, []}
use Rattle.std.proofs.Common.{Result, Ok, Err}
use Rattle.std.proofs.lemmas.Bool.Decides.{nat_tests}
use Rattle.std.proofs.lemmas.Option.{same_Some}
use Rattle.usb_packet.specs.{Toggle, Zero, One, other, flips}
use Rattle.usb_request.specs.{bytes_of, setup_of, IsToHost, Setup}
use Rattle.usb_request.proofs.Interface.{length-bytes_of}
use Rattle.usb_device.specs.{OnlyControl, OnlyStage, State, toggle_at, Location}
use Rattle.usb_world.specs.{is_harmless, Relation, EachWas, Was, World, Attempt, IsSettled}
use Rattle.usb_transfer.specs.{NoThreeDamaged, SetupFailure, heard_as, SetupDone, is_at, Listens}
use Rattle.usb_transfer.specs.{CanAnswer, CanAccept, IsNotOfBus as TransNotOfBus, begins_no_stretch}
use Rattle.usb_transfer.specs.{LossesIn, LosesNone, EachSpared, TransactionDone, Transacted}
use Rattle.usb_transfer.specs.{in_attempt, TransFault, Target, as_pipe_fault, IsNoBusFault, SetUp}
use Rattle.usb_transfer.specs.{Asks, PipeFault, Puts, CanEnd}
use Rattle.usb_transfer.proofs.Trails.{trail_damages, trail_settled, trail_unshared}
use Rattle.usb_transfer.proofs.Trails.{transacted_unshared}
use Rattle.usb_transfer.proofs.ControlTransactions.{ControlInTold, control_in_told}
use Rattle.usb_transfer.proofs.ControlWrites.{ControlOutTold, control_out_told}
use Rattle.usb_transfer.proofs.SetupTransactions.{set_up_told, spared_joined, spared_wider}
use Rattle.usb_transfer.proofs.DeviceRuns.{at_from, listens_on, others_stay_then, was_then}
use Rattle.usb_transfer.proofs.AddressLosses.{in_losses, set_up_losses, out_losses, read_losses}
use Rattle.usb_transfer.proofs.TransactionFaults.{Fell, could_accept, could_answer, fell_same_fault}
use Rattle.usb_transfer.specs.declared.trans_fault.TransFault.TheVariants as trans
use Rattle.usb_transfer.specs.declared.fault.PipeFault.TheVariants as pipe_fault
use Rattle.usb_world.proofs.Interface.{each_wider}

-- What a transaction's answer says of its worlds

-- the fault is not of the bus: the transaction ended
pub ended_by : {hear : _} {a : Attempt} {old new : World} (result : Result (List ℕ) TransFault)
    → TransNotOfBus result → Transacted hear a old result new
    → TransactionDone hear a old result new
ended_by result sound x = grind arith

-- the fault of the bus is the transaction's just where it is the transfer's
pub sound_in : (A : Type 0) (fault : TransFault) → IsNoBusFault {A = A} (Err (as_pipe_fault fault))
    → TransNotOfBus {A = List ℕ} (Err fault)
sound_in A fault sound = grind arith

pub sound_told : (A : Type 0) (why : PipeFault) (fault : TransFault) → why ≡ as_pipe_fault fault
    → IsNoBusFault {A = A} (Err why) → TransNotOfBus {A = List ℕ} (Err fault)
sound_told A why fault told sound = grind (arith, sound_in)

pub transacted_ended : (A : Type 0) {hear : _} {a : Attempt} {old new : World} (why : PipeFault)
    (fault : TransFault) → why ≡ as_pipe_fault fault → IsNoBusFault {A = A} (Err why)
    → Transacted hear a old (Err fault) new → TransactionDone hear a old (Err fault) new
transacted_ended A why fault told sound x = grind (arith, ended_by, sound_told)

-- one that was refused ended
pub ended_stalled : {hear : _} {a : Attempt} {old new : World} (fault : TransFault)
    → Transacted hear a old (Err fault) new → Fell fault trans.Stalled
    → TransactionDone hear a old (Err fault) new
ended_stalled fault x e = grind (arith, ended_by)

pub ended_settled : {hear : _} {a : Attempt} {old new : World} {result : Result (List ℕ) TransFault}
    → TransactionDone hear a old result new → IsSettled old.roots → IsSettled new.roots
ended_settled x h = trail_settled x.trail h

pub ended_unshared : {hear : _} {a : Attempt} {old new : World}
    {result : Result (List ℕ) TransFault} → TransactionDone hear a old result new
    → new.shared ≡ false → old.shared ≡ false
ended_unshared x h = trail_unshared x.trail h

pub ended_damages : {hear : _} {a : Attempt} {old new : World} {result : Result (List ℕ) TransFault}
    → TransactionDone hear a old result new → new.damages ≡ old.damages
ended_damages x = trail_damages x.trail

pub never_three : (old new : World) → new.damages ≡ old.damages → NoThreeDamaged old
    → NoThreeDamaged new
never_three old new e three = grind arith

-- each branch of a choice
pub either_way : {A : Type 0} (P : A → Type 0) (b : Bool) (x y : A) → P x → P y
    → P (if b then x else y)
either_way P b x y h g = grind arith

-- What a transaction says of each device, with what it loses

-- another relation of the same device
also : {R : Relation} (S : Relation) {w : World} {j : Location} {v : State} (a : Was R w j v)
    → Was S w j v → S j a.before v
also S = grind (arith, same_Some)

-- an IN of endpoint 0; with DATA1 it may end a request without data
pub record ControlInAsked (t : Target) (awaited : Toggle) (result : Result (List ℕ) TransFault)
    (old new : World) (j : Location) (s v : State) : Type 0 where
  pub told : ControlInTold t awaited result old j s v
  pub kept : TransNotOfBus result → LosesNone t old new j s v
  pub losses : TransNotOfBus result → awaited ≡ One → LossesIn t result old new j s v

pub asked_leaves : (t : Target) (awaited : Toggle) (result : Result (List ℕ) TransFault)
    (old new : World) → Asks t awaited old result new → IsSettled old.roots → new.shared ≡ false
    → EachWas (ControlInAsked t awaited result old new) old new
asked_leaves t awaited result old new x settled single j v on there =
    let a : Was (ControlInTold t awaited result old) old j v = grind (arith, control_in_told) in
    was_then a (record {
      told = a.so;
      kept = λ sound. also (LosesNone t old new) a
          (read_losses t awaited result old new settled (ended_by result sound x) single j v on
          there);
      losses = λ sound one. also (LossesIn t result old new) a (in_losses t result old new settled
          (subst (λ b. TransactionDone (heard_as b) (in_attempt t 0) old result new) one
          (ended_by result sound x)) single j v on there);
    })

-- an OUT of endpoint 0
pub record ControlOutAsked (t : Target) (toggle : Toggle) (bytes : List ℕ)
    (result : Result (List ℕ) TransFault) (old new : World) (j : Location) (s v : State) : Type 0
  where
    pub told : ControlOutTold t toggle bytes result old j s v
    pub kept : TransNotOfBus result → new.losses ≡ old.losses

pub put_leaves : (t : Target) (toggle : Toggle) (bytes : List ℕ)
    (result : Result (List ℕ) TransFault) (old new : World) → Puts t 0 toggle bytes old result new
    → IsSettled old.roots → new.shared ≡ false
    → EachWas (ControlOutAsked t toggle bytes result old new) old new
put_leaves t toggle bytes result old new x settled single =
    each_wider _ _ (λ j s v y. record {
      told = y;
      kept = grind (arith, ended_by, out_losses);
    }) old new (control_out_told t toggle bytes result old new settled x single)

-- a SETUP
pub record Requested (t : Target) (request : Setup) (result : Result (List ℕ) TransFault)
    (old new : World) (j : Location) (s v : State) : Type 0 where
  pub done : SetupDone t (bytes_of request) result old new j s v
  pub why : NoThreeDamaged old → SetupFailure t result j s v
  pub kept : begins_no_stretch request ≡ true → TransNotOfBus result → new.losses ≡ old.losses

pub requested_leaves : (t : Target) (request : Setup) (result : Result (List ℕ) TransFault)
    (old new : World) → setup_of (bytes_of request) ≡ request → IsSettled old.roots
    → SetUp t request old result new → new.shared ≡ false
    → EachSpared t request (Requested t request result old new) old new
requested_leaves t request result old new same settled x single j v on there spared =
    let bytes : List ℕ = bytes_of request in
    let a = set_up_told t bytes result old new (length-bytes_of request) settled x single j v on
    there (grind arith) in
    was_then a (grind (arith, ended_by, set_up_losses))

-- A transfer so far

-- only a device at the target changes, and this is so of it
pub record Only (t : Target) (P : Relation) (j : Location) (s v : State) : Type 0 where
  pub others : is_at s t ≡ false → v ≡ s
  pub mine : is_at s t ≡ true → P j s v

pub record RequestReached (t : Target) (request : Setup) (P : Relation) (old now : World) : Type 0
  where
    pub settled : IsSettled now.roots
    pub damages : now.damages ≡ old.damages
    pub each : now.shared ≡ false → EachSpared t request (Only t P) old now

-- its SETUP
pub only_first : (t : Target) (request : Setup) (Q : Relation) {old new : World}
    (result : Result (List ℕ) TransFault) → setup_of (bytes_of request) ≡ request
    → IsSettled old.roots → SetUp t request old result new
    → ((j : Location) (s v : State) → is_at s t ≡ true → Requested t request result old new j s v
    → Q j s v) → new.shared ≡ false → EachSpared t request (Only t Q) old new
only_first t request Q {old} {new} result same settled x f single =
    spared_wider t request (Requested t request result old new) (Only t Q) (grind arith) old new
    (search requested_leaves)

pub reached_first : (t : Target) (request : Setup) (Q : Relation) {old now : World}
    → setup_of (bytes_of request) ≡ request → IsSettled old.roots → SetUp t request old (Ok []) now
    → ((j : Location) (s v : State) → is_at s t ≡ true → Requested t request (Ok []) old now j s v
    → Q j s v) → RequestReached t request Q old now
reached_first t request Q same settled x f = record {
  settled = ended_settled x settled;
  damages = ended_damages x;
  each = only_first t request Q (Ok []) same settled x f;
}

-- its last transaction
pub reached_last : {t : Target} {request : Setup} {P : Relation} (S Q : Relation) {old mid : World}
    (hear : _) (a : Attempt) (new : World) (result : Result (List ℕ) TransFault)
    → ((j : Location) (s v : State) → S j s v → is_at s t ≡ false → v ≡ s)
    → ((j : Location) (s u v : State) → is_at s t ≡ true → P j s u → S j u v → Q j s v)
    → RequestReached t request P old mid → Transacted hear a mid result new
    → (IsSettled mid.roots → new.shared ≡ false → EachWas S mid new) → new.shared ≡ false
    → EachSpared t request (Only t Q) old new
reached_last {t} {request} {P} S Q {old} {mid} hear a new result others f r x each single =
    spared_joined t request (Only t P) S (Only t Q) others
    (grind (arith, others_stay_then)) old mid new
    (r.each (grind (arith, transacted_unshared))) (each r.settled single)

-- one transaction more
pub reached_more : {t : Target} {request : Setup} {P : Relation} (S Q : Relation)
    {old mid new : World} {hear : _} {a : Attempt} (bytes : List ℕ)
    → ((j : Location) (s v : State) → S j s v → is_at s t ≡ false → v ≡ s)
    → ((j : Location) (s u v : State) → is_at s t ≡ true → P j s u → S j u v → Q j s v)
    → RequestReached t request P old mid → TransactionDone hear a mid (Ok bytes) new
    → (IsSettled mid.roots → new.shared ≡ false → EachWas S mid new)
    → RequestReached t request Q old new
reached_more S Q bytes others f r x each = record {
  settled = ended_settled x r.settled;
  damages = ended_damages x ∙ r.damages;
  each = λ single. reached_last S Q _ _ _ (Ok bytes) others f r x each single;
}

-- Why a transfer fails

-- the device is, after transactions of it, as it was when it was asked, as far as why it fails goes
pub record GoesOn (t : Target) (j : Location) (s u : State) : Type 0 where
  pub at : is_at s t ≡ true → is_at u t ≡ true
  pub spec : u.spec ≡ s.spec
  pub listens : Listens t j s → Listens t j u
  pub naks : u.naks ≤ s.spec.naks

pub goes_on : (t : Target) (j : Location) (s u : State) → u.spec ≡ s.spec
    → u.registers ≡ s.registers → u.naks ≤ s.spec.naks → GoesOn t j s u
goes_on t j s u spec same naks = grind (arith, at_from, listens_on)

-- how a device may end a transfer, and why that fails with one that suits it
pub record MayEnd {A : Type 0} (t : Target) (Suits : Type 0) (result : Result A PipeFault)
    (old : World) (j : Location) (s : State) : Type 0 where
  pub could : CanEnd s.spec result
  pub answered : Suits → NoThreeDamaged old → Listens t j s → result ≢ Err pipe_fault.NoAnswer
  pub waited : Suits → NoThreeDamaged old → Listens t j s → s.spec.busy ≡ false
      → s.spec.naks ≤ 200 → result ≢ Err pipe_fault.Busy

module _ {A : Type 0} {t : Target} {Suits : Type 0} {old : World} {j : Location} {s : State} where
  pub not_failed : {result : Result A PipeFault} → CanEnd s.spec result
      → result ≢ Err pipe_fault.NoAnswer → result ≢ Err pipe_fault.Busy
      → MayEnd t Suits result old j s
  not_failed could answered waited = grind arith

  module _ (why : PipeFault) (fault : TransFault) (told : why ≡ as_pipe_fault fault) where
    -- at its SETUP
    pub set_up_failed : {v : State} → CanAccept {A = List ℕ} s.spec (Err fault)
        → (NoThreeDamaged old → SetupFailure t (Err fault) j s v)
        → MayEnd {A = A} t Suits (Err why) old j s
    set_up_failed could fails = grind (arith, could_accept, fell_same_fault)

    -- at a transaction behind it, for which the device is ready
    pub last_failed : {u : State} (mid : World) (Ready : Type 0) → GoesOn t j s u
        → mid.damages ≡ old.damages → CanAnswer {A = List ℕ} u.spec (Err fault) → (Suits → Ready)
        → (NoThreeDamaged mid → Listens t j u → Ready → Fell fault trans.NoAnswer → ⊥)
        → (NoThreeDamaged mid → Listens t j u → Ready → u.spec.busy ≡ false → u.naks ≤ 200
        → Fell fault trans.Busy → ⊥)
        → MayEnd {A = A} t Suits (Err why) old j s
    last_failed mid Ready on undamaged could ready answered waited =
        grind (arith, could_answer, fell_same_fault, never_three)

-- One device

-- where the registers stay, only the stage changes
pub only_stage : (s v : State) → OnlyControl s v → v.registers ≡ s.registers → OnlyStage s v
only_stage s v f e = grind arith

-- Requests for data

pub request_type-other : (n type : ℕ) (b : Bool) → 128 ≤ n → type < 128 → (n == type && b) ≡ false
request_type-other n type b h g = grind (arith, nat_tests, h, g)

-- one resets no port, and clears no change of connection

pub host_harmless : (r : Setup) → IsToHost r → is_harmless r ≡ true
host_harmless r h = grind (arith, request_type-other)

pub host_stretch : (r : Setup) → IsToHost r → begins_no_stretch r ≡ true
host_stretch r h = grind (arith, request_type-other)

-- Toggles of a data stage

other-if : (b : Bool) → other (if b then One else Zero) ≡ (if not b then One else Zero)
other-if b = grind arith

not_even-suc : (k : ℕ) → not (k % 2 == 0) ≡ (suc k % 2 == 0)
not_even-suc k = grind (arith, nat_tests)

pub flips_at : (n : ℕ) → flips n One ≡ toggle_at n
unfolding flips
flips_at zero = refl
flips_at (suc n) = ap other (flips_at n) ∙ other-if (n % 2 == 0)
    ∙ ap (λ b. if b then One else Zero) (not_even-suc n)
