-- One OUT of endpoint 0: what the device that it is for answers, and what that leaves of its NAKs,
-- of its stage and of what it expects.
use Rattle.std.proofs.Common.{◌≡◌, ◌≢◌, inl, inr, ℕ, ◌+◌, ◌≤◌, nat_lt, if◌then◌else◌, Bool, true}
use Rattle.std.proofs.Common.{false, List, [], length, Option, Some, refl, sym, subst, ◌∙◌, arith}
use Rattle.std.proofs.Common.{◌⊎◌}
use Rattle.std.proofs.lemmas.Bool.Decides.{nat_tests}
use Rattle.usb_packet.specs.{Toggle, One}
use Rattle.usb_device.specs.{Answer, State, Reply, Stage, Write, WriteData, written_on, reading}
use Rattle.usb_device.specs.{read, writing, max_packet, forgotten, is_busy, nak_row, out_row}
use Rattle.usb_device.specs.{status_row, write_row, Way, heard, out_law, Wrong, TooLong, Repeat}
use Rattle.usb_device.specs.{Next, IsRead, OnlyStage, refused}
use Rattle.usb_device.specs.Attempt.{whole}
use Rattle.usb_world.specs.{Outcome, got}
use Rattle.usb_transfer.specs.{Lost, heard_when_sent, waits_with, Expects, data_write}
use Rattle.usb_transfer.specs.{refused_write, IsInRead, over}
use Rattle.usb_transfer.proofs.DeviceRuns.{not_busy, positive, OutcomeOfSpec}
use Rattle.usb_transfer.specs.TransactionLeaves.{data_stage as in_stage}
use Rattle.usb_world.specs.declared.types.Outcome.TheVariants.{Ack, Stall}
use Rattle.usb_device.specs.declared.answer.Answer.TheVariants as answer

-- OUT with data

-- silence, an ACK or a STALL
abbrev IsNoNak : Option Answer → Type 0
IsNoNak (Some answer.Nak) = ⊥
IsNoNak (Some (answer.Data u b)) = ⊥
IsNoNak a = Unit {0}

module _ (u : State) (toggle : Toggle) (bytes : List ℕ) where
  -- a device that is not busy answers so, and its NAKs are as they were
  abbrev NoNakReply : Reply → Type 0
  NoNakReply r = IsNoNak r.0 × (r.1.naks ≡ u.naks)

  no_nak_status : (t : Toggle) (b : List ℕ) → NoNakReply (status_row u t b)
  no_nak_status t b = grind arith

  no_nak_write : (w : Write) (x : WriteData) → NoNakReply (write_row u w bytes x)
  no_nak_write w x = grind arith

  no_nak_row : (g : Stage) → NoNakReply (out_row u g toggle bytes)
  no_nak_row g = grind (arith, no_nak_status, no_nak_write)

  abbrev pub row_of_busy : Bool → Reply
  row_of_busy busy = if busy then nak_row u else out_row u u.stage toggle bytes

  -- it has no more NAKs to give than before
  fewer_naks : (busy : Bool) → (row_of_busy busy).1.naks ≤ u.naks
  fewer_naks busy = grind (arith, no_nak_row)

  pub naks_left : (t1 t2 t3 : Way) → (out_law u 0 toggle bytes t1 t2 t3).1.naks ≤ u.naks
  naks_left t1 t2 t3 = grind (arith, fewer_naks)

  -- only one that is not silent is heard, and only one that is not always busy says more than NAK
  says_by : (max : ℕ) → u.spec.silent ≡ false → (t3 : Way) (busy : Bool) → is_busy u ≡ busy
      → OutcomeOfSpec u.spec (heard_when_sent (got max (heard t3 (row_of_busy busy).0)))
  says_by max loud t3 busy e = grind (arith, not_busy)

  pub law_says : (max : ℕ) → u.spec.silent ≡ false → (t1 t2 t3 : Way)
      → OutcomeOfSpec u.spec (heard_when_sent (got max (out_law u 0 toggle bytes t1 t2 t3).0))
  law_says max loud t1 t2 t3 = grind (arith, says_by)

  -- a wait is a NAK fewer
  no_wait : (max : ℕ) (t3 : Way) (a : Option Answer) → IsNoNak a → (n : ℕ)
      → waits_with (heard_when_sent (got max (heard t3 a))) n ≡ n
  no_wait max t3 a p n = grind arith

  fewer_waits : (max : ℕ) → u.spec.busy ≡ false → (t3 : Way) (busy : Bool) → is_busy u ≡ busy
      → (n : ℕ) → waits_with (heard_when_sent (got max (heard t3 (row_of_busy busy).0))) n
      + (row_of_busy busy).1.naks ≤ n + u.naks
  fewer_waits max calm t3 busy e n = grind (arith, no_nak_row, no_wait, positive)

  pub law_waits : (max : ℕ) → u.spec.busy ≡ false → (t1 t2 t3 : Way) (n : ℕ)
      → waits_with (heard_when_sent (got max (out_law u 0 toggle bytes t1 t2 t3).0)) n
      + (out_law u 0 toggle bytes t1 t2 t3).1.naks ≤ n + u.naks
  law_waits max calm t1 t2 t3 n = grind (arith, fewer_waits)

  -- it goes on expecting the packet
  expects_packet : (w : Write) → length bytes ≤ max_packet u.spec → u.stage ≡ writing w
      → (x : WriteData) → Expects bytes (forgotten (write_row u w bytes x).1)
  expects_packet w few e Next = data_write (written_on w bytes) refl few
  expects_packet w few e x = data_write w e few

  expects_row : Expects bytes u → Expects bytes (forgotten (out_row u u.stage toggle bytes).1)
  expects_row (data_write w e few) =
      subst (λ g. Expects bytes (forgotten (out_row u g toggle bytes).1)) (sym e)
      (expects_packet w few e _)
  expects_row (refused_write e) = grind arith

  expects_naks : Expects bytes u → Expects bytes (forgotten (nak_row u).1)
  expects_naks (data_write w e few) = data_write w e few
  expects_naks (refused_write e) = refused_write e

  expects_by : Expects bytes u → (busy : Bool) → Expects bytes (forgotten (row_of_busy busy).1)
  expects_by x true = expects_naks x
  expects_by x false = expects_row x

  pub expects_still : Expects bytes u → (t1 t2 t3 : Way)
      → Expects bytes (out_law u 0 toggle bytes t1 t2 t3).1
  expects_still x whole whole t3 = expects_by x (is_busy u)
  expects_still x t1 t2 t3 = x

  -- one that comes whole is answered
  fits_answered : (max : ℕ) (w : Write) (a b c : Bool) → heard_when_sent (got max
      (write_row u w bytes (if a then Wrong else if false then TooLong else if b then Repeat
      else if c then Wrong else Next)).0) ≢ Lost
  fits_answered max w a b c e = grind arith

  within_maximum : length bytes ≤ max_packet u.spec → nat_lt (max_packet u.spec) (length bytes)
      ≡ false
  within_maximum few = grind (arith, nat_tests, few)

  abbrev row_heard : ℕ → Stage → Type 0
  row_heard max g = heard_when_sent (got max (out_row u g toggle bytes).0) ≢ Lost

  answered_by : (max : ℕ) → Expects bytes u → (busy : Bool)
      → heard_when_sent (got max (row_of_busy busy).0) ≢ Lost
  answered_by max x busy = grind (arith, fits_answered, within_maximum)

  pub whole_heard : (max : ℕ) → Expects bytes u
      → heard_when_sent (got max (out_law u 0 toggle bytes whole whole whole).0) ≢ Lost
  whole_heard max x = answered_by max x (is_busy u)

-- OUT of no bytes with DATA1, which ends a control read

-- the stage stays, or a control read is over with it
abbrev pub StageMoves : State → State → Type 0
StageMoves s v = (v.stage ≡ s.stage) ⊎ (IsRead v × IsInRead s)

-- what an outcome says of the device that was so before the attempt and is so after it
abbrev pub SaysOut : State → Outcome → State → Type 0
SaysOut s Ack v = IsRead v × IsInRead s
SaysOut s Stall v = IsInRead s → ⊥
SaysOut s o v = Unit {0}

abbrev is_of_read : Stage → Bool
is_of_read (reading answer wanted known) = true
is_of_read read = true
is_of_read g = false

in_no_read : (g : Stage) (s : State) → s.stage ≡ g → is_of_read g ≡ false → IsInRead s → ⊥
in_no_read g s e f reads = grind arith

module _ (max : ℕ) (s : State) where
  abbrev EndsOut : Outcome → State → Type 0
  EndsOut o v = OnlyStage s v × StageMoves s v × SaysOut s o v

  ends_row : (g : Stage) → s.stage ≡ g
      → EndsOut (got max (out_row s g One []).0) (forgotten (out_row s g One []).1)
  ends_row refused e = grind (arith, in_no_read)
  ends_row (reading text wanted k) e =
      let h = in_stage text wanted k e in (refl, inr (refl, h), (refl, h))
  ends_row read e = grind arith
  ends_row (writing w) e = grind (arith, in_no_read)
  ends_row g e = (refl, inl refl, tt)

  ends_by : (busy : Bool) → EndsOut (got max (row_of_busy s One [] busy).0)
      (forgotten (row_of_busy s One [] busy).1)
  ends_by true = (refl, inl refl, tt)
  ends_by false = ends_row s.stage refl

  pub ends_law : (t1 t2 t3 : Way) → EndsOut (got max (out_law s 0 One [] t1 t2 t3).0)
      (out_law s 0 One [] t1 t2 t3).1
  ends_law whole whole whole = ends_by (is_busy s)
  ends_law whole whole t3 = let x = ends_by (is_busy s) in (x.0, x.1, tt)
  ends_law t1 t2 t3 = (refl, inl refl, tt)

  -- one that comes whole is answered
  pub ends_heard : IsInRead s → (busy : Bool)
      → heard_when_sent (got max (row_of_busy s One [] busy).0) ≢ Lost
  ends_heard h busy e = grind arith

-- one that stands where another stands is in a control read if the other is
as_other : (s u : State) → u.stage ≡ s.stage → IsInRead u → IsInRead s
as_other s u e (in_stage answer wanted known h) = in_stage answer wanted known (sym e ∙ h)
as_other s u e (over h) = over (sym e ∙ h)

was_in : (s u : State) → StageMoves s u → IsInRead u → IsInRead s
was_in s u (inl e) h = as_other s u e h
was_in s u (inr x) h = x.1

pub is_in_read-moves : (s u : State) → StageMoves s u → IsInRead s → IsInRead u
is_in_read-moves s u (inl e) h = as_other u s (sym e) h
is_in_read-moves s u (inr x) h = over x.0

pub moves_twice : (s u v : State) → StageMoves s u → StageMoves u v → StageMoves s v
moves_twice s u v m (inl e) = subst (λ g. (g ≡ s.stage) ⊎ ((g ≡ read) × IsInRead s)) (sym e) m
moves_twice s u v m (inr x) = inr (x.0, was_in s u m x.1)

pub says_from : (s u v : State) (o : Outcome) → StageMoves s u → SaysOut u o v → SaysOut s o v
says_from s u v Ack m x = (x.0, was_in s u m x.1)
says_from s u v Stall m x = λ h. x (is_in_read-moves s u m h)
says_from s u v o m x = tt
