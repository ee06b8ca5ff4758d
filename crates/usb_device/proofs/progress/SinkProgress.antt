-- An OUT endpoint besides endpoint 0, one attempt after another.
use Rattle.std.proofs.Common.{◌≡◌, ◌≤◌, ℕ, nat_lt, if◌then◌else◌, Bool, true, false, List}
use Rattle.std.proofs.Common.{◌++◌, length, None, Some, refl, ap, sym, subst, ◌∙◌, arith}
use Rattle.std.proofs.lemmas.Bool.Decides.{nat_tests}
use Rattle.usb_packet.specs.{Toggle, other, is_same}
use Rattle.usb_device.specs.declared.answer.Answer.TheVariants.{Ack, Nak, Stall}
use Rattle.usb_device.specs.{State, Reply, forgotten, no_out, taken_on, hesitated, out_end, out_max}
use Rattle.usb_device.specs.{out_halts, out_hesitates, sunk, sink_row, out_row, out_end_row}
use Rattle.usb_device.specs.{unless_busy, Way, heard, out_law, IsSink, OnlySink, SinkAt, level}
use Rattle.usb_device.specs.{ahead, SinkOn, Joined}
use Rattle.usb_device.specs.Attempt.{whole}
use Rattle.usb_device.proofs.RowsOfEnds.{at_same, at_other}
use Rattle.usb_device.proofs.progress.ChangesProgress.{other_toggle}
use Rattle.usb_device.proofs.progress.ControlProgress.{is_same-refl}

module _ (e most : ℕ) (bytes : List ℕ) (t : Toggle) (s : State) where
  -- the reply, as the host may hear it
  abbrev sent : Way → Reply → Reply
  sent t3 r = (heard t3 r.0, forgotten r.1)

  abbrev by_pace : Bool → Reply
  by_pace hesitates =
      if hesitates then (Some Nak, out_hesitates s e) else (Some Ack, sunk s e bytes)

  abbrev by_toggle : Bool → Bool → Reply
  by_toggle same hesitates = if same then by_pace hesitates else (Some Ack, s)

  abbrev by_length : Bool → Bool → Bool → Reply
  by_length long same hesitates = if long then (None, s) else by_toggle same hesitates

  abbrev by_halt : Bool → Bool → Bool → Bool → Reply
  by_halt halted long same hesitates =
      if halted then (Some Stall, s) else by_length long same hesitates

  sunk_end : out_end (sunk s e bytes) e ≡ taken_on (out_halts s e) bytes (out_end s e)
  sunk_end = at_same no_out e (taken_on (out_halts s e) bytes (out_end s e)) s.outs

  hesitates_end : out_end (out_hesitates s e) e
      ≡ record (out_end s e) { pace = hesitated (out_end s e).pace }
  hesitates_end =
      at_same no_out e (record (out_end s e) { pace = hesitated (out_end s e).pace }) s.outs

  pub sink_law_is : IsSink e most s → (t3 : Way) → out_law s e t bytes whole whole t3
      ≡ sent t3 (sink_row s e most t bytes)
  sink_law_is i t3 =
      ap (λ z. sent t3 (if z then unless_busy s (out_row s s.stage t bytes) else out_end_row s e
      (out_max s e) t bytes)) i.not_zero
      ∙ ap (λ o. sent t3 (out_end_row s e o t bytes)) i.endpoint

  -- it is acknowledged
  joined_on : (before : List ℕ) (r : State) → Joined e before bytes t r → (t3 : Way)
      → SinkOn e before bytes t (heard t3 (Some Ack)) (forgotten r)
  joined_on before r j whole = record { sink = j.sink; toggle = j.toggle }
  joined_on before r j t3 = ahead j.sink j.toggle

  -- it is not taken, and comes again
  nak_on : (before : List ℕ) (r : State) → SinkAt e before bytes t r → (t3 : Way)
      → SinkOn e before bytes t (heard t3 (Some Nak)) (forgotten r)
  nak_on before r (level g q) whole = level g q
  nak_on before r (ahead g q) whole = ahead g q
  nak_on before r (level g q) t3 = level g q
  nak_on before r (ahead g q) t3 = ahead g q

  pace_on : (before : List ℕ) → (out_end s e).sink ≡ before → (out_end s e).state.toggle ≡ t
      → (t3 : Way) (hesitates : Bool)
      → SinkOn e before bytes t (heard t3 (by_pace hesitates).0) (forgotten (by_pace hesitates).1)
  pace_on before g q t3 true = nak_on before (out_hesitates s e)
      (level (ap (λ x. x.sink) hesitates_end ∙ g) (ap (λ x. x.state.toggle) hesitates_end ∙ q))
      t3
  pace_on before g q t3 false = joined_on before (sunk s e bytes) (record {
    sink = ap (λ x. x.sink) sunk_end ∙ ap (λ b. b ++ bytes) g;
    toggle = ap (λ x. x.state.toggle) sunk_end ∙ ap other q;
  }) t3

  toggle_on : (before : List ℕ) → SinkAt e before bytes t s → (t3 : Way) (same hesitates : Bool)
      → is_same t (out_end s e).state.toggle ≡ same
      → SinkOn e before bytes t (heard t3 (by_toggle same hesitates).0)
      (forgotten (by_toggle same hesitates).1)
  toggle_on before (level g q) t3 true hesitates h = pace_on before g q t3 hesitates
  toggle_on before (level g q) t3 false hesitates h =
      absurd (grind (arith, h, ap (is_same t) q ∙ is_same-refl t))
  toggle_on before (ahead g q) t3 true hesitates h =
      absurd (grind (arith, h, ap (is_same t) q ∙ other_toggle t))
  toggle_on before (ahead g q) t3 false hesitates h =
      joined_on before s (record { sink = g; toggle = q }) t3

  -- what is left does not depend on what is remembered
  still_at : (before : List ℕ) → SinkAt e before bytes t s → SinkAt e before bytes t (forgotten s)
  still_at before (level g q) = level g q
  still_at before (ahead g q) = ahead g q

  halt_on : (before : List ℕ) → SinkAt e before bytes t s → length bytes ≤ most → (t3 : Way)
      → (halted long hesitates : Bool) → (out_end s e).state.halted ≡ halted
      → nat_lt most (length bytes) ≡ long
      → SinkOn e before bytes t
      (heard t3 (by_halt halted long (is_same t (out_end s e).state.toggle) hesitates).0)
      (forgotten (by_halt halted long (is_same t (out_end s e).state.toggle) hesitates).1)
  halt_on before at fits whole true long hesitates h l = (still_at before at, h)
  halt_on before at fits t3 true long hesitates h l = still_at before at
  halt_on before at fits t3 false true hesitates h l = absurd (grind (arith, nat_tests, fits, l))
  halt_on before at fits t3 false false hesitates h l =
      toggle_on before at t3 (is_same t (out_end s e).state.toggle) hesitates refl

  sink_here : (before : List ℕ) → IsSink e most s → length bytes ≤ most
      → SinkAt e before bytes t s → (t1 t2 t3 : Way)
      → SinkOn e before bytes t (out_law s e t bytes t1 t2 t3).0 (out_law s e t bytes t1 t2 t3).1
  sink_here before i fits at whole whole t3 =
      subst (λ (r : Reply). SinkOn e before bytes t r.0 r.1) (sym (sink_law_is i t3))
      (halt_on before at fits t3 (out_end s e).state.halted (nat_lt most (length bytes))
      (nat_lt 0 (out_end s e).pace.naks) refl refl)
  sink_here before i fits at t1 t2 t3 = at

  -- no other endpoint changes
  only_row : (halted long same hesitates : Bool)
      → OnlySink e s (forgotten (by_halt halted long same hesitates).1)
  only_row true long same hesitates = record { rest = refl; others = λ a h. refl }
  only_row false true same hesitates = record { rest = refl; others = λ a h. refl }
  only_row false false true true = record {
    rest = refl;
    others = λ a h. at_other no_out e a
        (record (out_end s e) { pace = hesitated (out_end s e).pace }) s.outs h;
  }
  only_row false false true false = record {
    rest = refl;
    others = λ a h. at_other no_out e a (taken_on (out_halts s e) bytes (out_end s e)) s.outs h;
  }
  only_row false false false hesitates = record { rest = refl; others = λ a h. refl }

  only_here : IsSink e most s → (t1 t2 t3 : Way) → OnlySink e s (out_law s e t bytes t1 t2 t3).1
  only_here i whole whole t3 =
      subst (λ (r : Reply). OnlySink e s r.1) (sym (sink_law_is i t3))
      (only_row (out_end s e).state.halted (nat_lt most (length bytes))
      (is_same t (out_end s e).state.toggle) (nat_lt 0 (out_end s e).pace.naks))
  only_here i t1 t2 t3 = record { rest = refl; others = λ a h. refl }

pub sink_on : (e most : ℕ) (before bytes : List ℕ) (t : Toggle) (s : State) → IsSink e most s
    → length bytes ≤ most → SinkAt e before bytes t s → (t1 t2 t3 : Way)
    → SinkOn e before bytes t (out_law s e t bytes t1 t2 t3).0 (out_law s e t bytes t1 t2 t3).1
sink_on e most before bytes t s i fits at t1 t2 t3 =
    sink_here e most bytes t s before i fits at t1 t2 t3

pub sink_only : (e most : ℕ) (bytes : List ℕ) (t : Toggle) (s : State) → IsSink e most s
    → (t1 t2 t3 : Way) → OnlySink e s (out_law s e t bytes t1 t2 t3).1
sink_only e most bytes t s i t1 t2 t3 = only_here e most bytes t s i t1 t2 t3

pub ruleset sinks = (sink_on, sink_only)
