-- A line of report is cut only where the writer failed.
use Rattle.std.proofs.Common.{◌≡◌, ◌≢◌, ◌∙◌, refl, sym, ap, inl, inr, List, ℕ, Option, None, Some}
use Rattle.std.proofs.Common.{◌⊎◌, Ok, Err, IsSome, is_some}
use Rattle.usb_world.specs.{BusFault, LineEnds, PutLine, World}
use Rattle.usb_world.specs.declared.types.BusFault.TheVariants as bus
use Rattle.usb_run.specs.{HostState}
use Rattle.usb_run.specs.{CutsText, IsCaused, run_fault}
use Rattle.usb_serve.specs.{LinesPut, report_fault}

-- where another fault is told of lines, none of them was written: the bus had told its fault before
-- the first one
line_kept : (fault : BusFault) (first h l : HostState) → PutLine h.world (Err fault) l.world
    → (IsSome h.world.fault → l ≡ h) → (h ≡ first) ⊎ (h.world.fault ≡ None)
    → fault ≢ bus.Failed → l ≡ first
line_kept fault first h l step again calm other = split h.world.fault refl
  where
    split : (x : Option BusFault) → h.world.fault ≡ x → l ≡ first
    split None e = absurd (other (step.told e))
    split (Some before) e = again (ap is_some e)
        ∙ elim calm [ inl same ↦ same | inr none ↦ absurd (cc (sym none ∙ e)) ]

pub lines_fail : (fault : BusFault) (text : List ℕ) (first h l : HostState)
    → IsCaused (run_fault fault) l.world → PutLine h.world (Err fault) l.world
    → (IsSome h.world.fault → l ≡ h) → (h ≡ first) ⊎ (h.world.fault ≡ None)
    → CutsText text first l → LinesPut text first (Err (report_fault fault)) l
lines_fail bus.Limit text first h l caused step again calm cuts =
    (caused, inr (λ e. cc e, line_kept bus.Limit first h l step again calm (λ e. cc e)))
lines_fail bus.Memory text first h l caused step again calm cuts =
    (tt, inr (λ e. cc e, line_kept bus.Memory first h l step again calm (λ e. cc e)))
lines_fail bus.Failed text first h l caused step again calm cuts = (caused, inl (refl, cuts))

pub line_calm : (first h l : HostState) → LineEnds h.world (Ok tt) l.world → (l ≡ first)
    ⊎ (l.world.fault ≡ None)
line_calm first h l (none, same) = inr (ap (λ (w : World). w.fault) same ∙ none)
