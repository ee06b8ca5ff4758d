-- How calls over a bus join.
use Rattle.std.proofs.Common.{◌≤◌, ◌+◌, ℕ, Bool, List, Option, arith}
use Rattle.usb_world.specs.{BusFault, World}
use Rattle.usb_bus.specs.{Steps}
use Rattle.usb_bus.proofs.Interface.{went_none, went_then, went_wider}
use Rattle.usb_transfer.specs.{UsesBus}

module _ {S : Type 0} {modelled : Bool} {spent ports : S → ℕ} {failed : S → Option BusFault} where
  -- what it tells, in other words
  pub uses_as : {Went : ℕ → S → S → Type 0} {n : ℕ} {Told To : Option BusFault → Type 0}
      {old new : S} → UsesBus modelled Went spent ports failed n Told old new
      → (Told (failed new) → To (failed new))
      → UsesBus modelled Went spent ports failed n To old new
  uses_as u so = grind arith

  module _ {world : S → World} {trace : S → Option (List ℕ)} where
    pub uses_none : {n : ℕ} {Told : Option BusFault → Type 0} {old : S} → Told (failed old)
        → UsesBus modelled (Steps world trace) spent ports failed n Told old old
    uses_none = grind (arith, went_none, went_wider)

    pub uses_wider : {m n : ℕ} {Told : Option BusFault → Type 0} {old new : S}
        → UsesBus modelled (Steps world trace) spent ports failed m Told old new → m ≤ n
        → UsesBus modelled (Steps world trace) spent ports failed n Told old new
    uses_wider = grind (arith, went_wider)

    pub uses_then : {m n : ℕ} {Told To : Option BusFault → Type 0} {old mid new : S}
        → UsesBus modelled (Steps world trace) spent ports failed m Told old mid
        → UsesBus modelled (Steps world trace) spent ports failed n To mid new
        → UsesBus modelled (Steps world trace) spent ports failed (m + n) To old new
    uses_then {m = m} {n = n} u v = record {
      spends = grind arith;
      told = v.told;
      steps = λ known. went_then m n (u.steps known) (v.steps known);
    }
