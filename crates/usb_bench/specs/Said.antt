-- What the judge writes to the trace, and why it says no more.
use Rattle.std.specs.Prelude.{◌≡◌, ℕ, List, [], ◌∷◌, ◌++◌, flat_map, Some, ⊤}
use Rattle.std.specs.Io.KnownBytes.{Appends}
use Rattle.usb_far.specs.{Played}
use Rattle.usb_far.specs.declared.fault.FarFault.TheVariants as far
use Rattle.usb_bench.specs.declared.fault.BenchFault.{BenchFault}
use Rattle.usb_bench.specs.declared.fault.BenchFault.TheVariants as fault

abbrev pub lines_text : List (List ℕ) → List ℕ
lines_text lines = flat_map (λ line. line ++ 10 ∷ []) lines

-- these lines went to the trace, and nothing else changed
pub record Says (old : Played) (lines : List (List ℕ)) (new : Played) : Type 0 where
  pub traced : Appends old.trace.bytes new.trace.bytes (lines_text lines)
  pub same : new.far ≡ old.far

-- memory was refused, or the bus has this fault: its trace failed
abbrev pub IsUnsaid : Played → BenchFault → Type 0
IsUnsaid new fault.Memory = ⊤
IsUnsaid new (fault.Far (far.Bus why)) = new.far.world.fault ≡ Some why
IsUnsaid new other = ⊥
