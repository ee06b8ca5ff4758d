-- The kinds of entries that the host walks over.
use Rattle.std.specs.Prelude.{ℕ, List, Bool, Option, Some, None}
use Rattle.std.specs.declared.ops.Bound.{Bound}
use Rattle.std.specs.declared.ops.Bound.TheVariants.{Excluded, Unbounded}
use Rattle.usb_enum.specs.{Finding}
use Rattle.usb_table.specs.declared.kind.Kind.{Kind}
use Rattle.usb_table.specs.declared.kind.Kind.TheVariants.{Accepted, Hub, Waiting}
use Rattle.usb_table.specs.Findings.{is_accepted, is_hub, is_waiting}

abbrev pub fits : Kind → Finding → Bool
fits Accepted finding = is_accepted finding
fits Hub finding = is_hub finding
fits Waiting finding = is_waiting finding

-- where the paths after the last one begin, or all where there is none
abbrev pub start_after : Option (List ℕ) → Bound (List ℕ)
start_after None = Unbounded
start_after (Some last) = Excluded last
