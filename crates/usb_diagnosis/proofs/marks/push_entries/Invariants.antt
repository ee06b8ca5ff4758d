use Rattle.std.proofs.Common.{◌≤◌, length}
use denote.Text.{Utf8}
use denote.Shadow.{shadow}
use Rattle.usb_diagnosis.proofs.marks.push_entries.Given as goal

-- what is left is text, and no longer than the value
abbrev pub invariant-steps : goal.invariant-steps
invariant-steps l = shadow (Utf8 l.rest) × (length l.rest ≤ length l.fn.value)
