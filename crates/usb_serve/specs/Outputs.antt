-- Text that goes out through a buffer.
use Rattle.std.specs.Prelude.{◌≡◌, ⊤, ℕ, List, ◌++◌, Option, None, Some, Bool}
use Rattle.std.specs.Io.KnownBytes.{append_known}
use Rattle.usb_watch.specs.{Watched, inner_of, has_failed}
use Rattle.usb_serve.specs.declared.output.Output.{Output}

-- where the bytes go out
abbrev pub output_writer : {W : Type 0} → Output W → Watched W
output_writer output = output.writer

-- the bytes that wait
abbrev pub buffered : {W : Type 0} → Output W → List ℕ
buffered output = output.waiting.items

-- the bytes that have gone out, and then those that wait, where they are known
abbrev pub held : {W : Type 0} → (W → Option (List ℕ)) → Output W → Option (List ℕ)
held contents output = append_known (contents (inner_of (output_writer output))) (buffered output)

-- a write or a flush of the writer has failed
abbrev pub has_ended : {W : Type 0} → Output W → Bool
has_ended output = has_failed (output_writer output)

-- of known bytes a prefix is left
abbrev pub LeavesFront : Option (List ℕ) → Option (List ℕ) → Type 0
LeavesFront None new = ⊤
LeavesFront (Some whole) None = ⊥
LeavesFront (Some whole) (Some front) = (rest : List ℕ) × (whole ≡ front ++ rest)
