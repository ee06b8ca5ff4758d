-- How a call of a bus ends that writes a text.
use Rattle.std.specs.Prelude.{ℕ, Bool, true, false, List, Option, None, Some, Result, Ok, Err}
use Rattle.std.specs.Io.KnownBytes.{Appends}
use Rattle.usb_watch.specs.{AppendsFront}
use Rattle.usb_world.specs.{BusFault, Limit, Memory, Failed}

-- all of the text has gone out, or a front of it where the writer failed
abbrev pub WritesText : {A : Type 0} → Result A BusFault → Option (List ℕ) → Option (List ℕ)
    → List ℕ → Type 0
WritesText (Ok x) old new text = Appends old new text
WritesText (Err Limit) old new text = Appends old new text
WritesText (Err Memory) old new text = Appends old new text
WritesText (Err Failed) old new text = AppendsFront old new text

-- the fault tells that the writer failed
abbrev pub tells_failure : Option BusFault → Bool
tells_failure None = false
tells_failure (Some Limit) = false
tells_failure (Some Memory) = false
tells_failure (Some Failed) = true
