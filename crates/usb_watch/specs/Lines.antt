-- The next line of a reader, where its bytes are known.
use Rattle.std.specs.Prelude.{◌≡◌, ◌≢◌, ◌⊎◌, ℕ, ◌-◌, ◌^◌, ◌≤◌, List, [], ◌∷◌, ◌++◌, length, All}
use Rattle.std.specs.Prelude.{Option, Some, None, Result, Ok, Err}
use Rattle.std.specs.Io.KnownBytes.{Consumes, IsAtEnd}
use Rattle.usb_watch.specs.declared.line.Line.{Line}
use Rattle.usb_watch.specs.declared.line.Line.TheVariants.{Whole, Long, Ended}
use Rattle.usb_watch.specs.declared.line.LineFault.{LineFault}
use Rattle.usb_watch.specs.declared.line.LineFault.TheVariants.{Read, Cut}

-- no newline is among them
abbrev pub IsUnbroken : List ℕ → Type 0
IsUnbroken bytes = All (λ c. c ≢ 10) bytes

-- bytes with no newline were read
pub record ReadFront (old new : Option (List ℕ)) : Type 0 where
  pub bytes : List ℕ
  pub unbroken : IsUnbroken bytes
  pub read : Consumes old new bytes

-- the same of at most 1,024 bytes
pub record ReadPart (old new : Option (List ℕ)) : Type 0 where
  pub bytes : List ℕ
  pub few : length bytes ≤ 1024
  pub unbroken : IsUnbroken bytes
  pub read : Consumes old new bytes

-- the same of some bytes, and the input ended
pub record ReadToEnd (old new : Option (List ℕ)) : Type 0 where
  pub bytes : List ℕ
  pub some : bytes ≢ []
  pub few : length bytes ≤ 1024
  pub unbroken : IsUnbroken bytes
  pub read : Consumes old new bytes
  pub ended : IsAtEnd new

-- a line was read, with its newline
pub record ReadLine (old new : Option (List ℕ)) (line : List ℕ) : Type 0 where
  pub unbroken : IsUnbroken line
  pub read : Consumes old new (line ++ 10 ∷ [])

-- 1,024 bytes of a line were read, and one more of it
pub record ReadLong (old new : Option (List ℕ)) (line : List ℕ) : Type 0 where
  pub full : length line ≡ 1024
  pub more : ℕ
  pub unbroken : IsUnbroken (line ++ more ∷ [])
  pub read : Consumes old new (line ++ more ∷ [])

-- the next line was read, or nothing was left; at a fault no whole line was read
abbrev pub IsNextLine : Option (List ℕ) → Option (List ℕ) → Result Line LineFault → Type 0
IsNextLine old new (Ok (Whole line)) = ReadLine old new line.items
IsNextLine old new (Ok (Long line)) = ReadLong old new line.items
IsNextLine old new (Ok Ended) = Consumes old new [] × IsAtEnd new
IsNextLine old new (Err Read) = ReadPart old new
IsNextLine old new (Err Cut) = ReadToEnd old new

-- the input ended before the newline, or it stands behind more bytes than are counted
pub record ReadNoEnd (old new : Option (List ℕ)) : Type 0 where
  pub bytes : List ℕ
  pub unbroken : IsUnbroken bytes
  pub read : Consumes old new bytes
  pub ended : IsAtEnd new ⊎ (length bytes ≡ 2 ^ 64 - 1)

-- the rest of a line was read, with its newline
abbrev pub EndsLine : Option (List ℕ) → Option (List ℕ) → Result (Unit {0}) LineFault → Type 0
EndsLine old new (Ok done) = (rest : List ℕ) × ReadLine old new rest
EndsLine old new (Err Read) = ReadFront old new
EndsLine old new (Err Cut) = ReadNoEnd old new

-- of a private function: a byte was read, or the input ended
abbrev pub ReadsByte : Option (List ℕ) → Option (List ℕ) → Result (Option ℕ) LineFault → Type 0
ReadsByte old new (Ok (Some byte)) = Consumes old new (byte ∷ [])
ReadsByte old new (Ok None) = Consumes old new [] × IsAtEnd new
ReadsByte old new (Err fault) = Consumes old new []
