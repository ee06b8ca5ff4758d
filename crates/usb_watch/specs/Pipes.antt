-- What is seen of a reader or a writer, and what lines do to a writer.
use Rattle.std.specs.Prelude.{◌≡◌, ℕ, ◌||◌, Bool, true, false, List, ◌++◌, Option, Result, Ok, Err}
use Rattle.std.specs.Io.KnownBytes.{Appends, Consumes}
use Rattle.usb_watch.specs.Watch.{has_failed, has_pending, inner_of, is_some_text}
use Rattle.usb_watch.specs.declared.watched.Watched.{Watched}

-- the bytes that a reader has left, or that a writer has, where they are known, and whether it
-- failed
pub record Pipe : Type 0 where
  pub bytes : Option (List ℕ)
  pub failed : Bool

abbrev pub pipe_of : {X : Type 0} → (X → Option (List ℕ)) → Watched X → Pipe
pipe_of bytes_of w = record { bytes = bytes_of (inner_of w); failed = has_failed w }

-- these bytes were read, and the reader did not fail
pub record Reads (old : Pipe) (bytes : List ℕ) (new : Pipe) : Type 0 where
  pub read : Consumes old.bytes new.bytes bytes
  pub unmarked : new.failed ≡ old.failed

-- the same of a writer, and whether a flush is due
pub record OutPipe : Type 0 where
  pub bytes : Option (List ℕ)
  pub failed : Bool
  pub pending : Bool

abbrev pub out_pipe_of : {W : Type 0} → (W → Option (List ℕ)) → Watched W → OutPipe
out_pipe_of contents w = record {
  bytes = contents (inner_of w);
  failed = has_failed w;
  pending = has_pending w;
}

-- lines were written, and then flushed, with all that stood before them
pub record Flushes (old : OutPipe) (lines : List ℕ) (new : OutPipe) : Type 0 where
  pub written : Appends old.bytes new.bytes lines
  pub unmarked : new.failed ≡ old.failed
  pub flushed : new.pending ≡ false

-- a write failed, and a front of the lines has gone out; or all of them, and the flush failed
pub record FailsToFlush (old : OutPipe) (lines : List ℕ) (new : OutPipe) : Type 0 where
  pub gone : List ℕ
  pub rest : List ℕ
  pub split : lines ≡ gone ++ rest
  pub written : Appends old.bytes new.bytes gone
  pub marked : new.failed ≡ true
  pub pending : new.pending ≡ (old.pending || is_some_text gone)

abbrev pub PutsLines : {A E : Type 0} → OutPipe → List ℕ → Result A E → OutPipe → Type 0
PutsLines old lines (Ok done) new = Flushes old lines new
PutsLines old lines (Err fault) new = FailsToFlush old lines new
