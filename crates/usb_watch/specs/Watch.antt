-- What a failed write is, and what of a piece has gone out.
use Rattle.std.specs.Prelude.{◌≡◌, ℕ, Bool, true, false, ◌&&◌, ◌||◌, not, ◌==◌, List, [], ◌∷◌, ◌++◌}
use Rattle.std.specs.Prelude.{length}
use Rattle.std.specs.Prelude.{Result, Ok, Err, Option, None, Some, OnOk, OnErr}
use Rattle.std.specs.Io.KnownBytes.{Appends}
use Rattle.usb_watch.specs.declared.watched.Watched.{Watched}

-- the reader or writer that is watched
abbrev pub inner_of : {T : Type 0} → Watched T → T
inner_of w = w.inner

abbrev pub has_failed : {T : Type 0} → Watched T → Bool
has_failed w = w.failed

-- a write took bytes that no flush has followed which succeeded
abbrev pub has_pending : {T : Type 0} → Watched T → Bool
has_pending w = w.pending

abbrev pub calls_of : {T : Type 0} → Watched T → ℕ
calls_of w = w.calls

-- a write answered an error, or took nothing of a piece that is not empty
abbrev pub write_fails : {E : Type 0} → Result ℕ E → List ℕ → Bool
write_fails (Ok n) piece = (n == 0) && not (length piece == 0)
write_fails (Err e) piece = true

-- a write took some bytes
abbrev pub write_takes : {E : Type 0} → Result ℕ E → Bool
write_takes (Ok n) = not (n == 0)
write_takes (Err e) = false

-- known bytes grow by a front of the piece
pub record AppendsFront (old new : Option (List ℕ)) (piece : List ℕ) : Type 0 where
  pub gone : List ℕ
  pub rest : List ℕ
  pub split : piece ≡ gone ++ rest
  pub appended : Appends old new gone

abbrev pub is_some_text : List ℕ → Bool
is_some_text [] = false
is_some_text (c ∷ cs) = true

-- the same, and a flush is due if it was, or if that front is not empty
pub record PendsFront (was : Bool) (old : Option (List ℕ)) (is : Bool) (new : Option (List ℕ))
    (piece : List ℕ) : Type 0 where
  pub gone : List ℕ
  pub rest : List ℕ
  pub split : piece ≡ gone ++ rest
  pub appended : Appends old new gone
  pub pending : is ≡ (was || is_some_text gone)

-- the bytes that a watched writer has, where they are known
abbrev pub known_text : {W : Type 0} → (W → Option (List ℕ)) → Watched W → Option (List ℕ)
known_text contents w = contents (inner_of w)

-- a call put a text: all of it has gone out, or a front of it where that failed in the call
pub record PutsText {T A E : Type 0} (text : T → Option (List ℕ)) (failed : T → Bool) (old : T)
    (result : Result A E) (new : T) (put : List ℕ) : Type 0 where
  pub front : AppendsFront (text old) (text new) put
  pub ok : OnOk result (Appends (text old) (text new) put)
  pub unmarked : OnOk result (failed new ≡ failed old)
  pub marked : OnErr result (failed new ≡ true)
