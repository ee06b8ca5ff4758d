-- What a host that is judged is told, where its plan has no places.
use Rattle.std.specs.Prelude.{ℕ}
use Rattle.std.specs.Io.KnownBytes.{Appends, Consumes}
use Rattle.usb_far.specs.{AllReplied, Passed, Scene}

-- So many lines were read from the host, one after the other, and what went out are usb_far's
-- replies to them, as serve makes them. The trace has lines of the judge besides, so nothing is
-- said of it.
pub record RepliesAsFar (old : Scene) (count : ℕ) (new : Scene) : Type 0 where
  pub passed : Passed
  pub replies : AllReplied old.played.far count passed new.played.far
  pub read : Consumes old.reader.bytes new.reader.bytes passed.asked
  pub written : Appends old.writer.bytes new.writer.bytes passed.said
