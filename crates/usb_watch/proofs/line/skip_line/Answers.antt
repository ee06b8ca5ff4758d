use Rattle.std.proofs.Common.{◌≡◌, ◌∙◌, ◌+◌, [], ◌∷◌, ◌++◌, ap, rules}
use Rattle.std.proofs.lemmas.List.{length_push}
use Rattle.std.proofs.KnownBytes.{Consumes-trans}
use Rattle.usb_watch.specs.{has_failed, inner_of}
use Rattle.usb_watch.proofs.LineLemmas.{unbroken_more}
use Rattle.usb_watch.proofs.line.skip_line.Goals as goal

pub bytes-preserved : goal.bytes-preserved
bytes-preserved g c =
    let (rest, one, read, many, same) = c.bytes.invariant in
    let unmarked : has_failed c.next_byte.new.reader ≡ has_failed c.bytes.reader =
    c.in-Ok-Some.ensures.unmarked in
    let more = rw c.in-Ok-Some.field-0-is at c.in-Ok-Some.ensures.byte in (
      rest ++ c.in-Ok-Some.field-0-0 ∷ [],
      unbroken_more rest c.in-Ok-Some.field-0-0 one (search rules),
      Consumes-trans (g.R.Read.remaining (inner_of c.args.reader.now))
          (g.R.Read.remaining (inner_of c.bytes.reader)) _ rest (c.in-Ok-Some.field-0-0 ∷ []) read
          more,
      length_push rest c.in-Ok-Some.field-0-0 ∙ ap (λ n. n + 1) many,
      unmarked ∙ same,
    )
