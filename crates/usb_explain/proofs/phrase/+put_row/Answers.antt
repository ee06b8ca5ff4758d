use Rattle.std.proofs.Common.{List, ap, map}
use Rattle.usb_watch.specs.{has_failed, known_text}
use Rattle.usb_explain.specs.{Phrase, row_text, said_of}
use Rattle.usb_explain.proofs.Pieces.{puts_after}
use Rattle.usb_explain.proofs.phrase.+put_row.Goals as goal

pub returns : goal.returns
returns g t c =
    puts_after (known_text g.W.Write.contents) has_failed _ _ _ c.put_row.result _ _ _
    (ap (λ (l : List Phrase). row_text (map said_of l) c.args.setup.now)
    c.in-Some.ensures.cases.0)
    c.in_ok-put_phrase.ensures.ok c.in_ok-put_phrase.ensures.unmarked c.put_row.ensures
