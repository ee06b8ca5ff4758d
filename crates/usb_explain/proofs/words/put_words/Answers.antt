use Rattle.std.proofs.Common.{List, subst}
use Rattle.usb_watch.specs.{PutsText, has_failed, known_text}
use Rattle.usb_explain.specs.{Said, row_text}
use Rattle.usb_explain.proofs.words.put_words.Goals as goal

pub returns : goal.returns
returns g c =
    subst (λ (row : List Said). PutsText (known_text g.W.Write.contents) has_failed
    c.args.writer.now c.put_row.result c.put_row.new.writer (row_text row c.args.setup.now))
    c.row_for.ensures c.put_row.ensures
