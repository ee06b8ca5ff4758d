use Rattle.std.proofs.Common.{◌∙◌, ap, subst}
use Rattle.usb_watch.specs.{PutsText, has_failed, known_text}
use Rattle.usb_page.specs.{escaped}
use Rattle.usb_page.proofs.PageTexts.{parts_joined}
use Rattle.usb_page.proofs.paging.put_page.Goals as goal

pub returns-clause-put : goal.returns-clause-put
returns-clause-put g c =
    subst (PutsText (known_text g.W.Write.contents) has_failed c.args.writer.now
    c.put_pieces.result c.put_pieces.new.writer)
    (parts_joined c.args.name.now c.args.text.now c.as_bytes-2.ensures.value
    (c.as_slice.ensures.value ∙ c.in_ok-name.ensures ∙ ap escaped c.as_bytes.ensures.value)
    c.as_bytes-3.ensures.value (c.as_slice-2.ensures.value ∙ c.in_ok-text.ensures)
    c.as_bytes-4.ensures.value)
    c.put_pieces.ensures
