use Rattle.std.proofs.Common.{ap, sym, ◌++◌, decimal, ◌%◌}
use Rattle.usb_watch.specs.{has_failed, known_text}
use Rattle.usb_explain.proofs.Pieces.{puts_after}
use Rattle.usb_explain.proofs.phrase.put_endpoint.Goals as goal

pub returns : goal.returns
returns g c =
    puts_after (known_text g.W.Write.contents) has_failed _ _ _ c.put_word.result _ _ _
    (ap (λ l. decimal (c.args.setup.now.index % 16) ++ l) (sym c.way_word.ensures))
    c.in_ok-put_number.ensures.ok c.in_ok-put_number.ensures.unmarked c.put_word.ensures
