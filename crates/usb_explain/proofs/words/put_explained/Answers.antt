use Rattle.std.proofs.Common.{refl}
use Rattle.usb_watch.specs.{has_failed, known_text}
use Rattle.usb_explain.specs.{words_behind}
use Rattle.usb_explain.proofs.Pieces.{puts_after, puts_cut}
use Rattle.usb_explain.proofs.words.put_explained.Goals as goal

pub returns-in_err-put_bytes : goal.returns-in_err-put_bytes
returns-in_err-put_bytes g c =
    puts_cut _ (known_text g.W.Write.contents) has_failed _ _ c.from_residual.result
    c.args.line.now (words_behind c.args.setup.now c.args.path.now)
    c.from_residual.ensures.1 c.in_err-put_bytes.ensures.front c.in_err-put_bytes.ensures.marked

pub returns : goal.returns
returns g c =
    puts_after (known_text g.W.Write.contents) has_failed _ _ _ c.put_behind.result _ _ _ refl
    c.in_ok-put_bytes.ensures.ok c.in_ok-put_bytes.ensures.unmarked c.put_behind.ensures
