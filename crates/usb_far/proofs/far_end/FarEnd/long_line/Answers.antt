use Rattle.std.proofs.Common.{◌∙◌, refl, sym, ap, Err}
use Rattle.usb_watch.specs.{pipe_of}
use Rattle.usb_far.specs.{is_told, phase_behind, played_of}
use Rattle.usb_far.proofs.Lines.{not_skipped, told_long, too_long}
use Rattle.usb_far.proofs.far_end.FarEnd.long_line.Goals as goal

pub returns-then-not-is_told : goal.returns-then-not-is_told
returns-then-not-is_told g c = λ before more one read on.
    too_long (played_of c.args.self.now) before (pipe_of g.R.Read.remaining c.args.reader.now)
    c.args.front.items more c.requires one read on
    (ap (is_told c.args.self.now.phase) (sym c.as_slice-bytes.ensures.value)
    ∙ sym c.is_told.ensures ∙ c.if-not-is_told.true)

pub returns-in-Ok : goal.returns-in-Ok
returns-in-Ok g c = λ before more one read on.
    let (rest, ended) = c.in-Ok.ensures.line in
    told_long _ _ (pipe_of g.R.Read.remaining c.args.reader.now) c.args.front.items rest more
    c.phase_behind-self.result c.requires one read ended.unbroken ended.read
    (c.in-Ok.ensures.unmarked (λ e. cc) ∙ on)
    (ap (is_told c.args.self.now.phase) (sym c.as_slice-bytes.ensures.value)
    ∙ sym c.is_told.ensures ∙ c.if-not-is_told.false)
    (c.phase_behind-self.ensures
    ∙ ap (phase_behind c.args.self.now.phase) c.as_slice-bytes.ensures.value) refl

pub returns-in-Err : goal.returns-in-Err
returns-in-Err g c = λ before more one read on.
    not_skipped (played_of c.args.self.now) before (pipe_of g.R.Read.remaining c.args.reader.now)
    (pipe_of g.R.Read.remaining c.skip_line.new.reader)
    c.args.front.items more c.in-Err.fault c.from.result c.from.ensures c.requires one read on
    (ap (is_told c.args.self.now.phase) (sym c.as_slice-bytes.ensures.value)
    ∙ sym c.is_told.ensures ∙ c.if-not-is_told.false) c.in-Err.ensures.line
    (λ same. c.in-Err.ensures.read (ap Err same))
    (λ other. c.in-Err.ensures.unmarked (λ e. other cc))
