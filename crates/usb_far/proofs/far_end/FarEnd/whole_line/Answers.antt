use Rattle.std.proofs.Common.{◌∙◌, ap, refl, subst, sym}
use Rattle.usb_far.specs.{HasNoQuestion, HasQuestion, is_told, phase_behind}
use Rattle.usb_far.proofs.Lines.{no_question_there, question_read, told_whole}
use Rattle.usb_far.proofs.far_end.FarEnd.whole_line.Goals as goal

pub returns-then-is_told : goal.returns-then-is_told
returns-then-is_told g c = λ before behind read on.
    let is = c.as_slice-bytes.ensures.value in
    told_whole _ _ c.args.line.items c.phase_behind-self.result c.requires.unbroken c.requires.short
    read on (ap (is_told c.args.self.now.phase) (sym is) ∙ sym c.is_told.ensures
    ∙ c.if-is_told.true)
    (c.phase_behind-self.ensures ∙ ap (phase_behind c.args.self.now.phase) is) refl

pub returns-in-Ok : goal.returns-in-Ok
returns-in-Ok g c = λ before behind read on. (
  question_read _ _ _ c.args.line.items c.in-Ok.question c.requires.unbroken read on
      (subst (λ l. HasQuestion c.args.self.now.phase l c.in-Ok.question)
      c.as_slice-bytes.ensures.value c.in-Ok.ensures.asked),
  refl,
)

pub returns-in-Err : goal.returns-in-Err
returns-in-Err g c = λ before behind read on.
    let is = c.as_slice-bytes.ensures.value in
    no_question_there _ _ c.args.line.items c.in-Err.fault
    (subst (λ l. HasNoQuestion c.args.self.now.phase l c.in-Err.fault) is c.in-Err.ensures.fault)
    c.requires.unbroken c.requires.short
    (ap (is_told c.args.self.now.phase) (sym is) ∙ sym c.is_told.ensures ∙ c.if-is_told.false)
    read on refl
