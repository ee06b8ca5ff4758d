use Rattle.std.proofs.Common.{refl}
use Rattle.usb_far.specs.{CauseOf, played_of}
use Rattle.usb_far.proofs.Lines.{asked_served, row_stopped, told_served}
use Rattle.usb_far.proofs.far_end.FarEnd.serve_next.Goals as goal

pub returns-in-Ok-Told : goal.returns-in-Ok-Told
returns-in-Ok-Told g c =
    told_served _ _ c.in-Ok-Told.field-0 c.in-Ok-Told.field-0-0 c.in-Ok-Told.field-0-is
    c.in-Ok-Told.ensures refl

pub returns-in-Ok : goal.returns-in-Ok
returns-in-Ok g c =
    asked_served _ _ (played_of c.next_line.new.self) c.in-Ok-Asked.field-0 c.in-Ok-Asked.question
    c.in-Ok-Asked.field-0-is c.in-Ok-Asked.ensures c.in-Ok.ensures

pub returns-in-Err-reply_all : goal.returns-in-Err-reply_all
returns-in-Err-reply_all g c =
    row_stopped _ _ (played_of c.next_line.new.self) c.in-Ok-Asked.field-0 c.in-Ok-Asked.question
    c.in-Err-reply_all.fault c.in-Ok-Asked.field-0-is c.in-Ok-Asked.ensures
    c.in-Err-reply_all.ensures

pub returns-in-Err : goal.returns-in-Err
returns-in-Err g c = CauseOf.misread c.in-Err.ensures refl
