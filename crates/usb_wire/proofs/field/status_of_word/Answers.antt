use Rattle.std.proofs.Common.{◌∙◌, sym, subst}
use Rattle.usb_wire.proofs.FieldLemmas.{Counted, counted-count_in, status-decoded, status-undecoded}
use Rattle.usb_wire.proofs.field.status_of_word.Goals as goal

pub returns-in-Ok : goal.returns-in-Ok
returns-in-Ok c =
    let counted : Counted c.args.word.now 4 =
    subst (Counted c.args.word.now) c.if-branch-ne4.false
    (counted-count_in c.args.word.now c.in_ok-count_in.field-0 (sym c.count_in.ensures
    ∙ c.in_ok-count_in.was)) in
    status-decoded c.args.word.now c.as_bytes.result.now c.in-Ok.status c.from_hex.result counted
    c.as_bytes.ensures.value c.from_hex.ensures c.in-Ok.is

pub returns-in-Err : goal.returns-in-Err
returns-in-Err c =
    let counted : Counted c.args.word.now 4 =
    subst (Counted c.args.word.now) c.if-branch-ne4.false
    (counted-count_in c.args.word.now c.in_ok-count_in.field-0 (sym c.count_in.ensures
    ∙ c.in_ok-count_in.was)) in
    absurd (status-undecoded c.args.word.now c.as_bytes.result.now c.from_hex.result
    c.in-Err.field-0 counted c.as_bytes.ensures.value c.from_hex.ensures c.in-Err.is)
