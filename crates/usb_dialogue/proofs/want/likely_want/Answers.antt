use Rattle.std.proofs.Common.{◌∙◌, ap, get_or}
use Rattle.usb_dialogue.specs.{fields_in, want_by}
use Rattle.usb_dialogue.specs.declared.want.Fields.{Fields}
use Rattle.usb_dialogue.proofs.WantLaws.{fields_are, likely, path_looked}
use Rattle.usb_dialogue.proofs.want.likely_want.Goals as goal

pub returns-clause-only : goal.returns-clause-only
returns-clause-only c = λ want it.
    let h = c.args.head.now in
    let looked = path_looked h c.path_in-path.result c.path_in-path.ensures.some
    c.path_in-path.ensures.none in
    c.want_by.ensures.value
    ∙ ap (λ (f : Fields). want_by (get_or h 0 0) c.path_in-path.result f c.args.sent)
    c.fields_in.ensures
    ∙ likely h c.path_in-path.result (fields_in h) c.args.sent looked (fields_are h) want it.is
    it.begins it.ends
