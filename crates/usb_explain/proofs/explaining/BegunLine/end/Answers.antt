use Rattle.std.proofs.Common.{sym, ◌∙◌}
use Rattle.usb_explain.proofs.Lines.{ends_begun, ends_whole}
use Rattle.usb_explain.proofs.explaining.BegunLine.end.Goals as goal

pub returns-then-is_empty-clause-explains : goal.returns-then-is_empty-clause-explains
returns-then-is_empty-clause-explains c =
    λ only w now text h. ends_whole only w now text _
    (sym c.is_empty.ensures ∙ c.if-is_empty.true) h

pub returns-else-is_empty-clause-explains : goal.returns-else-is_empty-clause-explains
returns-else-is_empty-clause-explains c =
    λ only w now text h. ends_begun only w now text _
    (sym c.is_empty.ensures ∙ c.if-is_empty.false) h
