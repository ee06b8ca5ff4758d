use Rattle.std.proofs.Common.{rules, ◌∙◌}
use Rattle.std.proofs.lemmas.Iterator.{YieldsList-from_slice}
use Rattle.std.proofs.lemmas.Iterator.Consumers.{YieldsList-from_filter, count_from_yields_List}
use Rattle.std.proofs.lemmas.List.Sums.{length-filter}
use Rattle.usb_plan.specs.{is_look}
use Rattle.usb_plan.proofs.attempts.looks_in.Goals as goal

pub returns-clause-value : goal.returns-clause-value
returns-clause-value c =
    count_from_yields_List _ _ c.count.ensures.ran
    (YieldsList-from_filter _ is_look (YieldsList-from_slice c.args.events.now cc)
    c.filter.ensures.closure (λ x b q k. search rules)) ∙ length-filter is_look c.args.events.now
