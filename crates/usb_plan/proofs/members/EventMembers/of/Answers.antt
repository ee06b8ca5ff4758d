use Rattle.std.proofs.Common.{◌≡◌, [], ap, sym, arith, ◌∙◌}
use Rattle.std.proofs.lemmas.Grind.{common_steps}
use Rattle.toml.specs.View.{members_view}
use Rattle.usb_plan.specs.{found}
use Rattle.usb_plan.proofs.EventWalks.{walked, walked_is}
use Rattle.usb_plan.proofs.members.EventMembers.of.Goals as goal

pub returns : goal.returns
returns c =
    let (can, finite, same) = c.entries.invariant in
    let none : c.entries.key-iterator ≡ [] = grind (arith, common_steps) in
    ap (λ es. walked (found c.entries.members) (members_view es)) (sym none)
    ∙ same ∙ walked_is c.args.table.now.entries c.iter-key-items.ensures.ordered
