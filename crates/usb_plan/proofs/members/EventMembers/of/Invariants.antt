use Rattle.std.proofs.Common.{◌≡◌}
use Rattle.toml.specs.View.{members_view}
use Rattle.usb_plan.specs.{found}
use Rattle.usb_plan.proofs.EventWalks.{walked, no_values}
use Rattle.usb_plan.proofs.members.EventMembers.of.Given as goal

abbrev pub invariant-entries : goal.invariant-entries
invariant-entries l =
    goal.iterator-entries.can_next l.key-iterator × goal.iterator-entries.is_finite l.key-iterator
    × (walked (found l.members) (members_view l.key-iterator)
    ≡ walked no_values (members_view l.table.entries))
