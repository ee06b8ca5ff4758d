use Rattle.std.proofs.Common.{not, ap, sym, subst, ◌∙◌}
use Rattle.std.specs.FinSet.{contains}
use Rattle.usb_port.specs.{HasAddresses}
use Rattle.usb_port.proofs.Marks.{contains_marked, has_addresses}
use Rattle.usb_port.proofs.pool.AddressPool.is_free.Goals as goal

pub returns-clause-free : goal.returns-clause-free
returns-clause-free c =
    let marks = c.self.inside.taken in
    let number = c.address.inside.number in
    ap not (
    sym (contains_marked marks number)
    ∙ ap (λ pool. contains pool number) c.self.view_is
    ∙ ap (contains c.args.self.now) c.address.view_is
    )

pub returns-clause-range : goal.returns-clause-range
returns-clause-range c = subst HasAddresses c.self.view_is
    (has_addresses c.self.inside.taken c.self.told c.self.invariant.1)
