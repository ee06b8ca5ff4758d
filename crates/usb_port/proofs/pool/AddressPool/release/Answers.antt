use Rattle.std.proofs.Common.{false, subst, ◌∙◌, arith, length-set, set, get_or-set_other}
use Rattle.usb_port.specs.{Releases, addresses_marked}
use Rattle.usb_port.proofs.Marks.{releases, has_addresses}
use Rattle.usb_port.proofs.pool.AddressPool.release.Goals as goal

pub returns-clause-released : goal.returns-clause-released
returns-clause-released c =
    let marks = c.self.inside.taken in
    let number = c.address.inside.number in
    subst (λ a. Releases c.args.self.now a (addresses_marked (set marks number false)))
    c.address.view_is
    (subst (λ old. Releases old number (addresses_marked (set marks number false))) c.self.view_is
    (releases marks number c.self.told c.address.invariant))

pub returns-clause-range : goal.returns-clause-range
returns-clause-range c =
    let marks = c.self.inside.taken in
    let number = c.address.inside.number in
    let least = c.address.invariant.0 in
    has_addresses (set marks number false) (length-set marks number false ∙ c.self.told)
    (get_or-set_other marks number 0 false false (λ e. omega (arith, least, e))
    ∙ c.self.invariant.1)
