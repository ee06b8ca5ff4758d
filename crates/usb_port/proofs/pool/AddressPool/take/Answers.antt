use Rattle.std.proofs.Common.{true, subst, refl, ◌∙◌, arith, length-set, set, get_or-set_other}
use Rattle.std.proofs.Common.{false}
use Rattle.usb_port.specs.{HasAddresses, Takes, IsFull, addresses_marked}
use Rattle.usb_port.proofs.Marks.{marks_take, full, has_addresses}
use Rattle.usb_port.proofs.pool.AddressPool.take.Goals as goal

pub returns-clause-some : goal.returns-clause-some
returns-clause-some c =
    let marks = c.self.inside.taken in
    subst (λ old. Takes old c.in_ok-number.number
    (addresses_marked (set marks c.in_ok-number.number true))) c.self.view_is
    (marks_take marks c.in_ok-number.number c.self.told c.in_ok-number.ensures.some)

pub returns-clause-range : goal.returns-clause-range
returns-clause-range c =
    let marks = c.self.inside.taken in
    let number = c.in_ok-number.number in
    let least = c.in_ok-number.ensures.some.range.0 in
    has_addresses (set marks number true) (length-set marks number true ∙ c.self.told)
    (get_or-set_other marks number 0 true false (λ e. omega (arith, least, e)) ∙ c.self.invariant.1)

pub returns-in_err-number-clause-none : goal.returns-in_err-number-clause-none
returns-in_err-number-clause-none c =
    rw c.from_residual.ensures (
      subst IsFull c.self.view_is (full c.self.inside.taken c.in_err-number.ensures.none),
      refl,
    )

pub returns-in_err-number-clause-range : goal.returns-in_err-number-clause-range
returns-in_err-number-clause-range c =
    subst HasAddresses c.self.view_is (has_addresses c.self.inside.taken c.self.told
    c.self.invariant.1)
