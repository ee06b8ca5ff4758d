use Rattle.std.proofs.Common.{subst, ◌↔◌, IsTrue}
use Rattle.usb_port.specs.{IsFull}
use Rattle.usb_port.proofs.Marks.{none_unset}
use Rattle.usb_port.proofs.pool.AddressPool.is_full.Goals as goal

pub returns : goal.returns
returns c =
    let least = c.least_unset.ensures in
    subst (λ taken. IsTrue c.is_none.result ↔ IsFull taken) c.self.view_is
    (none_unset c.self.inside.taken c.least_unset.result c.is_none.result c.is_none.ensures
    least.some least.none)
