use Rattle.std.proofs.Common.{false, replicate, refl}
use Rattle.usb_port.proofs.Marks.{none_marked, has_addresses}
use Rattle.usb_port.proofs.pool.AddressPool.new.Goals as goal

pub returns-clause-empty : goal.returns-clause-empty
returns-clause-empty c = none_marked 128

pub returns-clause-range : goal.returns-clause-range
returns-clause-range c = has_addresses (replicate 128 false) refl refl
