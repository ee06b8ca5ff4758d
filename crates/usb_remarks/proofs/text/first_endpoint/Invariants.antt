use Rattle.std.proofs.Common.{◌-◌, length}
use Rattle.usb_remarks.proofs.Endpoints.{EndpointsLeft}
use Rattle.usb_remarks.proofs.text.first_endpoint.Given as goal

abbrev pub invariant-items : goal.invariant-items
invariant-items l = EndpointsLeft l.text l.at l.counts

abbrev pub decreases-items : goal.decreases-items
decreases-items l = length l.text - l.at
