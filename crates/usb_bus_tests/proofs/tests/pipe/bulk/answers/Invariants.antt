use Rattle.std.proofs.Common.{◌≡◌, false, true}
use Rattle.usb_bus_tests.proofs.tests.pipe.bulk.answers.Given as goal

abbrev pub invariant-calls : goal.invariant-calls
invariant-calls g l = record { sink : l.sink.is_in ≡ false; source : l.source.is_in ≡ true }
