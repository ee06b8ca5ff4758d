use Rattle.usb_transfer.proofs.BulkTransactions.{as_read, between_in, sink_between}
use Rattle.usb_transfer.proofs.SourcePolls.{as_poll}
use Rattle.usb_transfer.proofs.transaction_laws.what_is_so_between_bulk_attempts.Goals as goal

pub returns : goal.returns
returns c = record {
  into = λ t ep awaited. between_in t ep awaited (as_read awaited);
  polled = λ t ep awaited. between_in t ep awaited (as_poll awaited);
  out = sink_between;
}
