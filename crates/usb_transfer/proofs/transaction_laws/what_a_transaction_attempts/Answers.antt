use Rattle.usb_transfer.proofs.Trails.{only_course, polled_attempts, transacted_attempts}
use Rattle.usb_transfer.proofs.transaction_laws.what_a_transaction_attempts.Goals as goal

pub returns : goal.returns
returns c = record { trail = only_course; whole = transacted_attempts; polled = polled_attempts }
