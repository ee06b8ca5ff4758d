use Rattle.usb_transfer.proofs.Attempts.{read_attempts, write_attempts, clear_attempts}
use Rattle.usb_transfer.proofs.laws.what_a_control_transfer_attempts.Goals as goal

pub returns : goal.returns
returns c = record { reads = read_attempts; writes = write_attempts; clears = clear_attempts }
