use Rattle.usb_transfer.proofs.Attempts.{packet_attempts, poll_attempts, receive_attempts}
use Rattle.usb_transfer.proofs.Attempts.{send_attempts}
use Rattle.usb_transfer.proofs.laws.what_a_pipe_attempts.Goals as goal

pub returns : goal.returns
returns c = record {
  sends = send_attempts;
  receives = receive_attempts;
  polls = poll_attempts;
  packets = packet_attempts;
}
