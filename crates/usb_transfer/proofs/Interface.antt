-- The lemmas that crates above cite. All others are for this crate alone.
pub use Rattle.usb_transfer.proofs.AddressLosses.{in_losses, other_losses, out_losses, read_losses}
pub use Rattle.usb_transfer.proofs.AddressLosses.{set_up_losses}
pub use Rattle.usb_transfer.proofs.BulkTransactions.{at_kept, sink_between, sink_kept, sink_leaves}
pub use Rattle.usb_transfer.proofs.BulkTransactions.{sink_over, sink_told, source_at_kept}
pub use Rattle.usb_transfer.proofs.BulkTransactions.{source_kept, source_told}
pub use Rattle.usb_transfer.proofs.Calls.{IsGiven, had_one, who_in, who_out, who_set_up, who_waits}
pub use Rattle.usb_transfer.proofs.ControlTransactions.{ControlInTold, control_in_told}
pub use Rattle.usb_transfer.proofs.ControlWrites.{ControlOutTold, control_out_told}
pub use Rattle.usb_transfer.proofs.DeviceRuns.{DeviceTold, at_from, had_address, listens_at}
pub use Rattle.usb_transfer.proofs.DeviceRuns.{listens_on, others_stay_then, told_leaves, told_why}
pub use Rattle.usb_transfer.proofs.DeviceRuns.{was_then}
pub use Rattle.usb_transfer.proofs.Polls.{changes_told}
pub use Rattle.usb_transfer.proofs.SetupTransactions.{set_up_told, spared_all, spared_joined}
pub use Rattle.usb_transfer.proofs.SetupTransactions.{spared_wider, spec_stays}
pub use Rattle.usb_transfer.proofs.SourcePolls.{source_poll_told}
pub use Rattle.usb_transfer.proofs.Trails.{polled_attempts, trail_course, trail_damages}
pub use Rattle.usb_transfer.proofs.Trails.{trail_settled, trail_unshared, transacted_unshared}
pub use Rattle.usb_transfer.proofs.Answerers.{who_polls, who_read_had, who_reads, who_receives}
pub use Rattle.usb_transfer.proofs.Answerers.{who_sends, who_writes}
pub use Rattle.usb_transfer.proofs.Attempts.{packet_attempts, poll_attempts, read_attempts}
pub use Rattle.usb_transfer.proofs.Attempts.{receive_attempts, send_attempts, write_attempts}
pub use Rattle.usb_transfer.proofs.Bounds.{bound_wide, few_packets}
pub use Rattle.usb_transfer.proofs.BulkCalls.{clear_by, poll_by, receive_by, send_by}
pub use Rattle.usb_transfer.proofs.BulkClears.{clear_of-in, asks_out, clear_leaves, clear_of}
pub use Rattle.usb_transfer.proofs.BulkClears.{given_registers, harmless, two_bytes_word}
pub use Rattle.usb_transfer.proofs.BulkTransfers.{receive_leaves, send_leaves}
pub use Rattle.usb_transfer.proofs.ControlSteps.{host_harmless, never_three, only_stage}
pub use Rattle.usb_transfer.proofs.ControlSteps.{transacted_ended}
pub use Rattle.usb_transfer.proofs.ControlTransfers.{first_stage-address, is_some_byte, read_leaves}
pub use Rattle.usb_transfer.proofs.ControlTransfers.{read_why, write_leaves, write_losses}
pub use Rattle.usb_transfer.proofs.ControlTransfers.{write_why}
pub use Rattle.usb_transfer.proofs.DataWrites.{put_attempts, who_puts}
pub use Rattle.usb_transfer.proofs.InterruptPolls.{poll_tells, polling_why}
pub use Rattle.usb_transfer.proofs.PacketPolls.{packet_leaves, packet_losses, packet_why}
pub use Rattle.usb_transfer.proofs.PacketPolls.{who_packets}
pub use Rattle.usb_transfer.proofs.Uses.{uses_as, uses_none, uses_then, uses_wider}
