-- The lemmas that crates above cite. All others are for this crate alone.
pub use Rattle.usb_port.proofs.OrderLaws.{is_below-extension, bound, is_path, parent, rejoined}
pub use Rattle.usb_port.proofs.OrderLaws.{rank_of-less}
pub use Rattle.usb_port.proofs.Paths.{length-path_text, number_text-below, number_text-from}
pub use Rattle.usb_port.proofs.Paths.{reads_back, some_if}
pub use Rattle.usb_port.proofs.PortCalls.{call_is, clear_no-reset}
pub use Rattle.usb_port.proofs.StatusLaws.{status_seen}
