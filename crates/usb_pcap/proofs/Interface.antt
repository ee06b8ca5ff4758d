-- The lemmas that crates above cite. All others are for this crate alone.
pub use Rattle.usb_pcap.proofs.Captures.{next_number-next, no_items, read_none, some_items}
