-- The lemmas that crates above cite. All others are for this crate alone.
pub use Rattle.usb_watch.proofs.Fronts.{appends_front, front_after, front_after_first, puts_no_text}
pub use Rattle.usb_watch.proofs.Fronts.{puts_unknown}
