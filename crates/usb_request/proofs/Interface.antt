-- The lemmas that crates above cite. All others are for this crate alone.
pub use Rattle.usb_request.proofs.Addresses.{address_byte}
pub use Rattle.usb_request.proofs.Setups.{length-bytes_of, same_setup}
