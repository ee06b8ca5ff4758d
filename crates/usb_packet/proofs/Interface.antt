-- The lemmas that crates above cite. All others are for this crate alone.
pub use Rattle.usb_packet.proofs.Rows.{flips_next, flips_none, next_size, nonzero}
pub use Rattle.usb_packet.proofs.SpellingLemmas.{carried}
pub use Rattle.usb_packet.proofs.TextLemmas.{encode_upper-append, encode_upper_byte}
