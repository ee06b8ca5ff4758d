-- The lemmas that crates above cite. All others are for this crate alone.
pub use Rattle.usb_check.proofs.BitLemmas.{bits_of_bytes-append, bits_of_bytes-inj, bits_of_word}
pub use Rattle.usb_check.proofs.BitLemmas.{differ_flipped, length-bits_of_bytes, length-low_bits}
pub use Rattle.usb_check.proofs.BitLemmas.{low_bits-add, low_bits-inj, low_bits-join, low_bits-mod}
pub use Rattle.usb_check.proofs.BitLemmas.{split_append}
pub use Rattle.usb_check.proofs.CheckLaws.{differ_append, differ_self}
pub use Rattle.usb_check.proofs.Division.{check_is_one}
pub use Rattle.usb_check.proofs.SumLemmas.{length-map_not, map_not-inj}
