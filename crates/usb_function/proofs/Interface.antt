-- The lemmas that crates above cite.
pub use Rattle.usb_function.proofs.places.HolderIndexes.{same_index}
pub use Rattle.usb_function.proofs.places.ReachedPlaces.{index_around, index_called}
pub use Rattle.usb_function.proofs.places.ReachedPlaces.{index_plugged}
