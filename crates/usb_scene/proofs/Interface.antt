-- The lemma that crates above cite.
pub use Rattle.usb_scene.proofs.Names.{bytes_eq-sym}
