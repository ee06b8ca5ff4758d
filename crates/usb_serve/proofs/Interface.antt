-- The lemmas that crates above cite.
pub use Rattle.usb_run.proofs.Interface.{at_fault}
