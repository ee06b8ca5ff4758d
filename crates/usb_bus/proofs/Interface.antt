-- The lemmas that crates above cite. All others are for this crate alone.
pub use Rattle.usb_bus.proofs.LiftedTraces.{OverFaults, over_traced}
pub use Rattle.usb_bus.proofs.Traces.{traced_cleared, traced_set, traced_then, went_none, went_then}
pub use Rattle.usb_bus.proofs.Traces.{went_wider}
