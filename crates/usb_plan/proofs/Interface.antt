-- The lemmas that crates above cite. All others are for this crate alone.
pub use Rattle.usb_plan.proofs.Steps.{data_list_view}
