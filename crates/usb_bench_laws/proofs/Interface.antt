-- The lemmas that crates above cite. All others are for this crate alone.
pub use Rattle.usb_bench_laws.proofs.Following.{all_too, from_start, one_more, one_more_comes}
pub use Rattle.usb_bench_laws.proofs.Later.{IsOf, of_opening, of_step}
