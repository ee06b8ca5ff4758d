pub mod Route
pub use Route.{way_in}
