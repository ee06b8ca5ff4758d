pub mod ways
