-- The way to a place in a tree.
pub mod RoutedAttempts
pub mod Routes
pub mod Ways
