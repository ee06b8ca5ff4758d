pub mod RoutedAttempts
pub mod Routes
