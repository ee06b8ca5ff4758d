-- What was left to do pays for what is done.
pub mod Backlogs
pub mod HubPayments
pub mod Payments
pub mod PortPayments
pub mod RoundPayments
