pub mod ForgottenPackets
pub mod Loans
