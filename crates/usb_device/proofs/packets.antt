-- What packets do to devices.
pub mod ForgottenPackets
pub mod Hearings
pub mod Loans
pub mod Packets
pub mod RowFrames
pub mod Rows
pub mod StoppedPackets
pub mod Strays
