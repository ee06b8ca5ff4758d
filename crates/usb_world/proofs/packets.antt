-- What packets leave.
pub mod AwaitedAcks
pub mod MildPackets
pub mod Packets
