-- What calls and requests leave of ports.
pub mod PortCalls
pub mod PortRequests
pub mod RestingPorts
pub mod SanePorts
