-- What is listed.
pub mod OneListing
