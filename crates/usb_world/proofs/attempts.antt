-- What attempts make, and what is refused in one.
pub mod Exchanges
pub mod Refusals
