pub mod Plans
pub mod Arrivals
pub mod Endings
pub mod OneLines
pub mod Followed
