pub mod courses
pub mod endings
pub mod items
pub mod ledgers
pub mod AskedCalls
pub mod Interface
