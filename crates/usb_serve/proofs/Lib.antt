pub mod LineFaults
pub mod Outputs
pub mod ServedItems
pub mod ServedThrough
pub mod Refused
pub mod WrittenEnough
pub mod Interface
