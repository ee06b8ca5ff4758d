pub mod KeptNumbers
pub mod News
