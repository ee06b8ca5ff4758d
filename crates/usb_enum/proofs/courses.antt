-- What a course of steps keeps.
pub mod Courses
pub mod Fairness
pub mod Losses
