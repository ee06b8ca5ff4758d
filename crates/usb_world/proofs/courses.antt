-- What a course of steps keeps.
pub mod Counts
pub mod Courses
pub mod LiftedSteps
