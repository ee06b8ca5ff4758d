-- What a course of steps keeps.
pub mod DamagedLosses
pub mod KnowledgeKept
pub mod Ownership
pub mod RoundEnds
pub mod RunCourses
pub mod RunParts
