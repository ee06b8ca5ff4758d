-- The verdict on a device.
pub mod VerdictExamples
pub mod VerdictRows
