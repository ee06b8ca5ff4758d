-- How far transfers are.
pub mod BulkProgress
pub mod ChangesProgress
pub mod ControlProgress
pub mod WriteProgress
pub mod SinkProgress
