pub mod StatusLaws
pub mod AnswerLaws
pub mod WantLaws
pub mod HearingLaws
pub mod RowLaws
pub mod DriverLaws
