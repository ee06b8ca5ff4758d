pub mod DrawingLaws
pub mod OneLines
pub mod Characters
pub mod NoLineFeeds
pub mod RuleLines
pub mod PluggedAt
