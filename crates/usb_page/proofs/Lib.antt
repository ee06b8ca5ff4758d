pub mod Escaping
pub mod PageTexts
