pub mod AnswerLaws
pub mod FromQuestion6
