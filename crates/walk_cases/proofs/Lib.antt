pub mod SessionCases
pub mod CallCases
pub mod StateCases
pub mod Question7Cases
pub mod SessionEnds
pub mod QuestionOrder
