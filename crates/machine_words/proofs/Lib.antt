pub mod Laws
pub mod DueLaws
pub mod DueOrder
pub mod TestLaws
