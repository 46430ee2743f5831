pub mod TableLaws
pub mod PickLaws
