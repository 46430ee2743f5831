pub mod Laws
pub mod SlotLaws
pub mod KeptLaws
