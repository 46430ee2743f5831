pub mod Looking
pub mod After
