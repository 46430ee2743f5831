pub mod Body
pub mod EndingPass
