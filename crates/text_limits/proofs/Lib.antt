pub mod CountLaws
pub mod LimitPass
pub mod Steps
