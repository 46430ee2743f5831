pub mod Instructions
