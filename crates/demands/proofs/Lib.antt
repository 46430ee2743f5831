pub mod LayoutIsExact
pub mod Exported
pub mod Demands
pub mod Book
pub mod Division
pub mod ForkBits
pub mod Press
pub mod Windows
