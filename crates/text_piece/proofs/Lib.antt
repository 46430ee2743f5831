pub mod Figures
pub mod Pieces
