pub mod Look
pub mod Figures
