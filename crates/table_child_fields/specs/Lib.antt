pub mod Tables
pub mod Picking
