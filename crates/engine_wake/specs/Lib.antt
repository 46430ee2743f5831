pub mod Wakes
