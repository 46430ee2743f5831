pub mod Zeroes
