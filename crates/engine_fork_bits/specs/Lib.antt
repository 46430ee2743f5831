pub mod ForkBits
