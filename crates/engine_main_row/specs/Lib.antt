pub mod MainRoutine
