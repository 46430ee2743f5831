pub mod Growing
pub mod Words
pub mod Fitting
pub mod Beginning
pub mod Turn
pub mod Promised
