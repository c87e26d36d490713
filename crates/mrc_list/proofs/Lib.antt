pub mod Counts
pub mod Known
pub mod Turns
pub mod Written
pub mod Main
