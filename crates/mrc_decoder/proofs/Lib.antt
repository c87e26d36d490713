pub mod Arms
pub mod ModRM
pub mod Steps
pub mod Wrapping
pub mod Reaching
pub mod Decoding
pub mod TableRule
pub mod Main
