pub mod Distinct
pub mod Tiles
pub mod Main
