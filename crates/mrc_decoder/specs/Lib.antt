pub mod Form
pub mod Decode
pub mod Table
pub mod Prefixes
