pub mod Text
pub mod Target
pub mod Printed
pub mod Operands
pub mod Line
pub mod Page
pub mod Example
