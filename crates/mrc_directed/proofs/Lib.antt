pub mod Either
pub mod GroupF6
pub mod Order
pub mod Main
