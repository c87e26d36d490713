pub mod Asked
pub mod Packing
pub mod Counts
pub mod SizeKept
pub mod Settled
pub mod Kept
pub mod Main
