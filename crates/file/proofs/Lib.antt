pub mod Criterion
pub mod Opening
pub mod Rows
pub mod Caps
