pub mod Lacking
pub mod Walking
pub mod Differing
