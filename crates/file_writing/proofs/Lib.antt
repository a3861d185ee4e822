pub mod Bytes
pub mod Parts
pub mod RoundTrip
pub mod PlanTrip
