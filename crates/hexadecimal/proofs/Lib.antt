pub mod More
pub mod Back
