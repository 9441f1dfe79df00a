pub mod Records
pub mod Results
