pub mod Answers
pub mod MetricText
pub mod Requests
