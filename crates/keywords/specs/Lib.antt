pub mod Tables
pub mod Saying
pub mod Counting
