pub mod Loops
pub mod Reads
pub mod Step
