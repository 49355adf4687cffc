pub mod Names
pub mod Passing
