pub mod Words
pub mod Parting
pub mod Spaced
