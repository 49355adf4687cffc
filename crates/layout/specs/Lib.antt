pub mod Field
pub mod Leaf
pub mod Multiple
pub mod Rule
pub mod Walk
