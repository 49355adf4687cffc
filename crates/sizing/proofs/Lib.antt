pub mod PlaceLaws
pub mod ReachLaws
pub mod SizeLaws
