pub mod ShapeLaws
pub mod SkipLaws
pub mod TransferLaws
pub mod WritesLaws
