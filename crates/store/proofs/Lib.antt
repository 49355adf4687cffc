pub mod OverLaws
pub mod StoreLaws
