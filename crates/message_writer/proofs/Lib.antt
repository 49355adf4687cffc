pub mod CaseLaws
pub mod WritesLaws
