pub mod NumberLaws
pub mod TableLaws
