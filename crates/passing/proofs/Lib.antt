pub mod NamesLaws
pub mod PassingLaws
