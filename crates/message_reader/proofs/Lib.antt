pub mod ReadsLaws
