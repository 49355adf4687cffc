pub mod ExpectingLaws
