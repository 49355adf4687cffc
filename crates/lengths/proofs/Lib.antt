pub mod LengthsLaws
