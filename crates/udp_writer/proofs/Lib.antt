pub mod DatagramLaws
pub mod WritesLaws
