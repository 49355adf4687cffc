pub mod AllLaws
pub mod PutLaws
