pub mod PutLaws
pub mod SpelledLaws
