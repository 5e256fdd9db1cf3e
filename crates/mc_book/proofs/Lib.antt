pub mod ToldLemmas
pub mod KeysLemmas
pub mod LoadLemmas
pub mod BookLemmas
