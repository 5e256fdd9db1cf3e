pub mod Contents
pub mod PlaceLemmas
pub mod LineLemmas
pub mod FieldLemmas
pub mod FirstFaultLemmas
pub mod FileOutcomeLemmas
