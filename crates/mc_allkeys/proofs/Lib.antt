pub mod CellLemmas
pub mod PlaceLemmas
pub mod EntryLemmas
pub mod SoundLemmas
pub mod CutLemmas
pub mod ListedLemmas
pub mod ReadLemmas
pub mod RangeLemmas
pub mod StepLemmas
pub mod RangesLemmas
pub mod PutLemmas
pub mod PieceLemmas
pub mod FrontLemmas
pub mod LevelLemmas
pub mod LongestLemmas
mod StandardFacts
