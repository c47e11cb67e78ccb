pub mod CommentLemmas
pub mod FaultLemmas
pub mod PlaceLemmas
pub mod StepLemmas
