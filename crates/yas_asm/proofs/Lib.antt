pub mod Parts
pub mod CommentLemmas
pub mod UsedLemmas
pub mod LabelLemmas
pub mod SoundLemmas
pub mod PassLemmas
pub mod SoundGrammar
