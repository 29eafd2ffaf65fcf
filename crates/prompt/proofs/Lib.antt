pub mod AnswerKinds
pub mod Cuts
pub mod Replays
pub mod SavedFile
pub mod Transcripts
