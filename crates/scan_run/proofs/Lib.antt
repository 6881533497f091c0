pub mod FeedLemmas
pub mod FilesLemmas
pub mod LoadLemmas
pub mod SeenLemmas
pub mod StatusLemmas
pub mod SendingLemmas
