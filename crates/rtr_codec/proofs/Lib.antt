pub mod Payloads
pub mod ReaderAnswers
pub mod ReadResponses
pub mod SpelledPdus
pub mod Spellings
pub mod StreamItems
pub mod Streams
