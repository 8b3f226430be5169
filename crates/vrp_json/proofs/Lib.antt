mod Documents
mod Entries
mod Meanings
mod ReadEntries
mod Steps
mod WrittenTold
