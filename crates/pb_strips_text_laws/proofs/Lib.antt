mod Reading
mod ReadingFile
mod Named
mod Sound
mod Spoken
mod SpokenFile
mod Flat
mod FlatFits
mod FlatRoles
mod FlatFile
pub mod Readable
