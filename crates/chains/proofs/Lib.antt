pub mod Choices
pub mod Entries
pub mod Traces
pub mod Answering
