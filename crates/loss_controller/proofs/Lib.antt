pub mod Summaries
pub mod LogarithmsTaken
mod Examples
