pub mod NumberLemmas
pub mod CommandLemmas
pub mod OddLines
pub mod PlainWords
pub mod PlainJobs
