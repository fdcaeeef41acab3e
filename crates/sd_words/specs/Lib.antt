pub mod Numbers
pub mod Commands
pub mod Words
pub mod Jobs
pub mod Laws
