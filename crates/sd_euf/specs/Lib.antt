pub mod Closed
pub mod Judged
pub mod Links
pub mod Table
