pub mod Rows
pub mod Divisors
pub mod RowOps
pub mod Forms
