pub mod Table
pub mod Settled
pub mod Sweep
