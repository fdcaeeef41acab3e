pub mod Atoms
pub mod CubeTerms
pub mod Required
pub mod Needed
pub mod CubeRows
pub mod OpenCube
pub mod Spent
pub mod Laws
