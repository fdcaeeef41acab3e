pub mod Places
pub mod FitForms
pub mod TwoParts
pub mod Growing
pub mod FormMeaning
pub mod FormNodes
pub mod RowsHold
