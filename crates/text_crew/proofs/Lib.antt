pub mod Laid
pub mod Answers
pub mod Canonical
pub mod Cut
pub mod Taken
pub mod Conditions
