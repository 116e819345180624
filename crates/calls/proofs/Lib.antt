pub mod Telling
pub mod Making
pub mod Entering
