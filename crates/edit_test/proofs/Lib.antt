pub mod Walking
pub mod Covering
pub mod Removing
