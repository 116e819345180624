pub mod Walking
pub mod Sorting
pub mod Leading
pub mod Gathering
