pub mod Placing
pub mod Meeting
pub mod Seeing
pub mod Walking
pub mod Written
pub mod Users
