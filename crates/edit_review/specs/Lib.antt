pub mod Reviewing
