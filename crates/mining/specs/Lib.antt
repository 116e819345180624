pub mod Mining
