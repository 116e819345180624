pub mod Quality
