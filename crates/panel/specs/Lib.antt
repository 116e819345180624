pub mod Results
pub mod Lists
