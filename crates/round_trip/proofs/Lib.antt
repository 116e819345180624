pub mod RoundTrip
pub mod Handing
