pub mod RoundTrip
pub mod HandBack
