-- What an encoded type is, and what the contracts of `encoded` cite.
pub mod Encoding
pub mod Answer
pub mod Found
pub mod RoundTrip
pub mod Limits
pub mod Opening
