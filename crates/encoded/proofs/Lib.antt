-- Laws that several proofs of `encoded` cite, what an answer tells, and the round trips.
pub mod Laws
pub mod Answers
pub mod Plain
pub mod Opening
pub mod RoundTrip
pub mod Finding
