pub mod Register
pub mod RoundTrip
pub mod OneToOne
pub mod FieldBytes
pub mod ByBits
pub mod OneVerdict
pub mod Examples
pub mod Tables
