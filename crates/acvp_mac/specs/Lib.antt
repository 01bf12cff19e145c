pub mod Hash
pub mod Hmac
pub mod Codes
pub mod Conditions
pub mod Private
pub use Rattle.sha2.specs.Sha256
pub use Rattle.sha2.specs.Sha512
