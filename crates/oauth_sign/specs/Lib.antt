pub mod BaseUri
pub mod Body
pub mod Feed
pub mod Hmac
pub mod Signature
