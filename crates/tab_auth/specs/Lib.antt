pub mod Digests
pub mod Signatures
pub mod Checks
pub mod SignedRequests
