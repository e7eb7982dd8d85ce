pub mod ChaChaDraws
pub mod ChaChaProof
pub mod Numbers
pub mod SourceProof
pub mod Sources
pub mod Taking
pub mod Views
