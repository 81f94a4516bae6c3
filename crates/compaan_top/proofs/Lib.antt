pub mod Calls
pub mod CertVerdict
pub mod TextFronts
pub mod Endings
pub mod Facts
pub mod OwnStatuses
pub mod Statuses
pub mod SourceBytes
pub mod NoLimit
pub mod Acceptance
mod CertificateAnswers
mod TellsSources
