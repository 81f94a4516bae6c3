pub mod PortLemmas
pub mod TokenLemmas
pub mod EventSteps
pub mod LogLemmas
