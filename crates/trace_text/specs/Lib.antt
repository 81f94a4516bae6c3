pub mod TraceText
