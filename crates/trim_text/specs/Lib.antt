pub mod TrimText
