mod Streams
mod EndWrappers
