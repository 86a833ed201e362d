pub mod Encoding
mod StdBytes
mod Taken
