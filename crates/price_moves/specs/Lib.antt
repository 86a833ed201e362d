pub mod Retracing
