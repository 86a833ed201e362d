mod Tallies
mod Once
mod Owned
mod Again
mod Unchanged
mod Some
mod Resumed
