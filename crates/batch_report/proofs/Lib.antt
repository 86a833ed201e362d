pub mod Answered
pub mod OneReport
pub mod SomeText
