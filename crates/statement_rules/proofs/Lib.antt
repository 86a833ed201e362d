pub mod Alike
pub mod Lists
pub mod OwnParts
pub mod Told
pub mod ViewLaws
mod WorkedRows
pub mod Texts
pub mod OwnRates
pub mod FromMarkets
mod CarriedTexts
