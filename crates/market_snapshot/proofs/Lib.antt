mod FieldForms
mod Laid
pub mod OneMarket
mod OneParts
mod ReadThere
mod ConsistentFits
mod Ticks
mod Viewing
mod Walking
mod WorkedRows
mod Written
pub mod Sizing
