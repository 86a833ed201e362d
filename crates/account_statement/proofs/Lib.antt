mod Agreeing
mod Carrying
mod Costs
mod Keeping
mod May
mod OwnRates
mod Settled
