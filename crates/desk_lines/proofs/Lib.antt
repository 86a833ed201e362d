mod Blanks
mod Asking
mod OneHearings
mod OneWishes
mod Wishing
