pub mod Even
pub mod Directions
pub mod Active
pub mod Private
pub mod Sides
pub mod Laws
