mod Escaping
mod Padding
mod Separating
