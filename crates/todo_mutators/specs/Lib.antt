-- What the mutators of the list mean: Todos has each, by its arguments and the map.
pub mod Todos
