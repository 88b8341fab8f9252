-- A tree as a map. Trees has all: the map that a tree spells (`tree_map`), how deep it is, how many of its chunks are
-- new, and which placed chunks it names.
pub mod Trees
-- What a put and an update make of a tree, and what a removal does.
pub mod Puts
pub mod Dels
