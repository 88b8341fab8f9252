mod Steps
mod Merging
mod Lawful
