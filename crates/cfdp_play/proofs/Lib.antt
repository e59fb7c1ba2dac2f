mod Depths
mod Loads
