mod Searching
mod Walking
