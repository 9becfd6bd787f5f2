mod TrueRows
mod Selecting
mod Described
