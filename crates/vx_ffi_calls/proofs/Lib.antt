mod Lines
mod Told
mod Refusals
