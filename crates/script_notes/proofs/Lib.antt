mod Hearing
mod Keeping
mod Turning
