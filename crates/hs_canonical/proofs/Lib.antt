mod Depending
mod Kept
mod Published
mod Opened
