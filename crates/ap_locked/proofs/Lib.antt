mod Among
mod Entering
mod Handled
mod Meeting
mod Powers
mod Signing
mod Whole
