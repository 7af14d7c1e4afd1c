mod Blaming
mod Leading
mod Starting
